-- Texts that are lent.
use Rattle.std.specs.Prelude.{ℕ, List, map}
use Rattle.std.specs.Borrow.{Bor}
use Rattle.rk_base.specs.Text.{Text}

abbrev pub texts_of : List (Bor (List ℕ)) → List Text
texts_of keys = map (λ (key : Bor (List ℕ)). key.now) keys
