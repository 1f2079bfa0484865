-- What a pipe holds.
use Rattle.std.proofs.Common.{◌≡◌, ◌+◌, ◌-◌, ◌++◌, length, refl, ◌∙◌, ap, arith}
use Rattle.std.specs.Prelude.{drop, replicate}
use Rattle.std.proofs.lemmas.List.{append-nil, drop_all, take_at}
use Rattle.rk_base.specs.Text.{Text, written}

-- what is written at the end of a text stands behind it
pub written_end : (text bytes : Text) → written text (length text) bytes ≡ text ++ bytes
unfolding written
written_end text bytes =
    ap (λ (front : Text). front ++ bytes ++ drop (length text + length bytes) text) (take_at text (replicate (length text - length text) 0) (length text) refl)
    ∙ ap (λ (behind : Text). text ++ bytes ++ behind) (drop_all (length text + length bytes) text (omega arith))
    ∙ append-nil (text ++ bytes)
