-- What a mark is for the cutting.
use Rattle.std.specs.Prelude.{ℕ, Bool, ◌==◌, ◌||◌, not, if◌then◌else◌}
use Rattle.std.specs.List.{list_any}
use Rattle.rk_base.specs.Text.{Text}
use Rattle.sh_split.specs.declared.mark.Mark.{Mark}
use Rattle.sh_split.specs.declared.mark.Mark.TheVariants.{Literal, Quoted, Given, Quote, Break}
use Rattle.sh_split.specs.declared.mark.MarkKind.{MarkKind}
use Rattle.sh_split.specs.declared.mark.MarkKind.TheVariants as kinds

abbrev pub is_blank : ℕ → Bool
is_blank b = (b == 32) || (b == 9) || (b == 10)

abbrev pub contains : Text → ℕ → Bool
contains ifs b = list_any (λ c. c == b) ifs

-- a byte that an expansion gave
abbrev pub kind_of : Text → ℕ → MarkKind
kind_of ifs b = if not (contains ifs b) then kinds.Matter else (if is_blank b then kinds.White else kinds.Hard)

-- only bytes that an expansion gave, not quoted, can delimit fields
abbrev pub kind : Text → Mark → MarkKind
kind ifs (Literal b) = kinds.Matter
kind ifs (Quoted b) = kinds.Matter
kind ifs (Given b) = kind_of ifs b
kind ifs Quote = kinds.Matter
kind ifs Break = kinds.Break
