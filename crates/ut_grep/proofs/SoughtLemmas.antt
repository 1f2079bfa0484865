-- Patterns as texts.
use Rattle.std.proofs.Common.{◌≡◌, List, [], ◌∷◌, map, refl, sym, ap, ◌∙◌}
use Rattle.std.specs.Prelude.{◌||◌}
use Rattle.std.specs.List.{list_any}
use Rattle.rk_base.specs.Text.{Text}
use Rattle.ut_grep.specs.declared.grep.Manner.{Manner}
use Rattle.ut_grep.specs.Chosen.{grep_of}
use Rattle.ut_grep.specs.Greps.{PatternValue, fixed, GrepValue, folded, holds, matches}
use Rattle.ut_grep.specs.Standing.{stands_any}

fixed-any : (g : GrepValue) (line : Text) (texts : List Text) → stands_any g.whole texts (folded g.folded line) ≡ list_any (holds g line) (map fixed texts)
fixed-any g line [] = refl
fixed-any g line (t ∷ ts) = ap (λ z. holds g line (fixed t) || z) (fixed-any g line ts)

pub sought-instead : (m : Manner) (patterns : List PatternValue) (texts : List Text) (line : Text) → patterns ≡ map fixed texts → stands_any m.whole texts (folded m.folded line) ≡ matches (grep_of m patterns) line
sought-instead m patterns texts line e =
    fixed-any (grep_of m patterns) line texts ∙ ap (list_any (holds (grep_of m patterns) line)) (sym e)
