use Rattle.std.proofs.Common.{◌≡◌, ◌≤◌, ℕ, List, [], ◌∷◌, length, ap, arith, ◌∙◌}
use Rattle.std.proofs.Math.ListN.{get_or}
use Rattle.sh_token.specs.HereDocuments.{Awaited}
use Rattle.sh_token.specs.Lexemes.{bodies_look, body_look}
use Rattle.sh_lex.proofs.lexeme.bodies_look.Goals as goal

of_first : (ds : List Awaited) (d : Awaited) (text : List ℕ) → 1 ≤ length ds → d ≡ get_or ds 0 d → body_look d text ≡ bodies_look ds text
of_first [] d text h e = absurd (omega (arith, h))
of_first (x ∷ xs) d text h e = ap (λ it. body_look it text) e

pub returns-in-len1-up : goal.returns-in-len1-up
returns-in-len1-up c =
    c.body_look.ensures
    ∙ of_first c.left.result.now c.document-item.result c.args.text.now c.in-len1-up.len_at_least c.document-item.is
    ∙ ap (λ ds. bodies_look ds c.args.text.now) c.left.ensures
