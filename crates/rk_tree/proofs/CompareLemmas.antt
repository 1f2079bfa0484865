-- Texts that begin alike.
use Rattle.std.proofs.Common.{◌≡◌, [], ◌∷◌, ◌++◌, take, drop, length, true, refl, sym, ap, ◌∙◌}
use Rattle.std.proofs.lemmas.List.{take-append-drop}
use Rattle.std.proofs.lemmas.Cmp.{tied_itself}
use Rattle.std.specs.Ordering.{ordering_then}
use Rattle.std.specs.Cmp.{nat_cmp_total}
use Rattle.std.specs.declared.cmp.Ordering.{Ordering}
use Rattle.rk_base.specs.Text.{Text, text_cmp, same_text}
use Rattle.rk_tree.proofs.TextLemmas.{same_is}

-- a front that both have
pub cmp-front : (front rest back : Text) → text_cmp (front ++ rest) (front ++ back) ≡ text_cmp rest back
cmp-front [] rest back = refl
cmp-front (f ∷ fs) rest back = ap (λ (o : Ordering). ordering_then o (text_cmp (fs ++ rest) (fs ++ back))) (tied_itself nat_cmp_total f) ∙ cmp-front fs rest back

pub begins-front : (front text rest : Text) → same_text (take (length front) text) front ≡ true → rest ≡ drop (length front) text → text ≡ front ++ rest
begins-front front text rest begins is = sym (take-append-drop (length front) text) ∙ ap (λ (t : Text). t ++ drop (length front) text) (same_is _ front begins) ∙ ap (λ (t : Text). front ++ t) (sym is)
