-- The matches of a line, one after another.
use Rattle.std.proofs.Common.{◌≡◌, ℕ, zero, suc, ◌-◌, ◌<◌, List, [], ◌∷◌, ◌++◌, drop, Bool, true, false, cond, Option, Some, None, refl, ap, sym, ◌∙◌, arith, append_assoc}
use Rattle.std.specs.Prelude.{◌||◌, ◌==◌}
use Rattle.rk_base.specs.Text.{Text}
use Rattle.ut_bre.specs.declared.group.Found.{Found}
use Rattle.ut_bre.specs.Trees.{Expression}
use Rattle.ut_sed.specs.Commands.{SubstitutionValue}
use Rattle.ut_sed.specs.Substituting.{next_found, matches_from, match_text, is_final, rewritten, is_replaced}

pub matches_none : (n : ℕ) (e : Expression) (text : Text) → matches_from n e text None ≡ []
matches_none zero e text = refl
matches_none (suc n) e text = refl

pub matches_some : (n : ℕ) (e : Expression) (text : Text) (f : Found) → 0 < n → matches_from n e text (Some f) ≡ f ∷ matches_from (n - 1) e text (next_found e text f.end)
matches_some zero e text f lt = absurd (omega arith)
matches_some (suc n) e text f lt = let h : suc n - 1 ≡ n = omega arith in ap (λ m. f ∷ matches_from m e text (next_found e text f.end)) (sym h)

or_assoc : (a b c : Bool) → (a || b) || c ≡ a || (b || c)
or_assoc true b c = refl
or_assoc false b c = refl

pub made_more : (s : SubstitutionValue) (text made made' whole : Text) (at passed passed' left : ℕ) (f : Found) (next : Option Found) → 0 < left → made ++ rewritten s text at passed (matches_from left s.expression text (Some f)) ≡ whole → made' ≡ made ++ match_text s text at passed f → is_final s passed ≡ false → passed' ≡ passed - 1 → next ≡ next_found s.expression text f.end → made' ++ rewritten s text f.end passed' (matches_from (left - 1) s.expression text next) ≡ whole
made_more s text made made' whole at passed passed' left f next lt h m final p n =
    let fs = matches_from (left - 1) s.expression text (next_found s.expression text f.end) in
    let w = match_text s text at passed f in
    let e : matches_from left s.expression text (Some f) ≡ f ∷ fs = matches_some left s.expression text f lt in
    let h' : made ++ rewritten s text at passed (f ∷ fs) ≡ whole = ap (λ (l : List Found). made ++ rewritten s text at passed l) (sym e) ∙ h in
    let k : cond (is_final s passed) (drop f.end text) (rewritten s text f.end (passed - 1) fs) ≡ rewritten s text f.end (passed - 1) fs = ap (λ b. cond b (drop f.end text) (rewritten s text f.end (passed - 1) fs)) final in
    let a : made' ++ rewritten s text f.end passed' (matches_from (left - 1) s.expression text next) ≡ (made ++ w) ++ rewritten s text f.end passed' (matches_from (left - 1) s.expression text next) = ap (λ (t : Text). t ++ rewritten s text f.end passed' (matches_from (left - 1) s.expression text next)) m in
    let b : (made ++ w) ++ rewritten s text f.end passed' (matches_from (left - 1) s.expression text next) ≡ (made ++ w) ++ rewritten s text f.end passed' fs = ap (λ (o : Option Found). (made ++ w) ++ rewritten s text f.end passed' (matches_from (left - 1) s.expression text o)) n in
    let d : (made ++ w) ++ rewritten s text f.end passed' fs ≡ (made ++ w) ++ rewritten s text f.end (passed - 1) fs = ap (λ (q : ℕ). (made ++ w) ++ rewritten s text f.end q fs) p in
    let g : (made ++ w) ++ rewritten s text f.end (passed - 1) fs ≡ made ++ (w ++ rewritten s text f.end (passed - 1) fs) = append_assoc made w (rewritten s text f.end (passed - 1) fs) in
    let i : made ++ (w ++ rewritten s text f.end (passed - 1) fs) ≡ made ++ rewritten s text at passed (f ∷ fs) = ap (λ (t : Text). made ++ (w ++ t)) (sym k) in
    a ∙ b ∙ d ∙ g ∙ i ∙ h'

pub made_last : (s : SubstitutionValue) (text made made' whole : Text) (at passed left : ℕ) (f : Found) → 0 < left → made ++ rewritten s text at passed (matches_from left s.expression text (Some f)) ≡ whole → made' ≡ made ++ match_text s text at passed f → is_final s passed ≡ true → made' ++ drop f.end text ≡ whole
made_last s text made made' whole at passed left f lt h m final =
    let fs = matches_from (left - 1) s.expression text (next_found s.expression text f.end) in
    let w = match_text s text at passed f in
    let e : matches_from left s.expression text (Some f) ≡ f ∷ fs = matches_some left s.expression text f lt in
    let h' : made ++ rewritten s text at passed (f ∷ fs) ≡ whole = ap (λ (l : List Found). made ++ rewritten s text at passed l) (sym e) ∙ h in
    let k : cond (is_final s passed) (drop f.end text) (rewritten s text f.end (passed - 1) fs) ≡ drop f.end text = ap (λ b. cond b (drop f.end text) (rewritten s text f.end (passed - 1) fs)) final in
    let a : made' ++ drop f.end text ≡ (made ++ w) ++ drop f.end text = ap (λ (t : Text). t ++ drop f.end text) m in
    let g : (made ++ w) ++ drop f.end text ≡ made ++ (w ++ drop f.end text) = append_assoc made w (drop f.end text) in
    let i : made ++ (w ++ drop f.end text) ≡ made ++ rewritten s text at passed (f ∷ fs) = ap (λ (t : Text). made ++ (w ++ t)) (sym k) in
    a ∙ g ∙ i ∙ h'

pub replaced_more : (e : Expression) (text : Text) (replaced replaced' whole : Bool) (passed passed' left : ℕ) (f : Found) (next : Option Found) → 0 < left → (replaced || is_replaced passed (matches_from left e text (Some f))) ≡ whole → replaced' ≡ (replaced || (passed == 0)) → passed' ≡ passed - 1 → next ≡ next_found e text f.end → (replaced' || is_replaced passed' (matches_from (left - 1) e text next)) ≡ whole
replaced_more e text replaced replaced' whole passed passed' left f next lt h r p n =
    let fs = matches_from (left - 1) e text (next_found e text f.end) in
    let e' : matches_from left e text (Some f) ≡ f ∷ fs = matches_some left e text f lt in
    let h' : (replaced || is_replaced passed (f ∷ fs)) ≡ whole = ap (λ (l : List Found). replaced || is_replaced passed l) (sym e') ∙ h in
    let a : (replaced' || is_replaced passed' (matches_from (left - 1) e text next)) ≡ (replaced' || is_replaced passed' fs) = ap (λ (o : Option Found). replaced' || is_replaced passed' (matches_from (left - 1) e text o)) n in
    let b : (replaced' || is_replaced passed' fs) ≡ (replaced' || is_replaced (passed - 1) fs) = ap (λ (q : ℕ). replaced' || is_replaced q fs) p in
    let d : (replaced' || is_replaced (passed - 1) fs) ≡ ((replaced || (passed == 0)) || is_replaced (passed - 1) fs) = ap (λ (q : Bool). q || is_replaced (passed - 1) fs) r in
    a ∙ b ∙ d ∙ or_assoc replaced (passed == 0) (is_replaced (passed - 1) fs) ∙ h'
