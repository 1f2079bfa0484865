-- A pattern goes along a text part by part.
use Rattle.std.proofs.Common.{◌≡◌, ℕ, zero, suc, ◌+◌, ◌-◌, ◌≤◌, ◌<◌, List, [], ◌∷◌, length, length-drop, drop, drop-drop, add-one, refl, sym, ap, ◌∙◌, subst, below_more, arith, inl, inr, Bool, true, false}
use Rattle.std.proofs.lemmas.List.{drop_all}
use Rattle.std.proofs.lemmas.Bool.{cases_lt}
use Rattle.rk_base.specs.Text.{Text}
use Rattle.sh_pattern.specs.Parts.{Part, Star, One}
use Rattle.sh_pattern.specs.Walking.{Ends, Along, Walked, NoEnd, NoneBefore, Advances, WalksTo, FindsTo, is_stop}
use Rattle.std.specs.Prelude.{Some, None}
use Rattle.sh_pattern.specs.declared.walk.SegmentEnd.{SegmentEnd}
use Rattle.sh_pattern.specs.declared.walk.SegmentEnd.TheVariants as stop

-- parts of one byte each end just so far on
pub along-ends : (m : ℕ) (ps qs : List Part) (x rest : Text) → Along m ps qs → Ends ps x rest → Ends qs (drop m x) rest
along-ends zero ps qs x rest a e = subst (λ r. Ends r x rest) a e
along-ends (suc m) [] qs x rest a e = absurd a
along-ends (suc m) (Star ∷ ps) qs x rest a e = absurd a
along-ends (suc m) (One meets ∷ ps) qs [] rest a e = absurd e
along-ends (suc m) (One meets ∷ ps) qs (b ∷ bs) rest a e = along-ends m ps qs bs rest a e.1

pub along-push : (m : ℕ) (ps qs : List Part) (meets : ℕ → Bool) → Along m ps (One meets ∷ qs) → Along (suc m) ps qs
along-push zero ps qs meets a = subst (λ r. Along 1 r qs) (sym a) refl
along-push (suc m) [] qs meets a = absurd a
along-push (suc m) (Star ∷ ps) qs meets a = absurd a
along-push (suc m) (One meets' ∷ ps) qs meets a = along-push m ps qs meets a

drop-comm : (m n : ℕ) (x : Text) → drop m (drop n x) ≡ drop n (drop m x)
drop-comm m n x = drop-drop m n x ∙ (ap (λ k. drop k x) (let e : n + m ≡ m + n = omega arith in e) ∙ sym (drop-drop n m x))

-- from any place on
pub walked-back : (ps : List Part) (text : Text) (qs : List Part) (left : Text) → Walked ps text qs left → (n : ℕ) (rest : Text) → Ends ps (drop n text) rest → Ends qs (drop n left) rest
walked-back ps text qs left w n rest e =
    subst (λ x. Ends qs x rest) (drop-comm w.size n text ∙ ap (drop n) (sym w.is_left)) (along-ends w.size ps qs (drop n text) rest w.along e)

pub walked-none : (ps : List Part) (text : Text) → Walked ps text ps text
walked-none ps text = record { size = 0; along = refl; within = omega arith; is_left = refl; fits = λ rest e. e }

pub walked-one : (ps : List Part) (text : Text) (qs rs : List Part) (left after : Text) → Walked ps text qs left → Advances qs left None rs after → Walked ps text rs after
walked-one ps text qs rs left after w (meets, b, q, t, m) =
    record {
      size = suc w.size;
      along = along-push w.size ps rs meets (subst (λ x. Along w.size ps x) q w.along);
      within = (let h : length (drop w.size text) ≡ length text - w.size = length-drop w.size text in let k : suc (length after) ≡ length text - w.size = ap length (sym t ∙ w.is_left) ∙ h in omega arith);
      is_left = ap (drop 1) (sym t ∙ w.is_left) ∙ (drop-drop 1 w.size text ∙ ap (λ k. drop k text) (add-one w.size));
      fits = λ rest e. w.fits rest (subst (λ x. Ends qs x rest) (sym t) (subst (λ x. Ends x (b ∷ after) rest) (sym q) (m, e)));
    }

pub walked-fails : (ps : List Part) (text : Text) (qs : List Part) (left : Text) → Walked ps text qs left → NoEnd qs left → NoEnd ps text
walked-fails ps text qs left w none rest e = none rest (walked-back ps text qs left w 0 rest e)

pub walked-stop : (ps : List Part) (text : Text) (qs rs : List Part) (left after : Text) (s : SegmentEnd) → Walked ps text qs left → Advances qs left (Some s) rs after → WalksTo ps text s rs after
walked-stop ps text qs rs left after stop.End w (q, t) = subst (λ x. Walked ps text [] x) (sym t) (subst (λ x. Walked ps text x left) q w)
walked-stop ps text qs rs left after stop.Star w (q, t) = subst (λ x. Walked ps text (Star ∷ rs) x) (sym t) (subst (λ x. Walked ps text x left) q w)
walked-stop ps text qs rs left after stop.Fails w none = walked-fails ps text qs left w none

pub shorter : (ps : List Part) (text : Text) (qs : List Part) (after : Text) → Advances ps text None qs after → length qs < length ps
shorter ps text qs after (meets, b, q, t, m) = let e : length ps ≡ suc (length qs) = ap length q in omega arith

pub search-fails : (ps : List Part) (text here : Text) (n : ℕ) (s : SegmentEnd) (qs : List Part) (left : Text) → here ≡ drop n text → NoneBefore ps text n → is_stop s ≡ false → WalksTo ps here s qs left → NoneBefore ps text (n + 1)
search-fails ps text here n stop.End qs left h b f w = absurd (cc)
search-fails ps text here n stop.Star qs left h b f w = absurd (cc)
search-fails ps text here n stop.Fails qs left h b f w = below_more (λ j. NoEnd ps (drop j text)) n b (subst (NoEnd ps) h w)

pub search-stops : (ps : List Part) (text here : Text) (n : ℕ) (s : SegmentEnd) (qs : List Part) (left : Text) → here ≡ drop n text → NoneBefore ps text n → is_stop s ≡ true → WalksTo ps here s qs left → FindsTo ps text s qs left
search-stops ps text here n stop.End qs left h b f w = record { place = n; walked = subst (λ x. Walked ps x [] left) h w; none_before = b }
search-stops ps text here n stop.Star qs left h b f w = record { place = n; walked = subst (λ x. Walked ps x (Star ∷ qs) left) h w; none_before = b }
search-stops ps text here n stop.Fails qs left h b f w = absurd (cc)

-- at the text's end nothing more comes
pub search-ends : (ps : List Part) (text : Text) (n : ℕ) → drop n text ≡ [] → NoneBefore ps text (n + 1) → (j : ℕ) → NoEnd ps (drop j text)
search-ends ps text n e b j = elim (cases_lt j (n + 1)) [ inl h ↦ b j h | inr h ↦ subst (NoEnd ps) (past h) (b n (omega arith)) ]
  where
    past : n + 1 ≤ j → drop n text ≡ drop j text
    past h = let k : length text - n ≡ 0 = sym (length-drop n text) ∙ ap length e in e ∙ sym (drop_all j text (omega arith))

pub next_place : (text left after : Text) (n b : ℕ) → left ≡ drop n text → left ≡ b ∷ after → after ≡ drop (n + 1) text
next_place text left after n b h e = ap (drop 1) (sym e ∙ h) ∙ (drop-drop 1 n text ∙ refl)
