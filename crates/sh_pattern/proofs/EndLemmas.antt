-- The best end of a pattern along a text.
use Rattle.std.proofs.Common.{◌≡◌, ℕ, zero, suc, ◌+◌, ◌-◌, ◌≤◌, ◌<◌, List, [], ◌∷◌, length, length-drop, drop, drop-drop, refl, sym, ap, ◌∙◌, subst, arith, inl, inr, Bool, true, false}
use Rattle.std.specs.Prelude.{Option, Some, None}
use Rattle.std.proofs.lemmas.List.{drop_all}
use Rattle.std.proofs.lemmas.Bool.{cases_lt}
use Rattle.rk_base.specs.Text.{Text}
use Rattle.sh_pattern.specs.Parts.{Part, Star, One, parts}
use Rattle.sh_pattern.specs.Walking.{Ends, Along, Walked, NoEnd, NoneAfter, Found, WalksTo, Best, TellsEnd, IsFarther, Alike, is_stop}
use Rattle.sh_pattern.specs.declared.walk.SegmentEnd.{SegmentEnd}
use Rattle.sh_pattern.specs.declared.walk.SegmentEnd.TheVariants as stop
use Rattle.sh_pattern.proofs.WalkLemmas.{walked-back, along-ends}

-- parts of one byte each up to the end hold no star
pub no_star : (m : ℕ) (size : ℕ) (ps qs : List Part) → Along m ps [] → Along size ps (Star ∷ qs) → ⊥
no_star zero zero ps qs a b = let e : [] ≡ Star ∷ qs = sym a ∙ b in absurd (cc)
no_star zero (suc size) [] qs a b = absurd b
no_star zero (suc size) (p ∷ ps) qs a b = absurd (cc)
no_star (suc m) size [] qs a b = absurd a
no_star (suc m) size (Star ∷ ps) qs a b = absurd a
no_star (suc m) zero (One meets ∷ ps) qs a b = absurd (one_star meets b)
  where
    one_star : (meets : ℕ → Bool) → One meets ∷ ps ≡ Star ∷ qs → ⊥
    one_star meets e = absurd (cc)
no_star (suc m) (suc size) (One meets ∷ ps) qs a b = no_star m size ps qs a b

pub along-length : (m : ℕ) (ps qs : List Part) → Along m ps qs → length ps ≡ m + length qs
along-length zero ps qs a = ap length a ∙ (let e : length qs ≡ 0 + length qs = omega arith in e)
along-length (suc m) [] qs a = absurd a
along-length (suc m) (Star ∷ ps) qs a = absurd a
along-length (suc m) (One meets ∷ ps) qs a = let e : length ps ≡ m + length qs = along-length m ps qs a in omega arith

-- a place in the text
pub star-within : (ps : List Part) (text rest : Text) → Ends (Star ∷ ps) text rest → (n : ℕ) × (n ≤ length text) × Ends ps (drop n text) rest
star-within ps text rest (n, e) =
    elim (cases_lt (length text) n) [
      | inl h ↦ (length text, omega arith, subst (λ x. Ends ps x rest) (drop_all n text (omega arith) ∙ sym (drop_all (length text) text (omega arith))) e)
      | inr h ↦ (n, h, e)
    ]

pub walked-ends : (ps : List Part) (text left : Text) → Walked ps text [] left → Ends ps text left
walked-ends ps text left w = w.fits left refl

-- where one end is, from a later place there are fewer bytes left
farther : (ps : List Part) (text left : Text) (m n j : ℕ) → Along m ps [] → left ≡ drop m (drop n text) → j ≤ n → (other : Text) → Ends ps (drop j text) other → length left ≤ length other
farther ps text left m n j a e h other f =
    let g : drop m (drop j text) ≡ other = along-ends m ps [] (drop j text) other a f in
    let x : length left ≡ length text - n - m = ap length e ∙ (length-drop m (drop n text) ∙ ap (λ k. k - m) (length-drop n text)) in
    let y : length other ≡ length text - j - m = ap length (sym g) ∙ (length-drop m (drop j text) ∙ ap (λ k. k - m) (length-drop j text)) in
    omega arith

pub latest-best : (ps : List Part) (text left : Text) (n : ℕ) → NoneAfter ps text n → Walked ps (drop n text) [] left → Best true (Star ∷ ps) text (length left)
latest-best ps text left n none w =
    record {
      rest = left;
      ends = (n, walked-ends ps (drop n text) left w);
      is_left = refl;
      best = λ other e. far other (star-within ps text other e);
    }
  where
    far : (other : Text) → (j : ℕ) × (j ≤ length text) × Ends ps (drop j text) other → length left ≤ length other
    far other (j, h, e) = elim (cases_lt n j) [ inl k ↦ absurd (none j k h other e) | inr k ↦ farther ps text left w.size n j w.along w.is_left k other e ]

pub latest-stops : (m : ℕ) (ps : List Part) (text here : Text) (n : ℕ) (s : SegmentEnd) (qs : List Part) (left : Text) → Along m ps [] → here ≡ drop n text → NoneAfter ps text n → is_stop s ≡ true → WalksTo ps here s qs left → Best true (Star ∷ ps) text (length left)
latest-stops m ps text here n stop.End qs left a h b f w = latest-best ps text left n b (subst (λ x. Walked ps x [] left) h w)
latest-stops m ps text here n stop.Star qs left a h b f w = absurd (no_star m w.size ps qs a w.along)
latest-stops m ps text here n stop.Fails qs left a h b f w = absurd (cc)

pub latest-fails : (ps : List Part) (text here : Text) (n : ℕ) (s : SegmentEnd) (qs : List Part) (left : Text) → here ≡ drop n text → NoneAfter ps text n → is_stop s ≡ false → WalksTo ps here s qs left → (j : ℕ) → n ≤ j → j ≤ length text → NoEnd ps (drop j text)
latest-fails ps text here n stop.End qs left h b f w j k l = absurd (cc)
latest-fails ps text here n stop.Star qs left h b f w j k l = absurd (cc)
latest-fails ps text here n stop.Fails qs left h b f w j k l = elim (cases_lt n j) [ inl lt ↦ b j lt l | inr le ↦ subst (λ x. NoEnd ps (drop x text)) (let e : n ≡ j = omega arith in e) (subst (NoEnd ps) h w) ]

pub latest-none : (ps : List Part) (text : Text) → ((j : ℕ) → 0 ≤ j → j ≤ length text → NoEnd ps (drop j text)) → NoEnd (Star ∷ ps) text
latest-none ps text none rest e = past (star-within ps text rest e)
  where
    past : (j : ℕ) × (j ≤ length text) × Ends ps (drop j text) rest → ⊥
    past (j, h, f) = none j (omega arith) h rest f

pub found-fails : (ps : List Part) (text : Text) → ((n : ℕ) → NoEnd ps (drop n text)) → NoEnd (Star ∷ ps) text
found-fails ps text none rest (n, e) = none n rest e

pub found-back : (ps : List Part) (text : Text) (qs : List Part) (left : Text) (f : Found ps text qs left) (j : ℕ) (rest : Text) → Ends ps (drop j text) rest → (f.place ≤ j) × Ends qs (drop (j - f.place) left) rest
found-back ps text qs left f j rest e = elim (cases_lt j f.place) [ inl h ↦ absurd (f.none_before j h rest e) | inr h ↦ (h, walked-back ps (drop f.place text) qs left f.walked (j - f.place) rest (subst (λ x. Ends ps x rest) (here h) e)) ]
  where
    here : f.place ≤ j → drop j text ≡ drop (j - f.place) (drop f.place text)
    here h = ap (λ k. drop k text) (let e : j ≡ f.place + (j - f.place) = omega arith in e) ∙ sym (drop-drop (j - f.place) f.place text)

pub found-star : (ps : List Part) (text : Text) (qs : List Part) (left : Text) → Found ps text (Star ∷ qs) left → Alike (Star ∷ ps) text (Star ∷ qs) left
found-star ps text qs left f rest = (there, back)
  where
    moved : (j : ℕ) → Ends (Star ∷ qs) (drop j left) rest → Ends (Star ∷ qs) left rest
    moved j (i, e) = (j + i, subst (λ x. Ends qs x rest) (drop-drop i j left) e)

    there : Ends (Star ∷ ps) text rest → Ends (Star ∷ qs) left rest
    there (j, e) = moved (j - f.place) (found-back ps text (Star ∷ qs) left f j rest e).1

    back : Ends (Star ∷ qs) left rest → Ends (Star ∷ ps) text rest
    back e = (f.place, f.walked.fits rest e)

pub found-shortest : (ps : List Part) (text left : Text) → Found ps text [] left → Best false (Star ∷ ps) text (length left)
found-shortest ps text left f = record { rest = left; ends = (f.place, walked-ends ps (drop f.place text) left f.walked); is_left = refl; best = far }
  where
    far : (other : Text) → Ends (Star ∷ ps) text other → length other ≤ length left
    far other (j, e) =
        let k : length other ≡ length left - (j - f.place) = ap length (sym (found-back ps text [] left f j other e).1) ∙ length-drop (j - f.place) left in
        omega arith

farther-self : (longest : Bool) (k j : ℕ) → j ≡ k → IsFarther longest k j
farther-self true k j e = omega arith
farther-self false k j e = omega arith

pub walked-best : (longest : Bool) (ps : List Part) (text left : Text) → Walked ps text [] left → Best longest ps text (length left)
walked-best longest ps text left w = record { rest = left; ends = walked-ends ps text left w; is_left = refl; best = λ other e. farther-self longest (length left) (length other) (ap length (sym (walked-back ps text [] left w 0 other e))) }

pub walked-star : (ps : List Part) (text : Text) (qs : List Part) (left : Text) → Walked ps text qs left → Alike ps text qs left
walked-star ps text qs left w rest = (λ e. walked-back ps text qs left w 0 rest e, w.fits rest)

pub alike-trans : (ps : List Part) (text : Text) (qs : List Part) (left : Text) (rs : List Part) (last : Text) → Alike ps text qs left → Alike qs left rs last → Alike ps text rs last
alike-trans ps text qs left rs last h k rest = (λ e. (k rest).0 ((h rest).0 e), λ e. (h rest).1 ((k rest).1 e))

pub alike-tells : (longest : Bool) (ps : List Part) (text : Text) (qs : List Part) (left : Text) (r : Option ℕ) → Alike ps text qs left → TellsEnd longest qs left r → TellsEnd longest ps text r
alike-tells longest ps text qs left None h t = λ rest e. t rest ((h rest).0 e)
alike-tells longest ps text qs left (Some k) h t = record { rest = t.rest; ends = (h t.rest).1 t.ends; is_left = t.is_left; best = λ other e. t.best other ((h other).0 e) }

-- with what the code copied
pub ended : (longest : Bool) (p p' : Text) (t t' left : Text) → p' ≡ p → t' ≡ t → Walked (parts p') t' [] left → Best longest (parts p) t (length left)
ended longest p p' t t' left e f w = walked-best longest (parts p) t left (subst (λ x. Walked (parts p) x [] left) f (subst (λ (x : Text). Walked (parts x) t' [] left) e w))

pub starred : (longest : Bool) (p p' : Text) (t t' : Text) (qs : List Part) (left : Text) (r : Option ℕ) → p' ≡ p → t' ≡ t → Walked (parts p') t' qs left → TellsEnd longest qs left r → TellsEnd longest (parts p) t r
starred longest p p' t t' qs left r e f w tells = alike-tells longest (parts p) t qs left r (walked-star (parts p) t qs left (subst (λ x. Walked (parts p) x qs left) f (subst (λ (x : Text). Walked (parts x) t' qs left) e w))) tells

pub found_as : (p p' : Text) (t t' : Text) (qs : List Part) (left : Text) → p' ≡ p → t' ≡ t → Found (parts p') t' qs left → Found (parts p) t qs left
found_as p p' t t' qs left e f w = subst (λ x. Found (parts p) x qs left) f (subst (λ (x : Text). Found (parts x) t' qs left) e w)

pub walks_as : (p p' : Text) (t : Text) (s : SegmentEnd) (qs : List Part) (left : Text) → p' ≡ p → WalksTo (parts p') t s qs left → WalksTo (parts p) t s qs left
walks_as p p' t s qs left e w = subst (λ (x : Text). WalksTo (parts x) t s qs left) e w

pub found-shorter : (ps : List Part) (text : Text) (qs : List Part) (left : Text) → Found ps text (Star ∷ qs) left → length qs < length ps
found-shorter ps text qs left f = let e : length ps ≡ f.walked.size + suc (length qs) = along-length f.walked.size ps (Star ∷ qs) f.walked.along in omega arith
