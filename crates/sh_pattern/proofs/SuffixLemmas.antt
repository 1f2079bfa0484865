-- The ends of a text that a pattern matches.
use Rattle.std.proofs.Common.{◌≡◌, ℕ, zero, suc, ◌+◌, ◌-◌, ◌≤◌, ◌<◌, List, [], ◌∷◌, length, length-drop, drop, drop-drop, below_more, sym, ap, ◌∙◌, subst, arith, inl, inr, Bool, true, false}
use Rattle.std.specs.Prelude.{Option, Some, None, ◌↔◌}
use Rattle.std.proofs.lemmas.List.{drop_all}
use Rattle.std.proofs.lemmas.Bool.{cases_lt}
use Rattle.rk_base.specs.Text.{Text}
use Rattle.sh_pattern.specs.Parts.{Part, Star, One, parts, Begins}
use Rattle.sh_pattern.specs.declared.part.Part.TheVariants.{One as Only}
use Rattle.sh_pattern.specs.Matching.{MatchesParts, IsBest, MatchesEnd}
use Rattle.sh_pattern.specs.Walking.{Ends, Along, Walked, NoEnd, TellsLeast, Settles, IsLeast, Between, NoMatchBefore, NoMatchAfter}
use Rattle.sh_pattern.proofs.EndLemmas.{walked-ends, no_star}
use Rattle.sh_pattern.proofs.WalkLemmas.{walked-back, along-push}
use Rattle.sh_pattern.proofs.MatchLemmas.{whole, whole_back, none_whole}

-- a star matches any text that ends with one that it matches
pub star_longer : (ps : List Part) (text : Text) (n : ℕ) → MatchesParts (Star ∷ ps) (drop n text) → MatchesParts (Star ∷ ps) text
star_longer ps text n (i, m) = (n + i, subst (MatchesParts ps) (drop-drop i n text) m)

-- where all went by up to a star, what follows it settles
pub star_settles : (ps : List Part) (text : Text) (qs : List Part) (left : Text) → Walked ps text (Star ∷ qs) left → MatchesParts (Star ∷ qs) left ↔ MatchesParts ps text
star_settles ps text qs left w = (λ m. whole_back ps text (w.fits [] (whole (Star ∷ qs) left m)), λ m. whole_back (Star ∷ qs) left (walked-back ps text (Star ∷ qs) left w 0 [] (whole ps text m)))

pub end_matches : (ps : List Part) (text left : Text) → Walked ps text [] left → left ≡ [] → MatchesParts ps text
end_matches ps text left w e = whole_back ps text (subst (Ends ps text) e (walked-ends ps text left w))

pub ended_at : (ps : List Part) (text left : Text) → Walked ps text [] left → MatchesParts ps text → left ≡ []
ended_at ps text left w m = walked-back ps text [] left w 0 [] (whole ps text m)

pub walked_as : (p p' : Text) (t t' : Text) (qs : List Part) (left : Text) → p' ≡ p → t' ≡ t → Walked (parts p') t' qs left → Walked (parts p) t qs left
walked_as p p' t t' qs left e f w = subst (λ x. Walked (parts p) x qs left) f (subst (λ (x : Text). Walked (parts x) t' qs left) e w)

pub no_end_as : (p p' : Text) (t t' : Text) → p' ≡ p → t' ≡ t → NoEnd (parts p') t' → NoEnd (parts p) t
no_end_as p p' t t' e f w = subst (NoEnd (parts p)) f (subst (λ (x : Text). NoEnd (parts x) t') e w)

pub one_along : (b : ℕ) (ps qs rs : List Part) (met : Bool) → (m : ℕ) × Along m ps qs → Begins b qs (Only met) rs → (m : ℕ) × Along m ps rs
one_along b ps qs rs met (m, a) (Star, h, e) = absurd h
one_along b ps qs rs met (m, a) (One meets, h, e) = (suc m, along-push m ps rs meets (subst (Along m ps) e a))

along_unique : (m n : ℕ) (ps qs rs : List Part) → Along m ps (Star ∷ qs) → Along n ps (Star ∷ rs) → qs ≡ rs
along_unique zero zero ps qs rs a b = let e : Star ∷ qs ≡ Star ∷ rs = sym a ∙ b in cc
along_unique zero (suc n) [] qs rs a b = absurd b
along_unique zero (suc n) (Star ∷ ps) qs rs a b = absurd b
along_unique zero (suc n) (One meets ∷ ps) qs rs a b = absurd (cc)
along_unique (suc m) n [] qs rs a b = absurd a
along_unique (suc m) n (Star ∷ ps) qs rs a b = absurd a
along_unique (suc m) zero (One meets ∷ ps) qs rs a b = absurd (cc)
along_unique (suc m) (suc n) (One meets ∷ ps) qs rs a b = along_unique m n ps qs rs a b

pub settles_none : (ps : List Part) (text : Text) (least : Option ℕ) → (m : ℕ) × Along m ps [] → Settles ps text least
settles_none ps text least (m, a) n qs b = absurd (no_star m n ps qs a b)

pub settles_star : (ps qs : List Part) (text t : Text) (least : Option ℕ) → (m : ℕ) × Along m ps (Star ∷ qs) → t ≡ text → TellsLeast (Star ∷ qs) t least → Settles ps text least
settles_star ps qs text t least (m, a) e h n rs b = subst (λ x. TellsLeast (Star ∷ x) text least) (along_unique m n ps qs rs a b) (subst (λ x. TellsLeast (Star ∷ qs) x least) e h)

pub between_least : (ps : List Part) (text : Text) (low high : ℕ) → Between (Star ∷ ps) text low high → high - low ≤ 1 → IsLeast (Star ∷ ps) text (length text - low)
between_least ps text low high b h n le = (there, back)
  where
    there : MatchesParts (Star ∷ ps) (drop n text) → length text - low ≤ length (drop n text)
    there m =
        let x : length (drop n text) ≡ length text - n = length-drop n text in
        elim (cases_lt n high) [ inl lt ↦ (let u : low < high = b.below in omega arith) | inr ge ↦ absurd (b.none n ge le m) ]

    back : length text - low ≤ length (drop n text) → MatchesParts (Star ∷ ps) (drop n text)
    back l =
        let x : length (drop n text) ≡ length text - n = length-drop n text in
        let u : low < high = b.below in
        let w : high ≤ length text + 1 = b.within in
        let le : n ≤ low = omega arith in
        star_longer ps (drop n text) (low - n) (subst (MatchesParts (Star ∷ ps)) (ap (λ j. drop j text) (let e : low ≡ n + (low - n) = omega arith in e) ∙ sym (drop-drop (low - n) n text)) b.matched)

pub settled_none : (ps qs : List Part) (text : Text) (n : ℕ) (left : Text) → Walked ps (drop n text) (Star ∷ qs) left → Settles ps text None → MatchesParts ps (drop n text) → ⊥
settled_none ps qs text n left w s m = s w.size qs w.along (n + w.size) (subst (MatchesParts (Star ∷ qs)) (w.is_left ∙ drop-drop w.size n text) ((star_settles ps (drop n text) qs left w).1 m))

pub settled_some : (ps qs : List Part) (text : Text) (n least : ℕ) (left : Text) → n ≤ length text → Walked ps (drop n text) (Star ∷ qs) left → Settles ps text (Some least) → (least ≤ length left) ↔ MatchesParts ps (drop n text)
settled_some ps qs text n least left h w s = (λ l. both.0 (subst (MatchesParts (Star ∷ qs)) (sym place) (here.1 (subst (λ x. least ≤ length x) place l))), λ m. subst (λ x. least ≤ length x) (sym place) (here.0 (subst (MatchesParts (Star ∷ qs)) place (both.1 m))))
  where
    place : left ≡ drop (n + w.size) text
    place = w.is_left ∙ drop-drop w.size n text

    both : MatchesParts (Star ∷ qs) left ↔ MatchesParts ps (drop n text)
    both = star_settles ps (drop n text) qs left w

    here : MatchesParts (Star ∷ qs) (drop (n + w.size) text) ↔ (least ≤ length (drop (n + w.size) text))
    here = s w.size qs w.along (n + w.size) (let x : length (drop n text) ≡ length text - n = length-drop n text in let u : w.size ≤ length (drop n text) = w.within in omega arith)

pub more_before : (ps : List Part) (text : Text) (n : ℕ) → NoMatchBefore ps text n → (MatchesParts ps (drop n text) → ⊥) → NoMatchBefore ps text (n + 1)
more_before ps text n none fails = below_more (λ j. MatchesParts ps (drop j text) → ⊥) n none fails

pub more_after : (ps : List Part) (text : Text) (n m : ℕ) → n ≡ m + 1 → NoMatchAfter ps text n → (MatchesParts ps (drop n text) → ⊥) → NoMatchAfter ps text m
more_after ps text n m e none fails j h l =
    elim (cases_lt n j) [ inl lt ↦ none j lt l | inr ge ↦ subst (λ i. MatchesParts ps (drop i text) → ⊥) (let f : n ≡ j = omega arith in f) fails ]

counted : (n : ℕ) (text : Text) → length (drop n text) ≡ length text - n
counted n text = length-drop n text

pub suffix_longest : (ps : List Part) (text : Text) (n : ℕ) → n ≤ length text → NoMatchBefore ps text n → MatchesParts ps (drop n text) → IsBest true (length text) (MatchesEnd ps text) (length text - n)
suffix_longest ps text n le none m = record { within = omega arith; has = (n, m, counted n text); best = λ j h s. far j s }
  where
    far : (j : ℕ) → MatchesEnd ps text j → j ≤ length text - n
    far j (i, m', l) =
        let y : length text - i ≡ j = sym (counted i text) ∙ l in
        elim (cases_lt i n) [ inl h ↦ absurd (none i h m') | inr h ↦ omega arith ]

pub suffix_shortest : (ps : List Part) (text : Text) (n : ℕ) → n ≤ length text → NoMatchAfter ps text n → MatchesParts ps (drop n text) → IsBest false (length text) (MatchesEnd ps text) (length text - n)
suffix_shortest ps text n le none m = record { within = omega arith; has = (n, m, counted n text); best = λ j h s. far j s }
  where
    far : (j : ℕ) → MatchesEnd ps text j → length text - n ≤ j
    far j (i, m', l) =
        let y : length text - i ≡ j = sym (counted i text) ∙ l in
        elim (cases_lt n i) [
          | inl h ↦ elim (cases_lt (length text) i) [ inl past ↦ ended i j m' y past | inr k ↦ absurd (none i h k m') ]
          | inr h ↦ omega arith
        ]
      where
        ended : (i j : ℕ) → MatchesParts ps (drop i text) → length text - i ≡ j → length text < i → length text - n ≤ j
        ended i j m' y past =
            let same : drop i text ≡ drop (length text) text = drop_all i text (omega arith) ∙ sym (drop_all (length text) text (omega arith)) in
            elim (cases_lt n (length text)) [ inl h ↦ absurd (none (length text) h (omega arith) (subst (MatchesParts ps) same m')) | inr h ↦ omega arith ]

pub no_suffix : (ps : List Part) (text : Text) → ((j : ℕ) → j ≤ length text → MatchesParts ps (drop j text) → ⊥) → (k : ℕ) → k ≤ length text → MatchesEnd ps text k → ⊥
no_suffix ps text none k h (i, m, l) =
    elim (cases_lt (length text) i) [
      | inl past ↦ none (length text) (omega arith) (subst (MatchesParts ps) (drop_all i text (omega arith) ∙ sym (drop_all (length text) text (omega arith))) m)
      | inr le ↦ none i le m
    ]

-- at one place, by what the code copied
pub at_fails : (p p' : Text) (t here : Text) → p' ≡ p → here ≡ t → NoEnd (parts p') here → MatchesParts (parts p) t → ⊥
at_fails p p' t here e f none = none_whole (parts p) t (no_end_as p p' t here e f none)

pub none_on : (ps : List Part) (text : Text) (middle : ℕ) → (MatchesParts (Star ∷ ps) (drop middle text) → ⊥) → (n : ℕ) → middle ≤ n → n ≤ length text → MatchesParts (Star ∷ ps) (drop n text) → ⊥
none_on ps text middle fails n h le m =
    fails (star_longer ps (drop middle text) (n - middle) (subst (MatchesParts (Star ∷ ps)) (ap (λ j. drop j text) (let e : n ≡ middle + (n - middle) = omega arith in e) ∙ sym (drop-drop (n - middle) middle text)) m))

pub low_half : (ps : List Part) (text : Text) (low high middle : ℕ) → Between (Star ∷ ps) text low high → low < middle → middle ≤ high → (MatchesParts (Star ∷ ps) (drop middle text) → ⊥) → Between (Star ∷ ps) text low middle
low_half ps text low high middle b h k fails = record { below = h; within = (let w : high ≤ length text + 1 = b.within in omega arith); matched = b.matched; none = none_on ps text middle fails }

pub none_from : (ps : List Part) (text : Text) (n : ℕ) → n ≡ 0 → NoMatchAfter ps text n → (MatchesParts ps (drop n text) → ⊥) → (j : ℕ) → j ≤ length text → MatchesParts ps (drop j text) → ⊥
none_from ps text n e none fails zero h = subst (λ i. MatchesParts ps (drop i text) → ⊥) e fails
none_from ps text n e none fails (suc j) h = none (suc j) (omega arith) h
