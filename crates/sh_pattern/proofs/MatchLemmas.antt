-- Ends of a pattern, and what it matches.
use Rattle.std.proofs.Common.{◌≡◌, ℕ, zero, suc, ◌+◌, ◌-◌, ◌≤◌, List, [], ◌∷◌, length, length-drop, length-take-le, take, drop, drop-drop, refl, sym, ap, ◌∙◌, subst, arith, inl, inr, Bool, true, false}
use Rattle.std.specs.Prelude.{◌↔◌}
use Rattle.std.proofs.lemmas.List.{drop_all, drop-take, take_all, nil_from_length}
use Rattle.std.proofs.lemmas.Bool.{cases_lt}
use Rattle.rk_base.specs.Text.{Text}
use Rattle.sh_pattern.specs.Parts.{Part, Star, One}
use Rattle.sh_pattern.specs.Matching.{MatchesParts, IsBest, IsBetter}
use Rattle.sh_pattern.specs.Walking.{Ends, Best, IsFarther, NoEnd}
use Rattle.sh_pattern.proofs.EndLemmas.{star-within}

-- An end is a front that is matched.
pub record Front (ps : List Part) (text rest : Text) : Type 0 where
  pub size : ℕ
  pub within : size ≤ length text
  pub is_rest : rest ≡ drop size text
  pub matched : MatchesParts ps (take size text)

star_front : (ps : List Part) (text rest : Text) (n : ℕ) → n ≤ length text → Front ps (drop n text) rest → Front (Star ∷ ps) text rest
star_front ps text rest n h f =
    record {
      size = n + f.size;
      within = (let k : length (drop n text) ≡ length text - n = length-drop n text in let w : f.size ≤ length (drop n text) = f.within in omega arith);
      is_rest = f.is_rest ∙ drop-drop f.size n text;
      matched = (n, subst (MatchesParts ps) (sym (drop-take n f.size text)) f.matched);
    }

pub front : (ps : List Part) (text rest : Text) → Ends ps text rest → Front ps text rest
front [] text rest e = record { size = 0; within = omega arith; is_rest = sym e; matched = refl }
front (Star ∷ ps) text rest e = let w = star-within ps text rest e in star_front ps text rest w.0 w.1 (front ps (drop w.0 text) rest w.2)
front (One meets ∷ ps) [] rest e = absurd e
front (One meets ∷ ps) (b ∷ bs) rest e =
    let f : Front ps bs rest = front ps bs rest e.1 in
    record { size = suc f.size; within = (let w : f.size ≤ length bs = f.within in omega arith); is_rest = f.is_rest; matched = (e.0, f.matched) }

-- A front that is matched is an end.
star_end : (ps : List Part) (text : Text) (k n : ℕ) → k ≤ length text → n ≤ k → MatchesParts ps (drop n (take k text)) → ((k' : ℕ) (t : Text) → k' ≤ length t → MatchesParts ps (take k' t) → Ends ps t (drop k' t)) → Ends (Star ∷ ps) text (drop k text)
star_end ps text k n h l m again =
    let e : n + (k - n) ≡ k = omega arith in
    let t : drop n (take k text) ≡ take (k - n) (drop n text) = ap (λ j. drop n (take j text)) (sym e) ∙ drop-take n (k - n) text in
    let d : drop (k - n) (drop n text) ≡ drop k text = drop-drop (k - n) n text ∙ ap (λ j. drop j text) e in
    (n, subst (Ends ps (drop n text)) d (again (k - n) (drop n text) (let x : length (drop n text) ≡ length text - n = length-drop n text in omega arith) (subst (MatchesParts ps) t m)))

pub end : (ps : List Part) (k : ℕ) (text : Text) → k ≤ length text → MatchesParts ps (take k text) → Ends ps text (drop k text)
end [] k text h m = let e : k ≡ 0 = sym (length-take-le k text h) ∙ ap length m in ap (λ j. drop j text) (sym e)
end (Star ∷ ps) k text h (n, m) =
    elim (cases_lt k n) [
      | inl lt ↦ star_end ps text k k h (omega arith) (subst (MatchesParts ps) (drop_all n (take k text) (let x : length (take k text) ≡ k = length-take-le k text h in omega arith) ∙ sym (drop_all k (take k text) (let x : length (take k text) ≡ k = length-take-le k text h in omega arith))) m) (end ps)
      | inr le ↦ star_end ps text k n h le m (end ps)
    ]
end (One meets ∷ ps) zero text h m = absurd m
end (One meets ∷ ps) (suc k) [] h m = absurd m
end (One meets ∷ ps) (suc k) (b ∷ bs) h m = (m.0, end ps k bs (omega arith) m.1)

better : (longest : Bool) (total left other k j : ℕ) → left + k ≡ total → other + j ≡ total → IsFarther longest left other → IsBetter longest k j
better true total left other k j e f h = omega arith
better false total left other k j e f h = omega arith

pub within_text : (longest : Bool) (ps : List Part) (text : Text) (left : ℕ) → Best longest ps text left → left ≤ length text
within_text longest ps text left b =
    let f : Front ps text b.rest = front ps text b.rest b.ends in
    let c : left ≡ length text - f.size = sym b.is_left ∙ (ap length f.is_rest ∙ length-drop f.size text) in
    omega arith

pub best_prefix : (longest : Bool) (ps : List Part) (text : Text) (left : ℕ) → Best longest ps text left → IsBest longest (length text) (λ k. MatchesParts ps (take k text)) (length text - left)
best_prefix longest ps text left b =
    record {
      within = omega arith;
      has = subst (λ n. MatchesParts ps (take n text)) size (f.matched);
      best = λ j h m. better longest (length text) left (length (drop j text)) (length text - left) j (let u : left ≤ length text = within_text longest ps text left b in omega arith) (let x : length (drop j text) ≡ length text - j = length-drop j text in omega arith) (b.best (drop j text) (end ps j text h m));
    }
  where
    f : Front ps text b.rest
    f = front ps text b.rest b.ends

    counted : left ≡ length text - f.size
    counted = sym b.is_left ∙ (ap length f.is_rest ∙ length-drop f.size text)

    size : f.size ≡ length text - left
    size = let c = counted in let w = f.within in omega arith

pub tells_prefix : (longest : Bool) (ps : List Part) (text : Text) → NoEnd ps text → (k : ℕ) → k ≤ length text → MatchesParts ps (take k text) → ⊥
tells_prefix longest ps text none k h m = none (drop k text) (end ps k text h m)

pub whole : (ps : List Part) (text : Text) → MatchesParts ps text → Ends ps text []
whole ps text m = subst (Ends ps text) (drop_all (length text) text (omega arith)) (end ps (length text) text (omega arith) (subst (MatchesParts ps) (sym (take_all (length text) text (omega arith))) m))

pub whole_back : (ps : List Part) (text : Text) → Ends ps text [] → MatchesParts ps text
whole_back ps text e =
    let f : Front ps text [] = front ps text [] e in
    let c : 0 ≡ length text - f.size = ap length f.is_rest ∙ length-drop f.size text in
    subst (MatchesParts ps) (take_all f.size text (omega arith)) f.matched

pub best_whole : (ps : List Part) (text : Text) (left : ℕ) → Best true ps text left → (left ≡ 0) ↔ MatchesParts ps text
best_whole ps text left b = (there, back)
  where
    there : left ≡ 0 → MatchesParts ps text
    there e = whole_back ps text (subst (Ends ps text) (nil_from_length b.rest (b.is_left ∙ e)) b.ends)

    back : MatchesParts ps text → left ≡ 0
    back m = let h : left ≤ 0 = b.best [] (whole ps text m) in omega arith

pub none_whole : (ps : List Part) (text : Text) → NoEnd ps text → MatchesParts ps text → ⊥
none_whole ps text none m = none [] (whole ps text m)
