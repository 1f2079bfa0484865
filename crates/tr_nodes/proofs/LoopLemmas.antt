-- What holds as a loop goes over nodes, a talk's steps, or talks.
use Rattle.std.proofs.Common.{◌≡◌, ◌∙◌, refl, sym, ap, subst, ℕ, zero, suc, ◌+◌, ◌-◌, ◌<◌, ◌≤◌, inl, inr, Bool, ltb, List, [], ◌∷◌, ◌++◌, Some, None, length, map, take, drop, get_or, slice_get, arith}
use Rattle.std.proofs.lemmas.Bool.{ltb-true, ltb-false}
use Rattle.std.specs.Bool.{Decides}
use Rattle.std.proofs.lemmas.List.{length-append, drop_more, drop_all, take_more, take_all}
use Rattle.std.proofs.lemmas.Grind.{fold-append}
use Rattle.tr_nodes.specs.Nodes.{Node}
use Rattle.tr_nodes.specs.Tails.{Tail, with_tail, needing, needed, head_in, steps_at, AreInside, Uses, UsesAll}
use Rattle.tr_nodes.proofs.GetLemmas.{by_cases, get_below, get_read}
use Rattle.tr_nodes.proofs.TailLemmas.{IsBuilt, built_none, grows, steps_head, head_stays}

-- ---- what holds of all places before one, and at it

module _ {Y : Type 0} (P : ℕ → Y → Type 0) where
  abbrev pub HoldsBelow : List Y → ℕ → Type 0
  HoldsBelow ys i = (k : ℕ) (y : Y) → k < i → slice_get ys k ≡ Some y → P k y

  pub holds_next : (ys : List Y) (i : ℕ) (y d : Y) → i < length ys → y ≡ get_or ys i d → P i y → HoldsBelow ys i → HoldsBelow ys (i + 1)
  holds_next ys i y d lt e p so k z less at =
      by_cases (ltb k i) (P k z)
      (λ h. so k z (ltb-true k i h) at)
      (λ h.
      let ge = ltb-false k i h in
      let same : k ≡ i = omega arith in
      let both : Some z ≡ Some y = sym at ∙ ap (slice_get ys) same ∙ get_read ys i y d lt e in
      let is : z ≡ y = cc in
      subst (λ (n : ℕ). P n z) (sym same) (subst (P i) (sym is) p))

  pub holds_all : (ys : List Y) (i : ℕ) → length ys ≤ i → HoldsBelow ys i → (k : ℕ) (y : Y) → slice_get ys k ≡ Some y → P k y
  holds_all ys i le so k y at = let lt = get_below ys k y at in so k y (omega arith) at

module _ {X : Type 0} (same : X → X → Bool) (decides : (a b : X) → Decides (same a b) (a ≡ b)) where
  -- ---- a talk that is put, from its last step to its first

  pub record PutSoFar (first : List (Tail X)) (steps : List X) (i : ℕ) (tails : List (Tail X)) (head : ℕ) : Type 0 where
    pub tails_are : tails ≡ needing same first (drop (length steps - i) steps)
    pub number : head ≡ head_in same tails (drop (length steps - i) steps)
    pub within : head ≤ length tails

  pub put_none : (first : List (Tail X)) (steps : List X) → PutSoFar first steps 0 first 0
  put_none first steps =
      let all : drop (length steps - 0) steps ≡ [] = drop_all (length steps - 0) steps (omega arith) in
      record { tails_are = sym (ap (needing same first) all); number = sym (ap (head_in same first) all); within = omega arith }

  pub put_next : (first : List (Tail X)) (steps : List X) (i n : ℕ) (tails : List (Tail X)) (head : ℕ) (step d : X) (new : List (Tail X)) (now : ℕ) → i < length steps → n ≡ length steps - 1 - i → step ≡ get_or steps n d
      → new ≡ with_tail same tails (record { first = step; rest = steps_at tails head }) → now ≡ head_in same new (step ∷ steps_at tails head) → now ≤ length new
      → PutSoFar first steps i tails head → PutSoFar first steps (i + 1) new now
  put_next first steps i n tails head step d new now lt place read grown number within so =
      let rest = drop (length steps - i) steps in
      let here : steps_at tails head ≡ rest = ap (steps_at tails) so.number ∙ steps_head same decides tails rest (let e = so.number in let w = so.within in omega arith) in
      let before : n + 1 ≡ length steps - i = omega arith in
      let at : length steps - (i + 1) ≡ n = omega arith in
      let longer : drop (length steps - (i + 1)) steps ≡ step ∷ rest =
      ap (λ k. drop k steps) at ∙ drop_more steps n d (omega arith) ∙ ap (λ (x : X). x ∷ drop (n + 1) steps) (sym read) ∙ ap (λ k. step ∷ drop k steps) before
      in
      let tail : List X → Tail X = λ l. record { first = step; rest = l } in
      record {
        tails_are =
            grown ∙ ap (λ l. with_tail same tails (tail l)) here ∙ ap (λ l. with_tail same l (tail rest)) so.tails_are ∙ sym (ap (needing same first) longer);
        number = number ∙ ap (λ l. head_in same new (step ∷ l)) here ∙ sym (ap (head_in same new) longer);
        within = within;
      }

  pub put_all : (first : List (Tail X)) (steps : List X) (i : ℕ) (tails : List (Tail X)) (head : ℕ) → length steps ≤ i → PutSoFar first steps i tails head → (tails ≡ needing same first steps) × (head ≡ head_in same tails steps)
  put_all first steps i tails head le so =
      let none : length steps - i ≡ 0 = omega arith in
      let all : drop (length steps - i) steps ≡ steps = ap (λ k. drop k steps) none in
      (so.tails_are ∙ ap (needing same first) all, so.number ∙ ap (head_in same tails) all)

  -- ---- talks that are put, one after the other

  -- the numbers of talks among the tails that they need stay, as one talk more is put
  abbrev pub FitIn : List (Tail X) → List (List X) → Type 0
  FitIn tails [] = Unit {0}
  FitIn tails (talk ∷ talks) = (head_in same tails talk ≤ length tails) × FitIn tails talks

  fit_more : (tails more : List (Tail X)) (talks : List (List X)) → FitIn tails talks → FitIn (tails ++ more) talks
  fit_more tails more [] h = tt
  fit_more tails more (talk ∷ talks) h =
      let e = head_stays same decides tails more talk h.0 in
      let low = h.0 in
      let long = length-append tails more in
      (omega arith, fit_more tails more talks h.1)

  fit_push : (tails : List (Tail X)) (talks : List (List X)) (talk : List X) → FitIn tails talks → head_in same tails talk ≤ length tails → FitIn tails (talks ++ talk ∷ [])
  fit_push tails [] talk h le = (le, tt)
  fit_push tails (other ∷ talks) talk h le = (h.0, fit_push tails talks talk h.1 le)

  heads_stay : (tails more : List (Tail X)) (talks : List (List X)) → FitIn tails talks → map (head_in same (tails ++ more)) talks ≡ map (head_in same tails) talks
  heads_stay tails more [] h = refl
  heads_stay tails more (talk ∷ talks) h =
      ap (λ (n : ℕ). n ∷ map (head_in same (tails ++ more)) talks) (head_stays same decides tails more talk h.0) ∙ ap (λ l. head_in same tails talk ∷ l) (heads_stay tails more talks h.1)

  map_push : (tails : List (Tail X)) (talks : List (List X)) (talk : List X) → map (head_in same tails) (talks ++ talk ∷ []) ≡ map (head_in same tails) talks ++ head_in same tails talk ∷ []
  map_push tails [] talk = refl
  map_push tails (other ∷ talks) talk = ap (λ l. head_in same tails other ∷ l) (map_push tails talks talk)

  pub record TalksPut (talks : List (List X)) (i : ℕ) (tails : List (Tail X)) (heads : List ℕ) : Type 0 where
    pub tails_are : tails ≡ needed same (take i talks)
    pub built : IsBuilt same decides tails
    pub fit : FitIn tails (take i talks)
    pub numbers : heads ≡ map (head_in same tails) (take i talks)

  pub talks_none : (talks : List (List X)) (tails : List (Tail X)) (heads : List ℕ) → tails ≡ [] → heads ≡ [] → TalksPut talks 0 tails heads
  talks_none talks tails heads e f = record { tails_are = e; built = subst (IsBuilt same decides) (sym e) (built_none same decides); fit = tt; numbers = f }

  pub talks_next : (talks : List (List X)) (i : ℕ) (talk d : List X) (tails new : List (Tail X)) (heads more : List ℕ) (head : ℕ) → i < length talks → talk ≡ get_or talks i d → new ≡ needing same tails talk → head ≡ head_in same new talk → more ≡ heads ++ head ∷ []
      → TalksPut talks i tails heads → TalksPut talks (i + 1) new more
  talks_next talks i talk d tails new heads more head lt read grown number pushed so =
      let g = grows same decides tails so.built talk in
      let first = take i talks in
      let next : take (i + 1) talks ≡ first ++ talk ∷ [] = take_more talks i d lt ∙ ap (λ (t : List X). first ++ t ∷ []) (sym read) in
      let is : new ≡ tails ++ g.more = grown ∙ g.adds in
      let fit : FitIn new first = subst (λ (l : List (Tail X)). FitIn l first) (sym is) (fit_more tails g.more first so.fit) in
      let low : head_in same new talk ≤ length new = subst (λ (l : List (Tail X)). head_in same l talk ≤ length l) (sym grown) g.head in
      record {
        tails_are = grown ∙ ap (λ l. needing same l talk) so.tails_are ∙ sym (fold-append (needing same) [] first (talk ∷ [])) ∙ sym (ap (needed same) next);
        built = subst (IsBuilt same decides) (sym grown) g.built;
        fit = subst (FitIn new) (sym next) (fit_push new first talk fit low);
        numbers =
            pushed ∙ ap (λ l. l ++ head ∷ []) so.numbers ∙ ap (λ l. l ++ head ∷ []) (sym (ap (λ l. map (head_in same l) first) is ∙ heads_stay tails g.more first so.fit))
            ∙ ap (λ (n : ℕ). map (head_in same new) first ++ n ∷ []) number ∙ sym (map_push new first talk) ∙ sym (ap (map (head_in same new)) next);
      }

  pub talks_all : (talks : List (List X)) (i : ℕ) (tails : List (Tail X)) (heads : List ℕ) → length talks ≤ i → TalksPut talks i tails heads → (tails ≡ needed same talks) × (heads ≡ map (head_in same tails) talks)
  talks_all talks i tails heads le so =
      let all = take_all i talks le in
      (so.tails_are ∙ ap (needed same) all, so.numbers ∙ ap (map (head_in same tails)) all)

-- ---- nodes in use, talk by talk

split_at : (heads : List ℕ) (i head d : ℕ) → i < length heads → head ≡ get_or heads i d → drop i heads ≡ head ∷ drop (i + 1) heads
split_at heads i head d lt read = drop_more heads i d lt ∙ ap (λ (n : ℕ). n ∷ drop (i + 1) heads) (sym read)

module _ {X : Type 0} where
  pub one_use : (nodes : List (Node X)) (used head a b : ℕ) → Uses nodes used head a → Uses nodes used head b → a ≡ b
  one_use nodes used head a b p q =
      elim p [
        | inl p ↦ elim q [ inl q ↦ p.1 ∙ sym q.1 | inr q ↦ let x = p.0 in let y = q.0 in absurd (omega arith) ]
        | inr p ↦ elim q [ inl q ↦ let x = p.0 in let y = q.0 in absurd (omega arith) | inr q ↦ p.3 ∙ sym q.3 ]
      ]

  -- what is used in all is what is used so far, and then what the other talks use
  pub record UsedSoFar (nodes : List (Node X)) (heads : List ℕ) (i used : ℕ) : Type 0 where
    pub within : used ≤ length nodes
    pub on : (now : ℕ) → UsesAll nodes used (drop i heads) now → UsesAll nodes 0 heads now
    pub back : (now : ℕ) → UsesAll nodes 0 heads now → UsesAll nodes used (drop i heads) now

  pub used_none : (nodes : List (Node X)) (heads : List ℕ) → UsedSoFar nodes heads 0 0
  used_none nodes heads = record { within = omega arith; on = λ now h. h; back = λ now h. h }

  pub used_next : (nodes : List (Node X)) (heads : List ℕ) (i used head d now : ℕ) → i < length heads → head ≡ get_or heads i d → Uses nodes used head now → now ≤ length nodes → UsedSoFar nodes heads i used → UsedSoFar nodes heads (i + 1) now
  used_next nodes heads i used head d now lt read uses le so =
      let split = split_at heads i head d lt read in
      record {
        within = le;
        on = λ end h. so.on end (subst (λ (l : List ℕ). UsesAll nodes used l end) (sym split) (now, uses, h));
        back = λ end h.
            let all : UsesAll nodes used (head ∷ drop (i + 1) heads) end = subst (λ (l : List ℕ). UsesAll nodes used l end) split (so.back end h) in
            subst (λ (n : ℕ). UsesAll nodes n (drop (i + 1) heads) end) (one_use nodes used head all.0 now all.1 uses) all.2;
      }

  pub used_not : (nodes : List (Node X)) (heads : List ℕ) (i used head d : ℕ) → i < length heads → head ≡ get_or heads i d → ((now : ℕ) → Uses nodes used head now → ⊥) → UsedSoFar nodes heads i used → (end : ℕ) → UsesAll nodes 0 heads end → ⊥
  used_not nodes heads i used head d lt read none so end h =
      let all : UsesAll nodes used (head ∷ drop (i + 1) heads) end = subst (λ (l : List ℕ). UsesAll nodes used l end) (split_at heads i head d lt read) (so.back end h) in
      none all.0 all.1

  pub used_all : (nodes : List (Node X)) (heads : List ℕ) (i used : ℕ) → length heads ≤ i → UsedSoFar nodes heads i used → (end : ℕ) → (used ≡ end → UsesAll nodes 0 heads end) × (UsesAll nodes 0 heads end → used ≡ end)
  used_all nodes heads i used le so end =
      let none = drop_all i heads le in (
        λ e. so.on end (subst (λ (l : List ℕ). UsesAll nodes used l end) (sym none) e),
        λ h. let f : UsesAll nodes used [] end = subst (λ (l : List ℕ). UsesAll nodes used l end) none (so.back end h) in f,
      )

  -- who uses nodes has a number of one, or 0
  pub uses_inside : (nodes : List (Node X)) (used : ℕ) (heads : List ℕ) (now : ℕ) → used ≤ length nodes → UsesAll nodes used heads now → AreInside nodes heads
  uses_inside nodes used [] now le h k head at = absurd (let e : None ≡ Some head = at in cc)
  uses_inside nodes used (first ∷ heads) now le h zero head at =
      let e : first ≡ head = cc in
      elim h.1 [ inl a ↦ let low = a.0 in omega arith | inr a ↦ let low = a.1 in omega arith ]
  uses_inside nodes used (first ∷ heads) now le h (suc k) head at =
      let within : h.0 ≤ length nodes = elim h.1 [ inl a ↦ let e = a.1 in omega arith | inr a ↦ let low = a.1 in let e = a.3 in omega arith ] in
      uses_inside nodes h.0 heads now within h.2 k head at
