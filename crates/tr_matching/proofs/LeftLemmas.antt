-- Laws of matchings.
use Rattle.std.proofs.Common.{◌≡◌, ◌≢◌, ℕ, zero, suc, ◌≤◌, ◌<◌, ◌⊎◌, ◌↔◌, true, false, ◌&&◌, List, [], ◌∷◌, ◌++◌, length, take, drop, filter, refl, sym, ◌∙◌, ap, subst, arith, inl, inr, length-append}
use Rattle.std.specs.List.{AllByRecursion as Each}
use Rattle.std.proofs.Math.Seq.{get_or-append_seam}
use Rattle.std.proofs.Math.ListN.{get_or-append}
use Rattle.std.proofs.lemmas.List.{get_or-take, take_all}
use Rattle.std.proofs.lemmas.List.Elements.{filter_agree}
use Rattle.std.proofs.lemmas.Bool.{and_parts, and_from, cases_Bool}
use Rattle.rk_calls.specs.declared.call.Call.{Call}
use Rattle.rk_calls.specs.declared.answer.Answer.{Answer}
use Rattle.rk_calls.specs.declared.drive.Spoke.TheVariants.{Call as Calls, Exit as Exits}
use Rattle.tr_record.specs.declared.records.Record.{Record}
use Rattle.tr_record.specs.declared.steps.Step.{Step}
use Rattle.tr_record.specs.Rec.{rec_at}
use Rattle.tr_matching.specs.AnswerLaws.{same-answer, same-itself}
use Rattle.tr_matching.specs.Answers.{same_answer}
use Rattle.tr_matching.proofs.EachLemmas.{each-all, each-map, each-both, each-filter, each-from_filter, each-to_filter, filter-both, filter-true}
use Rattle.tr_matching.specs.Left.{begins, left, is_answered, next_in, next_at, AreTalkAlike, BeginsWith, GoesOnSo, IsParted, IsMatching}
use Rattle.tr_matching.specs.Matching.{AllSay}
use Rattle.tr_matching.specs.Steps.{answers_of, no_step, step, step_at, IsFirstDifference}

-- ---- lists by what is left of them

at-drop : (n : ℕ) (xs ys : List Step) (y : Step) → drop n xs ≡ y ∷ ys → (n < length xs) × (step_at n xs ≡ y) × (take (suc n) xs ≡ take n xs ++ y ∷ [])
at-drop zero [] ys y e = absurd cc
at-drop (suc n) [] ys y e = absurd cc
at-drop zero (x ∷ xs) ys y e = let h : x ≡ y = cc in (omega arith, h, ap (λ z. z ∷ []) h)
at-drop (suc n) (x ∷ xs) ys y e =
    let r = at-drop n xs ys y e in
    let lt : n < length xs = r.0 in
    (omega arith, r.1, ap (λ l. x ∷ l) r.2)

past-drop : (n : ℕ) (xs : List Step) → drop n xs ≡ [] → length xs ≤ n
past-drop zero [] e = omega arith
past-drop zero (x ∷ xs) e = absurd cc
past-drop (suc n) [] e = omega arith
past-drop (suc n) (x ∷ xs) e = let le = past-drop n xs e in omega arith

take-drop : (n : ℕ) (xs : List Step) → take n xs ++ drop n xs ≡ xs
take-drop zero xs = refl
take-drop (suc n) [] = refl
take-drop (suc n) (x ∷ xs) = ap (λ l. x ∷ l) (take-drop n xs)

-- ---- first answers

begins-append : (answers : List Answer) (a : Answer) (steps : List Step) → begins (answers ++ a ∷ []) steps ≡ (begins answers steps && begins (a ∷ []) (drop (length answers) steps))
begins-append [] a steps = refl
begins-append (x ∷ answers) a [] = refl
begins-append (x ∷ answers) a (st ∷ steps) =
    elim (same_answer st.answer x) as (λ b. (b && begins (answers ++ a ∷ []) steps) ≡ ((b && begins answers steps) && begins (a ∷ []) (drop (length answers) steps))) [
      | true ↦ begins-append answers a steps
      | false ↦ refl
    ]

pub begins-itself : (steps more : List Step) → begins (answers_of steps) (steps ++ more) ≡ true
begins-itself [] more = refl
begins-itself (st ∷ steps) more = and_from (same_answer st.answer st.answer) (begins (answers_of steps) (steps ++ more)) (same-itself st.answer) (begins-itself steps more)

pub answers-push : (steps : List Step) (cost : ℕ) (call : Call) (a : Answer) → answers_of (steps ++ step cost call a ∷ []) ≡ answers_of steps ++ a ∷ []
answers-push [] cost call a = refl
answers-push (st ∷ steps) cost call a = ap (λ l. st.answer ∷ l) (answers-push steps cost call a)

length-answers : (steps : List Step) → length (answers_of steps) ≡ length steps
length-answers [] = refl
length-answers (st ∷ steps) = ap (λ n. suc n) (length-answers steps)

-- those that are left behind one answer more
pub left-more : (old : List Record) (answers : List Answer) (a : Answer) (numbers : List ℕ) → left old (answers ++ a ∷ []) numbers ≡ filter (is_answered old (length answers) a) (left old answers numbers)
left-more old answers a numbers =
    filter_agree (λ i. begins (answers ++ a ∷ []) (rec_at i old).steps) (λ i. begins answers (rec_at i old).steps && is_answered old (length answers) a i) (λ i. begins-append answers a (rec_at i old).steps) numbers
    ∙ filter-both (λ i. begins answers (rec_at i old).steps) (is_answered old (length answers) a) numbers

-- ---- a matching begins

pub matching-start : (old : List Record) (numbers : List ℕ) → IsMatching old numbers [] numbers
matching-start old numbers = record {
  left_are = sym (filter-true numbers);
  alike = each-all (λ i. BeginsWith [] (rec_at i old)) (λ i. refl) numbers;
  others = each-all (λ i. (begins [] (rec_at i old).steps ≡ true) ⊎ IsParted [] (rec_at i old)) (λ i. inl refl) numbers;
}

-- ---- a step

one-answered : (st : Step) (a : Answer) (rest : List Step) → begins (a ∷ []) (st ∷ rest) ≡ true → st.answer ≡ a
one-answered st a rest h = same-answer st.answer a (and_parts (same_answer st.answer a) (begins [] rest) h).0

one-other : (st : Step) (a : Answer) (rest : List Step) → begins (a ∷ []) (st ∷ rest) ≡ false → st.answer ≢ a
one-other st a rest h e =
    let t : begins (a ∷ []) (st ∷ rest) ≡ true = and_from (same_answer st.answer a) (begins [] rest) (ap (λ x. same_answer x a) e ∙ same-itself a) refl in
    absurd (let f : false ≡ true = sym h ∙ t in cc)

module _ (rec : Record) (steps : List Step) (call : Call) (cost : ℕ) (a : Answer) where
  abbrev pub more : List Step
  more = steps ++ step cost call a ∷ []

  pub length-more : length more ≡ suc (length steps)
  length-more = let e = length-append steps (step cost call a ∷ []) in omega arith

  -- a record that begins so and asks this, and was answered so
  begins-more : BeginsWith steps rec → next_at (length steps) rec ≡ Calls call cost → begins (a ∷ []) (drop (length steps) rec.steps) ≡ true → BeginsWith more rec
  begins-more b n t = by (drop (length steps) rec.steps) refl n t
    where
      by : (rest : List Step) → drop (length steps) rec.steps ≡ rest → next_in rec.exit rec.exit_cost rest ≡ Calls call cost → begins (a ∷ []) rest ≡ true → BeginsWith more rec
      by [] e n t = absurd (let z : Exits rec.exit rec.exit_cost ≡ Calls call cost = n in cc)
      by (st ∷ rest) e n t =
          let d = at-drop (length steps) rec.steps rest st e in
          let ea = one-answered st a rest t in
          let z : Calls st.call st.cost ≡ Calls call cost = n in
          let ec : st.call ≡ call = cc in
          let ek : st.cost ≡ cost = cc in
          let es : st ≡ step cost call a = ap (λ c. step c st.call st.answer) ek ∙ ap (λ c. step cost c st.answer) ec ∙ ap (step cost call) ea in
          ap (λ n. take n rec.steps) length-more ∙ d.2 ∙ ap (λ l. l ++ st ∷ []) b ∙ ap (λ s. steps ++ s ∷ []) es

  pub last-answer : (step_at (length steps) more).answer ≡ a
  last-answer = ap (λ (s : Step). s.answer) (get_or-append_seam steps (step cost call a) [] no_step)

  -- a record that begins so and asks something, and was answered otherwise
  pub differs-here : BeginsWith steps rec → next_at (length steps) rec ≡ Calls call cost → begins (a ∷ []) (drop (length steps) rec.steps) ≡ false → IsFirstDifference rec.steps more (length steps)
  differs-here b n t = by (drop (length steps) rec.steps) refl n t
    where
      by : (rest : List Step) → drop (length steps) rec.steps ≡ rest → next_in rec.exit rec.exit_cost rest ≡ Calls call cost → begins (a ∷ []) rest ≡ false → IsFirstDifference rec.steps more (length steps)
      by [] e n t = absurd (let z : Exits rec.exit rec.exit_cost ≡ Calls call cost = n in cc)
      by (st ∷ rest) e n t =
          let d = at-drop (length steps) rec.steps rest st e in
          let ne = one-other st a rest t in
          let ex : (step_at (length steps) rec.steps).answer ≡ st.answer = ap (λ (s : Step). s.answer) d.1 in
          record {
            here = (d.0, let l = length-more in omega arith);
            differ = λ same. ne (sym ex ∙ same ∙ last-answer);
            before = λ k lt.
                ap (λ (s : Step). s.answer)
                (sym (get_or-take (length steps) rec.steps k no_step lt) ∙ ap (λ l. step_at k l) b ∙ sym (get_or-append steps (step cost call a ∷ []) no_step k lt));
          }

  -- and one that differed before does so still
  pub differs-still : (k : ℕ) → IsFirstDifference rec.steps steps k → IsFirstDifference rec.steps more k
  differs-still k d =
      let lt : k < length steps = d.here.1 in
      let at : (j : ℕ) → j < length steps → (step_at j more).answer ≡ (step_at j steps).answer = λ j h. ap (λ (s : Step). s.answer) (get_or-append steps (step cost call a ∷ []) no_step j h) in
      record {
        here = (d.here.0, let l = length-more in omega arith);
        differ = λ same. d.differ (same ∙ at k lt);
        before = λ j h. d.before j h ∙ sym (at j (omega arith));
      }

module _ (old : List Record) (numbers : List ℕ) (steps : List Step) (now : List ℕ) (m : IsMatching old numbers steps now) where
  -- what holds of those that are left holds of each that begins so
  pub of-left : (P : ℕ → Type 0) → Each P now → Each (λ i. begins (answers_of steps) (rec_at i old).steps ≡ true → P i) numbers
  of-left P e = each-from_filter P (λ i. begins (answers_of steps) (rec_at i old).steps) numbers (subst (Each P) m.left_are e)

  -- The records that are left all ask this call at this cost. Those with another answer than the world's are dropped.
  pub matching-step : (call : Call) (cost : ℕ) (a : Answer) → AllSay old (length steps) (Calls call cost) now → IsMatching old numbers (steps ++ step cost call a ∷ []) (filter (is_answered old (length steps) a) now)
  matching-step call cost a says =
      let more = steps ++ step cost call a ∷ [] in
      let ea : answers_of more ≡ answers_of steps ++ a ∷ [] = answers-push steps cost call a in
      let en : length (answers_of steps) ≡ length steps = length-answers steps in
      let here : Each (λ i. BeginsWith steps (rec_at i old) × (next_at (length steps) (rec_at i old) ≡ Calls call cost)) now =
      each-both (λ i. BeginsWith steps (rec_at i old)) (λ i. next_at (length steps) (rec_at i old) ≡ Calls call cost) now m.alike says in
      let every = of-left (λ i. BeginsWith steps (rec_at i old) × (next_at (length steps) (rec_at i old) ≡ Calls call cost)) here in
      record {
        left_are =
            ap (filter (is_answered old (length steps) a)) m.left_are
            ∙ ap (λ n. filter (is_answered old n a) (left old (answers_of steps) numbers)) (sym en)
            ∙ sym (left-more old (answers_of steps) a numbers)
            ∙ ap (λ l. left old l numbers) (sym ea);
        alike =
            each-to_filter (λ i. BeginsWith more (rec_at i old)) (is_answered old (length steps) a) now
            (each-map (λ i. BeginsWith steps (rec_at i old) × (next_at (length steps) (rec_at i old) ≡ Calls call cost)) (λ i. is_answered old (length steps) a i ≡ true → BeginsWith more (rec_at i old))
            (λ i h t. begins-more (rec_at i old) steps call cost a h.0 h.1 t) now here);
        others =
            each-map
            (λ i. ((begins (answers_of steps) (rec_at i old).steps ≡ true) ⊎ IsParted steps (rec_at i old)) × (begins (answers_of steps) (rec_at i old).steps ≡ true → BeginsWith steps (rec_at i old) × (next_at (length steps) (rec_at i old) ≡ Calls call cost)))
            (λ i. (begins (answers_of more) (rec_at i old).steps ≡ true) ⊎ IsParted more (rec_at i old))
            (λ i h. other call cost a i h.0 h.1) numbers
            (each-both (λ i. (begins (answers_of steps) (rec_at i old).steps ≡ true) ⊎ IsParted steps (rec_at i old)) (λ i. begins (answers_of steps) (rec_at i old).steps ≡ true → BeginsWith steps (rec_at i old) × (next_at (length steps) (rec_at i old) ≡ Calls call cost)) numbers m.others every);
      }
    where
      other : (call : Call) (cost : ℕ) (a : Answer) (i : ℕ) → (begins (answers_of steps) (rec_at i old).steps ≡ true) ⊎ IsParted steps (rec_at i old) → (begins (answers_of steps) (rec_at i old).steps ≡ true → BeginsWith steps (rec_at i old) × (next_at (length steps) (rec_at i old) ≡ Calls call cost))
          → (begins (answers_of (steps ++ step cost call a ∷ [])) (rec_at i old).steps ≡ true) ⊎ IsParted (steps ++ step cost call a ∷ []) (rec_at i old)
      other call cost a i (inr p) h = inr (p.0, differs-still (rec_at i old) steps call cost a p.0 p.1)
      other call cost a i (inl b) h =
          let s = h b in
          let same : begins (answers_of (steps ++ step cost call a ∷ [])) (rec_at i old).steps ≡ (begins (answers_of steps) (rec_at i old).steps && begins (a ∷ []) (drop (length steps) (rec_at i old).steps)) =
          ap (λ l. begins l (rec_at i old).steps) (answers-push steps cost call a) ∙ begins-append (answers_of steps) a (rec_at i old).steps
          ∙ ap (λ n. begins (answers_of steps) (rec_at i old).steps && begins (a ∷ []) (drop n (rec_at i old).steps)) (length-answers steps) in
          elim (cases_Bool (begins (a ∷ []) (drop (length steps) (rec_at i old).steps))) [
            | inl t ↦ inl (same ∙ and_from (begins (answers_of steps) (rec_at i old).steps) (begins (a ∷ []) (drop (length steps) (rec_at i old).steps)) b t)
            | inr f ↦ inr (length steps, differs-here (rec_at i old) steps call cost a s.0 s.1 f)
          ]

-- ---- none left, and the end

begins_with-goes_on : (steps : List Step) (rec : Record) → BeginsWith steps rec → GoesOnSo steps rec
begins_with-goes_on steps rec b = (drop (length steps) rec.steps, sym (take-drop (length steps) rec.steps) ∙ ap (λ l. l ++ drop (length steps) rec.steps) b)

goes_on-begins : (steps : List Step) (rec : Record) → GoesOnSo steps rec → begins (answers_of steps) rec.steps ≡ true
goes_on-begins steps rec g = ap (begins (answers_of steps)) g.1 ∙ begins-itself steps g.0

-- None is left exactly where the talk so far goes on in no record of the key.
pub none-left : (old : List Record) (numbers : List ℕ) (steps : List Step) (now : List ℕ) → IsMatching old numbers steps now → (now ≡ []) ↔ Each (λ i. ¬ GoesOnSo steps (rec_at i old)) numbers
none-left old numbers steps now m = (none, some now m.alike m.left_are)
  where
    none : now ≡ [] → Each (λ i. ¬ GoesOnSo steps (rec_at i old)) numbers
    none e =
        each-map (λ i. begins (answers_of steps) (rec_at i old).steps ≡ true → ⊥) (λ i. ¬ GoesOnSo steps (rec_at i old)) (λ i h g. h (goes_on-begins steps (rec_at i old) g)) numbers
        (of-left old numbers steps now m (λ i. ⊥) (subst (Each (λ i. ⊥)) (sym e) tt))

    some : (l : List ℕ) → Each (λ i. BeginsWith steps (rec_at i old)) l → l ≡ left old (answers_of steps) numbers → Each (λ i. ¬ GoesOnSo steps (rec_at i old)) numbers → l ≡ []
    some [] b e h = refl
    some (i ∷ l) b e h =
        let kept : Each (λ j. ¬ GoesOnSo steps (rec_at j old)) (i ∷ l) =
        subst (Each (λ j. ¬ GoesOnSo steps (rec_at j old))) (sym e) (each-filter (λ j. ¬ GoesOnSo steps (rec_at j old)) (λ j. begins (answers_of steps) (rec_at j old).steps) numbers h) in
        absurd (kept.0 (begins_with-goes_on steps (rec_at i old) b.0))

-- So no record of the key has the talk that comes of it.
pub none-recorded : (old : List Record) (numbers : List ℕ) (steps more : List Step) (whole : Record) → IsMatching old numbers steps [] → whole.steps ≡ steps ++ more → Each (λ i. ¬ AreTalkAlike (rec_at i old) whole) numbers
none-recorded old numbers steps more whole m e =
    each-map (λ i. ¬ GoesOnSo steps (rec_at i old)) (λ i. ¬ AreTalkAlike (rec_at i old) whole) (λ i h same. h (more, same.0 ∙ e)) numbers ((none-left old numbers steps [] m).0 refl)

-- At the end a record that is left has the talk.
pub left-recorded : (rec whole : Record) → BeginsWith whole.steps rec → next_at (length whole.steps) rec ≡ Exits whole.exit whole.exit_cost → AreTalkAlike rec whole
left-recorded rec whole b n = by (drop (length whole.steps) rec.steps) refl n
  where
    by : (rest : List Step) → drop (length whole.steps) rec.steps ≡ rest → next_in rec.exit rec.exit_cost rest ≡ Exits whole.exit whole.exit_cost → AreTalkAlike rec whole
    by [] e n =
        let z : Exits rec.exit rec.exit_cost ≡ Exits whole.exit whole.exit_cost = n in
        (sym (take_all (length whole.steps) rec.steps (past-drop (length whole.steps) rec.steps e)) ∙ b, cc, cc)
    by (st ∷ rest) e n = absurd (let z : Calls st.call st.cost ≡ Exits whole.exit whole.exit_cost = n in cc)
