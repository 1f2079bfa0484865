-- Nodes and records are read again as they are spelt.
use Rattle.std.proofs.Common.{◌≡◌, ℕ, ◌+◌, ◌^◌, ◌<◌, ◌≤◌, true, false, not, ◌&&◌, cond, nat_lt, nat_le, List, [], ◌∷◌, ◌++◌, length, take, Some, slice_get, refl, sym, ap, subst, ◌∙◌, append_assoc, arith}
use Rattle.std.specs.Prelude.{fold}
use Rattle.std.specs.Int.{w64}
use Rattle.std.specs.List.{flat_map, position_or_len, AllByRecursion}
use Rattle.std.proofs.lemmas.Bool.{le-leb, lt-ltb}
use Rattle.std.proofs.Math.Seq.{get_or-append_seam}
use Rattle.std.proofs.lemmas.List.{take_at, length-append}
use Rattle.std.proofs.lemmas.List.Sums.{sum_by-cons}
use Rattle.rk_base.specs.Text.{Text}
use Rattle.tr_nodes.specs.Tails.{Tail, has, same_tail, needing, head_in, steps_at}
use Rattle.tr_nodes.proofs.GetLemmas.{by_cases, get_below, get_front, get_last, found}
use Rattle.tr_nodes.proofs.TailLemmas.{tail_decides, grows, grows_all, steps_head, steps_stay, head_stays}
use Rattle.tr_record.specs.Rec.{count_of, fresh_rec, no_key, rec_at, AreNumbered}
use Rattle.tr_record.specs.declared.steps.Step.{Step}
use Rattle.tr_record.specs.declared.records.Record.{Record}
use Rattle.tr_parts.specs.Piece.{Piece, blob, ◌⊕◌, each, byte, number, counted}
use Rattle.tr_codec.specs.Pieces.{var_piece, key_piece, call_piece, answer_piece}
use Rattle.tr_codec.specs.Same.{same_step}
use Rattle.tr_codec.specs.Spelling.{step_piece, node_piece, record_piece, talks}
use Rattle.tr_codec.specs.Fits.{FitsStep, FitsRecord, Fits, paid}
use Rattle.tr_codec.specs.Reading.{◌>>=◌, given, number_at, byte_at, counted_at, key_at, call_at, answer_at, next_rec, step_at, tail_of, tail_paid, is_new, node_at, Row, row_at, record_at}
use Rattle.tr_parts.proofs.AgainLemmas.{Again, again_last, again_given, Items}
use Rattle.tr_codec.proofs.SameLemmas.{step_decides}
use Rattle.tr_codec.proofs.TableAgain.{Covers, both_covered, each_covered, Long, long_left, long_number, Back, back_bind, back_number, back_byte, back_counted, back_key, back_call, back_answer}
use Rattle.tr_codec.proofs.NodesExact.{Built, FitsTail}

-- ---- what talks need

push_all : (xs : List (Tail Step)) (x : Tail Step) → AllByRecursion FitsTail xs → FitsTail x → AllByRecursion FitsTail (xs ++ x ∷ [])
push_all [] x h p = (p, tt)
push_all (y ∷ ys) x h p = (h.0, push_all ys x h.1 p)

needing_fits : (front : List (Tail Step)) (steps : List Step) → AllByRecursion FitsTail front → AllByRecursion FitsStep steps → paid steps 0 < 2 ^ 64 → AllByRecursion FitsTail (needing same_step front steps)
needing_fits front [] h f less = h
needing_fits front (step ∷ steps) h f less =
    let mid = needing same_step front steps in
    let tail : Tail Step = record { first = step; rest = steps } in
    let sum = sum_by-cons (λ (s : Step). s.cost) step steps in
    let before = needing_fits front steps h f.1 (omega arith) in
    elim (has same_step mid tail) as (λ b. AllByRecursion FitsTail (cond b mid (mid ++ tail ∷ []))) [ true ↦ before | false ↦ push_all mid tail before (record { step = f.0; paid = omega arith }) ]

pub needed_fit : (front : List (Tail Step)) (table : List Record) → AllByRecursion FitsTail front → AllByRecursion FitsRecord table → AllByRecursion FitsTail (fold (needing same_step) front (talks table))
needed_fit front [] h f = h
needed_fit front (rec ∷ table) h f = needed_fit (needing same_step front rec.steps) table (needing_fits front rec.steps h f.0.steps (let p = f.0.paid in omega arith)) f.1

abbrev pub IsIn : List (Tail Step) → Record → Type 0
IsIn tails rec = head_in same_step tails rec.steps ≤ length tails

pub needed_in : (front : List (Tail Step)) → Built front → (table : List Record) (all : List (Tail Step)) → all ≡ fold (needing same_step) front (talks table) → AllByRecursion (IsIn all) table
needed_in front built [] all e = tt
needed_in front built (rec ∷ table) all e =
    let mid = needing same_step front rec.steps in
    let g = grows same_step step_decides front built rec.steps in
    let later = grows_all same_step step_decides mid g.built (talks table) in
    let whole : all ≡ mid ++ later.more = e ∙ later.adds in
    let stays : head_in same_step all rec.steps ≡ head_in same_step mid rec.steps = ap (λ l. head_in same_step l rec.steps) whole ∙ head_stays same_step step_decides mid later.more rec.steps g.head in
    let long : length all ≡ length mid + length later.more = ap length whole ∙ length-append mid later.more in
    let low = g.head in
    (omega arith, needed_in mid g.built table all e)

-- ---- pieces

module _ (blobs : List Text) where
  pub each_long : {X : Type 0} (f : X → Piece) (xs : List X) → ((x : X) → Long blobs (f x)) → length xs ≤ length ((each f xs).spelt blobs)
  unfolding each
  each_long f [] long = omega arith
  each_long f (x ∷ xs) long = let more = each_long f xs long in let one = long x in omega (arith, length-append ((f x).spelt blobs) (flat_map (λ y. (f y).spelt blobs) xs))

  pub node_long : (tails : List (Tail Step)) (tail : Tail Step) → Long blobs (node_piece tails tail)
  node_long tails tail = long_left blobs (number (head_in same_step tails tail.rest)) (step_piece tail.first) (long_number blobs (head_in same_step tails tail.rest))

  record_long : (tails : List (Tail Step)) (rec : Record) → Long blobs (record_piece tails rec)
  record_long tails rec =
      long_left blobs (key_piece rec.key) (number (head_in same_step tails rec.steps) ⊕ byte rec.exit ⊕ number rec.exit_cost)
      (long_left blobs (counted blob rec.key.argv) (blob rec.key.wd ⊕ counted var_piece rec.key.vars) (long_left blobs (number (length rec.key.argv)) (each blob rec.key.argv) (long_number blobs (length rec.key.argv))))

module _ (blobs : List Text) (few : length blobs < 2 ^ 64) where
  pub back_step : (step : Step) → FitsStep step → Covers blobs (step_piece step).uses → Back blobs (step_at blobs) (step_piece step) step
  unfolding step_at
  back_step step fits covered =
      let c = both_covered blobs (number step.cost) (call_piece step.call ⊕ answer_piece step.answer) covered in
      let d = both_covered blobs (call_piece step.call) (answer_piece step.answer) c.1 in
      back_bind blobs (number_at w64) (λ cost bytes. call_at blobs bytes >>= λ call. answer_at blobs call.1 >>= λ answer. Some (record { cost = cost; call = call.0; answer = answer.0 }, answer.1))
      (number step.cost) (call_piece step.call ⊕ answer_piece step.answer) step.cost step
      (back_number blobs step.cost fits.cost)
      (back_bind blobs (call_at blobs) (λ call bytes. answer_at blobs bytes >>= λ answer. Some (record { cost = step.cost; call = call; answer = answer.0 }, answer.1))
      (call_piece step.call) (answer_piece step.answer) step.call step
      (back_call blobs few step.call fits.call d.0)
      (again_last (answer_at blobs) (λ answer. let it : Step = record { cost = step.cost; call = step.call; answer = answer } in it) ((answer_piece step.answer).spelt blobs) step.answer (back_answer blobs few step.answer fits.answer d.1)))

  -- ---- nodes

  fresh_tail : (all front rest : List (Tail Step)) (tail : Tail Step) → all ≡ front ++ tail ∷ rest → Built all → slice_get all (length front) ≡ Some tail → has same_step front tail ≡ false
  fresh_tail all front rest tail e built at =
      by_cases (has same_step front tail) (has same_step front tail ≡ false)
      (λ h.
      let p = position_or_len (same_tail same_step tail) front in
      let there : slice_get front p ≡ Some tail = found (same_tail same_step) (tail_decides same_step step_decides) front tail h in
      let less = get_below front p tail there in
      let is : p ≡ length front = built.apart p (length front) tail (ap (λ l. slice_get l p) e ∙ get_front front (tail ∷ rest) p less ∙ there) at in
      absurd (omega arith))
      (λ h. h)

  node_again : (all front rest : List (Tail Step)) (tail : Tail Step) → all ≡ front ++ tail ∷ rest → Built all → length all < 2 ^ 64 → FitsTail tail → Covers blobs (node_piece all tail).uses → Again (node_at blobs front) ((node_piece all tail).spelt blobs) tail
  unfolding node_at
  node_again all front rest tail e built small fits covered =
      let split : all ≡ (front ++ tail ∷ []) ++ rest = e ∙ sym (append_assoc front (tail ∷ []) rest) in
      let at : slice_get all (length front) ≡ Some tail =
      ap (λ l. slice_get l (length front)) split ∙ get_front (front ++ tail ∷ []) rest (length front) (omega (arith, length-append front (tail ∷ []))) ∙ get_last front tail
      in
      let head = head_in same_step all tail.rest in
      let low : head ≤ length front = built.below (length front) tail at in
      let under = get_below all (length front) tail at in
      let here : steps_at front head ≡ tail.rest =
      sym (steps_stay front (tail ∷ rest) head low) ∙ ap (λ l. steps_at l head) (sym e) ∙ steps_head same_step step_decides all tail.rest (omega arith)
      in
      let is : tail_of front head tail.first ≡ tail = ap (λ (l : List Step). let t : Tail Step = record { first = tail.first; rest = l } in t) here in
      let test : is_new front head (tail_of front head tail.first) ≡ true =
      ap (is_new front head) is
      ∙ ap (λ b. b && (not (has same_step front tail) && nat_lt (tail_paid tail) (2 ^ 64))) (le-leb head (length front) low)
      ∙ ap (λ b. not b && nat_lt (tail_paid tail) (2 ^ 64)) (fresh_tail all front rest tail e built at)
      ∙ lt-ltb (tail_paid tail) (2 ^ 64) fits.paid
      in
      let c = both_covered blobs (number head) (step_piece tail.first) covered in
      subst (λ (t : Tail Step). Again (node_at blobs front) ((node_piece all tail).spelt blobs) t) is
      (back_bind blobs (number_at w64) (λ next bytes. step_at blobs bytes >>= λ step. given (is_new front next (tail_of front next step.0)) (tail_of front next step.0, step.1))
      (number head) (step_piece tail.first) head (tail_of front head tail.first)
      (back_number blobs head (omega arith))
      (again_given (step_at blobs) (λ step. is_new front head (tail_of front head step)) (tail_of front head) ((step_piece tail.first).spelt blobs) tail.first (back_step tail.first fits.step c.1) test))

  node_items : (all front rest : List (Tail Step)) → all ≡ front ++ rest → Built all → length all < 2 ^ 64 → AllByRecursion FitsTail rest → Covers blobs (each (node_piece all) rest).uses → Items (node_at blobs) (λ tail. (node_piece all tail).spelt blobs) front rest
  node_items all front [] e built small fits covered = tt
  node_items all front (tail ∷ rest) e built small fits covered =
      let c = each_covered blobs (node_piece all) tail rest covered in
      (node_again all front rest tail e built small fits.0 c.0, node_long blobs all tail, node_items all (front ++ tail ∷ []) rest (e ∙ sym (append_assoc front (tail ∷ []) rest)) built small fits.1 c.1)

  pub back_nodes : (all : List (Tail Step)) → Built all → length all < 2 ^ 64 → AllByRecursion FitsTail all → Covers blobs (counted (node_piece all) all).uses → Back blobs (counted_at (node_at blobs)) (counted (node_piece all) all) all
  back_nodes all built small fits covered =
      let c = both_covered blobs (number (length all)) (each (node_piece all) all) covered in
      back_counted blobs (node_at blobs) (node_piece all) all (node_items all [] all refl built small fits c.1)

  -- ---- records

  module _ (tails : List (Tail Step)) (small : length tails < 2 ^ 64) where
    row_of : Record → Row
    row_of rec = record { key = rec.key; steps = rec.steps; exit = rec.exit; exit_cost = rec.exit_cost }

    row_again : (rec : Record) → FitsRecord rec → IsIn tails rec → Covers blobs (record_piece tails rec).uses → Back blobs (row_at blobs tails) (record_piece tails rec) (row_of rec)
    unfolding row_at row_of
    row_again rec fits within covered =
        let head = head_in same_step tails rec.steps in
        let here : steps_at tails head ≡ rec.steps = steps_head same_step step_decides tails rec.steps within in
        let cheap : rec.exit_cost < 2 ^ 64 = let p = fits.paid in omega arith in
        let c = both_covered blobs (key_piece rec.key) (number head ⊕ byte rec.exit ⊕ number rec.exit_cost) covered in
        let made : ℕ → Row = λ exit_cost. record { key = rec.key; steps = steps_at tails head; exit = rec.exit; exit_cost = exit_cost } in
        let is : made rec.exit_cost ≡ row_of rec = ap (λ (l : List Step). let r : Row = record { key = rec.key; steps = l; exit = rec.exit; exit_cost = rec.exit_cost } in r) here in
        let test : (nat_le head (length tails) && nat_lt (paid (steps_at tails head) rec.exit_cost) (2 ^ 64)) ≡ true =
        ap (λ b. b && nat_lt (paid (steps_at tails head) rec.exit_cost) (2 ^ 64)) (le-leb head (length tails) within) ∙ ap (λ (l : List Step). nat_lt (paid l rec.exit_cost) (2 ^ 64)) here ∙ lt-ltb (paid rec.steps rec.exit_cost) (2 ^ 64) fits.paid
        in
        subst (λ (r : Row). Back blobs (row_at blobs tails) (record_piece tails rec) r) is
        (back_bind blobs (key_at blobs)
        (λ key bytes. number_at w64 bytes >>= λ head. byte_at head.1 >>= λ exit. number_at w64 exit.1 >>= λ exit_cost. given (nat_le head.0 (length tails) && nat_lt (paid (steps_at tails head.0) exit_cost.0) (2 ^ 64)) (record { key = key; steps = steps_at tails head.0; exit = exit.0; exit_cost = exit_cost.0 }, exit_cost.1))
        (key_piece rec.key) (number head ⊕ byte rec.exit ⊕ number rec.exit_cost) rec.key (made rec.exit_cost)
        (back_key blobs few rec.key fits.key c.0)
        (back_bind blobs (number_at w64)
        (λ head bytes. byte_at bytes >>= λ exit. number_at w64 exit.1 >>= λ exit_cost. given (nat_le head (length tails) && nat_lt (paid (steps_at tails head) exit_cost.0) (2 ^ 64)) (record { key = rec.key; steps = steps_at tails head; exit = exit.0; exit_cost = exit_cost.0 }, exit_cost.1))
        (number head) (byte rec.exit ⊕ number rec.exit_cost) head (made rec.exit_cost)
        (back_number blobs head (omega arith))
        (back_bind blobs byte_at
        (λ exit bytes. number_at w64 bytes >>= λ exit_cost. given (nat_le head (length tails) && nat_lt (paid (steps_at tails head) exit_cost.0) (2 ^ 64)) (record { key = rec.key; steps = steps_at tails head; exit = exit; exit_cost = exit_cost.0 }, exit_cost.1))
        (byte rec.exit) (number rec.exit_cost) rec.exit (made rec.exit_cost)
        (back_byte blobs rec.exit fits.exit)
        (again_given (number_at w64) (λ exit_cost. nat_le head (length tails) && nat_lt (paid (steps_at tails head) exit_cost) (2 ^ 64)) made ((number rec.exit_cost).spelt blobs) rec.exit_cost (back_number blobs rec.exit_cost cheap) test))))

    record_again : (front : List Record) (rec : Record) → FitsRecord rec → rec.ordinal ≡ count_of rec.key front → IsIn tails rec → Covers blobs (record_piece tails rec).uses → Again (record_at blobs tails front) ((record_piece tails rec).spelt blobs) rec
    unfolding record_at row_of
    record_again front rec fits ordinal within covered =
        subst (λ n. Again (record_at blobs tails front) ((record_piece tails rec).spelt blobs) (record rec { ordinal = n })) (sym ordinal)
        (again_last (row_at blobs tails) (next_rec front) ((record_piece tails rec).spelt blobs) (row_of rec) (row_again rec fits within covered))

    record_items : (front table : List Record) → AllByRecursion FitsRecord table → AreNumbered (front ++ table) → AllByRecursion (IsIn tails) table → Covers blobs (each (record_piece tails) table).uses → Items (record_at blobs tails) (λ rec. (record_piece tails rec).spelt blobs) front table
    record_items front [] fits numbered within covered = tt
    record_items front (rec ∷ table) fits numbered within covered =
        let c = each_covered blobs (record_piece tails) rec table covered in
        let all : List Record = front ++ rec ∷ table in
        let at : rec_at (length front) all ≡ rec = get_or-append_seam front rec table (fresh_rec no_key 0) in
        let before : take (length front) all ≡ front = take_at front (rec ∷ table) (length front) refl in
        let inside : length front < length all = omega (arith, length-append front (rec ∷ table)) in
        let ordinal : rec.ordinal ≡ count_of rec.key front =
        sym (ap (λ (r : Record). r.ordinal) at) ∙ numbered (length front) inside ∙ ap (λ (r : Record). count_of r.key (take (length front) all)) at ∙ ap (count_of rec.key) before
        in
        (record_again front rec fits.0 ordinal within.0 c.0, record_long blobs tails rec, record_items (front ++ rec ∷ []) table fits.1 (subst AreNumbered (sym (append_assoc front (rec ∷ []) table)) numbered) within.1 c.1)

    pub back_records : (table : List Record) → Fits table → AllByRecursion (IsIn tails) table → Covers blobs (counted (record_piece tails) table).uses → Back blobs (counted_at (record_at blobs tails)) (counted (record_piece tails) table) table
    back_records table fits within covered =
        let c = both_covered blobs (number (length table)) (each (record_piece tails) table) covered in
        back_counted blobs (record_at blobs tails) (record_piece tails) table (record_items [] table fits.records fits.numbered within c.1)
