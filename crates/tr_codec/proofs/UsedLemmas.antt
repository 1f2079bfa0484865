-- First uses that ascend: what is in use, as a table goes on, is the front of the blobs.
use Rattle.std.proofs.Common.{◌≡◌, ◌∙◌, refl, sym, ap, subst, ℕ, zero, suc, ◌+◌, ◌<◌, ◌≤◌, true, false, not, ◌||◌, cond, ltb, eqb, List, [], ◌∷◌, ◌++◌, Option, Some, None, length, take, append_assoc, arith}
use Rattle.std.specs.Prelude.{fold}
use Rattle.std.specs.Int.{w32, to_be_bytes}
use Rattle.std.specs.List.{flat_map, AllByRecursion, IsDistinct}
use Rattle.std.proofs.lemmas.Bool.{ltb-true, eqb-true, lt-ltb, le-ltb, eq-eqb}
use Rattle.std.proofs.lemmas.List.{append-nil, length-append}
use Rattle.std.proofs.lemmas.Grind.{fold-append}
use Rattle.std.specs.Cmp.Lexicographic.{bytes_decides}
use Rattle.rk_base.specs.Text.{Text, same_text}
use Rattle.rk_base.specs.declared.vars.Var.{Var}
use Rattle.rk_calls.specs.Keys.{KeyValue}
use Rattle.rk_calls.specs.declared.call.Call.{Call}
use Rattle.rk_calls.specs.declared.call.Call.TheVariants as call
use Rattle.rk_calls.specs.declared.answer.Answer.{Answer}
use Rattle.rk_calls.specs.declared.answer.Answer.TheVariants as answer
use Rattle.tr_nodes.specs.Tails.{Tail, head_in}
use Rattle.tr_record.specs.declared.steps.Step.{Step}
use Rattle.tr_record.specs.declared.records.Record.{Record}
use Rattle.tr_parts.specs.Piece.{Piece, plain, blob, ◌⊕◌, each, byte, cost, number, counted, num, has, number_of, with_use, with_uses}
use Rattle.tr_codec.specs.OldSpelling as old
use Rattle.tr_codec.specs.Same.{same_step}
use Rattle.tr_codec.specs.Spelling.{var_piece, key_piece, pair_piece, call_piece, answer_piece, step_piece, node_piece, record_piece, spelt_with}
use Rattle.tr_codec.specs.Used.{used_with, used_by, var_used, key_used, call_used, answer_used, step_used, nodes_used, keys_used, record_used, table_used}
use Rattle.tr_codec.proofs.PutsLemmas.{number_stays, has_use, with_uses_adds}
use Rattle.tr_codec.proofs.TableAgain.{named}

-- ---- what is in use after a piece

module _ (blobs : List Text) where
  abbrev after : Option ℕ → Piece → Option ℕ
  after used p = fold (used_by blobs) used p.uses

  after_then : (used : Option ℕ) (p q : Piece) → after (after used p) q ≡ after used (p ⊕ q)
  unfolding ◌⊕◌
  after_then used p q = sym (fold-append (used_by blobs) used p.uses q.uses)

  after_each : {X : Type 0} (g : Option ℕ → X → Option ℕ) (f : X → Piece) → ((used : Option ℕ) (x : X) → g used x ≡ after used (f x)) → (used : Option ℕ) (xs : List X) → fold g used xs ≡ after used (each f xs)
  unfolding each
  after_each g f h used [] = refl
  after_each g f h used (x ∷ xs) =
      after_each g f h (g used x) xs ∙ ap (λ u. fold (used_by blobs) u (flat_map (λ y. (f y).uses) xs)) (h used x) ∙ sym (fold-append (used_by blobs) used (f x).uses (flat_map (λ y. (f y).uses) xs))

  after_counted : {X : Type 0} (g : Option ℕ → X → Option ℕ) (f : X → Piece) → ((used : Option ℕ) (x : X) → g used x ≡ after used (f x)) → (used : Option ℕ) (xs : List X) → fold g used xs ≡ after used (counted f xs)
  unfolding ◌⊕◌ plain
  after_counted g f h used xs = after_each g f h used xs

  after_blob : (used : Option ℕ) (text : Text) → used_by blobs used text ≡ after used (blob text)
  unfolding blob
  after_blob used text = refl

  after_var : (used : Option ℕ) (v : Var) → var_used blobs used v ≡ after used (var_piece v)
  unfolding blob ◌⊕◌
  after_var used v = refl

  after_key : (used : Option ℕ) (key : KeyValue) → key_used blobs used key ≡ after used (key_piece key)
  after_key used key =
      let words = counted blob key.argv in
      let place = blob key.wd in
      let vars = counted var_piece key.vars in
      after_counted (var_used blobs) var_piece after_var (used_by blobs (fold (used_by blobs) used key.argv) key.wd) key.vars
      ∙ ap (λ u. after u vars) (after_blob (fold (used_by blobs) used key.argv) key.wd ∙ ap (λ u. after u place) (after_counted (used_by blobs) blob after_blob used key.argv))
      ∙ after_then (after used words) place vars
      ∙ after_then used words (place ⊕ vars)

  -- descriptors use none
  none_each : (used : Option ℕ) (map : List (ℕ × ℕ)) → used ≡ after used (each pair_piece map)
  unfolding each ◌⊕◌ plain
  none_each used [] = refl
  none_each used (p ∷ ps) = none_each used ps

  after_launch : (used : Option ℕ) (key : KeyValue) (map : List (ℕ × ℕ)) → key_used blobs used key ≡ after used (byte 18 ⊕ key_piece key ⊕ counted pair_piece map)
  unfolding plain
  after_launch used key map =
      let pairs = counted pair_piece map in
      after_key used key ∙ none_each (after used (key_piece key)) map
      ∙ after_then (after used (key_piece key)) (number (length map)) (each pair_piece map)
      ∙ after_then used (key_piece key) pairs
      ∙ after_then used (byte 18) (key_piece key ⊕ pairs)

  after_call : (used : Option ℕ) (it : Call) → call_used blobs used it ≡ after used (call_piece it)
  unfolding blob ◌⊕◌ plain
  after_call used (call.Open path how) = refl
  after_call used (call.Read r) = refl
  after_call used (call.ReadLine r) = refl
  after_call used (call.Write r bytes) = refl
  after_call used (call.Stat path follow) = refl
  after_call used (call.List path) = refl
  after_call used (call.ReadLink path) = refl
  after_call used (call.Walk path) = refl
  after_call used (call.Same a b) = refl
  after_call used (call.Mkdir path mode) = refl
  after_call used (call.Rmdir path) = refl
  after_call used (call.Unlink path) = refl
  after_call used (call.Rename a b) = refl
  after_call used (call.Symlink text path) = refl
  after_call used (call.Link a b) = refl
  after_call used (call.Chmod path mode) = refl
  after_call used call.Pipe = refl
  after_call used (call.Launch key map) = after_launch used key map

  after_names : (used : Option ℕ) (names : List Text) → fold (used_by blobs) used names ≡ after used (byte 6 ⊕ counted blob names)
  unfolding plain
  after_names used names = after_counted (used_by blobs) blob after_blob used names ∙ after_then used (byte 6) (counted blob names)

  after_answer : (used : Option ℕ) (it : Answer) → answer_used blobs used it ≡ after used (answer_piece it)
  unfolding blob ◌⊕◌ plain
  after_answer used answer.Go = refl
  after_answer used answer.Done = refl
  after_answer used answer.Opened = refl
  after_answer used answer.Piped = refl
  after_answer used (answer.Content bytes) = refl
  after_answer used (answer.Stat kind mode empty) = refl
  after_answer used (answer.Names names) = after_names used names
  after_answer used (answer.Text text) = refl
  after_answer used (answer.Place path) = refl
  after_answer used (answer.Same same) = refl
  after_answer used (answer.Joined status) = refl
  after_answer used (answer.No errno) = refl

  -- a step, whatever its cost is spelt as
  after_asked : (used : Option ℕ) (cost : List ℕ) (step : Step) → step_used blobs used step ≡ after used (plain cost ⊕ call_piece step.call ⊕ answer_piece step.answer)
  unfolding plain
  after_asked used cost step =
      after_answer (call_used blobs used step.call) step.answer ∙ ap (λ u. after u (answer_piece step.answer)) (after_call used step.call)
      ∙ after_then used (call_piece step.call) (answer_piece step.answer)
      ∙ after_then used (plain cost) (call_piece step.call ⊕ answer_piece step.answer)

  after_step : (used : Option ℕ) (step : Step) → step_used blobs used step ≡ after used (old.step_piece step)
  after_step used step = after_asked used (to_be_bytes w32 step.cost) step

  after_node : (all : List (Tail Step)) (used : Option ℕ) (tail : Tail Step) → step_used blobs used tail.first ≡ after used (node_piece all tail)
  unfolding plain
  after_node all used tail = after_asked used (num tail.first.cost) tail.first ∙ after_then used (number (head_in same_step all tail.rest)) (step_piece tail.first)

  after_ends : (all : List (Tail Step)) (used : Option ℕ) (rec : Record) → key_used blobs used rec.key ≡ after used (record_piece all rec)
  unfolding plain ◌⊕◌
  after_ends all used rec =
      let end = number (head_in same_step all rec.steps) ⊕ byte rec.exit ⊕ number rec.exit_cost in
      after_key used rec.key ∙ after_then used (key_piece rec.key) end

  -- after the nodes of tails, and then the keys of records
  pub after_spelt : (used : Option ℕ) (tails : List (Tail Step)) (table : List Record) → keys_used blobs (nodes_used blobs used tails) table ≡ after used (spelt_with tails table)
  after_spelt used tails table =
      let nodes = counted (node_piece tails) tails in
      let records = counted (record_piece tails) table in
      after_counted (λ used rec. key_used blobs used rec.key) (record_piece tails) (after_ends tails) (nodes_used blobs used tails) table
      ∙ ap (λ u. after u records) (after_counted (λ used tail. step_used blobs used tail.first) (node_piece tails) (after_node tails) used tails)
      ∙ after_then used nodes records

  after_record : (used : Option ℕ) (rec : Record) → record_used blobs used rec ≡ after used (old.record_piece rec)
  unfolding plain
  after_record used rec =
      let steps = counted old.step_piece rec.steps in
      let end = byte rec.exit ⊕ cost rec.exit_cost in
      after_counted (step_used blobs) old.step_piece after_step (key_used blobs used rec.key) rec.steps
      ∙ ap (λ u. after u steps) (after_key used rec.key)
      ∙ after_then (after (after used (key_piece rec.key)) steps) (byte rec.exit) (cost rec.exit_cost)
      ∙ after_then (after used (key_piece rec.key)) steps end
      ∙ after_then used (key_piece rec.key) (steps ⊕ end)

  pub after_table : (used : Option ℕ) (table : List Record) → table_used blobs used table ≡ after used (old.table_piece table)
  after_table used table = after_counted (record_used blobs) old.record_piece after_record used table

  -- ---- where all ascend, the blobs in use are the first ones

  -- a text whose first place is in front is there
  has_front : (bs : List Text) (k : ℕ) (text : Text) → k ≤ length bs → number_of bs text < k → has (take k bs) text ≡ true
  has_front [] k text le lt = absurd (omega arith)
  has_front (b ∷ bs) zero text le lt = absurd (omega arith)
  has_front (b ∷ bs) (suc k) text le lt =
      elim (same_text text b) as (λ x. cond (not x) (1 + number_of bs text) 0 < suc k → (x || has (take k bs) text) ≡ true) [
        | true ↦ λ h. refl
        | false ↦ λ h. has_front bs k text (omega arith) (omega arith)
      ] lt

  -- and one whose first place is the next one is added
  adds_next : (bs : List Text) (k : ℕ) (text : Text) → number_of bs text ≡ k → k < length bs → (has (take k bs) text ≡ false) × (take (suc k) bs ≡ take k bs ++ text ∷ [])
  adds_next [] k text e lt = absurd (omega arith)
  adds_next (b ∷ bs) zero text e lt =
      elim (same_text text b) as (λ x. same_text text b ≡ x → cond (not x) (1 + number_of bs text) 0 ≡ 0 → (false ≡ false) × (b ∷ [] ≡ text ∷ [])) [
        | true ↦ λ s h. (refl, ap (λ (t : Text). t ∷ []) (sym ((bytes_decides text b).0 s)))
        | false ↦ λ s h. absurd (omega arith)
      ] refl e
  adds_next (b ∷ bs) (suc k) text e lt =
      elim (same_text text b) as (λ x. cond (not x) (1 + number_of bs text) 0 ≡ suc k → ((x || has (take k bs) text) ≡ false) × (b ∷ take (suc k) bs ≡ b ∷ (take k bs ++ text ∷ []))) [
        | true ↦ λ h. absurd (omega arith)
        | false ↦ λ h. let rest = adds_next bs k text (omega arith) (omega arith) in (rest.0, ap (λ l. b ∷ l) rest.1)
      ] e

  nothing_stays : (texts : List Text) → fold (used_by blobs) None texts ≡ None
  unfolding used_with
  nothing_stays [] = refl
  nothing_stays (text ∷ texts) = nothing_stays texts

  nothing_left : (texts : List Text) (m : ℕ) → fold (used_by blobs) None texts ≡ Some m → ⊥
  nothing_left texts m h = let e = sym (nothing_stays texts) ∙ h in absurd cc

  -- one more use, by cases
  module _ (P : Type 0) (n k m : ℕ) (texts : List Text) (was : n < k → fold (used_by blobs) (Some k) texts ≡ Some m → P) (next : n ≡ k → fold (used_by blobs) (Some (k + 1)) texts ≡ Some m → P) where
    use_cases : fold (used_by blobs) (used_with (Some k) n) texts ≡ Some m → P
    unfolding used_with
    use_cases h =
        elim (ltb n k) as (λ x. ltb n k ≡ x → fold (used_by blobs) (cond x (Some k) (cond (eqb n k) (Some (k + 1)) None)) texts ≡ Some m → P) [
          | true ↦ λ lt e. was (ltb-true n k lt) e
          | false ↦ λ ge e.
              elim (eqb n k) as (λ x. eqb n k ≡ x → fold (used_by blobs) (cond x (Some (k + 1)) None) texts ≡ Some m → P) [
                | true ↦ λ is f. next (eqb-true n k is) f
                | false ↦ λ no f. absurd (nothing_left texts m f)
              ] refl e
        ] refl h

  grows : (texts : List Text) (k m : ℕ) → fold (used_by blobs) (Some k) texts ≡ Some m → k ≤ m
  grows [] k m h = let e : k ≡ m = cc in omega arith
  grows (text ∷ texts) k m h =
      use_cases (k ≤ m) (number_of blobs text) k m texts (λ lt e. grows texts k m e) (λ is e. let more = grows texts (k + 1) m e in omega arith) h

  pub ascending : (texts : List Text) (k m : ℕ) → m ≤ length blobs → fold (used_by blobs) (Some k) texts ≡ Some m → with_uses (take k blobs) texts ≡ take m blobs
  ascending [] k m le h = let e : k ≡ m = cc in ap (λ n. take n blobs) e
  ascending (text ∷ texts) k m le h =
      let n = number_of blobs text in
      use_cases (with_uses (with_use (take k blobs) text) texts ≡ take m blobs) n k m texts
      (λ lt e.
      let more = grows texts k m e in
      let there = has_front blobs k text (omega arith) lt in
      ap (λ b. with_uses (cond b (take k blobs) (take k blobs ++ text ∷ [])) texts) there ∙ ascending texts k m le e)
      (λ is e.
      let more = grows texts (k + 1) m e in
      let added = adds_next blobs k text is (omega arith) in
      let one : suc k ≡ k + 1 = omega arith in
      ap (λ b. with_uses (cond b (take k blobs) (take k blobs ++ text ∷ [])) texts) added.0
      ∙ ap (λ l. with_uses l texts) (sym added.1)
      ∙ ap (λ j. with_uses (take j blobs) texts) one
      ∙ ascending texts (k + 1) m le e)
      h

-- ---- in a table's spelling all ascend, and all are used

-- the first place of a text that stands at the end
last_place : (blobs : List Text) (text : Text) → has blobs text ≡ false → number_of (blobs ++ text ∷ []) text ≡ length blobs
last_place [] text h = ap (λ b. cond (not b) 1 0) ((bytes_decides text text).1 refl)
last_place (b ∷ bs) text h =
    elim (same_text text b) as (λ x. (x || has bs text) ≡ false → cond (not x) (1 + number_of (bs ++ text ∷ []) text) 0 ≡ suc (length bs)) [
      | true ↦ λ e. absurd cc
      | false ↦ λ e. let rest = last_place bs text e in omega arith
    ] h

-- one use more
uses_one : (front : List Text) (text : Text) → used_with (Some (length front)) (number_of (with_use front text) text) ≡ Some (length (with_use front text))
unfolding used_with
uses_one front text =
    let k = length front in
    elim (has front text) as (λ b. has front text ≡ b → used_with (Some k) (number_of (cond b front (front ++ text ∷ [])) text) ≡ Some (length (cond b front (front ++ text ∷ [])))) [
      | true ↦ λ there. ap (λ b. cond b (Some k) (cond (eqb (number_of front text) k) (Some (k + 1)) None)) (lt-ltb (number_of front text) k (named front text there).1)
      | false ↦ λ new.
          let n = number_of (front ++ text ∷ []) text in
          let at : n ≡ k = last_place front text new in
          let long : k + 1 ≡ length (front ++ text ∷ []) = omega (arith, length-append front (text ∷ [])) in
          ap (λ b. cond b (Some k) (cond (eqb n k) (Some (k + 1)) None)) (le-ltb n k (omega arith))
          ∙ ap (λ b. cond b (Some (k + 1)) None) (eq-eqb n k at)
          ∙ ap (λ m. Some m) long
    ] refl

pub uses_all : (front texts : List Text) → fold (used_by (with_uses front texts)) (Some (length front)) texts ≡ Some (length (with_uses front texts))
uses_all front [] = refl
uses_all front (text ∷ texts) =
    let one = with_use front text in
    let all = with_uses one texts in
    let grown = with_uses_adds one texts in
    let same : number_of all text ≡ number_of one text = ap (λ l. number_of l text) grown.1 ∙ number_stays one grown.0 text (has_use front text) in
    ap (λ n. fold (used_by all) (used_with (Some (length front)) n) texts) same
    ∙ ap (λ u. fold (used_by all) u texts) (uses_one front text)
    ∙ uses_all one texts

-- ---- each stands once

-- each isn't among those in front of it
abbrev pub Fresh : List Text → List Text → Type 0
Fresh front [] = Unit {0}
Fresh front (text ∷ texts) = (has front text ≡ false) × Fresh (front ++ text ∷ []) texts

fresh_more : (front texts : List Text) → (more : List Text) × (with_uses front texts ≡ front ++ more) × Fresh front more
fresh_more front [] = ([], sym (append-nil front), tt)
fresh_more front (text ∷ texts) =
    elim (has front text) as (λ b. has front text ≡ b → (more : List Text) × (with_uses (cond b front (front ++ text ∷ [])) texts ≡ front ++ more) × Fresh front more) [
      | true ↦ λ there. fresh_more front texts
      | false ↦ λ new.
          let rest = fresh_more (front ++ text ∷ []) texts in
          (text ∷ rest.0, rest.1 ∙ append_assoc front (text ∷ []) rest.0, (new, rest.2))
    ] refl

pub used_once : (texts : List Text) → Fresh [] (with_uses [] texts)
used_once texts = let all = fresh_more [] texts in subst (Fresh []) (sym all.1) all.2

apart_more : (b text : Text) (bs : List Text) → AllByRecursion (λ y. same_text b y ≡ false) bs → same_text text b ≡ false → AllByRecursion (λ y. same_text b y ≡ false) (bs ++ text ∷ [])
apart_more b text [] h other = (
  elim (same_text b text) as (λ x. same_text b text ≡ x → same_text b text ≡ false) [
    | true ↦ λ e. let s : same_text text b ≡ true = (bytes_decides text b).1 (sym ((bytes_decides b text).0 e)) in absurd cc
    | false ↦ λ e. e
  ] refl,
  tt,
)
apart_more b text (x ∷ xs) h other = (h.0, apart_more b text xs h.1 other)

pub distinct_more : (front : List Text) (text : Text) → IsDistinct same_text front → has front text ≡ false → IsDistinct same_text (front ++ text ∷ [])
unfolding IsDistinct
distinct_more [] text h new = (tt, tt)
distinct_more (b ∷ bs) text h new =
    elim (same_text text b) as (λ x. same_text text b ≡ x → (x || has bs text) ≡ false → IsDistinct same_text (b ∷ (bs ++ text ∷ []))) [
      | true ↦ λ e f. absurd cc
      | false ↦ λ e f. (apart_more b text bs h.0 e, distinct_more bs text h.1 f)
    ] refl new

-- ---- one more, as a loop goes on

pub more_used : {X : Type 0} (g : Option ℕ → X → Option ℕ) (first before now : Option ℕ) (xs : List X) (x : X) → before ≡ fold g first xs → now ≡ g before x → now ≡ fold g first (xs ++ x ∷ [])
more_used g first before now xs x so e = e ∙ ap (λ u. g u x) so ∙ sym (fold-append g first xs (x ∷ []))
