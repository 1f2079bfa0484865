-- Rows of the first version, whose steps are put into nodes, and the records that they are.
use Rattle.std.proofs.Common.{◌≡◌, ◌∙◌, refl, sym, ap, subst, ℕ, zero, suc, ◌+◌, ◌≤◌, ◌^◌, false, ◌&&◌, ◌==◌, nat_lt, List, [], ◌∷◌, ◌++◌, Option, Some, None, length, map, append_assoc, arith}
use Rattle.std.specs.List.{AllByRecursion}
use Rattle.std.proofs.lemmas.Bool.{le-ltb}
use Rattle.std.proofs.lemmas.List.{append-nil, length-append, map-append}
use Rattle.std.proofs.lemmas.List.Sums.{sum_by-cons, sum_by-append}
use Rattle.std.proofs.lemmas.Grind.{fold-append}
use Rattle.rk_base.specs.Text.{Text}
use Rattle.tr_nodes.specs.Nodes.{Node}
use Rattle.tr_record.specs.Costs.{steps_cost}
use Rattle.tr_record.specs.Pool.{Pool, with_node, steps_under}
use Rattle.tr_record.specs.declared.records.Record.{Record}
use Rattle.tr_record.specs.declared.steps.Step.{Step}
use Rattle.tr_record.proofs.PoolLemmas.{under_stays}
use Rattle.tr_codec.specs.declared.rows.HeadedRow.{HeadedRow}
use Rattle.tr_codec.specs.NodesRead.{AreTold}
use Rattle.tr_codec.specs.OldReading.{row_at, record_at, records_at}
use Rattle.tr_codec.specs.OldRows.{step_in, IsTold, Keeps, IsWithin, records_from, rows_used}
use Rattle.tr_codec.specs.Reading.{◌>>=◌, given, count_at, many_at, Row, next_rec}
use Rattle.tr_codec.specs.Rows.{row_under}
use Rattle.tr_codec.specs.Used.{table_used, record_used, all_used}
use Rattle.tr_codec.proofs.NodesReadLemmas.{told_more}
use Rattle.tr_parts.specs.Reads.{Fails}
use Rattle.tr_parts.specs.declared.fault.PartErr.{PartErr}
use Rattle.tr_parts.specs.declared.fault.PartErr.TheVariants.{Form, NoMemory}

pub all_push : {X : Type 0} (P : X → Type 0) (xs : List X) (x : X) → AllByRecursion P xs → P x → AllByRecursion P (xs ++ x ∷ [])
all_push P [] x h p = (p, tt)
all_push P (y ∷ ys) x h p = (h.0, all_push P ys x h.1 p)

pub all_last : {X : Type 0} (P : X → Type 0) (xs : List X) (x : X) → AllByRecursion P (xs ++ x ∷ []) → AllByRecursion P xs × P x
all_last P [] x h = (tt, h.0)
all_last P (y ∷ ys) x h = let r = all_last P ys x h.1 in ((h.0, r.0), r.1)

-- ---- steps that are put from the last to the first

pub keeps_none : (pool : Pool) → Keeps pool pool
keeps_none pool = record { grows = omega arith; steps = λ number le. refl }

pub keeps_node : (first pool : Pool) (next : ℕ) (step : Step) (content : Option ℕ) → Keeps first pool → Keeps first (with_node pool next step content)
keeps_node first pool next step content h =
    let node : Node Step = record { next = next; step = step } in
    let grows = h.grows in
    record {
      grows = omega (arith, length-append pool.nodes (node ∷ []));
      steps = λ number le. under_stays pool.nodes node number (omega arith) ∙ h.steps number le;
    }

-- so far these were put, and the others are left
pub record Chained (first pool : Pool) (all left : List (Step × Option ℕ)) (head : ℕ) : Type 0 where
  pub done : map step_in left ++ steps_under pool.nodes head ≡ map step_in all
  pub within : head ≤ length pool.nodes
  pub keeps : Keeps first pool
  pub told : (texts : List Text) → AllByRecursion (IsTold texts) all → AllByRecursion (IsTold texts) left × (AreTold texts first → AreTold texts pool)

pub chained_none : (pool : Pool) (all : List (Step × Option ℕ)) → Chained pool pool all all 0
chained_none pool all = record { done = append-nil (map step_in all); within = omega arith; keeps = keeps_none pool; told = λ texts h. (h, λ t. t) }

module _ (first pool : Pool) (all left before : List (Step × Option ℕ)) (head : ℕ) (step : Step) (content : Option ℕ) (so : Chained first pool all left head) (last : left ≡ before ++ (step, content) ∷ []) where
  split : map step_in before ++ step ∷ steps_under pool.nodes head ≡ map step_in all
  split =
      sym (append_assoc (map step_in before) (step ∷ []) (steps_under pool.nodes head))
      ∙ ap (λ l. l ++ steps_under pool.nodes head) (sym (map-append step_in before ((step, content) ∷ [])) ∙ sym (ap (map step_in) last))
      ∙ so.done

  pub chained_more : (new : Pool) (number : ℕ) → new ≡ with_node pool head step content → number ≡ length pool.nodes + 1 → steps_under new.nodes number ≡ step ∷ steps_under pool.nodes head → Chained first new all before number
  chained_more new number is at steps =
      let node : Node Step = record { next = head; step = step } in
      let long : length new.nodes ≡ length pool.nodes + 1 = ap (λ (p : Pool). length p.nodes) is ∙ length-append pool.nodes (node ∷ []) in
      record {
        done = ap (λ l. map step_in before ++ l) steps ∙ split;
        within = omega arith;
        keeps = subst (Keeps first) (sym is) (keeps_node first pool head step content so.keeps);
        told = λ texts h.
            let t = so.told texts h in
            let parts = all_last (IsTold texts) before (step, content) (subst (AllByRecursion (IsTold texts)) last t.0) in
            (parts.0, λ f. subst (AreTold texts) (sym is) (told_more texts pool head step content (t.1 f) parts.1));
      }

  -- where they cost too much, all do
  pub chained_dear : 2 ^ 64 ≤ step.cost + steps_cost (steps_under pool.nodes head) → 2 ^ 64 ≤ steps_cost (map step_in all)
  chained_dear dear =
      let cost : Step → ℕ = λ s. s.cost in
      let rest = steps_under pool.nodes head in
      let one = sum_by-cons cost step rest in
      let both = sum_by-append cost (map step_in before) (step ∷ rest) in
      let whole = ap steps_cost split in
      omega arith

-- ---- rows that are read

pub rows_keep : (old new : Pool) (rows : List HeadedRow) → Keeps old new → AllByRecursion (IsWithin old.nodes) rows → map (row_under new.nodes) rows ≡ map (row_under old.nodes) rows
rows_keep old new [] k h = refl
rows_keep old new (row ∷ rows) k h =
    let steps = k.steps row.head h.0 in
    ap (λ (s : List Step). let r : Row = record { key = row.key; steps = s; exit = row.exit; exit_cost = row.exit_cost } in r ∷ map (row_under new.nodes) rows) steps
    ∙ ap (λ l. row_under old.nodes row ∷ l) (rows_keep old new rows k h.1)

pub within_keep : (old new : Pool) (rows : List HeadedRow) → Keeps old new → AllByRecursion (IsWithin old.nodes) rows → AllByRecursion (IsWithin new.nodes) rows
within_keep old new [] k h = tt
within_keep old new (row ∷ rows) k h = let grows = k.grows in let low = h.0 in (omega arith, within_keep old new rows k h.1)

-- ---- and the records that they are

pub records_more : (front : List Record) (rows : List Row) (row : Row) → records_from front (rows ++ row ∷ []) ≡ records_from front rows ++ next_rec (records_from front rows) row ∷ []
records_more front rows row = fold-append (λ (table : List Record) (row : Row). table ++ next_rec table row ∷ []) front rows (row ∷ [])

many_records : (blobs : List Text) (count : ℕ) (rows : List Row) (bytes : List ℕ) → many_at (record_at blobs) count (records_from [] rows) bytes ≡ (many_at (λ before. row_at blobs) count rows bytes >>= λ r. Some (records_from [] r.0, r.1))
unfolding many_at record_at
many_records blobs zero rows bytes = refl
many_records blobs (suc count) rows bytes =
    let front = records_from [] rows in
    let made : Option (Row × List ℕ) → Option (Record × List ℕ) = λ o. o >>= λ row. Some (next_rec front row.0, row.1) in
    let records : Option (Record × List ℕ) → Option (List Record × List ℕ) = λ o. o >>= λ x. many_at (record_at blobs) count (front ++ x.0 ∷ []) x.1 in
    let later : Option (Row × List ℕ) → Option (List Row × List ℕ) = λ o. o >>= λ x. many_at (λ before. row_at blobs) count (rows ++ x.0 ∷ []) x.1 in
    let all : Option (List Row × List ℕ) → Option (List Record × List ℕ) = λ o. o >>= λ r. Some (records_from [] r.0, r.1) in
    elim (row_at blobs bytes) as (λ (o : Option (Row × List ℕ)). records (made o) ≡ all (later o)) [
      | None ↦ refl
      | Some row ↦ ap (λ l. many_at (record_at blobs) count l row.1) (sym (records_more [] rows row.0)) ∙ many_records blobs count (rows ++ row.0 ∷ []) row.1
    ]

used_from : (blobs : List Text) (used : Option ℕ) (front : List Record) (rows : List Row) → table_used blobs used (records_from front rows) ≡ rows_used blobs (table_used blobs used front) rows
used_from blobs used front [] = refl
used_from blobs used front (row ∷ rows) =
    let rec = next_rec front row in
    used_from blobs used (front ++ rec ∷ []) rows ∙ ap (λ u. rows_used blobs u rows) (fold-append (record_used blobs) used front (rec ∷ []))

pub rows_uncounted : (blobs : List Text) (bytes : List ℕ) (e : PartErr) → Fails e (count_at bytes) → Fails e (records_at blobs bytes)
unfolding records_at
rows_uncounted blobs bytes NoMemory h = tt
rows_uncounted blobs bytes Form h =
    let whole : List Record × List ℕ → Option (List Record) = λ t. given (all_used (table_used blobs (Some 0) t.0) (length blobs) && (length t.1 == 0)) t.0 in
    ap (λ (o : Option (ℕ × List ℕ)). (o >>= λ n. many_at (record_at blobs) n.0 [] n.1) >>= whole) h

module _ (blobs : List Text) (bytes : List ℕ) (count : ℕ) (rest : List ℕ) (at : count_at bytes ≡ Some (count, rest)) where
  abbrev whole : List Record × List ℕ → Option (List Record)
  whole t = given (all_used (table_used blobs (Some 0) t.0) (length blobs) && (length t.1 == 0)) t.0

  begun : records_at blobs bytes ≡ (many_at (λ before. row_at blobs) count [] rest >>= λ r. Some (records_from [] r.0, r.1)) >>= whole
  unfolding records_at
  begun = ap (λ (o : Option (ℕ × List ℕ)). (o >>= λ n. many_at (record_at blobs) n.0 [] n.1) >>= whole) at ∙ ap (λ (o : Option (List Record × List ℕ)). o >>= whole) (many_records blobs count [] rest)

  pub rows_unread : (e : PartErr) → Fails e (many_at (λ before. row_at blobs) count [] rest) → Fails e (records_at blobs bytes)
  rows_unread NoMemory h = tt
  rows_unread Form h = begun ∙ ap (λ (o : Option (List Row × List ℕ)). (o >>= λ r. Some (records_from [] r.0, r.1)) >>= whole) h

  pub rows_read : (rows : List Row) (left : List ℕ) (used : Option ℕ) → many_at (λ before. row_at blobs) count [] rest ≡ Some (rows, left) → used ≡ rows_used blobs (Some 0) rows
      → records_at blobs bytes ≡ given (all_used used (length blobs) && (length left == 0)) (records_from [] rows)
  rows_read rows left used h is =
      begun ∙ ap (λ (o : Option (List Row × List ℕ)). (o >>= λ r. Some (records_from [] r.0, r.1)) >>= whole) h
      ∙ ap (λ u. given (all_used u (length blobs) && (length left == 0)) (records_from [] rows)) (used_from blobs (Some 0) [] rows ∙ sym is)

pub dear_false : (n : ℕ) → 2 ^ 64 ≤ n → nat_lt n (2 ^ 64) ≡ false
dear_false n le = le-ltb n (2 ^ 64) le
