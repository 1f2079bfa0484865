-- Whether a record is the kept one of its number.
use Rattle.std.proofs.Common.{◌≡◌, ℕ, ◌<◌, List, length, slice_get, Some, sym, ◌∙◌, ap}
use Rattle.std.proofs.lemmas.Option.{slice_get-get_or}
use Rattle.tr_record.specs.Contents.{AreContents}
use Rattle.tr_record.specs.declared.records.Record.{Record}
use Rattle.tr_record.specs.declared.steps.Step.{Step}
use Rattle.tr_record.specs.Pool.{steps_under}
use Rattle.tr_record.specs.Rec.{fresh_rec, no_key, rec_at, with_exit}
use Rattle.rk_calls.specs.Keys.{KeyValue}
use Rattle.tr_matching.specs.Earlier.{EarlierRecords, IsRest}

get-rec : (old : List Record) (i : ℕ) → i < length old → slice_get old i ≡ Some (rec_at i old)
get-rec old i lt = slice_get-get_or old i (fresh_rec no_key 0) lt

-- a number of steps leads to those of its record
pub head-steps : (e : EarlierRecords) (place head : ℕ) → AreContents e.contents e.records → place < length e.records → slice_get e.contents.heads place ≡ Some head → steps_under e.contents.nodes head ≡ (rec_at place e.records).steps
head-steps e place head are lt h = are.steps place head (rec_at place e.records) h (get-rec e.records place lt)

pub same-steps : (e : EarlierRecords) (place rec head other : ℕ) → AreContents e.contents e.records → place < length e.records → slice_get e.contents.heads place ≡ Some head → IsRest e rec 0 other → head ≡ other → (rec_at place e.records).steps ≡ (rec_at rec e.records).steps
same-steps e place rec head other are lt h r same = sym (head-steps e place head are lt h) ∙ ap (steps_under e.contents.nodes) same ∙ r.rest

-- records that agree in all are one
pub record-is : (r : Record) (status cost : ℕ) (x : Record) → x.key ≡ r.key → x.ordinal ≡ r.ordinal → r.steps ≡ x.steps → x.exit ≡ status → x.exit_cost ≡ cost → with_exit r status cost ≡ x
record-is r status cost x ek eo es ex ec =
    let make = λ (k : KeyValue) (o : ℕ) (s : List Step) (t c : ℕ). let it : Record = record { key = k; ordinal = o; steps = s; exit = t; exit_cost = c } in it in
    ap (λ k. make k r.ordinal r.steps status cost) (sym ek) ∙ ap (λ o. make x.key o r.steps status cost) (sym eo) ∙ ap (λ s. make x.key x.ordinal s status cost) es
    ∙ ap (λ t. make x.key x.ordinal x.steps t cost) (sym ex) ∙ ap (λ c. make x.key x.ordinal x.steps x.exit c) (sym ec)
