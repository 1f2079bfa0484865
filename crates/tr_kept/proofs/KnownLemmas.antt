-- What is known of the numbers of steps that were read.
use Rattle.std.proofs.Common.{◌≡◌, ◌≢◌, ◌∙◌, refl, sym, ap, subst, ℕ, inl, inr, List, [], ◌∷◌, Some, map, slice_get, arith}
use Rattle.std.proofs.lemmas.List.{append-nil}
use Rattle.tr_nodes.specs.Nodes.{Node}
use Rattle.tr_nodes.proofs.GetLemmas.{get_map, map_get}
use Rattle.tr_record.specs.Contents.{Recorded, AreContents}
use Rattle.tr_record.specs.Generations.{records, IsPushed}
use Rattle.tr_record.specs.Known.{Known, AreKnown}
use Rattle.tr_record.specs.Pool.{steps_under}
use Rattle.tr_record.specs.declared.records.Record.{Record}
use Rattle.tr_record.specs.declared.steps.Step.{Step}
use Rattle.tr_kept.specs.KeptSpelling.{one_of}
use Rattle.tr_codec.specs.Rows.{AreHeads}

abbrev pub all_known : List (Node Step) → List ℕ → Known
all_known nodes heads = record { nodes = nodes; heads = map (λ (head : ℕ). Some head) heads }

some_same : {X : Type 0} (x y : X) → Some x ≡ Some y → x ≡ y
some_same x y e = cc

pub known_heads : (nodes : List (Node Step)) (heads : List ℕ) (table : List Record) → AreHeads nodes heads table → AreKnown (all_known nodes heads) table
known_heads nodes heads table h i head rec at is =
    let m = map_get (λ (head : ℕ). Some head) heads i (Some head) at in
    let same : m.0 ≡ head = some_same m.0 head (sym m.2) in
    let there : slice_get heads i ≡ Some head = m.1 ∙ ap (λ (n : ℕ). Some n) same in (
      h.within i head there,
      some_same (steps_under nodes head) rec.steps
          (sym (get_map (steps_under nodes) heads i head there) ∙ sym (ap (λ (l : List (List Step)). slice_get l i) h.talks) ∙ get_map (λ (r : Record). r.steps) table i rec is),
    )

pub known_contents : (it : Recorded) (table : List Record) → AreContents it table → AreKnown (all_known it.nodes it.heads) table
known_contents it table h i head rec at is =
    let m = map_get (λ (head : ℕ). Some head) it.heads i (Some head) at in
    let same : m.0 ≡ head = some_same m.0 head (sym m.2) in
    let there : slice_get it.heads i ≡ Some head = m.1 ∙ ap (λ (n : ℕ). Some n) same in
    (h.within i head there, h.steps i head rec there is)

-- ---- the one table of an earlier version

pub one_pushed : (table : List Record) (new : List (List Record)) → table ≢ [] → IsPushed table [] new → new ≡ one_of table
one_pushed [] new some is = absurd (some refl)
one_pushed (rec ∷ table) new some is = elim is [ inl x ↦ absurd (let lt = x.1 in omega arith) | inr x ↦ x.1 ]

records_one : (table : List Record) → records (one_of table) ≡ table
records_one [] = refl
records_one (rec ∷ table) = append-nil (rec ∷ table)

pub one_contents : (it : Recorded) (table : List Record) (kept : List (List Record)) → kept ≡ one_of table → AreContents it table → AreContents it (records kept)
one_contents it table kept e h = subst (λ (t : List Record). AreContents it t) (sym (ap records e ∙ records_one table)) h
