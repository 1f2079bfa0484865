-- Records that are read, and the numbers of their steps.
use Rattle.std.proofs.Common.{◌≡◌, ◌∙◌, refl, sym, ap, subst, ℕ, ◌≤◌, inl, inr, List, [], ◌∷◌, ◌++◌, Option, Some, None, length, map, slice_get, arith}
use Rattle.std.proofs.lemmas.List.{length-map, map-append}
use Rattle.rk_base.specs.Text.{Text}
use Rattle.tr_nodes.specs.Nodes.{Node}
use Rattle.tr_nodes.specs.Tails.{Tail}
use Rattle.tr_nodes.proofs.GetLemmas.{get_push, get_map}
use Rattle.tr_record.specs.Contents.{AreContents}
use Rattle.tr_record.specs.Pool.{Pool, steps_under}
use Rattle.tr_record.specs.declared.records.Record.{Record}
use Rattle.tr_record.specs.declared.steps.Step.{Step}
use Rattle.tr_parts.specs.declared.fault.PartErr.{PartErr}
use Rattle.tr_parts.specs.declared.fault.PartErr.TheVariants.{Form, NoMemory}
use Rattle.tr_parts.specs.Reads.{Fails}
use Rattle.tr_codec.specs.NodesRead.{AreTold}
use Rattle.tr_codec.specs.Reading.{◌>>=◌, Row, next_rec, row_at, record_at}
use Rattle.tr_codec.specs.Rows.{AreHeads}
use Rattle.tr_codec.specs.Spelling.{talks}

pub record_read : (blobs : List Text) (tails : List (Tail Step)) (front : List Record) (bytes : List ℕ) (row : Row) (rest : List ℕ) → row_at blobs tails bytes ≡ Some (row, rest) → record_at blobs tails front bytes ≡ Some (next_rec front row, rest)
unfolding record_at
record_read blobs tails front bytes row rest e = ap (λ (o : Option (Row × List ℕ)). o >>= λ row. Some (next_rec front row.0, row.1)) e

pub record_unread : (blobs : List Text) (tails : List (Tail Step)) (front : List Record) (bytes : List ℕ) (e : PartErr) → Fails e (row_at blobs tails bytes) → Fails e (record_at blobs tails front bytes)
unfolding record_at
record_unread blobs tails front bytes NoMemory h = tt
record_unread blobs tails front bytes Form h = ap (λ (o : Option (Row × List ℕ)). o >>= λ row. Some (next_rec front row.0, row.1)) h

-- ---- the numbers of records' steps

pub heads_none : (nodes : List (Node Step)) → AreHeads nodes [] []
heads_none nodes = record { talks = refl; within = λ i head at. absurd (let e : None ≡ Some head = at in cc) }

pub heads_more : (nodes : List (Node Step)) (heads : List ℕ) (table : List Record) (head : ℕ) (rec : Record) → AreHeads nodes heads table → head ≤ length nodes → rec.steps ≡ steps_under nodes head → AreHeads nodes (heads ++ head ∷ []) (table ++ rec ∷ [])
heads_more nodes heads table head rec h le is = record {
  talks =
      map-append (λ (r : Record). r.steps) table (rec ∷ [])
      ∙ ap (λ l. l ++ rec.steps ∷ []) h.talks
      ∙ ap (λ (s : List Step). map (steps_under nodes) heads ++ s ∷ []) is
      ∙ sym (map-append (steps_under nodes) heads (head ∷ []));
  within = λ i other at. elim (get_push heads head i other at) [ inl before ↦ h.within i other before | inr last ↦ subst (λ (n : ℕ). n ≤ length nodes) last.1 le ];
}

some_same : {X : Type 0} (x y : X) → Some x ≡ Some y → x ≡ y
some_same x y e = cc

-- what is known of records by their numbers, and of the answers by theirs
pub contents_are : (texts : List Text) (pool : Pool) (heads : List ℕ) (table : List Record) → AreHeads pool.nodes heads table → AreTold texts pool → AreContents (record { texts = texts; nodes = pool.nodes; contents = pool.contents; heads = heads }) table
contents_are texts pool heads table h told = record {
  many =
      let a = length-map table (λ (r : Record). r.steps) in
      let b = length-map heads (steps_under pool.nodes) in
      let e : length (talks table) ≡ length (map (steps_under pool.nodes) heads) = ap (λ (l : List (List Step)). length l) h.talks in
      omega arith;
  within = h.within;
  steps = λ i head rec at is.
      some_same (steps_under pool.nodes head) rec.steps
      (sym (get_map (steps_under pool.nodes) heads i head at) ∙ sym (ap (λ (l : List (List Step)). slice_get l i) h.talks) ∙ get_map (λ (r : Record). r.steps) table i rec is);
  numbers = told.numbers;
}
