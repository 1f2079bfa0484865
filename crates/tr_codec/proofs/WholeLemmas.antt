-- What is told by numbers of a whole table: that all nodes and all blobs are in use, each at its place.
use Rattle.std.proofs.Common.{◌≡◌, ◌∙◌, refl, sym, ap, subst, ℕ, ◌≤◌, Bool, true, false, ◌&&◌, ◌==◌, List, [], Option, Some, None, length, map, slice_get, arith}
use Rattle.std.specs.Prelude.{fold}
use Rattle.std.specs.Bool.{Decides, one_answer}
use Rattle.std.specs.Cmp.Lexicographic.{pointwise, pointwise_decides, bytes_decides}
use Rattle.std.proofs.lemmas.Bool.{eq-eqb, eqb-true}
use Rattle.std.proofs.lemmas.List.{take_all}
use Rattle.rk_base.specs.Text.{Text, same_text}
use Rattle.tr_nodes.specs.Nodes.{Node}
use Rattle.tr_nodes.specs.Tails.{Tail, same_tail, needed, node_in, steps_at, tails_of, AreNodes, UsesAll}
use Rattle.tr_nodes.proofs.ExactlyLemmas.{uses_exactly}
use Rattle.tr_nodes.proofs.ReadLemmas.{tails_long, tails_built, nodes_again}
use Rattle.tr_nodes.proofs.TailLemmas.{tail_decides}
use Rattle.tr_record.specs.declared.records.Record.{Record}
use Rattle.tr_record.specs.declared.steps.Step.{Step}
use Rattle.tr_parts.specs.Piece.{with_uses}
use Rattle.tr_codec.specs.Reading.{◌>>=◌, given, count_at, many_at, record_at, records_at, is_whole}
use Rattle.tr_codec.specs.Rows.{InUse, AreHeads}
use Rattle.tr_codec.specs.Same.{same_step}
use Rattle.tr_codec.specs.Spelling.{talks, spelt_with, table_piece}
use Rattle.tr_codec.specs.Used.{used_by, nodes_used, keys_used, all_used}
use Rattle.tr_codec.proofs.InUseLemmas.{one_count}
use Rattle.tr_codec.proofs.SameLemmas.{step_decides}
use Rattle.tr_codec.proofs.UsedLemmas.{after_spelt, ascending, uses_all}

-- all of so many
all_are : (used : Option ℕ) (many : ℕ) → Decides (all_used used many) (used ≡ Some many)
all_are None many = (λ h. absurd cc, λ e. absurd cc)
all_are (Some n) many = (λ h. ap (λ (k : ℕ). Some k) (eqb-true n many h), λ e. eq-eqb n many (let same : n ≡ many = cc in same))

decides_along : {P Q : Type 0} (b : Bool) → Decides b P → (P → Q) → (Q → P) → Decides b Q
decides_along b d f g = (λ h. f (d.0 h), λ q. d.1 (g q))

module _ (nodes : List (Node Step)) (heads : List ℕ) (table : List Record) (are : AreNodes nodes) (h : AreHeads nodes heads table) where
  abbrev tails : List (Tail Step)
  tails = tails_of nodes

  -- the heads use all nodes exactly where the records need these
  exactly : (UsesAll nodes 0 heads (length nodes) → needed same_step (talks table) ≡ tails) × (needed same_step (talks table) ≡ tails → UsesAll nodes 0 heads (length nodes))
  exactly =
      let long = tails_long nodes in
      let built = tails_built same_step step_decides nodes are in
      let again : nodes ≡ map (node_in same_step tails) tails = nodes_again same_step step_decides nodes are in
      let within : (k head : ℕ) → slice_get heads k ≡ Some head → head ≤ length tails = λ k head at. let low = h.within k head at in omega arith in
      let both = uses_exactly same_step step_decides tails built heads within in
      let steps : needed same_step (talks table) ≡ needed same_step (map (steps_at tails) heads) = ap (needed same_step) h.talks in (
        λ uses.
            let there : UsesAll (map (node_in same_step tails) tails) 0 heads (length tails) =
            subst (λ (n : ℕ). UsesAll (map (node_in same_step tails) tails) 0 heads n) (sym long) (subst (λ (l : List (Node Step)). UsesAll l 0 heads (length nodes)) again uses)
            in
            steps ∙ both.0 there,
        λ e.
            let there = both.1 (sym steps ∙ e) in
            subst (λ (n : ℕ). UsesAll nodes 0 heads n) long (subst (λ (l : List (Node Step)). UsesAll l 0 heads (length tails)) (sym again) there),
      )

  counted_all : (in_use : Option ℕ) → InUse nodes heads in_use → (in_use ≡ Some (length nodes) → UsesAll nodes 0 heads (length nodes)) × (UsesAll nodes 0 heads (length nodes) → in_use ≡ Some (length nodes))
  counted_all None so = (λ e. absurd cc, λ all. absurd (so (length nodes) all))
  counted_all (Some n) so = (
    λ e. let same : n ≡ length nodes = cc in subst (λ (k : ℕ). UsesAll nodes 0 heads k) same so.0,
    λ all. ap (λ (k : ℕ). Some k) (one_count nodes 0 heads n (length nodes) so.0 all),
  )

  nodes_tell : (in_use : Option ℕ) → InUse nodes heads in_use → pointwise (same_tail same_step) (needed same_step (talks table)) tails ≡ all_used in_use (length nodes)
  nodes_tell in_use so =
      let count = counted_all in_use so in
      one_answer (pointwise (same_tail same_step) (needed same_step (talks table)) tails) (all_used in_use (length nodes))
      (pointwise_decides (tail_decides same_step step_decides) (needed same_step (talks table)) tails)
      (decides_along (all_used in_use (length nodes)) (all_are in_use (length nodes)) (λ e. exactly.0 (count.0 e)) (λ e. count.1 (exactly.1 e)))

  blobs_tell : (blobs : List Text) (used : Option ℕ) → used ≡ keys_used blobs (nodes_used blobs (Some 0) tails) table → needed same_step (talks table) ≡ tails
      → pointwise same_text (with_uses [] (table_piece table).uses) blobs ≡ all_used used (length blobs)
  blobs_tell blobs used is e =
      let texts = (table_piece table).uses in
      let same : (spelt_with tails table).uses ≡ texts = ap (λ (l : List (Tail Step)). (spelt_with l table).uses) (sym e) in
      let count : used ≡ fold (used_by blobs) (Some 0) texts = is ∙ after_spelt blobs (Some 0) tails table ∙ ap (fold (used_by blobs) (Some 0)) same in
      one_answer (pointwise same_text (with_uses [] texts) blobs) (all_used used (length blobs))
      (pointwise_decides bytes_decides (with_uses [] texts) blobs)
      (decides_along (all_used used (length blobs)) (all_are used (length blobs))
      (λ all. ascending blobs texts 0 (length blobs) (omega arith) (sym count ∙ all) ∙ take_all (length blobs) blobs (omega arith))
      (λ all. count ∙ subst (λ (l : List Text). fold (used_by l) (Some 0) texts ≡ Some (length l)) all (uses_all [] texts)))

  pub whole_is : (blobs : List Text) (in_use used : Option ℕ) (rest : List ℕ) → InUse nodes heads in_use → used ≡ keys_used blobs (nodes_used blobs (Some 0) tails) table
      → is_whole blobs tails table rest ≡ given (all_used in_use (length nodes) && (all_used used (length blobs) && (length rest == 0))) table
  whole_is blobs in_use used rest so is =
      let first = all_used in_use (length nodes) in
      let needs = pointwise (same_tail same_step) (needed same_step (talks table)) tails in
      let texts = pointwise same_text (with_uses [] (table_piece table).uses) blobs in
      let other = all_used used (length blobs) in
      let same = nodes_tell in_use so in
      elim first as (λ b. first ≡ b → given (needs && (texts && (length rest == 0))) table ≡ given (b && (other && (length rest == 0))) table) [
        | true ↦ λ t.
            let e : needed same_step (talks table) ≡ tails = (pointwise_decides (tail_decides same_step step_decides) (needed same_step (talks table)) tails).0 (same ∙ t) in
            ap (λ b. given (b && (texts && (length rest == 0))) table) (same ∙ t) ∙ ap (λ b. given (b && (length rest == 0)) table) (blobs_tell blobs used is e)
        | false ↦ λ f. ap (λ b. given (b && (texts && (length rest == 0))) table) (same ∙ f)
      ] refl

-- the records that stand there, where so many are read
pub records_read : (blobs : List Text) (tails : List (Tail Step)) (bytes : List ℕ) (count : ℕ) (rest : List ℕ) (table : List Record) (left : List ℕ) → count_at bytes ≡ Some (count, rest) → many_at (record_at blobs tails) count [] rest ≡ Some (table, left)
    → records_at blobs tails bytes ≡ is_whole blobs tails table left
records_read blobs tails bytes count rest table left e f =
    let after : Option (List Record × List ℕ) → Option (List Record) = λ o. o >>= λ t. is_whole blobs tails t.0 t.1 in
    ap (λ (o : Option (ℕ × List ℕ)). after (o >>= λ n. many_at (record_at blobs tails) n.0 [] n.1)) e ∙ ap after f

-- and whether they are a whole table, as it is told
pub table_told : (nodes : List (Node Step)) (heads : List ℕ) (table : List Record) (blobs : List Text) (in_use used : Option ℕ) (rest : List ℕ) (many few : ℕ) (whole : Bool)
    → AreNodes nodes → AreHeads nodes heads table → InUse nodes heads in_use → used ≡ keys_used blobs (nodes_used blobs (Some 0) (tails_of nodes)) table
    → many ≡ length nodes → few ≡ length blobs → whole ≡ (all_used in_use many && (all_used used few && (length rest == 0))) → is_whole blobs (tails_of nodes) table rest ≡ given whole table
table_told nodes heads table blobs in_use used rest many few whole are h so is m f w =
    whole_is nodes heads table are h blobs in_use used rest so is
    ∙ ap (λ n. given (all_used in_use n && (all_used used (length blobs) && (length rest == 0))) table) (sym m)
    ∙ ap (λ n. given (all_used in_use many && (all_used used n && (length rest == 0))) table) (sym f)
    ∙ ap (λ b. given b table) (sym w)
