-- Tables that are read, one after the other.
use Rattle.std.proofs.Common.{◌≡◌, ◌∙◌, refl, sym, ap, subst, ℕ, zero, suc, ◌+◌, ◌<◌, ◌≤◌, Bool, true, false, ◌&&◌, ◌||◌, ◌==◌, not, nat_le, List, [], ◌∷◌, ◌++◌, Option, Some, None, length, take, slice_get, arith}
use Rattle.std.specs.List.{list_any, flat_map}
use Rattle.std.proofs.lemmas.Bool.{leb-true, le-leb, false_from_ne_true, not-true, and_from}
use Rattle.std.proofs.lemmas.List.{length-append, take_all}
use Rattle.rk_base.specs.Text.{Text}
use Rattle.tr_nodes.specs.Nodes.{Node}
use Rattle.tr_nodes.specs.Tails.{Tail, AreNodes, tails_of}
use Rattle.tr_nodes.proofs.GetLemmas.{there}
use Rattle.tr_record.specs.Generations.{records, AreGenerations}
use Rattle.tr_record.specs.declared.records.Record.{Record}
use Rattle.tr_record.specs.declared.steps.Step.{Step}
use Rattle.tr_kept.specs.Generations.{heads_in, all_heads, AreAllHeads, TablesRead}
use Rattle.tr_kept.specs.KeptReading.{same_table, has_table, is_generation, generation_at, generations_at, are_whole}
use Rattle.tr_codec.specs.Reading.{◌>>=◌, given, count_at, many_at, record_at, is_whole}
use Rattle.tr_codec.specs.Rows.{InUse, AreHeads}
use Rattle.tr_codec.specs.Used.{nodes_used, keys_used, all_used}
use Rattle.tr_codec.proofs.ExactLemmas.{bind_inv, some_is, both}
use Rattle.tr_kept.specs.declared.generations.ReadTables.{ReadTables}
use Rattle.tr_codec.specs.declared.records.Used.{Used}
use Rattle.tr_kept.proofs.HeadedLemmas.{all_heads_push, flat_push, keys_push}
use Rattle.tr_kept.proofs.GenerationLemmas.{table_decides, apart_push, are_generations, generations_apart}
use Rattle.tr_codec.proofs.WholeLemmas.{table_told}

-- ---- whether a table is one of those

any_next : {X : Type 0} (t : X → Bool) (xs : List X) (i : ℕ) (x : X) → slice_get xs i ≡ Some x → list_any t (take i xs) ≡ false → t x ≡ false → list_any t (take (suc i) xs) ≡ false
any_next t [] i x at none isnt = refl
any_next t (y ∷ ys) zero x at none isnt = let e : y ≡ x = cc in ap (λ b. b || false) (ap t e ∙ isnt)
any_next t (y ∷ ys) (suc i) x at none isnt =
    (elim (t y) as (λ b. (b || list_any t (take i ys)) ≡ false → (b || list_any t (take (suc i) ys)) ≡ false) [
      | true ↦ λ h. absurd (let f : true ≡ false = h in cc)
      | false ↦ λ h. any_next t ys i x at h isnt
    ]) none

pub has_next : (kept : List (List Record)) (i : ℕ) (other table : List Record) → slice_get kept i ≡ Some other → (other ≡ table → ⊥) → has_table (take i kept) table ≡ false → has_table (take (i + 1) kept) table ≡ false
has_next kept i other table at isnt none =
    let next : suc i ≡ i + 1 = omega arith in
    subst (λ n. has_table (take n kept) table ≡ false) next
    (any_next (same_table table) kept i other at none (false_from_ne_true (same_table table other) (λ h. isnt (sym ((table_decides table other).0 h)))))

pub has_here : (kept : List (List Record)) (i : ℕ) (other table : List Record) → slice_get kept i ≡ Some other → other ≡ table → has_table kept table ≡ true
has_here kept i other table at is = there same_table table_decides kept i table (at ∙ ap (λ (t : List Record). Some t) is)

pub has_none : (kept : List (List Record)) (i : ℕ) (table : List Record) → length kept ≤ i → has_table (take i kept) table ≡ false → has_table kept table ≡ false
has_none kept i table le none = ap (λ (l : List (List Record)). has_table l table) (sym (take_all i kept le)) ∙ none

-- ---- whether it is a generation

pub is_empty : (front : List (List Record)) (table : List Record) → length table ≡ 0 → is_generation front table ≡ false
is_empty front table e = ap (λ n. nat_le 1 n && not (has_table front table)) e

pub is_there : (front : List (List Record)) (table : List Record) → has_table front table ≡ true → is_generation front table ≡ false
is_there front table e =
    ap (λ b. nat_le 1 (length table) && not b) e ∙ (elim (nat_le 1 (length table)) as (λ b. (b && false) ≡ false) [ true ↦ refl | false ↦ refl ])

pub is_new : (front : List (List Record)) (table : List Record) → (length table ≡ 0 → ⊥) → has_table front table ≡ false → is_generation front table ≡ true
is_new front table some e = and_from (nat_le 1 (length table)) (not (has_table front table)) (le-leb 1 (length table) (omega (arith, some))) (ap not e)

pub generation_full : (front : List (List Record)) (table : List Record) → is_generation front table ≡ true → 1 ≤ length table
generation_full front table e = leb-true 1 (length table) (both (nat_le 1 (length table)) (not (has_table front table)) e).0

pub generation_new : (front : List (List Record)) (table : List Record) → is_generation front table ≡ true → has_table front table ≡ false
generation_new front table e = not-true (has_table front table) (both (nat_le 1 (length table)) (not (has_table front table)) e).1

-- one that may be kept behind these
pub generations_push : (front : List (List Record)) (table : List Record) → AreGenerations front → is_generation front table ≡ true → length front < 8 → AreGenerations (front ++ table ∷ [])
generations_push front table are e few =
    are_generations (front ++ table ∷ []) (apart_push front table (generations_apart front are) (generation_full front table e) (generation_new front table e)) (omega (arith, length-append front (table ∷ [])))

-- ---- one more

pub generation_read : (blobs : List Text) (tails : List (Tail Step)) (front : List (List Record)) (bytes : List ℕ) (count : ℕ) (rest : List ℕ) (table : List Record) (left : List ℕ) → count_at bytes ≡ Some (count, rest) → many_at (record_at blobs tails) count [] rest ≡ Some (table, left)
    → generation_at blobs tails front bytes ≡ given (is_generation front table) (table, left)
unfolding generation_at
generation_read blobs tails front bytes count rest table left e f =
    let after : Option (List Record × List ℕ) → Option (List Record × List ℕ) = λ o. o >>= λ t. given (is_generation front t.0) t in
    ap (λ (o : Option (ℕ × List ℕ)). after (o >>= λ n. many_at (record_at blobs tails) n.0 [] n.1)) e ∙ ap after f

pub tables_push : (blobs : List Text) (nodes : List (Node Step)) (old new : ReadTables) (first : Option ℕ) (before now : Used) (table : List Record) (heads : List ℕ) → TablesRead blobs nodes old first before
    → new.kept ≡ old.kept ++ table ∷ [] → heads_in new ≡ heads_in old ++ heads ∷ [] → AreHeads nodes heads table → ((earlier : List ℕ) → InUse nodes earlier before.nodes → InUse nodes (earlier ++ heads) now.nodes)
    → now.blobs ≡ keys_used blobs before.blobs table → TablesRead blobs nodes new first now
tables_push blobs nodes old new first before now table heads h kept numbers mine in_use uses = record {
  heads =
      subst (λ (l : List (List ℕ)). AreAllHeads nodes l new.kept) (sym numbers)
      (subst (λ (k : List (List Record)). AreAllHeads nodes (heads_in old ++ heads ∷ []) k) (sym kept) (all_heads_push nodes (heads_in old) old.kept heads table h.heads mine));
  in_use =
      subst (λ (l : List ℕ). InUse nodes l now.nodes) (sym (ap (flat_map (λ (l : List ℕ). l)) numbers ∙ flat_push (heads_in old) heads)) (in_use (all_heads old) h.in_use);
  uses =
      subst (λ (k : List (List Record)). now.blobs ≡ keys_used blobs first (records k)) (sym kept) (keys_push blobs first before.blobs now.blobs old.kept table h.uses uses);
}

-- ---- how many

many_long : {X : Type 0} (one : List X → List ℕ → Option (X × List ℕ)) (count : ℕ) (front : List X) (bytes : List ℕ) (p : List X × List ℕ) → many_at one count front bytes ≡ Some p → length p.0 ≡ length front + count
unfolding many_at
many_long one zero front bytes p h = ap (λ (q : List _ × List ℕ). length q.0) (sym (some_is (front, bytes) p h)) ∙ omega arith
many_long one (suc count) front bytes p h =
    let a = bind_inv (one front bytes) _ p h in
    let more = many_long one count (front ++ a.0.0 ∷ []) a.0.1 p a.2 in
    omega (arith, length-append front (a.0.0 ∷ []))

pub too_many : (blobs : List Text) (tails : List (Tail Step)) (bytes : List ℕ) (count : ℕ) (rest : List ℕ) → count_at bytes ≡ Some (count, rest) → 8 < count → generations_at blobs tails bytes ≡ None
too_many blobs tails bytes count rest e lt =
    let after : Option (List (List Record) × List ℕ) → Option (List (List Record)) = λ o. o >>= λ t. are_whole blobs tails t.0 t.1 in
    ap (λ (o : Option (ℕ × List ℕ)). after (o >>= λ n. many_at (generation_at blobs tails) n.0 [] n.1)) e
    ∙ (elim (many_at (generation_at blobs tails) count [] rest) as (λ o. many_at (generation_at blobs tails) count [] rest ≡ o → after o ≡ None) [
      | None ↦ λ h. refl
      | Some p ↦ λ h.
          let long = many_long (generation_at blobs tails) count [] rest p h in
          let above : nat_le (length p.0) 8 ≡ false = false_from_ne_true (nat_le (length p.0) 8) (λ t. let low = leb-true (length p.0) 8 t in absurd (omega arith)) in
          ap (λ b. given b p.0 >>= λ kept. is_whole blobs tails (records kept) p.1 >>= λ all. Some kept) above
    ] refl)

pub generations_read : (blobs : List Text) (tails : List (Tail Step)) (bytes : List ℕ) (count : ℕ) (rest : List ℕ) (kept : List (List Record)) (left : List ℕ) → count_at bytes ≡ Some (count, rest) → many_at (generation_at blobs tails) count [] rest ≡ Some (kept, left)
    → generations_at blobs tails bytes ≡ are_whole blobs tails kept left
generations_read blobs tails bytes count rest kept left e f =
    let after : Option (List (List Record) × List ℕ) → Option (List (List Record)) = λ o. o >>= λ t. are_whole blobs tails t.0 t.1 in
    ap (λ (o : Option (ℕ × List ℕ)). after (o >>= λ n. many_at (generation_at blobs tails) n.0 [] n.1)) e ∙ ap after f

-- and whether they are whole, as it is told
given_all : {X Y : Type 0} (b : Bool) (x : X) (y : Y) → (given b x >>= λ all. Some y) ≡ given b y
given_all true x y = refl
given_all false x y = refl

pub kept_told : (nodes : List (Node Step)) (heads : List ℕ) (kept : List (List Record)) (blobs : List Text) (in_use used : Option ℕ) (rest : List ℕ) (many few : ℕ) (whole : Bool)
    → AreNodes nodes → AreHeads nodes heads (records kept) → InUse nodes heads in_use → used ≡ keys_used blobs (nodes_used blobs (Some 0) (tails_of nodes)) (records kept)
    → many ≡ length nodes → few ≡ length blobs → whole ≡ (all_used in_use many && (all_used used few && (length rest == 0))) → length kept ≤ 8 → are_whole blobs (tails_of nodes) kept rest ≡ given whole kept
kept_told nodes heads kept blobs in_use used rest many few whole are h so is m f w le =
    ap (λ b. given b kept >>= λ kept. is_whole blobs (tails_of nodes) (records kept) rest >>= λ all. Some kept) (le-leb (length kept) 8 le)
    ∙ ap (λ (o : Option (List Record)). o >>= λ all. Some kept) (table_told nodes heads (records kept) blobs in_use used rest many few whole are h so is m f w)
    ∙ given_all whole (records kept) kept
