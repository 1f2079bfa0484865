-- A body is read exactly: as the tables that it spells, and none else.
use Rattle.std.proofs.Common.{◌≡◌, ◌∙◌, refl, sym, ap, subst, ℕ, ◌^◌, ◌<◌, ◌≤◌, true, false, ◌&&◌, ◌==◌, cond, not, nat_le, List, [], ◌∷◌, ◌++◌, Option, Some, None, length, take, drop, append_assoc, arith}
use Rattle.std.specs.List.{flat_map, AllByRecursion, IsDistinct}
use Rattle.std.proofs.lemmas.Bool.{eqb-true, le-leb, leb-true, not-true, and_from}
use Rattle.std.proofs.lemmas.List.{append-nil, length-append, take-append-drop}
use Rattle.std.specs.Cmp.Lexicographic.{pointwise, pointwise_decides, bytes_decides}
use Rattle.rk_base.specs.Text.{Text, same_text}
use Rattle.tr_nodes.specs.Tails.{Tail, IsApart, same_tail, needed}
use Rattle.tr_nodes.proofs.TailLemmas.{tail_decides, built_none}
use Rattle.tr_record.specs.Generations.{records}
use Rattle.tr_record.specs.declared.steps.Step.{Step}
use Rattle.tr_record.specs.declared.records.Record.{Record}
use Rattle.tr_parts.specs.Piece.{plain, ◌⊕◌, each, num, string, with_uses, number, counted}
use Rattle.tr_parts.proofs.AgainLemmas.{again_given, Items, items_length, again_counted}
use Rattle.tr_codec.specs.Fits.{Fits}
use Rattle.tr_kept.specs.KeptReading.{has_table, is_generation, generation_at, are_whole, kept_at, body_at}
use Rattle.tr_kept.specs.KeptSpelling.{kept_with, kept_piece, magic, FitsKept}
use Rattle.tr_codec.specs.Reading.{◌>>=◌, given, counted_at, fresh_at, node_at, record_at, is_whole}
use Rattle.tr_codec.specs.Same.{same_step}
use Rattle.tr_codec.specs.Spelling.{node_piece, record_piece, talks, table_piece, body}
use Rattle.tr_codec.proofs.BodyLemmas.{needed_built, whole_again}
use Rattle.tr_codec.proofs.ExactLemmas.{AreBytes, bind_inv, given_inv, some_is, both, all_push, later_bytes, took_blobs, Took, took_counted}
use Rattle.tr_kept.proofs.GenerationLemmas.{IsFull, AreApart, apart_none, apart_push, fresh_table, are_generations, generations_apart, kept_uses, all_split, all_fit}
use Rattle.tr_codec.proofs.NodesAgain.{IsIn, needed_fit, needed_in, each_long, node_long, back_nodes, back_records}
use Rattle.tr_codec.proofs.NodesExact.{Built, FitsTail, took_nodes, took_records}
use Rattle.tr_codec.proofs.OldBodyLemmas.{after_magic, fresh_items, nothing_left}
use Rattle.tr_codec.proofs.SameLemmas.{step_decides}
use Rattle.tr_codec.proofs.TableAgain.{Covers, both_covered, each_covered, uses_there, long_left, long_number, Back, back_counted}
use Rattle.tr_codec.proofs.UsedLemmas.{Fresh, used_once}

-- ---- tables that are read again

module _ (blobs : List Text) (few : length blobs < 2 ^ 64) (tails : List (Tail Step)) (small : length tails < 2 ^ 64) where
  back_generation : (front : List (List Record)) (table : List Record) → Fits table → 1 ≤ length table → has_table front table ≡ false → AllByRecursion (IsIn tails) table → Covers blobs (counted (record_piece tails) table).uses
      → Back blobs (generation_at blobs tails front) (counted (record_piece tails) table) table
  unfolding generation_at
  back_generation front table fits some new within covered =
      again_given (counted_at (record_at blobs tails)) (is_generation front) (λ table. table) ((counted (record_piece tails) table).spelt blobs) table
      (back_records blobs few tails small table fits within covered) (and_from (nat_le 1 (length table)) (not (has_table front table)) (le-leb 1 (length table) some) (ap not new))

  generation_items : (all front kept : List (List Record)) → all ≡ front ++ kept → IsApart all → AllByRecursion Fits kept → AllByRecursion IsFull kept → AllByRecursion (IsIn tails) (records kept) → Covers blobs (each (counted (record_piece tails)) kept).uses
      → Items (generation_at blobs tails) (λ table. (counted (record_piece tails) table).spelt blobs) front kept
  generation_items all front [] e apart fits full within covered = tt
  generation_items all front (table ∷ kept) e apart fits full within covered =
      let c = each_covered blobs (counted (record_piece tails)) table kept covered in
      let w = all_split (IsIn tails) table (records kept) within in (
        back_generation front table fits.0 full.0 (fresh_table all front kept table e apart) w.0 c.0,
        long_left blobs (number (length table)) (each (record_piece tails) table) (long_number blobs (length table)),
        generation_items all (front ++ table ∷ []) kept (e ∙ sym (append_assoc front (table ∷ []) kept)) apart fits.1 full.1 w.1 c.1,
      )

  back_generations : (kept : List (List Record)) → AllByRecursion Fits kept → AreApart kept → AllByRecursion (IsIn tails) (records kept) → Covers blobs (counted (counted (record_piece tails)) kept).uses
      → Back blobs (counted_at (generation_at blobs tails)) (counted (counted (record_piece tails)) kept) kept
  back_generations kept fits h within covered =
      let c = both_covered blobs (number (length kept)) (each (counted (record_piece tails)) kept) covered in
      back_counted blobs (generation_at blobs tails) (counted (record_piece tails)) kept (generation_items kept [] kept refl h.apart fits h.full within c.1)

-- ---- what is spelt is read

kept_whole : (blobs : List Text) (kept : List (List Record)) → length kept ≤ 8 → blobs ≡ with_uses [] (kept_piece kept).uses → are_whole blobs (needed same_step (talks (records kept))) kept [] ≡ Some kept
kept_whole blobs kept few e =
    let tails = needed same_step (talks (records kept)) in
    let uses : blobs ≡ with_uses [] (table_piece (records kept)).uses = e ∙ ap (with_uses []) (kept_uses tails kept) in
    ap (λ b. given b kept >>= λ kept. is_whole blobs tails (records kept) [] >>= λ all. Some kept) (le-leb (length kept) 8 few)
    ∙ ap (λ (o : Option (List Record)). o >>= λ all. Some kept) (whole_again blobs (records kept) uses)

after_again : (blobs : List Text) (kept : List (List Record)) → FitsKept kept → blobs ≡ with_uses [] (kept_piece kept).uses → length (after_magic blobs ((kept_piece kept).spelt blobs)) < 2 ^ 64
    → kept_at (after_magic blobs ((kept_piece kept).spelt blobs)) ≡ Some kept
unfolding kept_at ◌⊕◌ plain
after_again blobs kept fits e small =
    let table = records kept in
    let tails = needed same_step (talks table) in
    let nodes = counted (node_piece tails) tails in
    let tables = counted (counted (record_piece tails)) kept in
    let ns = nodes.spelt blobs in
    let rs = tables.spelt blobs in
    let spelt = ns ++ rs in
    let items = fresh_items [] blobs (subst (Fresh []) (sym e) (used_once (kept_piece kept).uses)) in
    let group : after_magic blobs spelt ≡ (num (length blobs) ++ flat_map string blobs) ++ spelt = sym (append_assoc (num (length blobs)) (flat_map string blobs) spelt) in
    let whole : length ((num (length blobs) ++ flat_map string blobs) ++ spelt) < 2 ^ 64 = subst (λ n. n < 2 ^ 64) (ap length group) small in
    let parts = length-append (num (length blobs)) (flat_map string blobs ++ spelt) in
    let strings = length-append (flat_map string blobs) spelt in
    let counted_blobs = items_length fresh_at string [] blobs items in
    let few : length blobs < 2 ^ 64 = omega arith in
    let less : length spelt < 2 ^ 64 = omega arith in
    let both_parts = length-append ns rs in
    let all = each_long blobs (node_piece tails) tails (node_long blobs tails) in
    let front = length-append (num (length tails)) ((each (node_piece tails) tails).spelt blobs) in
    let small_tails : length tails < 2 ^ 64 = omega arith in
    let covered = subst (λ (l : List Text). Covers l (kept_piece kept).uses) (sym e) (uses_there [] (kept_piece kept).uses) in
    let c = both_covered blobs nodes tables covered in
    let built = needed_built table in
    let within = needed_in [] (built_none same_step step_decides) table tails refl in
    let fit = needed_fit [] table tt (all_fit kept fits.tables) in
    let last_less : length (rs ++ []) < 2 ^ 64 = subst (λ (l : List ℕ). length l < 2 ^ 64) (sym (append-nil rs)) (omega arith) in
    let three : Option (List (List Record) × List ℕ) → Option (List (List Record)) = λ o. o >>= λ t. are_whole blobs tails t.0 t.1 in
    let two : Option (List (Tail Step) × List ℕ) → Option (List (List Record)) = λ o. o >>= λ t. counted_at (generation_at blobs t.0) t.1 >>= λ r. are_whole blobs t.0 r.0 r.1 in
    let one : Option (List Text × List ℕ) → Option (List (List Record)) = λ o. o >>= λ b. counted_at (node_at b.0) b.1 >>= λ t. counted_at (generation_at b.0 t.0) t.1 >>= λ r. are_whole b.0 t.0 r.0 r.1 in
    ap (λ bytes. one (counted_at fresh_at bytes)) group
    ∙ ap one (again_counted fresh_at string blobs items spelt whole)
    ∙ ap two (back_nodes blobs few tails built small_tails fit c.0 rs less)
    ∙ ap (λ l. three (counted_at (generation_at blobs tails) l)) (sym (append-nil rs))
    ∙ ap three (back_generations blobs few tails small_tails kept fits.tables (generations_apart kept fits.are) within c.1 [] last_less)
    ∙ kept_whole blobs kept (let g = fits.are in g.few) e

pub body_again : (kept : List (List Record)) → FitsKept kept → length (body magic (kept_piece kept)) < 2 ^ 64 → body_at (body magic (kept_piece kept)) ≡ Some kept
unfolding body body_at
body_again kept fits small =
    let piece = kept_piece kept in
    let blobs = with_uses [] piece.uses in
    after_again blobs kept fits refl (omega (arith, length-append magic (after_magic blobs (piece.spelt blobs))))

-- ---- what is read is spelt so

record AreRead (kept : List (List Record)) : Type 0 where
  tables : AllByRecursion Fits kept
  apart : AreApart kept

module _ (blobs : List Text) (once : IsDistinct same_text blobs) (tails : List (Tail Step)) (built : Built tails) (fit : AllByRecursion FitsTail tails) where
  took_generation : (front : List (List Record)) (bytes : List ℕ) (p : List Record × List ℕ) → AreRead front → AreBytes bytes → generation_at blobs tails front bytes ≡ Some p → AreRead (front ++ p.0 ∷ []) × Took blobs (counted (record_piece tails) p.0) bytes p.1
  unfolding generation_at
  took_generation front bytes p good small h =
      let a = bind_inv (counted_at (record_at blobs tails) bytes) _ p h in
      let table = a.0.0 in
      let g = given_inv (is_generation front table) a.0 p a.2 in
      let tests = both (nat_le 1 (length table)) (not (has_table front table)) g.0 in
      let read = took_records blobs once tails built fit bytes a.0 small a.1 in
      let more : AreRead (front ++ table ∷ []) = record {
        tables = all_push blobs Fits front table good.tables read.0;
        apart = apart_push front table good.apart (leb-true 1 (length table) tests.0) (not-true (has_table front table) tests.1);
      } in
      subst (λ (q : List Record × List ℕ). AreRead (front ++ q.0 ∷ []) × Took blobs (counted (record_piece tails) q.0) bytes q.1) g.1 (more, read.1)

  took_generations : (bytes : List ℕ) (p : List (List Record) × List ℕ) → AreBytes bytes → counted_at (generation_at blobs tails) bytes ≡ Some p → AreRead p.0 × Took blobs (counted (counted (record_piece tails)) p.0) bytes p.1
  took_generations bytes p small h = took_counted blobs (generation_at blobs tails) (counted (record_piece tails)) AreRead took_generation bytes p (record { tables = tt; apart = apart_none }) small h

kept_exact : (bytes : List ℕ) (kept : List (List Record)) → AreBytes bytes → kept_at bytes ≡ Some kept
    → FitsKept kept × (let blobs = with_uses [] (kept_piece kept).uses in bytes ≡ after_magic blobs ((kept_piece kept).spelt blobs))
unfolding kept_at ◌⊕◌ each plain
kept_exact bytes kept small h =
    let a = bind_inv (counted_at fresh_at bytes) _ kept h in
    let blobs = a.0.0 in
    let b = bind_inv (counted_at (node_at blobs) a.0.1) _ kept a.2 in
    let tails = b.0.0 in
    let c = bind_inv (counted_at (generation_at blobs tails) b.0.1) _ kept b.2 in
    let t = c.0.0 in
    let read = took_blobs [] bytes a.0 small a.1 in
    let nodes = took_nodes blobs read.0 a.0.1 b.0 read.1.left b.1 in
    let tables = took_generations blobs read.0 tails nodes.built nodes.fits b.0.1 c.0 nodes.stands.left c.1 in
    let d = bind_inv (given (nat_le (length t) 8) t) _ kept c.2 in
    let few = given_inv (nat_le (length t) 8) t d.0 d.1 in
    let f = bind_inv (is_whole blobs tails (records d.0) c.0.1) _ kept d.2 in
    let is : t ≡ kept = few.1 ∙ some_is d.0 kept f.2 in
    let whole : is_whole blobs tails (records t) c.0.1 ≡ Some f.0 = ap (λ (k : List (List Record)). is_whole blobs tails (records k) c.0.1) few.1 ∙ f.1 in
    let table = records t in
    let g = given_inv (pointwise (same_tail same_step) (needed same_step (talks table)) tails && (pointwise same_text (with_uses [] (table_piece table).uses) blobs && (length c.0.1 == 0))) table f.0 whole in
    let x = both (pointwise (same_tail same_step) (needed same_step (talks table)) tails) (pointwise same_text (with_uses [] (table_piece table).uses) blobs && (length c.0.1 == 0)) g.0 in
    let y = both (pointwise same_text (with_uses [] (table_piece table).uses) blobs) (length c.0.1 == 0) x.1 in
    let needs : needed same_step (talks table) ≡ tails = (pointwise_decides (tail_decides same_step step_decides) (needed same_step (talks table)) tails).0 x.0 in
    let uses : with_uses [] (table_piece table).uses ≡ blobs = (pointwise_decides bytes_decides (with_uses [] (table_piece table).uses) blobs).0 y.0 in
    let nothing = nothing_left c.0.1 (eqb-true (length c.0.1) 0 y.1) in
    let ns = (counted (node_piece tails) tails).spelt blobs in
    let rs = (counted (counted (record_piece tails)) t).spelt blobs in
    let strings = num (length blobs) ++ flat_map string blobs in
    let end : b.0.1 ≡ rs = tables.1.spelt ∙ ap (λ l. rs ++ l) nothing ∙ append-nil rs in
    let here : bytes ≡ after_magic blobs (ns ++ rs) =
    read.1.spelt ∙ ap (λ l. strings ++ l) (nodes.stands.spelt ∙ ap (λ l. ns ++ l) end) ∙ append_assoc (num (length blobs)) (flat_map string blobs) (ns ++ rs)
    in
    let written : bytes ≡ after_magic blobs ((kept_piece t).spelt blobs) = here ∙ ap (λ (l : List (Tail Step)). after_magic blobs ((kept_with l t).spelt blobs)) (sym needs) in
    let same : blobs ≡ with_uses [] (kept_piece t).uses = sym uses ∙ ap (with_uses []) (sym (kept_uses (needed same_step (talks table)) t)) in
    let fits : FitsKept t = record { tables = tables.0.tables; are = are_generations t tables.0.apart (leb-true (length t) 8 few.0) } in
    subst (λ (r : List (List Record)). FitsKept r × (let texts = with_uses [] (kept_piece r).uses in bytes ≡ after_magic texts ((kept_piece r).spelt texts))) is
    (fits, written ∙ ap (λ (l : List Text). after_magic l ((kept_piece t).spelt l)) same)

pub body_exact : (bytes : List ℕ) (kept : List (List Record)) → AreBytes bytes → body_at bytes ≡ Some kept → FitsKept kept × (bytes ≡ body magic (kept_piece kept))
unfolding body_at body
body_exact bytes kept small h =
    let whole = take-append-drop 4 bytes in
    elim (same_text (take 4 bytes) magic) as (λ b. same_text (take 4 bytes) magic ≡ b → cond b (kept_at (drop 4 bytes)) None ≡ Some kept → FitsKept kept × (bytes ≡ body magic (kept_piece kept))) [
      | true ↦ λ is read.
          let front = (bytes_decides (take 4 bytes) magic).0 is in
          let rest = kept_exact (drop 4 bytes) kept (later_bytes (take 4 bytes) (drop 4 bytes) (subst AreBytes (sym whole) small)) read in
          (rest.0, sym whole ∙ ap (λ l. l ++ drop 4 bytes) front ∙ ap (λ l. magic ++ l) rest.1)
      | false ↦ λ is read. absurd cc
    ] refl h
