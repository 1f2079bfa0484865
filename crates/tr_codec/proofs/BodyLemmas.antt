-- A body is read exactly: as the table that it spells, and none else.
use Rattle.std.proofs.Common.{◌≡◌, ◌∙◌, refl, sym, ap, subst, ℕ, ◌^◌, ◌<◌, true, false, ◌&&◌, ◌==◌, cond, List, [], ◌++◌, Option, Some, None, length, take, drop, append_assoc, arith}
use Rattle.std.specs.List.{flat_map}
use Rattle.std.proofs.lemmas.Bool.{eqb-true}
use Rattle.std.proofs.lemmas.List.{append-nil, length-append, take-append-drop}
use Rattle.std.specs.Cmp.Lexicographic.{pointwise, pointwise_decides, bytes_decides}
use Rattle.rk_base.specs.Text.{Text, same_text}
use Rattle.tr_nodes.specs.Tails.{Tail, same_tail, needed}
use Rattle.tr_nodes.proofs.TailLemmas.{tail_decides, built_none, grows_all}
use Rattle.tr_record.specs.declared.steps.Step.{Step}
use Rattle.tr_record.specs.declared.records.Record.{Record}
use Rattle.tr_parts.specs.Piece.{plain, ◌⊕◌, each, num, string, with_uses, counted}
use Rattle.tr_parts.proofs.AgainLemmas.{items_length, again_counted}
use Rattle.tr_codec.specs.Same.{same_step}
use Rattle.tr_codec.specs.Spelling.{node_piece, record_piece, talks, spelt_with, table_piece, magic, body}
use Rattle.tr_codec.specs.Fits.{Fits}
use Rattle.tr_codec.specs.Reading.{◌>>=◌, given, counted_at, fresh_at, node_at, record_at, is_whole, table_at, body_at}
use Rattle.tr_codec.proofs.SameLemmas.{step_decides}
use Rattle.tr_codec.proofs.TableAgain.{Covers, both_covered, uses_there}
use Rattle.tr_codec.proofs.UsedLemmas.{Fresh, used_once}
use Rattle.tr_codec.proofs.OldBodyLemmas.{after_magic, fresh_items, nothing_left}
use Rattle.tr_codec.proofs.ExactLemmas.{AreBytes, bind_inv, given_inv, both, later_bytes, took_blobs}
use Rattle.tr_codec.proofs.NodesExact.{Built, took_nodes, took_records}
use Rattle.tr_codec.proofs.NodesAgain.{needed_fit, needed_in, each_long, node_long, back_nodes, back_records}

-- ---- what is spelt is read

pub needed_built : (table : List Record) → Built (needed same_step (talks table))
needed_built table = (grows_all same_step step_decides [] (built_none same_step step_decides) (talks table)).built

pub whole_again : (blobs : List Text) (table : List Record) → blobs ≡ with_uses [] (table_piece table).uses → is_whole blobs (needed same_step (talks table)) table [] ≡ Some table
whole_again blobs table e =
    let tails = needed same_step (talks table) in
    let first : pointwise (same_tail same_step) tails tails ≡ true = (pointwise_decides (tail_decides same_step step_decides) tails tails).1 refl in
    let second : pointwise same_text (with_uses [] (table_piece table).uses) blobs ≡ true = (pointwise_decides bytes_decides (with_uses [] (table_piece table).uses) blobs).1 (sym e) in
    ap (λ b. given (b && (pointwise same_text (with_uses [] (table_piece table).uses) blobs && true)) table) first ∙ ap (λ b. given (b && true) table) second

after_again : (blobs : List Text) (table : List Record) → Fits table → blobs ≡ with_uses [] (table_piece table).uses → length (after_magic blobs ((table_piece table).spelt blobs)) < 2 ^ 64
    → table_at (after_magic blobs ((table_piece table).spelt blobs)) ≡ Some table
unfolding table_at ◌⊕◌ plain
after_again blobs table fits e small =
    let tails = needed same_step (talks table) in
    let nodes = counted (node_piece tails) tails in
    let records = counted (record_piece tails) table in
    let ns = nodes.spelt blobs in
    let rs = records.spelt blobs in
    let spelt = ns ++ rs in
    let items = fresh_items [] blobs (subst (Fresh []) (sym e) (used_once (table_piece table).uses)) in
    let group : after_magic blobs spelt ≡ (num (length blobs) ++ flat_map string blobs) ++ spelt = sym (append_assoc (num (length blobs)) (flat_map string blobs) spelt) in
    let whole : length ((num (length blobs) ++ flat_map string blobs) ++ spelt) < 2 ^ 64 = subst (λ n. n < 2 ^ 64) (ap length group) small in
    let parts = length-append (num (length blobs)) (flat_map string blobs ++ spelt) in
    let strings = length-append (flat_map string blobs) spelt in
    let counted_blobs = items_length fresh_at string [] blobs items in
    let few : length blobs < 2 ^ 64 = omega arith in
    let less : length spelt < 2 ^ 64 = omega arith in
    let both_parts = length-append ns rs in
    let all = each_long blobs (node_piece tails) tails (node_long blobs tails) in
    let front = length-append (num (length tails)) ((each (node_piece tails) tails).spelt blobs) in
    let small_tails : length tails < 2 ^ 64 = omega arith in
    let covered = subst (λ (l : List Text). Covers l (table_piece table).uses) (sym e) (uses_there [] (table_piece table).uses) in
    let c = both_covered blobs nodes records covered in
    let built = needed_built table in
    let within = needed_in [] (built_none same_step step_decides) table tails refl in
    let fit = needed_fit [] table tt fits.records in
    let last_less : length (rs ++ []) < 2 ^ 64 = subst (λ (l : List ℕ). length l < 2 ^ 64) (sym (append-nil rs)) (omega arith) in
    let three : Option (List Record × List ℕ) → Option (List Record) = λ o. o >>= λ t. is_whole blobs tails t.0 t.1 in
    let two : Option (List (Tail Step) × List ℕ) → Option (List Record) = λ o. o >>= λ t. counted_at (record_at blobs t.0) t.1 >>= λ r. is_whole blobs t.0 r.0 r.1 in
    let one : Option (List Text × List ℕ) → Option (List Record) = λ o. o >>= λ b. counted_at (node_at b.0) b.1 >>= λ t. counted_at (record_at b.0 t.0) t.1 >>= λ r. is_whole b.0 t.0 r.0 r.1 in
    ap (λ bytes. one (counted_at fresh_at bytes)) group
    ∙ ap one (again_counted fresh_at string blobs items spelt whole)
    ∙ ap two (back_nodes blobs few tails built small_tails fit c.0 rs less)
    ∙ ap (λ l. three (counted_at (record_at blobs tails) l)) (sym (append-nil rs))
    ∙ ap three (back_records blobs few tails small_tails table fits within c.1 [] last_less)
    ∙ whole_again blobs table e

pub body_again : (table : List Record) → Fits table → length (body magic (table_piece table)) < 2 ^ 64 → body_at (body magic (table_piece table)) ≡ Some table
unfolding body body_at
body_again table fits small =
    let piece = table_piece table in
    let blobs = with_uses [] piece.uses in
    after_again blobs table fits refl (omega (arith, length-append magic (after_magic blobs (piece.spelt blobs))))

-- ---- what is read is spelt so

table_exact : (bytes : List ℕ) (table : List Record) → AreBytes bytes → table_at bytes ≡ Some table
    → Fits table × (let blobs = with_uses [] (table_piece table).uses in bytes ≡ after_magic blobs ((table_piece table).spelt blobs))
unfolding table_at ◌⊕◌ each plain
table_exact bytes table small h =
    let a = bind_inv (counted_at fresh_at bytes) _ table h in
    let blobs = a.0.0 in
    let b = bind_inv (counted_at (node_at blobs) a.0.1) _ table a.2 in
    let tails = b.0.0 in
    let c = bind_inv (counted_at (record_at blobs tails) b.0.1) _ table b.2 in
    let t = c.0.0 in
    let read = took_blobs [] bytes a.0 small a.1 in
    let nodes = took_nodes blobs read.0 a.0.1 b.0 read.1.left b.1 in
    let records = took_records blobs read.0 tails nodes.built nodes.fits b.0.1 c.0 nodes.stands.left c.1 in
    let g = given_inv (pointwise (same_tail same_step) (needed same_step (talks t)) tails && (pointwise same_text (with_uses [] (table_piece t).uses) blobs && (length c.0.1 == 0))) t table c.2 in
    let x = both (pointwise (same_tail same_step) (needed same_step (talks t)) tails) (pointwise same_text (with_uses [] (table_piece t).uses) blobs && (length c.0.1 == 0)) g.0 in
    let y = both (pointwise same_text (with_uses [] (table_piece t).uses) blobs) (length c.0.1 == 0) x.1 in
    let needs : needed same_step (talks t) ≡ tails = (pointwise_decides (tail_decides same_step step_decides) (needed same_step (talks t)) tails).0 x.0 in
    let uses : with_uses [] (table_piece t).uses ≡ blobs = (pointwise_decides bytes_decides (with_uses [] (table_piece t).uses) blobs).0 y.0 in
    let nothing = nothing_left c.0.1 (eqb-true (length c.0.1) 0 y.1) in
    let ns = (counted (node_piece tails) tails).spelt blobs in
    let rs = (counted (record_piece tails) t).spelt blobs in
    let strings = num (length blobs) ++ flat_map string blobs in
    let end : b.0.1 ≡ rs = records.1.spelt ∙ ap (λ l. rs ++ l) nothing ∙ append-nil rs in
    let here : bytes ≡ after_magic blobs (ns ++ rs) =
    read.1.spelt ∙ ap (λ l. strings ++ l) (nodes.stands.spelt ∙ ap (λ l. ns ++ l) end) ∙ append_assoc (num (length blobs)) (flat_map string blobs) (ns ++ rs)
    in
    let written : bytes ≡ after_magic blobs ((table_piece t).spelt blobs) = here ∙ ap (λ (l : List (Tail Step)). after_magic blobs ((spelt_with l t).spelt blobs)) (sym needs) in
    subst (λ (r : List Record). Fits r × (let texts = with_uses [] (table_piece r).uses in bytes ≡ after_magic texts ((table_piece r).spelt texts))) g.1
    (records.0, written ∙ ap (λ (l : List Text). after_magic l ((table_piece t).spelt l)) (sym uses))

pub body_exact : (bytes : List ℕ) (table : List Record) → AreBytes bytes → body_at bytes ≡ Some table → Fits table × (bytes ≡ body magic (table_piece table))
unfolding body_at body
body_exact bytes table small h =
    let whole = take-append-drop 4 bytes in
    elim (same_text (take 4 bytes) magic) as (λ b. same_text (take 4 bytes) magic ≡ b → cond b (table_at (drop 4 bytes)) None ≡ Some table → Fits table × (bytes ≡ body magic (table_piece table))) [
      | true ↦ λ is read.
          let front = (bytes_decides (take 4 bytes) magic).0 is in
          let rest = table_exact (drop 4 bytes) table (later_bytes (take 4 bytes) (drop 4 bytes) (subst AreBytes (sym whole) small)) read in
          (rest.0, sym whole ∙ ap (λ l. l ++ drop 4 bytes) front ∙ ap (λ l. magic ++ l) rest.1)
      | false ↦ λ is read. absurd cc
    ] refl h
