use Rattle.std.proofs.Common.{◌≡◌, ◌∙◌, ◌+◌, ◌<◌, ◌≤◌, List, [], ◌++◌, Some, None, length, map, drop, sym, ap, subst, arith}
use Rattle.std.specs.List.{AllByRecursion}
use Rattle.std.proofs.lemmas.List.{length-append}
use Rattle.tr_nodes.specs.Tails.{Tail, head_in}
use Rattle.tr_nodes.proofs.GetLemmas.{get_some}
use Rattle.tr_parts.specs.Piece.{number, counted}
use Rattle.tr_parts.proofs.LoopLemmas.{all_next}
use Rattle.tr_record.specs.Generations.{table_at, records}
use Rattle.tr_record.specs.Rec.{AreNumbered}
use Rattle.tr_record.specs.declared.records.Record.{Record}
use Rattle.tr_record.specs.declared.steps.Step.{Step}
use Rattle.tr_codec.specs.Puts.{Puts}
use Rattle.tr_codec.specs.Same.{same_step}
use Rattle.tr_codec.specs.Sound.{TypedEnds}
use Rattle.tr_codec.specs.Spelling.{record_piece, talks}
use Rattle.tr_kept.proofs.GenerationLemmas.{read_or}
use Rattle.tr_kept.proofs.KeptPutLemmas.{records_drop, heads_split}
use Rattle.tr_codec.proofs.PutsLemmas.{puts_then, puts_none, puts_next, puts_all}
use Rattle.tr_kept.proofs.kept_writing.put_tables.Goals as goal

pub tables-init : goal.tables-init
tables-init c = record {
  long = c.requires;
  heads = λ tails e. e;
  puts = λ tails e. puts_none (counted (record_piece tails)) c.put_number.new.self;
  typed = tt;
  numbered = tt;
}

pub unreachable-requires : goal.unreachable-requires
unreachable-requires c =
    let there = get_some c.args.kept.now c.tables.k (omega arith) in
    let clash : None ≡ Some there.0 = c.in_default.ensures ∙ there.1 in
    cc

pub split_at-requires : goal.split_at-requires
split_at-requires c =
    let kept = c.args.kept.now in
    let k = c.tables.k in
    let table = c.in-Some.table.now in
    let rest = records (drop (k + 1) kept) in
    let is = c.as_slice-records.ensures.value in
    let many : length c.as_slice-records.result.now ≡ length table = ap (λ (t : List Record). length t) is in
    let parts = records_drop kept k table (sym c.in-Some.ensures) in
    let long : length (records (drop k kept)) ≡ length (table ++ rest) = ap (λ (l : List Record). length l) parts in
    omega (arith, c.tables.invariant.long, length-append table rest)

pub tables-preserved : goal.tables-preserved
tables-preserved c =
    let kept = c.args.kept.now in
    let k = c.tables.k in
    let table = c.in-Some.table.now in
    let rest = records (drop (k + 1) kept) in
    let records_are = c.as_slice-records.ensures.value in
    let many : length c.as_slice-records.result.now ≡ length table = ap (λ (t : List Record). length t) records_are in
    let parts = records_drop kept k table (sym c.in-Some.ensures) in
    let long : length (records (drop k kept)) ≡ length (table ++ rest) = ap (λ (l : List Record). length l) parts in
    let lt : k < length kept = omega arith in
    let is : table ≡ table_at k kept = sym (read_or kept k table (sym c.in-Some.ensures)) in
    let split = λ (tails : List (Tail Step)) (e : c.args.heads.now ≡ map (head_in same_step tails) (talks (records kept))).
    heads_split tails table rest c.tables.left.now (length c.as_slice-records.result.now) many (c.tables.invariant.heads tails e ∙ ap (λ l. map (head_in same_step tails) (talks l)) parts)
    in
    record {
      long = omega (arith, c.tables.invariant.long, length-append table rest, c.split_at.ensures.back_len);
      heads = λ tails e. c.split_at.ensures.back ∙ (split tails e).1;
      puts = λ tails e.
          let put = c.in_ok-put_records.ensures.puts tails (c.split_at.ensures.front ∙ (split tails e).0 ∙ ap (λ t. map (head_in same_step tails) (talks t)) (sym records_are)) in
          let one : Puts (counted (record_piece tails) table) c.tables.w c.put_records.new.w = subst (λ t. Puts (counted (record_piece tails) t) c.tables.w c.put_records.new.w) records_are put in
          puts_next (counted (record_piece tails)) kept k [] table c.put_number.new.self c.tables.w c.put_records.new.w lt is (c.tables.invariant.puts tails e) one;
      typed = all_next (AllByRecursion TypedEnds) kept k [] table lt is (subst (λ (t : List Record). AllByRecursion TypedEnds t) records_are c.in_ok-put_records.ensures.typed) c.tables.invariant.typed;
      numbered = all_next AreNumbered kept k [] table lt is c.as_slice-records.ensures.numbered c.tables.invariant.numbered;
    }

pub returns-clause-puts : goal.returns-clause-puts
returns-clause-puts c = λ tails e.
    let kept = c.args.kept.now in
    let first : Puts (number (length kept)) c.args.w.now c.put_number.new.self = subst (λ n. Puts (number n) c.args.w.now c.put_number.new.self) c.len.ensures.value c.in_ok-put_number.ensures.puts in
    let le : length kept ≤ c.tables.k = omega arith in
    puts_then _ _ _ _ _ first (puts_all (counted (record_piece tails)) kept c.tables.k _ _ le (c.tables.invariant.puts tails e))
