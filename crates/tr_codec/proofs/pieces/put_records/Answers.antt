use Rattle.std.proofs.Common.{subst}
use Rattle.tr_parts.specs.Piece.{◌⊕◌, byte, number}
use Rattle.tr_parts.proofs.LoopLemmas.{all_next, all_done}
use Rattle.tr_codec.specs.Puts.{Puts}
use Rattle.tr_codec.specs.Sound.{TypedEnds}
use Rattle.tr_codec.specs.Spelling.{key_piece, record_piece}
use Rattle.tr_codec.proofs.LentLemmas.{head_read}
use Rattle.tr_codec.proofs.PutsLemmas.{puts_then, puts_none, puts_next, puts_all}
use Rattle.tr_codec.proofs.pieces.put_records.Goals as goal

pub records-init : goal.records-init
records-init c = record { puts = λ tails e. puts_none (record_piece tails) c.put_number.new.self; typed = tt }

pub records-preserved : goal.records-preserved
records-preserved c =
    let records = c.args.records.now in
    let i = c.records.i in
    let rec = c.index-records-i.result in
    record {
      puts = λ tails e.
          let head = head_read tails records c.args.heads.now i rec _ c.records-test.true c.index-records-i.is e in
          let one : Puts (record_piece tails rec) c.records.w c.put_record.new.w =
          subst (λ n. Puts (key_piece rec.key ⊕ number n ⊕ byte rec.exit ⊕ number rec.exit_cost) c.records.w c.put_record.new.w) head c.in_ok-put_record.ensures.puts
          in
          puts_next (record_piece tails) records i _ rec c.put_number.new.self c.records.w c.put_record.new.w c.records-test.true c.index-records-i.is (c.records.invariant.puts tails e) one;
      typed = all_next TypedEnds records i _ rec c.records-test.true c.index-records-i.is c.in_ok-put_record.ensures.typed c.records.invariant.typed;
    }

pub returns-clause-puts : goal.returns-clause-puts
returns-clause-puts c = λ tails e. puts_then _ _ _ _ _ c.in_ok-put_number.ensures.puts (puts_all (record_piece tails) c.args.records.now c.records.i _ _ c.records-test.false (c.records.invariant.puts tails e))

pub returns-clause-typed : goal.returns-clause-typed
returns-clause-typed c = all_done TypedEnds c.args.records.now c.records.i c.records-test.false c.records.invariant.typed
