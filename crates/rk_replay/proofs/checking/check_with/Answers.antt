use Rattle.std.proofs.Common.{◌<◌, length, arith, rules}
use Rattle.tr_record.specs.Generations.{records}
use Rattle.rk_traces.proofs.Checks.{complete, forged, never-first_wrong, starts}
use Rattle.rk_replay.proofs.checking.check_with.Goals as goal

pub returns-in-Err-clause-complete : goal.returns-in-Err-clause-complete
returns-in-Err-clause-complete g c =
    let lt : c.records.i < length (records c.args.kept.now) = omega (arith, c.records-test.true, c.in_ok-many.ensures) in
    rw c.of_record.ensures
    (complete g.K.Maker.first (records c.args.kept.now) c.records.i lt c.records.invariant.spoken c.in-Err.e (search rules))

pub returns-in-Err-clause-forged : goal.returns-in-Err-clause-forged
returns-in-Err-clause-forged g c =
    let lt : c.records.i < length (records c.args.kept.now) = omega (arith, c.records-test.true, c.in_ok-many.ensures) in
    rw c.of_record.ensures
    (forged g.K.Maker.first (records c.args.kept.now) c.records.i lt c.records.invariant.spoken (Unit {0}) c.in-Err.e (search rules))

pub returns-in-Err-clause-starts : goal.returns-in-Err-clause-starts
returns-in-Err-clause-starts g c =
    let lt : c.records.i < length (records c.args.kept.now) = omega (arith, c.records-test.true, c.in_ok-many.ensures) in
    rw c.of_record.ensures
    (starts (Unit {0}) (length (records c.args.kept.now)) c.records.i _ _ _ c.in-Err.e lt c.records.invariant.starts (search rules))

pub returns-clause-forged : goal.returns-clause-forged
returns-clause-forged g c rec step f =
    never-first_wrong g.K.Maker.first (records c.args.kept.now) rec step (search rules) f
