use Rattle.std.proofs.Common.{length, ap, arith}
use Rattle.rk_replay.specs.Ran.{ran_of}
use Rattle.rk_replay.proofs.Noting.{noted-more, noted-all}
use Rattle.rk_replay.proofs.causes.ran_of.Goals as goal

pub records-init : goal.records-init
unfolding ran_of
records-init c = λ old are. c.new-ran.ensures

pub at-requires : goal.at-requires
at-requires c = omega (arith, c.requires, ap length c.as_slice-records.ensures.value, c.records-test.true)

pub records-preserved : goal.records-preserved
records-preserved c = λ old are.
    noted-more old _ _ _ _ _ _ _ _ c.as_slice-records.ensures.value c.records-test.true c.index-records-i.is c.at.ensures are (c.records.invariant old are) c.in_ok-add_ran.ensures

pub returns : goal.returns
returns c = λ old are. noted-all old _ _ _ _ c.as_slice-records.ensures.value c.records-test.false (c.records.invariant old are)
