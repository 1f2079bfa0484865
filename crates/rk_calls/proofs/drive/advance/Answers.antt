use Rattle.std.proofs.Common.{sym, arith}
use Rattle.rk_calls.proofs.Paying.{pay-zero, turn-ask, turn-ask_goes, turn-ask_short, turn-exit, turn-exit_short, turn-more, turn-more_short}
use Rattle.rk_calls.proofs.drive.advance.Goals as goal

pub loop-call-init : goal.loop-call-init
loop-call-init g c = record {
  paid = omega arith;
  says = sym (pay-zero (g.M.Machine.talk c.args.m.now c.args.answer));
}

pub returns-then-cost-purse-clause-spoke : goal.returns-then-cost-purse-clause-spoke
returns-then-cost-purse-clause-spoke g c =
    turn-ask_short _ _ _ c.loop-call.invariant.says _ _ c.in_ok-call.ensures.talk _ _ c.args.purse c.in-Ask.is (omega arith)

pub returns-in-Ask-clause-spoke : goal.returns-in-Ask-clause-spoke
returns-in-Ask-clause-spoke g c =
    turn-ask _ _ _ c.loop-call.invariant.says _ _ c.in_ok-call.ensures.talk _ _ c.args.purse c.in-Ask.is c.in_ok-call.ensures.costly (omega arith)

pub returns-in-Ask-clause-goes : goal.returns-in-Ask-clause-goes
returns-in-Ask-clause-goes g c =
    turn-ask_goes _ _ _ c.loop-call.invariant.says _ _ c.in_ok-call.ensures.talk _ _ c.in-Ask.is

pub returns-then-cost-purse-2-clause-spoke : goal.returns-then-cost-purse-2-clause-spoke
returns-then-cost-purse-2-clause-spoke g c =
    turn-exit_short _ _ _ c.loop-call.invariant.says _ _ c.in_ok-call.ensures.talk _ _ c.args.purse c.in-Exit.is (omega arith)

pub returns-in-Exit-clause-spoke : goal.returns-in-Exit-clause-spoke
returns-in-Exit-clause-spoke g c =
    turn-exit _ _ _ c.loop-call.invariant.says _ _ c.in_ok-call.ensures.talk _ _ c.args.purse c.in-Exit.is (omega arith)

pub returns-then-cost-purse-3-clause-spoke : goal.returns-then-cost-purse-3-clause-spoke
returns-then-cost-purse-3-clause-spoke g c =
    turn-more_short _ _ _ c.loop-call.invariant.says _ _ c.in_ok-call.ensures.talk _ c.args.purse c.in-More.is (omega arith)

pub loop-call-preserved : goal.loop-call-preserved
loop-call-preserved g c =
    record {
      paid = omega arith;
      says = turn-more _ _ _ c.loop-call.invariant.says _ _ c.in_ok-call.ensures.talk _ c.in-More.is;
    }
