use Rattle.std.proofs.Common.{refl, subst}
use Rattle.std.specs.Prelude.{Option}
use Rattle.rk_base.specs.Text.{Text}
use Rattle.sh_expand.specs.Acting.{LeavesAs}
use Rattle.sh_expand.proofs.MachineLemmas.{end_goes, end_fails}
use Rattle.sh_expand.proofs.machine.on_end.Goals as goal

pub returns-in-None-left : goal.returns-in-None-left
returns-in-None-left c =
    end_goes c.args.x.now _ c.in-Some.frame c.args.env.now c.leave.new.env c.in-Some.ensures.items refl (subst (λ (r : Option (Text × Text)). LeavesAs c.in-Some.frame.then c.args.x.now.marks.items c.args.env.now c.leave.new.marks.items c.leave.new.env r) c.in-None-left.is c.in_ok-left-in-Some.ensures)

pub returns-in-Some-left : goal.returns-in-Some-left
returns-in-Some-left c =
    end_fails c.args.x.now _ c.in-Some.frame c.args.env.now c.leave.new.env c.in-Some-left.parameter c.in-Some-left.message c.in-Some.ensures.items (subst (λ (r : Option (Text × Text)). LeavesAs c.in-Some.frame.then c.args.x.now.marks.items c.args.env.now c.leave.new.marks.items c.leave.new.env r) c.in-Some-left.is c.in_ok-left-in-Some.ensures)
