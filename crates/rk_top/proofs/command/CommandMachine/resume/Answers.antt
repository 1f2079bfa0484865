use Rattle.std.proofs.Common.{◌≡◌, ℕ, Bool, IfOk, sym, subst}
use Rattle.rk_calls.specs.Talk.{after}
use Rattle.rk_top.specs.Running.{running_talk, paid_talk}
use Rattle.rk_top.proofs.command.CommandMachine.resume.Goals as goal

pub returns-clause-talk : goal.returns-clause-talk
returns-clause-talk c =
    let P : Bool → Type 0 = λ paid. IfOk c.resume.result (λ t. (p : ℕ) → paid_talk paid (running_talk c.args.self.now.running) c.args.answer p ≡ after t (paid_talk paid (running_talk c.resume.new.self)) p) in
    subst P (sym c.if-not-self.false) c.resume.ensures.talk
