use Rattle.std.proofs.Common.{ℕ, Some, refl, sym, ap, ◌∙◌}
use Rattle.rk_calls.specs.Talk.{exits}
use Rattle.sh_builtin.specs.Commands.{alone}
use Rattle.sh_builtin.specs.Stages.{builtin_does}
use Rattle.sh_builtin.proofs.Alone.{alone_after}
use Rattle.sh_builtin.proofs.command.BuiltinCommandMachine.resume.Goals as goal

pub returns-clause-talk : goal.returns-clause-talk
returns-clause-talk c =
    λ p. ap (λ (n : ℕ). alone (builtin_does c.args.self.now.builtin c.args.answer) (record c.args.self.now.env { next = n }) p) (sym c.hear.ensures)
    ∙ c.in_ok-turn.ensures.does (λ d. Some d) (λ status env. exits status 0) p refl
    ∙ alone_after c.in_ok-turn.turn (builtin_does c.resume.new.self) c.resume.new.env p
