use Rattle.std.proofs.Common.{◌≡◌, ℕ}
use Rattle.rk_base.specs.declared.errno.Errno.TheVariants.{BadRef}
use Rattle.rk_calls.specs.declared.answer.Answer.TheVariants.{No}
use Rattle.sh_builtin.specs.Refused.{HasBegun, refusals_of}
use Rattle.sh_means.specs.Flows.{Next}
use Rattle.sh_means.specs.Stack.{building}
use Rattle.sh_means.specs.Views.{shell_of}
use Rattle.sh_simple.proofs.launching.resume_refused.Given as goal

abbrev pub invariant-refused : goal.invariant-refused
invariant-refused l =
    record {
      talk : (k : Next) (p : ℕ) → building l.initial.builtin.value k (No BadRef) (shell_of l.initial.state) p ≡ building l.builtin.value k (No BadRef) (shell_of l.state) p;
      begun : HasBegun l.builtin.value;
    }

abbrev pub decreases-refused : goal.decreases-refused
decreases-refused l = refusals_of l.builtin.value
