use Rattle.std.proofs.Common.{◌≡◌, ◌⊎◌, ◌≤◌, inl, inr, ℕ, Option}
use Rattle.rk_folder.specs.Counts.{Rose}
use Rattle.rk_folder.specs.Told.{Held}
use Rattle.rk_install.specs.Asked.{plan_calls}
use Rattle.rk_install.proofs.AskedLemmas.{install-makes}
use Rattle.rk_build.proofs.build.carry_out.Goals as goal

-- want of memory of an install's own, and of the folder's
memory-rose : (old new : Option Held) (b n : ℕ) → ((new ≡ old) × (n ≡ b)) ⊎ ((b ≤ n) × Rose b n) → (new ≡ old) ⊎ Rose b n
memory-rose old new b n (inl own) = inl own.0
memory-rose old new b n (inr rose) = inr rose.1

pub returns-in-Ok-clause-calls : goal.returns-in-Ok-clause-calls
returns-in-Ok-clause-calls g c = install-makes (plan_calls c.args.plan) _ _ c.install.result c.install.ensures.calls

pub returns-in-Err-WriteFault-clause-calls : goal.returns-in-Err-WriteFault-clause-calls
returns-in-Err-WriteFault-clause-calls g c = install-makes (plan_calls c.args.plan) _ _ c.install.result c.install.ensures.calls

pub returns-clause-calls : goal.returns-clause-calls
returns-clause-calls g c = install-makes (plan_calls c.args.plan) _ _ c.install.result c.install.ensures.calls
