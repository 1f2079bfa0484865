-- The bodies that an expander is to have evaluated.
use Rattle.std.proofs.Common.{ℕ, ◌≤◌, arith}
use Rattle.sh_expand.specs.declared.expander.Expander.{Expander}
use Rattle.sh_expand.specs.declared.expander.Expanding.{Expanding}
use Rattle.sh_expand.specs.declared.expander.Expanding.TheVariants.{Ask, More, Body, Done, Fault}
use Rattle.sh_expand.specs.declared.expander.Phase.{Phase}
use Rattle.sh_expand.specs.declared.expander.Phase.TheVariants.{Parts, Looks, Over}
use Rattle.sh_expand.specs.declared.machine.Stage.{Stage}
use Rattle.sh_expand.specs.declared.machine.Stage.TheVariants.{Before, Piped, Evaluates, Reads}
use Rattle.sh_expand.specs.declared.machine.Wants.{Wants}
use Rattle.sh_expand.specs.declared.machine.Wants.TheVariants as wants
use Rattle.sh_expand.specs.Machine.{IsNoBody, IsDue, bodies_at}
use Rattle.sh_expand.specs.Turns.{IsCostly, Paces, bodies_behind, bodies_due}

pub none_due : (t : Wants) (n m : ℕ) → IsNoBody t → IsDue n t m
none_due wants.Pipe n m h = tt
none_due (wants.Read from) n m h = tt
none_due (wants.Evaluate i) n m h = absurd h
none_due (wants.Done marks) n m h = tt
none_due (wants.Fault parameter message) n m h = tt

pub costly_paces : (t : Expanding) (n m : ℕ) → IsCostly t → Paces n t m
costly_paces (Ask call c) n m h = h
costly_paces (More c) n m h = h
costly_paces (Body i) n m h = absurd h
costly_paces (Done expanded c) n m h = tt
costly_paces (Fault fault c) n m h = tt

at_most_one : (s : Stage) → bodies_at s ≤ 1
at_most_one Before = omega arith
at_most_one (Piped n quoted from) = omega arith
at_most_one (Evaluates quoted from) = omega arith
at_most_one (Reads quoted) = omega arith

phase_one : (s : Phase) → bodies_behind s ≤ 1
phase_one (Parts machine) = at_most_one machine.stage
phase_one (Looks glob text names) = omega arith
phase_one Over = omega arith

pub one_due : (x : Expander) → bodies_due x ≤ 1
one_due x = phase_one x.step
