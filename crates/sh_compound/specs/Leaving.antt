-- Where loops and AND-OR lists go on.
use Rattle.std.specs.Prelude.{ℕ, ◌==◌, not, List, [], ◌∷◌, Bool, true, false}
use Rattle.sh_ast.specs.declared.command.LoopKind.{LoopKind}
use Rattle.sh_ast.specs.declared.command.LoopKind.TheVariants.{While, Until}
use Rattle.sh_means.specs.declared.control.Loop.{Loop}
use Rattle.sh_means.specs.declared.flow.Flow.TheVariants.{Normal}
use Rattle.sh_means.specs.declared.flow.Place.{Place}
use Rattle.sh_means.specs.Compound.{turns_round, after_body, place_before}
use Rattle.sh_means.specs.Flows.{Next, Go_on, Means, ends, deeper}
use Rattle.sh_means.specs.Stack.{looping, loop_of, whole}

-- whether the status of its condition lets a loop go on
abbrev pub goes_on : LoopKind → ℕ → Bool
goes_on While status = status == 0
goes_on Until status = not (status == 0)

-- after a loop's condition
abbrev pub entered : Loop → ℕ → Place → Next → Go_on
entered l last pl k e =
    turns_round (looping l) (λ e. whole l.body.value (deeper pl) e (after_body (loop_of l) pl k)) (λ e. ends Normal last k e) e

-- the first of these is taken, or passed over
abbrev pub linked : Bool → List Means → Place → Next → Go_on
linked false ms pl k e = k Normal e
linked true [] pl k e = k Normal e
linked true (m ∷ ms) pl k e = m (place_before ms pl) e k
