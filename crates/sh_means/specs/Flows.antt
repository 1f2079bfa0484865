-- What comes after a command, by how it has ended (XCU 2.8.2 and 2.14).
use Rattle.std.specs.Prelude.{ℕ, zero, suc, ◌+◌, ◌-◌, ◌^◌, ◌==◌, min, not, ◌&&◌, Option, Some, None, Bool, true, false, codes, if◌then◌else◌}
use Rattle.rk_base.specs.Text.{Text}
use Rattle.rk_calls.specs.Talk.{Says, ask}
use Rattle.rk_calls.specs.Turns.{turns}
use Rattle.rk_calls.specs.declared.answer.Answer.{Answer}
use Rattle.rk_calls.specs.declared.call.Call.{Call}
use Rattle.rk_calls.specs.declared.call.Call.TheVariants.{Write}
use Rattle.sh_redirect.specs.DescriptorTable.{slot}
use Rattle.sh_means.specs.declared.flow.Flow.{Flow}
use Rattle.sh_means.specs.declared.flow.Flow.TheVariants.{Normal, Breaks, Continues, Returns, Exits}
use Rattle.sh_means.specs.declared.flow.Place.{Place}
use Rattle.sh_means.specs.State.{Shell, with_status, heard, back}

-- what comes after a command
abbrev pub Next : Type 0
Next = Flow → Shell → Says

abbrev pub Go_on : Type 0
Go_on = Shell → Says

-- what a command means at a place, from a state, with what comes after it
abbrev pub Means : Type 0
Means = Place → Shell → Next → Says

-- asks, and goes on once the answer was heard
abbrev pub asks : Call → ℕ → (Answer → Go_on) → Go_on
asks call c k e = ask call c (λ a. k a (heard a e))

-- A line of error text goes to 2 as the map has it. Where the map lacks 2 nothing is asked. A refusal is passed over.
abbrev pub told : Option ℕ → Text → Go_on → Go_on
told None line go e = go e
told (Some n) line go e = asks (Write n line) (1 + turns line) (λ a. go) e

abbrev pub tells : Text → Go_on → Go_on
tells line go e = told (slot e.descriptors 2) line go e

-- the name that the shell's own lines begin with
abbrev pub sh : Text
sh = codes "sh"

-- ends so, with this status
abbrev pub ends : Flow → ℕ → Next → Go_on
ends f n k e = k f (with_status n e)

-- One command after another: where the first has ended normally, the next goes on; any other flow passes on to what comes
-- after both.
abbrev pub and_then : Go_on → Next → Next
and_then go k Normal e = go e
and_then go k flow e = k flow e

abbrev pub by_status : ℕ → Go_on → Go_on → Go_on
by_status zero good bad e = good e
by_status (suc n) good bad e = bad e

-- Loops.

-- one loop less to leave, or to go on with
abbrev pub leave : ℕ → Flow
leave zero = Normal
leave (suc n) = Breaks n

abbrev pub go_round : ℕ → Go_on → Next → Go_on
go_round zero again k e = again e
go_round (suc n) again k e = k (Continues n) e

-- After a loop's condition or body: a break leaves the loop, a continue goes on with its next round, and all else is as
-- between commands.
abbrev pub in_loop : Go_on → Go_on → Next → Next
in_loop go again k (Breaks n) e = k (leave n) e
in_loop go again k (Continues n) e = go_round n again k e
in_loop go again k flow e = and_then go k flow e

-- A break or a continue of n loops where there are d. Outside of loops nothing is left; of fewer loops the outermost is.
abbrev pub break_of : ℕ → ℕ → Flow
break_of n zero = Normal
break_of n (suc d) = Breaks (min (n - 1) d)

abbrev pub continue_of : ℕ → ℕ → Flow
continue_of n zero = Normal
continue_of n (suc d) = Continues (min (n - 1) d)

-- Returning: of a function or a dot script; elsewhere the shell exits.

-- a return leads back here, as the end of the body does; any other flow passes on
abbrev pub returned : Next → Next
returned k Returns e = k Normal e
returned k flow e = k flow e

abbrev pub return_flow : Bool → Flow
return_flow true = Returns
return_flow false = Exits

-- However a subshell ends, the shell that it is of goes on normally.
abbrev pub out_of_subshell : Shell → Next → Next
out_of_subshell e k flow e' = k Normal (back e e')

-- `set -e`: the shell exits at a failing status, where the place doesn't ignore it.
abbrev pub watch : Place → Shell → Flow
watch pl e = if e.errexit && (not pl.ignores && not (e.env.status == 0)) then Exits else Normal

abbrev pub watched : Place → Next → Next
watched pl k = and_then (λ e. k (watch pl e) e) k

-- `!`
abbrev pub inverted_status : ℕ → ℕ
inverted_status zero = 1
inverted_status (suc n) = 0

abbrev pub inverted : Next → Next
inverted k = and_then (λ e. k Normal (with_status (inverted_status e.env.status) e)) k

-- Places.

abbrev pub ignoring : Place → Place
ignoring pl = record pl { ignores = true }

-- In a loop more. More loops than the largest number of 64 bits are as good as that: `break` and `continue` count no further.
abbrev pub deeper : Place → Place
deeper pl = record pl { loops = min (pl.loops + 1) (2 ^ 64 - 1) }

-- loops around the call aren't seen in the function
abbrev pub in_function : Place → Place
in_function pl = record pl { loops = 0; returns = true }

abbrev pub in_script : Place → Place
in_script pl = record pl { returns = true }

-- the place of a whole script
abbrev pub outermost : Place
outermost = record { loops = 0; returns = false; ignores = false }
