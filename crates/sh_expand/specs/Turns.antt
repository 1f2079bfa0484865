-- What an expander says from turn to turn.
use Rattle.std.specs.Prelude.{ℕ, ◌≤◌, ◌<◌, List, [], ◌++◌, drop, length}
use Rattle.rk_base.specs.Text.{Text}
use Rattle.rk_base.specs.Sorted.{sorted}
use Rattle.rk_calls.specs.declared.answer.Answer.{Answer}
use Rattle.rk_calls.specs.declared.answer.Answer.TheVariants.{Go}
use Rattle.rk_calls.specs.Talk.{ask, pay}
use Rattle.sh_split.specs.Cutting.{Marks}
use Rattle.sh_expand.specs.declared.glob.Glob.{Glob}
use Rattle.sh_expand.specs.Stages.{glob_talk}
use Rattle.sh_expand.specs.declared.mode.Mode.{Mode}
use Rattle.sh_expand.specs.declared.mode.Expanded.TheVariants.{Fields}
use Rattle.sh_expand.specs.declared.names.Names.{Names}
use Rattle.sh_expand.specs.declared.names.Named.{Named}
use Rattle.sh_expand.specs.declared.names.Named.TheVariants.{Goes, Ends, Waits}
use Rattle.sh_expand.specs.declared.expander.Phase.{Phase}
use Rattle.sh_expand.specs.declared.expander.Phase.TheVariants as step
use Rattle.sh_expand.specs.declared.expander.Expander.{Expander}
use Rattle.sh_expand.specs.declared.expander.Expanding.{Expanding}
use Rattle.sh_expand.specs.declared.expander.Expanding.TheVariants.{Ask, More, Body as Evaluate, Done, Fault}
use Rattle.sh_expand.specs.Expands.{Go_on, Body, Failed, counted}
use Rattle.sh_expand.specs.Fields.{With_fields, all_names, or_as_was}
use Rattle.sh_expand.specs.Means.{With_expanded, finished, pay_fields}
use Rattle.sh_expand.specs.Machine.{says, bodies_at}

-- the fields whose pathnames are still to be looked for
abbrev pub fields_left : Names → List Marks
fields_left names = drop names.at names.fields.items

abbrev pub all_left : Names → With_fields → Go_on
all_left names k e = all_names (fields_left names) names.done k e

-- a field's pathnames are looked for, and then those of the fields that are left
abbrev pub looks : Glob → Text → Names → Answer → With_fields → Go_on
looks glob text names a k e = glob_talk glob a (λ found n. all_names (fields_left names) (names.done ++ or_as_was text (sorted found)) k (record e { next = n })) e.next

-- after a field
abbrev pub named_talk : Named → With_fields → Go_on
named_talk (Goes names) k e = all_left names k e
named_talk (Ends done) k e = k done e
named_talk (Waits glob text names call) k e = ask call 1 (λ a. looks glob text names a k (counted a e))

-- a measure
abbrev pub IsShorter : ℕ → Named → Type 0
IsShorter n (Goes names) = length (fields_left names) < n
IsShorter n (Ends done) = Unit {0}
IsShorter n (Waits glob text names call) = Unit {0}

abbrev pub at_step : Phase → Mode → Answer → (ℕ → Body) → With_expanded → Failed → Go_on
at_step (step.Parts machine) m a body k fail e p = says machine a body (λ marks e'. finished m marks k e') fail e p
at_step (step.Looks glob text names) m a body k fail e p = looks glob text names a (pay_fields k) e p
at_step step.Over m a body k fail e p = pay 0 (k (Fields []) e) p

-- what it wants, and what it does afterwards
abbrev pub after_step : Expanding → Phase → Mode → (ℕ → Body) → With_expanded → Failed → Go_on
after_step (Ask call c) s m body k fail e p = ask call c (λ a. at_step s m a body k fail (counted a e)) p
after_step (More c) s m body k fail e p = pay c (at_step s m Go body k fail e) p
after_step (Evaluate n) s m body k fail e p = body n e (at_step s m Go body k fail) p
after_step (Done expanded c) s m body k fail e p = pay c (k expanded e) p
after_step (Fault fault c) s m body k fail e p = pay c (fail fault.parameter fault.message e) p

-- the same of an expander
abbrev pub expander_says : Expander → Answer → (ℕ → Body) → With_expanded → Failed → Go_on
expander_says x a body k fail e p = at_step x.step x.mode a body k fail e p

abbrev pub after_turn : Expanding → Expander → (ℕ → Body) → With_expanded → Failed → Go_on
after_turn t x body k fail e p = after_step t x.step x.mode body k fail e p

-- each call and each payment costs a turn or more, and no body is to be evaluated
abbrev pub IsCostly : Expanding → Type 0
IsCostly (Ask call c) = 1 ≤ c
IsCostly (More c) = 1 ≤ c
IsCostly (Evaluate n) = ⊥
IsCostly (Done expanded c) = Unit {0}
IsCostly (Fault fault c) = Unit {0}

-- how many bodies are to be evaluated before anything else is wanted
abbrev pub bodies_behind : Phase → ℕ
bodies_behind (step.Parts machine) = bodies_at machine.stage
bodies_behind (step.Looks glob text names) = 0
bodies_behind step.Over = 0

abbrev pub bodies_due : Expander → ℕ
bodies_due x = bodies_behind x.step

-- each call and each payment costs a turn or more, and where a body is to be evaluated, one less is due than before
abbrev pub Paces : ℕ → Expanding → ℕ → Type 0
Paces n (Ask call c) m = 1 ≤ c
Paces n (More c) m = 1 ≤ c
Paces n (Evaluate i) m = m < n
Paces n (Done expanded c) m = Unit {0}
Paces n (Fault fault c) m = Unit {0}
