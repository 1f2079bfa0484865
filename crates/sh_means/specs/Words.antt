-- Words, redirections and assignments, as commands have them (XCU 2.6, 2.7 and 2.9.1).
use Rattle.std.specs.Prelude.{ℕ, zero, suc, ◌-◌, List, [], ◌∷◌, ◌++◌, Some, Bool, codes, if◌then◌else◌}
use Rattle.rk_base.specs.Text.{Text}
use Rattle.rk_calls.specs.Lines.{error_line}
use Rattle.sh_ast.specs.Words.{PartsTree}
use Rattle.sh_ast.specs.declared.command.RedirectOperator.{RedirectOperator}
use Rattle.sh_ast.specs.declared.command.RedirectOperator.TheVariants.{Input, Output, Append, Duplicate, HereDocument}
use Rattle.sh_vars.specs.declared.env.Env.{Env}
use Rattle.sh_vars.specs.Held.{Held, is_readonly}
use Rattle.sh_expand.specs.declared.mode.Mode.{Mode}
use Rattle.sh_expand.specs.declared.mode.Mode.TheVariants as mode
use Rattle.sh_expand.specs.declared.mode.Expanded.{Expanded}
use Rattle.sh_expand.specs.declared.mode.Expanded.TheVariants.{Fields, Value}
use Rattle.sh_expand.specs.Expands.{Body}
use Rattle.sh_expand.specs.Means.{expand_in}
use Rattle.sh_redirect.specs.declared.descriptors.DescriptorTable.{DescriptorTable}
use Rattle.sh_redirect.specs.declared.kind.Redirect.{Redirect}
use Rattle.sh_redirect.specs.declared.kind.Redirect.TheVariants.{Reads, Makes, Appends, Copies, Here}
use Rattle.sh_redirect.specs.DescriptorTable.{put_back}
use Rattle.sh_redirect.specs.Redirects.{redirects}
use Rattle.sh_means.specs.declared.flow.Flow.TheVariants.{Normal, Exits}
use Rattle.sh_means.specs.declared.flow.Place.{Place}
use Rattle.sh_means.specs.State.{Shell, with_env, with_slot, with_held, back_env, set_variable, put_back_variables}
use Rattle.sh_means.specs.Flows.{Next, Go_on, Means, tells, sh, ends}

-- Words.

-- a word, with what its substitutions' bodies mean
pub record WordMeant : Type 0 where
  pub parts : PartsTree
  pub bodies : List Means

abbrev pub nothing : Means
nothing pl e k = ends Normal 0 k e

abbrev pub body_at : List Means → ℕ → Means
body_at [] i = nothing
body_at (m ∷ ms) zero = m
body_at (m ∷ ms) (suc i) = body_at ms i

-- In a subshell with 1 on the pipe that was made last; e is the rest of the state.
abbrev pub in_subshell : Means → Place → Shell → Body
in_subshell m pl e env k = m pl (with_slot 1 (Some (env.next - 1)) (with_env env e)) (λ f e'. k (back_env env e'.env))

abbrev pub bodies_at : List Means → Place → Shell → ℕ → Body
bodies_at ms pl e i = in_subshell (body_at ms i) pl e

-- an expansion fault is told and ends the shell
abbrev pub faults : Text → Text → Next → Go_on
faults parameter message k e = tells (error_line sh parameter message) (ends Exits 1 k) e

abbrev pub expand_word : Mode → WordMeant → Place → (Expanded → Go_on) → Next → Go_on
expand_word m w pl go k e =
    expand_in m (bodies_at w.bodies pl e) w.parts (λ x env. go x (with_env env e)) (λ parameter message env. faults parameter message k (with_env env e)) e.env

abbrev pub fields_of : Expanded → List Text
fields_of (Fields fields) = fields
fields_of (Value value) = value ∷ []

abbrev pub value_of : Expanded → Text
value_of (Fields fields) = []
value_of (Value value) = value

-- the fields of words, behind those so far
abbrev pub expand_words : List WordMeant → List Text → Place → (List Text → Go_on) → Next → Go_on
expand_words [] fields pl go k e = go fields e
expand_words (w ∷ ws) fields pl go k e = expand_word mode.Fields w pl (λ x e'. expand_words ws (fields ++ fields_of x) pl go k e') k e

-- Redirections.

pub record RedirectMeant : Type 0 where
  pub descriptor : ℕ
  pub kind : Redirect
  pub operand : WordMeant

abbrev pub redirect_kind : RedirectOperator → Redirect
redirect_kind Input = Reads
redirect_kind Output = Makes
redirect_kind Append = Appends
redirect_kind Duplicate = Copies
redirect_kind HereDocument = Here

-- the descriptors that redirections name
abbrev pub named : List RedirectMeant → List ℕ
named [] = []
named (r ∷ rs) = r.descriptor ∷ named rs

abbrev pub moved : DescriptorTable → Env → Shell → Shell
moved ds env e = record e { env = env; descriptors = ds }

-- to an operand that was expanded: it is made, or refused, which was told then
abbrev pub redirect_to : Redirect → ℕ → Text → Go_on → Go_on → Go_on
redirect_to kind d text made refused e = redirects kind d text (record { made = λ ds env. made (moved ds env e); refused = λ ds env. refused (moved ds env e) }) e.descriptors e.env

-- from left to right: all are made, or one is refused
abbrev pub redirect_all : List RedirectMeant → Place → Go_on → Go_on → Next → Go_on
redirect_all [] pl made refused k e = made e
redirect_all (r ∷ rs) pl made refused k e = expand_word mode.Value r.operand pl (λ x e'. redirect_to r.kind r.descriptor (value_of x) (redirect_all rs pl made refused k) refused e') k e

-- the descriptors that were named are as they were before
abbrev pub unredirected : List ℕ → DescriptorTable → Next → Next
unredirected ds before k f e = k f (record e { descriptors = put_back ds before e.descriptors })

-- Assignments.

pub record AssignMeant : Type 0 where
  pub name : Text
  pub value : WordMeant

abbrev pub names : List AssignMeant → List Text
names [] = []
names (a ∷ as') = a.name ∷ names as'

-- a variable takes a value; a readonly one is told and ends the shell
abbrev pub assigns : Bool → Text → Text → Go_on → Next → Go_on
assigns exported name value go k e =
    if is_readonly e.env.vars name then tells (error_line sh name (codes "readonly")) (ends Exits 1 k) e else go (with_held (set_variable exported name value e.env.vars) e)

-- from left to right
abbrev pub assign_all : List AssignMeant → Bool → Place → Go_on → Next → Go_on
assign_all [] exported pl go k e = go e
assign_all (a ∷ as') exported pl go k e = expand_word mode.Value a.value pl (λ x e'. assigns exported a.name (value_of x) (assign_all as' exported pl go k) k e') k e

-- the variables that were named are as they were before
abbrev pub unassigned : List Text → Held → Next → Next
unassigned ns before k f e = k f (with_held (put_back_variables ns before e.env.vars) e)
