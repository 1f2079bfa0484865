-- Compound commands (XCU 2.9.4), pipelines and lists (XCU 2.9.2 and 2.9.3), and definitions of functions (XCU 2.9.5).
use Rattle.std.specs.Prelude.{ℕ, ◌==◌, not, List, [], ◌∷◌, Option, Some, None, Bool, true, false, if◌then◌else◌}
use Rattle.rk_base.specs.Text.{Text}
use Rattle.rk_calls.specs.Talk.{Says, pay}
use Rattle.rk_calls.specs.declared.call.Call.TheVariants.{Pipe}
use Rattle.sh_ast.specs.declared.command.Connector.{Connector}
use Rattle.sh_ast.specs.declared.command.Connector.TheVariants.{And, Or}
use Rattle.sh_pattern.specs.Decided.{is_matched}
use Rattle.sh_vars.specs.Numbers.{number_after}
use Rattle.sh_expand.specs.declared.mode.Mode.TheVariants as mode
use Rattle.sh_redirect.specs.declared.descriptors.DescriptorTable.{DescriptorTable}
use Rattle.sh_means.specs.declared.flow.Flow.TheVariants.{Normal}
use Rattle.sh_means.specs.declared.flow.Place.{Place}
use Rattle.sh_means.specs.State.{FunctionTree, Shell, with_slot, past_stage, define}
use Rattle.sh_means.specs.Flows.{Next, Go_on, Means, asks, ends, and_then, by_status, in_loop, out_of_subshell, watched, inverted, ignoring, deeper}
use Rattle.sh_means.specs.Words.{WordMeant, RedirectMeant, expand_word, expand_words, value_of, named, redirect_all, unredirected, assigns}

-- Lists.

-- commands, one after another
abbrev pub seq_all : List Means → Means
seq_all [] pl e k = k Normal e
seq_all (m ∷ ms) pl e k = m pl e (and_then (λ e. seq_all ms pl e k) k)

-- a whole list; one without a command has status 0
abbrev pub whole_of : List Means → Means
whole_of [] pl e k = ends Normal 0 k e
whole_of (m ∷ ms) pl e k = seq_all (m ∷ ms) pl e k

-- only at the last pipeline of an AND-OR list is a failing status not ignored
abbrev pub place_before : List Means → Place → Place
place_before [] pl = pl
place_before (m ∷ ms) pl = ignoring pl

-- the pipeline behind `&&` is taken at status 0, that behind `||` at any other
abbrev pub takes : Connector → ℕ → Bool
takes And status = status == 0
takes Or status = not (status == 0)

abbrev pub links_mean : List Means → List Connector → Place → Next → Go_on
links_mean [] connectors pl k e = k Normal e
links_mean (m ∷ ms) [] pl k e = k Normal e
links_mean (m ∷ ms) (c ∷ cs) pl k e = if takes c e.env.status then m (place_before ms pl) e (and_then (links_mean ms cs pl k) k) else links_mean ms cs pl k e

abbrev pub and_or_means : List Means → List Connector → Means
and_or_means [] connectors pl e k = pay 1 (k Normal e)
and_or_means (m ∷ ms) connectors pl e k = pay 1 (m (place_before ms pl) e (and_then (links_mean ms connectors pl k) k))

-- Pipelines.

abbrev pub with_input : Option ℕ → Shell → Shell
with_input None e = e
with_input (Some n) e = with_slot 0 (Some n) e

-- The stages, the first of which reads from this number. Each is a subshell of the shell that the pipeline met, and each but
-- the last writes into a pipe that is made before it. The status is the last one's.
abbrev pub stages_mean : Option ℕ → List Means → Place → Next → Go_on
stages_mean input [] pl k e = k Normal e
stages_mean input (m ∷ []) pl k e = m pl (with_input input e) (out_of_subshell e k)
stages_mean input (m ∷ n ∷ ms) pl k e =
    asks Pipe 1 (λ a e'. m pl (with_slot 1 (Some (number_after e.env.next)) (with_input input e')) (λ f e''. stages_mean (Some e.env.next) (n ∷ ms) pl k (past_stage e' e''))) e

-- one command behind `!` is no subshell
abbrev pub piped_means : List Means → Place → Next → Go_on
piped_means [] pl k e = k Normal e
piped_means (m ∷ []) pl k e = m pl e k
piped_means (m ∷ n ∷ ms) pl k e = stages_mean None (m ∷ n ∷ ms) pl k e

abbrev pub pipeline_means : Bool → List Means → Means
pipeline_means true stages pl e k = pay 1 (piped_means stages (ignoring pl) (inverted k) e)
pipeline_means false stages pl e k = pay 1 (piped_means stages pl (watched pl k) e)

-- Definitions of functions.

abbrev pub define_means : Text → FunctionTree → Means
define_means name f pl e k = pay 1 (ends Normal 0 k (define name f e))

-- Compound commands, once their redirections were made.

-- of a subshell the status and the local numbers are kept
abbrev pub subshell_means : Means → Means
subshell_means m pl e k = m pl e (out_of_subshell e (watched pl k))

pub record BranchMeant : Type 0 where
  pub condition : Means
  pub body : Means

-- the body behind the first condition with status 0, or what stands behind `else`
abbrev pub if_means : List BranchMeant → Means → Means
if_means [] otherwise pl e k = otherwise pl e k
if_means (b ∷ bs) otherwise pl e k = b.condition (ignoring pl) e (and_then (λ e. by_status e.env.status (λ e. b.body pl e k) (λ e. if_means bs otherwise pl e k) e) k)

-- A loop: what its condition and its body mean, whether it is an `until`, and its round after a body that had this status.
pub record LoopMeant : Type 0 where
  pub condition : Means
  pub body : Means
  pub until : Bool
  pub again : ℕ → Means

-- one round more where the condition has status 0, or for `until` any other
abbrev pub turns_round : Bool → Go_on → Go_on → Shell → Says
turns_round true body over e = by_status e.env.status over body e
turns_round false body over e = by_status e.env.status body over e

abbrev pub next_round : LoopMeant → Place → Next → Go_on
next_round l pl k e = l.again e.env.status pl e k

abbrev pub after_body : LoopMeant → Place → Next → Next
after_body l pl k = let go = next_round l pl k in in_loop go go k

-- a loop that is over has the status of its last body, or 0
abbrev pub after_condition : LoopMeant → ℕ → Place → Next → Next
after_condition l last pl k = in_loop (turns_round l.until (λ e. l.body (deeper pl) e (after_body l pl k)) (λ e. ends Normal last k e)) (next_round l pl k) k

abbrev pub round_means : LoopMeant → ℕ → Means
round_means l last pl e k = pay 1 (l.condition (ignoring (deeper pl)) e (after_condition l last pl k))

-- `for`, over these fields
abbrev pub for_each : Text → List Text → Means → Place → Next → Go_on
for_each name [] body pl k e = k Normal e
for_each name (field ∷ fields) body pl k e =
    pay 1 (assigns false name field (λ e. body (deeper pl) e (let go = for_each name fields body pl k in in_loop go go k)) k e)

abbrev pub for_fields : Text → List Text → Means → Place → Next → Go_on
for_fields name [] body pl k e = ends Normal 0 k e
for_fields name (field ∷ fields) body pl k e = for_each name (field ∷ fields) body pl k e

pub data ForMeant : Type 0 where
  Parameters : ForMeant
  Among : (words : List WordMeant) → ForMeant

abbrev pub for_means : Text → ForMeant → Means → Means
for_means name Parameters body pl e k = for_fields name e.env.vars.positional body pl k e
for_means name (Among words) body pl e k = expand_words words [] pl (λ fields. for_fields name fields body pl k) k e

pub record CaseMeant : Type 0 where
  pub patterns : List WordMeant
  pub body : Means

-- `case`: the first item with a pattern that matches the value; patterns are expanded one by one
abbrev pub case_patterns : List WordMeant → Means → Go_on → Text → Place → Next → Go_on
case_patterns [] body later value pl k e = later e
case_patterns (w ∷ ws) body later value pl k e =
    expand_word mode.Pattern w pl (λ x e. if is_matched (value_of x) value then body pl e k else case_patterns ws body later value pl k e) k e

abbrev pub case_items : List CaseMeant → Text → Place → Next → Go_on
case_items [] value pl k e = ends Normal 0 k e
case_items (c ∷ cs) value pl k e = case_patterns c.patterns c.body (case_items cs value pl k) value pl k e

abbrev pub case_means : WordMeant → List CaseMeant → Means
case_means w cases pl e k = expand_word mode.Value w pl (λ x. case_items cases (value_of x) pl k) k e

-- with redirections; a refused one is status 1, and `set -e` looks at it
abbrev pub made_compound : Means → List ℕ → DescriptorTable → Place → Next → Go_on
made_compound m ds before pl k e = m pl e (unredirected ds before k)

abbrev pub refused_compound : List ℕ → DescriptorTable → Place → Next → Go_on
refused_compound ds before pl k = ends Normal 1 (unredirected ds before (watched pl k))

abbrev pub compound_means : List RedirectMeant → Means → Means
compound_means redirections m pl e k =
    pay 1 (redirect_all redirections pl (made_compound m (named redirections) e.descriptors pl k) (refused_compound (named redirections) e.descriptors pl k) k e)
