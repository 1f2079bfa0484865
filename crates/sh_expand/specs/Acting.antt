-- What the code does at a part of a word.
use Rattle.std.specs.Prelude.{◌≡◌, ℕ, ◌+◌, ◌++◌, Option, Some, None, Bool, true, false, not}
use Rattle.std.specs.declared.rc.Rc.{Rc}
use Rattle.std.specs.declared.alloc.Global.{Global}
use Rattle.rk_base.specs.Text.{Text}
use Rattle.rk_base.specs.Canonical.{is_empty}
use Rattle.sh_ast.specs.declared.word.Condition.{Condition}
use Rattle.sh_ast.specs.declared.word.Condition.TheVariants.{Unset, UnsetOrNull}
use Rattle.sh_ast.specs.declared.word.Parts.{Parts}
use Rattle.sh_ast.specs.declared.word.Substitute.{Substitute}
use Rattle.sh_ast.specs.declared.word.Substitute.TheVariants as operator
use Rattle.sh_ast.specs.Words.{parts, PartTree, literal, value_of, length_of, substitute, without, output_of, arithmetic, OperatorWord, no_word, the_word, PartsTree, no_parts, part_and}
use Rattle.sh_vars.specs.declared.env.Env.{Env}
use Rattle.sh_vars.specs.Held.{is_readonly}
use Rattle.sh_split.specs.Cutting.{Marks}
use Rattle.sh_split.specs.Marked.{given, text_of, pattern_of}
use Rattle.sh_expand.specs.Values.{all_removed}
use Rattle.sh_expand.specs.declared.acts.Then.{Then}
use Rattle.sh_expand.specs.declared.acts.Then.TheVariants.{Keep, Assign, Message, Remove, Compute}
use Rattle.sh_expand.specs.declared.acts.Acted.{Acted}
use Rattle.sh_expand.specs.declared.acts.Acted.TheVariants.{Put, Enter, Subst, Fault}
use Rattle.sh_expand.specs.Expands.{Go_on, Body, Ended, Failed, Use, shown, put_by, carried_out, computed, substituted, manner_of, expand, expand_word, expand_text}
use Rattle.sh_expand.specs.Operators as outcome
use Rattle.sh_expand.specs.Operators.{Outcome}

-- what comes after a word within a word
abbrev pub then_over : Then → Ended → Failed → Ended
then_over Keep k fail ms e = k ms e
then_over (Assign quoted name outer) k fail ms e = put_by (is_readonly e.vars name) name (text_of ms) (outer ++ given quoted (text_of ms)) k fail e
then_over (Message parameter) k fail ms e = fail parameter (text_of ms) e
then_over (Remove removal apart quoted words outer) k fail ms e = k (outer ++ shown apart quoted (all_removed removal (pattern_of ms) words) e) e
then_over (Compute quoted outer) k fail ms e = computed quoted (text_of ms) outer k fail e

-- what comes after a part
abbrev pub acted_on : (ℕ → Body) → Acted → Marks → Ended → Failed → Go_on
acted_on body Put marks k fail e = k marks e
acted_on body (Enter inner splits then) marks k fail e = expand (manner_of body true splits) (parts inner.value) marks (then_over then k fail) fail e
acted_on body (Subst quoted n) marks k fail e = substituted (body n) quoted marks k e
acted_on body (Fault parameter message) marks k fail e = fail parameter message e

-- what a part says, by what bodies mean, behind these marks
abbrev pub Part_says : Type 0
Part_says = (ℕ → Body) → Marks → Ended → Failed → Go_on

-- what is said of a part is what was done, from these marks to those
abbrev pub Does : Part_says → Env → Marks → Marks → Acted → Type 0
Does x e old new acted = (body : ℕ → Body) (k : Ended) (fail : Failed) (p : ℕ) → x body old k fail e p ≡ acted_on body acted new k fail e p

-- the word of an operator, as the code has it
abbrev pub word_of : Option (Rc Parts Global) → OperatorWord
word_of None = no_word
word_of (Some inner) = the_word (parts inner.value)

-- the parts of an operator's word; none where it is left out
abbrev pub parts_in : OperatorWord → PartsTree
parts_in no_word = no_parts
parts_in (the_word ps) = ps

-- whether a value counts for an operator: null counts as unset behind a colon
abbrev pub counts : Condition → Option Text → Bool
counts Unset None = false
counts Unset (Some text) = true
counts UnsetOrNull None = false
counts UnsetOrNull (Some text) = not (is_empty text)

-- what the table has, by whether the value counts
abbrev pub outcome_by : Substitute → Bool → Outcome
outcome_by operator.Default true = outcome.Value
outcome_by operator.Default false = outcome.Word
outcome_by operator.Assign true = outcome.Value
outcome_by operator.Assign false = outcome.Assigns
outcome_by operator.Fault true = outcome.Value
outcome_by operator.Fault false = outcome.Error
outcome_by operator.Alternative true = outcome.Word
outcome_by operator.Alternative false = outcome.Null

-- what the table has for a parameter, with this word
abbrev pub used_as : Outcome → Use → OperatorWord → Part_says
used_as it u word body marks k fail =
    carried_out it u (record { here = λ ms k' e'. expand_word (manner_of body true u.splits) u.quoted word ms k' fail e'; text = λ otherwise k' e'. expand_text body otherwise word k' fail e' }) marks k fail

-- what was left of a word within a word: it goes on, or a fault
abbrev pub left_on : Option (Text × Text) → Marks → Ended → Failed → Go_on
left_on None marks k fail e = k marks e
left_on (Some fault) marks k fail e = fail fault.0 fault.1 e

abbrev pub LeavesAs : Then → Marks → Env → Marks → Env → Option (Text × Text) → Type 0
LeavesAs then old before new now r = (k : Ended) (fail : Failed) (p : ℕ) → then_over then k fail old before p ≡ left_on r new k fail now p

-- how much there is of a word, as a measure
abbrev mutual
  pub size : PartsTree → ℕ
  size no_parts = 0
  size (part_and p ps) = size_part p + size ps

  pub size_part : PartTree → ℕ
  size_part (literal quoting text) = 1
  size_part (value_of quoting parameter) = 1
  size_part (length_of quoting parameter) = 1
  size_part (substitute quoting parameter condition by word) = size_word word + 2
  size_part (without quoting parameter removal pattern) = size pattern + 2
  size_part (output_of quoting n) = 1
  size_part (arithmetic quoting expression) = size expression + 2

  pub size_word : OperatorWord → ℕ
  size_word no_word = 0
  size_word (the_word ps) = size ps

-- the size of a word that is entered
abbrev pub acted_size : Acted → ℕ
acted_size Put = 0
acted_size (Enter inner splits then) = size (parts inner.value) + 1
acted_size (Subst quoted n) = 0
acted_size (Fault parameter message) = 0
