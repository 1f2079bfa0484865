-- What expansion of the parts of a word asks, and what it gives (XCU 2.6.2 and 2.6.3).
use Rattle.std.specs.Prelude.{ℕ, List, [], ◌++◌, length, codes, Option, Some, None, Result, Ok, Err, Bool, true, false}
use Rattle.std.specs.Fmt.{decimal, signed_decimal}
use Rattle.rk_base.specs.Text.{Text}
use Rattle.rk_base.specs.declared.errno.Errno.{Errno}
use Rattle.rk_calls.specs.declared.call.Call.TheVariants.{Pipe, Read}
use Rattle.rk_calls.specs.declared.answer.Answer.{Answer}
use Rattle.rk_calls.specs.Talk.{Says, ask}
use Rattle.rk_calls.specs.Brought.{brought}
use Rattle.sh_ast.specs.declared.parameter.Parameter.{Parameter}
use Rattle.sh_ast.specs.declared.parameter.Parameter.TheVariants as p
use Rattle.sh_ast.specs.declared.word.Quoting.{Quoting}
use Rattle.sh_ast.specs.declared.word.Quoting.TheVariants.{Quoted, Unquoted}
use Rattle.sh_ast.specs.declared.word.Removal.{Removal}
use Rattle.sh_ast.specs.Parameters.{spelling}
use Rattle.sh_ast.specs.Words.{PartTree, literal, value_of, length_of, substitute, without, output_of, arithmetic, OperatorWord, no_word, the_word, PartsTree, no_parts, part_and}
use Rattle.sh_vars.specs.declared.env.Env.{Env}
use Rattle.sh_vars.specs.Held.{Held, assigned, is_readonly}
use Rattle.sh_split.specs.Cutting.{Marks}
use Rattle.sh_split.specs.Joining.{joined}
use Rattle.sh_split.specs.Marked.{as_literal, as_given, given, all_given, text_of, pattern_of, captured}
use Rattle.sh_arith.specs.Meaning.{Ends}
use Rattle.sh_arith.specs.Operators.{Worth}
use Rattle.sh_arith.proofs.Worths.{worth_of}
use Rattle.sh_expand.specs.Arithmetic.{variables_in, told_of, words_of}
use Rattle.sh_expand.specs.Operators as outcome
use Rattle.sh_expand.specs.Operators.{Outcome, table, cell}
use Rattle.sh_expand.specs.Told.{numbered}
use Rattle.sh_expand.specs.Values.{value, values, stay_apart, separator, all_removed}

-- what goes on from a state
abbrev pub Go_on : Type 0
Go_on = Env → Says

-- what a substitution's body does in a subshell, and what comes after it
abbrev pub Body : Type 0
Body = Env → Go_on → Says

-- what comes after the marks of a word; and after a fault: a parameter and a message
abbrev pub Ended : Type 0
Ended = Marks → Go_on

abbrev pub Failed : Type 0
Failed = Text → Text → Go_on

-- the state with the next local number after an answer
abbrev pub counted : Answer → Env → Env
counted a e = record e { next = numbered a e.next }

-- a refused read gives nothing
abbrev pub read_of : Result Text Errno → Text
read_of (Ok bytes) = bytes
read_of (Err errno) = []

abbrev pub not_set : Text
not_set = codes "not set"

abbrev pub not_valid : Text
not_valid = codes "not valid"

abbrev pub readonly : Text
readonly = codes "readonly"

abbrev pub is_quoted : Quoting → Bool
is_quoted Quoted = true
is_quoted Unquoted = false

-- The bytes of a word. In an operator's word unquoted ones count as a result.
abbrev pub literal_marks : Bool → Quoting → Text → Marks
literal_marks inner Quoted text = given true text
literal_marks true Unquoted text = as_given text
literal_marks false Unquoted text = as_literal text

-- an unset parameter is nothing, or under set -u a fault
abbrev pub unset : Bool → Bool → Parameter → Marks → Ended → Failed → Go_on
unset true quoted parameter marks k fail e = fail (spelling parameter) not_set e
unset false quoted parameter marks k fail e = k (marks ++ given quoted []) e

-- values where they stand
abbrev pub shown : Bool → Bool → List Text → Env → Marks
shown apart quoted words e = all_given apart quoted (separator e) words

-- a parameter as a word has it: in a word whose fields are split or not, quoted or not
pub record Use : Type 0 where
  pub splits : Bool
  pub quoted : Bool
  pub parameter : Parameter

abbrev pub use_of : Bool → Bool → Parameter → Use
use_of splits quoted parameter = record { splits = splits; quoted = quoted; parameter = parameter }

-- values of such a parameter where they stand
abbrev pub shown_of : Use → List Text → Env → Marks
shown_of u words e = shown (stay_apart u.splits u.quoted u.parameter) u.quoted words e

-- the values of a parameter that is set go on; one that is unset is as above
abbrev pub with_values : Use → Option (List Text) → Marks → (List Text → Go_on) → Ended → Failed → Go_on
with_values u (Some words) marks go k fail e = go words e
with_values u None marks go k fail e = unset e.nounset u.quoted u.parameter marks k fail e

-- substitute the parameter: its values stand there
abbrev pub got : Use → Option (List Text) → Marks → Ended → Failed → Go_on
got u o marks k fail e = with_values u o marks (λ words e'. k (marks ++ shown_of u words e') e') k fail e

-- an unset parameter has no bytes, or under set -u it is a fault
abbrev pub unmeasured : Bool → Bool → Parameter → Marks → Ended → Failed → Go_on
unmeasured true quoted parameter marks k fail e = fail (spelling parameter) not_set e
unmeasured false quoted parameter marks k fail e = k (marks ++ given quoted (codes "0")) e

-- how many bytes the values have, joined
abbrev pub measured : Bool → Parameter → Option (List Text) → Marks → Ended → Failed → Go_on
measured quoted parameter (Some words) marks k fail e = k (marks ++ given quoted (decimal (length (joined (separator e) words)))) e
measured quoted parameter None marks k fail e = unmeasured e.nounset quoted parameter marks k fail e

-- a variable takes a text, and these marks stand there then; a readonly one is a fault
abbrev pub put_by : Bool → Text → Text → Marks → Ended → Failed → Go_on
put_by true name text marks k fail e = fail name readonly e
put_by false name text marks k fail e = k marks (record e { vars = assigned name text e.vars })

-- what comes after the text of an operator's word
abbrev pub With_text : Type 0
With_text = Text → Go_on

-- only a variable can be set
abbrev pub assigning : Bool → Parameter → Marks → (With_text → Go_on) → Ended → Failed → Go_on
assigning quoted (p.Variable name) marks word k fail e = word (λ text e'. put_by (is_readonly e'.vars name) name text (marks ++ given quoted text) k fail e') e
assigning quoted (p.Positional digits) marks word k fail e = fail digits not_valid e
assigning quoted p.At marks word k fail e = fail (spelling p.At) not_valid e
assigning quoted p.Asterisk marks word k fail e = fail (spelling p.Asterisk) not_valid e
assigning quoted p.Count marks word k fail e = fail (spelling p.Count) not_valid e
assigning quoted p.Status marks word k fail e = fail (spelling p.Status) not_valid e
assigning quoted p.Zero marks word k fail e = fail (spelling p.Zero) not_valid e

-- what an operator's word means: as it stands there, behind these marks; and as a text, which is this one where no word is
pub record WordMeans : Type 0 where
  pub here : Marks → Ended → Go_on
  pub text : Text → With_text → Go_on

-- What the table has is done: the value, the word or null is substituted; the word is assigned, and substituted; or it is the
-- message of an error.
abbrev pub carried_out : Outcome → Use → WordMeans → Marks → Ended → Failed → Go_on
carried_out outcome.Value u word marks k fail e = got u (values e u.parameter) marks k fail e
carried_out outcome.Word u word marks k fail e = word.here marks k e
carried_out outcome.Null u word marks k fail e = k (marks ++ given u.quoted []) e
carried_out outcome.Assigns u word marks k fail e = assigning u.quoted u.parameter marks (word.text []) k fail e
carried_out outcome.Error u word marks k fail e = word.text not_set (λ text e'. fail (spelling u.parameter) text e') e

-- behind a pattern that was expanded: values without what it matches
abbrev pub taken : Removal → Use → List Text → Marks → Ended → Ended
taken removal u words marks k pattern e = k (marks ++ shown_of u (all_removed removal (pattern_of pattern) words) e) e

-- the state once a substitution was performed
abbrev pub performed : Env → Env
performed e = record e { substituted = true }

-- A substitution: the pipe, the body, what it wrote. Once that was heard it was performed, also where the read was refused. Of the
-- answers that fit none refuses a pipe; under one that did, the body would be evaluated and the substitution performed too.
abbrev pub substituted : Body → Bool → Marks → Ended → Go_on
substituted body quoted marks k e =
    ask Pipe 2 (λ a. body (counted a e) (λ e'. ask (Read e.next) 1 (λ b. k (marks ++ given quoted (captured (read_of (brought b)))) (performed (counted b e')))))

-- what an expression is worth stands there as a decimal number, or it has a fault (XCU 2.6.4)
abbrev pub worth_put : Bool → Text → Worth → Marks → Ended → Failed → Go_on
worth_put quoted text (Ok number) marks k fail e = k (marks ++ given quoted (signed_decimal number)) e
worth_put quoted text (Err fault) marks k fail e = fail (told_of text fault) (words_of fault) e

-- from the variables as the expression leaves them
abbrev pub left_put : Bool → Text → Ends Held → Marks → Ended → Failed → Go_on
left_put quoted text ends marks k fail e = worth_put quoted text ends.worth marks k fail (record e { vars = ends.leaves.state })

-- the value of the expression that a text is
abbrev pub computed : Bool → Text → Marks → Ended → Failed → Go_on
computed quoted text marks k fail e = left_put quoted text (worth_of e.nounset text (variables_in e.vars)) marks k fail e

-- how parts are expanded: what bodies mean, whether they are an operator's word, and whether fields are split
pub record Manner : Type 0 where
  pub bodies : ℕ → Body
  pub inner : Bool
  pub splits : Bool

abbrev pub manner_of : (ℕ → Body) → Bool → Bool → Manner
manner_of bodies inner splits = record { bodies = bodies; inner = inner; splits = splits }

abbrev mutual
  -- the parts of a word from left to right, after the marks so far
  pub expand : Manner → PartsTree → Marks → Ended → Failed → Go_on
  expand m no_parts marks k fail e = k marks e
  expand m (part_and q qs) marks k fail e = expand_part m q marks (λ ms e'. expand m qs ms k fail e') fail e

  pub expand_part : Manner → PartTree → Marks → Ended → Failed → Go_on
  expand_part m (literal quoting text) marks k fail e = k (marks ++ literal_marks m.inner quoting text) e
  expand_part m (value_of quoting parameter) marks k fail e = got (use_of m.splits (is_quoted quoting) parameter) (values e parameter) marks k fail e
  expand_part m (length_of quoting parameter) marks k fail e = measured (is_quoted quoting) parameter (values e parameter) marks k fail e
  expand_part m (substitute quoting parameter condition by word) marks k fail e =
      carried_out (cell (table by condition) (value e parameter)) (use_of m.splits (is_quoted quoting) parameter)
      (record { here = λ ms k' e'. expand_word (manner_of m.bodies true m.splits) (is_quoted quoting) word ms k' fail e'; text = λ otherwise k' e'. expand_text m.bodies otherwise word k' fail e' })
      marks k fail e
  expand_part m (without quoting parameter removal pattern) marks k fail e =
      let u = use_of m.splits (is_quoted quoting) parameter in
      with_values u (values e parameter) marks (λ words e'. expand (manner_of m.bodies true false) pattern [] (taken removal u words marks k) fail e') k fail e
  expand_part m (output_of quoting n) marks k fail e = substituted (m.bodies n) (is_quoted quoting) marks k e
  expand_part m (arithmetic quoting expression) marks k fail e = expand (manner_of m.bodies true false) expression [] (λ ms e'. computed (is_quoted quoting) (text_of ms) marks k fail e') fail e

  -- an operator's word where it stands; nothing where it is left out
  pub expand_word : Manner → Bool → OperatorWord → Marks → Ended → Failed → Go_on
  expand_word m quoted no_word marks k fail e = k (marks ++ given quoted []) e
  expand_word m quoted (the_word parts) marks k fail e = expand m parts marks k fail e

  -- the same as a text, or another text where it is left out
  pub expand_text : (ℕ → Body) → Text → OperatorWord → With_text → Failed → Go_on
  expand_text bodies otherwise no_word k fail e = k otherwise e
  expand_text bodies otherwise (the_word parts) k fail e = expand (manner_of bodies true false) parts [] (λ ms e'. k (text_of ms) e') fail e
