-- What stands behind a dollar sign (XCU 2.5, 2.6.2), and what redirects (XCU 2.7), by the text of its token.
use Rattle.std.specs.Prelude.{ℕ, ◌-◌, ◌==◌, nat_lt, ◌&&◌, take, drop, length, slice_index, if◌then◌else◌}
use Rattle.rk_base.specs.Text.{Text}
use Rattle.sh_ast.specs.declared.parameter.Parameter.{Parameter}
use Rattle.sh_ast.specs.declared.parameter.Parameter.TheVariants as p
use Rattle.sh_ast.specs.declared.word.Quoting.TheVariants.{Unquoted}
use Rattle.sh_ast.specs.declared.word.Condition.{Condition}
use Rattle.sh_ast.specs.declared.word.Condition.TheVariants as c
use Rattle.sh_ast.specs.declared.word.Substitute.{Substitute}
use Rattle.sh_ast.specs.declared.word.Substitute.TheVariants as s
use Rattle.sh_ast.specs.declared.word.Removal.{Removal}
use Rattle.sh_ast.specs.declared.word.Removal.TheVariants as r
use Rattle.sh_ast.specs.declared.command.RedirectOperator.{RedirectOperator}
use Rattle.sh_ast.specs.declared.command.RedirectOperator.TheVariants as o
use Rattle.sh_ast.specs.Words.{PartTree, value_of, length_of}
use Rattle.std.specs.Char.{is_ascii_digit}
use Rattle.sh_script.specs.Names.{begins_name, parameter_length}

-- the parameter that some bytes are
unfoldable pub parameter_of : Text → Parameter
parameter_of text =
    let c = slice_index text 0 in
    if begins_name c then p.Variable text
    else if (c == 48 && length text == 1) then p.Zero
    else if is_ascii_digit c then p.Positional text
    else if c == 64 then p.At
    else if c == 42 then p.Asterisk
    else if c == 35 then p.Count
    else p.Status

-- $x
abbrev pub plain_parameter : Text → PartTree
plain_parameter text = value_of Unquoted (parameter_of (drop 1 text))

-- ${x} and ${#x}, by what the braces hold
abbrev pub in_braces : Text → PartTree
in_braces text =
    if (slice_index text 0 == 35 && nat_lt 1 (length text)) then length_of Unquoted (parameter_of (drop 1 text))
    else value_of Unquoted (parameter_of text)

abbrev pub braced_parameter : Text → PartTree
braced_parameter text = in_braces (take (length text - 3) (drop 2 text))

-- ${x:-, ${x% and their like: the parameter and the operator
abbrev pub operand : Text → Parameter
operand text = parameter_of (take (parameter_length (drop 2 text)) (drop 2 text))

abbrev pub operator : Text → Text
operator text = drop (parameter_length (drop 2 text)) (drop 2 text)

abbrev pub condition_of : Text → Condition
condition_of text = if slice_index text 0 == 58 then c.UnsetOrNull else c.Unset

abbrev pub substitute_by : ℕ → Substitute
substitute_by c = if c == 45 then s.Default else if c == 61 then s.Assign else if c == 63 then s.Fault else s.Alternative

abbrev pub substitute_of : Text → Substitute
substitute_of text = if slice_index text 0 == 58 then substitute_by (slice_index text 1) else substitute_by (slice_index text 0)

abbrev pub removal_of : Text → Removal
removal_of text =
    if slice_index text 0 == 37
    then (if nat_lt 1 (length text) then r.LargestSuffix else r.SmallestSuffix)
    else if nat_lt 1 (length text) then r.LargestPrefix else r.SmallestPrefix

-- the descriptor of a redirection, and its operator without a number
abbrev pub descriptor_of : Text → ℕ
descriptor_of text = let c = slice_index text 0 in if is_ascii_digit c then c - 48 else if c == 60 then 0 else 1

abbrev pub numberless : Text → Text
numberless text = if is_ascii_digit (slice_index text 0) then drop 1 text else text

abbrev pub operator_of : Text → RedirectOperator
operator_of text =
    if slice_index text 1 == 38 then o.Duplicate
    else if slice_index text 0 == 60 then o.Input
    else if slice_index text 1 == 62 then o.Append
    else o.Output
