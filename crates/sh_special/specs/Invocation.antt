-- What the words of `sh` order (XCU `sh`).
use Rattle.std.specs.Prelude.{ℕ, ◌==◌, List, [], ◌∷◌, Bool, true, false, Option, Some, None, codes, if◌then◌else◌}
use Rattle.rk_base.specs.Text.{Text, same_text}
use Rattle.rk_calls.specs.Keys.{shell}
use Rattle.rk_calls.specs.Lines.{error_line}
use Rattle.sh_special.specs.Lines.{usage_line}
use Rattle.sh_special.specs.declared.invocation.Leads.{Leads}
use Rattle.sh_special.specs.declared.invocation.Leads.TheVariants.{Operand, End, Letters}
use Rattle.sh_special.specs.declared.invocation.Start as code
use Rattle.sh_special.specs.declared.invocation.Start.TheVariants as ordered

pub data Start : Type 0 where
  -- the line of a fault of usage
  Misused : (line : Text) → Start
  -- a text, with `$0` and the positional parameters
  Given : (zero text : Text) (words : List Text) → Start
  -- a script
  Script : (file : Text) (words : List Text) → Start

-- the operands of `sh`, behind its options
abbrev pub with_operands : Bool → List Text → Start
with_operands true [] = Misused (usage_line shell)
with_operands true (text ∷ []) = Given shell text []
with_operands true (text ∷ zero ∷ words) = Given zero text words
with_operands false [] = Misused (usage_line shell)
with_operands false (file ∷ words) = Script file words

-- the first letter that is no `c`
abbrev pub other_letter : Text → Option ℕ
other_letter [] = None
other_letter (b ∷ bs) = if b == 99 then other_letter bs else Some b

-- what a word before the operands is: one of them, `--`, or letters of options, with the first that is no `c`
abbrev pub letters_of : Text → Leads
letters_of ls = if same_text ls (codes "-") then End else Letters (other_letter ls)

abbrev pub lead_of : Text → Leads
lead_of [] = Operand
lead_of (b ∷ []) = Operand
lead_of (b ∷ l ∷ ls) = if b == 45 then letters_of (l ∷ ls) else Operand

-- `--` ends options, and `-` alone is an operand
abbrev pub led : Leads → Bool → List Text → List Text → Start → Start
led Operand c words rest start = with_operands c words
led End c words rest start = with_operands c rest
led (Letters None) c words rest start = start
led (Letters (Some b)) c words rest start = Misused (error_line shell (45 ∷ b ∷ []) (codes "usage"))

abbrev pub options : Bool → List Text → Start
options c [] = with_operands c []
options c (w ∷ ws) = led (lead_of w) c (w ∷ ws) ws (options true ws)

-- The same, without where the words lie in memory.
abbrev pub start_of : code.Start → Start
start_of (ordered.Misused line) = Misused line
start_of (ordered.Given zero text words) = Given zero text words
start_of (ordered.Script file words) = Script file words
