-- What a redirection does, once its operand was expanded (XCU 2.7).
use Rattle.std.specs.Prelude.{ℕ, ◌+◌, Option, Some, None, codes, if◌then◌else◌}
use Rattle.rk_base.specs.Text.{Text, same_text}
use Rattle.rk_base.specs.Canonical.{is_empty}
use Rattle.rk_base.specs.Errno.{word}
use Rattle.rk_base.specs.declared.errno.Errno.{Errno}
use Rattle.rk_calls.specs.declared.answer.Answer.{Answer}
use Rattle.rk_calls.specs.declared.call.Call.{Call}
use Rattle.rk_calls.specs.declared.call.Call.TheVariants.{Open, Write, Pipe}
use Rattle.rk_calls.specs.declared.call.How.{How}
use Rattle.rk_calls.specs.declared.call.How.TheVariants as how
use Rattle.rk_calls.specs.Lines.{error_line}
use Rattle.rk_calls.specs.Places.{absolute}
use Rattle.rk_calls.specs.Talk.{Says, ask}
use Rattle.rk_calls.specs.Turns.{turns}
use Rattle.sh_vars.specs.declared.env.Env.{Env}
use Rattle.sh_vars.specs.Numbers.{number_after}
use Rattle.sh_redirect.specs.declared.descriptors.DescriptorTable.{DescriptorTable}
use Rattle.sh_redirect.specs.declared.kind.Redirect.{Redirect}
use Rattle.sh_redirect.specs.declared.kind.Redirect.TheVariants as kind
use Rattle.sh_redirect.specs.Answers.{refusal, heard}
use Rattle.sh_redirect.specs.DescriptorTable.{slot, set_slot, digit}

-- with the map of descriptors and the environment
abbrev pub Goes : Type 0
Goes = DescriptorTable → Env → Says

-- what comes after it: it was made, or refused
pub record After : Type 0 where
  pub made : Goes
  pub refused : Goes

-- with what comes after it
abbrev pub Action : Type 0
Action = After → Goes

-- asks, and goes on by the answer once that was heard
abbrev pub asks : Call → ℕ → (Answer → Action) → Action
asks call cost next k ds env = ask call cost (λ a. next a k ds (heard a env))

-- a descriptor stands for a number, or for none, and the redirection is made
abbrev pub makes : ℕ → Option ℕ → Action
makes d n k ds env = k.made (set_slot d n ds) env

abbrev pub is_refused : Action
is_refused k ds env = k.refused ds env

-- A line of error text goes to 2 as the map is now, and where the map lacks 2 nothing is asked. Its refusal is passed over.
abbrev pub told : Option ℕ → Text → Action
told None line = is_refused
told (Some n) line = asks (Write n line) (1 + turns line) (λ a. is_refused)

-- `sh: OPERAND: WORD`
abbrev pub tells : Text → Text → Action
tells operand what k ds env = told (slot ds 2) (error_line (codes "sh") operand what) k ds env

-- once a file was opened, whose number is n, or refused
abbrev pub opened : ℕ → Text → ℕ → Option Errno → Action
opened d operand n None = makes d (Some n)
opened d operand n (Some errno) = tells operand (word errno)

abbrev pub opens : How → ℕ → Text → Action
opens h d operand k ds env = asks (Open (absolute env.wd operand) h) 1 (λ a. opened d operand env.next (refusal a)) k ds env

-- a copy of what a descriptor stands for
abbrev pub copied : ℕ → Text → Option ℕ → Action
copied d operand None = tells operand (codes "bad descriptor")
copied d operand (Some n) = makes d (Some n)

abbrev pub copies_digit : ℕ → Text → Option ℕ → Action
copies_digit d operand None k ds env = tells operand (codes "not valid") k ds env
copies_digit d operand (Some from) k ds env = copied d operand (slot ds from) k ds env

-- of one digit; `-` closes
abbrev pub copies : ℕ → Text → Action
copies d operand = if same_text operand (codes "-") then makes d None else copies_digit d operand (digit operand)

-- A here-document's body goes into its pipe, whose read end is n and whose write end is the number after that; a refusal of the
-- Write is passed over.
abbrev pub filled : ℕ → Text → ℕ → Action
filled d body n = if is_empty body then makes d (Some n) else asks (Write (number_after n) body) (1 + turns body) (λ a. makes d (Some n))

abbrev pub here : ℕ → Text → Action
here d body k ds env = asks Pipe 1 (λ a. filled d body env.next) k ds env

abbrev pub redirects : Redirect → ℕ → Text → Action
redirects kind.Reads d operand = opens how.Read d operand
redirects kind.Makes d operand = opens how.Make d operand
redirects kind.Appends d operand = opens how.Append d operand
redirects kind.Copies d operand = copies d operand
redirects kind.Here d operand = here d operand
