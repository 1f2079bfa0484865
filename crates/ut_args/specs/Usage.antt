-- What a utility says whose words are at fault.
use Rattle.std.specs.Prelude.{ℕ, ◌+◌, ◌≡◌, ◌++◌, codes, Option, Some, None, Result, Ok, Err}
use Rattle.rk_base.specs.Text.{Text}
use Rattle.rk_calls.specs.declared.answer.Answer.{Answer}
use Rattle.rk_calls.specs.declared.answer.Answer.TheVariants.{Go}
use Rattle.rk_calls.specs.declared.call.Call.TheVariants.{Write}
use Rattle.rk_calls.specs.Lines.{error_line}
use Rattle.rk_calls.specs.Talk.{Says, ask, exits}
use Rattle.rk_calls.specs.Turns.{turns}
use Rattle.rk_calls.specs.Views.{IsCommandTalk, talk-exits, talk-ask}
use Rattle.ut_args.specs.declared.complaint.Complaint.{Complaint}
use Rattle.ut_args.specs.Opts.{ArgsValue}

-- asks for the text on 2, and exits whether that is refused or not
abbrev pub complains : Text → ℕ → Says
complains text status = ask (Write 2 text) (1 + turns text) (λ a. exits status 0)

-- `NAME: usage`, for operands that are at fault
abbrev pub misuses : Text → ℕ → Says
misuses name status = complains (name ++ codes ": usage\n") status

-- `NAME: -X: usage`, for an option that is
abbrev pub misuses_option : Text → Text → ℕ → Says
misuses_option name word status = complains (error_line name word (codes "usage")) status

-- by its options and operands, or by the option that is at fault
abbrev pub begins : Text → ℕ → Result ArgsValue Text → (ArgsValue → Says) → Says
begins name status (Ok args) on = on args
begins name status (Err word) on = misuses_option name word status

-- The machine.

-- where the text isn't yet written, and where it is
abbrev pub complains_yet : ℕ → Option Text → Says
complains_yet status (Some text) = complains text status
complains_yet status None = exits status 0

abbrev pub complaint_talk : Complaint → Answer → Says
complaint_talk c a = complains_yet c.status c.text

-- what the code begins with
abbrev pub Begins : Text → ℕ → Result ArgsValue Text → Result ArgsValue Complaint → Type 0
Begins name status r (Ok args) = r ≡ Ok args
Begins name status r (Err c) = (on : ArgsValue → Says) → complaint_talk c Go ≡ begins name status r on

-- A command may say so.

pub talk-complains : (text : Text) (status : ℕ) → IsCommandTalk (complains text status)
talk-complains text status = talk-ask (Write 2 text) (1 + turns text) _ tt (λ a. talk-exits status 0)

pub talk-begins : (name : Text) (status : ℕ) (r : Result ArgsValue Text) (on : ArgsValue → Says) → ((args : ArgsValue) → IsCommandTalk (on args)) → IsCommandTalk (begins name status r on)
talk-begins name status (Ok args) on h = h args
talk-begins name status (Err word) on h = talk-complains _ status
