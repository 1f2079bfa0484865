-- Every redirection keeps what is alike after it.
use Rattle.std.proofs.Common.{ℕ, ◌+◌, ◌-◌, ◌≤◌, Option, Some, None, Bool, true, false, codes, if◌then◌else◌, arith}
use Rattle.rk_base.specs.Canonical.{is_empty}
use Rattle.rk_base.specs.Errno.{word}
use Rattle.rk_base.specs.Text.{Text, same_text}
use Rattle.rk_base.specs.declared.errno.Errno.{Errno}
use Rattle.rk_calls.specs.declared.answer.Answer.{Answer}
use Rattle.rk_calls.specs.declared.call.Call.{Call}
use Rattle.rk_calls.specs.declared.call.Call.TheVariants.{Open, Write, Pipe}
use Rattle.rk_calls.specs.declared.call.How.{How}
use Rattle.rk_calls.specs.declared.call.How.TheVariants as how
use Rattle.rk_calls.specs.Lines.{error_line}
use Rattle.rk_calls.specs.Places.{absolute}
use Rattle.rk_calls.specs.Proper.{IsProper}
use Rattle.rk_calls.specs.Turns.{turns}
use Rattle.rk_calls.specs.Views.{View, Alike, alike-ask}
use Rattle.sh_vars.specs.declared.env.Env.{Env}
use Rattle.sh_vars.specs.Numbers.{number_after}
use Rattle.sh_redirect.specs.declared.descriptors.DescriptorTable.{DescriptorTable}
use Rattle.sh_redirect.specs.declared.kind.Redirect.{Redirect}
use Rattle.sh_redirect.specs.declared.kind.Redirect.TheVariants as kind
use Rattle.sh_redirect.specs.Answers.{refusal, heard}
use Rattle.sh_redirect.specs.DescriptorTable.{slot, set_slot, digit}
use Rattle.sh_redirect.specs.Redirects.{Goes, After, Action, asks, makes, is_refused, told, tells, opened, opens, copied, copies_digit, copies, filled, here, redirects}
use Rattle.sh_redirect.specs.Laws.{GoesAlike, AfterAlike, IsAlike}

lower : (v : View) (p q : ℕ) (k k' : After) → q ≤ p → AfterAlike v p k k' → AfterAlike v q k k'
lower v p q k k' le h = (λ ds env r le'. h.0 ds env r (omega arith), λ ds env r le'. h.1 ds env r (omega arith))

alike-asks : (call : Call) (c : ℕ) (next : Answer → Action) → IsProper call → ((a : Answer) → IsAlike (next a)) → IsAlike (asks call c next)
alike-asks call c next proper h v p k k' ds env hk =
    alike-ask v p call c (λ a. next a k ds (heard a env)) (λ a. next a k' ds (heard a env)) proper
    (λ le a. h a v (p - c) k k' ds (heard a env) (lower v p (p - c) k k' (omega arith) hk))

alike-choice : (b : Bool) (x y : Action) → IsAlike x → IsAlike y → IsAlike (if b then x else y)
alike-choice true x y h g = h
alike-choice false x y h g = g

alike-makes : (d : ℕ) (n : Option ℕ) → IsAlike (makes d n)
alike-makes d n v p k k' ds env hk = hk.0 (set_slot d n ds) env p (omega arith)

alike-is_refused : IsAlike is_refused
alike-is_refused v p k k' ds env hk = hk.1 ds env p (omega arith)

alike-told : (o : Option ℕ) (line : Text) → IsAlike (told o line)
alike-told None line = alike-is_refused
alike-told (Some n) line = alike-asks (Write n line) (1 + turns line) (λ a. is_refused) tt (λ a. alike-is_refused)

alike-tells : (operand what : Text) → IsAlike (tells operand what)
alike-tells operand what v p k k' ds env hk = alike-told (slot ds 2) (error_line (codes "sh") operand what) v p k k' ds env hk

alike-opened : (d : ℕ) (operand : Text) (n : ℕ) (o : Option Errno) → IsAlike (opened d operand n o)
alike-opened d operand n None = alike-makes d (Some n)
alike-opened d operand n (Some errno) = alike-tells operand (word errno)

alike-opens : (h : How) (d : ℕ) (operand : Text) → IsAlike (opens h d operand)
alike-opens h d operand v p k k' ds env hk =
    alike-asks (Open (absolute env.wd operand) h) 1 (λ a. opened d operand env.next (refusal a)) tt (λ a. alike-opened d operand env.next (refusal a)) v p k k' ds env hk

alike-copied : (d : ℕ) (operand : Text) (o : Option ℕ) → IsAlike (copied d operand o)
alike-copied d operand None = alike-tells operand (codes "bad descriptor")
alike-copied d operand (Some n) = alike-makes d (Some n)

alike-copies_digit : (d : ℕ) (operand : Text) (o : Option ℕ) → IsAlike (copies_digit d operand o)
alike-copies_digit d operand None v p k k' ds env hk = alike-tells operand (codes "not valid") v p k k' ds env hk
alike-copies_digit d operand (Some from) v p k k' ds env hk = alike-copied d operand (slot ds from) v p k k' ds env hk

alike-copies : (d : ℕ) (operand : Text) → IsAlike (copies d operand)
alike-copies d operand =
    alike-choice (same_text operand (codes "-")) (makes d None) (copies_digit d operand (digit operand)) (alike-makes d None) (alike-copies_digit d operand (digit operand))

alike-filled : (d : ℕ) (body : Text) (n : ℕ) → IsAlike (filled d body n)
alike-filled d body n =
    alike-choice (is_empty body) (makes d (Some n)) (asks (Write (number_after n) body) (1 + turns body) (λ a. makes d (Some n))) (alike-makes d (Some n))
    (alike-asks (Write (number_after n) body) (1 + turns body) (λ a. makes d (Some n)) tt (λ a. alike-makes d (Some n)))

alike-here : (d : ℕ) (body : Text) → IsAlike (here d body)
alike-here d body v p k k' ds env hk = alike-asks Pipe 1 (λ a. filled d body env.next) tt (λ a. alike-filled d body env.next) v p k k' ds env hk

pub alike-redirects : (r : Redirect) (d : ℕ) (operand : Text) → IsAlike (redirects r d operand)
alike-redirects kind.Reads d operand = alike-opens how.Read d operand
alike-redirects kind.Makes d operand = alike-opens how.Make d operand
alike-redirects kind.Appends d operand = alike-opens how.Append d operand
alike-redirects kind.Copies d operand = alike-copies d operand
alike-redirects kind.Here d operand = alike-here d operand
