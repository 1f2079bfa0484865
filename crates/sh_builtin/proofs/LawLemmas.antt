-- Every builtin keeps what is alike after it.
use Rattle.std.proofs.Common.{ℕ, ◌+◌, ◌-◌, List, [], ◌∷◌, ◌++◌, codes, take, length, Bool, true, false, Option, Some, None, Result, Ok, Err, slice_get, IfSome, if◌then◌else◌, arith}
use Rattle.rk_base.specs.Canonical.{is_empty}
use Rattle.rk_base.specs.Errno.{word}
use Rattle.rk_base.specs.Text.{Text, same_text}
use Rattle.rk_base.specs.declared.errno.Errno.{Errno}
use Rattle.rk_calls.specs.declared.answer.Answer.{Answer}
use Rattle.rk_calls.specs.declared.answer.Answer.TheVariants as answer
use Rattle.rk_calls.specs.declared.call.Call.TheVariants.{Write, Stat, Walk}
use Rattle.rk_calls.specs.Brought.{brought}
use Rattle.rk_calls.specs.Lines.{error_line}
use Rattle.rk_calls.specs.Places.{absolute}
use Rattle.rk_calls.specs.Talk.{Says, exits}
use Rattle.rk_calls.specs.Turns.{turns}
use Rattle.rk_calls.specs.Views.{IsCommandTalk, alike-ask, alike-exits, alike-if}
use Rattle.sh_vars.specs.declared.env.Env.{Env}
use Rattle.sh_vars.specs.Held.{is_readonly}
use Rattle.sh_operands.specs.declared.format.Piece.{Piece}
use Rattle.sh_builtin.specs.declared.name.Name.{Name}
use Rattle.sh_builtin.specs.declared.name.Name.TheVariants.{Cd, Read, Echo, Printf, Pwd, Test, Bracket, True, False, Unknown}
use Rattle.sh_operands.specs.declared.verdict.Verdict.{Verdict}
use Rattle.sh_operands.specs.declared.verdict.Verdict.TheVariants.{Holds, Asks, Misused}
use Rattle.sh_builtin.specs.Laws.{IsAlike}
use Rattle.sh_builtin.proofs.AlikeLemmas.{lower, alike-ends, alike-choice, alike-write, alike-tells}
use Rattle.sh_builtin.specs.Builtins.{named_does, does}
use Rattle.sh_builtin.specs.Cds.{unless_readonly, with_value, pwd_name, moves, walked, walks, cds}
use Rattle.sh_builtin.specs.Commands.{says, own_env, builtin_command}
use Rattle.sh_builtin.specs.Action.{Ended, Action, heard, ends, asks}
use Rattle.sh_builtin.specs.Echoes.{echoed, pwds}
use Rattle.sh_operands.specs.Formats.{pieces}
use Rattle.sh_builtin.specs.Names.{name_of, is_builtin, text_of}
use Rattle.sh_builtin.specs.Options.{operands_of}
use Rattle.sh_operands.specs.Primaries.{follows}
use Rattle.sh_builtin.specs.Prints.{bad_line, tells_bad, status_of as failed, prints_pieces, prints}
use Rattle.sh_builtin.proofs.ReadLemmas.{alike-reads}
use Rattle.sh_builtin.specs.Telling.{complains, usage_line, written, puts}
use Rattle.sh_builtin.specs.Tests.{holds, status_of, inverted_if, judges, is_closing, tests, brackets}
use Rattle.sh_operands.specs.Passes.{prints_of}
use Rattle.sh_operands.specs.Verdicts.{decides}

alike-complains : (n : Name) (operand what : Text) (status : ℕ) → IsAlike (complains n operand what status)
alike-complains n operand what status = alike-tells (error_line (text_of n) operand what) status

-- Output.

alike-written : (n : Name) (status : ℕ) (r : Result Text Errno) → IsAlike (written n status r)
alike-written n status (Ok bytes) = alike-ends status
alike-written n status (Err errno) = alike-complains n (codes "output") (word errno) 1

alike-puts : (n : Name) (output : Text) (status : ℕ) → IsAlike (puts n output status)
alike-puts n output status =
    alike-choice (is_empty output) (ends status) (asks (Write 1 output) (1 + turns output) (λ a. written n status (brought a))) (alike-ends status)
    (λ v p. alike-write v p 1 output (1 + turns output) (λ a. written n status (brought a)) (λ a. written n status (brought a)) (λ a q le. alike-written n status (brought a) v q))

alike-pwds : (operands : List Text) → IsAlike (pwds operands)
alike-pwds [] v p slots k k' env hk = alike-puts Pwd (env.wd ++ 10 ∷ []) 0 v p slots k k' env hk
alike-pwds (x ∷ xs) v p slots k k' env hk = alike-tells (usage_line (codes "pwd")) 1 v p slots k k' env hk

-- `cd`.

alike-unless_readonly : (n : Name) (x : Text) (go : Action) → IsAlike go → IsAlike (unless_readonly n x go)
alike-unless_readonly n x go h v p slots k k' env hk =
    alike-if v p (is_readonly env.vars x) (complains n x (codes "readonly") 1 slots k env) (complains n x (codes "readonly") 1 slots k' env) (go slots k env) (go slots k' env)
    (alike-complains n x (codes "readonly") 1 v p slots k k' env hk)
    (h v p slots k k' env hk)

-- a call that names no descriptor
alike-walk : (path : Text) (next : Answer → Action) → ((a : Answer) → IsAlike (next a)) → IsAlike (asks (Walk path) 1 next)
alike-walk path next h v p slots k k' env hk =
    alike-ask v p (Walk path) 1 (λ a. next a slots k (heard a env)) (λ a. next a slots k' (heard a env)) tt
    (λ le a. h a v (p - 1) slots k k' (heard a env) (lower v p (p - 1) k k' (omega arith) hk))

alike-stat : (path : Text) (follow : Bool) (next : Answer → Action) → ((a : Answer) → IsAlike (next a)) → IsAlike (asks (Stat path follow) 1 next)
alike-stat path follow next h v p slots k k' env hk =
    alike-ask v p (Stat path follow) 1 (λ a. next a slots k (heard a env)) (λ a. next a slots k' (heard a env)) tt
    (λ le a. h a v (p - 1) slots k k' (heard a env) (lower v p (p - 1) k k' (omega arith) hk))

alike-moves : (place : Text) → IsAlike (moves place)
alike-moves place =
    let moved : Action = λ slots k env. ends 0 slots k (record (with_value pwd_name place env) { wd = place }) in
    alike-unless_readonly Cd pwd_name moved (λ v p slots k k' env hk. hk 0 (record (with_value pwd_name place env) { wd = place }) p (omega arith))

alike-walked : (operand : Text) (a : Answer) → IsAlike (walked operand a)
alike-walked operand answer.Go = alike-ends 0
alike-walked operand answer.Done = alike-ends 0
alike-walked operand answer.Opened = alike-ends 0
alike-walked operand answer.Piped = alike-ends 0
alike-walked operand (answer.Content bytes) = alike-ends 0
alike-walked operand (answer.Stat kind mode empty) = alike-ends 0
alike-walked operand (answer.Names names) = alike-ends 0
alike-walked operand (answer.Text text) = alike-ends 0
alike-walked operand (answer.Place place) = alike-moves place
alike-walked operand (answer.Same same) = alike-ends 0
alike-walked operand (answer.Joined status) = alike-ends 0
alike-walked operand (answer.No errno) = alike-complains Cd operand (word errno) 1

alike-walks : (operand : Text) → IsAlike (walks operand)
alike-walks operand =
    let looks : Action = λ slots k env. asks (Walk (absolute env.wd operand)) 1 (λ a. walked operand a) slots k env in
    alike-unless_readonly Cd pwd_name looks (λ v p slots k k' env hk. alike-walk (absolute env.wd operand) (λ a. walked operand a) (λ a. alike-walked operand a) v p slots k k' env hk)

alike-cds : (operands : List Text) → IsAlike (cds operands)
alike-cds [] = alike-tells (usage_line (codes "cd")) 1
alike-cds (x ∷ []) = alike-choice (same_text x (codes "-")) (complains Cd x (codes "usage") 1) (walks x) (alike-complains Cd x (codes "usage") 1) (alike-walks x)
alike-cds (x ∷ y ∷ ys) = alike-tells (usage_line (codes "cd")) 1

-- `test` and `[`.

alike-judges : (verdict : Verdict) → IsAlike (judges verdict)
alike-judges (Holds b) v p slots k k' env hk = alike-ends (status_of b) v p slots k k' env hk
alike-judges (Asks q operand negated) v p slots k k' env hk =
    alike-stat (absolute env.wd operand) (follows q) (λ a. ends (status_of (inverted_if negated (holds q a)))) (λ a. alike-ends (status_of (inverted_if negated (holds q a)))) v p slots k k' env hk
alike-judges (Misused w) v p slots k k' env hk = alike-complains Test w (codes "usage") 2 v p slots k k' env hk

alike-brackets : (operands : List Text) → IsAlike (brackets operands)
alike-brackets operands =
    alike-choice (is_closing (slice_get operands (length operands - 1))) (tests (take (length operands - 1) operands)) (complains Test (codes "]") (codes "usage") 2) (alike-judges (decides (take (length operands - 1) operands)))
    (alike-complains Test (codes "]") (codes "usage") 2)

-- `printf`.

alike-tells_bad : (words : List Text) (output : Text) (status : ℕ) → IsAlike (tells_bad words output status)
alike-tells_bad [] output status v p slots k k' env hk = alike-puts Printf output status v p slots k k' env hk
alike-tells_bad (w ∷ ws) output status v p slots k k' env hk =
    alike-write v p 2 (bad_line w) (1 + turns (bad_line w)) (λ a. tells_bad ws output status) (λ a. tells_bad ws output status) (λ a q le. alike-tells_bad ws output status v q) slots k k' env hk

alike-prints_pieces : (format : Text) (ps : Option (List Piece)) (operands : List Text) → IsAlike (prints_pieces format ps operands)
alike-prints_pieces format None operands v p slots k k' env hk = alike-complains Printf format (codes "not valid") 1 v p slots k k' env hk
alike-prints_pieces format (Some ps) operands v p slots k k' env hk =
    alike-tells_bad (prints_of ps operands).bad (prints_of ps operands).output (failed (prints_of ps operands).bad) v p slots k k' env hk

alike-prints : (operands : List Text) → IsAlike (prints operands)
alike-prints [] v p slots k k' env hk = alike-tells (usage_line (codes "printf")) 1 v p slots k k' env hk
alike-prints (format ∷ operands) v p slots k k' env hk = alike-prints_pieces format (pieces format) operands v p slots k k' env hk

-- All of them.

alike-named : (n : Name) (w : Text) (operands : List Text) → IsAlike (named_does n w operands)
alike-named Cd w words = alike-cds (operands_of words)
alike-named Read w operands = alike-reads operands
alike-named Echo w operands = alike-puts Echo (echoed operands) 0
alike-named Printf w operands = alike-prints operands
alike-named Pwd w words = alike-pwds (operands_of words)
alike-named Test w operands = alike-judges (decides operands)
alike-named Bracket w operands = alike-brackets operands
alike-named True w operands = alike-ends 0
alike-named False w operands = alike-ends 1
alike-named Unknown w operands = alike-complains Unknown w (codes "not found") 127

pub alike-does : (words : List Text) → IsAlike (does words)
alike-does [] = alike-ends 0
alike-does (w ∷ operands) = alike-named (name_of w) w operands

-- As a command by itself, fewer turns only cut what it says, and its calls are proper.
pub talk-says : (words : List Text) (env : Env) → IsCommandTalk (says words env)
talk-says words env v p =
    let over : Ended = λ status env. exits status 0 in alike-does words v p (λ d. Some d) over over env (λ status env q le. alike-exits v q status 0)

if_builtin : (b : Bool) (x : Says) → IsCommandTalk x → IfSome (if b then Some x else None) IsCommandTalk
if_builtin true x h = h
if_builtin false x h = tt

-- The same of what it says where it is launched by its name.
pub talk-builtin_command : (wd : Text) (argv : List Text) → IfSome (builtin_command wd argv) IsCommandTalk
talk-builtin_command wd [] = tt
talk-builtin_command wd (name ∷ words) =
    if_builtin (is_builtin name) (says (name ∷ words) (own_env wd name)) (talk-says (name ∷ words) (own_env wd name))
