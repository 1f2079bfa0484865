-- From what is read to what is answered.
use Rattle.std.proofs.Common.{◌≡◌, ◌≤◌, ℕ, List, true, false, subst, length}
use Rattle.std.specs.Prelude.{Result, Ok, Err}
use Rattle.sh_rules.specs.Grammar.{Halt, Blocked, Over}
use Rattle.sh_rules.specs.Rules.{Token}
use Rattle.sh_ast.specs.Commands as c
use Rattle.sh_ast.specs.Commands.{CommandsTree}
use Rattle.sh_grammar.specs.Marks.{Mark}
use Rattle.sh_token.specs.Places.{Place, begin}
use Rattle.sh_token.specs.declared.fault.ScriptFault.{ScriptFault}
use Rattle.sh_token.specs.Faults.{told, fault_of}
use Rattle.sh_token.proofs.Modes.{modes_agree}
use Rattle.sh_script.specs.Folds.{script_marked}
use Rattle.sh_script.specs.Outcomes.{IsRead, IsStuck}
use Rattle.sh_script.specs.Scripts.{longest, IsScript, IsFaulty}
use Rattle.sh_script.proofs.Whole.{Agrees, one_script, one_fault, not_both, script_read, fault_read}
use Rattle.sh_parse.specs.Turns.{StopsBy}
use Rattle.sh_parse.specs.Answering.{Tells, IsAnswer, IsOnlyScript, IsOnlyFault}
use Rattle.sh_parse.specs.declared.source.ParseErr.{ParseErr}
use Rattle.sh_parse.specs.declared.source.ParseErr.TheVariants as stop
use Rattle.sh_parse.specs.declared.script.Script.{Script}
use Rattle.sh_parse.specs.declared.script.ReadErr.{ReadErr}
use Rattle.sh_parse.specs.declared.script.ReadErr.TheVariants as e

-- by what was answered
pub only_script : Agrees → (text : List ℕ) (s : CommandsTree) (r : Result Script ReadErr) → IsScript text s → IsAnswer text r → IsOnlyScript s r
only_script agree text s (Ok x) h a = one_script agree text (c.commands x.commands.value) s a h
only_script agree text s (Err (e.Fault f)) h a = not_both agree text s f h a
only_script agree text s (Err e.NoMemory) h a = tt

pub only_fault : Agrees → (text : List ℕ) (f : ScriptFault) (r : Result Script ReadErr) → IsFaulty text f → IsAnswer text r → IsOnlyFault f r
only_fault agree text f (Ok x) h a = not_both agree text (c.commands x.commands.value) f a h
only_fault agree text f (Err (e.Fault g)) h a = one_fault agree text g f a h
only_fault agree text f (Err e.NoMemory) h a = tt

pub told_fault : Agrees → (text : List ℕ) (m : Place) (h : Halt Token) (r : ReadErr) → length text ≤ longest → IsStuck (begin text) m h → Tells (fault_of m h) r → IsAnswer text (Err r)
told_fault agree text m h (e.Fault f) l s t = fault_read agree text m h f l s t
told_fault agree text m h e.NoMemory l s t = tt

-- THE LEXER AGREES, so nothing is left to ask
pub script_answer : (text : List ℕ) (a q : Place) (marks : List Mark) (s : CommandsTree) → a ≡ begin text → length text ≤ longest → IsRead a q marks → s ≡ script_marked marks → IsScript text s
script_answer text a q marks s b l r e = script_read modes_agree text q marks s l (subst (λ a. IsRead a q marks) b r) e

pub blocked_answer : (text : List ℕ) (a m : Place) (s : ParseErr) (r : ReadErr) → a ≡ begin text → length text ≤ longest → StopsBy a m s → s ≡ stop.Blocked → Tells (told false m) r → IsAnswer text (Err r)
blocked_answer text a m s r b l h e t =
    let k : IsStuck a m Blocked = subst (λ s. StopsBy a m s) e h in
    told_fault modes_agree text m Blocked r l (subst (λ a. IsStuck a m Blocked) b k) t

pub deep_answer : (text : List ℕ) (a m : Place) (s : ParseErr) (r : ReadErr) → a ≡ begin text → length text ≤ longest → StopsBy a m s → s ≡ stop.Deep → Tells (told true m) r → IsAnswer text (Err r)
deep_answer text a m s r b l h e t =
    let k : (x : Token) × IsStuck a m (Over x) = subst (λ s. StopsBy a m s) e h in
    told_fault modes_agree text m (Over k.0) r l (subst (λ a. IsStuck a m (Over k.0)) b k.1) t

pub the_only_script : (text : List ℕ) (s : CommandsTree) (r : Result Script ReadErr) → IsScript text s → IsAnswer text r → IsOnlyScript s r
the_only_script text s r h a = only_script modes_agree text s r h a

pub the_only_fault : (text : List ℕ) (f : ScriptFault) (r : Result Script ReadErr) → IsFaulty text f → IsAnswer text r → IsOnlyFault f r
the_only_fault text f r h a = only_fault modes_agree text f r h a
