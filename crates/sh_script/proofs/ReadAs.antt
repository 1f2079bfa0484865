-- What a text reads as is the script that it is, or the words of its fault.
use Rattle.std.proofs.Common.{◌≡◌, ap, sym, ◌∙◌}
use Rattle.rk_base.specs.Text.{Text}
use Rattle.sh_ast.specs.Commands.{CommandsTree}
use Rattle.sh_token.specs.declared.fault.ScriptFault.{ScriptFault}
use Rattle.sh_script.specs.Scripts.{IsScript, IsFaulty}
use Rattle.sh_script.specs.Reads.{Reading, Script, Faulty, fault_words, reads}
use Rattle.sh_script.proofs.Whole.{ReadsSo, reads_so_there, one_script_there, one_fault_there, not_both_there}

as_script : (text : Text) (s : CommandsTree) (r : Reading) → ReadsSo text r → IsScript text s → Script s ≡ r
unfolding ReadsSo
as_script text s (Script t) so is = ap Script (one_script_there text s t is so)
as_script text s (Faulty words) so is = absurd (not_both_there text s so.0 is so.1)

as_fault : (text : Text) (f : ScriptFault) (r : Reading) → ReadsSo text r → IsFaulty text f → Faulty (fault_words text f) ≡ r
unfolding ReadsSo
as_fault text f (Script s) so is = absurd (not_both_there text s f so is)
as_fault text f (Faulty words) so is = ap (λ (g : ScriptFault). Faulty (fault_words text g)) (one_fault_there text f so.0 is so.1) ∙ ap Faulty (sym so.2)

-- a script that the text is
pub script_read : (text : Text) (s : CommandsTree) → IsScript text s → Script s ≡ reads text
script_read text s is = as_script text s (reads text) (reads_so_there text) is

-- the words of its fault
pub fault_read : (text : Text) (f : ScriptFault) → IsFaulty text f → Faulty (fault_words text f) ≡ reads text
fault_read text f is = as_fault text f (reads text) (reads_so_there text) is
