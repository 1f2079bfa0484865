use Rattle.std.proofs.Common.{◌∙◌, ap, subst}
use Rattle.sh_ast.specs.Commands.{commands}
use Rattle.sh_parse.specs.declared.script.ReadErr.{ReadErr}
use Rattle.sh_parse.specs.Answering.{IsFaultTold}
use Rattle.sh_script.specs.Reads.{Faulty}
use Rattle.sh_script.proofs.ReadAs.{script_read, fault_read}
use Rattle.sh_parse.proofs.reader.read_text.Goals as goal

pub returns-in-Ok : goal.returns-in-Ok
returns-in-Ok c = script_read c.args.text.now (commands c.in-Ok.script.commands.value) c.in-Ok.ensures.script

pub returns-in_ok-words-in-Err-Fault : goal.returns-in_ok-words-in-Err-Fault
returns-in_ok-words-in-Err-Fault c =
    ap Faulty c.in_ok-words-in-Err-Fault.ensures
    ∙ fault_read c.args.text.now c.in-Err-Fault.fault (subst (λ (e : ReadErr). IsFaultTold c.args.text.now e) c.in-Err-Fault.field-0-is c.in-Err-Fault.ensures.fault)
