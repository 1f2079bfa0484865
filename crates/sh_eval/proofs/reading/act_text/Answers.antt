use Rattle.std.proofs.Common.{refl, ap, sym, ◌∙◌, arith}
use Rattle.sh_ast.specs.Commands as tree
use Rattle.sh_script.specs.Reads.{reads}
use Rattle.rk_calls.specs.Lines.{error_line}
use Rattle.sh_parse.specs.Readings.{reading_of}
use Rattle.sh_means.specs.declared.flow.Flow.TheVariants.{Exits}
use Rattle.sh_means.specs.Flows.{tells, sh, ends}
use Rattle.sh_means.specs.Run.{run}
use Rattle.sh_means.specs.Simple.{Reads}
use Rattle.sh_means.specs.Views.{shell_of}
use Rattle.sh_means.proofs.Calling.{text_run, text_faulty, told_words}
use Rattle.sh_eval.proofs.Turning.{said_so}
use Rattle.sh_means.proofs.Weighing.{sinks_more}
use Rattle.sh_eval.proofs.reading.act_text.Goals as goal

pub returns-in-Script-clause-talk : goal.returns-in-Script-clause-talk
returns-in-Script-clause-talk c =
    λ k p. text_run (reads c.args.text.now) (tree.commands c.in-Script.commands.value) c.args.name.now c.args.text.now c.args.place k (shell_of c.args.state.now) p (ap reading_of (sym c.in-Script.is) ∙ c.in_ok-read.ensures ∙ ap reads c.as_slice.ensures) refl ∙ c.free.ensures.talk k (shell_of c.args.state.now) p

pub returns-in-Fault-clause-talk : goal.returns-in-Fault-clause-talk
returns-in-Fault-clause-talk c =
    let e = shell_of c.args.state.now in
    said_so c.refuse.result (λ k. run (Reads c.args.name.now c.args.text.now) c.args.place e k) (λ k. tells (error_line sh c.as_slice-operand.result.now c.as_slice-what.result.now) (ends Exits 2 k) e) (shell_of c.refuse.new.state)
    (λ k p. text_faulty (reads c.args.text.now) c.in-Fault.words c.args.name.now c.args.text.now c.args.place k e p (ap reading_of (sym c.in-Fault.is) ∙ c.in_ok-read.ensures ∙ ap reads c.as_slice.ensures) refl
    ∙ told_words c.args.name.now c.as_slice-operand.result.now c.in-Fault.words c.as_slice-what.result.now k e p c.as_slice-operand.ensures c.as_slice-what.ensures)
    c.refuse.ensures.talk

pub returns-in-Fault-clause-costly : goal.returns-in-Fault-clause-costly
returns-in-Fault-clause-costly c = sinks_more c.refuse.result 1 2 c.refuse.ensures.costly (omega arith)

pub returns-in-Script-clause-costly : goal.returns-in-Script-clause-costly
returns-in-Script-clause-costly c = λ m n le. c.free.ensures.costly m n (omega arith)
