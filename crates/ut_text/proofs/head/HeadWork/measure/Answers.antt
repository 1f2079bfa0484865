use Rattle.std.proofs.Common.{◌≡◌, [], length, sym, ◌∙◌, arith}
use Rattle.ut_text.specs.Heads.{parts}
use Rattle.ut_text.proofs.HeadLemmas.{length_parts}
use Rattle.ut_text.proofs.head.HeadWork.measure.Goals as goal

pub returns-then-length-gt-HELD : goal.returns-then-length-gt-HELD
returns-then-length-gt-HELD c =
    let long : c.in_ok-length.length ≡ length (parts c.args.self.now [] c.args.inputs.now) = c.in_ok-length.ensures ∙ sym (length_parts c.args.self.now [] c.args.inputs.now) in
    (long, omega arith)
