use Rattle.sh_script.proofs.Whole.{too_long}
use Rattle.sh_parse.proofs.script.answer.Goals as goal

pub returns-then-text-gt-LONGEST : goal.returns-then-text-gt-LONGEST
returns-then-text-gt-LONGEST c = too_long c.args.text.now c.if-text-gt-LONGEST.true
