use Rattle.sh_token.specs.Folded.{folded}
use Rattle.sh_token.proofs.FirstBytes.{none_closes}
use Rattle.sh_token.proofs.reserved.closer.Goals as goal

pub returns-else-may_close : goal.returns-else-may_close
returns-else-may_close c = none_closes (folded c.args.text.now) c.first.result c.may_close.result c.first.ensures c.may_close.ensures c.if-may_close.false
