use Rattle.sh_token.specs.Folded.{folded}
use Rattle.sh_token.proofs.FirstBytes.{none_opens}
use Rattle.sh_token.proofs.reserved.opener.Goals as goal

pub returns-else-may_open : goal.returns-else-may_open
returns-else-may_open c = none_opens (folded c.args.text.now) c.first.result c.may_open.result c.first.ensures c.may_open.ensures c.if-may_open.false
