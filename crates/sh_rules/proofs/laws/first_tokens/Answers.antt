use Rattle.std.proofs.Common.{refl}
use Rattle.sh_rules.proofs.FirstTokens.{emptied, begins_so, so_begins, so_empty, so_chosen}
use Rattle.sh_rules.proofs.laws.first_tokens.Goals as goal

pub returns-clause-begins : goal.returns-clause-begins
returns-clause-begins c = λ it kind. (begins_so it kind, so_begins it kind)

pub returns-clause-empty : goal.returns-clause-empty
returns-clause-empty c = λ it. (emptied it, so_empty it)

pub returns-clause-chosen : goal.returns-clause-chosen
returns-clause-chosen c = λ rule trees token more h e. so_chosen rule token.kind (trees, token, more, h, e, refl)
