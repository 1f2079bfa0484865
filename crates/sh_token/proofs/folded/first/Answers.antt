use Rattle.sh_token.proofs.Folding.{first_byte, no_first_byte}
use Rattle.sh_token.proofs.folded.first.Goals as goal

pub returns-in-empty : goal.returns-in-empty
returns-in-empty c = no_first_byte c.args.text.now c.past_joins.result.now c.past_joins.ensures.rest c.past_joins.ensures.none c.in-empty.len_below

pub returns-in-len1-up : goal.returns-in-len1-up
returns-in-len1-up c = first_byte c.args.text.now c.past_joins.result.now c.past_joins.ensures.rest c.past_joins.ensures.none
