use Rattle.std.proofs.Common.{◌∙◌}
use Rattle.sh_token.proofs.Folding.{none_read}
use Rattle.sh_token.proofs.folded.is_read_out.Goals as goal

pub returns : goal.returns
returns c = c.is_empty.ensures ∙ none_read c.args.text.now c.past_joins.result.now c.past_joins.ensures.rest c.past_joins.ensures.none
