use Rattle.std.proofs.Common.{arith}
use Rattle.rk_walk.proofs.PartLemmas.{is_first}
use Rattle.rk_walk.proofs.text.first_part.Goals as goal

pub returns-else-is_empty : goal.returns-else-is_empty
returns-else-is_empty c = is_first c.args.text.now c.skip_slashes.result.now _ _ c.skip_slashes.ensures.parts c.skip_slashes.ensures.shorter c.split_name.ensures.whole c.split_name.ensures.name c.split_name.ensures.rest (grind (arith, c.if-is_empty.ensures))
