use Rattle.rk_build.proofs.TextsLemmas.{put-line}
use Rattle.rk_build.proofs.lines.put_line.Goals as goal

pub returns-clause-puts : goal.returns-clause-puts
returns-clause-puts g c = put-line _ _ _ _ c.put.ensures.put c.put.ensures.cause c.put.ensures.memory
