use Rattle.rk_build.proofs.TextsLemmas.{put-first, put-last}
use Rattle.rk_build.proofs.texts.put_texts.Goals as goal

pub returns-clause-output : goal.returns-clause-output
returns-clause-output g c = put-first _ _ _ _ _ _ _ c.put-2.ensures.put c.in_ok-put.ensures.put

pub returns-clause-errors : goal.returns-clause-errors
returns-clause-errors g c = put-last _ _ _ _ c.put-2.ensures.put
