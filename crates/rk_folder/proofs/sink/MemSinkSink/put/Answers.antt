use Rattle.std.proofs.Common.{arith}
use Rattle.std.proofs.lemmas.Grind.{common_steps}
use Rattle.rk_folder.proofs.sink.MemSinkSink.put.Goals as goal

pub returns-else-is_err-2-clause-put : goal.returns-else-is_err-2-clause-put
returns-else-is_err-2-clause-put c = (c.in-Some.it.now.1, grind (arith, common_steps))
