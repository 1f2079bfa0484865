use Rattle.sh_means.specs.Stack.{context}
use Rattle.sh_means.proofs.Undone.{map_kept}
use Rattle.sh_means.proofs.Weighing.{one_more}
use Rattle.sh_words.proofs.making.put_map_back_later.Goals as goal

pub returns-in-None-clause-talk : goal.returns-in-None-clause-talk
returns-in-None-clause-talk c = map_kept c.args.redirects.value c.deref.result.now c.args.before.value (context c.args.stack.now.items) c.deref.ensures c.in-None.ensures

pub returns-in-Some-clause-weight : goal.returns-in-Some-clause-weight
returns-in-Some-clause-weight c = one_more c.put_undo.result _ _ c.put_undo.ensures.weight
