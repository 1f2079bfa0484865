use Rattle.std.proofs.Common.{refl}
use Rattle.rk_top.proofs.RecoverLemmas.{none-looked, not-of-folder, of-folder}
use Rattle.rk_top.proofs.recovering.finish.Goals as goal

pub returns-then-not-is_of_folder-clause-told : goal.returns-then-not-is_of_folder-clause-told
returns-then-not-is_of_folder-clause-told g c = λ on. not-of-folder c.is_of_folder.result c.args.request.now c.is_of_folder.ensures c.if-not-is_of_folder.true on

pub returns-then-not-is_of_folder-clause-apart : goal.returns-then-not-is_of_folder-clause-apart
returns-then-not-is_of_folder-clause-apart g c = λ off. (refl, refl, refl)

pub returns-then-not-is_of_folder-clause-looks : goal.returns-then-not-is_of_folder-clause-looks
returns-then-not-is_of_folder-clause-looks g c = none-looked _ _

pub returns-in-Ok-clause-told : goal.returns-in-Ok-clause-told
returns-in-Ok-clause-told g c = λ on. c.in-Ok.ensures.told

pub returns-in-Ok-clause-apart : goal.returns-in-Ok-clause-apart
returns-in-Ok-clause-apart g c = of-folder c.is_of_folder.result c.args.request.now c.is_of_folder.ensures c.if-not-is_of_folder.false

pub returns-in-Err-clause-told : goal.returns-in-Err-clause-told
returns-in-Err-clause-told g c = λ on. c.in-Err.ensures.told

pub returns-in-Err-clause-apart : goal.returns-in-Err-clause-apart
returns-in-Err-clause-apart g c = of-folder c.is_of_folder.result c.args.request.now c.is_of_folder.ensures c.if-not-is_of_folder.false
