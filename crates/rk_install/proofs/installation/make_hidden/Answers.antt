use Rattle.rk_install.proofs.AskedLemmas.{hidden-asked, hidden-unasked}
use Rattle.rk_install.proofs.InstallLemmas.{told-may_root, told-rooted_not}
use Rattle.rk_install.proofs.installation.make_hidden.Goals as goal

pub returns-then-not-has_hidden-clause-held : goal.returns-then-not-has_hidden-clause-held
returns-then-not-has_hidden-clause-held g c = told-rooted_not _ c.args.ops.now c.has_hidden.result c.has_hidden.ensures c.if-not-has_hidden.true

pub call-requires : goal.call-requires
call-requires g c = told-may_root _ c.args.ops.now c.args.around.now.making c.has_hidden.result c.requires.may c.has_hidden.ensures c.if-not-has_hidden.false c.requires.around.making

pub returns-then-not-has_hidden-clause-calls : goal.returns-then-not-has_hidden-clause-calls
returns-then-not-has_hidden-clause-calls g c = hidden-unasked c.args.ops.now c.has_hidden.result _ c.has_hidden.ensures c.if-not-has_hidden.true

pub returns-clause-calls : goal.returns-clause-calls
returns-clause-calls g c = hidden-asked c.args.ops.now c.args.around.now.making c.has_hidden.result _ _ c.call.result c.has_hidden.ensures c.if-not-has_hidden.false c.requires.around.making c.call.ensures.calls
