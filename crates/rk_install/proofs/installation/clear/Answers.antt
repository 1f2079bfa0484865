use Rattle.rk_install.proofs.AskedLemmas.{clear-asked, clear-unasked, told-cleared, told-cleared_not, told-may_clear}
use Rattle.rk_install.proofs.installation.clear.Goals as goal

pub returns-then-not-fresh_list-clause-held : goal.returns-then-not-fresh_list-clause-held
returns-then-not-fresh_list-clause-held g c = told-cleared_not _ c.args.fresh_list c.if-not-fresh_list.true

pub returns-then-not-fresh_list-clause-calls : goal.returns-then-not-fresh_list-clause-calls
returns-then-not-fresh_list-clause-calls g c = clear-unasked c.args.fresh_list _ c.if-not-fresh_list.true

pub call-requires : goal.call-requires
call-requires g c = told-may_clear _ c.args.fresh_list c.in_ok-path.path c.requires c.if-not-fresh_list.false c.in_ok-path.ensures

pub returns-clause-held : goal.returns-clause-held
returns-clause-held g c = told-cleared _ _ c.args.fresh_list c.in_ok-path.path c.call.result c.if-not-fresh_list.false c.in_ok-path.ensures c.call.ensures.held

pub returns-clause-calls : goal.returns-clause-calls
returns-clause-calls g c = clear-asked c.args.fresh_list c.in_ok-path.path _ _ c.call.result c.if-not-fresh_list.false c.in_ok-path.ensures c.call.ensures.calls
