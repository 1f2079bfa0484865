use Rattle.rk_base.specs.Text.{root}
use Rattle.rk_folder.specs.Hidden.{hidden_dir}
use Rattle.rk_folder.specs.Looks.{lists}
use Rattle.rk_folder.proofs.ImportLemmas.{told-has_database_now}
use Rattle.rk_folder.proofs.CallsLemmas.{lists-at, makes-first, makes-then}
use Rattle.rk_folder.proofs.state_files.has_database.Goals as goal

pub returns-in_err-items-clause-calls : goal.returns-in_err-items-clause-calls
returns-in_err-items-clause-calls g c = makes-first (lists root) (lists hidden_dir) _ _ (lists-at _ root _ _ c.in_ok-root.ensures c.list-2.ensures.calls)

pub returns-clause-calls : goal.returns-clause-calls
returns-clause-calls g c = makes-then (lists root) (lists hidden_dir) _ _ _ (lists-at _ root _ _ c.in_ok-root.ensures c.list-2.ensures.calls) c.look_at_hidden.ensures.calls

pub returns-in_err-listed-clause-calls : goal.returns-in_err-listed-clause-calls
returns-in_err-listed-clause-calls g c = makes-then (lists root) (lists hidden_dir) _ _ _ (lists-at _ root _ _ c.in_ok-root.ensures c.list-2.ensures.calls) c.look_at_hidden.ensures.calls

pub returns-clause-told : goal.returns-clause-told
returns-clause-told g c = told-has_database_now _ _ c.in_ok-listed.listed c.has_db.result (g.met.F.Folder.whole c.args.folder.now) c.in_ok-items.ensures.held c.in_ok-listed.ensures.look c.has_db.ensures
