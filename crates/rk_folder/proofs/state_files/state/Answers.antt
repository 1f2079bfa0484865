use Rattle.rk_base.specs.Text.{root}
use Rattle.rk_folder.specs.Hidden.{hidden_dir}
use Rattle.rk_folder.specs.Looks.{lists, state_listings, state_reads}
use Rattle.std.specs.Prelude.{false}
use Rattle.rk_folder.proofs.CallsLemmas.{lists-at, makes-first, makes-then}
use Rattle.rk_folder.proofs.state_files.state.Goals as goal

pub returns-in_err-items-clause-calls : goal.returns-in_err-items-clause-calls
returns-in_err-items-clause-calls g c = makes-first state_listings (state_reads false) _ _ (makes-first (lists root) (lists hidden_dir) _ _ (lists-at _ root _ _ c.in_ok-root.ensures c.list-2.ensures.calls))

pub returns-in_err-listed-clause-calls : goal.returns-in_err-listed-clause-calls
returns-in_err-listed-clause-calls g c = makes-first state_listings (state_reads false) _ _ (makes-then (lists root) (lists hidden_dir) _ _ _ (lists-at _ root _ _ c.in_ok-root.ensures c.list-2.ensures.calls) c.look_at_hidden.ensures.calls)

pub returns-clause-calls : goal.returns-clause-calls
returns-clause-calls g c = makes-then state_listings (state_reads false) _ _ _ (makes-then (lists root) (lists hidden_dir) _ _ _ (lists-at _ root _ _ c.in_ok-root.ensures c.list-2.ensures.calls) c.look_at_hidden.ensures.calls) c.state_listed.ensures.calls
