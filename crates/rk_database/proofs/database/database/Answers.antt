use Rattle.std.proofs.Common.{Bool, Option}
use Rattle.std.proofs.lemmas.Result.{err_from_is_err_and}
use Rattle.rk_base.specs.Text.{Text}
use Rattle.rk_folder.specs.Hidden.{db_file}
use Rattle.rk_folder.specs.Looks.{reads, state_listings}
use Rattle.rk_folder.proofs.CallsLemmas.{makes-first, makes-then}
use Rattle.rk_database.proofs.AnswerLemmas.{stands-none, stands-stops}
use Rattle.rk_database.proofs.CallLemmas.{no-fault-again, reads-again}
use Rattle.rk_database.proofs.database.database.Goals as goal

pub returns-in_err-stands-clause-finds : goal.returns-in_err-stands-clause-finds
returns-in_err-stands-clause-finds g c =
    let p = err_from_is_err_and c.from_residual.result c.from_residual.ensures.1 in
    rw (p.1, p.2) (stands-stops (g.F.Folder.told c.args.folder.now) _ c.in_err-stands.ensures.stands)

pub returns-in_err-stands-clause-reads : goal.returns-in_err-stands-clause-reads
returns-in_err-stands-clause-reads g c =
    let p = err_from_is_err_and c.from_residual.result c.from_residual.ensures.1 in
    rw (p.1, p.2) (reads-again Bool (Option Text) _ _ _ c.in_err-stands.ensures.reads)

pub returns-in_err-stands-clause-no_fault : goal.returns-in_err-stands-clause-no_fault
returns-in_err-stands-clause-no_fault g c = λ steady.
    let p = err_from_is_err_and c.from_residual.result c.from_residual.ensures.1 in
    rw (p.1, p.2) (no-fault-again Bool (Option Text) _ (c.in_err-stands.ensures.no_fault steady))

pub returns-in_err-stands-clause-calls : goal.returns-in_err-stands-clause-calls
returns-in_err-stands-clause-calls g c = makes-first state_listings (reads db_file) _ _ c.in_err-stands.ensures.calls

pub returns-then-not-stands-clause-finds : goal.returns-then-not-stands-clause-finds
returns-then-not-stands-clause-finds g c = stands-none (g.F.Folder.told c.args.folder.now) _ c.if-not-stands.true c.in_ok-stands.ensures.stands

pub returns-then-not-stands-clause-calls : goal.returns-then-not-stands-clause-calls
returns-then-not-stands-clause-calls g c = makes-first state_listings (reads db_file) _ _ c.in_ok-stands.ensures.calls

pub returns-in_err-db-clause-calls : goal.returns-in_err-db-clause-calls
returns-in_err-db-clause-calls g c = makes-then state_listings (reads db_file) _ _ _ c.in_ok-stands.ensures.calls c.in_err-db.ensures.calls

pub returns-clause-calls : goal.returns-clause-calls
returns-clause-calls g c = makes-then state_listings (reads db_file) _ _ _ c.in_ok-stands.ensures.calls c.in_ok-db.ensures.calls
