use Rattle.std.proofs.Common.{Bool, inl, refl, ◌∙◌}
use Rattle.std.proofs.lemmas.Result.{err_from_is_err_and}
use Rattle.rk_folder.specs.Hidden.{db_file}
use Rattle.rk_folder.specs.Looks.{removes, state_listings}
use Rattle.rk_folder.proofs.CallsLemmas.{makes-first, makes-one, makes-then, removes-at}
use Rattle.rk_database.specs.declared.stop.Said.{Said}
use Rattle.rk_database.proofs.AnswerLemmas.{finds-forgets, forgets-none, says-none, stands-none, stands-some, stands-stops}
use Rattle.rk_database.proofs.CallLemmas.{forgets-done, no-fault-again, reads-again, removable-now, removal-counted, removal-steady, said-counted, unread, unremoved, unsaid}
use Rattle.rk_database.proofs.forgetting.forget.Goals as goal

pub returns-in_err-stands-clause-folder : goal.returns-in_err-stands-clause-folder
returns-in_err-stands-clause-folder g c =
    let p = err_from_is_err_and c.from_residual.result c.from_residual.ensures.1 in
    rw (p.1, p.2) (finds-forgets (g.F.Folder.told c.args.folder.now) _ _ (stands-stops (g.F.Folder.told c.args.folder.now) _ c.in_err-stands.ensures.stands) c.in_err-stands.ensures.held)

pub returns-in_err-stands-clause-output : goal.returns-in_err-stands-clause-output
returns-in_err-stands-clause-output g c =
    let p = err_from_is_err_and c.from_residual.result c.from_residual.ensures.1 in
    rw (p.1, p.2) (unsaid (g.F.Folder.told c.args.folder.now) _ _ (stands-stops (g.F.Folder.told c.args.folder.now) _ c.in_err-stands.ensures.stands))

pub returns-in_err-stands-clause-reads : goal.returns-in_err-stands-clause-reads
returns-in_err-stands-clause-reads g c =
    let p = err_from_is_err_and c.from_residual.result c.from_residual.ensures.1 in
    rw (p.1, p.2) (reads-again Bool Said _ _ _ c.in_err-stands.ensures.reads)

pub returns-in_err-stands-clause-writes : goal.returns-in_err-stands-clause-writes
returns-in_err-stands-clause-writes g c =
    let p = err_from_is_err_and c.from_residual.result c.from_residual.ensures.1 in
    rw (p.1, p.2) (unremoved (g.F.Folder.told c.args.folder.now) _ _ _ _ (stands-stops (g.F.Folder.told c.args.folder.now) _ c.in_err-stands.ensures.stands) c.in_err-stands.ensures.writes)

pub returns-in_err-stands-clause-steady : goal.returns-in_err-stands-clause-steady
returns-in_err-stands-clause-steady g c = λ folder out.
    let p = err_from_is_err_and c.from_residual.result c.from_residual.ensures.1 in
    rw (p.1, p.2) (no-fault-again Bool Said _ (c.in_err-stands.ensures.no_fault folder))

pub returns-then-not-stands-clause-folder : goal.returns-then-not-stands-clause-folder
returns-then-not-stands-clause-folder g c = forgets-none (g.F.Folder.told c.args.folder.now) _ _ _ c.say_none.result (stands-none (g.F.Folder.told c.args.folder.now) _ c.if-not-stands.true c.in_ok-stands.ensures.stands) c.say_none.ensures.puts c.in_ok-stands.ensures.held

pub returns-then-not-stands-clause-output : goal.returns-then-not-stands-clause-output
returns-then-not-stands-clause-output g c = says-none (g.F.Folder.told c.args.folder.now) _ _ c.say_none.result (stands-none (g.F.Folder.told c.args.folder.now) _ c.if-not-stands.true c.in_ok-stands.ensures.stands) c.say_none.ensures.puts

pub returns-then-not-stands-clause-reads : goal.returns-then-not-stands-clause-reads
returns-then-not-stands-clause-reads g c = unread _ _ _ _ c.say_none.result c.say_none.ensures.puts c.in_ok-stands.ensures.reads

pub returns-then-not-stands-clause-writes : goal.returns-then-not-stands-clause-writes
returns-then-not-stands-clause-writes g c = said-counted _ _ _ _ c.say_none.result c.in_ok-stands.ensures.writes c.say_none.ensures.count

pub returns-in_err-file-clause-folder : goal.returns-in_err-file-clause-folder
returns-in_err-file-clause-folder g c =
    let p = err_from_is_err_and c.from_residual-in_err-file.result c.from_residual-in_err-file.ensures.1 in
    rw (p.1, p.2) c.in_ok-stands.ensures.held

pub returns-in_err-file-clause-output : goal.returns-in_err-file-clause-output
returns-in_err-file-clause-output g c =
    let p = err_from_is_err_and c.from_residual-in_err-file.result c.from_residual-in_err-file.ensures.1 in
    rw (p.1, p.2) (inl refl)

pub returns-in_err-file-clause-reads : goal.returns-in_err-file-clause-reads
returns-in_err-file-clause-reads g c =
    let p = err_from_is_err_and c.from_residual-in_err-file.result c.from_residual-in_err-file.ensures.1 in
    rw (p.1, p.2) c.in_ok-stands.ensures.reads

pub returns-in_err-file-clause-writes : goal.returns-in_err-file-clause-writes
returns-in_err-file-clause-writes g c =
    let p = err_from_is_err_and c.from_residual-in_err-file.result c.from_residual-in_err-file.ensures.1 in
    rw (p.1, p.2) (c.in_ok-stands.ensures.writes, refl)

pub returns-in_err-file-clause-steady : goal.returns-in_err-file-clause-steady
returns-in_err-file-clause-steady g c = λ folder out.
    let p = err_from_is_err_and c.from_residual-in_err-file.result c.from_residual-in_err-file.ensures.1 in
    rw (p.1, p.2) tt

pub returns-in-Ok-clause-folder : goal.returns-in-Ok-clause-folder
returns-in-Ok-clause-folder g c = forgets-done (g.F.Folder.told c.args.folder.now) _ _ _ _ (stands-some (g.F.Folder.told c.args.folder.now) _ c.if-not-stands.false c.in_ok-stands.ensures.stands).1 c.in_ok-stands.ensures.held c.in_ok-file.ensures c.in-Ok.ensures.held

pub returns-in-Err-Failed-clause-writes : goal.returns-in-Err-Failed-clause-writes
returns-in-Err-Failed-clause-writes g c = removal-counted _ _ _ _ _ c.in-Err-Failed.field-0 c.in-Err-Failed.field-0-is c.in_ok-stands.ensures.writes (removable-now (g.F.Folder.told c.args.folder.now) _ _ _ (stands-some (g.F.Folder.told c.args.folder.now) _ c.if-not-stands.false c.in_ok-stands.ensures.stands).1 c.in_ok-stands.ensures.held c.in_ok-file.ensures) c.in-Err-Failed.ensures.cause

pub returns-in-Err-Failed-clause-steady : goal.returns-in-Err-Failed-clause-steady
returns-in-Err-Failed-clause-steady g c = λ folder out.
    absurd (removal-steady _ _ _ c.in-Err-Failed.field-0 c.in-Err-Failed.field-0-is (c.in_ok-stands.ensures.steady ∙ folder) (removable-now (g.F.Folder.told c.args.folder.now) _ _ _ (stands-some (g.F.Folder.told c.args.folder.now) _ c.if-not-stands.false c.in_ok-stands.ensures.stands).1 c.in_ok-stands.ensures.held c.in_ok-file.ensures) c.in-Err-Failed.ensures.steady)

pub returns-in_err-stands-clause-calls : goal.returns-in_err-stands-clause-calls
returns-in_err-stands-clause-calls g c = makes-first state_listings (removes db_file) _ _ c.in_err-stands.ensures.calls

pub returns-then-not-stands-clause-calls : goal.returns-then-not-stands-clause-calls
returns-then-not-stands-clause-calls g c = makes-first state_listings (removes db_file) _ _ c.in_ok-stands.ensures.calls

pub returns-in_err-file-clause-calls : goal.returns-in_err-file-clause-calls
returns-in_err-file-clause-calls g c = makes-first state_listings (removes db_file) _ _ c.in_ok-stands.ensures.calls

pub returns-in-Ok-clause-calls : goal.returns-in-Ok-clause-calls
returns-in-Ok-clause-calls g c = makes-then state_listings (removes db_file) _ _ _ c.in_ok-stands.ensures.calls (removes-at _ db_file _ _ c.in_ok-file.ensures (makes-one _ _ _ _ c.remove_file.result c.remove_file.ensures.schedule))

pub returns-in-Err-Failed-clause-calls : goal.returns-in-Err-Failed-clause-calls
returns-in-Err-Failed-clause-calls g c = makes-then state_listings (removes db_file) _ _ _ c.in_ok-stands.ensures.calls (removes-at _ db_file _ _ c.in_ok-file.ensures (makes-one _ _ _ _ c.remove_file.result c.remove_file.ensures.schedule))

pub returns-clause-calls : goal.returns-clause-calls
returns-clause-calls g c = makes-then state_listings (removes db_file) _ _ _ c.in_ok-stands.ensures.calls (removes-at _ db_file _ _ c.in_ok-file.ensures (makes-one _ _ _ _ c.remove_file.result c.remove_file.ensures.schedule))
