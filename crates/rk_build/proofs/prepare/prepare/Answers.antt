use Rattle.std.proofs.Common.{◌∙◌, ap, length, refl}
use Rattle.std.proofs.lemmas.Result.{err_from_is_err_and}
use Rattle.tr_record.specs.Generations.{records}
use Rattle.rk_build.specs.declared.work.Prepared.{Prepared}
use Rattle.rk_build.proofs.CheckLemmas.{check-no-fault, check-reads, check-starts, find-starts, work-starts}
use Rattle.rk_folder.specs.Fetching.{Lasting}
use Rattle.rk_build.proofs.PrepareLemmas.{check-stops, few-started, find-stops, looks-calls, memory-same, prepares, readable-found, reads-counted, reads-told, steady-still, work-calls, works-told}
use Rattle.rk_build.proofs.prepare.prepare.Goals as goal

pub returns-in_err-found-clause-prepares : goal.returns-in_err-found-clause-prepares
returns-in_err-found-clause-prepares g c =
    let p = err_from_is_err_and c.from_residual.result c.from_residual.ensures.1 in
    rw (p.1, p.2) (find-stops g.M.Maker.first c.args.request.now _ _ _ _ c.in_err-found.ensures.finds refl)

pub returns-in_err-found-clause-looks : goal.returns-in_err-found-clause-looks
returns-in_err-found-clause-looks g c =
    let p = err_from_is_err_and c.from_residual.result c.from_residual.ensures.1 in
    rw (p.1, p.2) (looks-calls Prepared c.args.request.now _ _ _ _ _ c.find.ensures.looks)

pub returns-in_err-found-clause-starts : goal.returns-in_err-found-clause-starts
returns-in_err-found-clause-starts g c =
    let p = err_from_is_err_and c.from_residual.result c.from_residual.ensures.1 in
    rw (p.1, p.2) (find-starts {T = Prepared} (λ (p : Prepared). length p.ended.ran) g.M.Maker.first c.args.request.now (g.F.Folder.told c.args.folder.now) _ _ c.in_err-found.ensures.finds)

pub returns-in_err-check_old-clause-prepares : goal.returns-in_err-check_old-clause-prepares
returns-in_err-check_old-clause-prepares g c =
    let p = err_from_is_err_and c.from_residual-in_err-check_old.result c.from_residual-in_err-check_old.ensures.1 in
    rw (p.1, p.2) (check-stops g.M.Maker.first c.args.request.now _ c.in_ok-found.found _ _ _ c.in_ok-found.ensures.finds c.in_err-check_old.ensures.checked refl)

pub returns-in_err-check_old-clause-looks : goal.returns-in_err-check_old-clause-looks
returns-in_err-check_old-clause-looks g c =
    let p = err_from_is_err_and c.from_residual-in_err-check_old.result c.from_residual-in_err-check_old.ensures.1 in
    rw (p.1, p.2) (looks-calls Prepared c.args.request.now _ _ _ _ _ c.find.ensures.looks)

pub returns-in_err-check_old-clause-reads : goal.returns-in_err-check_old-clause-reads
returns-in_err-check_old-clause-reads g c =
    let p = err_from_is_err_and c.from_residual-in_err-check_old.result c.from_residual-in_err-check_old.ensures.1 in
    rw (p.1, p.2) (check-reads Prepared g.M.Maker.first _ (records c.in_ok-found.found.old) _ _ _ c.in_err-check_old.ensures.checked c.in_ok-found.ensures.reads)

pub returns-in_err-check_old-clause-steady : goal.returns-in_err-check_old-clause-steady
returns-in_err-check_old-clause-steady g c =
    let p = err_from_is_err_and c.from_residual-in_err-check_old.result c.from_residual-in_err-check_old.ensures.1 in
    rw (p.1, p.2) (c.in_ok-found.ensures.steady.0, λ steady. check-no-fault Prepared g.M.Maker.first _ (records c.in_ok-found.found.old) _ c.in_err-check_old.ensures.checked)

pub returns-in_err-check_old-clause-starts : goal.returns-in_err-check_old-clause-starts
returns-in_err-check_old-clause-starts g c =
    let p = err_from_is_err_and c.from_residual-in_err-check_old.result c.from_residual-in_err-check_old.ensures.1 in
    rw (p.1, p.2) (check-starts {T = Prepared} (λ (p : Prepared). length p.ended.ran) g.M.Maker.first c.args.request.now (g.F.Folder.told c.args.folder.now) c.in_ok-found.found _ _ _ c.in_ok-found.ensures.finds c.in_err-check_old.ensures.checked c.in_err-check_old.ensures.starts)

pub work_in-requires-clause-from : goal.work_in-requires-clause-from
work_in-requires-clause-from g c = readable-found c.args.request.now _ _ c.in_ok-found.found c.find.ensures.held c.in_ok-found.ensures.finds

pub returns-clause-held : goal.returns-clause-held
returns-clause-held g c = ap (λ (it : Lasting). it.told) c.work_in.ensures.keeps.held ∙ c.find.ensures.held

pub returns-clause-writes : goal.returns-clause-writes
returns-clause-writes g c = ap (λ (it : Lasting). it.writes) c.work_in.ensures.keeps.held ∙ c.find.ensures.writes

pub returns-clause-looks : goal.returns-clause-looks
returns-clause-looks g c =
    work-calls g.M.Maker.first c.args.request.now _ (g.F.Folder.told c.args.folder.now) _ c.in_ok-found.found _ _ _ _ _ c.work_in.result c.work_in.ensures.works c.find.ensures.looks (reads-told _ _ _ _ c.find.ensures.held c.work_in.ensures.keeps.reads)

pub returns-clause-reads : goal.returns-clause-reads
returns-clause-reads g c = reads-counted _ _ _ c.work_in.result c.in_ok-found.ensures.reads c.work_in.ensures.reads

pub returns-clause-memory : goal.returns-clause-memory
returns-clause-memory g c = memory-same _ _ _ c.work_in.result c.in_ok-found.ensures.memory c.work_in.ensures.memory

pub returns-clause-steady : goal.returns-clause-steady
returns-clause-steady g c = steady-still _ _ _ c.work_in.result c.in_ok-found.ensures.steady.0 c.work_in.ensures.steady

pub returns-clause-prepares : goal.returns-clause-prepares
returns-clause-prepares g c =
    prepares g.M.Maker.first c.args.request.now _ c.in_ok-found.found _ _ c.work_in.result (g.met.F.Folder.whole c.args.folder.now) c.in_ok-found.ensures.finds c.in_ok-check_old.ensures.checked
    (works-told g.M.Maker.first c.args.request.now _ _ c.in_ok-found.found _ _ c.work_in.result c.find.ensures.held c.work_in.ensures.works) c.work_in.ensures.at_most

pub returns-clause-rises : goal.returns-clause-rises
returns-clause-rises g c = c.work_in.ensures.at_least

pub returns-clause-few : goal.returns-clause-few
returns-clause-few g c = few-started c.args.request.now _ _ _ c.work_in.result c.work_in.ensures.starts

pub returns-clause-starts : goal.returns-clause-starts
returns-clause-starts g c =
    work-starts g.M.Maker.first c.args.request.now _ _ c.in_ok-found.found _ _ _ _ _ c.work_in.result c.in_ok-found.ensures.finds c.work_in.ensures.works c.in_ok-check_old.ensures.checked c.in_ok-check_old.ensures.starts c.work_in.ensures.starts
