use Rattle.std.proofs.Common.{Ok, Option, Some, ap, subst, sym, ◌∙◌}
use Rattle.std.proofs.lemmas.Result.{err_from_is_err_and}
use Rattle.rk_base.specs.Text.{Text}
use Rattle.rk_database.specs.Answers.{FindsDb}
use Rattle.rk_database.specs.Texts.{IsChecked, NoCheck}
use Rattle.rk_database.proofs.AnswerLemmas.{checks-cut, checks-done, checks-none, checks-stops, finds-checks, finds-stops, shows-cut, shows-done, shows-none, shows-stops}
use Rattle.rk_database.specs.declared.stop.Said.{Said}
use Rattle.rk_database.proofs.CallLemmas.{cut-reads, no-fault-again, reads-again, text-no-fault, text-reads, text-unput, unput, unread, writes-again}
use Rattle.rk_database.proofs.TextLemmas.{check-stop}
use Rattle.rk_database.proofs.checking.check.Goals as goal

pub returns-in_err-database-clause-shows : goal.returns-in_err-database-clause-shows
returns-in_err-database-clause-shows g c =
    let p = err_from_is_err_and c.from_residual.result c.from_residual.ensures.1 in
    rw (p.1, p.2) (finds-stops (IsChecked g.M.Maker.first) (NoCheck g.M.Maker.first) (g.F.Folder.told c.args.folder.now) _ _ c.in_err-database.ensures.finds)

pub returns-in-None-clause-shows : goal.returns-in-None-clause-shows
returns-in-None-clause-shows g c =
    shows-none (IsChecked g.M.Maker.first) (NoCheck g.M.Maker.first) (g.F.Folder.told c.args.folder.now) _ _ c.say_none.result (subst (λ (o : Option Text). FindsDb (g.F.Folder.told c.args.folder.now) (Ok o)) c.in-None.is c.in_ok-database.ensures.finds) c.say_none.ensures.puts

pub returns-in_err-text-in-Some-clause-shows : goal.returns-in_err-text-in-Some-clause-shows
returns-in_err-text-in-Some-clause-shows g c =
    let p = err_from_is_err_and c.from_residual-in_err-text-in-Some.result c.from_residual-in_err-text-in-Some.ensures.1 in
    rw (p.1, p.2) (shows-stops (IsChecked g.M.Maker.first) (NoCheck g.M.Maker.first) (g.F.Folder.told c.args.folder.now) _ _ _ (subst (λ (o : Option Text). FindsDb (g.F.Folder.told c.args.folder.now) (Ok o)) (c.in-Some.is ∙ ap (λ (t : Text). Some t) (sym c.as_slice.ensures)) c.in_ok-database.ensures.finds) (check-stop g.M.Maker.first _ _ c.in_err-text-in-Some.ensures.refused) c.in_err-text-in-Some.ensures.refused)

pub returns-in_err-put-in-Some-clause-shows : goal.returns-in_err-put-in-Some-clause-shows
returns-in_err-put-in-Some-clause-shows g c =
    let p = err_from_is_err_and c.from_residual-in_err-put-in-Some.result c.from_residual-in_err-put-in-Some.ensures.1 in
    rw (p.1, p.2) (shows-cut (IsChecked g.M.Maker.first) (NoCheck g.M.Maker.first) (g.F.Folder.told c.args.folder.now) _ _ _ _ _ (subst (λ (o : Option Text). FindsDb (g.F.Folder.told c.args.folder.now) (Ok o)) (c.in-Some.is ∙ ap (λ (t : Text). Some t) (sym c.as_slice.ensures)) c.in_ok-database.ensures.finds) c.in_ok-text-in-Some.ensures.checked c.in_err-put-in-Some.ensures.put)

pub returns-in_ok-put-in-Some-clause-shows : goal.returns-in_ok-put-in-Some-clause-shows
returns-in_ok-put-in-Some-clause-shows g c =
    shows-done (IsChecked g.M.Maker.first) (NoCheck g.M.Maker.first) (g.F.Folder.told c.args.folder.now) _ _ _ _ (subst (λ (o : Option Text). FindsDb (g.F.Folder.told c.args.folder.now) (Ok o)) (c.in-Some.is ∙ ap (λ (t : Text). Some t) (sym c.as_slice.ensures)) c.in_ok-database.ensures.finds) c.in_ok-text-in-Some.ensures.checked c.in_ok-put-in-Some.ensures.put

pub returns-in_err-database-clause-starts : goal.returns-in_err-database-clause-starts
returns-in_err-database-clause-starts g c =
    let p = err_from_is_err_and c.from_residual.result c.from_residual.ensures.1 in
    rw (p.1, p.2) (finds-checks (g.F.Folder.told c.args.folder.now) _ _ c.in_err-database.ensures.finds)

pub returns-in-None-clause-starts : goal.returns-in-None-clause-starts
returns-in-None-clause-starts g c =
    checks-none (g.F.Folder.told c.args.folder.now) _ _ _ c.say_none.result c.say_none.ensures.puts

pub returns-in_err-text-in-Some-clause-starts : goal.returns-in_err-text-in-Some-clause-starts
returns-in_err-text-in-Some-clause-starts g c =
    let p = err_from_is_err_and c.from_residual-in_err-text-in-Some.result c.from_residual-in_err-text-in-Some.ensures.1 in
    rw (p.1, p.2) (checks-stops (g.F.Folder.told c.args.folder.now) _ _ c.as_slice.result.now _ (check-stop g.M.Maker.first _ _ c.in_err-text-in-Some.ensures.refused) c.in_err-text-in-Some.ensures.starts)

pub returns-in_err-put-in-Some-clause-starts : goal.returns-in_err-put-in-Some-clause-starts
returns-in_err-put-in-Some-clause-starts g c =
    let p = err_from_is_err_and c.from_residual-in_err-put-in-Some.result c.from_residual-in_err-put-in-Some.ensures.1 in
    rw (p.1, p.2) (checks-cut (g.F.Folder.told c.args.folder.now) _ _ _ _ _ _ c.in_err-put-in-Some.ensures.put)

pub returns-in_ok-put-in-Some-clause-starts : goal.returns-in_ok-put-in-Some-clause-starts
returns-in_ok-put-in-Some-clause-starts g c =
    checks-done (g.F.Folder.told c.args.folder.now) _ _ _ c.in_ok-text-in-Some.text (subst (λ (o : Option Text). FindsDb (g.F.Folder.told c.args.folder.now) (Ok o)) (c.in-Some.is ∙ ap (λ (t : Text). Some t) (sym c.as_slice.ensures)) c.in_ok-database.ensures.finds) c.in_ok-text-in-Some.ensures.starts

pub returns-in_err-database-clause-reads : goal.returns-in_err-database-clause-reads
returns-in_err-database-clause-reads g c =
    let p = err_from_is_err_and c.from_residual.result c.from_residual.ensures.1 in
    rw (p.1, p.2) (reads-again (Option Text) Said _ _ _ c.in_err-database.ensures.reads)

pub returns-in_err-database-clause-puts : goal.returns-in_err-database-clause-puts
returns-in_err-database-clause-puts g c =
    let p = err_from_is_err_and c.from_residual.result c.from_residual.ensures.1 in
    rw (p.1, p.2) (unput (g.F.Folder.told c.args.folder.now) _ _ c.in_err-database.ensures.finds)

pub returns-in_err-database-clause-steady : goal.returns-in_err-database-clause-steady
returns-in_err-database-clause-steady g c = λ folder out.
    let p = err_from_is_err_and c.from_residual.result c.from_residual.ensures.1 in
    rw (p.1, p.2) (no-fault-again (Option Text) Said _ (c.in_err-database.ensures.no_fault folder))

pub returns-in-None-clause-reads : goal.returns-in-None-clause-reads
returns-in-None-clause-reads g c = unread _ _ _ _ c.say_none.result c.say_none.ensures.puts c.in_ok-database.ensures.reads

pub returns-in_err-text-in-Some-clause-reads : goal.returns-in_err-text-in-Some-clause-reads
returns-in_err-text-in-Some-clause-reads g c =
    let p = err_from_is_err_and c.from_residual-in_err-text-in-Some.result c.from_residual-in_err-text-in-Some.ensures.1 in
    rw (p.1, p.2) (text-reads _ _ _ (check-stop g.M.Maker.first _ _ c.in_err-text-in-Some.ensures.refused) c.in_ok-database.ensures.reads)

pub returns-in_err-text-in-Some-clause-puts : goal.returns-in_err-text-in-Some-clause-puts
returns-in_err-text-in-Some-clause-puts g c =
    let p = err_from_is_err_and c.from_residual-in_err-text-in-Some.result c.from_residual-in_err-text-in-Some.ensures.1 in
    rw (p.1, p.2) (text-unput _ _ (check-stop g.M.Maker.first _ _ c.in_err-text-in-Some.ensures.refused))

pub returns-in_err-text-in-Some-clause-steady : goal.returns-in_err-text-in-Some-clause-steady
returns-in_err-text-in-Some-clause-steady g c = λ folder out.
    let p = err_from_is_err_and c.from_residual-in_err-text-in-Some.result c.from_residual-in_err-text-in-Some.ensures.1 in
    rw (p.1, p.2) (text-no-fault _ (check-stop g.M.Maker.first _ _ c.in_err-text-in-Some.ensures.refused))

pub returns-in_err-put-in-Some-clause-reads : goal.returns-in_err-put-in-Some-clause-reads
returns-in_err-put-in-Some-clause-reads g c =
    let p = err_from_is_err_and c.from_residual-in_err-put-in-Some.result c.from_residual-in_err-put-in-Some.ensures.1 in
    rw (p.1, p.2) (cut-reads _ _ _ _ _ _ c.in_err-put-in-Some.ensures.put c.in_ok-database.ensures.reads)

pub returns-in_err-put-in-Some-clause-puts : goal.returns-in_err-put-in-Some-clause-puts
returns-in_err-put-in-Some-clause-puts g c =
    let p = err_from_is_err_and c.from_residual-in_err-put-in-Some.result c.from_residual-in_err-put-in-Some.ensures.1 in
    rw (p.1, p.2) (writes-again (Unit {0}) Said _ _ _ c.in_err-put-in-Some.ensures.count)

pub returns-in_err-put-in-Some-clause-steady : goal.returns-in_err-put-in-Some-clause-steady
returns-in_err-put-in-Some-clause-steady g c = λ folder out.
    let p = err_from_is_err_and c.from_residual-in_err-put-in-Some.result c.from_residual-in_err-put-in-Some.ensures.1 in
    rw (p.1, p.2) (no-fault-again (Unit {0}) Said _ (c.in_err-put-in-Some.ensures.no_fault out))
