use Rattle.std.proofs.Common.{refl, subst}
use Rattle.rk_folder.specs.Calls.{Reads}
use Rattle.rk_folder.proofs.FetchingLemmas.{failed-counted, failed-steady, gives-absent, gives-content, kept-read, read-allowed}
use Rattle.rk_folder.proofs.by_folder.ByFolderFetch.get.Goals as goal

pub returns-in_err-none-in-Ok-Absent-clause-keeps : goal.returns-in_err-none-in-Ok-Absent-clause-keeps
returns-in_err-none-in-Ok-Absent-clause-keeps g c = (refl, kept-read _ _ c.args.file.now _ _ _ _ _ c.read.result c.requires c.read.ensures.held c.read.ensures.other c.read.ensures.reach c.read.ensures.memory c.read.ensures.schedule)

pub returns-in-Ok-Content-clause-gives : goal.returns-in-Ok-Content-clause-gives
returns-in-Ok-Content-clause-gives g c = gives-content (g.F.Folder.told c.args.self.now.folder.now) c.args.file.now c.in-Ok-Content.bytes c.requires (subst (Reads (g.F.Folder.told c.args.self.now.folder.now) c.args.file.now) c.in-Ok-Content.field-0-is c.in-Ok-Content.ensures.got)

pub returns-in-Ok-Content-clause-keeps : goal.returns-in-Ok-Content-clause-keeps
returns-in-Ok-Content-clause-keeps g c = (refl, kept-read _ _ c.args.file.now _ _ _ _ _ c.read.result c.requires c.read.ensures.held c.read.ensures.other c.read.ensures.reach c.read.ensures.memory c.read.ensures.schedule)

pub returns-in_ok-none-in-Ok-Absent-clause-gives : goal.returns-in_ok-none-in-Ok-Absent-clause-gives
returns-in_ok-none-in-Ok-Absent-clause-gives g c = gives-absent (g.F.Folder.told c.args.self.now.folder.now) c.args.file.now c.in_ok-none-in-Ok-Absent.none c.requires (subst (Reads (g.F.Folder.told c.args.self.now.folder.now) c.args.file.now) c.in-Ok-Absent.field-0-is c.in-Ok-Absent.ensures.got)

pub returns-in_ok-none-in-Ok-Absent-clause-keeps : goal.returns-in_ok-none-in-Ok-Absent-clause-keeps
returns-in_ok-none-in-Ok-Absent-clause-keeps g c = (refl, kept-read _ _ c.args.file.now _ _ _ _ _ c.read.result c.requires c.read.ensures.held c.read.ensures.other c.read.ensures.reach c.read.ensures.memory c.read.ensures.schedule)

pub returns-in-Err-Failed-clause-keeps : goal.returns-in-Err-Failed-clause-keeps
returns-in-Err-Failed-clause-keeps g c = (refl, kept-read _ _ c.args.file.now _ _ _ _ _ c.read.result c.requires c.read.ensures.held c.read.ensures.other c.read.ensures.reach c.read.ensures.memory c.read.ensures.schedule)

pub returns-in-Err-Failed-clause-steady : goal.returns-in-Err-Failed-clause-steady
returns-in-Err-Failed-clause-steady g c = failed-steady _ _ _ _ c.in-Err-Failed.field-0-is (read-allowed (g.F.Folder.told c.args.self.now.folder.now) c.args.file.now c.requires) c.in-Err-Failed.ensures.steady

pub returns-in-Err-Failed-clause-counted : goal.returns-in-Err-Failed-clause-counted
returns-in-Err-Failed-clause-counted g c = failed-counted _ _ _ _ c.in-Err-Failed.field-0-is (read-allowed (g.F.Folder.told c.args.self.now.folder.now) c.args.file.now c.requires) c.in-Err-Failed.ensures.cause

pub returns-in-Err-NoMemory-clause-keeps : goal.returns-in-Err-NoMemory-clause-keeps
returns-in-Err-NoMemory-clause-keeps g c = (refl, kept-read _ _ c.args.file.now _ _ _ _ _ c.read.result c.requires c.read.ensures.held c.read.ensures.other c.read.ensures.reach c.read.ensures.memory c.read.ensures.schedule)
