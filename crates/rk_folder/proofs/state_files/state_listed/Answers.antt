use Rattle.rk_folder.proofs.LooksLemmas.{looks-none, state-read}
use Rattle.rk_folder.proofs.ImportLemmas.{told-nothing_found, told-listed_dir, told-listed_in, told-state_plain}
use Rattle.rk_folder.proofs.state_files.state_listed.Goals as goal

pub returns-in-None-clause-told : goal.returns-in-None-clause-told
returns-in-None-clause-told g c = told-nothing_found _ c.args.skips_db c.args.listed c.nothing_found.result (g.met.F.Folder.whole c.args.folder.now) c.requires.listed c.in-None.is c.requires.plain c.nothing_found.ensures

pub returns-in-None-clause-looks : goal.returns-in-None-clause-looks
returns-in-None-clause-looks g c = looks-none (g.F.Folder.told c.args.folder.now) _ (g.F.Folder.schedule c.args.folder.now)

pub state_read-requires-clause-listed : goal.state_read-requires-clause-listed
state_read-requires-clause-listed g c = told-listed_in _ c.args.listed c.in-Some.listed c.requires.listed c.in-Some.is

pub state_read-requires-clause-dir : goal.state_read-requires-clause-dir
state_read-requires-clause-dir g c = told-listed_dir _ c.args.listed c.in-Some.listed c.requires.listed c.in-Some.is

pub state_read-requires-clause-plain : goal.state_read-requires-clause-plain
state_read-requires-clause-plain g c = told-state_plain _ (told-listed_dir _ c.args.listed c.in-Some.listed c.requires.listed c.in-Some.is) c.requires.plain

pub returns-in-Some-clause-looks : goal.returns-in-Some-clause-looks
returns-in-Some-clause-looks g c = state-read (g.F.Folder.told c.args.folder.now) c.args.skips_db _ _ (told-listed_dir _ c.args.listed c.in-Some.listed c.requires.listed c.in-Some.is) c.state_read.ensures.calls
