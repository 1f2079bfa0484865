use Rattle.std.proofs.Common.{sym, subst}
use Rattle.rk_folder.specs.Whole.{IsWhole}
use Rattle.rk_folder.proofs.WholeLemmas.{whole-remove_file}
use Rattle.rk_folder.proofs.held.HeldRows.take_file.Goals as goal

pub returns-clause-whole : goal.returns-clause-whole
returns-clause-whole c = subst IsWhole (sym c.take.ensures) (whole-remove_file _ _ c.requires.allowed c.requires.whole)
