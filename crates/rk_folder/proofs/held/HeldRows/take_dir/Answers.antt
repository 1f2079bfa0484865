use Rattle.std.proofs.Common.{sym, subst}
use Rattle.rk_folder.specs.Whole.{IsWhole}
use Rattle.rk_folder.proofs.WholeLemmas.{whole-remove_dir}
use Rattle.rk_folder.proofs.held.HeldRows.take_dir.Goals as goal

pub returns-clause-whole : goal.returns-clause-whole
returns-clause-whole c = subst IsWhole (sym c.take.ensures) (whole-remove_dir _ _ c.requires.allowed c.requires.whole)
