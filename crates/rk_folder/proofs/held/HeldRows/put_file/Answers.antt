use Rattle.std.proofs.Common.{sym, ap, subst, ◌∙◌, List, ℕ}
use Rattle.rk_folder.specs.Told.{with_standing}
use Rattle.rk_folder.specs.Whole.{IsWhole}
use Rattle.rk_folder.specs.declared.folder.Standing.TheVariants.{File}
use Rattle.rk_folder.proofs.WholeLemmas.{whole-put}
use Rattle.rk_folder.proofs.held.HeldRows.put_file.Goals as goal

pub returns-clause-whole : goal.returns-clause-whole
returns-clause-whole c =
    subst IsWhole (sym (c.in_ok-put.ensures.ok ∙ ap (λ (p : List ℕ). with_standing p (File c.in_ok-bytes.bytes) c.args.self.now) c.in_ok-path.ensures.copy)) (whole-put _ _ _ c.requires.allowed c.copy.ensures.canonical c.requires.whole)
