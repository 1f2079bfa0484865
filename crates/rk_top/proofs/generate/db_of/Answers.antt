use Rattle.std.proofs.Common.{◌≡◌, IfOk, subst}
use Rattle.rk_base.specs.Text.{Text}
use Rattle.rk_folder.specs.Memory.{held_by}
use Rattle.rk_folder.specs.Told.{bytes_in, standing}
use Rattle.rk_top.proofs.generate.db_of.Goals as goal

pub returns : goal.returns
returns c = subst (λ (file : Text). IfOk c.bytes_at.result (λ bytes. bytes ≡ bytes_in (standing (held_by c.args.folder.now) file))) c.in_ok-file.ensures c.bytes_at.ensures
