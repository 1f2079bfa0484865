use Rattle.std.proofs.Common.{Option, subst, sym}
use Rattle.rk_base.specs.Text.{Text}
use Rattle.rk_build.specs.Kept.{AreTables}
use Rattle.rk_top.proofs.GeneratedLemmas.{undamaged}
use Rattle.rk_top.proofs.generate.tables_of.Goals as goal

pub unreachable-requires : goal.unreachable-requires
unreachable-requires c =
    undamaged c.in_ok-db.db c.requires.0 c.in-Err.stop (subst (λ (o : Option Text). AreTables o c.requires.0) (sym c.in_ok-db.ensures) c.requires.1) c.in-Err.ensures c.in_default.not-NoMemory
