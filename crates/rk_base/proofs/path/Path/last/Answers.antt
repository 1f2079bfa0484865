use Rattle.std.proofs.Common.{ap, sym, ◌∙◌}
use Rattle.rk_base.specs.Text.{is_root, name_of}
use Rattle.rk_base.specs.Canonical.{is_name}
use Rattle.rk_base.proofs.PathLemmas.{path-is_cut}
use Rattle.rk_base.proofs.path.Path.last.Goals as goal

pub of-requires : goal.of-requires
of-requires c = ap is_name (c.in_ok-name.ensures ∙ c.name.ensures ∙ ap name_of (sym c.self.view_is)) ∙ (path-is_cut _ c.self.invariant (ap is_root c.self.view_is ∙ sym c.is_root.ensures ∙ c.if-is_root.false)).name
