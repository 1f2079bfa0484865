use Rattle.std.proofs.Common.{◌∙◌, ap}
use Rattle.rk_base.specs.Canonical.{is_canonical}
use Rattle.rk_base.specs.Text.{or_root}
use Rattle.rk_tree.proofs.tree.climbing.path_by.Goals as goal

pub parsed-requires : goal.parsed-requires
parsed-requires c = ap is_canonical (c.or_root.ensures ∙ ap or_root c.deref.ensures.value) ∙ c.in_ok-text.ensures.canonical

pub returns : goal.returns
returns c = c.in_ok-path.ensures ∙ c.or_root.ensures ∙ ap or_root c.deref.ensures.value ∙ c.in_ok-text.ensures.text
