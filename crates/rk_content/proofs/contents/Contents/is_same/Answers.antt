use Rattle.std.proofs.Common.{List, subst}
use Rattle.std.specs.List.{IsDistinct}
use Rattle.rk_base.specs.Text.{Text, same_text}
use Rattle.rk_content.proofs.NumberLemmas.{same_number}
use Rattle.rk_content.proofs.contents.Contents.is_same.Goals as goal

pub returns : goal.returns
returns c text other = same_number c.args.self.now c.a.inside.number c.b.inside.number c.args.a c.args.b c.a.view_is c.b.view_is (subst (λ (texts : List Text). IsDistinct same_text texts) c.self.view_is c.self.invariant) text other
