use Rattle.std.proofs.Common.{◌-◌, List, sym, subst}
use Rattle.ut_bre.specs.declared.tree.Item.{Item}
use Rattle.ut_bre.specs.Trees.{trees_of}
use Rattle.ut_bre.specs.Fitting.{AreFitted}
use Rattle.ut_bre.proofs.PartLemmas.{ends-fitted}
use Rattle.ut_bre.proofs.parts.find_part_ends.Goals as goal

pub returns : goal.returns
returns c =
    let a = c.args in
    let room = a.span.end - a.span.start in
    let xs = trees_of a.body.now in
    let f = subst (λ (v : List Item). AreFitted room xs (trees_of v)) (sym c.as_slice.ensures.value) c.in_ok-items.ensures in
    record {
      ends = ends-fitted a.line.now xs (trees_of c.as_slice.result.now) a.span.end room c.ends_of.new.ends.items c.in_ok-ends_of.ensures.count f c.in_ok-ends_of.ensures.ends;
      count = c.in_ok-ends_of.ensures.count;
    }
