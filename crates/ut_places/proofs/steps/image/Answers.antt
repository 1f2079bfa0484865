use Rattle.std.proofs.Common.{◌≡◌, ◌<◌, Some, slice_get, length, sym, ap, ◌∙◌}
use Rattle.ut_places.proofs.StepLemmas.{at-some, imaged-first, imaged-more, imaged-end}
use Rattle.ut_places.proofs.steps.image.Goals as goal

pub places-init : goal.places-init
places-init c = imaged-first c.args.table.now c.args.set.now c.new-to.result c.new-to.ensures

pub places-preserved : goal.places-preserved
places-preserved c =
    let table = c.args.table.now in
    let place = c.in-Some.place in
    let next = c.in-Some.ensures in
    let below : place < length table = next.1 in
    let row = c.index-table-place.result in
    let read : slice_get table place ≡ Some row = at-some table place row below ∙ ap Some (sym c.index-table-place.is) in
    imaged-more table c.args.set.now c.places.to c.add.new.self row c.places.at place next read c.in_ok-add.ensures c.places.invariant

pub returns : goal.returns
returns c = imaged-end c.args.table.now c.args.set.now c.places.to c.places.at c.in_default.ensures c.places.invariant
