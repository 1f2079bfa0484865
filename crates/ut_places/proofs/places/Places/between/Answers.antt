use Rattle.std.proofs.Common.{◌<◌, ◌≤◌, arith}
use Rattle.ut_places.proofs.places.Places.between.Goals as goal

pub returns : goal.returns
returns c j =
    (λ h. (let f = (c.places.invariant j).0 h in let low : c.args.from ≤ j = f.0 in let high : j < c.places.place = f.1 in (low, omega arith)), λ (low, high). (let less : j < c.places.place = omega arith in (c.places.invariant j).1 (low, less)))
