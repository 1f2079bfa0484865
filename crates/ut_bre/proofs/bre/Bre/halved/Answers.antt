use Rattle.std.proofs.Common.{ℕ, ◌+◌, ◌-◌, ◌/◌, ◌<◌, ◌≤◌, subst, arith}
use Rattle.ut_bre.specs.Expressions.{expression}
use Rattle.ut_bre.specs.Images.{IsFarthest}
use Rattle.ut_bre.proofs.Halved.{later-half, none-until, one-left}
use Rattle.ut_bre.proofs.bre.Bre.halved.Goals as goal

pub halves-preserved-in-None : goal.halves-preserved-in-None
halves-preserved-in-None c =
    let e = expression c.args.self.now in
    let line = c.args.line.now in
    let inv = c.halves.invariant in
    let low = c.halves.low in
    let high = c.halves.high in
    let half : ℕ = low + (high - low) / 2 in
    let none = subst (IsFarthest e line low half) c.in-None.is c.in_ok-farthest.ensures in
    let le : low ≤ low + (high - low) / 2 = omega arith in
    record {
      behind = (let h : c.args.from ≤ low = inv.behind in let g : c.args.from ≤ low + (high - low) / 2 = omega arith in g);
      order = (let g : low + (high - low) / 2 < high = omega arith in g);
      within = inv.within;
      none = none-until e line c.args.from low half none inv.none;
      far = later-half e line low half high c.halves.end le none inv.far;
    }

pub returns : goal.returns
returns c =
    let inv = c.halves.invariant in
    let one : c.halves.high ≤ c.halves.low + 1 = omega arith in
    one-left (expression c.args.self.now) c.args.line.now c.args.from c.halves.low c.halves.high c.halves.end inv.behind one inv.none inv.far
