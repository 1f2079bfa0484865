use Rattle.std.proofs.Common.{arith}
use Rattle.ut_places.proofs.BitLemmas.{left-out}
use Rattle.ut_places.proofs.places.Places.remove.Goals as goal

pub returns : goal.returns
returns c =
    let inv = c.words.invariant in
    left-out c.args.self.now c.words.self c.args.other.now inv.before inv.count (λ i lt. inv.done i (omega (arith, c.args.self.now.words.ok.0)))
