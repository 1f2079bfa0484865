use Rattle.std.proofs.Common.{◌≡◌, take}
use Rattle.std.specs.List.{AllByRecursion as Each}
use Rattle.tr_record.specs.Rec.{rec_at}
use Rattle.tr_matching.specs.Groups.{numbers_in}
use Rattle.rk_traces.specs.Started.{started}
use Rattle.rk_replay.specs.Taking.{IsSpokenAt}
use Rattle.rk_replay.proofs.torn.torn.Given as goal

abbrev pub invariant-members : goal.invariant-members
invariant-members g l =
    record {
      so : Each (λ i. IsSpokenAt g.K.Maker.first l.at (rec_at i l.earlier.records)) (take l.k (numbers_in l.members));
      starts : g.K.Maker.starts l.maker ≡ started l.k (g.K.Maker.starts l.fn.maker);
    }
