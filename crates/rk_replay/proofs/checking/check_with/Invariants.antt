use Rattle.std.proofs.Common.{◌≡◌, ℕ, ◌<◌}
use Rattle.tr_record.specs.Generations.{records}
use Rattle.tr_record.specs.Rec.{rec_at}
use Rattle.rk_traces.specs.Spoken.{IsSpoken}
use Rattle.rk_traces.specs.Started.{started}
use Rattle.rk_replay.proofs.checking.check_with.Given as goal

abbrev pub invariant-records : goal.invariant-records
invariant-records g l =
    record {
      spoken : (k : ℕ) → k < l.i → IsSpoken g.K.Maker.first (rec_at k (records l.kept));
      starts : g.K.Maker.starts l.maker ≡ started l.i (g.K.Maker.starts l.fn.maker);
    }
