use Rattle.std.proofs.Common.{◌≡◌, ◌+◌, drop}
use Rattle.std.specs.Prelude.{sum_by}
use Rattle.tr_record.specs.Generations.{records}
use Rattle.rk_replay.specs.Ran.{cause_of, own_for, ran_total}
use Rattle.rk_replay.proofs.paying.paid.Given as goal

abbrev pub invariant-loop-rec : goal.invariant-loop-rec
invariant-loop-rec l = l.total + sum_by (λ rec. own_for rec (cause_of (records l.kept) rec)) (drop l.rec-index l.records) ≡ ran_total (records l.kept) l.records
