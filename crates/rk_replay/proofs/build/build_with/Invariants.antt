use Rattle.std.proofs.Common.{◌≡◌, ◌+◌, ◌*◌, ◌≤◌, length}
use Rattle.rk_calls.specs.Refs.{top_refs}
use Rattle.rk_content.specs.Contents.{AreKnown}
use Rattle.tr_record.specs.Generations.{records}
use Rattle.rk_traces.specs.Started.{started}
use Rattle.rk_traces.specs.Own.{total}
use Rattle.rk_traces.specs.Purse.{left}
use Rattle.rk_traces.specs.Run.{environment, fresh}
use Rattle.rk_traces.specs.Spoken.{AreSpoken}
use Rattle.rk_traces.specs.Freshing.{Freshing}
use Rattle.rk_replay.specs.Activities.{stands, waits}
use Rattle.rk_replay.specs.Links.{pend}
use Rattle.rk_replay.specs.Ran.{ran_count, ran_total}
use Rattle.rk_replay.specs.UnderWay.{IsUnderWay}
use Rattle.rk_replay.proofs.Telling.{Told}
use Rattle.rk_replay.proofs.build.build_with.Given as goal

abbrev pub invariant-turns : goal.invariant-turns
invariant-turns g l =
    let a = environment g.K.Maker.first g.W.Answerer.given in
    let old = l.replay.earlier.records in
    record {
      under_way : IsUnderWay l.replay;
      goes : Told (g.W.Answerer.told l.fn.world) (g.W.Answerer.told l.world) (λ before now. Freshing (AreSpoken g.K.Maker.first old) (stands g.K.Made.Machine.talk g.K.Maker.first old) (waits g.K.Made.Machine.talk g.K.Maker.first old) a (fresh a (left l.fn.budget) l.fn.key top_refs before) (left l.budget) l.replay.top l.answer now l.replay.table l.replay.stack.items);
      old : l.replay.earlier.records ≡ records l.fn.kept;
      from : l.replay.earlier.contents ≡ l.fn.contents;
      kept : g.W.Numbering.Keeps l.fn.world l.world;
      stays : g.W.Numbering.Stays l.fn.world l.world;
      known : AreKnown (g.W.Numbering.contents l.world) l.replay.known.items l.replay.earlier.contents.texts;
      starts : g.K.Maker.starts l.maker ≡ started (ran_count l.replay.earlier.records l.replay.table) (g.K.Maker.starts l.fn.maker);
      live : l.live ≡ l.fn.live + ran_total l.replay.earlier.records l.replay.table;
      paid : l.budget.used ≡ l.fn.budget.used + (total l.replay.table + pend l.replay.stack.items);
      limit : l.budget.limit ≡ l.fn.budget.limit;
      few : l.live ≤ l.fn.live + left l.fn.budget;
    }

abbrev pub decreases-turns : goal.decreases-turns
decreases-turns g l = 2 * left l.budget + length l.replay.stack.items
