use Rattle.std.proofs.Common.{◌≤◌, ◌<◌, length, get_or, sym, ◌∙◌, ap, subst, arith, add-one}
use Rattle.tr_record.specs.declared.records.Record.{Record}
use Rattle.tr_record.specs.Rec.{rec_at}
use Rattle.tr_matching.specs.declared.member.Member.{Member}
use Rattle.tr_matching.specs.Groups.{numbers_in}
use Rattle.tr_matching.proofs.EachLemmas.{each-full, each-more}
use Rattle.rk_traces.specs.Lasting.{all-last}
use Rattle.rk_traces.specs.Started.{started}
use Rattle.rk_replay.specs.Starts.{StartsTold}
use Rattle.rk_replay.specs.Stops.{IsForged}
use Rattle.rk_replay.specs.Taking.{IsFirstForged, IsSpokenAt}
use Rattle.rk_replay.proofs.TornLemmas.{number-at, numbers-long, torn-first, torn-forged, torn-here, torn-none, torn-started}
use Rattle.rk_replay.proofs.torn.torn.Goals as goal

pub at-requires : goal.at-requires
at-requires g c =
    let lt : c.members.k < length (numbers_in c.args.members.now) = (let n = numbers-long c.args.members.now in omega (arith, c.members-test.true)) in
    let d : Member = record { number = 0; rest = 0 } in
    (torn-here c.args.earlier.now.records c.args.at (numbers_in c.args.members.now) c.requires c.members.k (get_or c.args.members.now c.members.k d).number lt (number-at c.args.members.now c.members.k d c.members-test.true)).0

pub check_at-requires : goal.check_at-requires
check_at-requires g c =
    let lt : c.members.k < length (numbers_in c.args.members.now) = (let n = numbers-long c.args.members.now in omega (arith, c.members-test.true)) in
    let d : Member = record { number = 0; rest = 0 } in
    subst (λ (r : Record). c.args.at ≤ length r.steps) (sym c.at.ensures)
    (torn-here c.args.earlier.now.records c.args.at (numbers_in c.args.members.now) c.requires c.members.k (get_or c.args.members.now c.members.k d).number lt (number-at c.args.members.now c.members.k d c.members-test.true)).1

pub returns-in-Err-clause-started : goal.returns-in-Err-clause-started
returns-in-Err-clause-started g c =
    let lt : c.members.k < length (numbers_in c.args.members.now) = (let n = numbers-long c.args.members.now in omega (arith, c.members-test.true)) in
    let d : Member = record { number = 0; rest = 0 } in
    subst (StartsTold c.args.earlier.now.records (g.K.Maker.starts c.args.maker.now) (g.K.Maker.starts c.check_at.new.maker)) (sym c.of_record.ensures)
    (torn-started c.args.earlier.now.records c.args.at (numbers_in c.args.members.now) c.requires c.members.k (get_or c.args.members.now c.members.k d).number lt (number-at c.args.members.now c.members.k d c.members-test.true)
    (g.K.Maker.starts c.args.maker.now) (g.K.Maker.starts c.members.maker) (g.K.Maker.starts c.check_at.new.maker) c.in-Err.err c.members.invariant.starts c.in-Err.ensures.starts)

pub returns-in-Err-clause-forged : goal.returns-in-Err-clause-forged
returns-in-Err-clause-forged g c =
    let lt : c.members.k < length (numbers_in c.args.members.now) = (let n = numbers-long c.args.members.now in omega (arith, c.members-test.true)) in
    let d : Member = record { number = 0; rest = 0 } in
    subst (IsForged g.K.Maker.first c.args.earlier.now.records) (sym c.of_record.ensures)
    (torn-forged c.args.earlier.now.records c.args.at (numbers_in c.args.members.now) c.requires c.members.k (get_or c.args.members.now c.members.k d).number lt (number-at c.args.members.now c.members.k d c.members-test.true)
    g.K.Maker.first c.at.result.now c.in-Err.err c.at.ensures c.in-Err.ensures.forged)

pub returns-in-Err-clause-first : goal.returns-in-Err-clause-first
returns-in-Err-clause-first g c =
    let lt : c.members.k < length (numbers_in c.args.members.now) = (let n = numbers-long c.args.members.now in omega (arith, c.members-test.true)) in
    let d : Member = record { number = 0; rest = 0 } in
    subst (IsFirstForged g.K.Maker.first c.args.earlier.now.records c.args.at (numbers_in c.args.members.now)) (sym c.of_record.ensures)
    (torn-first c.args.earlier.now.records c.args.at (numbers_in c.args.members.now) c.requires c.members.k (get_or c.args.members.now c.members.k d).number lt (number-at c.args.members.now c.members.k d c.members-test.true)
    g.K.Maker.first c.in-Err.err c.members.invariant.so)

pub members-preserved : goal.members-preserved
members-preserved g c =
    let lt : c.members.k < length (numbers_in c.args.members.now) = (let n = numbers-long c.args.members.now in omega (arith, c.members-test.true)) in
    let d : Member = record { number = 0; rest = 0 } in
    let is = number-at c.args.members.now c.members.k d c.members-test.true in
    let so = subst (λ i. IsSpokenAt g.K.Maker.first c.args.at (rec_at i c.args.earlier.now.records)) is (subst (IsSpokenAt g.K.Maker.first c.args.at) c.at.ensures c.in-Ok.ensures.so) in
    record {
      so = each-more (λ i. IsSpokenAt g.K.Maker.first c.args.at (rec_at i c.args.earlier.now.records)) (numbers_in c.args.members.now) c.members.k 0 lt c.members.invariant.so so;
      starts = rw add-one (c.in-Ok.ensures.starts ∙ ap (started 1) c.members.invariant.starts);
    }

pub unreachable-requires : goal.unreachable-requires
unreachable-requires g c =
    let le : length (numbers_in c.args.members.now) ≤ c.members.k = (let n = numbers-long c.args.members.now in omega (arith, c.members-test.false)) in
    torn-none g.K.Maker.first (all-last g.K.Maker.first g.met.K.Maker.command) c.args.earlier.now.records c.args.at (numbers_in c.args.members.now) c.requires
    (each-full (λ i. IsSpokenAt g.K.Maker.first c.args.at (rec_at i c.args.earlier.now.records)) (numbers_in c.args.members.now) c.members.k le c.members.invariant.so)
