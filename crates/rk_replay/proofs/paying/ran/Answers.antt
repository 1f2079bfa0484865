use Rattle.std.proofs.Common.{◌≡◌, ◌∙◌, Some, None, ap, sym, arith, rules}
use Rattle.std.specs.Option.{option_copied}
use Rattle.tr_nodes.proofs.GetLemmas.{get_some}
use Rattle.tr_record.specs.Generations.{records}
use Rattle.rk_replay.proofs.PaidLemmas.{open-alike, open-first, open-last, open-next, ran-all, ran-one}
use Rattle.rk_replay.proofs.paying.ran.Goals as goal

pub tables-init : goal.tables-init
tables-init c = open-first c.args.kept.now c.args.rec.now

pub unreachable-requires : goal.unreachable-requires
unreachable-requires c =
    let some = get_some c.args.kept.now c.tables.k (omega (arith, c.tables-test.true, c.len-k-end.ensures.value)) in
    let clash : None ≡ Some some.0 = ap option_copied (sym c.in_default.is) ∙ c.table.ensures ∙ some.1 in
    absurd cc

pub tables-preserved : goal.tables-preserved
tables-preserved c =
    let there : Some c.in-Some.table.now ≡ _ = ap option_copied (sym c.in-Some.is) ∙ c.table.ensures in
    open-next c.args.kept.now c.args.rec.now c.tables.k c.in-Some.table.now (sym there) c.tables.invariant (c.all_differ.ensures.differ (search rules))

pub returns-then-not-all_differ : goal.returns-then-not-all_differ
returns-then-not-all_differ c =
    let there : Some c.in-Some.table.now ≡ _ = ap option_copied (sym c.in-Some.is) ∙ c.table.ensures in
    ran-one (records c.args.kept.now) c.args.rec.now (open-alike c.args.kept.now c.args.rec.now c.tables.k c.in-Some.table.now (sym there) c.tables.invariant (c.all_differ.ensures.alike (search rules)))

pub returns : goal.returns
returns c =
    ran-all (records c.args.kept.now) c.args.rec.now (open-last c.args.kept.now c.args.rec.now c.tables.k (omega (arith, c.tables-test.false, c.len-k-end.ensures.value)) c.tables.invariant)
