use Rattle.std.proofs.Common.{◌≡◌, ◌+◌, ◌∙◌, Some, None, ap, sym, arith}
use Rattle.std.specs.Option.{option_copied}
use Rattle.tr_nodes.proofs.GetLemmas.{get_some}
use Rattle.rk_replay.proofs.PaidLemmas.{count-all, count-next}
use Rattle.rk_replay.proofs.checking.record_count.Goals as goal

pub unreachable-requires : goal.unreachable-requires
unreachable-requires c =
    let some = get_some c.args.kept.now c.tables.k (omega (arith, c.tables-test.true, c.len-k-end.ensures.value)) in
    let clash : None ≡ Some some.0 = ap option_copied (sym c.in_default.is) ∙ c.table.ensures ∙ some.1 in
    absurd cc

pub tables-preserved : goal.tables-preserved
tables-preserved c =
    let there : Some c.in-Some.table.now ≡ _ = ap option_copied (sym c.in-Some.is) ∙ c.table.ensures in
    count-next c.args.kept.now c.tables.k c.tables.all c.in-Some-checked_add.more _ c.in-Some.table.now (sym there) (c.in-Some-checked_add.ensures.1 ∙ ap (λ n. c.tables.all + n) c.len.ensures) c.tables.invariant

pub returns : goal.returns
returns c = count-all c.args.kept.now c.tables.k c.tables.all _ (omega (arith, c.tables-test.false, c.len-k-end.ensures.value)) c.tables.invariant
