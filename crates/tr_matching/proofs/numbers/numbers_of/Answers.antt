use Rattle.std.proofs.Common.{◌≡◌, ◌+◌, ◌++◌, List, ℕ, Some, None, sym, ◌∙◌, ap, arith}
use Rattle.std.specs.Option.{option_copied}
use Rattle.tr_nodes.proofs.GetLemmas.{get_some}
use Rattle.tr_record.specs.Generations.{records}
use Rattle.tr_record.specs.Places.{places_from}
use Rattle.tr_matching.proofs.NumberLemmas.{tables-all, tables-next, tables-none}
use Rattle.tr_matching.proofs.numbers.numbers_of.Goals as goal

pub tables-init : goal.tables-init
tables-init c = ap (λ (l : List ℕ). l ++ places_from 0 c.args.key.now (records c.args.kept.now)) c.new-numbers.ensures.items ∙ tables-none c.args.key.now c.args.kept.now

pub unreachable-requires : goal.unreachable-requires
unreachable-requires c =
    let some = get_some c.args.kept.now c.tables.k (omega (arith, c.tables-test.true, c.len-k-end.ensures.value)) in
    let clash : None ≡ Some some.0 = ap option_copied (sym c.in_default.is) ∙ c.table.ensures ∙ some.1 in
    absurd cc

pub tables-preserved : goal.tables-preserved
tables-preserved c =
    let there : Some c.in-Some.table.now ≡ _ = ap option_copied (sym c.in-Some.is) ∙ c.table.ensures in
    tables-next c.args.key.now c.args.kept.now c.tables.k c.tables.first c.in_ok-first.first c.in-Some.table.now c.tables.numbers.items c.add_numbers.new.numbers.items _ (sym there)
    (c.in_ok-first.ensures ∙ ap (λ n. c.tables.first + n) c.len.ensures) c.in_ok-add_numbers.ensures c.tables.invariant

pub returns : goal.returns
returns c =
    tables-all c.args.key.now c.args.kept.now c.tables.k c.tables.first c.tables.numbers.items _ (omega (arith, c.tables-test.false, c.len-k-end.ensures.value)) c.tables.invariant
