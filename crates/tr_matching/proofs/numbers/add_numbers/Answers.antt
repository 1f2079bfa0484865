use Rattle.std.proofs.Common.{ℕ, ◌++◌, ◌∷◌, [], List, take, sym, ◌∙◌, ap, append_assoc}
use Rattle.tr_record.specs.Places.{places_from}
use Rattle.tr_matching.proofs.NumberLemmas.{number-next, number-there, numbers-all}
use Rattle.tr_matching.proofs.numbers.add_numbers.Goals as goal

pub unreachable-requires : goal.unreachable-requires
unreachable-requires c =
    number-there c.args.key.now c.args.table.now c.ordinals.ordinal c.count-ordinal-end.result c.as_slice-numbered.ensures.numbered c.count-ordinal-end.ensures c.ordinals-test.true
    c.in_default.ensures.none

pub ordinals-preserved : goal.ordinals-preserved
ordinals-preserved c =
    let next = number-next c.args.key.now c.args.table.now c.args.first c.ordinals.ordinal c.in-Some.i c.in_ok-number.number c.as_slice-numbered.ensures.numbered
    c.in-Some.ensures.some.0 c.in-Some.ensures.some.1 c.in-Some.ensures.some.2 c.in_ok-number.ensures in
    c.in_ok-push.ensures.items
    ∙ ap (λ (l : List ℕ). l ++ c.in_ok-number.number ∷ []) c.ordinals.invariant
    ∙ append_assoc c.args.numbers.now.items (take c.ordinals.ordinal (places_from c.args.first c.args.key.now c.args.table.now)) (c.in_ok-number.number ∷ [])
    ∙ ap (λ (l : List ℕ). c.args.numbers.now.items ++ l) (sym next)

pub returns : goal.returns
returns c =
    c.ordinals.invariant
    ∙ ap (λ (l : List ℕ). c.args.numbers.now.items ++ l) (numbers-all c.args.key.now c.args.table.now c.args.first c.ordinals.ordinal c.count-ordinal-end.result c.count-ordinal-end.ensures c.ordinals-test.false)
