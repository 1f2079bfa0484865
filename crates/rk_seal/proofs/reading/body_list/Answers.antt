use Rattle.std.proofs.Common.{◌≡◌, ◌∙◌, ◌<◌, ◌^◌, length, sym, ap, true, false, List, arith}
use Rattle.rk_seal.specs.declared.ops.Op.{Op}
use Rattle.rk_seal.specs.Spelling.{list_body}
use Rattle.rk_seal.proofs.ListLemmas.{parsed_calls}
use Rattle.rk_seal.proofs.reading.body_list.Goals as goal

pub returns-in-None-clause-only : goal.returns-in-None-clause-only
returns-in-None-clause-only c = λ calls are e.
    let small : length c.args.front.now < 2 ^ 64 = omega arith in
    let read = c.in_ok-candidate.ensures in
    let is = parsed_calls c.args.front.now calls are small e in cc

pub returns-then-is_same-clause-only : goal.returns-then-is_same-clause-only
returns-then-is_same-clause-only c = λ calls are e.
    let small : length c.args.front.now < 2 ^ 64 = omega arith in
    let read = c.in_ok-candidate.ensures in
    let is = parsed_calls c.args.front.now calls are small e in cc

pub returns-else-is_same-clause-only : goal.returns-else-is_same-clause-only
returns-else-is_same-clause-only c = λ calls are e.
    let small : length c.args.front.now < 2 ^ 64 = omega arith in
    let read = c.in_ok-candidate.ensures in
    let is = parsed_calls c.args.front.now calls are small e in
    let items : c.in-Some.list ≡ calls = cc in
    let alike : c.in_ok-again-in-Some.again.items ≡ c.args.front.now = c.in_ok-again-in-Some.ensures.body ∙ ap (λ (r : List Op). list_body r) items ∙ sym e in
    let bad : false ≡ true = sym c.if-is_same.false ∙ c.is_same.ensures.1 (c.deref.ensures.value ∙ alike) in cc
