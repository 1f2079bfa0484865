use Rattle.std.proofs.Common.{◌≡◌, List, ℕ, ◌∷◌, [], ◌++◌, Bool, ap, ◌∙◌, arith}
use Rattle.ut_bre.specs.Bits.{bits, all_bits}
use Rattle.ut_bre.proofs.BitLemmas.{low-byte, low-more, push-few, push-full}
use Rattle.ut_bre.proofs.row.Row.push.Goals as goal

pub with_bit-last-requires : goal.with_bit-last-requires
with_bit-last-requires c = low-byte c.self.inside.count c.self.inside.last c.self.invariant.0 c.self.invariant.1

pub invariant_of-self : goal.invariant_of-self
invariant_of-self c = (omega arith, low-more c.self.inside.count c.self.inside.last c.with_bit-last.result c.args.leads c.with_bit-last.ensures c.self.invariant.1)

pub returns-then-self-lt7 : goal.returns-then-self-lt7
returns-then-self-lt7 c =
    let r = c.self.inside in
    push-few r.bytes.items r.count r.last c.with_bit-last.result c.args.leads c.with_bit-last.ensures ∙ ap (λ (xs : List Bool). xs ++ c.args.leads ∷ []) c.self.view_is

pub returns : goal.returns
returns c =
    let r = c.self.inside in
    let seven : r.count ≡ 7 = omega (arith, c.self.invariant.0) in
    ap (λ (bs : List ℕ). all_bits bs ++ bits 0 0) c.in_ok-push.ensures.items ∙ (push-full r.bytes.items r.count r.last c.with_bit-last.result c.args.leads seven c.with_bit-last.ensures ∙ ap (λ (xs : List Bool). xs ++ c.args.leads ∷ []) c.self.view_is)
