use Rattle.std.proofs.Common.{arith}
use Rattle.sh_arith.proofs.Texts.{far_start, told_stops, told_done, told_next, told_shorter}
use Rattle.sh_arith.proofs.read.steps_of.Goals as goal

pub tokens-init : goal.tokens-init
tokens-init c = (rw c.new-reading.ensures (far_start c.args.text.now), omega arith)

pub returns-then-not-goes_on-clause-err : goal.returns-then-not-goes_on-clause-err
returns-then-not-goes_on-clause-err c =
    told_stops c.args.text.now c.tokens.rest.now c.tokens.at c.tokens.reading c.read.new.self c.in-Ok.next.token c.in-Ok.next.start c.in-Ok-read.goes_on c.tokens.invariant.0 c.in-Ok.ensures.token c.in-Ok.ensures.start c.in-Ok-read.ensures c.if-not-goes_on.true

pub returns-then-last-clause-ok : goal.returns-then-last-clause-ok
returns-then-last-clause-ok c =
    told_done c.args.text.now c.tokens.rest.now c.tokens.at c.tokens.reading c.read.new.self c.in-Ok.next.token c.in-Ok-read.goes_on c.is_end-last.result c.into_steps.result.items c.tokens.invariant.0 c.in-Ok.ensures.token c.in-Ok-read.ensures c.if-not-goes_on.false c.is_end-last.ensures c.if-last.true c.into_steps.ensures

pub tokens-smaller : goal.tokens-smaller
tokens-smaller c =
    told_shorter c.args.text.now c.tokens.rest.now c.split_at.result.1.now c.tokens.at c.in-Ok.next.end c.tokens.reading c.read.new.self c.in-Ok.next.token c.in-Ok-read.goes_on c.is_end-last.result c.tokens.invariant.0 c.in-Ok.ensures.token c.in-Ok.ensures.end c.in-Ok-read.ensures c.if-not-goes_on.false c.is_end-last.ensures c.if-last.false c.split_at.ensures.back

pub tokens-preserved : goal.tokens-preserved
tokens-preserved c =
    (told_next c.args.text.now c.tokens.rest.now c.split_at.result.1.now c.tokens.at c.in-Ok.next.end c.tokens.reading c.read.new.self c.in-Ok.next.token c.in-Ok-read.goes_on c.is_end-last.result c.tokens.invariant.0 c.in-Ok.ensures.token c.in-Ok.ensures.end c.in-Ok-read.ensures c.if-not-goes_on.false c.is_end-last.ensures c.if-last.false c.split_at.ensures.back, omega (arith, c.split_at.ensures.back_len, c.tokens.invariant.1))
