use Rattle.std.proofs.Common.{◌≡◌, ◌+◌, take, true, false, ◌∙◌, arith}
use Rattle.ut_grep.specs.Standing.{stands_any}
use Rattle.ut_grep.specs.Tries.{texts_of}
use Rattle.ut_grep.proofs.TrieLemmas.{read-front, read-stands, root-stands, stands-front}
use Rattle.ut_grep.proofs.automaton.Automaton.occurs.Goals as goal

pub returns-then-index : goal.returns-then-index
returns-then-index c =
    let t = c.args.self.now.trie in
    let holds : stands_any false (texts_of t) (take 0 c.args.line.now) ≡ true = root-stands t c.index.result.now c.args.self.now.whole.trie c.index.ensures ∙ c.if-index.true in
    stands-front (texts_of t) c.args.line.now 0 holds

pub returns-then-index-2 : goal.returns-then-index-2
returns-then-index-2 c =
    let t = c.args.self.now.trie in
    let line = c.args.line.now in
    let i = c.loop-b.b-index in
    let trie = c.args.self.now.whole.trie in
    let front = read-front t trie line i c.step-at.result (omega arith) c.loop-b.at c.loop-b.invariant.1 c.step-at.ensures.front in
    let holds = read-stands t trie line i c.step-at.result (omega arith) c.index-in-loop-b.result.now c.step-at.ensures.within c.index-in-loop-b.ensures front c.loop-b.invariant.2 in
    stands-front (texts_of t) line (i + 1) (holds ∙ c.if-index-2.true)

pub loop-b-preserved : goal.loop-b-preserved
loop-b-preserved c =
    let t = c.args.self.now.trie in
    let line = c.args.line.now in
    let i = c.loop-b.b-index in
    let trie = c.args.self.now.whole.trie in
    let front = read-front t trie line i c.step-at.result (omega arith) c.loop-b.at c.loop-b.invariant.1 c.step-at.ensures.front in
    let holds = read-stands t trie line i c.step-at.result (omega arith) c.index-in-loop-b.result.now c.step-at.ensures.within c.index-in-loop-b.ensures front c.loop-b.invariant.2 in
    (c.step-at.ensures.within, front, holds ∙ c.if-index-2.false)
