use Rattle.std.proofs.Common.{◌∙◌, arith}
use Rattle.ut_grep.proofs.TrieLemmas.{root-linked, link-linked}
use Rattle.ut_grep.proofs.trie.Trie.link.Goals as goal

pub step-requires-clause-from : goal.step-requires-clause-from
step-requires-clause-from c =
    let linked = link-linked c.args.self.now c.args.at c.args.b c.index.result.now c.requires.trie c.requires.state c.if-at-eq0.false c.index.ensures in
    omega arith

pub returns-then-at-eq0-clause-front : goal.returns-then-at-eq0-clause-front
returns-then-at-eq0-clause-front c = root-linked c.args.self.now c.args.at c.args.b c.requires.trie c.if-at-eq0.true

pub returns-else-at-eq0-clause-front : goal.returns-else-at-eq0-clause-front
returns-else-at-eq0-clause-front c =
    let linked = link-linked c.args.self.now c.args.at c.args.b c.index.result.now c.requires.trie c.requires.state c.if-at-eq0.false c.index.ensures in
    c.step.ensures.front ∙ linked.1
