use Rattle.std.proofs.Common.{◌∙◌, arith}
use Rattle.ut_grep.proofs.TrieLemmas.{link-missed}
use Rattle.ut_grep.proofs.trie.Trie.step.Goals as goal

pub links-preserved : goal.links-preserved
links-preserved c =
    let trie = c.requires.trie in
    let missed = link-missed c.args.self.now c.links.at c.args.b c.index.result.now trie (omega arith) c.if-at-eq0.false c.index.ensures c.in-None.ensures in
    (omega arith, missed.1 ∙ c.links.invariant.1)

pub links-smaller : goal.links-smaller
links-smaller c =
    let missed = link-missed c.args.self.now c.links.at c.args.b c.index.result.now c.requires.trie (omega arith) c.if-at-eq0.false c.index.ensures c.in-None.ensures in
    omega arith
