use Rattle.std.proofs.Common.{◌∙◌, ◌+◌, arith}
use Rattle.std.proofs.lemmas.List.{get_or_default}
use Rattle.ut_grep.proofs.TrieLemmas.{next-none, next-some}
use Rattle.ut_grep.proofs.trie.Trie.next.Goals as goal

pub returns-in-None : goal.returns-in-None
returns-in-None c =
    let t = c.args.self.now in
    let start = c.index.ensures ∙ get_or_default t.starts.items c.args.at _ 0 (omega arith) in
    let end = c.index-2.ensures ∙ get_or_default t.starts.items (c.args.at + 1) _ 0 (omega arith) in
    next-none t c.requires.trie c.args.at c.args.b c.index.result.now c.index-2.result.now c.deref.result.now c.requires.at start end c.deref.ensures.value (λ k lt is. c.in-None.ensures k (omega arith) lt is)

pub returns-in-Some : goal.returns-in-Some
returns-in-Some c =
    let t = c.args.self.now in
    let start = c.index.ensures ∙ get_or_default t.starts.items c.args.at _ 0 (omega arith) in
    let end = c.index-2.ensures ∙ get_or_default t.starts.items (c.args.at + 1) _ 0 (omega arith) in
    next-some t c.requires.trie c.args.at c.args.b c.index.result.now c.index-2.result.now c.deref.result.now c.requires.at start end c.deref.ensures.value c.in-Some.found c.in-Some.ensures.0.high c.in-Some.ensures.1
