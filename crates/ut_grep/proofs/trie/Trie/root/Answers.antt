use Rattle.std.proofs.Common.{refl, ap, ◌∙◌, [], arith}
use Rattle.ut_grep.specs.Reading.{is_any}
use Rattle.ut_grep.proofs.GrowingLemmas.{root-trie}
use Rattle.ut_grep.proofs.trie.Trie.root.Goals as goal

pub returns-clause-trie : goal.returns-clause-trie
returns-clause-trie c =
    root-trie record { texts = c.args.texts; states = c.in_ok-states.states; bytes = c.in_ok-bytes.bytes; starts = c.in_ok-starts.starts } _ c.requires c.in_ok-states.ensures.items c.in_ok-bytes.ensures.items c.in_ok-starts.ensures.items refl (let e = c.in_ok-number.ensures in let f = c.len.ensures in omega (arith, c.args.texts.ok.0, c.args.texts.ok.1)) refl (c.has_empty-is_text.ensures ∙ ap (λ z. is_any z []) c.as_slice.ensures.value) refl
