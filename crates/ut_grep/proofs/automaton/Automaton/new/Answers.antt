use Rattle.std.proofs.Common.{List, ap, ◌∙◌, subst, sym}
use Rattle.rk_base.specs.Text.{Text}
use Rattle.ut_grep.specs.Ordered.{AreOrdered}
use Rattle.ut_grep.specs.Standing.{stands, stands_any}
use Rattle.ut_grep.proofs.OrderLemmas.{any-sorted, ordered-sorted}
use Rattle.ut_grep.proofs.automaton.Automaton.new.Goals as goal

pub new-requires : goal.new-requires
new-requires c =
    let P : List Text → Type 0 = λ z. AreOrdered z in
    subst P (sym c.in_ok-sort_texts.ensures) (ordered-sorted c.args.texts.items)

pub returns : goal.returns
returns c = λ whole line. ap (λ z. stands_any whole z line) (c.in_ok-trie.ensures.texts ∙ c.in_ok-sort_texts.ensures) ∙ any-sorted (stands whole line) c.args.texts.items
