use Rattle.std.proofs.Common.{◌≡◌, ◌+◌, [], length, nat_eq, sym, ap, ◌∙◌, arith, eq-eqb, eqb-true}
use Rattle.std.specs.Prelude.{◌||◌}
use Rattle.std.proofs.lemmas.List.{get_or_default}
use Rattle.ut_grep.specs.Tries.{text_at, no_state, state_at}
use Rattle.ut_grep.proofs.GrowingLemmas.{new-state}
use Rattle.ut_grep.proofs.ReadingLemmas.{never_true}
use Rattle.ut_grep.proofs.trie.Trie.new_state.Goals as goal

pub returns-then-is_text : goal.returns-then-is_text
returns-then-is_text c =
    let t = c.args.self.now in
    let parent : c.index.result.now ≡ state_at t c.args.at = c.index.ensures ∙ get_or_default t.states.items c.args.at _ no_state (omega arith) in
    let text : c.len.result ≡ length (text_at t c.args.low) = c.len.ensures ∙ ap length (c.index-2.ensures ∙ get_or_default t.texts.items c.args.low _ [] (omega arith)) in
    new-state t c.requires.trie c.args.at c.args.b c.args.low c.args.high c.link-link.result _ c.requires.state c.requires.low c.requires.group c.link-link.ensures.within c.link-link.ensures.front
    c.in_ok-number.ensures c.in_ok-number-2.ensures (c.in_ok-number-3.ensures ∙ ap (λ z. z.length + 1) parent) c.in_ok-number-4.ensures
    (ap (λ z. nat_eq z (c.index.result.now.length + 1)) text ∙ ap (λ z. nat_eq (length (text_at t c.args.low)) z) (sym c.in_ok-number-3.ensures))
    (let is = eq-eqb c.len.result (c.index.result.now.length + 1) c.if-is_text.true in is ∙ sym (ap (λ z. z || (state_at t c.link-link.result).holds) is))

pub returns-else-is_text : goal.returns-else-is_text
returns-else-is_text c =
    let t = c.args.self.now in
    let parent : c.index.result.now ≡ state_at t c.args.at = c.index.ensures ∙ get_or_default t.states.items c.args.at _ no_state (omega arith) in
    let linked : c.index-else-is_text.result.now ≡ state_at t c.link-link.result = c.index-else-is_text.ensures ∙ get_or_default t.states.items c.link-link.result _ no_state (omega arith) in
    let text : c.len.result ≡ length (text_at t c.args.low) = c.len.ensures ∙ ap length (c.index-2.ensures ∙ get_or_default t.texts.items c.args.low _ [] (omega arith)) in
    new-state t c.requires.trie c.args.at c.args.b c.args.low c.args.high c.link-link.result _ c.requires.state c.requires.low c.requires.group c.link-link.ensures.within c.link-link.ensures.front
    c.in_ok-number.ensures c.in_ok-number-2.ensures (c.in_ok-number-3.ensures ∙ ap (λ z. z.length + 1) parent) c.in_ok-number-4.ensures
    (ap (λ z. nat_eq z (c.index.result.now.length + 1)) text ∙ ap (λ z. nat_eq (length (text_at t c.args.low)) z) (sym c.in_ok-number-3.ensures))
    (let isnt = never_true (nat_eq c.len.result (c.index.result.now.length + 1)) (λ e. c.if-is_text.false (eqb-true _ _ e)) in ap (λ z. z.holds) linked ∙ sym (ap (λ z. z || (state_at t c.link-link.result).holds) isnt))
