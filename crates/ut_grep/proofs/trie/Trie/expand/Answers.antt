use Rattle.std.proofs.Common.{◌≡◌, ℕ, ◌∷◌, [], ◌++◌, get_or, refl, sym, ap, ◌∙◌, subst, arith}
use Rattle.std.specs.List.{slice_get}
use Rattle.std.proofs.lemmas.List.{get_or_default}
use Rattle.ut_grep.specs.declared.trie.State.{State}
use Rattle.ut_grep.specs.Tries.{count, text_at, no_state, state_at}
use Rattle.ut_grep.proofs.GrowingLemmas.{IsPart, part-first, part-skip, part-group, part-added, is-expanded, run-by}
use Rattle.ut_grep.proofs.trie.Trie.expand.Goals as goal

pub runs-init : goal.runs-init
runs-init c =
    let old = c.args.self.now in
    let at = c.args.at in
    let read : (s : State) → s ≡ get_or old.states.items at s → s ≡ state_at old at = λ s is. is ∙ get_or_default old.states.items at s no_state c.requires.state in
    let P : ℕ → Type 0 = λ z. IsPart old old at z in (
      subst P (sym (ap (λ z. z.low) (read c.index-3.result.now c.index-3.ensures))) (part-first old c.requires.trie at c.requires.state),
      ap (λ z. z.length) (read c.index.result.now c.index.ensures),
      ap (λ z. z.high) (read c.index-2.result.now c.index-2.ensures),
    )

pub runs-preserved-in-None : goal.runs-preserved-in-None
runs-preserved-in-None c =
    let old = c.args.self.now in
    let part = c.runs.invariant in
    let none = ap (slice_get (text_at c.runs.self c.runs.low)) (sym part.1) ∙ (sym c.byte.ensures ∙ c.in-None.is) in
    (part-skip old c.requires.trie c.args.at c.requires.state c.runs.self c.runs.low part.0 none, part.1, part.2)

pub new_state-requires-clause-group : goal.new_state-requires-clause-group
new_state-requires-clause-group c =
    let old = c.args.self.now in
    let part = c.runs.invariant in
    let byte = ap (slice_get (text_at c.runs.self c.runs.low)) (sym part.1) ∙ (sym c.byte.ensures ∙ c.in-Some.is) in
    let run = run-by c.runs.self _ _ c.in-Some.b c.runs.low _ _ c.run_end-end.result part.1 part.2 c.run_end-end.ensures in
    part-group old c.requires.trie c.args.at c.requires.state c.runs.self c.runs.low part.0 c.in-Some.b c.run_end-end.result byte run

pub runs-preserved : goal.runs-preserved
runs-preserved c =
    let old = c.args.self.now in
    let part = c.runs.invariant in
    let byte = ap (slice_get (text_at c.runs.self c.runs.low)) (sym part.1) ∙ (sym c.byte.ensures ∙ c.in-Some.is) in
    let run = run-by c.runs.self _ _ c.in-Some.b c.runs.low _ _ c.run_end-end.result part.1 part.2 c.run_end-end.ensures in
    (part-added old c.requires.trie c.args.at c.requires.state c.runs.self c.runs.low part.0 c.in-Some.b c.run_end-end.result byte run c.add.new.self c.in_ok-add-in-Some.ensures, part.1, part.2)

pub returns : goal.returns
returns c =
    let old = c.args.self.now in
    let now = c.runs.self in
    let part = c.runs.invariant in
    let number : c.in_ok-number.field-0 ≡ count now = let e = c.in_ok-number.ensures in let f = c.len.ensures in omega (arith, now.states.ok.0, now.states.ok.1) in
    is-expanded old now _ c.requires.trie c.args.at c.runs.low c.requires.state c.requires.at c.requires.start part.0 (omega arith) refl refl refl (c.in_ok-push.ensures.items ∙ ap (λ z. now.starts.items ++ z ∷ []) number)
