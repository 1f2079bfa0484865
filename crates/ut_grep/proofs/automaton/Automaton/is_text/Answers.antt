use Rattle.std.proofs.Common.{◌≡◌, ◌+◌, [], ◌∷◌, ◌++◌, get_or, take, false, sym, ap, ◌∙◌, arith}
use Rattle.std.proofs.lemmas.List.{take_more}
use Rattle.ut_grep.specs.Reading.{begins_any}
use Rattle.ut_grep.specs.Tries.{texts_of}
use Rattle.ut_grep.proofs.TrieLemmas.{front-none}
use Rattle.ut_grep.proofs.automaton.Automaton.is_text.Goals as goal

pub returns-in-None : goal.returns-in-None
returns-in-None c =
    let t = c.args.self.now.trie in
    let line = c.args.line.now in
    let i = c.loop-b.b-index in
    let none : begins_any (texts_of t) (take (i + 1) line) ≡ false =
    ap (begins_any (texts_of t)) (take_more line i 0 (omega arith)) ∙ (ap (λ z. begins_any (texts_of t) (z ++ get_or line i 0 ∷ [])) (sym c.loop-b.invariant.1) ∙ c.in-None.ensures) in
    front-none (texts_of t) line (i + 1) none
