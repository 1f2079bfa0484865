use Rattle.std.proofs.Common.{◌≡◌, ℕ, zero, suc, ◌≤◌, ◌++◌, List, [], ◌∷◌, take, drop, refl, sym, ap, ◌∙◌, arith}
use Rattle.std.proofs.lemmas.List.{append-nil, drop_all}
use Rattle.ut_text.specs.Heads.{first_lines}
use Rattle.ut_text.proofs.head.first_lines.Goals as goal
use Rattle.ut_text.proofs.head.first_lines.Goals.{then-bytes-test+else-left-gt0, else-bytes-test}

no_lines : (n : ℕ) (text : List ℕ) → n ≤ 0 → first_lines n text ≡ []
no_lines zero [] h = refl
no_lines zero (b ∷ bs) h = refl
no_lines (suc n) text h = absurd (omega arith)

ended : (number left at : ℕ) (text : List ℕ) → take at text ++ first_lines left (drop at text) ≡ first_lines number text → first_lines left (drop at text) ≡ [] → take at text ≡ first_lines number text
ended number left at text e f = sym (ap (λ x. take at text ++ x) f ∙ append-nil (take at text)) ∙ e

pub returns-clause-lines : goal.returns-clause-lines
returns-clause-lines c =
    c.split_at.ensures.front ∙ ended c.args.number c.bytes.left c.bytes.at c.args.text.now c.bytes.invariant.1
    (elim c.bytes-test.branch [
      | then-bytes-test+else-left-gt0 w ↦ no_lines c.bytes.left (drop c.bytes.at c.args.text.now) (omega arith)
      | else-bytes-test w ↦ ap (first_lines c.bytes.left) (drop_all c.bytes.at c.args.text.now (omega arith))
    ])
