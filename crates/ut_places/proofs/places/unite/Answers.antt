use Rattle.std.proofs.Common.{◌≡◌, ◌+◌, inl, inr, length, slice_index, sym, ap, ◌∙◌, arith}
use Rattle.std.specs.Prelude.{bit_or}
use Rattle.std.proofs.lemmas.Bool.{cases_lt}
use Rattle.std.proofs.lemmas.List.{get_or_past}
use Rattle.ut_places.proofs.BitLemmas.{or-none}
use Rattle.ut_places.proofs.places.unite.Goals as goal

pub returns-clause-both : goal.returns-clause-both
returns-clause-both c k =
    let a = c.args in
    let n = length a.more.now in
    elim (cases_lt k n) as (λ w. slice_index c.words.words.items (a.from + k) ≡ bit_or (slice_index a.words.now.items (a.from + k)) (slice_index a.more.now k)) [
      | inl lt ↦ c.words.invariant.done k (omega arith)
      | inr ge ↦ (c.words.invariant.high k (omega arith) ∙ sym (or-none (slice_index a.words.now.items (a.from + k))) ∙ ap (bit_or (slice_index a.words.now.items (a.from + k))) (sym (get_or_past a.more.now k 0 ge)))
    ]
