use Rattle.std.proofs.Common.{◌≡◌, ◌+◌, ◌-◌, ◌/◌, ◌%◌, ◌≤◌, List, ℕ, slice_index, refl, ap, ◌∙◌, arith, ◌<◌, ◌⊎◌, inl, inr, length, vec_len, sym}
use Rattle.std.specs.Prelude.{bit_or}
use Rattle.std.proofs.lemmas.Bool.{eqb-true}
use Rattle.ut_places.specs.declared.places.Places.{Places}
use Rattle.ut_places.specs.Places.{Has, word_at}
use Rattle.ut_places.proofs.BitLemmas.{has-own, bit-or, same-word, joined-word}
use Rattle.ut_places.proofs.places.Places.add.Goals as goal

pub returns : goal.returns
returns c j =
    let self = c.args.self.now in
    let other = c.args.other.now in
    let begun = c.begin.new.self in
    let k = j / 64 in
    let from : ℕ = other.before - begun.before in
    let low : begun.before ≤ other.before = c.in_ok-begin.ensures.before in
    let z : other.before ≡ begun.before + (other.before - begun.before) = omega arith in
    let old : Places = record { before = begun.before; words = c.lengthen.new.words } in
    let new : Places = record { before = begun.before; words = c.unite.new.words } in
    let was : word_at old k ≡ word_at self k = same-word c.lengthen.new.words.items begun.words.items k begun.before begun.before refl c.in_ok-lengthen.ensures.same ∙ c.in_ok-begin.ensures.same k in
    let joined = joined-word old new other from refl z c.unite.ensures.same (λ i. c.unite.ensures.both i ∙ ap (λ (xs : List ℕ). bit_or (slice_index c.lengthen.new.words.items (from + i)) (slice_index xs i)) c.as_slice.ensures.value) k in
    bit-or (word_at self k) (word_at other k) (word_at new k) (j % 64) (joined ∙ ap (λ w. bit_or w (word_at other k)) was)

pub returns-then-is_empty : goal.returns-then-is_empty
returns-then-is_empty c j = (λ h. inl h, from)
  where
    from : Has c.args.self.now j ⊎ Has c.args.other.now j → Has c.args.self.now j
    from (inl h) = h
    from (inr h) =
        let own = has-own c.args.other.now j h in
        let none : length c.args.other.now.words.items ≡ 0 = omega (arith, c.args.other.now.words.ok.0, eqb-true (vec_len c.args.other.now.words) 0 (sym c.is_empty.ensures ∙ c.if-is_empty.true)) in
        let low : c.args.other.now.before ≤ j / 64 = own.0 in
        let high : j / 64 < c.args.other.now.before + length c.args.other.now.words.items = own.1 in
        absurd (omega arith)
