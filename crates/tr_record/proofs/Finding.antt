-- The record under a key and an ordinal.
use Rattle.std.proofs.Common.{◌≡◌, ◌≢◌, ℕ, zero, suc, ◌<◌, Bool, true, false, eqb, ◌&&◌, ◌==◌, List, [], ◌∷◌, length, refl, ◌∙◌, ap, arith, Some, None, get_or}
use Rattle.std.specs.Prelude.{find}
use Rattle.std.proofs.lemmas.Bool.{eqb-true}
use Rattle.rk_calls.specs.Keys.{KeyValue, same_key}
use Rattle.tr_record.specs.declared.records.Record.{Record}
use Rattle.tr_record.specs.Rec.{rec_at, fresh_rec, no_key, found}
use Rattle.tr_record.proofs.KeyLemmas.{same_key-Decides}

find-some : {X : Type 0} (test : X → Bool) (xs : List X) (i : ℕ) (d : X) → i < length xs → test (get_or xs i d) ≡ true → ((k : ℕ) → k < i → test (get_or xs k d) ≡ false) → find test xs ≡ Some (get_or xs i d)
find-some test [] i d h t f = absurd (omega arith)
find-some test (x ∷ xs) zero d h t f = rw t refl
find-some test (x ∷ xs) (suc i) d h t f = let e : test x ≡ false = f 0 (omega arith) in rw e (find-some test xs i d (omega arith) t (λ k lt. f (suc k) (omega arith)))

find-none : {X : Type 0} (test : X → Bool) (xs : List X) (d : X) → ((k : ℕ) → k < length xs → test (get_or xs k d) ≡ false) → find test xs ≡ None
find-none test [] d f = refl
find-none test (x ∷ xs) d f = let e : test x ≡ false = f 0 (omega arith) in rw e (find-none test xs d (λ k lt. f (suc k) (omega arith)))

both-true : (a b : Bool) → a ≡ true → b ≡ true → (a && b) ≡ true
both-true a b h k = ap (λ (x : Bool). x && b) h ∙ k

false-unless : (a b : Bool) → (a ≡ true → b ≡ true → ⊥) → (a && b) ≡ false
false-unless true true h = absurd (h refl refl)
false-unless true false h = refl
false-unless false b h = refl

eqb-is : (m n : ℕ) → m ≡ n → eqb m n ≡ true
eqb-is m n e = grind arith

module _ (old : List Record) (key : KeyValue) (ordinal : ℕ) where
  abbrev is : Record → Bool
  is rec = same_key rec.key key && (rec.ordinal == ordinal)

  isnt : (rec : Record) → (rec.key ≡ key → rec.ordinal ≢ ordinal) → is rec ≡ false
  isnt rec h = false-unless (same_key rec.key key) (rec.ordinal == ordinal) (λ a b. h ((same_key-Decides rec.key key).0 a) (eqb-true rec.ordinal ordinal b))

  pub found-some : (i : ℕ) → i < length old → (rec_at i old).key ≡ key → (rec_at i old).ordinal ≡ ordinal → ((k : ℕ) → k < i → (rec_at k old).key ≡ key → (rec_at k old).ordinal ≢ ordinal) → found old key ordinal ≡ Some (rec_at i old)
  unfolding found
  found-some i h ek eo before =
      find-some is old i (fresh_rec no_key 0) h
      (both-true (same_key (rec_at i old).key key) ((rec_at i old).ordinal == ordinal) ((same_key-Decides (rec_at i old).key key).1 ek) (eqb-is (rec_at i old).ordinal ordinal eo))
      (λ k lt. isnt (rec_at k old) (before k lt))

  pub found-none : ((i : ℕ) → i < length old → (rec_at i old).key ≡ key → (rec_at i old).ordinal ≢ ordinal) → found old key ordinal ≡ None
  unfolding found
  found-none none = find-none is old (fresh_rec no_key 0) (λ k lt. isnt (rec_at k old) (none k lt))
