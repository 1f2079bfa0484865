-- What pieces put one after the other make.
use Rattle.std.proofs.Common.{◌≡◌, ◌∙◌, refl, sym, ap, subst, ℕ, zero, suc, ◌+◌, ◌<◌, ◌≤◌, true, false, not, ◌||◌, cond, List, [], ◌∷◌, ◌++◌, Some, slice_get, length, take, get_or, append_assoc, arith}
use Rattle.std.specs.List.{flat_map, AllByRecursion, IsDistinct}
use Rattle.std.proofs.lemmas.List.{append-nil, take_more, take_all}
use Rattle.std.proofs.lemmas.Grind.{flat_map-append}
use Rattle.std.specs.Cmp.Lexicographic.{bytes_decides}
use Rattle.rk_base.specs.Text.{Text, same_text}
use Rattle.tr_parts.specs.Piece.{Piece, plain, blob, ◌⊕◌, each, num, number_of, string, has, with_use, with_uses}
use Rattle.tr_codec.specs.Spelling.{body}
use Rattle.tr_codec.specs.Puts.{Written, Puts}

-- ---- blobs

-- later blobs don't change the number of a text that is there
pub number_stays : (blobs more : List Text) (text : Text) → has blobs text ≡ true → number_of (blobs ++ more) text ≡ number_of blobs text
number_stays [] more text h = cc
number_stays (b ∷ bs) more text h =
    elim (same_text text b) as (λ x. (x || has bs text) ≡ true → cond (not x) (1 + number_of (bs ++ more) text) 0 ≡ cond (not x) (1 + number_of bs text) 0) [
      | true ↦ λ e. refl
      | false ↦ λ e. ap (λ n. 1 + n) (number_stays bs more text e)
    ] h

has_last : (blobs : List Text) (text : Text) → has (blobs ++ text ∷ []) text ≡ true
has_last [] text = ap (λ b. b || false) ((bytes_decides text text).1 refl)
has_last (b ∷ bs) text = elim (same_text text b) as (λ x. (x || has (bs ++ text ∷ []) text) ≡ true) [ true ↦ refl | false ↦ has_last bs text ]

pub has_use : (blobs : List Text) (text : Text) → has (with_use blobs text) text ≡ true
has_use blobs text =
    elim (has blobs text) as (λ b. has blobs text ≡ b → has (cond b blobs (blobs ++ text ∷ [])) text ≡ true) [ true ↦ λ e. e | false ↦ λ e. has_last blobs text ] refl

-- uses only add
with_use_adds : (blobs : List Text) (text : Text) → (more : List Text) × (with_use blobs text ≡ blobs ++ more)
with_use_adds blobs text =
    elim (has blobs text) as (λ b. (more : List Text) × (cond b blobs (blobs ++ text ∷ []) ≡ blobs ++ more)) [ true ↦ ([], sym (append-nil blobs)) | false ↦ (text ∷ [], refl) ]

pub with_uses_adds : (blobs texts : List Text) → (more : List Text) × (with_uses blobs texts ≡ blobs ++ more)
with_uses_adds blobs [] = ([], sym (append-nil blobs))
with_uses_adds blobs (text ∷ texts) =
    let one = with_use_adds blobs text in
    let rest = with_uses_adds (with_use blobs text) texts in
    (one.0 ++ rest.0, rest.1 ∙ ap (λ l. l ++ rest.0) one.1 ∙ append_assoc blobs one.0 rest.0)

pub with_uses-append : (blobs one two : List Text) → with_uses blobs (one ++ two) ≡ with_uses (with_uses blobs one) two
with_uses-append blobs [] two = refl
with_uses-append blobs (text ∷ texts) two = with_uses-append (with_use blobs text) texts two

-- where each blob stands once, a text at a place has this place as its number, and isn't added
elsewhere : (text : Text) (bs : List Text) (n : ℕ) → AllByRecursion (λ b. same_text text b ≡ false) bs → slice_get bs n ≡ Some text → ⊥
elsewhere text [] n all at = cc
elsewhere text (b ∷ bs) zero all at = let e : b ≡ text = cc in absurd (let t : same_text text b ≡ true = (bytes_decides text b).1 (sym e) in let f : same_text text b ≡ false = all.0 in cc)
elsewhere text (b ∷ bs) (suc n) all at = elsewhere text bs n all.1 at

pub numbered : (blobs : List Text) (n : ℕ) (text : Text) → IsDistinct same_text blobs → slice_get blobs n ≡ Some text → (has blobs text ≡ true) × (n ≡ number_of blobs text)
unfolding IsDistinct
numbered [] n text once at = cc
numbered (b ∷ bs) zero text once at =
    let e : b ≡ text = cc in
    let t : same_text text b ≡ true = (bytes_decides text b).1 (sym e) in
    (ap (λ x. x || has bs text) t, sym (ap (λ x. cond (not x) (1 + number_of bs text) 0) t))
numbered (b ∷ bs) (suc n) text once at =
    let rest = numbered bs n text once.1 at in
    elim (same_text text b) as (λ x. same_text text b ≡ x → ((x || has bs text) ≡ true) × (suc n ≡ cond (not x) (1 + number_of bs text) 0)) [
      | true ↦ λ e. absurd (elsewhere b bs n once.0 (at ∙ ap Some ((bytes_decides text b).0 e)))
      | false ↦ λ e. (rest.0, (let k = rest.1 in omega arith))
    ] refl

pub stays_used : (blobs : List Text) (text : Text) → has blobs text ≡ true → with_use blobs text ≡ blobs
stays_used blobs text h = ap (λ b. cond b blobs (blobs ++ text ∷ [])) h

-- ---- pieces

pub puts_plain : (bytes : List ℕ) (old new : Written) → new.blobs ≡ old.blobs → new.bytes ≡ old.bytes ++ bytes → Puts (plain bytes) old new
unfolding plain
puts_plain bytes old new e f = record { blobs = e; bytes = λ more. f }

pub puts_blob : (text : Text) (n : ℕ) (old new : Written) → new.blobs ≡ with_use old.blobs text → n ≡ number_of new.blobs text → new.bytes ≡ old.bytes ++ num n → Puts (blob text) old new
unfolding blob
puts_blob text n old new e k f =
    let there : has new.blobs text ≡ true = ap (λ l. has l text) e ∙ has_use old.blobs text in
    record {
      blobs = e;
      bytes = λ more. f ∙ ap (λ n. old.bytes ++ num n) (k ∙ sym (number_stays new.blobs more text there));
    }

pub puts_then : (one two : Piece) (a b c : Written) → Puts one a b → Puts two b c → Puts (one ⊕ two) a c
unfolding ◌⊕◌
puts_then one two a b c p q =
    let grown = with_uses_adds b.blobs two.uses in
    record {
      blobs = q.blobs ∙ ap (λ l. with_uses l two.uses) p.blobs ∙ sym (with_uses-append a.blobs one.uses two.uses);
      bytes = λ more.
          let here : one.spelt (b.blobs ++ (grown.0 ++ more)) ≡ one.spelt (c.blobs ++ more) = ap one.spelt (sym (ap (λ l. l ++ more) (q.blobs ∙ grown.1) ∙ append_assoc b.blobs grown.0 more)) in
          q.bytes more ∙ ap (λ l. l ++ two.spelt (c.blobs ++ more)) (p.bytes (grown.0 ++ more) ∙ ap (λ l. a.bytes ++ l) here)
          ∙ append_assoc a.bytes (one.spelt (c.blobs ++ more)) (two.spelt (c.blobs ++ more));
    }

pub puts_none : {X : Type 0} (f : X → Piece) (a : Written) → Puts (each f []) a a
unfolding each
puts_none f a = record { blobs = refl; bytes = λ more. sym (append-nil a.bytes) }

-- one more item
puts_more : {X : Type 0} (f : X → Piece) (xs : List X) (x : X) (a b c : Written) → Puts (each f xs) a b → Puts (f x) b c → Puts (each f (xs ++ x ∷ [])) a c
unfolding each ◌⊕◌
puts_more f xs x a b c p q =
    let r = puts_then (each f xs) (f x) a b c p q in
    let last : (A : Type 0) (g : _ → List A) → flat_map g (xs ++ x ∷ []) ≡ flat_map g xs ++ g x = λ A g. flat_map-append g xs (x ∷ []) ∙ ap (λ l. flat_map g xs ++ l) (append-nil (g x)) in
    record {
      blobs = r.blobs ∙ ap (λ l. with_uses a.blobs l) (sym (last Text (λ y. (f y).uses)));
      bytes = λ more. r.bytes more ∙ ap (λ l. a.bytes ++ l) (sym (last ℕ (λ y. (f y).spelt (c.blobs ++ more))));
    }

pub puts_next : {X : Type 0} (f : X → Piece) (xs : List X) (i : ℕ) (d x : X) (a b c : Written) → i < length xs → x ≡ get_or xs i d → Puts (each f (take i xs)) a b → Puts (f x) b c → Puts (each f (take (i + 1) xs)) a c
puts_next f xs i d x a b c lt e p q = subst (λ ys. Puts (each f ys) a c) (sym (take_more xs i d lt)) (puts_more f (take i xs) (get_or xs i d) a b c p (subst (λ y. Puts (f y) b c) e q))

pub puts_all : {X : Type 0} (f : X → Piece) (xs : List X) (i : ℕ) (a b : Written) → length xs ≤ i → Puts (each f (take i xs)) a b → Puts (each f xs) a b
puts_all f xs i a b le p = subst (λ ys. Puts (each f ys) a b) (take_all i xs le) p

-- what the writer makes of a piece
pub body_is : (magic : List ℕ) (piece : Piece) (new : Written) → Puts piece (record { blobs = []; bytes = [] }) new → magic ++ (num (length new.blobs) ++ (flat_map string new.blobs ++ new.bytes)) ≡ body magic piece
unfolding body
body_is magic piece new p =
    let rest : (l : List Text) → List ℕ = λ l. magic ++ (num (length l) ++ (flat_map string l ++ piece.spelt l)) in
    ap (λ s. magic ++ (num (length new.blobs) ++ (flat_map string new.blobs ++ s))) (p.bytes [] ∙ ap piece.spelt (append-nil new.blobs))
    ∙ ap rest p.blobs
