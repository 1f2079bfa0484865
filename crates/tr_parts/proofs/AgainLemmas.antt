-- What is spelt is read again.
use Rattle.std.proofs.Common.{◌≡◌, ℕ, ◌^◌, ◌<◌, ◌≤◌, Bool, true, false, cond, ltb, List, [], ◌∷◌, ◌++◌, length, Option, Some, None, refl, sym, ap, subst, ◌∙◌, append_assoc, arith}
use Rattle.std.specs.Int.{Width, w16, w32, w64, byte_len, from_be_bytes, to_be_bytes}
use Rattle.std.specs.List.{flat_map}
use Rattle.std.proofs.lemmas.Bool.{le-ltb, lt-ltb}
use Rattle.std.proofs.lemmas.List.{take_at, drop_at, length-append, append-nil}
use Rattle.std.proofs.lemmas.Nat.{from_be_bytes-to_be_bytes_2, from_be_bytes-to_be_bytes_4, from_be_bytes-to_be_bytes_8}
use Rattle.rk_base.specs.Text.{Text}
use Rattle.tr_parts.specs.Piece.{num, string}
use Rattle.tr_parts.specs.Reading.{◌>>=◌, given, number_at, byte_at, count_at, many_at, counted_at, string_at}

-- a reader that gives this value of bytes in front of a rest, where all are few enough to be counted
abbrev pub Again : {X : Type 0} → (List ℕ → Option (X × List ℕ)) → List ℕ → X → Type 0
Again one bytes x = (rest : List ℕ) → length (bytes ++ rest) < 2 ^ 64 → one (bytes ++ rest) ≡ Some (x, rest)

-- ---- one reader after another

pub again_bind : {X Y : Type 0} (one : List ℕ → Option (X × List ℕ)) (two : X → List ℕ → Option (Y × List ℕ)) (a b : List ℕ) (x : X) (y : Y) → Again one a x → Again (two x) b y
    → Again (λ bytes. one bytes >>= λ p. two p.0 p.1) (a ++ b) y
again_bind {X} {Y} one two a b x y p q rest small =
    let group : (a ++ b) ++ rest ≡ a ++ (b ++ rest) = append_assoc a b rest in
    let all : length (a ++ (b ++ rest)) < 2 ^ 64 = subst (λ n. n < 2 ^ 64) (ap length group) small in
    let less : length (b ++ rest) < 2 ^ 64 = omega (arith, length-append a (b ++ rest)) in
    let next : Option (X × List ℕ) → Option (Y × List ℕ) = λ o. o >>= λ p. two p.0 p.1 in
    ap (λ bytes. next (one bytes)) group ∙ ap next (p (b ++ rest) all) ∙ q rest less

-- the last one, of which something is made
pub again_last : {X Y : Type 0} (one : List ℕ → Option (X × List ℕ)) (make : X → Y) (a : List ℕ) (x : X) → Again one a x → Again (λ bytes. one bytes >>= λ p. Some (make p.0, p.1)) a (make x)
again_last {X} {Y} one make a x p rest small = let next : Option (X × List ℕ) → Option (Y × List ℕ) = λ o. o >>= λ p. Some (make p.0, p.1) in ap next (p rest small)

-- the last one, of which something is made where it can be
pub again_check : {X Y Z : Type 0} (one : List ℕ → Option (X × List ℕ)) (check : X → Option Y) (make : Y → Z) (a : List ℕ) (x : X) (y : Y) → Again one a x → check x ≡ Some y
    → Again (λ bytes. one bytes >>= λ p. check p.0 >>= λ y. Some (make y, p.1)) a (make y)
again_check {X} {Y} {Z} one check make a x y p e rest small =
    let next : Option (X × List ℕ) → Option (Z × List ℕ) = λ o. o >>= λ p. check p.0 >>= λ y. Some (make y, p.1) in
    let last : Option Y → Option (Z × List ℕ) = λ o. o >>= λ y. Some (make y, rest) in
    ap next (p rest small) ∙ ap last e

-- the last one, where it passes a test
pub again_given : {X Y : Type 0} (one : List ℕ → Option (X × List ℕ)) (test : X → Bool) (make : X → Y) (a : List ℕ) (x : X) → Again one a x → test x ≡ true
    → Again (λ bytes. one bytes >>= λ p. given (test p.0) (make p.0, p.1)) a (make x)
again_given {X} {Y} one test make a x p e rest small =
    let next : Option (X × List ℕ) → Option (Y × List ℕ) = λ o. o >>= λ p. given (test p.0) (make p.0, p.1) in
    ap next (p rest small) ∙ ap (λ b. given b (make x, rest)) e

-- ---- numbers

-- a number of some width, of so many bytes
record IsWide (w : Width) (limit : ℕ) : Type 0 where
  len : (n : ℕ) → length (to_be_bytes w n) ≡ byte_len w
  again : (n : ℕ) → n < limit → from_be_bytes w (to_be_bytes w n) ≡ n

wide_again : (w : Width) (limit : ℕ) (wide : IsWide w limit) → limit ≡ 256 ^ byte_len w → (n : ℕ) → n < limit → Again (number_at w) (to_be_bytes w n) n
unfolding number_at
wide_again w limit wide all n lt rest small =
    let len = wide.len n in
    let long : ltb (length (to_be_bytes w n ++ rest)) (byte_len w) ≡ false = le-ltb _ _ (omega (arith, length-append (to_be_bytes w n) rest)) in
    let fits : ltb n (256 ^ byte_len w) ≡ true = lt-ltb n (256 ^ byte_len w) (subst (λ m. n < m) all lt) in
    rw (long, take_at (to_be_bytes w n) rest (byte_len w) len, drop_at (to_be_bytes w n) rest (byte_len w) len, wide.again n lt, fits) refl

pub number_again : (n : ℕ) → n < 2 ^ 64 → Again (number_at w64) (num n) n
unfolding num
number_again = wide_again w64 (2 ^ 64) (record { len = λ n. refl; again = λ n lt. from_be_bytes-to_be_bytes_8 n lt }) refl

pub cost_again : (n : ℕ) → n < 2 ^ 32 → Again (number_at w32) (to_be_bytes w32 n) n
cost_again = wide_again w32 (2 ^ 32) (record { len = λ n. refl; again = λ n lt. from_be_bytes-to_be_bytes_4 n lt }) refl

pub mode_again : (n : ℕ) → n < 2 ^ 16 → Again (number_at w16) (to_be_bytes w16 n) n
mode_again = wide_again w16 (2 ^ 16) (record { len = λ n. refl; again = λ n lt. from_be_bytes-to_be_bytes_2 n lt }) refl

pub byte_again : (n : ℕ) → n < 256 → Again byte_at (n ∷ []) n
unfolding byte_at
byte_again n lt rest small = ap (λ b. given b (n, rest)) (lt-ltb n 256 lt)

-- ---- so many of them

-- each item is read after those in front of it, from at least one byte
abbrev pub Items : {X : Type 0} → (List X → List ℕ → Option (X × List ℕ)) → (X → List ℕ) → List X → List X → Type 0
Items one spell front [] = Unit {0}
Items one spell front (x ∷ xs) = Again (one front) (spell x) x × (1 ≤ length (spell x)) × Items one spell (front ++ x ∷ []) xs

module _ {X : Type 0} (one : List X → List ℕ → Option (X × List ℕ)) (spell : X → List ℕ) where
  pub again_many : (front xs : List X) → Items one spell front xs → Again (many_at one (length xs) front) (flat_map spell xs) (front ++ xs)
  unfolding many_at
  again_many front [] h rest small = ap (λ l. Some (l, rest)) (sym (append-nil front))
  again_many front (x ∷ xs) h rest small =
      again_bind (one front) (λ y. many_at one (length xs) (front ++ y ∷ [])) (spell x) (flat_map spell xs) x ((front ++ x ∷ []) ++ xs) h.0 (again_many (front ++ x ∷ []) xs h.2) rest small
      ∙ ap (λ l. Some (l, rest)) (append_assoc front (x ∷ []) xs)

  pub items_length : (front xs : List X) → Items one spell front xs → length xs ≤ length (flat_map spell xs)
  items_length front [] h = omega arith
  items_length front (x ∷ xs) h =
      let more = items_length (front ++ x ∷ []) xs h.2 in
      let some = h.1 in
      omega (arith, length-append (spell x) (flat_map spell xs))

  pub again_counted : (xs : List X) → Items one spell [] xs → Again (counted_at one) (num (length xs) ++ flat_map spell xs) xs
  unfolding count_at
  again_counted xs h rest small =
      let n = length xs in
      let all = flat_map spell xs in
      let group : (num n ++ all) ++ rest ≡ num n ++ (all ++ rest) = append_assoc (num n) all rest in
      let whole : length (num n ++ (all ++ rest)) < 2 ^ 64 = subst (λ n. n < 2 ^ 64) (ap length group) small in
      let less : length (all ++ rest) < 2 ^ 64 = omega (arith, length-append (num n) (all ++ rest)) in
      let enough : n ≤ length (all ++ rest) = omega (arith, length-append all rest, items_length [] xs h) in
      let few : n < 2 ^ 64 = omega arith in
      let many : Option (ℕ × List ℕ) → Option (List X × List ℕ) = λ o. o >>= λ n. many_at one n.0 [] n.1 in
      let next : Option (ℕ × List ℕ) → Option (List X × List ℕ) = λ o. many (o >>= λ n. cond (ltb (length n.1) n.0) None (Some n)) in
      ap (λ bytes. next (number_at w64 bytes)) group ∙ ap next (number_again n few (all ++ rest) whole)
      ∙ ap (λ (b : Bool). many (cond b None (Some (n, all ++ rest)))) (le-ltb _ _ enough)
      ∙ again_many [] xs h rest less

-- ---- a string

pub string_again : (text : Text) → Again string_at (string text) text
unfolding string_at
string_again text rest small =
    let group : string text ++ rest ≡ num (length text) ++ (text ++ rest) = append_assoc (num (length text)) text rest in
    let whole : length (num (length text) ++ (text ++ rest)) < 2 ^ 64 = subst (λ n. n < 2 ^ 64) (ap length group) small in
    let enough : length text ≤ length (text ++ rest) = omega (arith, length-append text rest) in
    let few : length text < 2 ^ 64 = omega (arith, length-append (num (length text)) (text ++ rest)) in
    ap string_at group ∙ rw (number_again (length text) few (text ++ rest) whole, le-ltb _ _ enough, take_at text rest (length text) refl, drop_at text rest (length text) refl) refl
