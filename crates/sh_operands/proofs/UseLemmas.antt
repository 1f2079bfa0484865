-- A format is used as often as is computed.
use Rattle.std.proofs.Common.{◌≡◌, ◌≢◌, ℕ, zero, suc, ◌+◌, ◌*◌, ◌≤◌, ◌<◌, eqb, max, List, [], ◌∷◌, ◌++◌, length, take, drop, cond, Bool, true, false, slice_get, None, refl, sym, ap, ◌∙◌, subst, arith, length-append, length-take, length-drop, inl, inr}
use Rattle.std.proofs.Math.Nat.{mul-le-mul_left, mul_comm}
use Rattle.std.proofs.Math.Seq.{drop-append_seam}
use Rattle.std.proofs.lemmas.List.{take-append-drop, drop-drop}
use Rattle.std.proofs.lemmas.List.Sums.{sum_by-cons}
use Rattle.std.proofs.lemmas.Bool.Decides.{eqb_tells, leb_tells}
use Rattle.std.proofs.lemmas.Grind.{div_ceil_times}
use Rattle.std.specs.Int.{div_ceil}
use Rattle.rk_base.specs.Text.{Text}
use Rattle.sh_operands.specs.declared.format.Conversion.{Conversion}
use Rattle.sh_operands.specs.declared.format.Piece.{Piece}
use Rattle.sh_operands.specs.declared.format.Piece.TheVariants.{Literal, Converted}
use Rattle.sh_operands.specs.Elements.{specifier_takes, takes}
use Rattle.sh_operands.specs.Made.{MadeValue, nothing}
use Rattle.sh_operands.specs.Passes.{how_often, passes, prints_of}
use Rattle.sh_operands.specs.Printed.{pass, converts}
use Rattle.sh_operands.specs.Uses.{taken, AreUses, made_by, IsPrinted}

abbrev one : Piece → ℕ
one p = cond (takes p) 1 0

-- One use takes the operands that it has conversions for, and looks at no others.

converted_front : (c : Conversion) (ps : List Piece) (share left : List Text) (made : MadeValue) → length share ≡ taken (Converted c ∷ ps) → (t : Bool) → specifier_takes c.specifier ≡ t → ((us : List Text) (m : MadeValue) → length us ≡ taken ps → pass ps (us ++ left) m ≡ pass ps us m) → pass (Converted c ∷ ps) (share ++ left) made ≡ pass (Converted c ∷ ps) share made
converted_front c ps [] left made e true t on =
    let n : taken (Converted c ∷ ps) ≡ 1 + taken ps = sum_by-cons one (Converted c) ps ∙ ap (λ (b : Bool). cond b 1 0 + taken ps) t in
    absurd (omega (arith, e, n))
converted_front c ps (u ∷ us) left made e true t on =
    let n : taken (Converted c ∷ ps) ≡ 1 + taken ps = sum_by-cons one (Converted c) ps ∙ ap (λ (b : Bool). cond b 1 0 + taken ps) t in
    rw t (on us (converts c (slice_get (u ∷ us) 0) made) (omega (arith, e, n)))
converted_front c ps share left made e false t on =
    let n : taken (Converted c ∷ ps) ≡ 0 + taken ps = sum_by-cons one (Converted c) ps ∙ ap (λ (b : Bool). cond b 1 0 + taken ps) t in
    rw t (on share (converts c None made) (omega (arith, e, n)))

front_only : (ps : List Piece) (share left : List Text) (made : MadeValue) → length share ≡ taken ps → pass ps (share ++ left) made ≡ pass ps share made
front_only [] share left made e = refl
front_only (Literal b ∷ ps) share left made e =
    let n : taken (Literal b ∷ ps) ≡ 0 + taken ps = sum_by-cons one (Literal b) ps in front_only ps share left (record made { output = made.output ++ b ∷ [] }) (omega (arith, e, n))
front_only (Converted c ∷ ps) share left made e = converted_front c ps share left made e (specifier_takes c.specifier) refl (λ us m h. front_only ps us left m h)

-- The uses make what as many passes make.

module _ (ps : List Piece) (operands : List Text) where
  after_passes : (j : ℕ) (uses : List (List Text)) (now : List Text) → now ≡ drop (j * taken ps) operands → AreUses (taken ps) now uses → made_by ps uses (passes j (taken ps) ps operands) ≡ passes (j + length uses) (taken ps) ps operands
  after_passes j [] now e h = absurd h
  after_passes j (share ∷ []) now e h =
      let n : suc j ≡ j + length (share ∷ []) = omega arith in
      ap (λ (xs : List Text). pass ps xs (passes j (taken ps) ps operands)) (h.0 ∙ e) ∙ ap (λ (m : ℕ). passes m (taken ps) ps operands) n
  after_passes j (share ∷ next ∷ uses) now e (left, whole, some, takes_any, len, more) =
      let n : suc j + length (next ∷ uses) ≡ j + length (share ∷ next ∷ uses) = omega arith in
      let first : pass ps share (passes j (taken ps) ps operands) ≡ passes (suc j) (taken ps) ps operands = sym (front_only ps share left (passes j (taken ps) ps operands) len) ∙ ap (λ (xs : List Text). pass ps xs (passes j (taken ps) ps operands)) (sym whole ∙ e) in
      let rest : left ≡ drop (suc j * taken ps) operands =
      sym (drop-append_seam share left) ∙ ap (λ (k : ℕ). drop k (share ++ left)) len ∙ ap (drop (taken ps)) (sym whole ∙ e) ∙ drop-drop (taken ps) (j * taken ps) operands ∙ ap (λ (k : ℕ). drop k operands) (omega arith)
      in
      ap (made_by ps (next ∷ uses)) first ∙ after_passes (suc j) (next ∷ uses) left rest more ∙ ap (λ (m : ℕ). passes m (taken ps) ps operands) n

-- They are as many.

some_length : (xs : List Text) → xs ≢ [] → 1 ≤ length xs
some_length [] n = absurd (n refl)
some_length (x ∷ xs) n = omega arith

once_more : (m n : ℕ) → suc m * n ≡ n + m * n
once_more m n = omega arith

-- so many uses are just enough for so many operands
abbrev Suffice : ℕ → ℕ → ℕ → Type 0
Suffice uses n operands = (operands ≤ uses * n) × (uses * n < operands + n)

no_more_than : (a c d n : ℕ) → Suffice c n a → Suffice d n a → c < d → ⊥
no_more_than a c d n x y lt =
    let le : n * suc c ≤ n * d = mul-le-mul_left n (omega (arith, lt)) in
    omega (arith, le, x.0, y.1, mul_comm n (suc c), mul_comm n d, once_more c n)

one_count : (a c d n : ℕ) → Suffice c n a → Suffice d n a → c ≡ d
one_count a c d n x y = elim (leb_tells (suc c) d) [
  | inl l ↦ absurd (no_more_than a c d n x y l.1)
  | inr g ↦ elim (leb_tells (suc d) c) [ inl l ↦ absurd (no_more_than a d c n y x l.1) | inr h ↦ omega (arith, g.1, h.1) ]
]

uses_suffice : (n : ℕ) (operands : List Text) (uses : List (List Text)) → 0 < n → 1 ≤ length operands → AreUses n operands uses → Suffice (length uses) n (length operands)
uses_suffice n operands [] pos some h = absurd h
uses_suffice n operands (share ∷ []) pos some h =
    let len : length share ≡ length operands = ap length h.0 in let le : length share ≤ n = h.1 pos in (omega (arith, len, le), omega (arith, len, some))
uses_suffice n operands (share ∷ next ∷ uses) pos some (left, whole, more, takes_any, len, are) =
    let all : length operands ≡ length share + length left = ap length whole ∙ length-append share left in
    let ih = uses_suffice n left (next ∷ uses) pos (some_length left more) are in
    let e : length (share ∷ next ∷ uses) * n ≡ n + length (next ∷ uses) * n = once_more (length (next ∷ uses)) n in
    (omega (arith, all, len, ih.0, e), omega (arith, all, len, ih.1, e))

none_left : (n : ℕ) (uses : List (List Text)) → AreUses n [] uses → length uses ≡ 1
none_left n [] h = absurd h
none_left n (share ∷ []) h = refl
none_left n (share ∷ next ∷ uses) (left, whole, some, pos, len, are) =
    let all : 0 ≡ length share + length left = ap length whole ∙ length-append share left in absurd (omega (arith, all, some_length left some))

used_once : (operands : List Text) (uses : List (List Text)) → AreUses 0 operands uses → length uses ≡ 1
used_once operands [] h = absurd h
used_once operands (share ∷ []) h = refl
used_once operands (share ∷ next ∷ uses) (left, whole, some, pos, len, are) = absurd (omega (arith, pos))

at_least_one : (c : ℕ) → 1 ≤ c → max 1 c ≡ c
at_least_one c h = omega (arith, h)

counted : (n : ℕ) (operands : List Text) (uses : List (List Text)) → 0 < n → AreUses n operands uses → length uses ≡ max 1 (div_ceil (length operands) n)
counted n [] uses pos h =
    let c : div_ceil 0 n * n < 0 + n = (div_ceil_times 0 n pos).1 in
    none_left n uses h ∙ sym (below_two (div_ceil 0 n) n c)
  where
    below_two : (c n : ℕ) → c * n < 0 + n → max 1 c ≡ 1
    below_two zero n h = refl
    below_two (suc zero) n h = refl
    below_two (suc (suc c)) n h = let e : suc (suc c) * n ≡ n + (n + c * n) = omega arith in absurd (omega (arith, h, e))
counted n (x ∷ xs) uses pos h =
    let c : Suffice (div_ceil (length (x ∷ xs)) n) n (length (x ∷ xs)) = div_ceil_times (length (x ∷ xs)) n pos in
    let some : 1 ≤ length (x ∷ xs) = omega arith in
    let e : length uses ≡ div_ceil (length (x ∷ xs)) n = one_count (length (x ∷ xs)) (length uses) (div_ceil (length (x ∷ xs)) n) n (uses_suffice n (x ∷ xs) uses pos some h) c in
    e ∙ sym (at_least_one (div_ceil (length (x ∷ xs)) n) (any (div_ceil (length (x ∷ xs)) n) n c.0 some))
  where
    any : (c n : ℕ) → length (x ∷ xs) ≤ c * n → 1 ≤ length (x ∷ xs) → 1 ≤ c
    any zero n h some = let e : zero * n ≡ 0 = omega arith in absurd (omega (arith, h, some, e))
    any (suc c) n h some = omega arith

as_often : (n : ℕ) (operands : List Text) (uses : List (List Text)) → AreUses n operands uses → length uses ≡ how_often n (length operands)
as_often n operands uses h = elim (eqb_tells n 0) [
  | inl e ↦ let nought : eqb n 0 ≡ true = e.0 in rw nought (used_once operands uses (subst (λ (m : ℕ). AreUses m operands uses) e.1 h))
  | inr e ↦ let some : eqb n 0 ≡ false = e.0 in rw some (counted n operands uses (above n e.1) h)
]
  where
    above : (n : ℕ) → n ≢ 0 → 0 < n
    above n e = omega (arith, e)

pub made_once : (ps : List Piece) (operands : List Text) (made : MadeValue) → IsPrinted ps operands made → made ≡ prints_of ps operands
made_once ps operands made h =
    let nought : operands ≡ drop (0 * taken ps) operands = ap (λ (k : ℕ). drop k operands) (nil (taken ps)) in
    h.made_so ∙ after_passes ps operands 0 h.uses operands nought h.are ∙ ap (λ (m : ℕ). passes m (taken ps) ps operands) (zeroth (length h.uses) ∙ as_often (taken ps) operands h.uses h.are)
  where
    nil : (n : ℕ) → 0 ≡ 0 * n
    nil n = omega arith

    zeroth : (n : ℕ) → 0 + n ≡ n
    zeroth n = omega arith

-- Operands are shared among uses.

with_use : (n : ℕ) (share left operands : List Text) → operands ≡ share ++ left → left ≢ [] → 0 < n → length share ≡ n → (uses : List (List Text)) → AreUses n left uses → AreUses n operands (share ∷ uses)
with_use n share left operands whole some pos len [] h = absurd h
with_use n share left operands whole some pos len (next ∷ uses) h = (left, whole, some, pos, len, h)

more_left : (n : ℕ) (operands : List Text) → n < length operands → drop n operands ≢ []
more_left n operands lt e = let l : length (drop n operands) ≡ 0 = ap length e in omega (arith, length-drop n operands, l, lt)

shared : (k n : ℕ) (operands : List Text) → length operands ≤ k → 0 < n → (uses : List (List Text)) × AreUses n operands uses
shared zero n operands le pos = (operands ∷ [], (refl, λ _. omega (arith, le)))
shared (suc k) n operands le pos = elim (leb_tells (length operands) n) [
  | inl l ↦ (operands ∷ [], (refl, λ _. l.1))
  | inr g ↦
      let more = shared k n (drop n operands) (omega (arith, length-drop n operands, le, pos)) pos in
      (take n operands ∷ more.0, with_use n (take n operands) (drop n operands) operands (sym (take-append-drop n operands)) (more_left n operands g.1) pos (omega (arith, length-take n operands, g.1)) more.0 more.1)
]

sharing : (n : ℕ) (operands : List Text) → (uses : List (List Text)) × AreUses n operands uses
sharing zero operands = (operands ∷ [], (refl, λ h. absurd (omega (arith, h))))
sharing (suc n) operands = shared (length operands) (suc n) operands (omega arith) (omega arith)

pub made_so : (ps : List Piece) (operands : List Text) → IsPrinted ps operands (prints_of ps operands)
made_so ps operands =
    let s = sharing (taken ps) operands in
    let there : IsPrinted ps operands (made_by ps s.0 nothing) = record { uses = s.0; are = s.1; made_so = refl } in
    subst (IsPrinted ps operands) (made_once ps operands (made_by ps s.0 nothing) there) there
