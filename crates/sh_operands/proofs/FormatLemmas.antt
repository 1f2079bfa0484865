-- The pieces that are read of a format are those of its elements.
use Rattle.std.proofs.Common.{◌≡◌, ◌≢◌, ℕ, suc, ◌+◌, ◌-◌, ◌*◌, ◌%◌, ◌≤◌, ◌<◌, eqb, leb, List, [], ◌∷◌, ◌++◌, map, length, Bool, true, false, ◌&&◌, ◌||◌, Option, Some, None, refl, sym, ap, ◌∙◌, subst, append_assoc, length-append, arith, inl, inr}
use Rattle.std.specs.List.{list_all}
use Rattle.std.proofs.lemmas.List.{append-nil}
use Rattle.std.proofs.lemmas.Bool.{le-leb}
use Rattle.std.proofs.lemmas.Bool.Decides.{eqb_tells, leb_tells}
use Rattle.rk_base.specs.Text.{Text}
use Rattle.sh_operands.specs.declared.format.Specifier.{Specifier}
use Rattle.sh_operands.specs.declared.format.Piece.{Piece}
use Rattle.sh_operands.specs.declared.format.Piece.TheVariants.{Literal, Converted}
use Rattle.sh_operands.specs.declared.format.Reading.{Reading}
use Rattle.sh_operands.specs.declared.format.Reading.TheVariants as reading
use Rattle.sh_operands.specs.Elements.{escape_of, specifier_of, is_octal, is_flag, Element, Byte, Escape, Octal, Backslash, Specification, spelling, begins_octal, begins_escape, begins_nought, AreOctal, IsWidth, IsElement, AreElements, octal_on, has, piece, HasPieces}
use Rattle.sh_operands.specs.Formats.{with_byte, plain, escaped, octal, widened, flagged, step, finished, goes_on, pieces_from, pieces}
use Rattle.sh_operands.specs.Numbers.{is_digit, value_on}
use Rattle.sh_operands.proofs.Values.{rises}

differs : (a b : ℕ) → a ≢ b → eqb a b ≡ false
differs a b ne = elim (eqb_tells a b) [ inl e ↦ absurd (ne e.1) | inr e ↦ e.0 ]

eq-true : (a b : ℕ) → eqb a b ≡ true → a ≡ b
eq-true a b e = elim (eqb_tells a b) [ inl s ↦ s.1 | inr n ↦ let f : true ≡ false = sym e ∙ n.0 in absurd (cc) ]

both : (a b : Bool) → a && b ≡ true → (a ≡ true) × (b ≡ true)
both true b e = (refl, e)
both false b e = absurd (cc)

within : (low high b : ℕ) → leb low b && leb b high ≡ true → (low ≤ b) × (b ≤ high)
within low high b e =
    let t = both (leb low b) (leb b high) e in
    (elim (leb_tells low b) [ inl l ↦ l.1 | inr g ↦ let f : true ≡ false = sym t.0 ∙ g.0 in absurd (cc) ], elim (leb_tells b high) [ inl l ↦ l.1 | inr g ↦ let f : true ≡ false = sym t.1 ∙ g.0 in absurd (cc) ])

-- bytes of a range are none of those outside of it
octal_no_escape : (b : ℕ) → is_octal b ≡ true → escape_of b ≡ None
octal_no_escape b o =
    let r = within 48 55 b o in
    let e1 : eqb b 92 ≡ false = differs b 92 (λ e. omega (arith, r.1, e)) in
    let e2 : eqb b 97 ≡ false = differs b 97 (λ e. omega (arith, r.1, e)) in
    let e3 : eqb b 98 ≡ false = differs b 98 (λ e. omega (arith, r.1, e)) in
    let e4 : eqb b 102 ≡ false = differs b 102 (λ e. omega (arith, r.1, e)) in
    let e5 : eqb b 110 ≡ false = differs b 110 (λ e. omega (arith, r.1, e)) in
    let e6 : eqb b 114 ≡ false = differs b 114 (λ e. omega (arith, r.1, e)) in
    let e7 : eqb b 116 ≡ false = differs b 116 (λ e. omega (arith, r.1, e)) in
    let e8 : eqb b 118 ≡ false = differs b 118 (λ e. omega (arith, r.1, e)) in
    rw (e1, e2, e3, e4, e5, e6, e7, e8) refl

low_no_specifier : (b : ℕ) → 38 ≤ b → b ≤ 57 → specifier_of b ≡ None
low_no_specifier b l h =
    let e1 : eqb b 115 ≡ false = differs b 115 (λ e. omega (arith, h, e)) in
    let e2 : eqb b 100 ≡ false = differs b 100 (λ e. omega (arith, h, e)) in
    let e3 : eqb b 111 ≡ false = differs b 111 (λ e. omega (arith, h, e)) in
    let e4 : eqb b 120 ≡ false = differs b 120 (λ e. omega (arith, h, e)) in
    let e5 : eqb b 99 ≡ false = differs b 99 (λ e. omega (arith, h, e)) in
    let e6 : eqb b 37 ≡ false = differs b 37 (λ e. omega (arith, l, e)) in
    rw (e1, e2, e3, e4, e5, e6) refl

not_true : (t : Bool) → (t ≡ true → ⊥) → t ≡ false
not_true true h = absurd (h refl)
not_true false h = refl

escape_not_octal : (b c : ℕ) → escape_of b ≡ Some c → is_octal b ≡ false
escape_not_octal b c e = not_true (is_octal b) (λ o. let f : None ≡ Some c = sym (octal_no_escape b o) ∙ e in absurd (cc))

specifier_high : (b : ℕ) (k : Specifier) → specifier_of b ≡ Some k → 38 ≤ b → b ≤ 57 → ⊥
specifier_high b k e l h = let f : None ≡ Some k = sym (low_no_specifier b l h) ∙ e in absurd (cc)

specifier_not_digit : (b : ℕ) (k : Specifier) → specifier_of b ≡ Some k → is_digit b ≡ false
specifier_not_digit b k e = not_true (is_digit b) (λ d. let r = within 48 57 b d in specifier_high b k e (omega (arith, r.0)) r.1)

specifier_not_45 : (b : ℕ) (k : Specifier) → specifier_of b ≡ Some k → eqb b 45 ≡ false
specifier_not_45 b k e = differs b 45 (λ d. specifier_high b k e (omega (arith, d)) (omega (arith, d)))

specifier_not_48 : (b : ℕ) (k : Specifier) → specifier_of b ≡ Some k → eqb b 48 ≡ false
specifier_not_48 b k e = differs b 48 (λ d. specifier_high b k e (omega (arith, d)) (omega (arith, d)))

-- A format is read as its elements say.

module _ (rest : Text) (done : List Piece) where
  abbrev then : Piece → Option (List Piece)
  then p = pieces_from reading.Plain rest (done ++ p ∷ [])

  byte_read : (b : ℕ) → b ≢ 92 → b ≢ 37 → pieces_from reading.Plain (b ∷ rest) done ≡ then (Literal b)
  byte_read b s p = let e1 : eqb b 92 ≡ false = differs b 92 s in let e2 : eqb b 37 ≡ false = differs b 37 p in rw (e1, e2) refl

  escape_read : (letter b : ℕ) → escape_of letter ≡ Some b → pieces_from reading.Plain (92 ∷ letter ∷ rest) done ≡ then (Literal b)
  escape_read letter b e = let o : is_octal letter ≡ false = escape_not_octal letter b e in rw (o, e) refl

backslash_read : (rest : Text) (done : List Piece) → begins_escape rest ≡ false → pieces_from reading.Plain (92 ∷ rest) done ≡ pieces_from reading.Plain rest (done ++ Literal 92 ∷ [])
backslash_read [] done h = refl
backslash_read (b ∷ bs) done h = by (is_octal b) refl (escape_of b) refl
  where
    by : (o : Bool) → is_octal b ≡ o → (e : Option ℕ) → escape_of b ≡ e → pieces_from reading.Plain (92 ∷ b ∷ bs) done ≡ pieces_from reading.Plain (b ∷ bs) (done ++ Literal 92 ∷ [])
    by true o e f = let x : true ≡ false = (rw o at h) in absurd (cc)
    by false o (Some c) f = let x : true ≡ false = (rw (o, f) at h) in absurd (cc)
    by false o None f = rw (o, f) refl

-- octal digits

modulo : (n d : ℕ) → (8 * (n % 256) + d) % 256 ≡ (8 * n + d) % 256
modulo n d = omega arith

and_false : (b : Bool) → b && false ≡ false
and_false true = refl
and_false false = refl

octal_ended : (n v : ℕ) (rest : Text) (done : List Piece) → (n < 3 → begins_octal rest ≡ false) → pieces_from (reading.Octal n v) rest done ≡ pieces_from reading.Plain rest (done ++ Literal v ∷ [])
octal_ended n v [] done h = refl
octal_ended n v (c ∷ cs) done h = elim (leb_tells (suc n) 3) [
  | inl l ↦ let o : is_octal c ≡ false = h l.1 in rw o refl
  | inr g ↦ let t : is_octal c && leb (suc n) 3 ≡ false = (rw g.0 (and_false (is_octal c))) in rw t refl
]

digits_read : (n w : ℕ) (ds rest : Text) (done : List Piece) → list_all is_octal ds ≡ true → n + length ds ≤ 3 → (n + length ds < 3 → begins_octal rest ≡ false) → pieces_from (reading.Octal n (w % 256)) (ds ++ rest) done ≡ pieces_from reading.Plain rest (done ++ Literal (octal_on w ds % 256) ∷ [])
digits_read n w [] rest done a le h = octal_ended n (w % 256) rest done (λ lt. h (omega (arith, lt)))
digits_read n w (d ∷ ds) rest done a le h =
    let t = both (is_octal d) (list_all is_octal ds) a in
    let o : is_octal d ≡ true = t.0 in
    let s : leb (suc n) 3 ≡ true = le-leb (suc n) 3 (omega (arith, le)) in
    rw (o, s, modulo w (d - 48)) (digits_read (n + 1) (8 * w + (d - 48)) ds rest done t.1 (omega (arith, le)) (λ lt. h (omega (arith, lt))))

less_than_256 : (n : ℕ) → n ≤ 7 → n ≡ (8 * 0 + n) % 256
less_than_256 n h = omega (arith, h)

octal_read : (ds rest : Text) (done : List Piece) → AreOctal ds rest → pieces_from reading.Plain (92 ∷ (ds ++ rest)) done ≡ pieces_from reading.Plain rest (done ++ Literal (octal_on 0 ds % 256) ∷ [])
octal_read [] rest done a = absurd (omega (arith, a.some))
octal_read (d ∷ ds) rest done a =
    let t = both (is_octal d) (list_all is_octal ds) a.all in
    let o : is_octal d ≡ true = t.0 in
    let r = within 48 55 d o in
    let first : pieces_from reading.Plain (92 ∷ d ∷ (ds ++ rest)) done ≡ pieces_from (reading.Octal 1 (d - 48)) (ds ++ rest) done = rw o refl in
    first
    ∙ ap (λ (v : ℕ). pieces_from (reading.Octal 1 v) (ds ++ rest) done) (less_than_256 (d - 48) (omega (arith, r.1)))
    ∙ digits_read 1 (8 * 0 + (d - 48)) ds rest done t.1 (omega (arith, a.three)) (λ lt. a.no_more (omega (arith, lt)))

-- conversion specifications

module _ (rest : Text) (done : List Piece) (letter : ℕ) (k : Specifier) (is : specifier_of letter ≡ Some k) where
  abbrev behind : Bool → Bool → ℕ → Option (List Piece)
  behind left zero width = pieces_from reading.Plain rest (done ++ Converted (record { left = left; zero = zero; width = width; specifier = k }) ∷ [])

  width_read : (left zero : Bool) (n : ℕ) (ds : Text) → list_all is_digit ds ≡ true → value_on n ds ≤ 2147483647 → pieces_from (reading.Width left zero n) (ds ++ letter ∷ rest) done ≡ behind left zero (value_on n ds)
  width_read left zero n [] a le = let d : is_digit letter ≡ false = specifier_not_digit letter k is in rw (d, is) refl
  width_read left zero n (d ∷ ds) a le =
      let t = both (is_digit d) (list_all is_digit ds) a in
      let is_one : is_digit d ≡ true = t.0 in
      let fits : leb (10 * n + (d - 48)) 2147483647 ≡ true = le-leb (10 * n + (d - 48)) 2147483647 (omega (arith, rises (10 * n + (d - 48)) ds, le)) in
      rw (is_one, fits) (width_read left zero (10 * n + (d - 48)) ds t.1 le)

  unflagged : (left zero : Bool) (ds : Text) → IsWidth ds → pieces_from (reading.Flags left zero) (ds ++ letter ∷ rest) done ≡ behind left zero (value_on 0 ds)
  unflagged left zero [] w =
      let e1 : eqb letter 45 ≡ false = specifier_not_45 letter k is in
      let e2 : eqb letter 48 ≡ false = specifier_not_48 letter k is in
      let d : is_digit letter ≡ false = specifier_not_digit letter k is in
      rw (e1, e2, d, is) refl
  unflagged left zero (d ∷ ds) w =
      let t = both (is_digit d) (list_all is_digit ds) w.all in
      let r = within 48 57 d t.0 in
      let e1 : eqb d 45 ≡ false = differs d 45 (λ e. omega (arith, r.0, e)) in
      let e2 : eqb d 48 ≡ false = w.no_flag in
      let is_one : is_digit d ≡ true = t.0 in
      let fits : leb (10 * 0 + (d - 48)) 2147483647 ≡ true = le-leb (10 * 0 + (d - 48)) 2147483647 (omega (arith, r.1)) in
      rw (e1, e2, is_one, fits) (width_read left zero (10 * 0 + (d - 48)) ds t.1 w.fits)

  or_true : (b c : Bool) → b || (true || c) ≡ true || c
  or_true true c = refl
  or_true false c = refl

  or_false : (b : Bool) → b || false ≡ b
  or_false true = refl
  or_false false = refl

  abbrev behind_flags : Text → Text → Bool → Bool → Type 0
  behind_flags fs ds l z = pieces_from (reading.Flags l z) (fs ++ (ds ++ letter ∷ rest)) done ≡ behind (l || has 45 fs) (z || has 48 fs) (value_on 0 ds)

  flag_read : (left zero : Bool) (f : ℕ) (fs ds : Text) → is_flag f ≡ true → ((l z : Bool) → behind_flags fs ds l z) → behind_flags (f ∷ fs) ds left zero
  flag_read left zero f fs ds flag on = by (eqb f 45) (eqb f 48) refl refl
    where
      by : (x y : Bool) → eqb f 45 ≡ x → eqb f 48 ≡ y → behind_flags (f ∷ fs) ds left zero
      by true true e g = absurd (omega (arith, eq-true f 45 e, eq-true f 48 g))
      by true false e g = rw (e, g, or_true left (has 45 fs)) (on true zero)
      by false true e g = rw (e, g, or_true zero (has 48 fs)) (on left true)
      by false false e g = let x : false ≡ true = (rw (e, g) at flag) in absurd (cc)

  flags_read : (left zero : Bool) (flags ds : Text) → list_all is_flag flags ≡ true → IsWidth ds → behind_flags flags ds left zero
  flags_read left zero [] ds a w = rw (or_false left, or_false zero) (unflagged left zero ds w)
  flags_read left zero (f ∷ fs) ds a w = let t = both (is_flag f) (list_all is_flag fs) a in flag_read left zero f fs ds t.0 (λ l z. flags_read l z fs ds t.1 w)

-- each element, and all of them

element_read : (e : Element) (rest : Text) (done : List Piece) → IsElement e rest → pieces_from reading.Plain (spelling e ++ rest) done ≡ pieces_from reading.Plain rest (done ++ piece e ∷ [])
element_read (Byte b) rest done h = byte_read rest done b h.0 h.1
element_read (Escape letter b) rest done h = escape_read rest done letter b h
element_read (Octal ds) rest done h = octal_read ds rest done h
element_read Backslash rest done h = backslash_read rest done h
element_read (Specification flags width letter k) rest done h =
    let front : (flags ++ (width ++ letter ∷ [])) ++ rest ≡ flags ++ (width ++ letter ∷ rest) = append_assoc flags (width ++ letter ∷ []) rest ∙ ap (λ (x : Text). flags ++ x) (append_assoc width (letter ∷ []) rest) in
    ap (λ (x : Text). pieces_from (reading.Flags false false) x done) front ∙ flags_read rest done letter k h.2 false false flags width h.0 h.1

elements_read : (es : List Element) (text : Text) (done : List Piece) → AreElements es text → pieces_from reading.Plain text done ≡ Some (done ++ map piece es)
elements_read [] text done h = ap (λ (x : Text). pieces_from reading.Plain x done) h ∙ ap Some (sym (append-nil done))
elements_read (e ∷ es) text done (rest, whole, is, are) =
    ap (λ (x : Text). pieces_from reading.Plain x done) whole
    ∙ element_read e rest done is
    ∙ elements_read es rest (done ++ piece e ∷ []) are
    ∙ ap Some (append_assoc done (piece e ∷ []) (map piece es))

pub pieces_read : (format : Text) (ps : List Piece) → HasPieces format ps → pieces format ≡ Some ps
pieces_read format ps h = elements_read h.elements format [] h.are ∙ ap Some (sym h.pieces)

-- What is read of a format is what its elements say.

-- one byte more

all_push : (test : ℕ → Bool) (ds : Text) (b : ℕ) → list_all test ds ≡ true → test b ≡ true → list_all test (ds ++ b ∷ []) ≡ true
all_push test [] b a e = rw e refl
all_push test (d ∷ ds) b a e = let t = both (test d) (list_all test ds) a in let is : test d ≡ true = t.0 in rw is (all_push test ds b t.1 e)

octal_push : (n : ℕ) (ds : Text) (b : ℕ) → octal_on n (ds ++ b ∷ []) ≡ 8 * octal_on n ds + (b - 48)
octal_push n [] b = refl
octal_push n (d ∷ ds) b = octal_push (8 * n + (d - 48)) ds b

value_push : (n : ℕ) (ds : Text) (b : ℕ) → value_on n (ds ++ b ∷ []) ≡ 10 * value_on n ds + (b - 48)
value_push n [] b = refl
value_push n (d ∷ ds) b = value_push (10 * n + (d - 48)) ds b

or_with_true : (a : Bool) → a || true ≡ true
or_with_true true = refl
or_with_true false = refl

or_with_false : (a : Bool) → a || false ≡ a
or_with_false true = refl
or_with_false false = refl

or_assoc : (a b c : Bool) → a || (b || c) ≡ (a || b) || c
or_assoc true b c = refl
or_assoc false b c = refl

has_push : (c : ℕ) (fs : Text) (b : ℕ) → has c (fs ++ b ∷ []) ≡ has c fs || eqb b c
has_push c [] b = or_with_false (eqb b c)
has_push c (f ∷ fs) b = ap (λ (x : Bool). eqb f c || x) (has_push c fs b) ∙ or_assoc (eqb f c) (has c fs) (eqb b c)

nought_push : (ds : Text) (b : ℕ) → begins_nought ds ≡ false → (ds ≡ [] → eqb b 48 ≡ false) → begins_nought (ds ++ b ∷ []) ≡ false
nought_push [] b n first = first refl
nought_push (d ∷ ds) b n first = n

push_nil : (ds : Text) (b : ℕ) → ds ++ b ∷ [] ≢ []
push_nil [] b e = absurd (cc)
push_nil (d ∷ ds) b e = absurd (cc)

and_left : (a b : Bool) → b ≡ true → a && b ≡ false → a ≡ false
and_left true b t e = let f : true ≡ false = sym t ∙ e in absurd (cc)
and_left false b t e = refl

record Ended (text : Text) (done ps : List Piece) : Type 0 where
  elements : List Element
  are : AreElements elements text
  pieces : ps ≡ done ++ map piece elements

-- what stands before the next byte, where it is read so
abbrev Pending : Reading → Text → Type 0
Pending reading.Plain pre = pre ≡ []
Pending reading.Escape pre = pre ≡ 92 ∷ []
Pending (reading.Octal n v) pre = (ds : Text) × (pre ≡ 92 ∷ ds) × (list_all is_octal ds ≡ true) × (length ds ≡ n) × (1 ≤ n) × (n ≤ 3) × (v ≡ octal_on 0 ds % 256)
Pending (reading.Flags left zero) pre = (fs : Text) × (pre ≡ 37 ∷ fs) × (list_all is_flag fs ≡ true) × (left ≡ has 45 fs) × (zero ≡ has 48 fs)
Pending (reading.Width left zero n) pre =
    (fs : Text) × (ds : Text) × (pre ≡ 37 ∷ (fs ++ ds)) × (list_all is_flag fs ≡ true) × (left ≡ has 45 fs) × (zero ≡ has 48 fs) × (ds ≢ []) × IsWidth ds × (n ≡ value_on 0 ds)

some_same : {A : Type 0} (x y : A) → Some x ≡ Some y → x ≡ y
some_same x y e = cc

begun : (e : Element) (text rest : Text) (done ps : List Piece) → text ≡ spelling e ++ rest → IsElement e rest → Ended rest (done ++ piece e ∷ []) ps → Ended text done ps
begun e text rest done ps whole is more = record { elements = e ∷ more.elements; are = (rest, whole, is, more.are); pieces = more.pieces ∙ append_assoc done (piece e ∷ []) (map piece more.elements) }

nothing_left : (done ps : List Piece) → done ≡ ps → Ended [] done ps
nothing_left done ps e = record { elements = []; are = refl; pieces = sym e ∙ sym (append-nil done) }

abbrev rest_of : Text → Reading → List Piece → Option (List Piece)
rest_of bs = λ r done. pieces_from r bs done

module _ (b : ℕ) (bs : Text) (ps : List Piece) (again : (r : Reading) (pre : Text) (done : List Piece) → Pending r pre → pieces_from r bs done ≡ Some ps → Ended (pre ++ bs) done ps) where
  at_plain : (done : List Piece) → goes_on (plain b done) (rest_of bs) ≡ Some ps → Ended (b ∷ bs) done ps
  at_plain done h = elim (eqb_tells b 92) [
    | inl e ↦ let is : eqb b 92 ≡ true = e.0 in let on : pieces_from reading.Escape bs done ≡ Some ps = (rw is at h) in subst (λ (x : ℕ). Ended (x ∷ bs) done ps) (sym e.1) (again reading.Escape (92 ∷ []) done refl on)
    | inr n ↦ elim (eqb_tells b 37) [
      | inl e ↦ let no_escape : eqb b 92 ≡ false = n.0 in let is : eqb b 37 ≡ true = e.0 in let on : pieces_from (reading.Flags false false) bs done ≡ Some ps = (rw (no_escape, is) at h) in subst (λ (x : ℕ). Ended (x ∷ bs) done ps) (sym e.1) (again (reading.Flags false false) (37 ∷ []) done ([], refl, refl, refl, refl) on)
      | inr m ↦ let no_escape : eqb b 92 ≡ false = n.0 in let no_percent : eqb b 37 ≡ false = m.0 in let on : pieces_from reading.Plain bs (done ++ Literal b ∷ []) ≡ Some ps = (rw (no_escape, no_percent) at h) in begun (Byte b) (b ∷ bs) bs done ps refl (n.1, m.1) (again reading.Plain [] (done ++ Literal b ∷ []) refl on)
    ]
  ]

  at_escape : (done : List Piece) → goes_on (escaped b done) (rest_of bs) ≡ Some ps → Ended (92 ∷ b ∷ bs) done ps
  at_escape done h = by (is_octal b) refl (escape_of b) refl
    where
      by : (o : Bool) → is_octal b ≡ o → (e : Option ℕ) → escape_of b ≡ e → Ended (92 ∷ b ∷ bs) done ps
      by true o e f =
          let r = within 48 55 b o in
          let on : pieces_from (reading.Octal 1 (b - 48)) bs done ≡ Some ps = (rw o at h) in
          let all : list_all is_octal (b ∷ []) ≡ true = rw o refl in
          again (reading.Octal 1 (b - 48)) (92 ∷ b ∷ []) done (b ∷ [], refl, all, refl, omega arith, omega arith, less_than_256 (b - 48) (omega (arith, r.1))) on
      by false o (Some c) f =
          let on : pieces_from reading.Plain bs (done ++ Literal c ∷ []) ≡ Some ps = (rw (o, f) at h) in
          begun (Escape b c) (92 ∷ b ∷ bs) bs done ps refl f (again reading.Plain [] (done ++ Literal c ∷ []) refl on)
      by false o None f =
          let on : goes_on (plain b (with_byte 92 done)) (rest_of bs) ≡ Some ps = (rw (o, f) at h) in
          let begins : begins_escape (b ∷ bs) ≡ false = rw (o, f) refl in
          begun Backslash (92 ∷ b ∷ bs) (b ∷ bs) done ps refl begins (at_plain (done ++ Literal 92 ∷ []) on)

  at_octal : (ds : Text) (done : List Piece) → list_all is_octal ds ≡ true → 1 ≤ length ds → length ds ≤ 3 → goes_on (octal (length ds) (octal_on 0 ds % 256) b done) (rest_of bs) ≡ Some ps → Ended (92 ∷ (ds ++ b ∷ bs)) done ps
  at_octal ds done a some three h = by (is_octal b && leb (suc (length ds)) 3) refl
    where
      by : (t : Bool) → is_octal b && leb (suc (length ds)) 3 ≡ t → Ended (92 ∷ (ds ++ b ∷ bs)) done ps
      by true t =
          let o = both (is_octal b) (leb (suc (length ds)) 3) t in
          let more : length ds < 3 = elim (leb_tells (suc (length ds)) 3) [ inl l ↦ l.1 | inr g ↦ let f : true ≡ false = sym o.1 ∙ g.0 in absurd (cc) ] in
          let on : pieces_from (reading.Octal (length ds + 1) ((8 * (octal_on 0 ds % 256) + (b - 48)) % 256)) bs done ≡ Some ps = (rw t at h) in
          let value : (8 * (octal_on 0 ds % 256) + (b - 48)) % 256 ≡ octal_on 0 (ds ++ b ∷ []) % 256 = modulo (octal_on 0 ds) (b - 48) ∙ ap (λ (n : ℕ). n % 256) (sym (octal_push 0 ds b)) in
          let e : Ended (92 ∷ ((ds ++ b ∷ []) ++ bs)) done ps = again (reading.Octal (length ds + 1) ((8 * (octal_on 0 ds % 256) + (b - 48)) % 256)) (92 ∷ (ds ++ b ∷ [])) done (ds ++ b ∷ [], refl, all_push is_octal ds b a o.0, length-append ds (b ∷ []), omega arith, omega arith, value) on in
          subst (λ (x : Text). Ended (92 ∷ x) done ps) (append_assoc ds (b ∷ []) bs) e
      by false t =
          let on : goes_on (plain b (with_byte (octal_on 0 ds % 256) done)) (rest_of bs) ≡ Some ps = (rw t at h) in
          let no_more : length ds < 3 → is_octal b ≡ false = λ lt. and_left (is_octal b) (leb (suc (length ds)) 3) (le-leb (suc (length ds)) 3 lt) t in
          begun (Octal ds) (92 ∷ (ds ++ b ∷ bs)) (b ∷ bs) done ps refl (record { all = a; some = some; three = three; no_more = no_more }) (at_plain (done ++ Literal (octal_on 0 ds % 256) ∷ []) on)

  at_width : (fs ds : Text) (done : List Piece) → list_all is_flag fs ≡ true → IsWidth ds → (ds ≡ [] → eqb b 48 ≡ false) → goes_on (widened (has 45 fs) (has 48 fs) (value_on 0 ds) b done) (rest_of bs) ≡ Some ps → Ended (37 ∷ (fs ++ (ds ++ b ∷ bs))) done ps
  at_width fs ds done f w first h = by (is_digit b) refl
    where
      wide : ℕ
      wide = 10 * value_on 0 ds + (b - 48)

      digit : is_digit b ≡ true → leb (10 * value_on 0 ds + (b - 48)) 2147483647 ≡ true → Ended (37 ∷ (fs ++ (ds ++ b ∷ bs))) done ps
      digit d l =
          let on : pieces_from (reading.Width (has 45 fs) (has 48 fs) (10 * value_on 0 ds + (b - 48))) bs done ≡ Some ps = (rw (d, l) at h) in
          let fits : 10 * value_on 0 ds + (b - 48) ≤ 2147483647 = elim (leb_tells (10 * value_on 0 ds + (b - 48)) 2147483647) [ inl x ↦ x.1 | inr g ↦ let y : true ≡ false = sym l ∙ g.0 in absurd (cc) ] in
          let is : IsWidth (ds ++ b ∷ []) = record { all = all_push is_digit ds b w.all d; no_flag = nought_push ds b w.no_flag first; fits = subst (λ (n : ℕ). n ≤ 2147483647) (sym (value_push 0 ds b)) fits } in
          let e : Ended (37 ∷ ((fs ++ (ds ++ b ∷ [])) ++ bs)) done ps = again (reading.Width (has 45 fs) (has 48 fs) (10 * value_on 0 ds + (b - 48))) (37 ∷ (fs ++ (ds ++ b ∷ []))) done (fs, ds ++ b ∷ [], refl, f, refl, refl, push_nil ds b, is, sym (value_push 0 ds b)) on in
          subst (λ (x : Text). Ended (37 ∷ x) done ps) (append_assoc fs (ds ++ b ∷ []) bs ∙ ap (λ (x : Text). fs ++ x) (append_assoc ds (b ∷ []) bs)) e

      letter : (k : Option Specifier) → is_digit b ≡ false → specifier_of b ≡ k → Ended (37 ∷ (fs ++ (ds ++ b ∷ bs))) done ps
      letter None d e = let x : ◌≡◌ {A = Option (List Piece)} None (Some ps) = (rw (d, e) at h) in absurd (cc)
      letter (Some k) d e =
          let c : Piece = Converted (record { left = has 45 fs; zero = has 48 fs; width = value_on 0 ds; specifier = k }) in
          let on : pieces_from reading.Plain bs (done ++ c ∷ []) ≡ Some ps = (rw (d, e) at h) in
          let front : 37 ∷ (fs ++ (ds ++ b ∷ bs)) ≡ (37 ∷ (fs ++ (ds ++ b ∷ []))) ++ bs = ap (λ (x : Text). 37 ∷ x) (sym (append_assoc fs (ds ++ b ∷ []) bs ∙ ap (λ (x : Text). fs ++ x) (append_assoc ds (b ∷ []) bs))) in
          begun (Specification fs ds b k) (37 ∷ (fs ++ (ds ++ b ∷ bs))) bs done ps front (f, w, e) (again reading.Plain [] (done ++ c ∷ []) refl on)

      by : (d : Bool) → is_digit b ≡ d → Ended (37 ∷ (fs ++ (ds ++ b ∷ bs))) done ps
      by true d = fitting (leb (10 * value_on 0 ds + (b - 48)) 2147483647) refl
        where
          fitting : (l : Bool) → leb (10 * value_on 0 ds + (b - 48)) 2147483647 ≡ l → Ended (37 ∷ (fs ++ (ds ++ b ∷ bs))) done ps
          fitting true l = digit d l
          fitting false l = let x : ◌≡◌ {A = Option (List Piece)} None (Some ps) = (rw (d, l) at h) in absurd (cc)
      by false d = letter (specifier_of b) d refl

  at_flags : (fs : Text) (done : List Piece) → list_all is_flag fs ≡ true → goes_on (flagged (has 45 fs) (has 48 fs) b done) (rest_of bs) ≡ Some ps → Ended (37 ∷ (fs ++ b ∷ bs)) done ps
  at_flags fs done f h = by (eqb b 45) (eqb b 48) refl refl
    where
      pushed : (left zero : Bool) → is_flag b ≡ true → left ≡ has 45 fs || eqb b 45 → zero ≡ has 48 fs || eqb b 48 → pieces_from (reading.Flags left zero) bs done ≡ Some ps → Ended (37 ∷ (fs ++ b ∷ bs)) done ps
      pushed left zero i l z on =
          let e : Ended (37 ∷ ((fs ++ b ∷ []) ++ bs)) done ps = again (reading.Flags left zero) (37 ∷ (fs ++ b ∷ [])) done (fs ++ b ∷ [], refl, all_push is_flag fs b f i, l ∙ sym (has_push 45 fs b), z ∙ sym (has_push 48 fs b)) on in
          subst (λ (x : Text). Ended (37 ∷ x) done ps) (append_assoc fs (b ∷ []) bs) e

      by : (x y : Bool) → eqb b 45 ≡ x → eqb b 48 ≡ y → Ended (37 ∷ (fs ++ b ∷ bs)) done ps
      by true true x y = absurd (omega (arith, eq-true b 45 x, eq-true b 48 y))
      by true false x y =
          let on : pieces_from (reading.Flags true (has 48 fs)) bs done ≡ Some ps = (rw x at h) in
          let i : is_flag b ≡ true = (rw x refl) in
          pushed true (has 48 fs) i (sym (rw x (or_with_true (has 45 fs)))) (sym (rw y (or_with_false (has 48 fs)))) on
      by false true x y =
          let on : pieces_from (reading.Flags (has 45 fs) true) bs done ≡ Some ps = (rw (x, y) at h) in
          let i : is_flag b ≡ true = (rw (x, y) refl) in
          pushed (has 45 fs) true i (sym (rw x (or_with_false (has 45 fs)))) (sym (rw y (or_with_true (has 48 fs)))) on
      by false false x y =
          let on : goes_on (widened (has 45 fs) (has 48 fs) 0 b done) (rest_of bs) ≡ Some ps = (rw (x, y) at h) in
          at_width fs [] done f (record { all = refl; no_flag = refl; fits = omega arith }) (λ _. y) on

  at_byte : (r : Reading) (pre : Text) (done : List Piece) → Pending r pre → goes_on (step r b done) (rest_of bs) ≡ Some ps → Ended (pre ++ b ∷ bs) done ps
  at_byte reading.Plain pre done p h = subst (λ (x : Text). Ended (x ++ b ∷ bs) done ps) (sym p) (at_plain done h)
  at_byte reading.Escape pre done p h = subst (λ (x : Text). Ended (x ++ b ∷ bs) done ps) (sym p) (at_escape done h)
  at_byte (reading.Octal n v) pre done (ds, whole, a, len, some, three, value) h =
      let on : goes_on (octal (length ds) (octal_on 0 ds % 256) b done) (rest_of bs) ≡ Some ps = subst (λ (m : ℕ). goes_on (octal m (octal_on 0 ds % 256) b done) (rest_of bs) ≡ Some ps) (sym len) (subst (λ (m : ℕ). goes_on (octal n m b done) (rest_of bs) ≡ Some ps) value h) in
      subst (λ (x : Text). Ended (x ++ b ∷ bs) done ps) (sym whole) (at_octal ds done a (omega (arith, len, some)) (omega (arith, len, three)) on)
  at_byte (reading.Flags left zero) pre done (fs, whole, f, l, z) h =
      let on : goes_on (flagged (has 45 fs) (has 48 fs) b done) (rest_of bs) ≡ Some ps = subst (λ (y : Bool). goes_on (flagged (has 45 fs) y b done) (rest_of bs) ≡ Some ps) z (subst (λ (x : Bool). goes_on (flagged x zero b done) (rest_of bs) ≡ Some ps) l h) in
      subst (λ (x : Text). Ended (x ++ b ∷ bs) done ps) (sym whole) (at_flags fs done f on)
  at_byte (reading.Width left zero n) pre done (fs, ds, whole, f, l, z, some, w, value) h =
      let on : goes_on (widened (has 45 fs) (has 48 fs) (value_on 0 ds) b done) (rest_of bs) ≡ Some ps =
      subst (λ (m : ℕ). goes_on (widened (has 45 fs) (has 48 fs) m b done) (rest_of bs) ≡ Some ps) value
      (subst (λ (y : Bool). goes_on (widened (has 45 fs) y n b done) (rest_of bs) ≡ Some ps) z (subst (λ (x : Bool). goes_on (widened x zero n b done) (rest_of bs) ≡ Some ps) l h))
      in
      let e : Ended ((37 ∷ (fs ++ ds)) ++ b ∷ bs) done ps = subst (λ (x : Text). Ended (37 ∷ x) done ps) (sym (append_assoc fs ds (b ∷ bs))) (at_width fs ds done f w (λ none. absurd (some none)) on) in
      subst (λ (x : Text). Ended (x ++ b ∷ bs) done ps) (sym whole) e

at_end : (r : Reading) (pre : Text) (done ps : List Piece) → Pending r pre → finished r done ≡ Some ps → Ended pre done ps
at_end reading.Plain pre done ps p h = subst (λ (x : Text). Ended x done ps) (sym p) (nothing_left done ps (some_same done ps h))
at_end reading.Escape pre done ps p h =
    subst (λ (x : Text). Ended x done ps) (sym p) (begun Backslash (92 ∷ []) [] done ps refl refl (nothing_left (done ++ Literal 92 ∷ []) ps (some_same (with_byte 92 done) ps h)))
at_end (reading.Octal n v) pre done ps (ds, whole, a, len, some, three, value) h =
    let on : Some (done ++ Literal (octal_on 0 ds % 256) ∷ []) ≡ Some ps = subst (λ (m : ℕ). Some (done ++ Literal m ∷ []) ≡ Some ps) value h in
    let is : AreOctal ds [] = record { all = a; some = omega (arith, len, some); three = omega (arith, len, three); no_more = λ _. refl } in
    let front : 92 ∷ ds ≡ (92 ∷ ds) ++ [] = sym (append-nil (92 ∷ ds)) in
    subst (λ (x : Text). Ended x done ps) (sym whole) (begun (Octal ds) (92 ∷ ds) [] done ps front is (nothing_left (done ++ Literal (octal_on 0 ds % 256) ∷ []) ps (some_same _ ps on)))
at_end (reading.Flags left zero) pre done ps p h = absurd (cc)
at_end (reading.Width left zero n) pre done ps p h = absurd (cc)

read_pieces : (text : Text) (r : Reading) (pre : Text) (done ps : List Piece) → Pending r pre → pieces_from r text done ≡ Some ps → Ended (pre ++ text) done ps
read_pieces [] r pre done ps p h = subst (λ (x : Text). Ended x done ps) (sym (append-nil pre)) (at_end r pre done ps p h)
read_pieces (b ∷ bs) r pre done ps p h = at_byte b bs ps (λ r pre done p h. read_pieces bs r pre done ps p h) r pre done p h

pub read_elements : (format : Text) (ps : List Piece) → pieces format ≡ Some ps → HasPieces format ps
read_elements format ps h = let e : Ended format [] ps = read_pieces format reading.Plain [] [] ps refl h in record { elements = e.elements; are = e.are; pieces = e.pieces }
