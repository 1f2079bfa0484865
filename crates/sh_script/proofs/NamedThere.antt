-- What a fault names as left out of the profile stands at the fault's place.
use Rattle.std.proofs.Common.{arith, ◌≡◌, ℕ, zero, suc, ◌+◌, ◌-◌, List, [], ◌∷◌, Bool, refl, sym, ap, ◌∙◌, subst, inl, inr, length, take, drop, slice_index, drop-drop, length-drop}
use Rattle.sh_rules.specs.Grammar.{Halt}
use Rattle.sh_rules.specs.Rules.{Token}
use Rattle.sh_token.specs.declared.fault.Why.TheVariants as y
use Rattle.sh_token.specs.declared.fault.ScriptFault.{ScriptFault}
use Rattle.sh_token.specs.Blanks.{joins}
use Rattle.sh_token.specs.Brackets.{before_symbol}
use Rattle.sh_token.specs.Folded.{folded, behind}
use Rattle.sh_token.specs.Places.{Place, begin}
use Rattle.sh_token.specs.Faults.{fault, unclosed, bracket_fault, told, is_over, fault_of}
use Rattle.sh_token.proofs.Folding.{folded-past}
use Rattle.sh_script.specs.Scripts.{longest, StopsAt, IsFaulty}
use Rattle.sh_script.proofs.Standing.{spelled_of}
use Rattle.sh_script.proofs.Within.{GoesOn, further, within_text}
use Rattle.sh_script.proofs.FaultCases.{each_fault}

-- what a fault names stands so many bytes behind the place, as the text is read
abbrev Names : Place → ScriptFault → Type 0
Names p f = (name : List ℕ) → f.why ≡ y.NotInProfile name → (n : ℕ) × (f.at ≡ p.at + n) × (name ≡ take (length name) (folded (drop n p.text)))

-- BYTES
taken_again : (n : ℕ) (xs : List ℕ) → take n xs ≡ take (length (take n xs)) xs
taken_again zero xs = refl
taken_again (suc n) [] = refl
taken_again (suc n) (x ∷ xs) = ap (λ l. x ∷ l) (taken_again n xs)

first_folded : (cs : List ℕ) → 96 ∷ [] ≡ take 1 (folded (96 ∷ cs))
first_folded [] = refl
first_folded (c ∷ cs) = refl

byte_there : (text : List ℕ) (n : ℕ) → slice_index text n ≡ 96 → 96 ∷ [] ≡ take 1 (folded (drop n text))
byte_there [] zero e = absurd (no_byte e)
  where
    no_byte : ◌≡◌ {A = ℕ} 0 96 → ⊥
    no_byte e = omega (arith, e)
byte_there [] (suc n) e = absurd (no_byte e)
  where
    no_byte : ◌≡◌ {A = ℕ} 0 96 → ⊥
    no_byte e = omega (arith, e)
byte_there (c ∷ cs) zero e = first_folded cs ∙ ap (λ b. take 1 (folded (b ∷ cs))) (sym e)
byte_there (c ∷ cs) (suc n) e = byte_there cs n e

cut : (j : ℕ) (text : List ℕ) → drop j text ≡ drop (length text - length (drop j text)) text
cut zero text = ap (λ i. drop i text) (same (length text))
  where
    same : (n : ℕ) → 0 ≡ n - n
    same n = omega arith
cut (suc j) [] = refl
cut (suc j) (c ∷ cs) = cut j cs ∙ sym (ap (λ i. drop i (c ∷ cs)) (one_more (length cs) (length (drop j cs)) within))
  where
    within : length (drop j cs) + (length cs - length (drop j cs)) ≡ length cs
    within = omega (arith, length-drop j cs)

    one_more : (n m : ℕ) → m + (n - m) ≡ n → suc n - m ≡ suc (n - m)
    one_more n m h = omega (arith, h)

behind_is : (k : ℕ) (text : List ℕ) → (j : ℕ) × (behind k text ≡ drop j text)
behind_is zero text = (0, refl)
behind_is (suc k) text =
    let i = behind_is k text in
    let b = behind k text in
    (i.0 + joins b + 1, ap (λ x. drop 1 (drop (joins b) x)) i.1 ∙ ap (drop 1) (drop-drop (joins b) i.0 text) ∙ drop-drop 1 (i.0 + joins b) text)

-- FAULTS THAT NAME NOTHING
not_syntax : (name : List ℕ) → y.Syntax ≡ y.NotInProfile name → ⊥
not_syntax name e = cc

not_unclosed : (name : List ℕ) → y.Unclosed ≡ y.NotInProfile name → ⊥
not_unclosed name e = cc

not_deep : (name : List ℕ) → y.Deep ≡ y.NotInProfile name → ⊥
not_deep name e = cc

not_long : (name : List ℕ) → y.Long ≡ y.NotInProfile name → ⊥
not_long name e = cc

syntax_none : (p : Place) (at : ℕ) → Names p (fault at y.Syntax)
syntax_none p at = λ name e. absurd (not_syntax name e)

unclosed_none : (p : Place) → Names p (unclosed p)
unclosed_none p = λ name e. absurd (not_unclosed name e)

deep_none : (p : Place) → Names p (fault p.at y.Deep)
deep_none p = λ name e. absurd (not_deep name e)

-- A FAULT THAT NAMES SOMETHING
the_name : (name there : List ℕ) → y.NotInProfile there ≡ y.NotInProfile name → there ≡ name
the_name name there e = cc

named : (p : Place) (at n : ℕ) (there : List ℕ) → at ≡ p.at + n → there ≡ take (length there) (folded (drop n p.text)) → Names p (fault at (y.NotInProfile there))
named p at n there a e = λ name h. (n, a, subst (λ (xs : List ℕ). xs ≡ take (length xs) (folded (drop n p.text))) (the_name name there h) e)

byte_named : (p : Place) (n : ℕ) → slice_index p.text n ≡ 96 → Names p (fault (p.at + n) (y.NotInProfile (96 ∷ [])))
byte_named p n e = named p (p.at + n) n (96 ∷ []) refl (byte_there p.text n e)

out_named : (p : Place) (n : ℕ) → Names p (fault p.at (y.NotInProfile (take n (folded p.text))))
out_named p n = named p p.at 0 (take n (folded p.text)) (nothing p.at) (taken_again n (folded p.text))
  where
    nothing : (m : ℕ) → m ≡ m + 0
    nothing m = omega arith

bracket_named : (p : Place) → Names p (bracket_fault p)
bracket_named p =
    let k = suc (before_symbol (drop 1 (folded p.text))) in
    let symbol = behind k p.text in
    let i = behind_is k p.text in
    let d = length p.text - length symbol in
    let there : symbol ≡ drop d p.text = i.1 ∙ cut i.0 p.text ∙ ap (λ (xs : List ℕ). drop (length p.text - length xs) p.text) (sym i.1) in
    let past : folded symbol ≡ folded (drop (d + joins symbol) p.text) =
    sym (folded-past symbol) ∙ ap (λ (xs : List ℕ). folded (drop (joins symbol) xs)) there ∙ ap (λ (xs : List ℕ). folded xs) (drop-drop (joins symbol) d p.text) in
    named p (p.at + d + joins symbol) (d + joins symbol) (take 2 (folded symbol)) (sum p.at d (joins symbol))
    (taken_again 2 (folded symbol) ∙ ap (λ (xs : List ℕ). take (length (take 2 (folded symbol))) xs) past)
  where
    sum : (a b c : ℕ) → a + b + c ≡ a + (b + c)
    sum a b c = omega arith

-- THE FAULT AT A PLACE
told_named : (b : Bool) (p : Place) → Names p (told b p)
told_named b p = each_fault (Names p) p (syntax_none p) (unclosed_none p) (deep_none p) (byte_named p) (out_named p) (bracket_named p) b

-- THE LAW: at the fault's place the text goes on, to its end or to that of a body, with what is named
there : (text : List ℕ) (p : Place) (h : Halt Token) (f : ScriptFault) (name : List ℕ) → StopsAt (begin text) p h → f ≡ fault_of p h → f.why ≡ y.NotInProfile name → (left : List ℕ) × GoesOn text f.at left × (name ≡ take (length name) (folded left))
unfolding StopsAt
there text p h f name s e why =
    let x = told_named (is_over h) p name (sym (ap (λ (g : ScriptFault). g.why) e) ∙ why) in
    let g = within_text text s.0 p (spelled_of s.0 (begin text) p s.1) in (
      drop x.0 p.text,
      subst (λ n. GoesOn text n (drop x.0 p.text)) (sym (ap (λ (g : ScriptFault). g.at) e ∙ x.1)) (further text p.at x.0 p.text g),
      x.2,
    )

long_none : (text : List ℕ) (f : ScriptFault) (name : List ℕ) → f ≡ fault longest y.Long → f.why ≡ y.NotInProfile name → (left : List ℕ) × GoesOn text f.at left × (name ≡ take (length name) (folded left))
long_none text f name e why = absurd (not_long name (sym (ap (λ (g : ScriptFault). g.why) e) ∙ why))

pub named_there : (text : List ℕ) (f : ScriptFault) (name : List ℕ) → IsFaulty text f → f.why ≡ y.NotInProfile name → (left : List ℕ) × GoesOn text f.at left × (name ≡ take (length name) (folded left))
unfolding IsFaulty
named_there text f name (inl x) why = long_none text f name x.1 why
named_there text f name (inr x) why = there text x.1.0 x.1.1 f name x.1.2 x.1.3 why
