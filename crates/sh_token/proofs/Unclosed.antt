-- How far no bracket is closed.
use Rattle.std.proofs.Common.{◌≡◌, ℕ, zero, suc, ◌+◌, ◌-◌, ◌<◌, ◌≤◌, inl, inr, List, [], ◌∷◌, drop, length, slice_index, Bool, true, false, refl, sym, ap, subst, ◌∙◌, arith, length-drop, drop-drop}
use Rattle.std.specs.Prelude.{◌==◌}
use Rattle.std.proofs.lemmas.Bool.{eqb-true, cases_lt}
use Rattle.sh_rules.specs.declared.token_kind.TokenKind.{TokenKind}
use Rattle.sh_token.specs.declared.bytes.Class.{Class}
use Rattle.sh_token.specs.Blanks.{joins, two_if}
use Rattle.sh_token.specs.Bytes.{◌or◌, ◌also◌, class_is}
use Rattle.sh_token.specs.Expansions.{is_dollar}
use Rattle.sh_token.specs.Folded.{folded, without, run_on, behind_one}
use Rattle.sh_token.specs.Brackets.{closes_bracket, text_from, text_look, IsUnclosed}
use Rattle.sh_token.specs.Tokens.{token}
use Rattle.sh_token.proofs.Symbols.{bare, no_bare, one_less, closes_on, closes_never, unclosed_bracket, unclosed}

-- of a text of which nothing is known
pub unknown : (f : ℕ → Bool) (text : List ℕ) → IsUnclosed f (length text) text
unknown f text = record { none_closed = λ n h. absurd (omega (arith, h, length-drop n text)) }

-- behind so many bytes as much is known
pub known_behind : (f : ℕ → Bool) (down_to n : ℕ) (text left : List ℕ) → left ≡ drop n text → IsUnclosed f down_to text → IsUnclosed f down_to left
known_behind f down_to n text left e u = record { none_closed = there }
  where
    same : (m : ℕ) → drop m left ≡ drop (n + m) text
    same m = ap (drop m) e ∙ drop-drop m n text

    there : (m : ℕ) → down_to < length (drop m left) → closes_bracket f (folded (drop m left)) ≡ false
    there m h = ap (λ xs. closes_bracket f (folded xs)) (same m) ∙ u.none_closed (n + m) (subst (λ xs. down_to < length xs) (same m) h)

-- within joined lines: the newline of one is a byte of the class, or ends it
never : (b : Bool) → (b also false) ≡ false
never true = refl
never false = refl

newline_on : (f : ℕ → Bool) (cs : List ℕ) → closes_bracket f (folded cs) ≡ false → closes_bracket f (folded (10 ∷ cs)) ≡ false
newline_on f [] h = never (f 10 or is_dollar (10 ∷ []))
newline_on f (c ∷ cs) h = ap (λ b. (f 10 or is_dollar (10 ∷ folded (c ∷ cs))) also b) h ∙ never (f 10 or is_dollar (10 ∷ folded (c ∷ cs)))

is_newline : (c d : ℕ) → (c == 92 also d == 10) ≡ true → d ≡ 10
is_newline c d h = eqb-true d 10 (second (c == 92) (d == 10) h)
  where
    second : (a b : Bool) → (a also b) ≡ true → b ≡ true
    second true b i = i
    second false b i = cc

deeper : (f : ℕ → Bool) (c d : ℕ) (cs : List ℕ) → closes_bracket f (folded (c ∷ (d ∷ cs))) ≡ false → closes_bracket f (folded cs) ≡ false → d ≡ 10 → ((m : ℕ) → m ≤ joins cs → closes_bracket f (folded (drop m cs)) ≡ false) → (m : ℕ) → m ≤ suc (suc (joins cs)) → closes_bracket f (folded (drop m (c ∷ (d ∷ cs)))) ≡ false
deeper f c d cs h k e ih zero i = h
deeper f c d cs h k e ih (suc zero) i = ap (λ x. closes_bracket f (folded (x ∷ cs))) e ∙ newline_on f cs k
deeper f c d cs h k e ih (suc (suc m)) i = ih m (omega (arith, i))

within_joins : (f : ℕ → Bool) (t : List ℕ) → closes_bracket f (folded t) ≡ false → (m : ℕ) → m ≤ joins t → closes_bracket f (folded (drop m t)) ≡ false
within_joins f [] h zero i = h
within_joins f [] h (suc m) i = h
within_joins f (c ∷ []) h zero i = h
within_joins f (c ∷ []) h (suc m) i = absurd (omega (arith, i))
within_joins f (c ∷ (d ∷ cs)) h m i = by (c == 92 also d == 10) refl (λ k n j. within_joins f cs k n j)
  where
    by : (b : Bool) → (c == 92 also d == 10) ≡ b → (closes_bracket f (folded cs) ≡ false → (n : ℕ) → n ≤ joins cs → closes_bracket f (folded (drop n cs)) ≡ false) → closes_bracket f (folded (drop m (c ∷ (d ∷ cs)))) ≡ false
    by true e within =
        let k : closes_bracket f (folded cs) ≡ false = sym (ap (λ b. closes_bracket f (without b c (folded (d ∷ cs)) (folded cs))) e) ∙ h in
        deeper f c d cs h k (is_newline c d e) (within k) m (omega (arith, i, ap (λ b. two_if b (joins cs)) e))
    by false e within =
        let z : m ≡ 0 = omega (arith, i, ap (λ b. two_if b (joins cs)) e) in
        ap (λ n. closes_bracket f (folded (drop n (c ∷ (d ∷ cs))))) z ∙ h

-- so far no `]`: where none closes what is left, none closes what went by
pub record Passed (k : Class) (text left : List ℕ) : Type 0 where
  pub gone : ℕ
  pub cut : left ≡ drop gone text
  pub back : closes_bracket (class_is k) (folded left) ≡ false → (n : ℕ) → n < gone → closes_bracket (class_is k) (folded (drop n text)) ≡ false

pub passed_begins : (k : Class) (text : List ℕ) → Passed k text text
passed_begins k text = record { gone = 0; cut = refl; back = λ h n i. absurd (omega (arith, i)) }

pub passed_on : (k : Class) (text left next : List ℕ) → Passed k text left → bare k (folded left) ≡ true → (slice_index (folded left) 0 == 93) ≡ false → folded next ≡ drop 1 (folded left) → next ≡ behind_one left → Passed k text next
passed_on k text left next p b o r e = record { gone = p.gone + joins left + 1; cut = cut; back = back }
  where
    at : (m : ℕ) → drop m left ≡ drop (p.gone + m) text
    at m = ap (drop m) p.cut ∙ drop-drop m p.gone text

    cut : next ≡ drop (p.gone + joins left + 1) text
    cut = e ∙ ap (drop 1) (at (joins left)) ∙ drop-drop 1 (p.gone + joins left) text

    here : closes_bracket (class_is k) (folded next) ≡ false → closes_bracket (class_is k) (folded left) ≡ false
    here h = closes_on k (folded left) b o ∙ sym (ap (closes_bracket (class_is k)) r) ∙ h

    back : closes_bracket (class_is k) (folded next) ≡ false → (n : ℕ) → n < p.gone + joins left + 1 → closes_bracket (class_is k) (folded (drop n text)) ≡ false
    back h n i = elim (cases_lt n p.gone) [
      | inl before ↦ p.back (here h) n before
      | inr behind ↦
          let same : n ≡ p.gone + (n - p.gone) = omega (arith, behind) in
          ap (λ j. closes_bracket (class_is k) (folded (drop j text))) same
          ∙ sym (ap (λ xs. closes_bracket (class_is k) (folded xs)) (at (n - p.gone)))
          ∙ within_joins (class_is k) left (here h) (n - p.gone) (omega (arith, behind, i))
    ]

pub passed_ends : (k : Class) (text left : List ℕ) → Passed k text left → bare k (folded left) ≡ false → IsUnclosed (class_is k) (length left) text
passed_ends k text left p b =
    record { none_closed = λ n h. p.back (closes_never k (folded left) b) n (omega (arith, h, length-drop n text, length-drop p.gone text, ap length p.cut)) }

pub passed_shorter : (k : Class) (left next : List ℕ) → bare k (folded left) ≡ true → folded next ≡ drop 1 (folded left) → length (folded next) < length (folded left)
passed_shorter k left next b r = omega (arith, one_less k (folded left) b, ap length r)

-- the text that is looked for where no bracket is closed
rest_of : (b e x : Bool) → b ≡ true → (b also (e or x)) ≡ false → x ≡ false
rest_of true true x h i = cc
rest_of true false x h i = i
rest_of false e x h i = cc

later : (k : Class) (xs : List ℕ) → closes_bracket (class_is k) xs ≡ false → bare k xs ≡ true → closes_bracket (class_is k) (drop 1 xs) ≡ false
later k [] h b = refl
later k (c ∷ cs) h b = rest_of (bare k (c ∷ cs)) (c == 93) (closes_bracket (class_is k) cs) b h

pub look_unclosed : (k : Class) (kind : TokenKind) (xs : List ℕ) → closes_bracket (class_is k) xs ≡ false → bare k xs ≡ true → token kind (run_on (class_is k) xs) ≡ text_look (class_is k) kind xs
look_unclosed k kind [] h b = absurd (no_bare k b)
look_unclosed k kind (c ∷ cs) h b =
    let i = later k (c ∷ cs) h b in
    let x = unclosed_bracket (class_is k) c cs i in
    sym (ap (λ y. text_from (class_is k) kind y cs) x.1 ∙ ap (λ m. token kind (suc m)) (unclosed (class_is k) x.0 cs i))
