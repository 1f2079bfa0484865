-- A text without its joined lines, byte by byte.
use Rattle.std.proofs.Common.{◌≡◌, ℕ, zero, suc, ◌+◌, ◌≤◌, ◌<◌, List, [], ◌∷◌, ◌++◌, ◌-◌, length, drop, take, slice_index, Bool, true, false, refl, sym, ap, ◌∙◌, arith, length-drop}
use Rattle.std.proofs.Math.Dec.{eqb-suc-zero}
use Rattle.std.proofs.lemmas.List.{append_assoc, append-nil}
use Rattle.std.specs.Prelude.{◌==◌, if◌then◌else◌}
use Rattle.sh_token.specs.declared.bytes.Class.{Class}
use Rattle.sh_token.specs.declared.bytes.Class.TheVariants as cl
use Rattle.sh_token.specs.Bytes.{◌or◌, ◌also◌, is_tab, class_is}
use Rattle.sh_token.specs.Blanks.{is_join, joins, two_if}
use Rattle.sh_token.specs.declared.front.Front.TheVariants as f
use Rattle.sh_token.specs.Folded.{folded, without, run, one_if, behind, behind_one}
use Rattle.sh_token.specs.Fronts.{end_of}
use Rattle.sh_token.specs.HereDocuments.{begins, ends}
use Rattle.sh_token.specs.Places.{is_none}
use Rattle.sh_token.specs.Steps.{untabbed, ends_with_dash}

-- what is left past joined lines reads the same
pub folded-past : (t : List ℕ) → folded (drop (joins t) t) ≡ folded t
folded-past [] = refl
folded-past (c ∷ []) = refl
folded-past (c ∷ (d ∷ cs)) = by (c == 92 also d == 10) refl (folded-past cs)
  where
    by : (b : Bool) → (c == 92 also d == 10) ≡ b → folded (drop (joins cs) cs) ≡ folded cs → folded (drop (two_if b (joins cs)) (c ∷ (d ∷ cs))) ≡ folded (c ∷ (d ∷ cs))
    by true e ih = ih ∙ sym (ap (λ b. without b c (folded (d ∷ cs)) (folded cs)) e)
    by false e ih = refl

-- its first byte, where no joined line is in front
pub folded-first : (t : List ℕ) → is_join t ≡ false → slice_index (folded t) 0 ≡ slice_index t 0
folded-first [] h = refl
folded-first (c ∷ []) h = refl
folded-first (c ∷ (d ∷ cs)) h = ap (λ b. slice_index (without b c (folded (d ∷ cs)) (folded cs)) 0) h

pub folded-rest : (t : List ℕ) → is_join t ≡ false → folded (drop 1 t) ≡ drop 1 (folded t)
folded-rest [] h = refl
folded-rest (c ∷ []) h = refl
folded-rest (c ∷ (d ∷ cs)) h = sym (ap (λ b. drop 1 (without b c (folded (d ∷ cs)) (folded cs))) h)

-- the same of a text and what is left of it past its joined lines
pub first_byte : (t past : List ℕ) → past ≡ drop (joins t) t → is_join past ≡ false → slice_index past 0 ≡ slice_index (folded t) 0
first_byte t past e h = sym (folded-first past h) ∙ ap (λ x. slice_index (folded x) 0) e ∙ ap (λ x. slice_index x 0) (folded-past t)

pub other_bytes : (t past : List ℕ) → past ≡ drop (joins t) t → is_join past ≡ false → folded (drop 1 past) ≡ drop 1 (folded t)
other_bytes t past e h = folded-rest past h ∙ ap (λ x. drop 1 (folded x)) e ∙ ap (λ x. drop 1 x) (folded-past t)

-- it is no longer than the text
pub folded-length : (t : List ℕ) → length (folded t) ≤ length t
folded-length [] = omega arith
folded-length (c ∷ []) = omega arith
folded-length (c ∷ (d ∷ cs)) = by (c == 92 also d == 10) (folded-length (d ∷ cs)) (folded-length cs)
  where
    by : (b : Bool) → length (folded (d ∷ cs)) ≤ suc (length cs) → length (folded cs) ≤ length cs → length (without b c (folded (d ∷ cs)) (folded cs)) ≤ suc (suc (length cs))
    by true x y = omega (arith, y)
    by false x y = omega (arith, x)

-- no class has the byte that stands for the end
pub no_end : (k : Class) → class_is k 0 ≡ true → ⊥
no_end cl.Plain h = cc
no_end cl.Blank h = cc
no_end cl.Digit h = cc
no_end cl.Name h = cc
no_end cl.QuotedText h = cc
no_end cl.BraceText h = cc
no_end cl.QuotedBraceText h = cc
no_end cl.BodyText h = cc
no_end cl.ArithmeticText h = cc
no_end cl.Tab h = cc
no_end cl.Unquoted h = cc

-- a run goes on, or ends
pub run_on : (k : Class) (xs : List ℕ) → class_is k (slice_index xs 0) ≡ true → (run (class_is k) xs ≡ suc (run (class_is k) (drop 1 xs))) × (length xs ≡ suc (length (drop 1 xs)))
run_on k [] h = absurd (no_end k h)
run_on k (c ∷ cs) h = (ap (λ b. one_if b (run (class_is k) cs)) h, refl)

pub run_end : (k : Class) (xs : List ℕ) → class_is k (slice_index xs 0) ≡ false → run (class_is k) xs ≡ 0
run_end k [] h = refl
run_end k (c ∷ cs) h = ap (λ b. one_if b (run (class_is k) cs)) h

-- so far
pub record Counted (k : Class) (all left : List ℕ) (count : ℕ) : Type 0 where
  pub runs : run (class_is k) (folded all) ≡ count + run (class_is k) (folded left)
  pub counts : length (folded all) ≡ count + length (folded left)

pub count_begins : (k : Class) (all : List ℕ) → Counted k all all 0
count_begins k all = record { runs = omega arith; counts = omega arith }

pub count_goes_on : (k : Class) (all left next : List ℕ) (count : ℕ) → Counted k all left count → class_is k (slice_index (folded left) 0) ≡ true → folded next ≡ drop 1 (folded left) → Counted k all next (count + 1)
count_goes_on k all left next count s h e =
    let o = run_on k (folded left) h in
    record { runs = omega (arith, s.runs, o.0, ap (run (class_is k)) e); counts = omega (arith, s.counts, o.1, ap length e) }

pub count_stops : (k : Class) (all left : List ℕ) (count : ℕ) → Counted k all left count → class_is k (slice_index (folded left) 0) ≡ false → count ≡ run (class_is k) (folded all)
count_stops k all left count s h = omega (arith, s.runs, run_end k (folded left) h)

none_left : (k : Class) (xs : List ℕ) → length xs ≡ 0 → run (class_is k) xs ≡ 0
none_left k [] h = refl
none_left k (c ∷ cs) h = cc

pub count_ends : (k : Class) (all left : List ℕ) (count : ℕ) → Counted k all left count → count ≤ length all → length all ≤ count → length all ≡ run (class_is k) (folded all)
count_ends k all left count s u v =
    let e : length (folded left) ≡ 0 = omega (arith, s.counts, folded-length all, v) in
    omega (arith, s.runs, none_left k (folded left) e, u, v)

pub count_within : (k : Class) (all left : List ℕ) (count : ℕ) → Counted k all left count → count ≤ length (folded all)
count_within k all left count s = omega (arith, s.counts)

-- nothing is left
no_byte : (xs : List ℕ) → length xs < 1 → 0 ≡ slice_index xs 0
no_byte [] h = refl
no_byte (c ∷ cs) h = omega (arith, h)

pub no_first_byte : (t past : List ℕ) → past ≡ drop (joins t) t → is_join past ≡ false → length past < 1 → 0 ≡ slice_index (folded t) 0
no_first_byte t past e h n = no_byte past n ∙ first_byte t past e h

nothing_behind : (xs : List ℕ) → length xs < 1 → folded xs ≡ folded (drop 1 xs)
nothing_behind [] h = refl
nothing_behind (c ∷ cs) h = absurd (omega (arith, h))

pub no_other_bytes : (t past : List ℕ) → past ≡ drop (joins t) t → is_join past ≡ false → length past < 1 → folded past ≡ drop 1 (folded t)
no_other_bytes t past e h n = nothing_behind past n ∙ other_bytes t past e h

-- one byte further
drop_after : (n : ℕ) (xs : List ℕ) → drop 1 (drop n xs) ≡ drop (suc n) xs
drop_after zero xs = refl
drop_after (suc n) [] = refl
drop_after (suc n) (x ∷ xs) = drop_after n xs

pub drop_next : (n : ℕ) (xs : List ℕ) → drop 1 (drop n xs) ≡ drop (n + 1) xs
drop_next n xs = let e : suc n ≡ n + 1 = omega arith in drop_after n xs ∙ ap (λ k. drop k xs) e

pub byte_at : (n : ℕ) (xs : List ℕ) → slice_index (drop n xs) 0 ≡ slice_index xs n
byte_at zero xs = refl
byte_at (suc n) [] = refl
byte_at (suc n) (x ∷ xs) = byte_at n xs

-- whether anything is left
is_none-length : {A : Type 0} (xs : List A) → (length xs == 0) ≡ is_none xs
is_none-length [] = refl
is_none-length (x ∷ xs) = eqb-suc-zero (length xs)

none_where : (t : List ℕ) → is_join t ≡ false → is_none t ≡ is_none (folded t)
none_where [] h = refl
none_where (c ∷ []) h = refl
none_where (c ∷ (d ∷ cs)) h = sym (ap (λ b. is_none (without b c (folded (d ∷ cs)) (folded cs))) h)

pub none_read : (t past : List ℕ) → past ≡ drop (joins t) t → is_join past ≡ false → (length past == 0) ≡ is_none (folded t)
none_read t past e h = is_none-length past ∙ none_where past h ∙ ap (λ x. is_none (folded x)) e ∙ ap is_none (folded-past t)

-- what stands behind a byte, as it stands
pub empty_behind : (t past : List ℕ) → past ≡ drop (joins t) t → length past < 1 → past ≡ behind_one t
empty_behind t past e n = nothing past n ∙ ap (drop 1) e
  where
    nothing : (xs : List ℕ) → length xs < 1 → xs ≡ drop 1 xs
    nothing [] h = refl
    nothing (c ∷ cs) h = absurd (omega (arith, h))

pub past_within : (t past : List ℕ) → past ≡ drop (joins t) t → length past ≤ length t
past_within t past e = omega (arith, ap length e, length-drop (joins t) t)

pub behind_within : (t past rest : List ℕ) → past ≡ drop (joins t) t → rest ≡ drop 1 past → length rest ≤ length t
behind_within t past rest e h = omega (arith, ap length h, length-drop 1 past, past_within t past e)

pub behind_next : (n : ℕ) (t left : List ℕ) → left ≡ behind_one (behind n t) → left ≡ behind (n + 1) t
behind_next n t left h = let e : suc n ≡ n + 1 = omega arith in h ∙ ap (λ k. behind k t) e

-- of a text by its first byte
pub none_begins : (b : ℕ) (xs : List ℕ) → is_none xs ≡ true → false ≡ begins b xs
none_begins b [] h = refl
none_begins b (c ∷ cs) h = cc

pub some_begins : (b : ℕ) (xs : List ℕ) → is_none xs ≡ false → (slice_index xs 0 == b) ≡ begins b xs
some_begins b [] h = cc
some_begins b (c ∷ cs) h = refl

pub none_ends : (xs : List ℕ) → is_none xs ≡ true → true ≡ ends xs
none_ends [] h = refl
none_ends (c ∷ cs) h = cc

pub some_ends : (xs : List ℕ) → is_none xs ≡ false → (slice_index xs 0 == 10) ≡ ends xs
some_ends [] h = cc
some_ends (c ∷ cs) h = refl

pub none_front : (xs : List ℕ) → is_none xs ≡ true → f.End ≡ end_of xs
none_front [] h = refl
none_front (c ∷ cs) h = cc

pub some_front : (xs : List ℕ) → is_none xs ≡ false → f.Nul ≡ end_of xs
some_front [] h = cc
some_front (c ∷ cs) h = refl

-- none of so many, one of them, and the rest
pub none_of : (n : ℕ) (xs : List ℕ) → (n == 0) ≡ false → is_none xs ≡ is_none (take n xs)
none_of zero xs h = cc
none_of (suc n) [] h = refl
none_of (suc n) (c ∷ cs) h = refl

pub none_there : (n : ℕ) (xs : List ℕ) → (n == 0) ≡ true → true ≡ is_none (take n xs)
none_there zero xs h = refl
none_there (suc n) xs h = let e : false ≡ true = sym (eqb-suc-zero n) ∙ h in cc

pub take_one : (n : ℕ) (xs : List ℕ) → is_none (take n xs) ≡ false → take n xs ≡ slice_index xs 0 ∷ take (n - 1) (drop 1 xs)
take_one zero xs h = cc
take_one (suc n) [] h = cc
take_one (suc n) (c ∷ cs) h = let e : n ≡ suc n - 1 = omega arith in ap (λ k. c ∷ take k cs) e

pub take_some : (n : ℕ) (xs : List ℕ) → is_none (take n xs) ≡ false → 1 ≤ n
take_some zero xs h = cc
take_some (suc n) xs h = omega arith

-- a list goes over to another one, item by item
pub goes_over : (whole old new a rest : List ℕ) → whole ≡ old ++ rest → new ≡ old ++ a → (more : List ℕ) → rest ≡ a ++ more → whole ≡ new ++ more
goes_over whole old new a rest h i more e = h ∙ ap (λ x. old ++ x) e ∙ sym (append_assoc old a more) ∙ ap (λ x. x ++ more) (sym i)

pub is_over : (whole out rest : List ℕ) → whole ≡ out ++ rest → rest ≡ [] → out ≡ whole
is_over whole out rest h e = sym (h ∙ ap (λ x. out ++ x) e ∙ append-nil out)

-- one byte as it is read, where tabs may be dropped
pub untab_one : (tabs fresh : Bool) (xs : List ℕ) → is_none xs ≡ false → untabbed tabs fresh xs ≡ (if ((tabs also fresh) also is_tab (slice_index xs 0)) then [] else slice_index xs 0 ∷ []) ++ untabbed tabs (((tabs also fresh) also is_tab (slice_index xs 0)) or slice_index xs 0 == 10) (drop 1 xs)
untab_one tabs fresh [] h = cc
untab_one tabs fresh (c ∷ cs) h = by ((tabs also fresh) also is_tab c)
  where
    by : (b : Bool) → (if b then untabbed tabs true cs else c ∷ untabbed tabs (c == 10) cs) ≡ (if b then [] else c ∷ []) ++ untabbed tabs (b or c == 10) cs
    by true = refl
    by false = refl

pub untab_none : (tabs fresh : Bool) (xs : List ℕ) → is_none xs ≡ true → untabbed tabs fresh xs ≡ []
untab_none tabs fresh [] h = refl
untab_none tabs fresh (c ∷ cs) h = cc

-- the last byte is a dash
pub dash_one : (b : Bool) (xs : List ℕ) → is_none xs ≡ false → ends_with_dash b xs ≡ ends_with_dash (slice_index xs 0 == 45) (drop 1 xs)
dash_one b [] h = cc
dash_one b (c ∷ cs) h = refl

pub dash_none : (b : Bool) (xs : List ℕ) → is_none xs ≡ true → ends_with_dash b xs ≡ b
dash_none b [] h = refl
dash_none b (c ∷ cs) h = cc

pub shorter_rest : (xs ys : List ℕ) → is_none xs ≡ false → ys ≡ drop 1 xs → length ys < length xs
shorter_rest [] ys h e = cc
shorter_rest (c ∷ cs) ys h e = omega (arith, ap length e)
