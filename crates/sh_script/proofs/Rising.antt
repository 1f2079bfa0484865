-- Places that rise, and how many bytes are passed over.
use Rattle.std.proofs.Common.{arith, ◌≡◌, ◌≤◌, ℕ, suc, ◌+◌, List, [], ◌∷◌, ◌++◌, Bool, true, false, refl, ap, length, drop, length-drop}
use Rattle.std.specs.Prelude.{◌==◌, if◌then◌else◌}
use Rattle.sh_token.specs.declared.blanks.Skip.{Skip}
use Rattle.sh_token.specs.declared.blanks.Skip.TheVariants as sk
use Rattle.sh_token.specs.declared.body.Piece.{Piece}
use Rattle.sh_token.specs.declared.body.Piece.TheVariants as pc
use Rattle.sh_token.specs.Bytes.{◌or◌, is_blank}
use Rattle.sh_token.specs.Blanks.{pick, skip_of, counted, blanks, two_if, is_join, joins}
use Rattle.sh_token.specs.HereDocuments.{Awaited, piece, counted_line, line}
use Rattle.sh_token.specs.Steps.{popped}
use Rattle.sh_script.specs.Openings.{operators_at, AllFrom}

abbrev pub AllTo : List ℕ → ℕ → Type 0
AllTo [] n = Unit {0}
AllTo (x ∷ xs) n = (x ≤ n) × AllTo xs n

abbrev pub Rising : List ℕ → Type 0
Rising [] = Unit {0}
Rising (x ∷ xs) = AllFrom x xs × Rising xs

pub to_more : (xs : List ℕ) (n m : ℕ) → n ≤ m → AllTo xs n → AllTo xs m
to_more [] n m e h = tt
to_more (x ∷ xs) n m e h = (at_most x n m h.0 e, to_more xs n m e h.1)
  where
    at_most : (x n m : ℕ) → x ≤ n → n ≤ m → x ≤ m
    at_most x n m a b = omega (arith, a, b)

from_last : (x : ℕ) (xs : List ℕ) (n : ℕ) → x ≤ n → AllFrom x xs → AllFrom x (xs ++ n ∷ [])
from_last x [] n e h = (e, tt)
from_last x (y ∷ ys) n e h = (h.0, from_last x ys n e h.1)

pub to_last : (xs : List ℕ) (n m : ℕ) → n ≤ m → AllTo xs m → AllTo (xs ++ n ∷ []) m
to_last [] n m e h = (e, tt)
to_last (x ∷ xs) n m e h = (h.0, to_last xs n m e h.1)

pub rising_last : (xs : List ℕ) (n : ℕ) → Rising xs → AllTo xs n → Rising (xs ++ n ∷ [])
rising_last [] n h k = (tt, tt)
rising_last (x ∷ xs) n h k = (from_last x xs n k.0 h.0, rising_last xs n h.1 k.1)

from_popped : (x : ℕ) (xs : List ℕ) → AllFrom x xs → AllFrom x (popped xs)
from_popped x [] h = tt
from_popped x (y ∷ []) h = tt
from_popped x (y ∷ (z ∷ zs)) h = (h.0, from_popped x (z ∷ zs) h.1)

pub to_popped : (xs : List ℕ) (n : ℕ) → AllTo xs n → AllTo (popped xs) n
to_popped [] n h = tt
to_popped (x ∷ []) n h = tt
to_popped (x ∷ (y ∷ ys)) n h = (h.0, to_popped (y ∷ ys) n h.1)

pub rising_popped : (xs : List ℕ) → Rising xs → Rising (popped xs)
rising_popped [] h = tt
rising_popped (x ∷ []) h = tt
rising_popped (x ∷ (y ∷ ys)) h = (from_popped x (y ∷ ys) h.0, rising_popped (y ∷ ys) h.1)

pub operators_last : (ds : List Awaited) (a : Awaited) → operators_at ds ++ a.at ∷ [] ≡ operators_at (ds ++ a ∷ [])
operators_last [] a = refl
operators_last (b ∷ bs) a = ap (λ l. b.at ∷ l) (operators_last bs a)

pub rising_rest : (ds : List Awaited) → Rising (operators_at ds) → Rising (operators_at (drop 1 ds))
rising_rest [] h = tt
rising_rest (a ∷ ds) h = h.1

pub to_rest : (ds : List Awaited) (n : ℕ) → AllTo (operators_at ds) n → AllTo (operators_at (drop 1 ds)) n
to_rest [] n h = tt
to_rest (a ∷ ds) n h = h.1

-- WHAT IS PASSED OVER is no longer than the text
two_most : (b : Bool) (m n : ℕ) → m ≤ n → two_if b m ≤ suc (suc n)
two_most true m n h = omega (arith, h)
two_most false m n h = omega arith

pub joins_within : (t : List ℕ) → joins t ≤ length t
joins_within [] = omega arith
joins_within (c ∷ []) = omega arith
joins_within (c ∷ (d ∷ cs)) = two_most (is_join (c ∷ (d ∷ cs))) (joins cs) (length cs) (joins_within cs)

stop_most : (b : Bool) → counted (if b then sk.Stop else sk.One) 0 0 0 ≤ 1
stop_most true = omega arith
stop_most false = omega arith

pick_most : (a b : Bool) → counted (pick a b false) 0 0 0 ≤ 1
pick_most true b = omega arith
pick_most false true = omega arith
pick_most false false = omega arith

single_most : (m : Bool) (c : ℕ) → counted (skip_of m (c ∷ [])) 0 0 0 ≤ 1
single_most true c = stop_most (c == 10 or c == 0)
single_most false c = pick_most (is_blank c) (c == 35)

counted_most : (s : Skip) (one hash join n : ℕ) → one ≤ suc n → hash ≤ suc n → join ≤ n → counted s one hash join ≤ suc (suc n)
counted_most sk.Stop one hash join n a b c = omega arith
counted_most sk.One one hash join n a b c = omega (arith, a)
counted_most sk.Hash one hash join n a b c = omega (arith, b)
counted_most sk.Join one hash join n a b c = omega (arith, c)

pub blanks_within : (m : Bool) (t : List ℕ) → blanks m t ≤ length t
blanks_within m [] = omega arith
blanks_within m (c ∷ []) = single_most m c
blanks_within m (c ∷ (d ∷ cs)) =
    counted_most (skip_of m (c ∷ (d ∷ cs))) (blanks m (d ∷ cs)) (blanks true (d ∷ cs)) (blanks m cs) (length cs) (blanks_within m (d ∷ cs)) (blanks_within true (d ∷ cs)) (blanks_within m cs)

line_most : (x : Piece) (one two n : ℕ) → one ≤ suc n → two ≤ n → counted_line x one two ≤ suc (suc n)
line_most pc.End one two n a b = omega arith
line_most pc.Newline one two n a b = omega arith
line_most pc.Nul one two n a b = omega (arith, a)
line_most pc.Byte one two n a b = omega (arith, a)
line_most pc.Pair one two n a b = omega (arith, b)

pub line_within : (literal : Bool) (t : List ℕ) → line literal t ≤ length t
line_within literal [] = omega arith
line_within literal (c ∷ []) = omega arith
line_within literal (c ∷ (d ∷ cs)) = line_most (piece literal (c ∷ (d ∷ cs))) (line literal (d ∷ cs)) (line literal cs) (length cs) (line_within literal (d ∷ cs)) (line_within literal cs)

-- where what is left ends stays the same
pub ended : (at n : ℕ) (text : List ℕ) → n ≤ length text → at + length text ≡ at + n + length (drop n text)
ended at n text h = omega (arith, h, length-drop n text)

pub ended_twice : (at n m : ℕ) (text : List ℕ) → n ≤ length text → m ≤ length (drop n text) → at + length text ≡ at + n + m + length (drop m (drop n text))
ended_twice at n m text h k = omega (arith, h, k, length-drop n text, length-drop m (drop n text))
