-- A text as it is read: without its joined lines, each a backslash and a newline (XCU 2.2.1).
use Rattle.std.specs.Prelude.{ℕ, zero, suc, ◌==◌, List, [], ◌∷◌, Bool, true, false, drop}
use Rattle.sh_token.specs.Bytes.{◌also◌}
use Rattle.sh_token.specs.Blanks.{joins}

abbrev pub without : Bool → ℕ → List ℕ → List ℕ → List ℕ
without true c all rest = rest
without false c all rest = c ∷ all

abbrev pub folded : List ℕ → List ℕ
folded [] = []
folded (c ∷ []) = c ∷ []
folded (c ∷ (d ∷ cs)) = without (c == 92 also d == 10) c (folded (d ∷ cs)) (folded cs)

abbrev pub one_if : Bool → ℕ → ℕ
one_if true n = suc n
one_if false n = 0

-- how many bytes in front are of a class
abbrev pub run : (ℕ → Bool) → List ℕ → ℕ
run f [] = 0
run f (c ∷ cs) = one_if (f c) (run f cs)

-- the same where the first byte is in any case
abbrev pub run_on : (ℕ → Bool) → List ℕ → ℕ
run_on f text = suc (run f (drop 1 text))

-- what is left behind a byte, and behind so many: the joined lines in front go with it
abbrev pub behind_one : List ℕ → List ℕ
behind_one text = drop 1 (drop (joins text) text)

abbrev pub behind : ℕ → List ℕ → List ℕ
behind zero text = text
behind (suc n) text = behind_one (behind n text)
