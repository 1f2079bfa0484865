-- What is passed over in front of a token: blanks, comments and joined lines (XCU 2.2.1, 2.3).
use Rattle.std.specs.Prelude.{ℕ, suc, ◌==◌, List, [], ◌∷◌, Bool, true, false, if◌then◌else◌}
use Rattle.sh_token.specs.declared.blanks.Skip.{Skip}
use Rattle.sh_token.specs.declared.blanks.Skip.TheVariants as sk
use Rattle.sh_token.specs.Bytes.{◌or◌, ◌also◌, is_blank}

-- what stands in front of a token: nothing that is passed over, a blank or a byte of a comment, a comment's sign, a joined line
abbrev pub pick : Bool → Bool → Bool → Skip
pick true hash join = sk.One
pick false true join = sk.Hash
pick false false true = sk.Join
pick false false false = sk.Stop

-- in a comment or not
abbrev pub skip_of : Bool → List ℕ → Skip
skip_of true [] = sk.Stop
skip_of true (c ∷ cs) = if (c == 10 or c == 0) then sk.Stop else sk.One
skip_of false [] = sk.Stop
skip_of false (c ∷ []) = pick (is_blank c) (c == 35) false
skip_of false (c ∷ (d ∷ cs)) = pick (is_blank c) (c == 35) (c == 92 also d == 10)

abbrev pub counted : Skip → ℕ → ℕ → ℕ → ℕ
counted sk.Stop one hash join = 0
counted sk.One one hash join = suc one
counted sk.Hash one hash join = suc hash
counted sk.Join one hash join = suc (suc join)

-- how many bytes of blanks, joined lines and a comment stand in front (or of the rest of a comment)
abbrev pub blanks : Bool → List ℕ → ℕ
blanks m [] = 0
blanks m (c ∷ []) = counted (skip_of m (c ∷ [])) 0 0 0
blanks m (c ∷ (d ∷ cs)) = counted (skip_of m (c ∷ (d ∷ cs))) (blanks m (d ∷ cs)) (blanks true (d ∷ cs)) (blanks m cs)

-- how many bytes of joined lines
abbrev pub two_if : Bool → ℕ → ℕ
two_if true n = suc (suc n)
two_if false n = 0

abbrev pub is_join : List ℕ → Bool
is_join [] = false
is_join (c ∷ []) = false
is_join (c ∷ (d ∷ cs)) = c == 92 also d == 10

abbrev pub joins : List ℕ → ℕ
joins [] = 0
joins (c ∷ []) = 0
joins (c ∷ (d ∷ cs)) = two_if (is_join (c ∷ (d ∷ cs))) (joins cs)
