-- The tokens of an expression are read as it.
use Rattle.std.proofs.Common.{◌≡◌, ℕ, zero, suc, ◌≤◌, ◌+◌, List, [], ◌∷◌, refl, ap, ◌∙◌, arith}
use Rattle.std.specs.Prelude.{Bool, true, false, Option, Some, None}
use Rattle.std.proofs.lemmas.Bool.{le-leb, lt-leb}
use Rattle.rk_base.specs.Text.{Text}
use Rattle.sh_arith.specs.declared.operator.Operator.{Operator}
use Rattle.sh_arith.specs.declared.operator.Operator.TheVariants as operator
use Rattle.sh_arith.specs.declared.operator.Sign.{Sign}
use Rattle.sh_arith.specs.declared.operator.Sign.TheVariants as sign
use Rattle.sh_arith.specs.declared.token.Token.{Token}
use Rattle.sh_arith.specs.declared.token.Token.TheVariants as token
use Rattle.sh_arith.specs.Expression.{Expression, Constant, Name, Group, Signed, Applied, Both, Either, Choice, Assignment}
use Rattle.sh_arith.specs.Grammar.{operator_level, level, IsProper, sign_token, times, spelled}
use Rattle.sh_arith.specs.Reading.{ends_with}
use Rattle.sh_arith.proofs.Trees.{Wait, InParentheses, WithSign, WithLeft, WithBoth, WithEither, WithQuestion, WithColon, WithName, Wanted, Stands, Bare, made, is_ended, folded, kept, groups, go, goes_on, tree_read}

-- the level before which what waits ends
abbrev pub asks : Token → Option ℕ
asks (token.Operator o) = Some (operator_level o)
asks token.Both = Some 3
asks token.Either = Some 2
asks token.Question = Some 2
asks token.Colon = Some 0
asks token.Close = Some 0
asks token.End = Some 0
asks t = None

-- the least level of an operand that is wanted
abbrev pub wanted : Wait → ℕ
wanted InParentheses = 0
wanted (WithSign s) = 12
wanted (WithLeft o a) = suc (operator_level o)
wanted (WithBoth a) = 4
wanted (WithEither a) = 3
wanted (WithQuestion c) = 0
wanted (WithColon c a) = 1
wanted (WithName n x o) = 0

abbrev pub wants : List Wait → ℕ
wants [] = 0
wants (w ∷ ws) = wanted w

-- only `)` stands before an assignment
abbrev pub assigns_next : List Token → Bool
assigns_next [] = false
assigns_next (token.Close ∷ ts) = assigns_next ts
assigns_next (token.Assign o ∷ ts) = true
assigns_next (t ∷ ts) = false

folded_on : (l : ℕ) (w : Wait) (ws : List Wait) (a : Expression) → is_ended l w ≡ true → folded l a (w ∷ ws) ≡ folded l (made w a) ws
folded_on l w ws a e = rw e refl

kept_on : (l : ℕ) (w : Wait) (ws : List Wait) → is_ended l w ≡ true → kept l (w ∷ ws) ≡ kept l ws
kept_on l w ws e = rw e refl

same_level : (k l : ℕ) (w : Wait) → Some k ≡ Some l → is_ended l w ≡ true → is_ended k w ≡ true
same_level k l w e q = let f : k ≡ l = cc in rw f q

ends_go : (t : Token) (l : ℕ) (w : Wait) (ws : List Wait) (a : Expression) → asks t ≡ Some l → is_ended l w ≡ true → go (Stands a) t (w ∷ ws) ≡ go (Stands (made w a)) t ws
ends_go (token.Constant n) l w ws a e q = refl
ends_go (token.Name x) l w ws a e q = refl
ends_go (token.Operator o) l w ws a e q =
    let h : is_ended (operator_level o) w ≡ true = same_level (operator_level o) l w e q in rw (folded_on (operator_level o) w ws a h, kept_on (operator_level o) w ws h) refl
ends_go token.Complement l w ws a e q = refl
ends_go token.Not l w ws a e q = refl
ends_go token.Both l w ws a e q = let h : is_ended 3 w ≡ true = same_level 3 l w e q in rw (folded_on 3 w ws a h, kept_on 3 w ws h) refl
ends_go token.Either l w ws a e q = let h : is_ended 2 w ≡ true = same_level 2 l w e q in rw (folded_on 2 w ws a h, kept_on 2 w ws h) refl
ends_go token.Question l w ws a e q = let h : is_ended 2 w ≡ true = same_level 2 l w e q in rw (folded_on 2 w ws a h, kept_on 2 w ws h) refl
ends_go token.Colon l w ws a e q = let h : is_ended 0 w ≡ true = same_level 0 l w e q in rw (folded_on 0 w ws a h, kept_on 0 w ws h) refl
ends_go (token.Assign o) l w ws a e q = refl
ends_go token.Open l w ws a e q = refl
ends_go token.Close l w ws a e q = let h : is_ended 0 w ≡ true = same_level 0 l w e q in rw (folded_on 0 w ws a h, kept_on 0 w ws h) refl
ends_go token.End l w ws a e q = let h : is_ended 0 w ≡ true = same_level 0 l w e q in rw (folded_on 0 w ws a h, kept_on 0 w ws h) refl
ends_go token.Odd l w ws a e q = refl

-- what waits may end before the next token is read
ends : (t : Token) (l : ℕ) (ts : List Token) (w : Wait) (ws : List Wait) (a : Expression) → asks t ≡ Some l → is_ended l w ≡ true → tree_read (t ∷ ts) (Stands a) (w ∷ ws) ≡ tree_read (t ∷ ts) (Stands (made w a)) ws
ends t l ts w ws a e q = ap (λ r. goes_on (ends_with t) r (tree_read ts)) (ends_go t l w ws a e q)

-- a name is an operand, where no assignment follows
named : (ts : List Token) (n : ℕ) (x : Text) (ws : List Wait) → assigns_next ts ≡ false → tree_read ts (Bare n x) ws ≡ tree_read ts (Stands (groups n (Name x))) ws
named [] n x ws e = refl
named (token.Close ∷ ts) n x (InParentheses ∷ ws) e = named ts (suc n) x ws e
named (token.Assign o ∷ ts) n x ws e = absurd (cc)
named (token.Close ∷ ts) n x [] e = refl
named (token.Close ∷ ts) n x (w ∷ ws) e = refl
named (t ∷ ts) n x ws e = refl

-- levels of operators
pub operator_least : (o : Operator) → 4 ≤ operator_level o
operator_least operator.Times = omega arith
operator_least operator.Over = omega arith
operator_least operator.Remainder = omega arith
operator_least operator.Plus = omega arith
operator_least operator.Minus = omega arith
operator_least operator.ShiftLeft = omega arith
operator_least operator.ShiftRight = omega arith
operator_least operator.Less = omega arith
operator_least operator.AtMost = omega arith
operator_least operator.Greater = omega arith
operator_least operator.AtLeast = omega arith
operator_least operator.Equal = omega arith
operator_least operator.Differs = omega arith
operator_least operator.And = omega arith
operator_least operator.ExclusiveOr = omega arith
operator_least operator.Or = omega arith

pub operator_most : (o : Operator) → operator_level o ≤ 11
operator_most operator.Times = omega arith
operator_most operator.Over = omega arith
operator_most operator.Remainder = omega arith
operator_most operator.Plus = omega arith
operator_most operator.Minus = omega arith
operator_most operator.ShiftLeft = omega arith
operator_most operator.ShiftRight = omega arith
operator_most operator.Less = omega arith
operator_most operator.AtMost = omega arith
operator_most operator.Greater = omega arith
operator_most operator.AtLeast = omega arith
operator_most operator.Equal = omega arith
operator_most operator.Differs = omega arith
operator_most operator.And = omega arith
operator_most operator.ExclusiveOr = omega arith
operator_most operator.Or = omega arith

-- what wants an operand of such a level doesn't end before an operator of it
isn't_ended : (l : ℕ) (w : Wait) → wanted w ≤ l → 2 ≤ l → l ≤ 11 → is_ended l w ≡ false
isn't_ended l InParentheses h lo hi = refl
isn't_ended l (WithSign s) h lo hi = absurd (omega arith)
isn't_ended l (WithLeft o a) h lo hi = lt-leb l (operator_level o) (omega arith)
isn't_ended l (WithBoth a) h lo hi = lt-leb l 3 (omega arith)
isn't_ended l (WithEither a) h lo hi = lt-leb l 2 (omega arith)
isn't_ended l (WithQuestion c) h lo hi = refl
isn't_ended l (WithColon c a) h lo hi = lt-leb l 1 (omega arith)
isn't_ended l (WithName n x o) h lo hi = lt-leb l 0 (omega arith)

folded_stays : (l : ℕ) (ws : List Wait) (a : Expression) → wants ws ≤ l → 2 ≤ l → l ≤ 11 → folded l a ws ≡ a
folded_stays l [] a h lo hi = refl
folded_stays l (w ∷ ws) a h lo hi = rw (isn't_ended l w h lo hi) refl

kept_stays : (l : ℕ) (ws : List Wait) → wants ws ≤ l → 2 ≤ l → l ≤ 11 → kept l ws ≡ ws
kept_stays l [] h lo hi = refl
kept_stays l (w ∷ ws) h lo hi = rw (isn't_ended l w h lo hi) refl

-- parentheses around a name

abbrev opened : ℕ → List Wait → List Wait
opened zero ws = ws
opened (suc n) ws = opened n (InParentheses ∷ ws)

opens : (n : ℕ) (ts : List Token) (ws : List Wait) → tree_read (times n token.Open ts) Wanted ws ≡ tree_read ts Wanted (opened n ws)
opens zero ts ws = refl
opens (suc n) ts ws = opens n ts (InParentheses ∷ ws)

opened_more : (n : ℕ) (ws : List Wait) → opened n (InParentheses ∷ ws) ≡ InParentheses ∷ opened n ws
opened_more zero ws = refl
opened_more (suc n) ws = opened_more n (InParentheses ∷ ws)

closes : (n m : ℕ) (x : Text) (ts : List Token) (ws : List Wait) → tree_read (times n token.Close ts) (Bare m x) (opened n ws) ≡ tree_read ts (Bare (n + m) x) ws
closes zero m x ts ws = let e : 0 + m ≡ m = omega arith in rw e refl
closes (suc n) m x ts ws =
    let e : suc n + m ≡ n + suc m = omega arith in
    rw (opened_more n ws, e) (closes n (suc m) x ts ws)

-- an assignment may stand where an operand of any level is wanted
assigned_at : (n : ℕ) (x : Text) (o : Option Operator) (ts : List Token) (ws : List Wait) → wants ws ≤ 0 → tree_read (token.Assign o ∷ ts) (Bare n x) ws ≡ tree_read ts Wanted (WithName n x o ∷ ws)
assigned_at n x o ts [] h = refl
assigned_at n x o ts (InParentheses ∷ ws) h = refl
assigned_at n x o ts (WithSign s ∷ ws) h = absurd (omega arith)
assigned_at n x o ts (WithLeft p a ∷ ws) h = absurd (omega arith)
assigned_at n x o ts (WithBoth a ∷ ws) h = absurd (omega arith)
assigned_at n x o ts (WithEither a ∷ ws) h = absurd (omega arith)
assigned_at n x o ts (WithQuestion c ∷ ws) h = refl
assigned_at n x o ts (WithColon c a ∷ ws) h = absurd (omega arith)
assigned_at n x o ts (WithName m y p ∷ ws) h = refl

sign_read : (s : Sign) (ts : List Token) (ws : List Wait) → tree_read (sign_token s ∷ ts) Wanted ws ≡ tree_read ts Wanted (WithSign s ∷ ws)
sign_read sign.Plus ts ws = refl
sign_read sign.Minus ts ws = refl
sign_read sign.Complement ts ws = refl
sign_read sign.Not ts ws = refl

-- an operator behind its left side
operator_read : (o : Operator) (ts : List Token) (a : Expression) (ws : List Wait) → wants ws ≤ operator_level o → tree_read (token.Operator o ∷ ts) (Stands a) ws ≡ tree_read ts Wanted (WithLeft o a ∷ ws)
operator_read o ts a ws h =
    let lo : 2 ≤ operator_level o = omega (arith, operator_least o) in
    rw (folded_stays (operator_level o) ws a h lo (operator_most o), kept_stays (operator_level o) ws h lo (operator_most o)) refl

pub complete : (x : Expression) (ws : List Wait) (t : Token) (l : ℕ) (ts : List Token) → IsProper x → wants ws ≤ level x → asks t ≡ Some l → l ≤ level x → assigns_next (t ∷ ts) ≡ false → tree_read (spelled x (t ∷ ts)) Wanted ws ≡ tree_read (t ∷ ts) (Stands x) ws
unfolding spelled
complete (Constant c) ws t l ts p h e le q = refl
complete (Name x) ws t l ts p h e le q = named (t ∷ ts) 0 x ws q
complete (Group a) ws t l ts p h e le q = complete a (InParentheses ∷ ws) token.Close 0 (t ∷ ts) p (omega arith) refl (omega arith) q
complete (Signed s a) ws t l ts p h e le q =
    sign_read s (spelled a (t ∷ ts)) ws
    ∙ complete a (WithSign s ∷ ws) t l ts p.1 p.0 e (omega (arith, p.0)) q
    ∙ ends t l ts (WithSign s) ws a e (le-leb l 12 le)
complete (Applied o a b) ws t l ts p h e le q =
    complete a ws (token.Operator o) (operator_level o) (spelled b (t ∷ ts)) p.2 (omega (arith, p.0)) refl p.0 refl
    ∙ operator_read o (spelled b (t ∷ ts)) a ws h
    ∙ complete b (WithLeft o a ∷ ws) t l ts p.3 p.1 e (omega (arith, p.1)) q
    ∙ ends t l ts (WithLeft o a) ws b e (le-leb l (operator_level o) le)
complete (Both a b) ws t l ts p h e le q =
    complete a ws token.Both 3 (spelled b (t ∷ ts)) p.2 (omega (arith, p.0)) refl p.0 refl
    ∙ rw (folded_stays 3 ws a h (omega arith) (omega arith), kept_stays 3 ws h (omega arith) (omega arith)) (complete b (WithBoth a ∷ ws) t l ts p.3 p.1 e (omega (arith, p.1)) q)
    ∙ ends t l ts (WithBoth a) ws b e (le-leb l 3 le)
complete (Either a b) ws t l ts p h e le q =
    complete a ws token.Either 2 (spelled b (t ∷ ts)) p.2 (omega (arith, p.0)) refl p.0 refl
    ∙ rw (folded_stays 2 ws a h (omega arith) (omega arith), kept_stays 2 ws h (omega arith) (omega arith)) (complete b (WithEither a ∷ ws) t l ts p.3 p.1 e (omega (arith, p.1)) q)
    ∙ ends t l ts (WithEither a) ws b e (le-leb l 2 le)
complete (Choice c a b) ws t l ts p h e le q =
    let lo : wants ws ≤ 2 = omega arith in
    complete c ws token.Question 2 (spelled a (token.Colon ∷ spelled b (t ∷ ts))) p.2 (omega (arith, p.0)) refl p.0 refl
    ∙ rw (folded_stays 2 ws c lo (omega arith) (omega arith), kept_stays 2 ws lo (omega arith) (omega arith)) (complete a (WithQuestion c ∷ ws) token.Colon 0 (spelled b (t ∷ ts)) p.3 (omega arith) refl (omega arith) refl)
    ∙ complete b (WithColon c a ∷ ws) t l ts p.4 p.1 e (omega (arith, p.1)) q
    ∙ ends t l ts (WithColon c a) ws b e (le-leb l 1 le)
complete (Assignment n x o a) ws t l ts p h e le q =
    let no : n + 0 ≡ n = omega arith in
    let rest : List Token = token.Assign o ∷ spelled a (t ∷ ts) in
    opens n (token.Name x ∷ times n token.Close rest) ws
    ∙ closes n 0 x rest ws
    ∙ rw no (assigned_at n x o (spelled a (t ∷ ts)) ws h)
    ∙ complete a (WithName n x o ∷ ws) t l ts p (omega arith) e (omega arith) q
    ∙ ends t l ts (WithName n x o) ws a e (le-leb l 0 le)

-- tokens are of one expression
pub is_read : (x : Expression) → IsProper x → tree_read (spelled x (token.End ∷ [])) Wanted [] ≡ Some x
is_read x p = complete x [] token.End 0 [] p (omega arith) refl (omega arith) refl
