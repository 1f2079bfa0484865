-- What isn't closed is told by the outermost place that is open.
use Rattle.std.proofs.Common.{arith, ◌≡◌, ◌≤◌, ◌<◌, ℕ, ◌+◌, List, [], ◌∷◌, ◌++◌, Option, Some, None, Bool, true, false, refl, sym, ap, ◌∙◌, subst, ◌⊎◌, inl, inr, length, take, drop}
use Rattle.std.specs.Prelude.{nat_lt, if◌then◌else◌}
use Rattle.std.proofs.lemmas.Bool.{ltb-true, ltb-false}
use Rattle.std.proofs.lemmas.List.{length-take-le}
use Rattle.sh_rules.specs.Grammar.{Halt}
use Rattle.sh_rules.specs.Reading.{Stands, Spelled}
use Rattle.sh_rules.specs.Modes.{mode_of}
use Rattle.sh_rules.specs.Rules.{Token, shell}
use Rattle.sh_token.specs.declared.effect.Effect.{Effect}
use Rattle.sh_token.specs.declared.effect.Effect.TheVariants as e
use Rattle.sh_token.specs.declared.fault.Why.TheVariants as cause
use Rattle.sh_token.specs.declared.fault.ScriptFault.{ScriptFault}
use Rattle.sh_token.specs.declared.delimiter.Within.TheVariants as w
use Rattle.sh_token.specs.declared.place.Words.TheVariants.{Ordinary}
use Rattle.sh_token.specs.Bytes.{◌or◌, is_tab}
use Rattle.sh_token.specs.Blanks.{joins, blanks}
use Rattle.sh_token.specs.Folded.{folded, run}
use Rattle.sh_token.specs.HereDocuments.{Awaited, delimiter_of, is_quoted, line}
use Rattle.sh_token.specs.Lexemes.{extent, look}
use Rattle.sh_token.specs.Effects.{effect_of}
use Rattle.sh_token.specs.Places.{Place, OuterText, begin, last_paren, moved}
use Rattle.sh_token.specs.Steps.{after, popped, last_around, paren_closed, body_passed, body_taken, past_tabs_if, aside, put_aside, body_opened, body_closed, next}
use Rattle.sh_token.specs.Faults.{least, or_operator, or_first, or_opened, open_at, at_symbol, told, is_over}
use Rattle.sh_token.proofs.ByRules.{lex_looks}
use Rattle.sh_token.proofs.Modes.{unlexed, place_or}
use Rattle.sh_token.proofs.Sizes.{look_within}
use Rattle.sh_script.specs.TextReader.{text_reader}
use Rattle.sh_script.specs.Scripts.{StopsAt, IsFaulty}
use Rattle.sh_script.specs.Openings.{operators_at, openings, IsOneOf, AllFrom}
use Rattle.sh_script.proofs.Standing.{spelled_of}
use Rattle.sh_script.proofs.FaultCases.{each_fault}
use Rattle.sh_script.proofs.Rising.{AllTo, Rising, to_more, to_last, rising_last, to_popped, rising_popped, operators_last, rising_rest, to_rest, joins_within, blanks_within, line_within, ended, ended_twice}

-- In what is read by itself the openings rise, up to the place; here-documents too, up to the last operator.
abbrev InOrder : List ℕ → List Awaited → ℕ → ℕ → Type 0
InOrder opened awaited at operator =
    Rising opened × AllTo opened at × Rising (operators_at awaited) × AllTo (operators_at awaited) at × AllTo (operators_at awaited) operator

-- what stands around a body goes on behind it
abbrev Inside : List OuterText → ℕ → Type 0
Inside [] n = Unit {0}
Inside (a ∷ more) n = (a.at + length a.text ≤ n) × Inside more n

abbrev AroundOk : List OuterText → ℕ → ℕ → Type 0
AroundOk [] operator end = Unit {0}
AroundOk (a ∷ more) operator end = InOrder a.opened a.awaited a.at operator × (operator ≤ a.at) × (end ≤ a.at) × Inside more a.at × AroundOk more operator end

abbrev Ok : List ℕ → List Awaited → ℕ → ℕ → List OuterText → ℕ → Type 0
Ok opened awaited at operator around end = InOrder opened awaited at operator × (operator ≤ at) × AroundOk around operator end

abbrev IsOk : Place → Type 0
IsOk p = Ok p.opened p.awaited p.at p.operator p.around (p.at + length p.text)

-- FURTHER ON
not_less : (a b c : ℕ) → a ≤ b → b ≤ c → a ≤ c
not_less a b c h k = omega (arith, h, k)

in_order_later : (opened : List ℕ) (awaited : List Awaited) (at later operator : ℕ) → at ≤ later → InOrder opened awaited at operator → InOrder opened awaited later operator
in_order_later opened awaited at later operator e h = (h.0, to_more opened at later e h.1, h.2, to_more (operators_at awaited) at later e h.3, h.4)

ok_later : (opened : List ℕ) (awaited : List Awaited) (at later operator : ℕ) (around : List OuterText) (end : ℕ) → at ≤ later → Ok opened awaited at operator around end → Ok opened awaited later operator around end
ok_later opened awaited at later operator around end e h = (in_order_later opened awaited at later operator e h.0, not_less operator at later h.1 e, h.2)

ok_opened : (opened : List ℕ) (awaited : List Awaited) (at operator : ℕ) (around : List OuterText) (end : ℕ) → Ok opened awaited at operator around end → Ok (opened ++ at ∷ []) awaited at operator around end
ok_opened opened awaited at operator around end h =
    ((rising_last opened at h.0.0 h.0.1, to_last opened at at (same at) h.0.1, h.0.2, h.0.3, h.0.4), h.1, h.2)
  where
    same : (n : ℕ) → n ≤ n
    same n = omega arith

ok_popped : (opened : List ℕ) (awaited : List Awaited) (at operator : ℕ) (around : List OuterText) (end : ℕ) → Ok opened awaited at operator around end → Ok (popped opened) awaited at operator around end
ok_popped opened awaited at operator around end h = ((rising_popped opened h.0.0, to_popped opened at h.0.1, h.0.2, h.0.3, h.0.4), h.1, h.2)

ok_taken : (opened : List ℕ) (awaited : List Awaited) (at operator : ℕ) (around : List OuterText) (end : ℕ) → Ok opened awaited at operator around end → Ok opened (drop 1 awaited) at operator around end
ok_taken opened awaited at operator around end h =
    ((h.0.0, h.0.1, rising_rest awaited h.0.2, to_rest awaited at h.0.3, to_rest awaited operator h.0.4), h.1, h.2)

-- an operator's place is the last
around_to : (xs : List OuterText) (old new end near : ℕ) → old ≤ new → new ≤ end → near ≤ end → AroundOk xs old end → AroundOk xs new near
around_to [] old new end near a b c h = tt
around_to (x ∷ xs) old new end near a b c h =
    ((h.0.0, h.0.1, h.0.2, h.0.3, to_more (operators_at x.awaited) old new a h.0.4), not_less new end x.at b h.2, not_less near end x.at c h.2, h.3, around_to xs old new end near a b c h.4)

ok_awaits : (opened : List ℕ) (awaited : List Awaited) (at operator : ℕ) (around : List OuterText) (end : ℕ) → at ≤ end → Ok opened awaited at operator around end → Ok opened awaited at at around end
ok_awaits opened awaited at operator around end e h =
    ((h.0.0, h.0.1, h.0.2, h.0.3, h.0.3), same at, around_to around operator at end end h.1 e (same end) h.2)
  where
    same : (n : ℕ) → n ≤ n
    same n = omega arith

ok_delimited : (opened : List ℕ) (awaited : List Awaited) (d : Awaited) (at operator : ℕ) (around : List OuterText) (end : ℕ) → d.at ≡ operator → Ok opened awaited at operator around end → Ok opened (awaited ++ d ∷ []) at operator around end
ok_delimited opened awaited d at operator around end s h =
    let xs = operators_at awaited in
    let is : xs ++ operator ∷ [] ≡ operators_at (awaited ++ d ∷ []) = ap (λ n. xs ++ n ∷ []) (sym s) ∙ operators_last awaited d in (
      (
        h.0.0,
        h.0.1,
        subst (λ (l : List ℕ). Rising l) is (rising_last xs operator h.0.2 h.0.4),
        subst (λ (l : List ℕ). AllTo l at) is (to_last xs operator at h.1 h.0.3),
        subst (λ (l : List ℕ). AllTo l operator) is (to_last xs operator operator (same operator) h.0.4),
      ),
      h.1,
      h.2,
    )
  where
    same : (n : ℕ) → n ≤ n
    same n = omega arith

-- BODIES
inside_last : (xs : List OuterText) (x : OuterText) (n : ℕ) → x.at + length x.text ≤ n → Inside xs n → Inside (xs ++ x ∷ []) n
inside_last [] x n e h = (e, tt)
inside_last (y ∷ ys) x n e h = (h.0, inside_last ys x n e h.1)

inside_popped : (xs : List OuterText) (n : ℕ) → Inside xs n → Inside (popped xs) n
inside_popped [] n h = tt
inside_popped (x ∷ []) n h = tt
inside_popped (x ∷ (y ∷ ys)) n h = (h.0, inside_popped (y ∷ ys) n h.1)

inside_there : (xs : List OuterText) (x : OuterText) (n : ℕ) → last_around xs ≡ Some x → Inside xs n → x.at + length x.text ≤ n
inside_there [] x n e h = cc
inside_there (y ∷ []) x n e h = let s : y ≡ x = cc in subst (λ (z : OuterText). z.at + length z.text ≤ n) s h.0
inside_there (y ∷ (z ∷ zs)) x n e h = inside_there (z ∷ zs) x n e h.1

around_last : (xs : List OuterText) (x : OuterText) (operator near : ℕ) → near ≤ x.at → InOrder x.opened x.awaited x.at operator → operator ≤ x.at → AroundOk xs operator (x.at + length x.text) → AroundOk (xs ++ x ∷ []) operator near
around_last [] x operator near e l o h = (l, o, e, tt, tt)
around_last (y ∷ ys) x operator near e l o h =
    (h.0, h.1, before near x.at (length x.text) y.at e h.2, inside_last ys x y.at h.2 h.3, around_last ys x operator near e l o h.4)
  where
    before : (a b c d : ℕ) → a ≤ b → b + c ≤ d → a ≤ d
    before a b c d h k = omega (arith, h, k)

around_gone : (xs : List OuterText) (x : OuterText) (operator end : ℕ) → last_around xs ≡ Some x → AroundOk xs operator end → InOrder x.opened x.awaited x.at operator × (operator ≤ x.at) × AroundOk (popped xs) operator (x.at + length x.text)
around_gone [] x operator end e h = cc
around_gone (y ∷ []) x operator end e h =
    let s : y ≡ x = cc in
    subst (λ (z : OuterText). InOrder z.opened z.awaited z.at operator × (operator ≤ z.at) × Unit {0}) s (h.0, h.1, tt)
around_gone (y ∷ (z ∷ zs)) x operator end e h =
    let i = around_gone (z ∷ zs) x operator end e h.4 in
    (i.0, i.1, (h.0, h.1, inside_there (z ∷ zs) x y.at e h.3, inside_popped (z ∷ zs) y.at h.3, i.2))

around_popped : (xs : List OuterText) (operator end : ℕ) → AroundOk xs operator end → AroundOk (popped xs) operator end
around_popped [] operator end h = tt
around_popped (x ∷ []) operator end h = tt
around_popped (x ∷ (y ∷ ys)) operator end h = (h.0, h.1, h.2, inside_popped (y ∷ ys) x.at h.3, around_popped (y ∷ ys) operator end h.4)

-- BY WHAT A TOKEN LEAVES OPEN
more : (n m : ℕ) → n ≤ n + m
more n m = omega arith

more_twice : (n m l : ℕ) → n ≤ n + m + l
more_twice n m l = omega arith

-- one part further, and two
ok_once : (opened : List ℕ) (awaited : List Awaited) (at operator : ℕ) (around : List OuterText) (n : ℕ) (text : List ℕ) → n ≤ length text → Ok opened awaited at operator around (at + length text) → Ok opened awaited (at + n) operator around (at + n + length (drop n text))
ok_once opened awaited at operator around n text e h =
    subst (λ end. Ok opened awaited (at + n) operator around end) (ended at n text e) (ok_later opened awaited at (at + n) operator around (at + length text) (more at n) h)

ok_twice : (opened : List ℕ) (awaited : List Awaited) (at operator : ℕ) (around : List OuterText) (n m : ℕ) (text : List ℕ) → n ≤ length text → m ≤ length (drop n text) → Ok opened awaited at operator around (at + length text) → Ok opened awaited (at + n + m) operator around (at + n + m + length (drop m (drop n text)))
ok_twice opened awaited at operator around n m text e k h =
    subst (λ end. Ok opened awaited (at + n + m) operator around end) (ended_twice at n m text e k) (ok_later opened awaited at (at + n + m) operator around (at + length text) (more_twice at n m) h)

by_joins : (opened : List ℕ) (p : Place) (n : ℕ) → n ≤ length p.text → Ok opened p.awaited p.at p.operator p.around (p.at + length p.text) → Ok opened p.awaited (p.at + n + joins (drop n p.text)) p.operator p.around (p.at + n + joins (drop n p.text) + length (drop (joins (drop n p.text)) (drop n p.text)))
by_joins opened p n e h = ok_twice opened p.awaited p.at p.operator p.around n (joins (drop n p.text)) p.text e (joins_within (drop n p.text)) h

by_blanks : (opened : List ℕ) (p : Place) (n : ℕ) → n ≤ length p.text → Ok opened p.awaited p.at p.operator p.around (p.at + length p.text) → Ok opened p.awaited (p.at + n + blanks false (drop n p.text)) p.operator p.around (p.at + n + blanks false (drop n p.text) + length (drop (blanks false (drop n p.text)) (drop n p.text)))
by_blanks opened p n e h = ok_twice opened p.awaited p.at p.operator p.around n (blanks false (drop n p.text)) p.text e (blanks_within false (drop n p.text)) h

after_paren : (b : Bool) (p : Place) → IsOk p → IsOk (paren_closed b p)
after_paren true p h = ok_once (popped p.opened) p.awaited p.at p.operator p.around (joins p.text) p.text (joins_within p.text) (ok_popped p.opened p.awaited p.at p.operator p.around (p.at + length p.text) h)
after_paren false p h = ok_once p.opened p.awaited p.at p.operator p.around (blanks false p.text) p.text (blanks_within false p.text) h

extent_within : (n : ℕ) (text : List ℕ) → extent false n text ≤ length text
extent_within n text = omega arith

after_tabs : (b : Bool) (p : Place) → IsOk p → IsOk (past_tabs_if b p)
after_tabs true p h =
    let n = extent false (run is_tab (folded p.text)) p.text in
    by_joins p.opened p n (extent_within (run is_tab (folded p.text)) p.text) h
after_tabs false p h = ok_once p.opened p.awaited p.at p.operator p.around (joins p.text) p.text (joins_within p.text) h

after_taken : (o : Option (Bool × ℕ × Bool)) (n : ℕ) (p : Place) → n ≤ length p.text → IsOk p → IsOk (body_taken o n p)
after_taken None n p e h = ok_once p.opened p.awaited p.at p.operator p.around n p.text e h
after_taken (Some d) n p e h =
    ok_twice p.opened (drop 1 p.awaited) p.at p.operator p.around n (line d.0 (drop n p.text)) p.text e (line_within d.0 (drop n p.text)) (ok_taken p.opened p.awaited p.at p.operator p.around (p.at + length p.text) h)

after_opened : (o : Option (Bool × ℕ × Bool)) (n : ℕ) (p : Place) → n ≤ length p.text → IsOk p → IsOk (body_opened o n p)
after_opened None n p e h = ok_once p.opened p.awaited p.at p.operator p.around n p.text e h
after_opened (Some d) n p e h =
    let q = body_passed d.0 n p in
    let outer : IsOk q = after_taken (Some d) n p e h in
    let end : p.at + length (take n p.text) ≤ q.at = within (length-take-le n p.text e) in
    let around : AroundOk (p.around ++ aside q ∷ []) p.operator (p.at + length (take n p.text)) = around_last p.around (aside q) p.operator (p.at + length (take n p.text)) end outer.0 outer.1 outer.2 in
    after_tabs d.2 (record (put_aside q) { text = take n p.text; at = p.at; words = Ordinary; levels = d.1; in_bodies = false; tabs = d.2 })
    ((tt, tt, tt, tt, tt), h.1, around)
  where
    within : length (take n p.text) ≡ n → p.at + length (take n p.text) ≤ p.at + n + line d.0 (drop n p.text)
    within s = omega (arith, s)

after_closed : (o : Option OuterText) (p : Place) → last_around p.around ≡ o → IsOk p → IsOk (body_closed o (record p { around = popped p.around }))
after_closed None p e h = (h.0, h.1, around_popped p.around p.operator (p.at + length p.text) h.2)
after_closed (Some a) p e h = around_gone p.around a p.operator (p.at + length p.text) e h.2

after_ok : (x : Effect) (n : ℕ) (p : Place) → n ≤ length p.text → IsOk p → IsOk (after x n p)
unfolding after
after_ok e.Inside n p l h = by_joins p.opened p n l h
after_ok e.Separates n p l h = by_blanks p.opened p n l h
after_ok e.Opens n p l h = by_blanks p.opened p n l h
after_ok e.OpensWord n p l h = by_blanks p.opened p n l h
after_ok e.OpensParen n p l h = by_blanks p.opened p n l h
after_ok e.Closes n p l h = by_blanks p.opened p n l h
after_ok e.ClosesParen n p l h = after_paren (last_paren p.parens) (moved n (record p { parens = popped p.parens })) (ok_once p.opened p.awaited p.at p.operator p.around n p.text l h)
after_ok e.Substitutes n p l h = by_blanks (p.opened ++ p.at ∷ []) p n l (ok_opened p.opened p.awaited p.at p.operator p.around (p.at + length p.text) h)
after_ok e.Quotes n p l h = by_joins (p.opened ++ p.at ∷ []) p n l (ok_opened p.opened p.awaited p.at p.operator p.around (p.at + length p.text) h)
after_ok e.Unquotes n p l h = by_joins (popped p.opened) p n l (ok_popped p.opened p.awaited p.at p.operator p.around (p.at + length p.text) h)
after_ok e.OpensBraces n p l h = by_joins (p.opened ++ p.at ∷ []) p n l (ok_opened p.opened p.awaited p.at p.operator p.around (p.at + length p.text) h)
after_ok e.ClosesBraces n p l h = by_joins (popped p.opened) p n l (ok_popped p.opened p.awaited p.at p.operator p.around (p.at + length p.text) h)
after_ok e.OpensArithmetic n p l h = by_joins (p.opened ++ p.at ∷ []) p n l (ok_opened p.opened p.awaited p.at p.operator p.around (p.at + length p.text) h)
after_ok e.ClosesArithmetic n p l h = by_joins (popped p.opened) p n l (ok_popped p.opened p.awaited p.at p.operator p.around (p.at + length p.text) h)
after_ok e.OpensParenthesis n p l h = by_joins p.opened p n l h
after_ok e.ClosesParenthesis n p l h = by_joins p.opened p n l h
after_ok e.EndsWord n p l h = by_blanks p.opened p n l h
after_ok e.EndsName n p l h = by_blanks p.opened p n l h
after_ok e.Awaits n p l h =
    ok_twice p.opened p.awaited p.at p.at p.around n (blanks false (drop n p.text)) p.text l (blanks_within false (drop n p.text)) (ok_awaits p.opened p.awaited p.at p.operator p.around (p.at + length p.text) (more p.at (length p.text)) h)
after_ok e.Delimits n p l h =
    let d : Awaited = record { at = p.operator; levels = p.levels; delimiter = delimiter_of w.Bare (take n p.text); quoted = is_quoted (take n p.text); tabs = p.dashed or p.tabs } in
    ok_twice p.opened (p.awaited ++ d ∷ []) p.at p.operator p.around n (blanks false (drop n p.text)) p.text l (blanks_within false (drop n p.text)) (ok_delimited p.opened p.awaited d p.at p.operator p.around (p.at + length p.text) refl h)
after_ok e.EndsLine n p l h = ok_once p.opened p.awaited p.at p.operator p.around n p.text l h
after_ok e.TakesBody n p l h = after_taken (next p.awaited) n p l h
after_ok e.OpensBody n p l h = after_opened (next p.awaited) n p l h
after_ok e.ClosesBody n p l h = after_closed (last_around p.around) p refl h
after_ok e.Encloses n p l h = by_joins p.opened p n l h

-- FROM PLACE TO PLACE
token_ok : (t : Token) (a b : Place) → Stands shell text_reader t a b → IsOk a → IsOk b
token_ok t a b s h =
    let u = unlexed a b (look (mode_of t.kind) a) t (sym (lex_looks (mode_of t.kind) a) ∙ s) in
    subst (λ (q : Place). IsOk q) (ap (place_or b) u.2) (after_ok (effect_of t.kind) u.0 a (look_within (mode_of t.kind) a t.kind u.0 u.1) h)

spelled_ok : (ts : List Token) (a b : Place) → Spelled shell text_reader ts a b → IsOk a → IsOk b
spelled_ok [] a b s h = subst (λ (q : Place). IsOk q) s h
spelled_ok (t ∷ ts) a b s h = spelled_ok ts s.0 b s.3 (token_ok t a s.0 s.1 h)

begin_ok : (text : List ℕ) → IsOk (begin text)
begin_ok text = ok_once [] [] 0 0 [] (blanks false (drop 0 text)) (drop 0 text) (blanks_within false (drop 0 text)) ((tt, tt, tt, tt, tt), none, tt)
  where
    none : 0 ≤ 0
    none = omega arith

-- THE OUTERMOST of what is open
least_first : (a b : ℕ) → least a b ≤ a
least_first a b = by (nat_lt a b) refl
  where
    by : (t : Bool) → nat_lt a b ≡ t → (if t then a else b) ≤ a
    by true s = omega arith
    by false s = ltb-false a b s

least_other : (a b : ℕ) → least a b ≤ b
least_other a b = by (nat_lt a b) refl
  where
    by : (t : Bool) → nat_lt a b ≡ t → (if t then a else b) ≤ b
    by true s = let h : a < b = ltb-true a b s in omega (arith, h)
    by false s = omega arith

least_is : (a b : ℕ) → (least a b ≡ a) ⊎ (least a b ≡ b)
least_is a b = by (nat_lt a b)
  where
    by : (t : Bool) → ((if t then a else b) ≡ a) ⊎ ((if t then a else b) ≡ b)
    by true = inl refl
    by false = inr refl

from_less : (n m : ℕ) (xs : List ℕ) → n ≤ m → AllFrom m xs → AllFrom n xs
from_less n m [] e h = tt
from_less n m (x ∷ xs) e h = (not_less n m x e h.0, from_less n m xs e h.1)

from_both : (n : ℕ) (xs ys : List ℕ) → AllFrom n xs → AllFrom n ys → AllFrom n (xs ++ ys)
from_both n [] ys h k = k
from_both n (x ∷ xs) ys h k = (h.0, from_both n xs ys h.1 k)

one_behind : (n : ℕ) (xs ys : List ℕ) → IsOneOf n ys → IsOneOf n (xs ++ ys)
one_behind n [] ys h = h
one_behind n (x ∷ xs) ys h = inr (one_behind n xs ys h)

awaited_from : (ds : List Awaited) (b : ℕ) → Rising (operators_at ds) → AllFrom (or_first ds b) (operators_at ds ++ (b ∷ []))
awaited_from [] b h = (same b, tt)
  where
    same : (n : ℕ) → n ≤ n
    same n = omega arith
awaited_from (a ∷ more) b h =
    (least_first a.at b, from_both (least a.at b) (operators_at more) (b ∷ []) (from_less (least a.at b) a.at (operators_at more) (least_first a.at b) h.0) (least_other a.at b, tt))

awaited_one : (ds : List Awaited) (b : ℕ) → IsOneOf (or_first ds b) (operators_at ds ++ (b ∷ []))
awaited_one [] b = inl refl
awaited_one (a ∷ more) b = by (least_is a.at b)
  where
    by : (least a.at b ≡ a.at) ⊎ (least a.at b ≡ b) → IsOneOf (least a.at b) (a.at ∷ (operators_at more ++ (b ∷ [])))
    by (inl s) = inl s
    by (inr s) = inr (one_behind (least a.at b) (operators_at more) (b ∷ []) (inl s))

opened_from : (os : List ℕ) (x : ℕ) (ys : List ℕ) → Rising os → AllFrom x ys → AllFrom (or_opened os x) (os ++ ys)
opened_from [] x ys h k = k
opened_from (o ∷ more) x ys h k =
    (least_first o x, from_both (least o x) more ys (from_less (least o x) o more (least_first o x) h.0) (from_less (least o x) x ys (least_other o x) k))

opened_one : (os : List ℕ) (x : ℕ) (ys : List ℕ) → IsOneOf x ys → IsOneOf (or_opened os x) (os ++ ys)
opened_one [] x ys h = h
opened_one (o ∷ more) x ys h = by (least_is o x)
  where
    by : (least o x ≡ o) ⊎ (least o x ≡ x) → IsOneOf (least o x) (o ∷ (more ++ ys))
    by (inl s) = inl s
    by (inr s) = subst (λ n. IsOneOf n (o ∷ (more ++ ys))) (sym s) (inr (one_behind x more ys h))

outermost : (p : Place) → IsOk p → IsOneOf (open_at p) (openings p) × AllFrom (open_at p) (openings p)
outermost p h =
    let b = or_operator p.due p.operator p.at in
    let others = operators_at p.awaited ++ (b ∷ []) in
    (opened_one p.opened (or_first p.awaited b) others (awaited_one p.awaited b), opened_from p.opened (or_first p.awaited b) others h.0.0 (awaited_from p.awaited b h.0.2))

-- A FAULT THAT TELLS WHAT ISN'T CLOSED
abbrev Tells : Place → ScriptFault → Type 0
Tells p f = f.why ≡ cause.Unclosed → f.at ≡ open_at p

not_syntax : cause.Syntax ≡ cause.Unclosed → ⊥
not_syntax s = cc

not_deep : cause.Deep ≡ cause.Unclosed → ⊥
not_deep s = cc

not_long : cause.Long ≡ cause.Unclosed → ⊥
not_long s = cc

not_named : (name : List ℕ) → cause.NotInProfile name ≡ cause.Unclosed → ⊥
not_named name s = cc

told_there : (b : Bool) (p : Place) → Tells p (told b p)
told_there b p =
    each_fault (Tells p) p (λ at s. absurd (not_syntax s)) (λ s. refl) (λ s. absurd (not_deep s)) (λ n i s. absurd (not_named (96 ∷ []) s)) (λ n s. absurd (not_named (take n (folded p.text)) s))
    (λ s. absurd (not_named (take 2 (folded (at_symbol p.text))) s)) b

-- THE LAW
pub unclosed_there : (text : List ℕ) (f : ScriptFault) → IsFaulty text f → f.why ≡ cause.Unclosed → (p : Place) × (h : Halt Token) × StopsAt (begin text) p h × IsOneOf f.at (openings p) × AllFrom f.at (openings p)
unfolding IsFaulty StopsAt
unclosed_there text f (inl x) why = absurd (not_long (sym (ap (λ (g : ScriptFault). g.why) x.1) ∙ why))
unclosed_there text f (inr x) why =
    let p = x.1.0 in
    let h = x.1.1 in
    let s = x.1.2 in
    let at : f.at ≡ open_at p = ap (λ (g : ScriptFault). g.at) x.1.3 ∙ told_there (is_over h) p (sym (ap (λ (g : ScriptFault). g.why) x.1.3) ∙ why) in
    let o = outermost p (spelled_ok s.0 (begin text) p (spelled_of s.0 (begin text) p s.1) (begin_ok text)) in
    (p, h, s, subst (λ n. IsOneOf n (openings p)) (sym at) o.0, subst (λ n. AllFrom n (openings p)) (sym at) o.1)
