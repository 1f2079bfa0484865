-- What is left at a place is a part of the text, from that place on.
use Rattle.std.proofs.Common.{◌≡◌, ℕ, zero, suc, ◌+◌, List, [], ◌∷◌, ◌++◌, Option, Some, None, Bool, true, false, refl, sym, ap, ◌∙◌, subst, append_assoc, append-nil, take, drop, drop-drop}
use Rattle.sh_rules.specs.Reading.{Stands, Spelled}
use Rattle.sh_rules.specs.Modes.{mode_of}
use Rattle.sh_rules.specs.Rules.{Token, shell}
use Rattle.sh_token.specs.declared.effect.Effect.{Effect}
use Rattle.sh_token.specs.declared.effect.Effect.TheVariants as e
use Rattle.sh_token.specs.Bytes.{is_tab}
use Rattle.sh_token.specs.Blanks.{joins, blanks}
use Rattle.sh_token.specs.Folded.{folded, run}
use Rattle.sh_token.specs.HereDocuments.{line}
use Rattle.sh_token.specs.Lexemes.{extent, look}
use Rattle.sh_token.specs.Effects.{effect_of}
use Rattle.sh_token.specs.Places.{Place, OuterText, begin, last_paren}
use Rattle.sh_token.specs.Steps.{after, popped, last_around, paren_closed, body_passed, body_taken, past_tabs_if, aside, body_opened, body_closed, next}
use Rattle.sh_token.proofs.ByRules.{lex_looks}
use Rattle.sh_token.proofs.Modes.{unlexed, place_or}
use Rattle.sh_script.specs.TextReader.{text_reader}

-- the text goes on so from a place on
abbrev pub GoesOn : List ℕ → ℕ → List ℕ → Type 0
GoesOn text at left = (rest : List ℕ) × (left ++ rest ≡ drop at text)

abbrev pub AllGoOn : List ℕ → List OuterText → Type 0
AllGoOn text [] = Unit {0}
AllGoOn text (a ∷ more) = GoesOn text a.at a.text × AllGoOn text more

abbrev pub IsWithin : List ℕ → ℕ → List ℕ → List OuterText → Type 0
IsWithin text at left around = GoesOn text at left × AllGoOn text around

dropped : (n : ℕ) (xs ys : List ℕ) → (zs : List ℕ) × (drop n xs ++ zs ≡ drop n (xs ++ ys))
dropped zero xs ys = (ys, refl)
dropped (suc n) [] ys = (drop (suc n) ys, refl)
dropped (suc n) (x ∷ xs) ys = dropped n xs ys

taken : (n : ℕ) (xs : List ℕ) → take n xs ++ drop n xs ≡ xs
taken zero xs = refl
taken (suc n) [] = refl
taken (suc n) (x ∷ xs) = ap (λ l. x ∷ l) (taken n xs)

pub further : (text : List ℕ) (at n : ℕ) (left : List ℕ) → GoesOn text at left → GoesOn text (at + n) (drop n left)
further text at n left h = let d = dropped n left h.0 in (d.0, d.1 ∙ ap (drop n) h.1 ∙ drop-drop n at text)

front : (text : List ℕ) (at n : ℕ) (left : List ℕ) → GoesOn text at left → GoesOn text at (take n left)
front text at n left h = (drop n left ++ h.0, sym (append_assoc (take n left) (drop n left) h.0) ∙ ap (λ l. l ++ h.0) (taken n left) ∙ h.1)

-- so many bytes further, and as many
once : (text : List ℕ) (at n : ℕ) (left : List ℕ) (around : List OuterText) → IsWithin text at left around → IsWithin text (at + n) (drop n left) around
once text at n left around h = (further text at n left h.0, h.1)

twice : (text : List ℕ) (at n m : ℕ) (left : List ℕ) (around : List OuterText) → IsWithin text at left around → IsWithin text ((at + n) + m) (drop m (drop n left)) around
twice text at n m left around h = once text (at + n) m (drop n left) around (once text at n left around h)

all_more : (text : List ℕ) (xs : List OuterText) (x : OuterText) → AllGoOn text xs → GoesOn text x.at x.text → AllGoOn text (xs ++ x ∷ [])
all_more text [] x h k = (k, tt)
all_more text (y ∷ ys) x h k = (h.0, all_more text ys x h.1 k)

all_popped : (text : List ℕ) (xs : List OuterText) → AllGoOn text xs → AllGoOn text (popped xs)
all_popped text [] h = tt
all_popped text (x ∷ []) h = tt
all_popped text (x ∷ (y ∷ ys)) h = (h.0, all_popped text (y ∷ ys) h.1)

-- BY WHAT A TOKEN LEAVES OPEN
after_paren : (b : Bool) (text : List ℕ) (p : Place) → IsWithin text p.at p.text p.around → IsWithin text (paren_closed b p).at (paren_closed b p).text (paren_closed b p).around
after_paren true text p h = once text p.at (joins p.text) p.text p.around h
after_paren false text p h = once text p.at (blanks false p.text) p.text p.around h

after_tabs : (b : Bool) (text : List ℕ) (p : Place) → IsWithin text p.at p.text p.around → IsWithin text (past_tabs_if b p).at (past_tabs_if b p).text (past_tabs_if b p).around
after_tabs true text p h =
    let n = extent false (run is_tab (folded p.text)) p.text in
    twice text p.at n (joins (drop n p.text)) p.text p.around h
after_tabs false text p h = once text p.at (joins p.text) p.text p.around h

after_taken : (o : Option (Bool × ℕ × Bool)) (n : ℕ) (text : List ℕ) (p : Place) → IsWithin text p.at p.text p.around → IsWithin text (body_taken o n p).at (body_taken o n p).text (body_taken o n p).around
after_taken None n text p h = once text p.at n p.text p.around h
after_taken (Some d) n text p h = twice text p.at n (line d.0 (drop n p.text)) p.text p.around h

after_opened : (o : Option (Bool × ℕ × Bool)) (n : ℕ) (text : List ℕ) (p : Place) → IsWithin text p.at p.text p.around → IsWithin text (body_opened o n p).at (body_opened o n p).text (body_opened o n p).around
after_opened None n text p h = once text p.at n p.text p.around h
after_opened (Some d) n text p h =
    let outer = twice text p.at n (line d.0 (drop n p.text)) p.text p.around h in
    let x = aside (body_passed d.0 n p) in
    let inner : IsWithin text p.at (take n p.text) (p.around ++ x ∷ []) = (front text p.at n p.text h.0, all_more text p.around x h.1 outer.0) in
    begun d.2 inner
  where
    begun : (b : Bool) → IsWithin text p.at (take n p.text) (p.around ++ aside (body_passed d.0 n p) ∷ []) → IsWithin text (body_opened (Some (d.0, d.1, b)) n p).at (body_opened (Some (d.0, d.1, b)) n p).text (body_opened (Some (d.0, d.1, b)) n p).around
    begun true i =
        let m = extent false (run is_tab (folded (take n p.text))) (take n p.text) in
        twice text p.at m (joins (drop m (take n p.text))) (take n p.text) (p.around ++ aside (body_passed d.0 n p) ∷ []) i
    begun false i = once text p.at (joins (take n p.text)) (take n p.text) (p.around ++ aside (body_passed d.0 n p) ∷ []) i

last_goes_on : (text : List ℕ) (xs : List OuterText) (x : OuterText) → last_around xs ≡ Some x → AllGoOn text xs → GoesOn text x.at x.text
last_goes_on text [] x e h = cc
last_goes_on text (y ∷ []) x e h = let s : y ≡ x = cc in subst (λ (z : OuterText). GoesOn text z.at z.text) s h.0
last_goes_on text (y ∷ (z ∷ zs)) x e h = last_goes_on text (z ∷ zs) x e h.1

after_closed : (o : Option OuterText) (text : List ℕ) (p : Place) → last_around p.around ≡ o → IsWithin text p.at p.text p.around → IsWithin text (body_closed o (record p { around = popped p.around })).at (body_closed o (record p { around = popped p.around })).text (body_closed o (record p { around = popped p.around })).around
after_closed None text p e h = (h.0, all_popped text p.around h.1)
after_closed (Some a) text p e h = (last_goes_on text p.around a e h.1, all_popped text p.around h.1)

after_within : (x : Effect) (n : ℕ) (text : List ℕ) (p : Place) → IsWithin text p.at p.text p.around → IsWithin text (after x n p).at (after x n p).text (after x n p).around
unfolding after
after_within e.Inside n text p h = twice text p.at n (joins (drop n p.text)) p.text p.around h
after_within e.Separates n text p h = twice text p.at n (blanks false (drop n p.text)) p.text p.around h
after_within e.Opens n text p h = twice text p.at n (blanks false (drop n p.text)) p.text p.around h
after_within e.OpensWord n text p h = twice text p.at n (blanks false (drop n p.text)) p.text p.around h
after_within e.OpensParen n text p h = twice text p.at n (blanks false (drop n p.text)) p.text p.around h
after_within e.Closes n text p h = twice text p.at n (blanks false (drop n p.text)) p.text p.around h
after_within e.ClosesParen n text p h =
    after_paren (last_paren p.parens) text (record p { text = drop n p.text; at = p.at + n; parens = popped p.parens }) (once text p.at n p.text p.around h)
after_within e.Substitutes n text p h = twice text p.at n (blanks false (drop n p.text)) p.text p.around h
after_within e.Quotes n text p h = twice text p.at n (joins (drop n p.text)) p.text p.around h
after_within e.Unquotes n text p h = twice text p.at n (joins (drop n p.text)) p.text p.around h
after_within e.OpensBraces n text p h = twice text p.at n (joins (drop n p.text)) p.text p.around h
after_within e.ClosesBraces n text p h = twice text p.at n (joins (drop n p.text)) p.text p.around h
after_within e.OpensArithmetic n text p h = twice text p.at n (joins (drop n p.text)) p.text p.around h
after_within e.ClosesArithmetic n text p h = twice text p.at n (joins (drop n p.text)) p.text p.around h
after_within e.OpensParenthesis n text p h = twice text p.at n (joins (drop n p.text)) p.text p.around h
after_within e.ClosesParenthesis n text p h = twice text p.at n (joins (drop n p.text)) p.text p.around h
after_within e.EndsWord n text p h = twice text p.at n (blanks false (drop n p.text)) p.text p.around h
after_within e.EndsName n text p h = twice text p.at n (blanks false (drop n p.text)) p.text p.around h
after_within e.Awaits n text p h = twice text p.at n (blanks false (drop n p.text)) p.text p.around h
after_within e.Delimits n text p h = twice text p.at n (blanks false (drop n p.text)) p.text p.around h
after_within e.EndsLine n text p h = once text p.at n p.text p.around h
after_within e.TakesBody n text p h = after_taken (next p.awaited) n text p h
after_within e.OpensBody n text p h = after_opened (next p.awaited) n text p h
after_within e.ClosesBody n text p h = after_closed (last_around p.around) text p refl h
after_within e.Encloses n text p h = twice text p.at n (joins (drop n p.text)) p.text p.around h

-- FROM PLACE TO PLACE
token_within : (text : List ℕ) (t : Token) (a b : Place) → Stands shell text_reader t a b → IsWithin text a.at a.text a.around → IsWithin text b.at b.text b.around
token_within text t a b e h =
    let u = unlexed a b (look (mode_of t.kind) a) t (sym (lex_looks (mode_of t.kind) a) ∙ e) in
    subst (λ (q : Place). IsWithin text q.at q.text q.around) (ap (place_or b) u.2) (after_within (effect_of t.kind) u.0 text a h)

spelled_within : (text : List ℕ) (ts : List Token) (a b : Place) → Spelled shell text_reader ts a b → IsWithin text a.at a.text a.around → IsWithin text b.at b.text b.around
spelled_within text [] a b s h = subst (λ (q : Place). IsWithin text q.at q.text q.around) s h
spelled_within text (t ∷ ts) a b s h = spelled_within text ts s.0 b s.3 (token_within text t a s.0 s.1 h)

begin_within : (text : List ℕ) → IsWithin text (begin text).at (begin text).text (begin text).around
begin_within text = once text 0 (blanks false (drop 0 text)) (drop 0 text) [] (([], append-nil (drop 0 text)), tt)

-- THE LAW: where tokens of the text lead to
pub within_text : (text : List ℕ) (ts : List Token) (p : Place) → Spelled shell text_reader ts (begin text) p → GoesOn text p.at p.text
within_text text ts p s = (spelled_within text ts (begin text) p s (begin_within text)).0
