-- What is left gets shorter with each token.
use Rattle.std.proofs.Common.{◌≡◌, ◌≤◌, ◌<◌, ℕ, zero, suc, ◌+◌, ◌-◌, List, [], ◌∷◌, ◌++◌, Bool, true, false, Option, Some, None, refl, sym, ap, ◌∙◌, subst, arith, drop, take, length, length-drop}
use Rattle.std.proofs.lemmas.List.{length-take-le}
use Rattle.std.proofs.lemmas.Bool.{ltb-true, lt-ltb}
use Rattle.std.specs.Prelude.{nat_lt, if◌then◌else◌, ◌==◌}
use Rattle.sh_rules.specs.declared.token_kind.TokenKind.{TokenKind}
use Rattle.sh_rules.specs.declared.token_kind.Mode.{Mode}
use Rattle.sh_rules.specs.declared.token_kind.TokenKind.TheVariants as k
use Rattle.sh_rules.specs.declared.token_kind.Mode.TheVariants as m
use Rattle.sh_rules.specs.Rules.{Token}
use Rattle.sh_rules.specs.Modes.{mode_of}
use Rattle.sh_token.specs.declared.front.Front.TheVariants as f
use Rattle.sh_token.specs.declared.effect.Effect.{Effect}
use Rattle.sh_token.specs.declared.effect.Effect.TheVariants as e
use Rattle.sh_token.specs.declared.place.Words.{Words}
use Rattle.sh_token.specs.declared.place.Words.TheVariants.{Ordinary}
use Rattle.sh_token.specs.declared.body.Piece.{Piece}
use Rattle.sh_token.specs.declared.body.Piece.TheVariants as pc
use Rattle.sh_token.specs.Bytes.{◌also◌, not_so, is_tab}
use Rattle.sh_token.specs.Blanks.{joins, blanks}
use Rattle.sh_token.specs.Folded.{folded, run, behind}
use Rattle.sh_token.specs.Tokens.{token}
use Rattle.sh_token.specs.HereDocuments.{Awaited, piece, closes, counted_body, counted_line, more_by, one_piece, body, line}
use Rattle.sh_token.specs.Fronts.{front_of}
use Rattle.sh_token.specs.Recognizers.{recognizer}
use Rattle.sh_token.specs.Lexemes.{Surroundings, surroundings, recognized, token_if, body_found, bodies_look, is_raw, extent, look}
use Rattle.sh_token.specs.Effects.{effect_of}
use Rattle.sh_token.specs.Places.{Place, OuterText, last_paren, moved, size, left_around}
use Rattle.sh_token.specs.Steps.{lex, after, popped, last_around, paren_closed, body_passed, body_taken, past_tabs_if, aside, put_aside, body_begun, body_opened, body_closed, next}
use Rattle.sh_token.proofs.Found.{Of, Wide, may_have_none, kinds_by, of_recognized}
use Rattle.sh_token.proofs.ByRules.{lex_looks}
use Rattle.sh_token.proofs.Modes.{found, front_at_place, unmeasured, unlexed, found_by_itself, kind_or, count_or, place_or}

-- these tokens may leave as much as there was
abbrev pub may_be_empty : TokenKind → Bool
may_be_empty k.WordEnd = true
may_be_empty k.NoBody = true
may_be_empty k.BodyClose = true
may_be_empty k.End = true
may_be_empty other = false

abbrev pub Shrinks : Bool → ℕ → ℕ → Type 0
Shrinks true n m = m ≤ n
Shrinks false n m = m < n

-- Behind a byte and more, less is left.
behind_less : (n : ℕ) (text : List ℕ) → length (behind n text) ≤ length text
behind_less zero text = omega arith
behind_less (suc n) text =
    let xs = behind n text in
    omega (arith, behind_less n text, length-drop 1 (drop (joins xs) xs), length-drop (joins xs) xs)

behind_some : (n : ℕ) (text : List ℕ) → 1 ≤ n → 1 ≤ length text → 1 ≤ length text - length (behind n text)
behind_some zero text h i = omega (arith, h)
behind_some (suc n) text h i =
    let xs = behind n text in
    omega (arith, i, behind_less n text, length-drop 1 (drop (joins xs) xs), length-drop (joins xs) xs)

least_some : (b : Bool) (m n : ℕ) → 1 ≤ m → 1 ≤ n → 1 ≤ (if b then m else n)
least_some true m n h i = h
least_some false m n h i = i

least_within : (b : Bool) (m n : ℕ) → (b ≡ true → m < n) → (if b then m else n) ≤ n
least_within true m n h = omega (arith, h refl)
least_within false m n h = omega arith

extent_some : (raw : Bool) (n : ℕ) (text : List ℕ) → 1 ≤ n → 1 ≤ length text → 1 ≤ extent raw n text
extent_some true n text h i = least_some (nat_lt n (length text)) n (length text) h i
extent_some false n text h i = behind_some n text h i

extent_within : (raw : Bool) (n : ℕ) (text : List ℕ) → extent raw n text ≤ length text
extent_within true n text = least_within (nat_lt n (length text)) n (length text) (ltb-true n (length text))
extent_within false n text = omega arith

-- A token that is found is within the text.
pub look_within : (m : Mode) (p : Place) (j : TokenKind) (n : ℕ) → look m p ≡ Some (j, n) → n ≤ length p.text
unfolding look
look_within m p j n e =
    let u = unmeasured p.text (found (recognizer m (front_at_place p)) p) j n e in
    subst (λ n. n ≤ length p.text) (sym u.2) (extent_within (is_raw j) u.0 p.text)

-- Where nothing is left only tokens of no bytes stand.
if_so : (b : Bool) (i j : TokenKind) (m n : ℕ) → token_if b i m ≡ Some (j, n) → may_have_none i ≡ true → may_have_none j ≡ true
if_so true i j m n e h = let s : i ≡ j = ap (kind_or i) e in subst (λ j. may_have_none j ≡ true) s h
if_so false i j m n e h = cc

no_body : (awaited : List Awaited) (j : TokenKind) (n : ℕ) → bodies_look awaited [] ≡ Some (j, n) → may_have_none j ≡ true
no_body [] j n e = let s : k.NoBody ≡ j = ap (kind_or k.NoBody) e in subst (λ j. may_have_none j ≡ true) s refl
no_body (d ∷ ds) j n e = by d.quoted e
  where
    by : (b : Bool) → body_found b None ≡ Some (j, n) → may_have_none j ≡ true
    by true e = cc
    by false e = cc

at_the_end : (m : Mode) (s : Surroundings) (j : TokenKind) (n : ℕ) → recognized (recognizer m f.End) s [] ≡ Some (j, n) → may_have_none j ≡ true
unfolding recognized recognizer
at_the_end m.CommandStart s j n e = if_so s.whole k.End j 0 n e refl
at_the_end m.Prefix s j n e = if_so s.whole k.End j 0 n e refl
at_the_end m.Argument s j n e = if_so s.whole k.End j 0 n e refl
at_the_end m.PatternStart s j n e = cc
at_the_end m.CaseIn s j n e = cc
at_the_end m.PatternRest s j n e = cc
at_the_end m.Bodies s j n e = no_body s.awaited j n e
at_the_end m.BodyText s j n e = if_so s.closed k.BodyClose j 0 n e refl
at_the_end m.Value s j n e = if_so true k.WordEnd j 0 n e refl
at_the_end m.InWord s j n e = if_so true k.WordEnd j 0 n e refl
at_the_end m.InQuotes s j n e = cc
at_the_end m.BraceStart s j n e = cc
at_the_end m.InBraces s j n e = cc
at_the_end m.InQuotedBraces s j n e = cc
at_the_end m.InArithmetic s j n e = cc
at_the_end m.ForName s j n e = cc
at_the_end m.FunctionOpen s j n e = cc
at_the_end m.FunctionClose s j n e = cc
at_the_end m.HereDelimiter s j n e = cc

no_front : (words : Words) → front_of words (folded []) ≡ f.End
unfolding front_of
no_front words = refl

wide_is : (b : Bool) (n : ℕ) → b ≡ false → Wide b n → 1 ≤ n
wide_is true n h w = cc
wide_is false n h w = w

-- a token of another kind has a byte
measured_some : (m : Mode) (s : Surroundings) (text : List ℕ) (j : TokenKind) (i : ℕ) → recognized (recognizer m (front_of s.words (folded text))) s text ≡ Some (j, i) → may_have_none j ≡ false → 1 ≤ extent (is_raw j) i text
measured_some m s [] j i e h =
    let empty : may_have_none j ≡ true = at_the_end m s j i (subst (λ x. recognized (recognizer m x) s [] ≡ Some (j, i)) (no_front s.words) e) in
    cc
measured_some m s (c ∷ cs) j i e h =
    let x = recognizer m (front_of s.words (folded (c ∷ cs))) in
    let w = (subst (Of (kinds_by x)) e (of_recognized x s (c ∷ cs))).1 in
    extent_some (is_raw j) i (c ∷ cs) (wide_is (may_have_none j) i h w) (omega arith)

pub has_byte : (m : Mode) (p : Place) (j : TokenKind) (n : ℕ) → look m p ≡ Some (j, n) → may_have_none j ≡ false → 1 ≤ n
unfolding look
has_byte m p j n e h =
    let u = unmeasured p.text (found (recognizer m (front_at_place p)) p) j n e in
    subst (λ n. 1 ≤ n) (sym u.2) (measured_some m (surroundings p) p.text j u.0 u.1 h)

-- what is left behind a token, of effects that go on in the same text
abbrev passes : Effect → Bool
passes e.TakesBody = false
passes e.OpensBody = false
passes e.ClosesBody = false
passes other = true

two_drops : (a b : ℕ) (text : List ℕ) → length (drop a (drop b text)) ≤ length text - b
two_drops a b text = omega (arith, length-drop a (drop b text), length-drop b text)

paren_size : (b : Bool) (p : Place) → size (paren_closed b p) ≤ length p.text + left_around p.around
unfolding size
paren_size true p = omega (arith, length-drop (joins p.text) p.text)
paren_size false p = omega (arith, length-drop (blanks false p.text) p.text)

passed : (x : Effect) (n : ℕ) (p : Place) → passes x ≡ true → size (after x n p) ≤ (length p.text - n) + left_around p.around
unfolding size after
passed e.Inside n p h = omega (arith, two_drops (joins (drop n p.text)) n p.text)
passed e.Separates n p h = omega (arith, two_drops (blanks false (drop n p.text)) n p.text)
passed e.Opens n p h = omega (arith, two_drops (blanks false (drop n p.text)) n p.text)
passed e.OpensWord n p h = omega (arith, two_drops (blanks false (drop n p.text)) n p.text)
passed e.OpensParen n p h = omega (arith, two_drops (blanks false (drop n p.text)) n p.text)
passed e.Closes n p h = omega (arith, two_drops (blanks false (drop n p.text)) n p.text)
passed e.ClosesParen n p h = omega (arith, paren_size (last_paren p.parens) (moved n (record p { parens = popped p.parens })), length-drop n p.text)
passed e.Substitutes n p h = omega (arith, two_drops (blanks false (drop n p.text)) n p.text)
passed e.Quotes n p h = omega (arith, two_drops (joins (drop n p.text)) n p.text)
passed e.Unquotes n p h = omega (arith, two_drops (joins (drop n p.text)) n p.text)
passed e.OpensBraces n p h = omega (arith, two_drops (joins (drop n p.text)) n p.text)
passed e.ClosesBraces n p h = omega (arith, two_drops (joins (drop n p.text)) n p.text)
passed e.OpensArithmetic n p h = omega (arith, two_drops (joins (drop n p.text)) n p.text)
passed e.ClosesArithmetic n p h = omega (arith, two_drops (joins (drop n p.text)) n p.text)
passed e.OpensParenthesis n p h = omega (arith, two_drops (joins (drop n p.text)) n p.text)
passed e.ClosesParenthesis n p h = omega (arith, two_drops (joins (drop n p.text)) n p.text)
passed e.EndsWord n p h = omega (arith, two_drops (blanks false (drop n p.text)) n p.text)
passed e.EndsName n p h = omega (arith, two_drops (blanks false (drop n p.text)) n p.text)
passed e.Awaits n p h = omega (arith, two_drops (blanks false (drop n p.text)) n p.text)
passed e.Delimits n p h = omega (arith, two_drops (blanks false (drop n p.text)) n p.text)
passed e.EndsLine n p h = omega (arith, length-drop n p.text)
passed e.TakesBody n p h = cc
passed e.OpensBody n p h = cc
passed e.ClosesBody n p h = cc
passed e.Encloses n p h = omega (arith, two_drops (joins (drop n p.text)) n p.text)

moves : (j : TokenKind) (n : ℕ) (p : Place) → passes (effect_of j) ≡ true → may_have_none j ≡ false → look (mode_of j) p ≡ Some (j, n) → size (after (effect_of j) n p) < size p
unfolding size
moves j n p h i e = omega (arith, passed (effect_of j) n p h, has_byte (mode_of j) p j n e i, look_within (mode_of j) p j n e)

stays : (j : TokenKind) (n : ℕ) (p : Place) → passes (effect_of j) ≡ true → size (after (effect_of j) n p) ≤ size p
unfolding size
stays j n p h = omega (arith, passed (effect_of j) n p h)

-- the line in front has a byte where something is left
counted_if : (b : Bool) (x y : Piece) (one two : ℕ) → 1 ≤ counted_line x one two → 1 ≤ counted_line y one two → 1 ≤ counted_line (if b then x else y) one two
counted_if true x y one two h i = h
counted_if false x y one two h i = i

one_counted : (literal : Bool) (c one two : ℕ) → 1 ≤ counted_line (one_piece literal c) one two
one_counted literal c one two =
    counted_if (c == 10) pc.Newline _ one two (omega arith) (counted_if (literal also c == 0) pc.Nul pc.Byte one two (omega arith) (omega arith))

line_some : (literal : Bool) (text : List ℕ) → 1 ≤ length text → 1 ≤ line literal text
line_some literal [] h = omega (arith, h)
line_some literal (c ∷ []) h = omega arith
line_some literal (c ∷ (d ∷ cs)) h =
    counted_if (not_so literal also c == 92) pc.Pair _ (line literal (d ∷ cs)) (line literal cs) (omega arith)
    (one_counted literal c (line literal (d ∷ cs)) (line literal cs))

-- a body ends in front of the line that is its delimiter, so before the text's end
more_some : (n : ℕ) (x : Option ℕ) (m l : ℕ) → more_by n x ≡ Some m → ((i : ℕ) → x ≡ Some i → i < l) → m < n + l
more_some n None m l h w = cc
more_some n (Some i) m l h w = let s : n + i ≡ m = cc in omega (arith, s, w i refl)

counted_within : (b : Bool) (x : Piece) (next one two : Option ℕ) (l n : ℕ) → ((i : ℕ) → next ≡ Some i → i < suc l) → ((i : ℕ) → one ≡ Some i → i < suc l) → ((i : ℕ) → two ≡ Some i → i < l) → counted_body b x next one two ≡ Some n → n < suc (suc l)
counted_within true x next one two l n f g h e = let s : 0 ≡ n = cc in omega (arith, s)
counted_within false pc.End next one two l n f g h e = cc
counted_within false pc.Newline next one two l n f g h e = omega (arith, more_some 1 next n (suc l) e f)
counted_within false pc.Nul next one two l n f g h e = cc
counted_within false pc.Byte next one two l n f g h e = omega (arith, more_some 1 one n (suc l) e g)
counted_within false pc.Pair next one two l n f g h e = omega (arith, more_some 2 two n l e h)

none_within : (b : Bool) (x : Piece) (n : ℕ) → counted_body b x None None None ≡ Some n → n < 1
none_within true x n e = let s : 0 ≡ n = cc in omega (arith, s)
none_within false pc.End n e = cc
none_within false pc.Newline n e = cc
none_within false pc.Nul n e = cc
none_within false pc.Byte n e = cc
none_within false pc.Pair n e = cc

pub body_within : (d : Awaited) (b : Bool) (text : List ℕ) (n : ℕ) → body d b text ≡ Some n → n < length text
body_within d b [] n e = cc
body_within d b (c ∷ []) n e = none_within (b also closes d (c ∷ [])) (piece d.quoted (c ∷ [])) n e
body_within d b (c ∷ (x ∷ cs)) n e =
    counted_within (b also closes d (c ∷ (x ∷ cs))) (piece d.quoted (c ∷ (x ∷ cs))) (body d true (x ∷ cs)) (body d false (x ∷ cs)) (body d false cs) (length cs) n
    (body_within d true (x ∷ cs)) (body_within d false (x ∷ cs)) (body_within d false cs) e

found_in : (q : Bool) (x : Option ℕ) (j : TokenKind) (i : ℕ) → body_found q x ≡ Some (j, i) → x ≡ Some i
found_in true None j i e = cc
found_in false None j i e = cc
found_in true (Some n) j i e = let s : n ≡ i = ap (count_or n) e in ap Some s
found_in false (Some n) j i e = let s : n ≡ i = ap (count_or n) e in ap Some s

-- such a token has as many bytes of the text as were found
exactly : (i : ℕ) (text : List ℕ) → i < length text → extent true i text ≡ i
exactly i text h = ap (λ b. if b then i else length text) (lt-ltb i (length text) h)

passed_body : (literal : Bool) (n : ℕ) (p : Place) → n < length p.text → length (body_passed literal n p).text < length p.text - n
passed_body literal n p h =
    let t = drop n p.text in
    let some : 1 ≤ length t = omega (arith, length-drop n p.text, h) in
    omega (arith, length-drop (line literal t) t, length-drop n p.text, line_some literal t some, h)

not_literal : (i : ℕ) → token k.NoBody 0 ≡ Some (k.LiteralBody, i) → ⊥
not_literal i e = let s : k.NoBody ≡ k.LiteralBody = ap (kind_or k.NoBody) e in cc

not_opened : (i : ℕ) → token k.NoBody 0 ≡ Some (k.BodyOpen, i) → ⊥
not_opened i e = let s : k.NoBody ≡ k.BodyOpen = ap (kind_or k.NoBody) e in cc

taken_size : (awaited : List Awaited) (i n : ℕ) (p : Place) → bodies_look awaited p.text ≡ Some (k.LiteralBody, i) → n ≡ extent true i p.text → size (body_taken (next awaited) n p) < size p
unfolding size
taken_size [] i n p e h = absurd (not_literal i e)
taken_size (d ∷ ds) i n p e h =
    let w : i < length p.text = body_within d true p.text i (found_in d.quoted (body d true p.text) k.LiteralBody i e) in
    let s : n ≡ i = h ∙ exactly i p.text w in
    omega (arith, passed_body d.quoted n p (omega (arith, s, w)))

tabs_size : (b : Bool) (p : Place) → size (past_tabs_if b p) ≤ size p
unfolding size
tabs_size true p =
    let t = drop (extent false (run is_tab (folded p.text)) p.text) p.text in
    omega (arith, length-drop (joins t) t, length-drop (extent false (run is_tab (folded p.text)) p.text) p.text)
tabs_size false p = omega (arith, length-drop (joins p.text) p.text)

around_more : (xs : List OuterText) (a : OuterText) → left_around (xs ++ a ∷ []) ≡ left_around xs + length a.text
around_more [] a = omega arith
around_more (x ∷ xs) a = omega (arith, around_more xs a)

begun_size : (literal : Bool) (levels : ℕ) (tabs : Bool) (n : ℕ) (p : Place) → n < length p.text → size (body_begun literal levels tabs n p) < size p
unfolding size
begun_size literal levels tabs n p h =
    let q = body_passed literal n p in
    let inner = record (put_aside q) { text = take n p.text; at = p.at; words = Ordinary; levels = levels; in_bodies = false; tabs = tabs } in
    omega (arith, tabs_size tabs inner, around_more p.around (aside q), passed_body literal n p h, length-take-le n p.text (omega (arith, h)), h)

opened_size : (awaited : List Awaited) (i n : ℕ) (p : Place) → bodies_look awaited p.text ≡ Some (k.BodyOpen, i) → n ≡ extent true i p.text → size (body_opened (next awaited) n p) < size p
opened_size [] i n p e h = absurd (not_opened i e)
opened_size (d ∷ ds) i n p e h =
    let w : i < length p.text = body_within d true p.text i (found_in d.quoted (body d true p.text) k.BodyOpen i e) in
    let s : n ≡ i = h ∙ exactly i p.text w in
    begun_size d.quoted d.levels d.tabs n p (omega (arith, s, w))

but_last : (xs : List OuterText) (a : OuterText) → last_around xs ≡ Some a → left_around (popped xs) + length a.text ≡ left_around xs
but_last [] a e = cc
but_last (x ∷ []) a e = let s : x ≡ a = cc in omega (arith, ap (λ a. length a.text) s)
but_last (x ∷ (y ∷ xs)) a e = omega (arith, but_last (y ∷ xs) a e)

popped_less : (xs : List OuterText) → left_around (popped xs) ≤ left_around xs
popped_less [] = omega arith
popped_less (x ∷ []) = omega arith
popped_less (x ∷ (y ∷ xs)) = omega (arith, popped_less (y ∷ xs))

closed_size : (o : Option OuterText) (p : Place) → last_around p.around ≡ o → size (body_closed o (record p { around = popped p.around })) ≤ size p
unfolding size
closed_size None p h = omega (arith, popped_less p.around)
closed_size (Some a) p h = omega (arith, but_last p.around a h)

-- what stands where bodies are looked for
at_bodies : (p : Place) (j : TokenKind) (n : ℕ) → look m.Bodies p ≡ Some (j, n) → (i : ℕ) × (bodies_look p.awaited p.text ≡ Some (j, i)) × (n ≡ extent (is_raw j) i p.text)
unfolding look recognizer recognized
at_bodies p j n e = unmeasured p.text (bodies_look p.awaited p.text) j n e

takes : (n : ℕ) (p : Place) → look m.Bodies p ≡ Some (k.LiteralBody, n) → size (after e.TakesBody n p) < size p
unfolding after
takes n p e = let u = at_bodies p k.LiteralBody n e in taken_size p.awaited u.0 n p u.1 u.2

opens : (n : ℕ) (p : Place) → look m.Bodies p ≡ Some (k.BodyOpen, n) → size (after e.OpensBody n p) < size p
unfolding after
opens n p e = let u = at_bodies p k.BodyOpen n e in opened_size p.awaited u.0 n p u.1 u.2

closes_one : (n : ℕ) (p : Place) → size (after e.ClosesBody n p) ≤ size p
unfolding after
closes_one n p = closed_size (last_around p.around) p refl

shorter_kind : (j : TokenKind) (n : ℕ) (p : Place) → look (mode_of j) p ≡ Some (j, n) → Shrinks (may_be_empty j) (size p) (size (after (effect_of j) n p))
shorter_kind k.Semi n p e = moves k.Semi n p refl refl e
shorter_kind k.Newline n p e = moves k.Newline n p refl refl e
shorter_kind k.NoBody n p e = stays k.NoBody n p refl
shorter_kind k.LiteralBody n p e = takes n p e
shorter_kind k.BodyOpen n p e = opens n p e
shorter_kind k.BodyClose n p e = closes_one n p
shorter_kind k.BodyText n p e = moves k.BodyText n p refl refl e
shorter_kind k.BodyEscape n p e = moves k.BodyEscape n p refl refl e
shorter_kind k.QuotedBrace n p e = moves k.QuotedBrace n p refl refl e
shorter_kind k.AndIf n p e = moves k.AndIf n p refl refl e
shorter_kind k.OrIf n p e = moves k.OrIf n p refl refl e
shorter_kind k.Bang n p e = moves k.Bang n p refl refl e
shorter_kind k.Pipe n p e = moves k.Pipe n p refl refl e
shorter_kind k.FunctionName n p e = moves k.FunctionName n p refl refl e
shorter_kind k.FunctionOpen n p e = moves k.FunctionOpen n p refl refl e
shorter_kind k.FunctionClose n p e = moves k.FunctionClose n p refl refl e
shorter_kind k.Assignment n p e = moves k.Assignment n p refl refl e
shorter_kind k.CommandText n p e = moves k.CommandText n p refl refl e
shorter_kind k.LeftBrace n p e = moves k.LeftBrace n p refl refl e
shorter_kind k.RightBrace n p e = moves k.RightBrace n p refl refl e
shorter_kind k.LeftParen n p e = moves k.LeftParen n p refl refl e
shorter_kind k.RightParen n p e = moves k.RightParen n p refl refl e
shorter_kind k.If n p e = moves k.If n p refl refl e
shorter_kind k.Then n p e = moves k.Then n p refl refl e
shorter_kind k.While n p e = moves k.While n p refl refl e
shorter_kind k.Do n p e = moves k.Do n p refl refl e
shorter_kind k.Done n p e = moves k.Done n p refl refl e
shorter_kind k.Until n p e = moves k.Until n p refl refl e
shorter_kind k.For n p e = moves k.For n p refl refl e
shorter_kind k.Name n p e = moves k.Name n p refl refl e
shorter_kind k.Case n p e = moves k.Case n p refl refl e
shorter_kind k.Fi n p e = moves k.Fi n p refl refl e
shorter_kind k.Else n p e = moves k.Else n p refl refl e
shorter_kind k.Elif n p e = moves k.Elif n p refl refl e
shorter_kind k.In n p e = moves k.In n p refl refl e
shorter_kind k.CaseIn n p e = moves k.CaseIn n p refl refl e
shorter_kind k.Esac n p e = moves k.Esac n p refl refl e
shorter_kind k.PatternOpen n p e = moves k.PatternOpen n p refl refl e
shorter_kind k.PatternText n p e = moves k.PatternText n p refl refl e
shorter_kind k.PatternClose n p e = moves k.PatternClose n p refl refl e
shorter_kind k.PatternBar n p e = moves k.PatternBar n p refl refl e
shorter_kind k.DoubleSemi n p e = moves k.DoubleSemi n p refl refl e
shorter_kind k.Redirect n p e = moves k.Redirect n p refl refl e
shorter_kind k.Here n p e = moves k.Here n p refl refl e
shorter_kind k.Delimiter n p e = moves k.Delimiter n p refl refl e
shorter_kind k.PrefixText n p e = moves k.PrefixText n p refl refl e
shorter_kind k.WordText n p e = moves k.WordText n p refl refl e
shorter_kind k.WordEnd n p e = stays k.WordEnd n p refl
shorter_kind k.ValueText n p e = moves k.ValueText n p refl refl e
shorter_kind k.Text n p e = moves k.Text n p refl refl e
shorter_kind k.Escape n p e = moves k.Escape n p refl refl e
shorter_kind k.Single n p e = moves k.Single n p refl refl e
shorter_kind k.QuoteOpen n p e = moves k.QuoteOpen n p refl refl e
shorter_kind k.Brace n p e = moves k.Brace n p refl refl e
shorter_kind k.Parameter n p e = moves k.Parameter n p refl refl e
shorter_kind k.Braced n p e = moves k.Braced n p refl refl e
shorter_kind k.Substitution n p e = moves k.Substitution n p refl refl e
shorter_kind k.Dollar n p e = moves k.Dollar n p refl refl e
shorter_kind k.PatternBrace n p e = moves k.PatternBrace n p refl refl e
shorter_kind k.QuoteClose n p e = moves k.QuoteClose n p refl refl e
shorter_kind k.QuotedText n p e = moves k.QuotedText n p refl refl e
shorter_kind k.QuotedEscape n p e = moves k.QuotedEscape n p refl refl e
shorter_kind k.BraceClose n p e = moves k.BraceClose n p refl refl e
shorter_kind k.BraceStartText n p e = moves k.BraceStartText n p refl refl e
shorter_kind k.BraceText n p e = moves k.BraceText n p refl refl e
shorter_kind k.QuotedBraceText n p e = moves k.QuotedBraceText n p refl refl e
shorter_kind k.QuotedBraceEscape n p e = moves k.QuotedBraceEscape n p refl refl e
shorter_kind k.Arithmetic n p e = moves k.Arithmetic n p refl refl e
shorter_kind k.ArithmeticText n p e = moves k.ArithmeticText n p refl refl e
shorter_kind k.ArithmeticEscape n p e = moves k.ArithmeticEscape n p refl refl e
shorter_kind k.ParenthesisOpen n p e = moves k.ParenthesisOpen n p refl refl e
shorter_kind k.ParenthesisClose n p e = moves k.ParenthesisClose n p refl refl e
shorter_kind k.ArithmeticClose n p e = moves k.ArithmeticClose n p refl refl e
shorter_kind k.End n p e = stays k.End n p refl

-- THE LAW: less is left behind each token, or as much behind one of no bytes.
pub shorter : (mode : Mode) (p : Place) (t : Token) (q : Place) → lex mode p ≡ Some (t, q) → Shrinks (may_be_empty t.kind) (size p) (size q)
shorter mode p t q e =
    let u = unlexed p q (look mode p) t (sym (lex_looks mode p) ∙ e) in
    let s : after (effect_of t.kind) u.0 p ≡ q = ap (place_or q) u.2 in
    subst (λ q. Shrinks (may_be_empty t.kind) (size p) (size q)) s (shorter_kind t.kind u.0 p (found_by_itself mode p t.kind u.0 u.1))
