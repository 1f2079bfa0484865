-- All modes find the same token where it belongs to them.
use Rattle.std.proofs.Common.{◌≡◌, ℕ, zero, suc, ◌+◌, List, [], ◌∷◌, Bool, true, false, Option, Some, None, refl, sym, ap, ◌∙◌, subst, ◌⊎◌, inl, inr}
use Rattle.std.specs.Prelude.{nat_eq, if◌then◌else◌, ◌==◌, slice_index}
use Rattle.std.proofs.lemmas.Bool.{eqb-true}
use Rattle.sh_rules.proofs.Checked.{ModesAgree}
use Rattle.sh_rules.specs.declared.token_kind.TokenKind.{TokenKind}
use Rattle.sh_rules.specs.declared.token_kind.Mode.{Mode}
use Rattle.sh_rules.specs.declared.token_kind.TokenKind.TheVariants as k
use Rattle.sh_rules.specs.declared.token_kind.Mode.TheVariants as m
use Rattle.sh_rules.specs.Rules.{Token, shell}
use Rattle.sh_rules.specs.Kinds.{number}
use Rattle.sh_rules.specs.Modes.{mode_of}
use Rattle.sh_rules.specs.Choosing.{reader}
use Rattle.sh_rules.proofs.Enumerated.{member, all_kinds, either}
use Rattle.sh_rules.proofs.Sets.{sets}
use Rattle.sh_rules.proofs.Tables.{both, implies, implied, each, every}
use Rattle.sh_token.specs.declared.recognizer.Recognizer.{Recognizer}
use Rattle.sh_token.specs.declared.recognizer.Recognizer.TheVariants as r
use Rattle.sh_token.specs.declared.front.Front.{Front}
use Rattle.sh_token.specs.declared.front.Front.TheVariants as f
use Rattle.sh_token.specs.declared.front.Break as b
use Rattle.sh_token.specs.declared.front.Break.TheVariants as br
use Rattle.sh_token.specs.declared.front.Quote as q
use Rattle.sh_token.specs.declared.front.Quote.TheVariants as qu
use Rattle.sh_token.specs.declared.front.Plain as p
use Rattle.sh_token.specs.declared.front.Plain.TheVariants as pl
use Rattle.sh_token.specs.Bytes.{◌or◌, is_digit, is_letter}
use Rattle.sh_token.specs.Folded.{folded}
use Rattle.sh_token.specs.Tokens.{Look, token}
use Rattle.sh_token.specs.Expansions.{dollar, braced, operation, operated, length_look, parameter_in_braces, or_else, is_special, substitutes}
use Rattle.sh_token.specs.Fronts.{front_of}
use Rattle.sh_token.specs.Recognizers.{recognizer}
use Rattle.sh_token.specs.Lexemes.{surroundings, recognized, is_raw, extent, measured, look}
use Rattle.sh_token.specs.Places.{Place}
use Rattle.sh_token.specs.Steps.{lexed, lex, over, token_of}
use Rattle.sh_token.proofs.ByRules.{lex_looks}
use Rattle.sh_token.proofs.Found.{Of, kinds_by, of_recognized}

-- numbers of recognizers
abbrev num : Recognizer → ℕ
num r.Nothing = 0
num r.AtEnd = 1
num r.Newline = 2
num r.Operator = 3
num r.Redirects = 4
num r.LeftParen = 5
num r.Escape = 6
num r.Single = 7
num r.QuoteOpen = 8
num r.Expands = 9
num r.ExpandsQuoted = 10
num r.Closer = 11
num r.Esac = 12
num r.Assignment = 13
num r.CommandWord = 14
num r.PrefixWord = 15
num r.ArgumentWord = 16
num r.PatternOpen = 17
num r.PatternText = 18
num r.CaseIn = 19
num r.PatternClose = 20
num r.PatternBar = 21
num r.Bodies = 22
num r.BodyClose = 23
num r.BodyBackslash = 24
num r.BodyText = 25
num r.WordEnd = 26
num r.ValueText = 27
num r.Text = 28
num r.QuoteClose = 29
num r.QuotedBackslash = 30
num r.QuotedText = 31
num r.BraceClose = 32
num r.BraceStartText = 33
num r.BraceText = 34
num r.QuotedBraceBackslash = 35
num r.QuotedBraceText = 36
num r.ArithmeticBackslash = 37
num r.ArithmeticText = 38
num r.ParenthesisOpen = 39
num r.ParenthesisClose = 40
num r.Name = 41
num r.FunctionOpen = 42
num r.FunctionClose = 43
num r.Delimiter = 44

abbrev all : List Recognizer
all = r.Nothing ∷ r.AtEnd ∷ r.Newline ∷ r.Operator ∷ r.Redirects ∷ r.LeftParen ∷ r.Escape ∷ r.Single ∷ r.QuoteOpen ∷ r.Expands ∷ r.ExpandsQuoted ∷ r.Closer ∷ r.Esac ∷ r.Assignment ∷ r.CommandWord ∷ r.PrefixWord ∷ r.ArgumentWord ∷ r.PatternOpen ∷ r.PatternText ∷ r.CaseIn ∷ r.PatternClose ∷ r.PatternBar ∷ r.Bodies ∷ r.BodyClose ∷ r.BodyBackslash ∷ r.BodyText ∷ r.WordEnd ∷ r.ValueText ∷ r.Text ∷ r.QuoteClose ∷ r.QuotedBackslash ∷ r.QuotedText ∷ r.BraceClose ∷ r.BraceStartText ∷ r.BraceText ∷ r.QuotedBraceBackslash ∷ r.QuotedBraceText ∷ r.ArithmeticBackslash ∷ r.ArithmeticText ∷ r.ParenthesisOpen ∷ r.ParenthesisClose ∷ r.Name ∷ r.FunctionOpen ∷ r.FunctionClose ∷ r.Delimiter ∷ []

abbrev at : ℕ → List Recognizer → Recognizer
at n [] = r.Nothing
at zero (x ∷ xs) = x
at (suc n) (x ∷ xs) = at n xs

is_at : (x : Recognizer) → at (num x) all ≡ x
is_at r.Nothing = refl
is_at r.AtEnd = refl
is_at r.Newline = refl
is_at r.Operator = refl
is_at r.Redirects = refl
is_at r.LeftParen = refl
is_at r.Escape = refl
is_at r.Single = refl
is_at r.QuoteOpen = refl
is_at r.Expands = refl
is_at r.ExpandsQuoted = refl
is_at r.Closer = refl
is_at r.Esac = refl
is_at r.Assignment = refl
is_at r.CommandWord = refl
is_at r.PrefixWord = refl
is_at r.ArgumentWord = refl
is_at r.PatternOpen = refl
is_at r.PatternText = refl
is_at r.CaseIn = refl
is_at r.PatternClose = refl
is_at r.PatternBar = refl
is_at r.Bodies = refl
is_at r.BodyClose = refl
is_at r.BodyBackslash = refl
is_at r.BodyText = refl
is_at r.WordEnd = refl
is_at r.ValueText = refl
is_at r.Text = refl
is_at r.QuoteClose = refl
is_at r.QuotedBackslash = refl
is_at r.QuotedText = refl
is_at r.BraceClose = refl
is_at r.BraceStartText = refl
is_at r.BraceText = refl
is_at r.QuotedBraceBackslash = refl
is_at r.QuotedBraceText = refl
is_at r.ArithmeticBackslash = refl
is_at r.ArithmeticText = refl
is_at r.ParenthesisOpen = refl
is_at r.ParenthesisClose = refl
is_at r.Name = refl
is_at r.FunctionOpen = refl
is_at r.FunctionClose = refl
is_at r.Delimiter = refl

number_is : (x y : Recognizer) → nat_eq (num x) (num y) ≡ true → x ≡ y
number_is x y h = sym (is_at x) ∙ ap (λ n. at n all) (eqb-true (num x) (num y) h) ∙ is_at y

-- tests over fronts
abbrev pub all_of : {A : Type 0} → (A → Bool) → List A → Bool
all_of g [] = true
all_of g (x ∷ xs) = both (g x) (all_of g xs)

abbrev nth_of : {A : Type 0} → ℕ → List A → Option A
nth_of n [] = None
nth_of zero (x ∷ xs) = Some x
nth_of (suc n) (x ∷ xs) = nth_of n xs

both_true : (a b : Bool) → both a b ≡ true → (a ≡ true) × (b ≡ true)
both_true true b h = (refl, h)
both_true false b h = cc

pub either_cases : (a b : Bool) → either a b ≡ true → (a ≡ true) ⊎ (b ≡ true)
either_cases true b h = inl refl
either_cases false b h = inr h

pub all_at : {A : Type 0} (g : A → Bool) (xs : List A) (n : ℕ) (x : A) → all_of g xs ≡ true → nth_of n xs ≡ Some x → g x ≡ true
all_at g [] n x h e = cc
all_at g (y ∷ ys) zero x h e = let is : y ≡ x = cc in subst (λ y. g y ≡ true) is (both_true (g y) (all_of g ys) h).0
all_at g (y ∷ ys) (suc n) x h e = all_at g ys n x (both_true (g y) (all_of g ys) h).1 e

abbrev pub fronts : List Front
fronts = f.End ∷ f.Nul ∷ f.Tilde ∷ f.Break br.Blank ∷ f.Break br.Newline ∷ f.Break br.Semi ∷ f.Break br.And ∷ f.Break br.Bar ∷ f.Break br.Angle ∷ f.Break br.OpenParen ∷ f.Break br.CloseParen ∷ f.Quote qu.Backslash ∷ f.Quote qu.Single ∷ f.Quote qu.Double ∷ f.Quote qu.Backquote ∷ f.Quote qu.Dollar ∷ f.Plain pl.RightBrace ∷ f.Plain pl.CloseBrace ∷ f.Plain pl.Esac ∷ f.Plain pl.Closer ∷ f.Plain pl.Assignment ∷ f.Plain pl.Numbered ∷ f.Plain pl.Text ∷ []

abbrev break_number : b.Break → ℕ
break_number br.Blank = 3
break_number br.Newline = 4
break_number br.Semi = 5
break_number br.And = 6
break_number br.Bar = 7
break_number br.Angle = 8
break_number br.OpenParen = 9
break_number br.CloseParen = 10

abbrev quote_number : q.Quote → ℕ
quote_number qu.Backslash = 11
quote_number qu.Single = 12
quote_number qu.Double = 13
quote_number qu.Backquote = 14
quote_number qu.Dollar = 15

abbrev plain_number : p.Plain → ℕ
plain_number pl.RightBrace = 16
plain_number pl.CloseBrace = 17
plain_number pl.Esac = 18
plain_number pl.Closer = 19
plain_number pl.Assignment = 20
plain_number pl.Numbered = 21
plain_number pl.Text = 22

abbrev pub front_number : Front → ℕ
front_number f.End = 0
front_number f.Nul = 1
front_number f.Tilde = 2
front_number (f.Break x) = break_number x
front_number (f.Quote x) = quote_number x
front_number (f.Plain x) = plain_number x

break_at : (x : b.Break) → nth_of (break_number x) fronts ≡ Some (f.Break x)
break_at br.Blank = refl
break_at br.Newline = refl
break_at br.Semi = refl
break_at br.And = refl
break_at br.Bar = refl
break_at br.Angle = refl
break_at br.OpenParen = refl
break_at br.CloseParen = refl

quote_at : (x : q.Quote) → nth_of (quote_number x) fronts ≡ Some (f.Quote x)
quote_at qu.Backslash = refl
quote_at qu.Single = refl
quote_at qu.Double = refl
quote_at qu.Backquote = refl
quote_at qu.Dollar = refl

plain_at : (x : p.Plain) → nth_of (plain_number x) fronts ≡ Some (f.Plain x)
plain_at pl.RightBrace = refl
plain_at pl.CloseBrace = refl
plain_at pl.Esac = refl
plain_at pl.Closer = refl
plain_at pl.Assignment = refl
plain_at pl.Numbered = refl
plain_at pl.Text = refl

pub front_at : (x : Front) → nth_of (front_number x) fronts ≡ Some x
front_at f.End = refl
front_at f.Nul = refl
front_at f.Tilde = refl
front_at (f.Break x) = break_at x
front_at (f.Quote x) = quote_at x
front_at (f.Plain x) = plain_at x

-- What is tried in two modes finds the same token of a kind: it is the same, or both are what expands and the kind isn't one of braces with a word.
abbrev expands : Recognizer → Bool
expands x = either (nat_eq (num x) (num r.Expands)) (nat_eq (num x) (num r.ExpandsQuoted))

abbrev plainly : List ℕ
plainly = 54 ∷ 55 ∷ 56 ∷ 57 ∷ 58 ∷ 67 ∷ []

abbrev alike : Recognizer → Recognizer → TokenKind → Bool
alike x y j = either (nat_eq (num x) (num y)) (both (both (expands x) (expands y)) (member (number j) plainly))

-- of a token that belongs to a mode
abbrev forth : Mode → Front → TokenKind → Bool
forth m x j = implies (both (sets.belongs m j) (member (number j) (kinds_by (recognizer (mode_of j) x)))) (alike (recognizer m x) (recognizer (mode_of j) x) j)

-- and of a token that is found in a mode
abbrev back : Mode → Front → TokenKind → Bool
back m x j = implies (member (number j) (kinds_by (recognizer m x))) (alike (recognizer (mode_of j) x) (recognizer m x) j)

abbrev holds : Mode → Bool
holds m = all_of (λ x. each (λ j. both (forth m x j) (back m x j)) all_kinds) fronts

modes_hold : (m : Mode) → holds m ≡ true
unfolding recognizer
modes_hold m.CommandStart = refl
modes_hold m.Prefix = refl
modes_hold m.Argument = refl
modes_hold m.PatternStart = refl
modes_hold m.CaseIn = refl
modes_hold m.PatternRest = refl
modes_hold m.Bodies = refl
modes_hold m.BodyText = refl
modes_hold m.Value = refl
modes_hold m.InWord = refl
modes_hold m.InQuotes = refl
modes_hold m.BraceStart = refl
modes_hold m.InBraces = refl
modes_hold m.InQuotedBraces = refl
modes_hold m.InArithmetic = refl
modes_hold m.ForName = refl
modes_hold m.FunctionOpen = refl
modes_hold m.FunctionClose = refl
modes_hold m.HereDelimiter = refl

holds_at : (m : Mode) (x : Front) (j : TokenKind) → (forth m x j ≡ true) × (back m x j ≡ true)
holds_at m x j =
    both_true (forth m x j) (back m x j)
    (every (λ j. both (forth m x j) (back m x j))
    (all_at (λ x. each (λ j. both (forth m x j) (back m x j)) all_kinds) fronts (front_number x) x (modes_hold m) (front_at x)) j)

-- what is found, if anything is
abbrev pub kind_or : TokenKind → Look → TokenKind
kind_or j None = j
kind_or j (Some x) = x.0

abbrev pub count_or : ℕ → Look → ℕ
count_or n None = n
count_or n (Some x) = x.1

-- where one finds a token of a plain kind, so does the other
abbrev Like : Look → Look → Type 0
Like x y = (j : TokenKind) (n : ℕ) → member (number j) plainly ≡ true → x ≡ Some (j, n) → y ≡ Some (j, n)

like_same : (x : Look) → Like x x
like_same x j n h e = e

like_if : (c : Bool) (x y s t : Look) → Like x s → Like y t → Like (if c then x else y) (if c then s else t)
like_if true x y s t a b = a
like_if false x y s t a b = b

like_or : (x y z : Look) → Like y z → Like (or_else x y) (or_else x z)
like_or None y z a = a
like_or (Some v) y z a = like_same (Some v)

like_brace : (c d : TokenKind) (n : ℕ) → member (number c) plainly ≡ false → Like (token c n) (token d n)
like_brace c d n h j i m e =
    let s : c ≡ j = ap (kind_or c) e in
    let t : true ≡ false = sym m ∙ ap (λ j. member (number j) plainly) (sym s) ∙ h in
    cc

like_operation : (c d : TokenKind) (n a b : ℕ) → member (number c) plainly ≡ false → Like (operation c n a b) (operation d n a b)
like_operation c d n a b h =
    like_if (a == 125) _ _ _ _ (like_same _)
    (like_if (a == 58) _ _ _ _ (like_if (substitutes b) _ _ _ _ (like_brace c d (n + 2) h) (like_same _))
    (like_if (substitutes a) _ _ _ _ (like_brace c d (n + 1) h) (like_same _)))

like_braced : (c d : TokenKind) (text : List ℕ) → member (number c) plainly ≡ false → Like (braced c text) (braced d text)
unfolding braced
like_braced c d text h =
    let n = parameter_in_braces text in
    like_or (length_look text) (operated c n text) (operated d n text)
    (like_if (n == 0) _ _ _ _ (like_same _) (like_operation c d (n + 2) (slice_index text (n + 2)) (slice_index text (n + 3)) h))

like_dollar : (c d : TokenKind) (text : List ℕ) → member (number c) plainly ≡ false → Like (dollar c text) (dollar d text)
unfolding dollar
like_dollar c d text h =
    like_if (is_letter (slice_index text 1)) _ _ _ _ (like_same _)
    (like_if (is_digit (slice_index text 1) or is_special (slice_index text 1)) _ _ _ _ (like_same _)
    (like_if (slice_index text 1 == 36 or slice_index text 1 == 33 or slice_index text 1 == 45) _ _ _ _ (like_same _)
    (like_if (slice_index text 1 == 40) _ _ _ _ (like_same _)
    (like_if (slice_index text 1 == 123) _ _ _ _ (like_braced c d text h) (like_same _)))))

abbrev pub found : Recognizer → Place → Look
found x p = recognized x (surroundings p) p.text

dollars_like : (x y : Recognizer) (p : Place) → (x ≡ r.Expands) ⊎ (x ≡ r.ExpandsQuoted) → (y ≡ r.Expands) ⊎ (y ≡ r.ExpandsQuoted) → Like (found y p) (found x p)
unfolding recognized
dollars_like x y p (inl a) (inl b) = subst (λ x. Like (found y p) (found x p)) (sym a) (subst (λ y. Like (found y p) (found r.Expands p)) (sym b) (like_same _))
dollars_like x y p (inl a) (inr b) = subst (λ x. Like (found y p) (found x p)) (sym a) (subst (λ y. Like (found y p) (found r.Expands p)) (sym b) (like_dollar k.QuotedBrace k.Brace (folded p.text) refl))
dollars_like x y p (inr a) (inl b) = subst (λ x. Like (found y p) (found x p)) (sym a) (subst (λ y. Like (found y p) (found r.ExpandsQuoted p)) (sym b) (like_dollar k.Brace k.QuotedBrace (folded p.text) refl))
dollars_like x y p (inr a) (inr b) = subst (λ x. Like (found y p) (found x p)) (sym a) (subst (λ y. Like (found y p) (found r.ExpandsQuoted p)) (sym b) (like_same _))

which : (x : Recognizer) → expands x ≡ true → (x ≡ r.Expands) ⊎ (x ≡ r.ExpandsQuoted)
which x h = by (either_cases (nat_eq (num x) (num r.Expands)) (nat_eq (num x) (num r.ExpandsQuoted)) h)
  where
    by : (nat_eq (num x) (num r.Expands) ≡ true) ⊎ (nat_eq (num x) (num r.ExpandsQuoted) ≡ true) → (x ≡ r.Expands) ⊎ (x ≡ r.ExpandsQuoted)
    by (inl a) = inl (number_is x r.Expands a)
    by (inr a) = inr (number_is x r.ExpandsQuoted a)

finds : (x y : Recognizer) (p : Place) (j : TokenKind) (n : ℕ) → alike x y j ≡ true → found y p ≡ Some (j, n) → found x p ≡ Some (j, n)
finds x y p j n h e = by (either_cases (nat_eq (num x) (num y)) (both (both (expands x) (expands y)) (member (number j) plainly)) h)
  where
    by : (nat_eq (num x) (num y) ≡ true) ⊎ (both (both (expands x) (expands y)) (member (number j) plainly) ≡ true) → found x p ≡ Some (j, n)
    by (inl a) = subst (λ x. found x p ≡ Some (j, n)) (sym (number_is x y a)) e
    by (inr a) =
        let s = both_true (both (expands x) (expands y)) (member (number j) plainly) a in
        let t = both_true (expands x) (expands y) s.0 in
        dollars_like x y p (which x t.0) (which y t.1) j n s.1 e

pub kind_of : (x : Recognizer) (p : Place) (j : TokenKind) (n : ℕ) → found x p ≡ Some (j, n) → member (number j) (kinds_by x) ≡ true
kind_of x p j n e = (subst (Of (kinds_by x)) e (of_recognized x (surroundings p) p.text)).0

from_both : (a b : Bool) → a ≡ true → b ≡ true → both a b ≡ true
from_both a b h i = ap (λ a. both a b) h ∙ i

abbrev pub front_at_place : Place → Front
front_at_place p = front_of p.words (folded p.text)

-- what is measured was found, with its kind
pub unmeasured : (text : List ℕ) (x : Look) (j : TokenKind) (n : ℕ) → measured text x ≡ Some (j, n) → (i : ℕ) × (x ≡ Some (j, i)) × (n ≡ extent (is_raw j) i text)
unmeasured text None j n e = cc
unmeasured text (Some x) j n e =
    let s : x.0 ≡ j = ap (kind_or x.0) e in
    let t : extent (is_raw x.0) x.1 text ≡ n = ap (count_or 0) e in
    (x.1, ap (λ j. Some (j, x.1)) s, sym t ∙ ap (λ j. extent (is_raw j) x.1 text) s)

pub looks_forth : (m : Mode) (p : Place) (j : TokenKind) (n : ℕ) → sets.belongs m j ≡ true → look (mode_of j) p ≡ Some (j, n) → look m p ≡ Some (j, n)
unfolding look
looks_forth m p j n h e =
    let x = front_at_place p in
    let u = unmeasured p.text (found (recognizer (mode_of j) x) p) j n e in
    let c = implied (both (sets.belongs m j) (member (number j) (kinds_by (recognizer (mode_of j) x)))) (alike (recognizer m x) (recognizer (mode_of j) x) j) (holds_at m x j).0 (from_both _ _ h (kind_of (recognizer (mode_of j) x) p j u.0 u.1)) in
    ap (measured p.text) (finds (recognizer m x) (recognizer (mode_of j) x) p j u.0 c u.1) ∙ ap (λ n. Some (j, n)) (sym u.2)

-- A token that is found in a mode is found where it is looked for by itself.
pub found_by_itself : (m : Mode) (p : Place) (j : TokenKind) (n : ℕ) → look m p ≡ Some (j, n) → look (mode_of j) p ≡ Some (j, n)
unfolding look
found_by_itself m p j n e =
    let x = front_at_place p in
    let u = unmeasured p.text (found (recognizer m x) p) j n e in
    let c = implied (member (number j) (kinds_by (recognizer m x))) (alike (recognizer (mode_of j) x) (recognizer m x) j) (holds_at m x j).1 (kind_of (recognizer m x) p j u.0 u.1) in
    ap (measured p.text) (finds (recognizer (mode_of j) x) (recognizer m x) p j u.0 c u.1) ∙ ap (λ n. Some (j, n)) (sym u.2)

abbrev pub token_or : Token → Option (Token × Place) → Token
token_or t None = t
token_or t (Some x) = x.0

abbrev pub place_or : Place → Option (Token × Place) → Place
place_or p None = p
place_or p (Some x) = x.1

pub unlexed : (p q : Place) (x : Look) (t : Token) → lexed p x ≡ Some (t, q) → (n : ℕ) × (x ≡ Some (t.kind, n)) × (lexed p (Some (t.kind, n)) ≡ Some (t, q))
unlexed p q None t e = cc
unlexed p q (Some x) t e =
    let s : token_of x.0 x.1 p ≡ t = ap (token_or t) e in
    let k : x.0 ≡ t.kind = ap (λ t. t.kind) s in
    (x.1, ap (λ j. Some (j, x.1)) k, subst (λ j. lexed p (Some (j, x.1)) ≡ Some (t, q)) k e)

-- THE LAW: a token that stands at a place is found in each mode to which it belongs.
pub modes_agree : ModesAgree shell (reader lex over) sets
modes_agree m t p q h e =
    let u = unlexed p q (look (mode_of t.kind) p) t (sym (lex_looks (mode_of t.kind) p) ∙ e) in
    lex_looks m p ∙ ap (lexed p) (looks_forth m p t.kind u.0 h u.1) ∙ u.2
