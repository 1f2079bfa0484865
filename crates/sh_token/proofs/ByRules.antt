-- The token that stands at a place is the one that the rules have: what is tried there finds it, byte by byte and mode by mode.
use Rattle.std.proofs.Common.{◌≡◌, ℕ, ◌≤◌, List, [], ◌∷◌, drop, slice_index, codes, Bool, true, false, Some, None, refl, sym, ap, ◌∙◌, subst, arith}
use Rattle.std.specs.Prelude.{◌==◌, nat_lt, if◌then◌else◌}
use Rattle.std.proofs.lemmas.Bool.{eqb-true, ltb-false, le-ltb}
use Rattle.sh_rules.specs.declared.token_kind.Mode.{Mode}
use Rattle.sh_rules.specs.declared.token_kind.TokenKind.TheVariants as k
use Rattle.sh_rules.specs.declared.token_kind.Mode.TheVariants as m
use Rattle.sh_token.specs.declared.place.Words.{Words}
use Rattle.sh_token.specs.declared.front.Front.{Front}
use Rattle.sh_token.specs.declared.front.Front.TheVariants as f
use Rattle.sh_token.specs.declared.front.Break.{Break}
use Rattle.sh_token.specs.declared.front.Break.TheVariants as br
use Rattle.sh_token.specs.declared.front.Quote.TheVariants as qu
use Rattle.sh_token.specs.declared.front.Plain.{Plain}
use Rattle.sh_token.specs.declared.front.Plain.TheVariants as pl
use Rattle.sh_token.specs.Bytes.{◌or◌, ◌also◌, is_blank, is_digit, is_letter, is_end, is_quoting, is_brace_text}
use Rattle.sh_token.specs.Folded.{folded}
use Rattle.sh_token.specs.Tokens.{Look, token, measured}
use Rattle.sh_token.specs.Reserved.{is_word, reserves, closer}
use Rattle.sh_token.specs.Expansions.{or_else}
use Rattle.sh_token.specs.Brackets.{text_look}
use Rattle.sh_token.specs.Commands.{command_word, prefix_word, argument_word, text_of, redirection, assignment, is_assignment, is_numbered}
use Rattle.sh_token.specs.Fronts.{front_of, plain_of, break_of, end_of, is_found}
use Rattle.sh_token.specs.Recognizers.{recognizer}
use Rattle.sh_token.specs.Lexemes.{surroundings, recognized, look}
use Rattle.sh_token.specs.Places.{Place, is_none}
use Rattle.sh_token.specs.Steps.{lexed, lex}
use Rattle.sh_token.specs.Recognition.{Double_quotes, Quoted_braces, Document, Arithmetic, quoted_text, begins_operator, quoted_by, at_quoted, at_operator, at_blank, at_tilde, first_part, word_among, at_word, at_unquoted, at_other, reserved, is_esac, recognition, token_at}

-- what is found with a front
abbrev found : Mode → Place → Front → Look
found mode p x = recognized (recognizer mode x) (surroundings p) p.text

-- a byte that quotes ends no word
ends_none : (c : ℕ) → is_quoting c ≡ true → is_end c ≡ false
ends_none c h = by (c == 92) (c == 39) (c == 34) (c == 96) (c == 36) refl refl refl refl refl h
  where
    is : (n : ℕ) → is_end n ≡ false → (c == n) ≡ true → is_end c ≡ false
    is n e i = ap is_end (eqb-true c n i) ∙ e

    by : (s t u v w : Bool) → (c == 92) ≡ s → (c == 39) ≡ t → (c == 34) ≡ u → (c == 96) ≡ v → (c == 36) ≡ w → (s or t or u or v or w) ≡ true → is_end c ≡ false
    by true t u v w i j k l n h = is 92 refl i
    by false true u v w i j k l n h = is 39 refl j
    by false false true v w i j k l n h = is 34 refl k
    by false false false true w i j k l n h = is 96 refl l
    by false false false false true i j k l n h = is 36 refl n
    by false false false false false i j k l n h = cc

-- what holds of each byte that begins an operator
at_each : (G : ℕ → Type 0) → G 10 → G 59 → G 38 → G 124 → G 60 → G 62 → G 40 → G 41 → (c : ℕ) → begins_operator c ≡ true → G c
at_each G x0 x1 x2 x3 x4 x5 x6 x7 c h = by (c == 10) (c == 59) (c == 38) (c == 124) (c == 60) (c == 62) (c == 40) (c == 41) refl refl refl refl refl refl refl refl h
  where
    is : (n : ℕ) → G n → (c == n) ≡ true → G c
    is n g i = subst G (sym (eqb-true c n i)) g

    by : (s t u v w x y z : Bool) → (c == 10) ≡ s → (c == 59) ≡ t → (c == 38) ≡ u → (c == 124) ≡ v → (c == 60) ≡ w → (c == 62) ≡ x → (c == 40) ≡ y → (c == 41) ≡ z → (s or t or u or v or w or x or y or z) ≡ true → G c
    by true t u v w x y z a b d e i j k l h = is 10 x0 a
    by false true u v w x y z a b d e i j k l h = is 59 x1 b
    by false false true v w x y z a b d e i j k l h = is 38 x2 d
    by false false false true w x y z a b d e i j k l h = is 124 x3 e
    by false false false false true x y z a b d e i j k l h = is 60 x4 i
    by false false false false false true y z a b d e i j k l h = is 62 x5 j
    by false false false false false false true z a b d e i j k l h = is 40 x6 k
    by false false false false false false false true a b d e i j k l h = is 41 x7 l
    by false false false false false false false false a b d e i j k l h = cc

-- and of each blank
at_each_blank : (G : ℕ → Type 0) → G 32 → G 9 → (c : ℕ) → is_blank c ≡ true → G c
at_each_blank G x y c h = by (c == 32) (c == 9) refl refl h
  where
    by : (s t : Bool) → (c == 32) ≡ s → (c == 9) ≡ t → (s or t) ≡ true → G c
    by true t i j h = subst G (sym (eqb-true c 32 i)) x
    by false true i j h = subst G (sym (eqb-true c 9 j)) y
    by false false i j h = cc

-- FRONTS, BYTE BY BYTE

-- what is found at a byte that quotes nothing and doesn't end the text
abbrev rest : (Front → Look) → ℕ → Plain → Look
rest g c x =
    if begins_operator c then g (f.Break (break_of c))
    else if is_blank c then g (f.Break br.Blank)
    else if c == 126 then g f.Tilde
    else g (f.Plain x)

-- and at each other one
abbrev with_rest : (Front → Look) → List ℕ → ℕ → Look → Look
with_rest g text c x =
    if c == 0 then (if is_none text then g f.End else g f.Nul)
    else if c == 92 then g (f.Quote qu.Backslash)
    else if c == 39 then g (f.Quote qu.Single)
    else if c == 34 then g (f.Quote qu.Double)
    else if c == 96 then g (f.Quote qu.Backquote)
    else if c == 36 then g (f.Quote qu.Dollar)
    else x

end_is : (g : Front → Look) (text : List ℕ) → g (end_of text) ≡ (if is_none text then g f.End else g f.Nul)
end_is g [] = refl
end_is g (c ∷ cs) = refl

blank_is : (c : ℕ) → is_blank c ≡ true → break_of c ≡ br.Blank
blank_is = at_each_blank (λ c. break_of c ≡ br.Blank) refl refl

fronts_by : (g : Front → Look) (z s t u v w o l i : Bool) (e : Front) (x : Look) (y : Break) (a : Plain) → g e ≡ x → ((s or t or u or v or w) ≡ true → (z or l or o) ≡ false) → (l ≡ true → y ≡ br.Blank) →
    g (if z then e else if (z or l or o) then f.Break y else if (s or t or u or v or w) then f.Quote (if s then qu.Backslash else if t then qu.Single else if u then qu.Double else if v then qu.Backquote else qu.Dollar) else if i then f.Tilde else f.Plain a)
    ≡ (if z then x else if s then g (f.Quote qu.Backslash) else if t then g (f.Quote qu.Single) else if u then g (f.Quote qu.Double) else if v then g (f.Quote qu.Backquote) else if w then g (f.Quote qu.Dollar) else if o then g (f.Break y) else if l then g (f.Break br.Blank) else if i then g f.Tilde else g (f.Plain a))
fronts_by g true s t u v w o l i e x y a h j k = h
fronts_by g false true t u v w o l i e x y a h j k = ap (λ d. g (if d then f.Break y else f.Quote qu.Backslash)) (j refl)
fronts_by g false false true u v w o l i e x y a h j k = ap (λ d. g (if d then f.Break y else f.Quote qu.Single)) (j refl)
fronts_by g false false false true v w o l i e x y a h j k = ap (λ d. g (if d then f.Break y else f.Quote qu.Double)) (j refl)
fronts_by g false false false false true w o l i e x y a h j k = ap (λ d. g (if d then f.Break y else f.Quote qu.Backquote)) (j refl)
fronts_by g false false false false false true o l i e x y a h j k = ap (λ d. g (if d then f.Break y else f.Quote qu.Dollar)) (j refl)
fronts_by g false false false false false false true true i e x y a h j k = refl
fronts_by g false false false false false false true false i e x y a h j k = refl
fronts_by g false false false false false false false true i e x y a h j k = ap (λ d. g (f.Break d)) (k refl)
fronts_by g false false false false false false false false true e x y a h j k = refl
fronts_by g false false false false false false false false false e x y a h j k = refl

front_is : (g : Front → Look) (words : Words) (text : List ℕ) → g (front_of words text) ≡ with_rest g text (slice_index text 0) (rest g (slice_index text 0) (plain_of words text))
unfolding front_of
front_is g words text =
    let c = slice_index text 0 in
    fronts_by g (c == 0) (c == 92) (c == 39) (c == 34) (c == 96) (c == 36) (begins_operator c) (is_blank c) (c == 126) (end_of text) (if is_none text then g f.End else g f.Nul) (break_of c) (plain_of words text) (end_is g text) (ends_none c) (blank_is c)

-- WORDS

-- among commands: what closes or goes on, an assignment, a redirection or a word
abbrev among : Look → Look → Look → Look → Plain → Look
among close assigned redirected word pl.RightBrace = close
among close assigned redirected word pl.CloseBrace = word
among close assigned redirected word pl.Esac = token k.Esac 4
among close assigned redirected word pl.Closer = close
among close assigned redirected word pl.Assignment = assigned
among close assigned redirected word pl.Numbered = redirected
among close assigned redirected word pl.Text = word

last_by : (a n : Bool) (close x y z v : Look) → (a ≡ true → n ≡ false) → v ≡ (if a then x else z) → among close x y z (if a then pl.Assignment else if n then pl.Numbered else pl.Text) ≡ (if n then y else v)
last_by true n close x y z v i j = sym (ap (λ n. if n then y else v) (i refl) ∙ j)
last_by false true close x y z v i j = refl
last_by false false close x y z v i j = sym j

words_by : (r b e s : Bool) (close : Look) (a n : Bool) (x y z v : Look) → b ≡ false → (a ≡ true → n ≡ false) → v ≡ (if a then x else z) →
    among close x y z (if (r also (b also e)) then pl.RightBrace else if b then pl.CloseBrace else if (r also s) then pl.Esac else if (r also is_found close) then pl.Closer else if a then pl.Assignment else if n then pl.Numbered else pl.Text)
    ≡ or_else (if (r also s) then token k.Esac 4 else if r then close else None) (if n then y else v)
words_by r true e s close a n x y z v h i j = cc
words_by true false e true close a n x y z v h i j = refl
words_by true false e false (Some d) a n x y z v h i j = refl
words_by true false e false None a n x y z v h i j = last_by a n None x y z v i j
words_by false false e s close a n x y z v h i j = last_by a n close x y z v i j

brace_by : (r e : Bool) (x y z v : Look) → v ≡ z →
    among (if e then token k.RightBrace 1 else None) x y z (if (r also e) then pl.RightBrace else pl.CloseBrace)
    ≡ or_else (if (r also false) then token k.Esac 4 else if r then (if e then token k.RightBrace 1 else None) else None) v
brace_by true true x y z v h = refl
brace_by true false x y z v h = sym h
brace_by false true x y z v h = sym h
brace_by false false x y z v h = sym h

-- no letter is a digit
least_within : (a n c : ℕ) → (if nat_lt c a then false else nat_lt c n) ≡ true → a ≤ c
least_within a n c h = by (nat_lt c a) refl h
  where
    by : (s : Bool) → nat_lt c a ≡ s → (if s then false else nat_lt c n) ≡ true → a ≤ c
    by true i h = cc
    by false i h = ltb-false c a i

above_digits : (c : ℕ) → 58 ≤ c → is_digit c ≡ false
above_digits c h = by (nat_lt c 48)
  where
    by : (s : Bool) → (if s then false else nat_lt c 58) ≡ false
    by true = refl
    by false = le-ltb c 58 h

letter_by : (c : ℕ) → is_letter c ≡ true → is_digit c ≡ false
letter_by c h = by (if nat_lt c 97 then false else nat_lt c 123) (if nat_lt c 65 then false else nat_lt c 91) (c == 95) refl refl refl h
  where
    by : (s t u : Bool) → (if nat_lt c 97 then false else nat_lt c 123) ≡ s → (if nat_lt c 65 then false else nat_lt c 91) ≡ t → (c == 95) ≡ u → (s or t or u) ≡ true → is_digit c ≡ false
    by true t u i j k h = let l : 97 ≤ c = least_within 97 123 c i in above_digits c (omega (arith, l))
    by false true u i j k h = let l : 65 ≤ c = least_within 65 91 c j in above_digits c (omega (arith, l))
    by false false true i j k h = ap is_digit (eqb-true c 95 k)
    by false false false i j k h = cc

first_of_two : (a b : Bool) → (a also b) ≡ true → a ≡ true
first_of_two true b h = refl
first_of_two false b h = cc

never_both : (text : List ℕ) → is_assignment text ≡ true → is_numbered text ≡ false
never_both text h = ap (λ b. b also (slice_index text 1 == 60 or slice_index text 1 == 62)) (letter_by (slice_index text 0) (first_of_two (is_letter (slice_index text 0)) _ h))

abbrev Agrees : Words → (x y z v : Look) → List ℕ → Type 0
Agrees words x y z v text = v ≡ (if is_assignment text then x else z) → among (closer text) x y z (plain_of words text) ≡ or_else (reserved words text) (if is_numbered text then y else v)

brace_agrees : (words : Words) (x y z v : Look) (cs : List ℕ) → Agrees words x y z v (125 ∷ cs)
unfolding plain_of closer
brace_agrees words x y z v cs h = brace_by (reserves words) (is_end (slice_index cs 0)) x y z v h

agrees_but : (words : Words) (x y z v : Look) (text : List ℕ) → (slice_index text 0 == 125) ≡ false → Agrees words x y z v text
unfolding plain_of
agrees_but words x y z v text i h =
    words_by (reserves words) (slice_index text 0 == 125) (is_end (slice_index (drop 1 text) 0)) (is_word (codes "esac") text) (closer text) (is_assignment text) (is_numbered text) x y z v i (never_both text) h

agrees : (words : Words) (x y z v : Look) (text : List ℕ) → Agrees words x y z v text
agrees words x y z v [] = agrees_but words x y z v [] refl
agrees words x y z v (c ∷ cs) = by (c == 125) refl
  where
    by : (s : Bool) → (c == 125) ≡ s → Agrees words x y z v (c ∷ cs)
    by true i = subst (λ c. Agrees words x y z v (c ∷ cs)) (sym (eqb-true c 125 i)) (brace_agrees words x y z v cs)
    by false i = agrees_but words x y z v (c ∷ cs) i

-- where a pattern begins
abbrev in_item : Look → Plain → Look
in_item word pl.Esac = token k.Esac 4
in_item word other = word

item_last : (g a n : Bool) (x : Look) → in_item x (if g then pl.Closer else if a then pl.Assignment else if n then pl.Numbered else pl.Text) ≡ x
item_last true a n x = refl
item_last false true n x = refl
item_last false false true x = refl
item_last false false false x = refl

item_by : (r b e s g a n : Bool) (x : Look) → (b ≡ true → s ≡ false) →
    in_item x (if (r also (b also e)) then pl.RightBrace else if b then pl.CloseBrace else if (r also s) then pl.Esac else if (r also g) then pl.Closer else if a then pl.Assignment else if n then pl.Numbered else pl.Text)
    ≡ (if (r also s) then token k.Esac 4 else x)
item_by true true true s g a n x h = ap (λ s. if s then token k.Esac 4 else x) (sym (h refl))
item_by true true false s g a n x h = ap (λ s. if s then token k.Esac 4 else x) (sym (h refl))
item_by true false e true g a n x h = refl
item_by true false e false g a n x h = item_last g a n x
item_by false true e s g a n x h = refl
item_by false false e s g a n x h = item_last false a n x

item_is : (words : Words) (text : List ℕ) (x : Look) → in_item x (plain_of words text) ≡ (if is_esac words text then token k.Esac 4 else x)
unfolding plain_of
item_is words text x =
    item_by (reserves words) (slice_index text 0 == 125) (is_end (slice_index (drop 1 text) 0)) (is_word (codes "esac") text) (is_found (closer text)) (is_assignment text) (is_numbered text) x
    (λ h. ap (λ c. (c == 101) also is_word (codes "sac") (drop 1 text)) (eqb-true (slice_index text 0) 125 h))

-- in braces
abbrev in_braces : Look → Plain → Look
in_braces other pl.RightBrace = token k.BraceClose 1
in_braces other pl.CloseBrace = token k.BraceClose 1
in_braces other x = other

braces_last : (s g a n : Bool) (x : Look) → in_braces x (if s then pl.Esac else if g then pl.Closer else if a then pl.Assignment else if n then pl.Numbered else pl.Text) ≡ x
braces_last true g a n x = refl
braces_last false true a n x = refl
braces_last false false true n x = refl
braces_last false false false true x = refl
braces_last false false false false x = refl

braces_by : (r b e s g a n : Bool) (x : Look) →
    in_braces x (if (r also (b also e)) then pl.RightBrace else if b then pl.CloseBrace else if (r also s) then pl.Esac else if (r also g) then pl.Closer else if a then pl.Assignment else if n then pl.Numbered else pl.Text)
    ≡ (if b then token k.BraceClose 1 else x)
braces_by true true true s g a n x = refl
braces_by true true false s g a n x = refl
braces_by true false e s g a n x = braces_last s g a n x
braces_by false true e s g a n x = refl
braces_by false false e s g a n x = braces_last false false a n x

braces_are : (words : Words) (text : List ℕ) (x : Look) → in_braces x (plain_of words text) ≡ (if slice_index text 0 == 125 then token k.BraceClose 1 else x)
unfolding plain_of
braces_are words text x =
    braces_by (reserves words) (slice_index text 0 == 125) (is_end (slice_index (drop 1 text) 0)) (is_word (codes "esac") text) (is_found (closer text)) (is_assignment text) (is_numbered text) x

-- MODE BY MODE

-- the byte with which a place begins
abbrev first : Place → ℕ
first p = slice_index (folded p.text) 0

rest_by : (o l t : Bool) (a a' b b' c c' d d' : Look) → (o ≡ true → a ≡ a') → b ≡ b' → c ≡ c' → d ≡ d' → (if o then a else if l then b else if t then c else d) ≡ (if o then a' else if l then b' else if t then c' else d')
rest_by true l t a a' b b' c c' d d' h i j k = h refl
rest_by false true t a a' b b' c c' d d' h i j k = i
rest_by false false true a a' b b' c c' d d' h i j k = j
rest_by false false false a a' b b' c c' d d' h i j k = k

rest_is : (o l t : Bool) (a b c d x : Look) → (o ≡ true → a ≡ x) → (l ≡ true → b ≡ x) → (t ≡ true → c ≡ x) → (o ≡ false → d ≡ x) → (if o then a else if l then b else if t then c else d) ≡ x
rest_is true l t a b c d x h i j k = h refl
rest_is false true t a b c d x h i j k = i refl
rest_is false false true a b c d x h i j k = j refl
rest_is false false false a b c d x h i j k = k refl

-- what holds at a tilde
at_one : (G : ℕ → Type 0) (n : ℕ) → G n → (c : ℕ) → (c == n) ≡ true → G c
at_one G n g c h = subst G (sym (eqb-true c n h)) g

-- no other byte begins an operator
apart : (n c : ℕ) → begins_operator n ≡ true → begins_operator c ≡ false → (c == n) ≡ false
apart n c h i = by (c == n) refl
  where
    by : (s : Bool) → (c == n) ≡ s → s ≡ false
    by true j = let e : true ≡ false = sym h ∙ ap begins_operator (sym (eqb-true c n j)) ∙ i in cc
    by false j = refl

-- where nothing quotes
abbrev Rest : Mode → Place → Type 0
Rest m.Bodies p = Unit {0}
Rest m.HereDelimiter p = Unit {0}
Rest mode p = rest (found mode p) (first p) (plain_of p.words (folded p.text)) ≡ at_other (quoted_by mode) mode (first p) p

abbrev AtOperators : Mode → Place → Type 0
AtOperators mode p = begins_operator (first p) ≡ true → found mode p (f.Break (break_of (first p))) ≡ at_operator mode (first p) p

abbrev AtOne : Mode → Place → ℕ → Type 0
AtOne mode p c = found mode p (f.Break (break_of c)) ≡ at_operator mode c p

abbrev AtWord : Mode → Place → Type 0
AtWord mode p = found mode p (f.Plain (plain_of p.words (folded p.text))) ≡ at_word mode (first p) p

operators : (mode : Mode) (p : Place) → AtOne mode p 10 → AtOne mode p 59 → AtOne mode p 38 → AtOne mode p 124 → AtOne mode p 60 → AtOne mode p 62 → AtOne mode p 40 → AtOne mode p 41 → AtOperators mode p
operators mode p x0 x1 x2 x3 x4 x5 x6 x7 h = at_each (AtOne mode p) x0 x1 x2 x3 x4 x5 x6 x7 (first p) h

unquoted : (mode : Mode) (p : Place) → AtOperators mode p → found mode p (f.Break br.Blank) ≡ at_blank mode p → found mode p f.Tilde ≡ at_tilde mode p → AtWord mode p → rest (found mode p) (first p) (plain_of p.words (folded p.text)) ≡ at_unquoted mode (first p) p
unquoted mode p h i j k =
    rest_by (begins_operator (first p)) (is_blank (first p)) (first p == 126)
    (found mode p (f.Break (break_of (first p)))) (at_operator mode (first p) p)
    (found mode p (f.Break br.Blank)) (at_blank mode p)
    (found mode p f.Tilde) (at_tilde mode p)
    (found mode p (f.Plain (plain_of p.words (folded p.text)))) (at_word mode (first p) p)
    h i j k

-- words among commands
at_start : (p : Place) (x : Plain) → found m.CommandStart p (f.Plain x) ≡ among (closer (folded p.text)) (assignment (folded p.text)) (redirection (folded p.text)) (command_word p.words (folded p.text)) x
unfolding recognized recognizer
at_start p pl.RightBrace = refl
at_start p pl.CloseBrace = refl
at_start p pl.Esac = refl
at_start p pl.Closer = refl
at_start p pl.Assignment = refl
at_start p pl.Numbered = refl
at_start p pl.Text = refl

at_prefix : (p : Place) (x : Plain) → found m.Prefix p (f.Plain x) ≡ among (closer (folded p.text)) (assignment (folded p.text)) (redirection (folded p.text)) (prefix_word (folded p.text)) x
unfolding recognized recognizer
at_prefix p pl.RightBrace = refl
at_prefix p pl.CloseBrace = refl
at_prefix p pl.Esac = refl
at_prefix p pl.Closer = refl
at_prefix p pl.Assignment = refl
at_prefix p pl.Numbered = refl
at_prefix p pl.Text = refl

at_argument : (p : Place) (x : Plain) → found m.Argument p (f.Plain x) ≡ among (closer (folded p.text)) (argument_word p.words (folded p.text)) (redirection (folded p.text)) (argument_word p.words (folded p.text)) x
unfolding recognized recognizer
at_argument p pl.RightBrace = refl
at_argument p pl.CloseBrace = refl
at_argument p pl.Esac = refl
at_argument p pl.Closer = refl
at_argument p pl.Assignment = refl
at_argument p pl.Numbered = refl
at_argument p pl.Text = refl

at_item : (p : Place) (x : Plain) → found m.PatternStart p (f.Plain x) ≡ in_item (text_of k.PatternText (folded p.text)) x
unfolding recognized recognizer
at_item p pl.RightBrace = refl
at_item p pl.CloseBrace = refl
at_item p pl.Esac = refl
at_item p pl.Closer = refl
at_item p pl.Assignment = refl
at_item p pl.Numbered = refl
at_item p pl.Text = refl

at_brace_start : (p : Place) (x : Plain) → found m.BraceStart p (f.Plain x) ≡ in_braces (text_look is_brace_text k.BraceStartText (folded p.text)) x
unfolding recognized recognizer
at_brace_start p pl.RightBrace = refl
at_brace_start p pl.CloseBrace = refl
at_brace_start p pl.Esac = refl
at_brace_start p pl.Closer = refl
at_brace_start p pl.Assignment = refl
at_brace_start p pl.Numbered = refl
at_brace_start p pl.Text = refl

at_braces : (p : Place) (x : Plain) → found m.InBraces p (f.Plain x) ≡ in_braces (text_look is_brace_text k.BraceText (folded p.text)) x
unfolding recognized recognizer
at_braces p pl.RightBrace = refl
at_braces p pl.CloseBrace = refl
at_braces p pl.Esac = refl
at_braces p pl.Closer = refl
at_braces p pl.Assignment = refl
at_braces p pl.Numbered = refl
at_braces p pl.Text = refl

at_quoted_braces : (p : Place) (x : Plain) → found m.InQuotedBraces p (f.Plain x) ≡ in_braces (quoted_text Quoted_braces (folded p.text)) x
unfolding recognized recognizer
at_quoted_braces p pl.RightBrace = refl
at_quoted_braces p pl.CloseBrace = refl
at_quoted_braces p pl.Esac = refl
at_quoted_braces p pl.Closer = refl
at_quoted_braces p pl.Assignment = refl
at_quoted_braces p pl.Numbered = refl
at_quoted_braces p pl.Text = refl

among_word : (mode : Mode) (p : Place) (x z : Look) → found mode p (f.Plain (plain_of p.words (folded p.text))) ≡ among (closer (folded p.text)) x (redirection (folded p.text)) z (plain_of p.words (folded p.text)) → first_part mode p.words (folded p.text) ≡ (if is_assignment (folded p.text) then x else z) → found mode p (f.Plain (plain_of p.words (folded p.text))) ≡ word_among mode p.words (folded p.text)
among_word mode p x z h i = h ∙ agrees p.words x (redirection (folded p.text)) z (first_part mode p.words (folded p.text)) (folded p.text) i

same_if : (b : Bool) (x : Look) → x ≡ (if b then x else x)
same_if true x = refl
same_if false x = refl

-- in braces within double quotes: a byte other than `}`
braces_at : (p : Place) → rest (found m.InQuotedBraces p) (first p) (plain_of p.words (folded p.text)) ≡ at_quoted Quoted_braces (first p) p
unfolding recognized recognizer
braces_at p =
    let x = quoted_text Quoted_braces (folded p.text) in
    let G : ℕ → Type 0 = λ c. x ≡ (if c == 125 then token k.BraceClose 1 else x) in
    rest_is (begins_operator (first p)) (is_blank (first p)) (first p == 126) x x x (found m.InQuotedBraces p (f.Plain (plain_of p.words (folded p.text)))) (at_quoted Quoted_braces (first p) p)
    (at_each G refl refl refl refl refl refl refl refl (first p))
    (at_each_blank G refl refl (first p))
    (at_one G 126 refl (first p))
    (λ h. at_quoted_braces p (plain_of p.words (folded p.text)) ∙ braces_are p.words (folded p.text) x)

-- in an arithmetic expansion: a byte other than a parenthesis
arithmetic_at : (p : Place) → rest (found m.InArithmetic p) (first p) (plain_of p.words (folded p.text)) ≡ at_quoted Arithmetic (first p) p
unfolding recognized recognizer
arithmetic_at p =
    let x = quoted_text Arithmetic (folded p.text) in
    rest_is (begins_operator (first p)) (is_blank (first p)) (first p == 126) (found m.InArithmetic p (f.Break (break_of (first p)))) x x x (at_quoted Arithmetic (first p) p)
    (at_each (λ c. found m.InArithmetic p (f.Break (break_of c)) ≡ at_quoted Arithmetic c p) refl refl refl refl refl refl refl refl (first p))
    (at_each_blank (λ c. x ≡ at_quoted Arithmetic c p) refl refl (first p))
    (at_one (λ c. x ≡ at_quoted Arithmetic c p) 126 refl (first p))
    (λ h. neither (first p == 40) (first p == 41) _ _ x (apart 40 (first p) refl h) (apart 41 (first p) refl h))
  where
    neither : (a b : Bool) (y z x : Look) → a ≡ false → b ≡ false → x ≡ (if a then y else if b then z else x)
    neither true b y z x h i = cc
    neither false true y z x h i = cc
    neither false false y z x h i = refl

-- where all is one text
all_one : (o l t : Bool) (x : Look) → (if o then x else if l then x else if t then x else x) ≡ x
all_one true l t x = refl
all_one false true t x = refl
all_one false false true x = refl
all_one false false false x = refl

rests : (mode : Mode) (p : Place) → Rest mode p
unfolding recognized recognizer
rests m.CommandStart p = unquoted m.CommandStart p (operators m.CommandStart p refl refl refl refl refl refl refl refl) refl refl (among_word m.CommandStart p (assignment (folded p.text)) (command_word p.words (folded p.text)) (at_start p (plain_of p.words (folded p.text))) refl)
rests m.Prefix p = unquoted m.Prefix p (operators m.Prefix p refl refl refl refl refl refl refl refl) refl refl (among_word m.Prefix p (assignment (folded p.text)) (prefix_word (folded p.text)) (at_prefix p (plain_of p.words (folded p.text))) refl)
rests m.Argument p = unquoted m.Argument p (operators m.Argument p refl refl refl refl refl refl refl refl) refl refl (among_word m.Argument p (argument_word p.words (folded p.text)) (argument_word p.words (folded p.text)) (at_argument p (plain_of p.words (folded p.text))) (same_if (is_assignment (folded p.text)) (argument_word p.words (folded p.text))))
rests m.PatternStart p = unquoted m.PatternStart p (operators m.PatternStart p refl refl refl refl refl refl refl refl) refl refl (at_item p (plain_of p.words (folded p.text)) ∙ item_is p.words (folded p.text) (text_of k.PatternText (folded p.text)))
rests m.CaseIn p = unquoted m.CaseIn p (operators m.CaseIn p refl refl refl refl refl refl refl refl) refl refl refl
rests m.PatternRest p = unquoted m.PatternRest p (operators m.PatternRest p refl refl refl refl refl refl refl refl) refl refl refl
rests m.FunctionOpen p = unquoted m.FunctionOpen p (operators m.FunctionOpen p refl refl refl refl refl refl refl refl) refl refl refl
rests m.FunctionClose p = unquoted m.FunctionClose p (operators m.FunctionClose p refl refl refl refl refl refl refl refl) refl refl refl
rests m.ForName p = unquoted m.ForName p (operators m.ForName p refl refl refl refl refl refl refl refl) refl refl refl
rests m.Value p = unquoted m.Value p (operators m.Value p refl refl refl refl refl refl refl refl) refl refl refl
rests m.InWord p = unquoted m.InWord p (operators m.InWord p refl refl refl refl refl refl refl refl) refl refl refl
rests m.BraceStart p = unquoted m.BraceStart p (operators m.BraceStart p refl refl refl refl refl refl refl refl) refl refl (at_brace_start p (plain_of p.words (folded p.text)) ∙ braces_are p.words (folded p.text) (text_look is_brace_text k.BraceStartText (folded p.text)))
rests m.InBraces p = unquoted m.InBraces p (operators m.InBraces p refl refl refl refl refl refl refl refl) refl refl (at_braces p (plain_of p.words (folded p.text)) ∙ braces_are p.words (folded p.text) (text_look is_brace_text k.BraceText (folded p.text)))
rests m.InQuotes p = all_one (begins_operator (first p)) (is_blank (first p)) (first p == 126) (quoted_text Double_quotes (folded p.text))
rests m.BodyText p = all_one (begins_operator (first p)) (is_blank (first p)) (first p == 126) (quoted_text Document (folded p.text))
rests m.InQuotedBraces p = braces_at p
rests m.InArithmetic p = arithmetic_at p
rests m.Bodies p = tt
rests m.HereDelimiter p = tt

abbrev there : Mode → Place → Look
there mode p = found mode p (front_of p.words (folded p.text))

found_by_rules : (mode : Mode) (p : Place) → there mode p ≡ recognition mode p
unfolding recognized recognizer
found_by_rules m.Bodies p = refl
found_by_rules m.HereDelimiter p = refl
found_by_rules mode p = front_is (found mode p) p.words (folded p.text) ∙ ap (with_rest (found mode p) (folded p.text) (first p)) (rests mode p)

pub by_the_rules : (mode : Mode) (p : Place) → look mode p ≡ token_at mode p
unfolding look token_at
by_the_rules mode p = ap (measured p.text) (found_by_rules mode p)

-- so the token at a place is the one that the table finds
pub lex_looks : (mode : Mode) (p : Place) → lex mode p ≡ lexed p (look mode p)
unfolding lex
lex_looks mode p = ap (lexed p) (sym (by_the_rules mode p))
