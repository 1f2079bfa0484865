-- What a token does to the here-documents that are awaited, and to what stands around a body.
use Rattle.std.proofs.Common.{◌≡◌, ℕ, suc, List, [], ◌∷◌, ◌++◌, Option, Some, None, Bool, true, false, refl, sym, ap, ◌∙◌, subst, length, take, drop}
use Rattle.sh_rules.specs.Reading.{Stands}
use Rattle.sh_rules.specs.declared.token_kind.TokenKind.{TokenKind}
use Rattle.sh_rules.specs.declared.token_kind.TokenKind.TheVariants as k
use Rattle.sh_rules.specs.declared.token_kind.Mode.TheVariants as m
use Rattle.sh_rules.specs.Rules.{Token, shell}
use Rattle.sh_rules.specs.Kinds.{number}
use Rattle.sh_rules.specs.Modes.{mode_of}
use Rattle.sh_rules.proofs.Enumerated.{member}
use Rattle.sh_token.specs.declared.place.Words.TheVariants.{Ordinary}
use Rattle.sh_token.specs.declared.delimiter.Within.TheVariants as w
use Rattle.sh_token.specs.declared.recognizer.Recognizer.{Recognizer}
use Rattle.sh_token.specs.declared.recognizer.Recognizer.TheVariants as r
use Rattle.sh_token.specs.Bytes.{◌or◌, ◌also◌}
use Rattle.sh_token.specs.Tokens.{token}
use Rattle.sh_token.specs.HereDocuments.{Awaited, delimiter_of, is_quoted}
use Rattle.sh_token.specs.Recognizers.{recognizer}
use Rattle.sh_token.specs.Lexemes.{recognized, token_if, bodies_look, is_raw, extent, look}
use Rattle.sh_token.specs.Effects.{effect_of}
use Rattle.sh_token.specs.Places.{Place, OuterText, is_none, is_closed, is_whole, last_paren, moved}
use Rattle.sh_token.specs.Steps.{after, popped, last_around, paren_closed, delimited, body_passed, body_taken, past_tabs_if, aside, put_aside, body_opened, body_closed, next}
use Rattle.sh_token.proofs.ByRules.{lex_looks}
use Rattle.sh_token.proofs.Found.{kinds_by}
use Rattle.sh_token.proofs.Modes.{found, front_at_place, kind_of, unmeasured, unlexed, kind_or, place_or}
use Rattle.sh_script.specs.TextReader.{text_reader}

abbrev pub awaits : Place → ℕ
awaits p = length p.awaited

-- Of the kinds of tokens a delimiter makes one more awaited, a body one less; a body that is expanded is put around what stands
-- in it, where none is awaited at first, and none at its end.
abbrev pub Level : TokenKind → Place → Place → Type 0
Level k.Delimiter a b = (awaits b ≡ suc (awaits a)) × (b.around ≡ a.around)
Level k.LiteralBody a b = (awaits a ≡ suc (awaits b)) × (b.around ≡ a.around)
Level k.BodyOpen a b = (x : OuterText) × (awaits a ≡ suc (length x.awaited)) × (b.around ≡ a.around ++ x ∷ []) × (b.awaited ≡ [])
Level k.BodyClose a b = (a.awaited ≡ []) × ((rest : List OuterText) (x : OuterText) → a.around ≡ rest ++ x ∷ [] → (b.around ≡ rest) × (b.awaited ≡ x.awaited))
Level k.End a b = (b.awaited ≡ a.awaited) × (b.around ≡ a.around) × (a.awaited ≡ [])
Level kind a b = (b.awaited ≡ a.awaited) × (b.around ≡ a.around)

one_more : (xs : List Awaited) (x : Awaited) → length (xs ++ x ∷ []) ≡ suc (length xs)
one_more [] x = refl
one_more (y ∷ ys) x = ap suc (one_more ys x)

one_less : (xs ds : List Awaited) (d : Awaited) → xs ≡ d ∷ ds → length xs ≡ suc (length (drop 1 xs))
one_less xs ds d e = ap length e ∙ sym (ap (λ (ys : List Awaited). suc (length (drop 1 ys))) e)

delimited_more : (word : List ℕ) (p : Place) → length (delimited word p).awaited ≡ suc (length p.awaited)
delimited_more word p = one_more p.awaited (record { at = p.operator; levels = p.levels; delimiter = delimiter_of w.Bare word; quoted = is_quoted word; tabs = p.dashed or p.tabs })

paren_level : (b : Bool) (p : Place) → ((paren_closed b p).awaited ≡ p.awaited) × ((paren_closed b p).around ≡ p.around)
paren_level true p = (refl, refl)
paren_level false p = (refl, refl)

tabs_level : (b : Bool) (p : Place) → ((past_tabs_if b p).awaited ≡ p.awaited) × ((past_tabs_if b p).around ≡ p.around)
tabs_level true p = (refl, refl)
tabs_level false p = (refl, refl)

-- bodies
at_bodies : (p : Place) (j : TokenKind) (n : ℕ) → look m.Bodies p ≡ Some (j, n) → (i : ℕ) × (bodies_look p.awaited p.text ≡ Some (j, i)) × (n ≡ extent (is_raw j) i p.text)
unfolding look recognizer recognized
at_bodies p j n e = unmeasured p.text (bodies_look p.awaited p.text) j n e

not_literal : (i : ℕ) → token k.NoBody 0 ≡ Some (k.LiteralBody, i) → ⊥
not_literal i e = let s : k.NoBody ≡ k.LiteralBody = ap (kind_or k.NoBody) e in cc

not_opened : (i : ℕ) → token k.NoBody 0 ≡ Some (k.BodyOpen, i) → ⊥
not_opened i e = let s : k.NoBody ≡ k.BodyOpen = ap (kind_or k.NoBody) e in cc

literal : (awaited : List Awaited) (i n : ℕ) (p : Place) → p.awaited ≡ awaited → bodies_look awaited p.text ≡ Some (k.LiteralBody, i) → (awaits p ≡ suc (awaits (body_taken (next awaited) n p))) × ((body_taken (next awaited) n p).around ≡ p.around)
literal [] i n p a e = absurd (not_literal i e)
literal (d ∷ ds) i n p a e = (one_less p.awaited ds d a, refl)

opened : (awaited : List Awaited) (i n : ℕ) (p : Place) → p.awaited ≡ awaited → bodies_look awaited p.text ≡ Some (k.BodyOpen, i) → (x : OuterText) × (awaits p ≡ suc (length x.awaited)) × ((body_opened (next awaited) n p).around ≡ p.around ++ x ∷ []) × ((body_opened (next awaited) n p).awaited ≡ [])
opened [] i n p a e = absurd (not_opened i e)
opened (d ∷ ds) i n p a e =
    let q = body_passed d.quoted n p in
    let t = tabs_level d.tabs (record (put_aside q) { text = take n p.text; at = p.at; words = Ordinary; levels = d.levels; in_bodies = false; tabs = d.tabs }) in
    (aside q, one_less p.awaited ds d a, t.1, t.0)

-- the end of a body, and of the text
last_there : (xs : List OuterText) (x : OuterText) → last_around (xs ++ x ∷ []) ≡ Some x
last_there [] x = refl
last_there (y ∷ []) x = refl
last_there (y ∷ (z ∷ zs)) x = last_there (z ∷ zs) x

popped_there : (xs : List OuterText) (x : OuterText) → popped (xs ++ x ∷ []) ≡ xs
popped_there [] x = refl
popped_there (y ∷ []) x = refl
popped_there (y ∷ (z ∷ zs)) x = ap (λ l. y ∷ l) (popped_there (z ∷ zs) x)

gone : (o : Option OuterText) (p : Place) (rest : List OuterText) (x : OuterText) → o ≡ Some x → popped p.around ≡ rest → ((body_closed o (record p { around = popped p.around })).around ≡ rest) × ((body_closed o (record p { around = popped p.around })).awaited ≡ x.awaited)
gone None p rest x e h = cc
gone (Some a) p rest x e h = let s : a ≡ x = cc in (h, ap (λ (y : OuterText). y.awaited) s)

tested : (b : Bool) (j : TokenKind) (i : ℕ) → token_if b j 0 ≡ Some (j, i) → b ≡ true
tested true j i e = refl
tested false j i e = cc

other : (x : Recognizer) (p : Place) (j : TokenKind) (b : Bool) (i : ℕ) → member (number j) (kinds_by x) ≡ false → found x p ≡ Some (j, i) → b ≡ true
other x p j b i h e = let t : true ≡ false = sym (kind_of x p j i e) ∙ h in cc

closed_at : (x : Recognizer) (p : Place) (i : ℕ) → found x p ≡ Some (k.BodyClose, i) → is_closed p ≡ true
unfolding recognized
closed_at r.BodyClose p i e = tested (is_closed p) k.BodyClose i e
closed_at x p i e = other x p k.BodyClose (is_closed p) i refl e

whole_at : (x : Recognizer) (p : Place) (i : ℕ) → found x p ≡ Some (k.End, i) → is_whole p ≡ true
unfolding recognized
whole_at r.AtEnd p i e = tested (is_whole p) k.End i e
whole_at x p i e = other x p k.End (is_whole p) i refl e

both : (a b : Bool) → (a also b) ≡ true → (a ≡ true) × (b ≡ true)
both true b e = (refl, e)
both false b e = cc

none : (xs : List Awaited) → is_none xs ≡ true → xs ≡ []
none [] e = refl
none (x ∷ xs) e = cc

none_awaited : (p : Place) → is_closed p ≡ true → p.awaited ≡ []
none_awaited p h = none p.awaited (both (is_none p.opened) (is_none p.awaited) h).1

closes : (n : ℕ) (p : Place) → look (mode_of k.BodyClose) p ≡ Some (k.BodyClose, n) → p.awaited ≡ []
unfolding look
closes n p e =
    let x = recognizer m.BodyText (front_at_place p) in
    let u = unmeasured p.text (found x p) k.BodyClose n e in
    none_awaited p (closed_at x p u.0 u.1)

ends : (n : ℕ) (p : Place) → look (mode_of k.End) p ≡ Some (k.End, n) → p.awaited ≡ []
unfolding look
ends n p e =
    let x = recognizer m.CommandStart (front_at_place p) in
    let u = unmeasured p.text (found x p) k.End n e in
    none_awaited p (both (is_closed p) (is_none p.around) (whole_at x p u.0 u.1)).0

level_kind : (j : TokenKind) (n : ℕ) (p : Place) → look (mode_of j) p ≡ Some (j, n) → Level j p (after (effect_of j) n p)
unfolding after
level_kind k.Delimiter n p e = (delimited_more (take n p.text) (moved n p), refl)
level_kind k.LiteralBody n p e = let u = at_bodies p k.LiteralBody n e in literal p.awaited u.0 n p refl u.1
level_kind k.BodyOpen n p e = let u = at_bodies p k.BodyOpen n e in opened p.awaited u.0 n p refl u.1
level_kind k.BodyClose n p e =
    (closes n p e, λ rest x h. gone (last_around p.around) p rest x (ap last_around h ∙ last_there rest x) (ap (λ (xs : List OuterText). popped xs) h ∙ popped_there rest x))
level_kind k.End n p e = (refl, refl, ends n p e)
level_kind k.RightParen n p e = paren_level (last_paren p.parens) (moved n (record p { parens = popped p.parens }))
level_kind j n p e = (refl, refl)

-- A TOKEN that stands there
pub level_there : (t : Token) (a b : Place) → Stands shell text_reader t a b → Level t.kind a b
level_there t a b e =
    let u = unlexed a b (look (mode_of t.kind) a) t (sym (lex_looks (mode_of t.kind) a) ∙ e) in
    subst (λ q. Level t.kind a q) (ap (place_or b) u.2) (level_kind t.kind u.0 a u.1)
