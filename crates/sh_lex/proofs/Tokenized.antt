-- Tokens that the lexer tells: they have a byte, and are the slices of their spans.
use Rattle.std.proofs.Common.{◌≡◌, ◌≤◌, ℕ, ◌+◌, List, [], ◌∷◌, Bool, true, false, Some, None, refl, sym, ap, ◌∙◌, subst, ◌⊎◌, inl, inr, arith, drop, take, length}
use Rattle.std.proofs.lemmas.List.{drop-drop}
use Rattle.std.specs.Prelude.{◌==◌, if◌then◌else◌, Ok}
use Rattle.sh_rules.specs.declared.token_kind.TokenKind.{TokenKind}
use Rattle.sh_rules.specs.declared.token_kind.Mode.{Mode}
use Rattle.sh_rules.specs.declared.token_kind.Mode.TheVariants as m
use Rattle.sh_rules.specs.Kinds.{number}
use Rattle.sh_rules.proofs.Enumerated.{member, all_kinds, either}
use Rattle.sh_rules.proofs.Tables.{implies, implied, each, every}
use Rattle.sh_token.specs.declared.front.Front.{Front}
use Rattle.sh_token.specs.declared.front.Front.TheVariants as f
use Rattle.sh_token.specs.declared.place.Words.{Words}
use Rattle.sh_token.specs.Bytes.{not_so, is_end, is_quoting}
use Rattle.sh_token.specs.Blanks.{blanks}
use Rattle.sh_token.specs.Folded.{folded}
use Rattle.sh_token.specs.Fronts.{front_of}
use Rattle.sh_token.specs.Recognizers.{recognizer}
use Rattle.sh_token.specs.Expansions.{or_else}
use Rattle.sh_token.specs.Tokens.{Look}
use Rattle.sh_token.specs.Lexemes.{look}
use Rattle.sh_token.specs.Places.{Place, begin_at, is_none}
use Rattle.sh_lex.specs.declared.lexer.Token.{Token}
use Rattle.sh_lex.specs.Tokenizing.{Tokens, here, is_over, front, Tells}
use Rattle.sh_token.proofs.Found.{may_have_none, kinds_by}
use Rattle.sh_token.proofs.Modes.{found, front_at_place, unmeasured, kind_of, all_of, all_at, either_cases, fronts, front_number, front_at}
use Rattle.sh_token.proofs.Sizes.{has_byte}

-- where something is left
abbrev is_at_end : Front → Bool
is_at_end f.End = true
is_at_end other = false

one_of : (b : Bool) (x y : Front) → is_at_end x ≡ false → is_at_end y ≡ false → is_at_end (if b then x else y) ≡ false
one_of true x y h i = h
one_of false x y h i = i

not_at_end : (words : Words) (xs : List ℕ) → is_none xs ≡ false → is_at_end (front_of words xs) ≡ false
unfolding front_of
not_at_end words [] h = cc
not_at_end words (c ∷ cs) h =
    one_of (c == 0) _ _ refl (one_of (is_end c) _ _ refl (one_of (is_quoting c) _ _ refl (one_of (c == 126) _ _ refl refl)))

-- what is found there among commands and arguments has a byte
abbrev has_bytes : Mode → Front → Bool
has_bytes m x = either (is_at_end x) (each (λ j. implies (member (number j) (kinds_by (recognizer m x))) (not_so (may_have_none j))) all_kinds)

commands_have : all_of (has_bytes m.CommandStart) fronts ≡ true
unfolding recognizer
commands_have = refl

arguments_have : all_of (has_bytes m.Argument) fronts ≡ true
unfolding recognizer
arguments_have = refl

not_true : (b : Bool) → not_so b ≡ true → b ≡ false
not_true true h = cc
not_true false h = refl

byte_of : (m : Mode) → all_of (has_bytes m) fronts ≡ true → (p : Place) (j : TokenKind) (n : ℕ) → is_none (folded p.text) ≡ false → look m p ≡ Some (j, n) → 1 ≤ n
unfolding look
byte_of m h p j n some e = has_byte m p j n e (by (either_cases (is_at_end x) rest (all_at (has_bytes m) fronts (front_number x) x h (front_at x))))
  where
    x : Front
    x = front_at_place p

    rest : Bool
    rest = each (λ j. implies (member (number j) (kinds_by (recognizer m x))) (not_so (may_have_none j))) all_kinds

    by : (is_at_end x ≡ true) ⊎ (rest ≡ true) → may_have_none j ≡ false
    by (inl a) = let b : is_at_end x ≡ false = not_at_end p.words (folded p.text) some in cc
    by (inr a) =
        let u = unmeasured p.text (found (recognizer m x) p) j n e in
        not_true (may_have_none j)
        (implied (member (number j) (kinds_by (recognizer m x))) (not_so (may_have_none j))
        (every (λ j. implies (member (number j) (kinds_by (recognizer m x))) (not_so (may_have_none j))) a j) (kind_of (recognizer m x) p j u.0 u.1))

one_or : (x y : Look) (j : TokenKind) (n : ℕ) → or_else x y ≡ Some (j, n) → (x ≡ Some (j, n)) ⊎ (y ≡ Some (j, n))
one_or None y j n e = inr e
one_or (Some x) y j n e = inl e

pub front_has_byte : (p : Place) (j : TokenKind) (n : ℕ) → is_none (folded p.text) ≡ false → front p ≡ Some (j, n) → 1 ≤ n
front_has_byte p j n h e = by (one_or (look m.CommandStart p) (look m.Argument p) j n e)
  where
    by : (look m.CommandStart p ≡ Some (j, n)) ⊎ (look m.Argument p ≡ Some (j, n)) → 1 ≤ n
    by (inl a) = byte_of m.CommandStart commands_have p j n h a
    by (inr a) = byte_of m.Argument arguments_have p j n h a

-- what is left at a place is what is left of the whole text there
pub left_at : (at : ℕ) (text : List ℕ) → (begin_at at text).text ≡ drop (begin_at at text).at text
left_at at text = drop-drop (blanks false (drop at text)) at text

-- What is found in front is the next token: it is told, and the lexer stands behind it.
pub token_told : (l : Tokens) (p : Place) (j : TokenKind) (n : ℕ) (token : Token) → p ≡ here l → is_none (folded p.text) ≡ false → Some (j, n) ≡ front p → n ≤ length p.text → p.at + length p.text ≡ length l.text → token.kind ≡ j → token.at ≡ p.at → token.text.now ≡ take n p.text → Tells l (record l { at = token.at + n }) (Ok (Some token))
unfolding Tells
token_told l p j n token is some e fits whole kind at text =
    let some' : is_over l ≡ false = subst (λ p. is_none (folded p.text) ≡ false) is some in
    let e' : front (here l) ≡ Some (j, n) = subst (λ p. front p ≡ Some (j, n)) is (sym e) in
    let at' : token.at ≡ (here l).at = at ∙ ap (λ p. p.at) is in
    let text' : token.text.now ≡ take n (here l).text = text ∙ ap (λ p. take n p.text) is in
    let order : l.at ≤ (here l).at = omega arith in (
      some',
      (
        n,
        record {
          found = e' ∙ ap (λ k. Some (k, n)) (sym kind);
          begins = at';
          in_order = subst (λ i. l.at ≤ i) (sym at') order;
          slice = text' ∙ ap (take n) (left_at l.at l.text ∙ ap (λ i. drop i l.text) (sym at'));
          has_bytes = front_has_byte (here l) j n some' e';
          within = omega (arith, at, fits, whole);
          behind = refl;
        },
      ),
    )
