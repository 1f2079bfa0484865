-- Each text has one list of tokens.
use Rattle.std.proofs.Common.{◌≡◌, ℕ, zero, suc, ◌+◌, ◌≤◌, ◌<◌, List, [], ◌∷◌, drop, length, refl, sym, ap, ◌∙◌, arith, subst, inl, inr, length-drop}
use Rattle.std.specs.Prelude.{Bool, true, false, ◌==◌, None, if◌then◌else◌}
use Rattle.std.proofs.lemmas.Bool.Decides.{eqb_tells}
use Rattle.std.proofs.lemmas.List.Sums.{prefix_len-le-length}
use Rattle.rk_base.specs.Text.{Text}
use Rattle.rk_base.specs.Variables.{is_more}
use Rattle.sh_arith.specs.declared.operator.Operator.{Operator}
use Rattle.sh_arith.specs.declared.operator.Operator.TheVariants as operator
use Rattle.sh_arith.specs.declared.token.Token.{Token}
use Rattle.sh_arith.specs.declared.token.Token.TheVariants as token
use Rattle.sh_arith.specs.Tokens.{Lexeme, Placed, word_length, front, or_assign, angle, punctuator, lexeme, is_space, is_last, next_token, next_place, next_end, spaces, AreBehind, AreTokens}

-- how many bytes stand here, of which the next two are given, 0 where there is none
abbrev room : ℕ → ℕ → ℕ
room b c = if b == 0 then 1 else (if c == 0 then 2 else 3)

abbrev IsWithin : ℕ → Lexeme → Type 0
IsWithin most x = (1 ≤ x.1) × (x.1 ≤ most)

room_one : (b c : ℕ) → 1 ≤ room b c
room_one b c = by (b == 0) (c == 0)
  where
    by : (s t : Bool) → 1 ≤ (if s then 1 else (if t then 2 else 3))
    by true t = omega arith
    by false true = omega arith
    by false false = omega arith

isn't_zero : (b k : ℕ) → (b == suc k) ≡ true → (b == 0) ≡ false
isn't_zero b k e =
    elim (eqb_tells b 0) [
      | inl z ↦ elim (eqb_tells b (suc k)) [
        | inl t ↦ absurd (omega (arith, z.1, t.1))
        | inr t ↦ let f : true ≡ false = sym e ∙ t.0 in absurd (cc)
      ]
      | inr z ↦ z.0
    ]

room_two : (b c k : ℕ) → (b == suc k) ≡ true → 2 ≤ room b c
room_two b c k e = rw (isn't_zero b k e) (by (c == 0))
  where
    by : (t : Bool) → 2 ≤ (if t then 2 else 3)
    by true = omega arith
    by false = omega arith

room_three : (b c k m : ℕ) → (b == suc k) ≡ true → (c == suc m) ≡ true → 3 ≤ room b c
room_three b c k m e f = rw (isn't_zero b k e, isn't_zero c m f) (omega arith)

choice_within : (most : ℕ) (b : Bool) (x y : Lexeme) → (b ≡ true → IsWithin most x) → IsWithin most y → IsWithin most (if b then x else y)
choice_within most true x y p q = p refl
choice_within most false x y p q = q

one : (t : Token) (b c : ℕ) → IsWithin (room b c) (t, 1)
one t b c = (omega arith, room_one b c)

assign_within : (o : Operator) (b c : ℕ) → IsWithin (room b c) (or_assign o b)
assign_within o b c = choice_within (room b c) (b == 61) _ _ (λ e. (omega arith, room_two b c 60 e)) (one (token.Operator o) b c)

angle_within : (k b c : ℕ) (s e a : Operator) → IsWithin (room b c) (angle (suc k) b c s e a)
angle_within k b c s e a =
    choice_within (room b c) (b == suc k) _ _
    (λ p. choice_within (room b c) (c == 61) _ _ (λ q. (omega arith, room_three b c k 60 p q)) (omega arith, room_two b c k p))
    (choice_within (room b c) (b == 61) _ _ (λ p. (omega arith, room_two b c 60 p)) (one (token.Operator a) b c))

double_within : (t : Token) (o : Operator) (k b c : ℕ) → IsWithin (room b c) (if b == suc k then (t, 2) else or_assign o b)
double_within t o k b c = choice_within (room b c) (b == suc k) _ _ (λ p. (omega arith, room_two b c k p)) (assign_within o b c)

equal_within : (t u : Token) (b c : ℕ) → IsWithin (room b c) (if b == 61 then (t, 2) else (u, 1))
equal_within t u b c = choice_within (room b c) (b == 61) _ _ (λ p. (omega arith, room_two b c 60 p)) (one u b c)

punctuator_within : (a b c : ℕ) → IsWithin (room b c) (punctuator a b c)
punctuator_within a b c =
    or (a == 40) _ _ (one token.Open b c) (or (a == 41) _ _ (one token.Close b c) (or (a == 63) _ _ (one token.Question b c) (or (a == 58) _ _ (one token.Colon b c)
    (or (a == 126) _ _ (one token.Complement b c) (or (a == 33) _ _ (equal_within (token.Operator operator.Differs) token.Not b c) (or (a == 61) _ _ (equal_within (token.Operator operator.Equal) (token.Assign None) b c)
    (or (a == 60) _ _ (angle_within 59 b c operator.ShiftLeft operator.AtMost operator.Less) (or (a == 62) _ _ (angle_within 61 b c operator.ShiftRight operator.AtLeast operator.Greater)
    (or (a == 38) _ _ (double_within token.Both operator.And 37 b c) (or (a == 124) _ _ (double_within token.Either operator.Or 123 b c)
    (or (a == 94) _ _ (assign_within operator.ExclusiveOr b c) (or (a == 42) _ _ (assign_within operator.Times b c) (or (a == 47) _ _ (assign_within operator.Over b c)
    (or (a == 37) _ _ (assign_within operator.Remainder b c) (or (a == 43) _ _ (assign_within operator.Plus b c) (or (a == 45) _ _ (assign_within operator.Minus b c) (one token.Odd b c)))))))))))))))))
  where
    or : (t : Bool) (x y : Lexeme) → IsWithin (room b c) x → IsWithin (room b c) y → IsWithin (room b c) (if t then x else y)
    or t x y p q = choice_within (room b c) t x y (λ e. p) q

has_room : (bs : Text) → room (front bs) (front (drop 1 bs)) ≤ suc (length bs)
has_room [] = omega arith
has_room (b ∷ []) = by (b == 0)
  where
    by : (s : Bool) → (if s then 1 else 2) ≤ 2
    by true = omega arith
    by false = omega arith
has_room (b ∷ c ∷ bs) = by (b == 0) (c == 0)
  where
    by : (s t : Bool) → (if s then 1 else (if t then 2 else 3)) ≤ suc (length (b ∷ c ∷ bs))
    by true t = omega arith
    by false true = omega arith
    by false false = omega arith

some_word : (b : ℕ) (bs : Text) → is_more b ≡ true → 1 ≤ word_length (b ∷ bs)
some_word b bs e = rw e (omega arith)

first_within : (b : ℕ) (bs : Text) → IsWithin (length (b ∷ bs)) (lexeme (b ∷ bs))
first_within b bs =
    choice_within (length (b ∷ bs)) (is_more b) _ _ (λ p. (some_word b bs p, prefix_len-le-length is_more (b ∷ bs))) (wider (punctuator b (front bs) (front (drop 1 bs))) (punctuator_within b (front bs) (front (drop 1 bs))))
  where
    wider : (x : Lexeme) → IsWithin (room (front bs) (front (drop 1 bs))) x → IsWithin (length (b ∷ bs)) x
    wider x h = (h.0, omega (arith, h.1, has_room bs))

lexeme_within : (text : Text) → is_last (lexeme text).0 ≡ false → IsWithin (length text) (lexeme text)
lexeme_within [] e = absurd (cc)
lexeme_within (b ∷ bs) e = first_within b bs

pub lexeme_most : (text : Text) → (lexeme text).1 ≤ length text
lexeme_most [] = omega arith
lexeme_most (b ∷ bs) = (first_within b bs).1

pub spaces_within : (text : Text) → spaces text ≤ length text
spaces_within text = prefix_len-le-length is_space text

-- a token that isn't the last has a byte or more
pub next_within : (text : Text) → is_last (next_token text) ≡ false → (1 ≤ next_end text) × (next_end text ≤ length text)
next_within text e =
    let h : IsWithin (length (drop (spaces text) text)) (lexeme (drop (spaces text) text)) = lexeme_within (drop (spaces text) text) e in
    (omega (arith, h.0), omega (arith, h.1, length-drop (spaces text) text, spaces_within text))

-- no text has two lists

abbrev pub placed : Token → ℕ → Placed
placed t at = record { token = t; at = at }

same_placed : (t u : Token) (i j : ℕ) → t ≡ u → i ≡ j → placed t i ≡ placed u j
same_placed t u i j e f = rw (e, f) refl

pub tokens_once : (at : ℕ) (text : Text) (ts us : List Placed) → AreTokens at text ts → AreTokens at text us → ts ≡ us
tokens_once at text [] us h k = absurd h
tokens_once at text (t ∷ ts) [] h k = absurd k
tokens_once at text (t ∷ ts) (u ∷ us) h k = by (is_last (next_token text)) refl (tokens_once (at + next_end text) (drop (next_end text) text) ts us)
  where
    same : t ≡ u
    same = same_placed t.token u.token t.at u.at (h.0 ∙ sym k.0) (h.1 ∙ sym k.1)

    by : (b : Bool) → is_last (next_token text) ≡ b → (AreTokens (at + next_end text) (drop (next_end text) text) ts → AreTokens (at + next_end text) (drop (next_end text) text) us → ts ≡ us) → t ∷ ts ≡ u ∷ us
    by true q ih =
        let hs : ts ≡ [] = subst (λ b. AreBehind b ts (AreTokens (at + next_end text) (drop (next_end text) text) ts)) (ap is_last h.0 ∙ q) h.2 in
        let ks : us ≡ [] = subst (λ b. AreBehind b us (AreTokens (at + next_end text) (drop (next_end text) text) us)) (ap is_last k.0 ∙ q) k.2 in
        cc same
    by false q ih =
        let hs : AreTokens (at + next_end text) (drop (next_end text) text) ts = subst (λ b. AreBehind b ts (AreTokens (at + next_end text) (drop (next_end text) text) ts)) (ap is_last h.0 ∙ q) h.2 in
        let ks : AreTokens (at + next_end text) (drop (next_end text) text) us = subst (λ b. AreBehind b us (AreTokens (at + next_end text) (drop (next_end text) text) us)) (ap is_last k.0 ∙ q) k.2 in
        let rest : ts ≡ us = ih hs ks in
        cc same

-- and each has one

abbrev pub Tokens : ℕ → Text → Type 0
Tokens at text = (ts : List Placed) × AreTokens at text ts

-- the next token, and those behind it
pub then_tokens : (at : ℕ) (text : Text) (ts : List Placed) → is_last (next_token text) ≡ false → AreTokens (at + next_end text) (drop (next_end text) text) ts → AreTokens at text (placed (next_token text) (next_place at text) ∷ ts)
then_tokens at text ts q h = (refl, refl, subst (λ b. AreBehind b ts (AreTokens (at + next_end text) (drop (next_end text) text) ts)) (sym q) h)

pub last_token : (at : ℕ) (text : Text) → is_last (next_token text) ≡ true → AreTokens at text (placed (next_token text) (next_place at text) ∷ [])
last_token at text q = (refl, refl, subst (λ b. AreBehind b [] (AreTokens (at + next_end text) (drop (next_end text) text) [])) (sym q) refl)

has_tokens : (most at : ℕ) (text : Text) → length text < most → Tokens at text
has_tokens zero at text le = absurd (omega arith)
has_tokens (suc n) at text le = by (is_last (next_token text)) refl (has_tokens n (at + next_end text) (drop (next_end text) text))
  where
    by : (b : Bool) → is_last (next_token text) ≡ b → (length (drop (next_end text) text) < n → Tokens (at + next_end text) (drop (next_end text) text)) → Tokens at text
    by true q ih = (placed (next_token text) (next_place at text) ∷ [], last_token at text q)
    by false q ih =
        let w : (1 ≤ next_end text) × (next_end text ≤ length text) = next_within text q in
        let more : Tokens (at + next_end text) (drop (next_end text) text) = ih (omega (arith, w.0, w.1, length-drop (next_end text) text)) in
        (placed (next_token text) (next_place at text) ∷ more.0, then_tokens at text more.0 q more.1)

-- the next token, and some behind it
pub next_tokens : (at : ℕ) (text : Text) → (ts : List Placed) × AreTokens at text (placed (next_token text) (next_place at text) ∷ ts)
next_tokens at text = by (is_last (next_token text)) refl
  where
    by : (b : Bool) → is_last (next_token text) ≡ b → (ts : List Placed) × AreTokens at text (placed (next_token text) (next_place at text) ∷ ts)
    by true q = ([], last_token at text q)
    by false q =
        let more : Tokens (at + next_end text) (drop (next_end text) text) = has_tokens (suc (length (drop (next_end text) text))) (at + next_end text) (drop (next_end text) text) (omega arith) in
        (more.0, then_tokens at text more.0 q more.1)
