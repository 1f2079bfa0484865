-- What is read is an expression, and none continues with a token that is refused.
use Rattle.std.proofs.Common.{◌≡◌, ℕ, zero, suc, ◌≤◌, ◌<◌, List, [], ◌∷◌, ◌++◌, refl, sym, ap, ◌∙◌, arith}
use Rattle.std.specs.Prelude.{Bool, true, false, Option, Some, None}
use Rattle.std.proofs.lemmas.List.{append_assoc}
use Rattle.std.proofs.lemmas.Bool.{leb-true, leb-false}
use Rattle.rk_base.specs.Text.{Text}
use Rattle.sh_arith.specs.declared.operator.Operator.{Operator}
use Rattle.sh_arith.specs.declared.operator.Operator.TheVariants as operator
use Rattle.sh_arith.specs.declared.token.Token.{Token}
use Rattle.sh_arith.specs.declared.token.Token.TheVariants as token
use Rattle.sh_arith.specs.Expression.{Expression, Constant, Name, Group, Signed, Applied, Both, Either, Choice, Assignment}
use Rattle.sh_arith.specs.Grammar.{operator_level, level, IsProper, sign_token, times, spelled, Spells, Continues}
use Rattle.sh_arith.specs.Reading.{ends_with}
use Rattle.sh_arith.specs.Steps.{steps}
use Rattle.sh_arith.proofs.Trees.{Wait, InParentheses, WithSign, WithLeft, WithBoth, WithEither, WithQuestion, WithColon, WithName, Place, Wanted, Stands, Bare, made, is_ended, folded, kept, groups, tree_of, Read, begin, colon, close, finish, assign, shut, go, turned, tree_read, openings, standing}
use Rattle.sh_arith.proofs.Complete.{wanted, wants, operator_least, operator_most, is_read}
use Rattle.sh_arith.proofs.Simulates.{IsOperand}

-- the tokens so far, before others

abbrev pub spell : Wait → List Token → List Token
spell InParentheses after = token.Open ∷ after
spell (WithSign s) after = sign_token s ∷ after
spell (WithLeft o a) after = spelled a (token.Operator o ∷ after)
spell (WithBoth a) after = spelled a (token.Both ∷ after)
spell (WithEither a) after = spelled a (token.Either ∷ after)
spell (WithQuestion c) after = spelled c (token.Question ∷ after)
spell (WithColon c a) after = spelled c (token.Question ∷ spelled a (token.Colon ∷ after))
spell (WithName n x o) after = times n token.Open (token.Name x ∷ times n token.Close (token.Assign o ∷ after))

abbrev pub spells : List Wait → List Token → List Token
spells [] after = after
spells (w ∷ ws) after = spells ws (spell w after)

abbrev pub spell_place : Place → List Token → List Token
spell_place Wanted after = after
spell_place (Stands a) after = spelled a after
spell_place (Bare n x) after = times n token.Open (token.Name x ∷ times n token.Close after)

abbrev pub tokens_before : List Wait → Place → List Token → List Token
tokens_before ws p after = spells ws (spell_place p after)

made_spelled : (l : ℕ) (w : Wait) (a : Expression) (after : List Token) → is_ended l w ≡ true → spell w (spelled a after) ≡ spelled (made w a) after
unfolding spelled
made_spelled l InParentheses a after e = absurd (cc)
made_spelled l (WithSign s) a after e = refl
made_spelled l (WithLeft o b) a after e = refl
made_spelled l (WithBoth b) a after e = refl
made_spelled l (WithEither b) a after e = refl
made_spelled l (WithQuestion c) a after e = absurd (cc)
made_spelled l (WithColon c b) a after e = refl
made_spelled l (WithName n x o) a after e = refl

folded_spelled : (l : ℕ) (ws : List Wait) (a : Expression) (after : List Token) → spells ws (spelled a after) ≡ spells (kept l ws) (spelled (folded l a ws) after)
folded_spelled l [] a after = refl
folded_spelled l (w ∷ ws) a after = by (is_ended l w) refl (folded_spelled l ws (made w a) after)
  where
    by : (b : Bool) → is_ended l w ≡ b → spells ws (spelled (made w a) after) ≡ spells (kept l ws) (spelled (folded l (made w a) ws) after) → spells (w ∷ ws) (spelled a after) ≡ spells (kept l (w ∷ ws)) (spelled (folded l a (w ∷ ws)) after)
    by true q ih = rw q (ap (spells ws) (made_spelled l w a after q) ∙ ih)
    by false q ih = rw q refl

times_more : (n : ℕ) (t : Token) (after : List Token) → times n t (t ∷ after) ≡ t ∷ times n t after
times_more zero t after = refl
times_more (suc n) t after = ap (λ l. t ∷ l) (times_more n t after)

groups_spelled : (n : ℕ) (x : Text) (after : List Token) → times n token.Open (token.Name x ∷ times n token.Close after) ≡ spelled (groups n (Name x)) after
unfolding spelled
groups_spelled zero x after = refl
groups_spelled (suc n) x after =
    ap (λ l. token.Open ∷ times n token.Open (token.Name x ∷ l)) (sym (times_more n token.Close after)) ∙ ap (λ l. token.Open ∷ l) (groups_spelled n x (token.Close ∷ after))

place_spelled : (p : Place) (after : List Token) → IsOperand p → spell_place p after ≡ spelled (tree_of p) after
place_spelled Wanted after h = absurd h
place_spelled (Stands a) after h = refl
place_spelled (Bare n x) after h = groups_spelled n x after

all_spelled : (l : ℕ) (p : Place) (ws : List Wait) (after : List Token) → IsOperand p → tokens_before ws p after ≡ spells (kept l ws) (spelled (folded l (tree_of p) ws) after)
all_spelled l p ws after h = ap (spells ws) (place_spelled p after h) ∙ folded_spelled l ws (tree_of p) after

-- neighbouring levels fit

abbrev pub makes : Wait → ℕ
makes InParentheses = 13
makes (WithSign s) = 12
makes (WithLeft o a) = operator_level o
makes (WithBoth a) = 3
makes (WithEither a) = 2
makes (WithQuestion c) = 1
makes (WithColon c a) = 1
makes (WithName n x o) = 0

abbrev pub IsGood : Wait → Type 0
IsGood InParentheses = Unit {0}
IsGood (WithSign s) = Unit {0}
IsGood (WithLeft o a) = (operator_level o ≤ level a) × IsProper a
IsGood (WithBoth a) = (3 ≤ level a) × IsProper a
IsGood (WithEither a) = (2 ≤ level a) × IsProper a
IsGood (WithQuestion c) = (2 ≤ level c) × IsProper c
IsGood (WithColon c a) = (2 ≤ level c) × IsProper c × IsProper a
IsGood (WithName n x o) = Unit {0}

abbrev pub Fits : List Wait → Type 0
Fits [] = Unit {0}
Fits (w ∷ ws) = IsGood w × (wants ws ≤ makes w) × Fits ws

abbrev pub IsWhole : Expression → Type 0
IsWhole a = (13 ≤ level a) × IsProper a

abbrev pub Stood : Place → Type 0
Stood Wanted = Unit {0}
Stood (Stands a) = IsWhole a
Stood (Bare n x) = Unit {0}

whole_groups : (n : ℕ) (x : Text) → IsWhole (groups n (Name x))
whole_groups zero x = (omega arith, tt)
whole_groups (suc n) x = (omega arith, (whole_groups n x).1)

whole : (p : Place) → Stood p → IsOperand p → IsWhole (tree_of p)
whole Wanted s h = absurd h
whole (Stands a) s h = s
whole (Bare n x) s h = whole_groups n x

wanted_most : (w : Wait) → wanted w ≤ 12
wanted_most InParentheses = omega arith
wanted_most (WithSign s) = omega arith
wanted_most (WithLeft o a) = omega (arith, operator_most o)
wanted_most (WithBoth a) = omega arith
wanted_most (WithEither a) = omega arith
wanted_most (WithQuestion c) = omega arith
wanted_most (WithColon c a) = omega arith
wanted_most (WithName n x o) = omega arith

wants_most : (ws : List Wait) → wants ws ≤ 12
wants_most [] = omega arith
wants_most (w ∷ ws) = wanted_most w

made_proper : (l : ℕ) (w : Wait) (a : Expression) → is_ended l w ≡ true → IsGood w → wanted w ≤ level a → IsProper a → IsProper (made w a)
made_proper l InParentheses a e g le p = p
made_proper l (WithSign s) a e g le p = (le, p)
made_proper l (WithLeft o b) a e g le p = (g.0, le, g.1, p)
made_proper l (WithBoth b) a e g le p = (g.0, le, g.1, p)
made_proper l (WithEither b) a e g le p = (g.0, le, g.1, p)
made_proper l (WithQuestion c) a e g le p = p
made_proper l (WithColon c b) a e g le p = (g.0, le, g.1, g.2, p)
made_proper l (WithName n x o) a e g le p = p

made_level : (l : ℕ) (w : Wait) (a : Expression) → is_ended l w ≡ true → level (made w a) ≡ makes w
made_level l InParentheses a e = refl
made_level l (WithSign s) a e = refl
made_level l (WithLeft o b) a e = refl
made_level l (WithBoth b) a e = refl
made_level l (WithEither b) a e = refl
made_level l (WithQuestion c) a e = absurd (cc)
made_level l (WithColon c b) a e = refl
made_level l (WithName n x o) a e = refl

ended_makes : (l : ℕ) (w : Wait) → is_ended l w ≡ true → l ≤ makes w
ended_makes l InParentheses e = absurd (cc)
ended_makes l (WithSign s) e = leb-true l 12 e
ended_makes l (WithLeft o b) e = leb-true l (operator_level o) e
ended_makes l (WithBoth b) e = leb-true l 3 e
ended_makes l (WithEither b) e = leb-true l 2 e
ended_makes l (WithQuestion c) e = absurd (cc)
ended_makes l (WithColon c b) e = leb-true l 1 e
ended_makes l (WithName n x o) e = leb-true l 0 e

stays_wanted : (l : ℕ) (w : Wait) → is_ended l w ≡ false → wanted w ≤ l
stays_wanted l InParentheses e = omega arith
stays_wanted l (WithSign s) e = let h : 12 < l = leb-false l 12 e in omega arith
stays_wanted l (WithLeft o b) e = leb-false l (operator_level o) e
stays_wanted l (WithBoth b) e = leb-false l 3 e
stays_wanted l (WithEither b) e = leb-false l 2 e
stays_wanted l (WithQuestion c) e = omega arith
stays_wanted l (WithColon c b) e = let h : 1 < l = leb-false l 1 e in omega arith
stays_wanted l (WithName n x o) e = omega arith

stays_wanted_two : (w : Wait) → is_ended 2 w ≡ false → wanted w ≤ 1
stays_wanted_two InParentheses e = omega arith
stays_wanted_two (WithSign s) e = absurd (cc)
stays_wanted_two (WithLeft o b) e = let h : operator_level o < 2 = leb-false 2 (operator_level o) e in absurd (omega (arith, operator_least o))
stays_wanted_two (WithBoth b) e = absurd (cc)
stays_wanted_two (WithEither b) e = absurd (cc)
stays_wanted_two (WithQuestion c) e = omega arith
stays_wanted_two (WithColon c b) e = omega arith
stays_wanted_two (WithName n x o) e = omega arith

kept_wants : (l : ℕ) (ws : List Wait) → wants (kept l ws) ≤ l
kept_wants l [] = omega arith
kept_wants l (w ∷ ws) = by (is_ended l w) refl (kept_wants l ws)
  where
    by : (b : Bool) → is_ended l w ≡ b → wants (kept l ws) ≤ l → wants (kept l (w ∷ ws)) ≤ l
    by true q ih = rw q ih
    by false q ih = rw q (stays_wanted l w q)

kept_wants_two : (ws : List Wait) → wants (kept 2 ws) ≤ 1
kept_wants_two [] = omega arith
kept_wants_two (w ∷ ws) = by (is_ended 2 w) refl (kept_wants_two ws)
  where
    by : (b : Bool) → is_ended 2 w ≡ b → wants (kept 2 ws) ≤ 1 → wants (kept 2 (w ∷ ws)) ≤ 1
    by true q ih = rw q ih
    by false q ih = rw q (stays_wanted_two w q)

kept_fits : (l : ℕ) (ws : List Wait) → Fits ws → Fits (kept l ws)
kept_fits l [] f = tt
kept_fits l (w ∷ ws) f = by (is_ended l w) refl (kept_fits l ws f.2)
  where
    by : (b : Bool) → is_ended l w ≡ b → Fits (kept l ws) → Fits (kept l (w ∷ ws))
    by true q ih = rw q ih
    by false q ih = rw q f

folded_fits : (l : ℕ) (ws : List Wait) (a : Expression) → Fits ws → wants ws ≤ level a → l ≤ level a → IsProper a → (l ≤ level (folded l a ws)) × IsProper (folded l a ws)
folded_fits l [] a f le lo p = (lo, p)
folded_fits l (w ∷ ws) a f le lo p = by (is_ended l w) refl (folded_fits l ws (made w a) f.2)
  where
    by : (b : Bool) → is_ended l w ≡ b → (wants ws ≤ level (made w a) → l ≤ level (made w a) → IsProper (made w a) → (l ≤ level (folded l (made w a) ws)) × IsProper (folded l (made w a) ws)) → (l ≤ level (folded l a (w ∷ ws))) × IsProper (folded l a (w ∷ ws))
    by true q ih =
        let e : level (made w a) ≡ makes w = made_level l w a q in
        rw q (ih (omega (arith, e, f.1)) (omega (arith, e, ended_makes l w q)) (made_proper l w a q f.0 le p))
    by false q ih = rw q (lo, p)

all_fits : (l : ℕ) (ws : List Wait) (a : Expression) → l ≤ 13 → Fits ws → IsWhole a → (l ≤ level (folded l a ws)) × IsProper (folded l a ws)
all_fits l ws a le f h = folded_fits l ws a f (omega (arith, wants_most ws, h.0)) (omega (arith, h.0)) h.1

-- a turn keeps what fits, and the tokens

abbrev pub Sound : Option Read → (List Token → List Token) → Type 0
Sound None all = Unit {0}
Sound (Some r) all = Fits r.waits × Stood r.place × ((rest : List Token) → all rest ≡ tokens_before r.waits r.place rest)

colon_sound : (a : Expression) (ws : List Wait) (all : List Token → List Token) → IsProper a → Fits ws → ((rest : List Token) → all rest ≡ spells ws (spelled a (token.Colon ∷ rest))) → Sound (colon a ws) all
colon_sound a [] all p f h = tt
colon_sound a (InParentheses ∷ ws) all p f h = tt
colon_sound a (WithSign s ∷ ws) all p f h = tt
colon_sound a (WithLeft o b ∷ ws) all p f h = tt
colon_sound a (WithBoth b ∷ ws) all p f h = tt
colon_sound a (WithEither b ∷ ws) all p f h = tt
colon_sound a (WithQuestion c ∷ ws) all p f h = (((f.0.0, f.0.1, p), f.1, f.2), tt, h)
colon_sound a (WithColon c b ∷ ws) all p f h = tt
colon_sound a (WithName n x o ∷ ws) all p f h = tt

close_sound : (a : Expression) (ws : List Wait) (all : List Token → List Token) → IsProper a → Fits ws → ((rest : List Token) → all rest ≡ spells ws (spelled a (token.Close ∷ rest))) → Sound (close a ws) all
unfolding spelled
close_sound a [] all p f h = tt
close_sound a (InParentheses ∷ ws) all p f h = (f.2, (omega arith, p), h)
close_sound a (WithSign s ∷ ws) all p f h = tt
close_sound a (WithLeft o b ∷ ws) all p f h = tt
close_sound a (WithBoth b ∷ ws) all p f h = tt
close_sound a (WithEither b ∷ ws) all p f h = tt
close_sound a (WithQuestion c ∷ ws) all p f h = tt
close_sound a (WithColon c b ∷ ws) all p f h = tt
close_sound a (WithName n x o ∷ ws) all p f h = tt

shut_sound_by : (p : Place) (ws : List Wait) → IsOperand p → Stood p → Fits ws → Sound (close (folded 0 (tree_of p) ws) (kept 0 ws)) (λ rest. tokens_before ws p (token.Close ∷ rest))
shut_sound_by p ws h s f =
    close_sound (folded 0 (tree_of p) ws) (kept 0 ws) (λ rest. tokens_before ws p (token.Close ∷ rest)) (all_fits 0 ws (tree_of p) (omega arith) f (whole p s h)).1 (kept_fits 0 ws f) (λ rest. all_spelled 0 p ws (token.Close ∷ rest) h)

shut_sound : (p : Place) (ws : List Wait) → IsOperand p → Stood p → Fits ws → Sound (shut p ws) (λ rest. tokens_before ws p (token.Close ∷ rest))
shut_sound Wanted ws h s f = absurd h
shut_sound (Stands a) ws h s f = shut_sound_by (Stands a) ws h s f
shut_sound (Bare n x) (InParentheses ∷ ws) h s f =
    (f.2, tt, λ rest. ap (λ l. spells ws (token.Open ∷ times n token.Open (token.Name x ∷ l))) (times_more n token.Close rest))
shut_sound (Bare n x) [] h s f = shut_sound_by (Bare n x) [] h s f
shut_sound (Bare n x) (w ∷ ws) h s f = shut_sound_by (Bare n x) (w ∷ ws) h s f

assign_sound : (p : Place) (o : Option Operator) (ws : List Wait) → Fits ws → Sound (assign p o ws) (λ rest. tokens_before ws p (token.Assign o ∷ rest))
assign_sound Wanted o ws f = tt
assign_sound (Stands a) o ws f = tt
assign_sound (Bare n x) o [] f = ((tt, omega arith, f), tt, λ rest. refl)
assign_sound (Bare n x) o (InParentheses ∷ ws) f = ((tt, omega arith, f), tt, λ rest. refl)
assign_sound (Bare n x) o (WithQuestion c ∷ ws) f = ((tt, omega arith, f), tt, λ rest. refl)
assign_sound (Bare n x) o (WithName m y q ∷ ws) f = ((tt, omega arith, f), tt, λ rest. refl)
assign_sound (Bare n x) o (w ∷ ws) f = tt

go_sound : (p : Place) (t : Token) (ws : List Wait) → IsOperand p → Stood p → Fits ws → ends_with t ≡ false → Sound (go p t ws) (λ rest. tokens_before ws p (t ∷ rest))
go_sound p (token.Operator o) ws h s f e =
    ((all_fits (operator_level o) ws (tree_of p) (omega (arith, operator_most o)) f (whole p s h), kept_wants (operator_level o) ws, kept_fits (operator_level o) ws f), tt, λ rest. all_spelled (operator_level o) p ws (token.Operator o ∷ rest) h)
go_sound p token.Both ws h s f e =
    ((all_fits 3 ws (tree_of p) (omega arith) f (whole p s h), kept_wants 3 ws, kept_fits 3 ws f), tt, λ rest. all_spelled 3 p ws (token.Both ∷ rest) h)
go_sound p token.Either ws h s f e =
    ((all_fits 2 ws (tree_of p) (omega arith) f (whole p s h), kept_wants 2 ws, kept_fits 2 ws f), tt, λ rest. all_spelled 2 p ws (token.Either ∷ rest) h)
go_sound p token.Question ws h s f e =
    ((all_fits 2 ws (tree_of p) (omega arith) f (whole p s h), kept_wants_two ws, kept_fits 2 ws f), tt, λ rest. all_spelled 2 p ws (token.Question ∷ rest) h)
go_sound p token.Colon ws h s f e =
    colon_sound (folded 0 (tree_of p) ws) (kept 0 ws) (λ rest. tokens_before ws p (token.Colon ∷ rest)) (all_fits 0 ws (tree_of p) (omega arith) f (whole p s h)).1 (kept_fits 0 ws f) (λ rest. all_spelled 0 p ws (token.Colon ∷ rest) h)
go_sound p (token.Assign o) ws h s f e = assign_sound p o ws f
go_sound p token.Close ws h s f e = shut_sound p ws h s f
go_sound p token.End ws h s f e = absurd (cc)
go_sound p (token.Constant n) ws h s f e = tt
go_sound p (token.Name x) ws h s f e = tt
go_sound p token.Complement ws h s f e = tt
go_sound p token.Not ws h s f e = tt
go_sound p token.Open ws h s f e = tt
go_sound p token.Odd ws h s f e = tt

begin_sound : (t : Token) (ws : List Wait) → Fits ws → Sound (begin t ws) (λ rest. spells ws (t ∷ rest))
unfolding spelled
begin_sound (token.Constant n) ws f = (f, (omega arith, tt), λ rest. refl)
begin_sound (token.Name x) ws f = (f, tt, λ rest. refl)
begin_sound token.Open ws f = ((tt, omega (arith, wants_most ws), f), tt, λ rest. refl)
begin_sound token.Complement ws f = ((tt, wants_most ws, f), tt, λ rest. refl)
begin_sound token.Not ws f = ((tt, wants_most ws, f), tt, λ rest. refl)
begin_sound (token.Operator operator.Plus) ws f = ((tt, wants_most ws, f), tt, λ rest. refl)
begin_sound (token.Operator operator.Minus) ws f = ((tt, wants_most ws, f), tt, λ rest. refl)
begin_sound t ws f = tt

pub sound : (p : Place) (t : Token) (ws : List Wait) → Stood p → Fits ws → ends_with t ≡ false → Sound (turned p t ws) (λ rest. tokens_before ws p (t ∷ rest))
sound Wanted t ws s f e = begin_sound t ws f
sound (Stands a) t ws s f e = go_sound (Stands a) t ws tt s f e
sound (Bare n x) t ws s f e = go_sound (Bare n x) t ws tt s f e

-- the end

abbrev pub SoundEnd : Option Read → (List Token → List Token) → Type 0
SoundEnd None all = Unit {0}
SoundEnd (Some r) all =
    IsProper (tree_of r.place) × ((rest : List Token) → all rest ≡ spelled (tree_of r.place) (token.End ∷ rest)) × (openings r.waits (standing r.place) ≡ steps (tree_of r.place) [])

finish_sound : (a : Expression) (ws : List Wait) (all : List Token → List Token) → IsProper a → ((rest : List Token) → all rest ≡ spells ws (spelled a (token.End ∷ rest))) → SoundEnd (finish a ws) all
finish_sound a [] all p h = (p, h, refl)
finish_sound a (w ∷ ws) all p h = tt

go_end : (p : Place) (ws : List Wait) → IsOperand p → Stood p → Fits ws → SoundEnd (go p token.End ws) (λ rest. tokens_before ws p (token.End ∷ rest))
go_end p ws h s f =
    finish_sound (folded 0 (tree_of p) ws) (kept 0 ws) (λ rest. tokens_before ws p (token.End ∷ rest)) (all_fits 0 ws (tree_of p) (omega arith) f (whole p s h)).1 (λ rest. all_spelled 0 p ws (token.End ∷ rest) h)

sound_end : (p : Place) (ws : List Wait) → Stood p → Fits ws → SoundEnd (turned p token.End ws) (λ rest. tokens_before ws p (token.End ∷ rest))
sound_end Wanted ws s f = tt
sound_end (Stands a) ws s f = go_end (Stands a) ws tt s f
sound_end (Bare n x) ws s f = go_end (Bare n x) ws tt s f

-- What is reached behind some tokens.
pub record Reached (before : List Token) (p : Place) (ws : List Wait) : Type 0 where
  pub fits : Fits ws
  pub stood : Stood p
  pub spelling : (rest : List Token) → before ++ rest ≡ tokens_before ws p rest
  pub reading : (rest : List Token) → tree_read (before ++ rest) Wanted [] ≡ tree_read rest p ws

pub at_start : Reached [] Wanted []
at_start = record { fits = tt; stood = tt; spelling = λ rest. refl; reading = λ rest. refl }

one_read : (t : Token) (p : Place) (ws : List Wait) (r : Read) (rest : List Token) → turned p t ws ≡ Some r → ends_with t ≡ false → tree_read (t ∷ rest) p ws ≡ tree_read rest r.place r.waits
one_read t p ws r rest q e = rw (q, e) refl

pub reached_next : (before : List Token) (p : Place) (ws : List Wait) (t : Token) (r : Read) → Reached before p ws → turned p t ws ≡ Some r → ends_with t ≡ false → Reached (before ++ t ∷ []) r.place r.waits
reached_next before p ws t r h q e =
    let s : Sound (Some r) (λ rest. tokens_before ws p (t ∷ rest)) = rw q at (sound p t ws h.stood h.fits e) in
    record {
      fits = s.0;
      stood = s.1;
      spelling = λ rest. append_assoc before (t ∷ []) rest ∙ h.spelling (t ∷ rest) ∙ s.2 rest;
      reading = λ rest. ap (λ l. tree_read l Wanted []) (append_assoc before (t ∷ []) rest) ∙ h.reading (t ∷ rest) ∙ one_read t p ws r rest q e;
    }

abbrev Completed : List Wait → Expression → Type 0
Completed ws a = (after : List Token) × (x : Expression) × IsProper x × (spells ws (spelled a after) ≡ spelled x (token.End ∷ []))

completes : (ws : List Wait) (a : Expression) → Fits ws → wants ws ≤ level a → IsProper a → Completed ws a
unfolding spelled
completes [] a f le p = (token.End ∷ [], a, p, refl)
completes (InParentheses ∷ ws) a f le p =
    let c : Completed ws (Group a) = completes ws (Group a) f.2 (omega (arith, wants_most ws)) p in (token.Close ∷ c.0, c.1, c.2, c.3)
completes (WithSign s ∷ ws) a f le p = completes ws (Signed s a) f.2 f.1 (le, p)
completes (WithLeft o b ∷ ws) a f le p = completes ws (Applied o b a) f.2 f.1 (f.0.0, le, f.0.1, p)
completes (WithBoth b ∷ ws) a f le p = completes ws (Both b a) f.2 f.1 (f.0.0, le, f.0.1, p)
completes (WithEither b ∷ ws) a f le p = completes ws (Either b a) f.2 f.1 (f.0.0, le, f.0.1, p)
completes (WithQuestion c ∷ ws) a f le p =
    let k : Completed ws (Choice c a (Constant None)) = completes ws (Choice c a (Constant None)) f.2 f.1 (f.0.0, omega arith, f.0.1, p, tt) in
    (token.Colon ∷ token.Constant None ∷ k.0, k.1, k.2, k.3)
completes (WithColon c b ∷ ws) a f le p = completes ws (Choice c b a) f.2 f.1 (f.0.0, le, f.0.1, f.0.2, p)
completes (WithName n x o ∷ ws) a f le p = completes ws (Assignment n x o a) f.2 f.1 p

whole_completes : (ws : List Wait) (a : Expression) → Fits ws → IsWhole a → Completed ws a
whole_completes ws a f h = completes ws a f (omega (arith, wants_most ws, h.0)) h.1

pub continues : (before : List Token) (p : Place) (ws : List Wait) → Reached before p ws → Continues before
unfolding spelled
continues before Wanted ws h =
    let c : Completed ws (Constant None) = whole_completes ws (Constant None) h.fits (omega arith, tt) in
    (c.1, token.Constant None ∷ c.0, (c.2, h.spelling (token.Constant None ∷ c.0) ∙ c.3))
continues before (Stands a) ws h =
    let c : Completed ws a = whole_completes ws a h.fits h.stood in (c.1, c.0, (c.2, h.spelling c.0 ∙ c.3))
continues before (Bare n x) ws h =
    let c : Completed ws (groups n (Name x)) = whole_completes ws (groups n (Name x)) h.fits (whole_groups n x) in
    (c.1, c.0, (c.2, h.spelling c.0 ∙ ap (spells ws) (groups_spelled n x c.0) ∙ c.3))

none_read : (t : Token) (p : Place) (ws : List Wait) (rest : List Token) → turned p t ws ≡ None → tree_read (t ∷ rest) p ws ≡ None
none_read t p ws rest q = rw q refl

pub refused : (before : List Token) (p : Place) (ws : List Wait) (t : Token) → Reached before p ws → turned p t ws ≡ None → Continues (before ++ t ∷ []) → ⊥
refused before p ws t h q c =
    let some : tree_read ((before ++ t ∷ []) ++ c.1) Wanted [] ≡ Some c.0 = ap (λ l. tree_read l Wanted []) c.2.1 ∙ is_read c.0 c.2.0 in
    let no : tree_read ((before ++ t ∷ []) ++ c.1) Wanted [] ≡ None = ap (λ l. tree_read l Wanted []) (append_assoc before (t ∷ []) c.1) ∙ h.reading (t ∷ c.1) ∙ none_read t p ws c.1 q in
    absurd (cc)

-- the expression that is read, by its steps
pub finished : (before : List Token) (p : Place) (ws : List Wait) (r : Read) → Reached before p ws → turned p token.End ws ≡ Some r → Spells (tree_of r.place) (before ++ token.End ∷ []) × (openings r.waits (standing r.place) ≡ steps (tree_of r.place) [])
finished before p ws r h q =
    let s : SoundEnd (Some r) (λ rest. tokens_before ws p (token.End ∷ rest)) = rw q at (sound_end p ws h.stood h.fits) in
    ((s.0, h.spelling (token.End ∷ []) ∙ s.1 []), s.2)

-- tokens are of one expression
pub spelled_once : (x y : Expression) (ts : List Token) → Spells x ts → Spells y ts → x ≡ y
spelled_once x y ts p q =
    let both : Some x ≡ Some y = sym (is_read x p.0) ∙ ap (λ l. tree_read l Wanted []) (sym p.1 ∙ q.1) ∙ is_read y q.0 in cc
