-- What reading a text symbol by symbol comes to: it is read, or it stops there.
use Rattle.std.proofs.Common.{arith, ◌≡◌, ◌<◌, ℕ, zero, suc, List, [], ◌∷◌, ◌++◌, Option, Some, None, Bool, true, false, refl, sym, ap, ◌∙◌, subst, eq-eqb}
use Rattle.std.specs.Prelude.{nat_eq, if◌then◌else◌}
use Rattle.rk_base.specs.Text.{Text}
use Rattle.std.proofs.lemmas.Bool.{eqb-true}
use Rattle.sh_rules.specs.Grammar.{Symbol, Want, Do, Halt, Blocked, Over}
use Rattle.sh_rules.specs.declared.token_kind.TokenKind.{TokenKind}
use Rattle.sh_rules.specs.declared.token_kind.Mode.{Mode}
use Rattle.sh_rules.specs.Parts.{Part}
use Rattle.sh_rules.specs.Rules.{Rule, Token, script, spelling}
use Rattle.sh_rules.specs.Kinds.{number}
use Rattle.sh_rules.specs.Modes.{mode_of, mode}
use Rattle.sh_rules.specs.Choosing.{choose}
use Rattle.sh_rules.proofs.Alternatives.{chosen_part}
use Rattle.sh_grammar.specs.Marks.{Mark, node, leaf}
use Rattle.sh_grammar.proofs.Numbers.{same_number}
use Rattle.sh_token.specs.Places.{Place, begin, size}
use Rattle.sh_token.specs.Lexemes.{look}
use Rattle.sh_token.specs.Tokens.{Look}
use Rattle.sh_token.specs.Effects.{effect_of}
use Rattle.sh_token.specs.Steps.{lex, over, after, token_of}
use Rattle.sh_token.proofs.Sizes.{may_be_empty, Shrinks}
use Rattle.sh_script.specs.TextReader.{text_reader, NotOf, HaltsAt}
use Rattle.sh_script.specs.Owing.{Owes, Keeps, turns_left}
use Rattle.sh_script.specs.Outcomes.{IsRead, IsStuck}
use Rattle.sh_script.specs.Predicting.{End, Read, Stuck, taken, wanted, replaced, chosen, predicted, end_of}
use Rattle.sh_script.proofs.Owed.{owed_first}
use Rattle.sh_script.proofs.Fewer.{chosen_fewer}
use Rattle.sh_script.proofs.Turning.{lexed_there, keeps_taken, fewer_taken, halts_deep, halts_want, keeps_chosen, halts_none, halts_unwanted, whole_read, whole_stuck}

-- a token leaves a smaller place
abbrev pub Shortens : Type 0
Shortens = (m : Mode) (p : Place) (t : Token) (q : Place) → lex m p ≡ Some (t, q) → Shrinks (may_be_empty t.kind) (size p) (size q)

-- what reading from there comes to is so
unfoldable pub EndsSo : Place → End → Type 0
EndsSo start (Read marks) = (q : Place) × IsRead start q marks
EndsSo start (Stuck m h) = IsStuck start m h

less_fuel : (n m fuel : ℕ) → n < m → m < suc fuel → n < fuel
less_fuel n m fuel a b = omega (arith, a, b)

no_fuel : (n : ℕ) → n < 0 → ⊥
no_fuel n h = omega (arith, h)

not_same : (a b : TokenKind) → nat_eq (number a) (number b) ≡ false → a ≡ b → ⊥
not_same a b e h = let t : nat_eq (number a) (number b) ≡ true = eq-eqb (number a) (number b) (ap number h) in cc

-- it ends so from each smaller place
Again : ℕ → Place → Type 0
Again fuel start = (todo : List (Symbol TokenKind Part)) (marks : List Mark) (p : Place) → turns_left (size p) todo < fuel → Owes text_reader start todo marks p → EndsSo start (predicted fuel todo marks p)

by_token : Shortens → (fuel : ℕ) (start : Place) (k : TokenKind) (ss : List (Symbol TokenKind Part)) (marks : List Mark) (p : Place) → Again fuel start → turns_left (size p) (Want k ∷ ss) < suc fuel → Owes text_reader start (Want k ∷ ss) marks p → EndsSo start (wanted (predicted fuel) k ss marks p (look (mode_of k) p))
unfolding Keeps Again EndsSo
by_token short fuel start k ss marks p again lt w = looking (look (mode_of k) p) refl
  where
    stuck : (h : Halt Token) → HaltsAt (Want k) p h → EndsSo start (Stuck p h)
    stuck h a = whole_stuck start (Want k) ss marks p p h w refl a

    take : (n : ℕ) → look (mode_of k) p ≡ Some (k, n) → (o : Bool) → over (token_of k n p) p ≡ o → EndsSo start (if o then Stuck p (Over (token_of k n p)) else predicted fuel ss (marks ++ (leaf (token_of k n p).text ∷ [])) (after (effect_of k) n p))
    take n e true o = stuck (Over (token_of k n p)) (halts_deep k n p e o)
    take n e false o =
        let q = after (effect_of k) n p in
        let s = short (mode_of k) p (token_of k n p) q (lexed_there (mode_of k) k n p e) in
        again ss (marks ++ (leaf (token_of k n p).text ∷ [])) q
        (less_fuel (turns_left (size q) ss) (turns_left (size p) (Want k ∷ ss)) fuel (fewer_taken k ss p q s) lt)
        (keeps_taken k n ss marks p e o start w)

    found : (x : TokenKind × ℕ) → look (mode_of k) p ≡ Some x → (b : Bool) → nat_eq (number x.0) (number k) ≡ b → EndsSo start (if b then taken (predicted fuel) k ss marks p x.1 else Stuck p Blocked)
    found x e true s = let e' : look (mode_of k) p ≡ Some (k, x.1) = e ∙ ap (λ j. Some (j, x.1)) (same_number x.0 k (eqb-true (number x.0) (number k) s)) in take x.1 e' (over (token_of k x.1 p) p) refl
    found x e false s = stuck Blocked (halts_want k p (subst (NotOf k) (sym e) (not_same x.0 k s)))

    looking : (o : Look) → look (mode_of k) p ≡ o → EndsSo start (wanted (predicted fuel) k ss marks p o)
    looking None e = stuck Blocked (halts_want k p (subst (NotOf k) (sym e) tt))
    looking (Some x) e = found x e (nat_eq (number x.0) (number k)) refl

by_part : (fuel : ℕ) (start : Place) (n : Part) (ss : List (Symbol TokenKind Part)) (marks : List Mark) (p : Place) → Again fuel start → turns_left (size p) (Do n ∷ ss) < suc fuel → Owes text_reader start (Do n ∷ ss) marks p → EndsSo start (chosen (predicted fuel) n ss marks p (look (mode n) p))
unfolding Keeps Again EndsSo
by_part fuel start n ss marks p again lt w = looking (look (mode n) p) refl
  where
    stuck : HaltsAt (Do n) p Blocked → EndsSo start (Stuck p Blocked)
    stuck a = whole_stuck start (Do n) ss marks p p Blocked w refl a

    by_rule : (x : TokenKind × ℕ) → look (mode n) p ≡ Some x → (o : Option Rule) → choose n x.0 ≡ o → EndsSo start (replaced (predicted fuel) ss marks p o)
    by_rule x e None c = stuck (halts_unwanted n x.0 x.1 p (sym e) (sym c))
    by_rule x e (Some r) c =
        let is = chosen_part n x.0 r (sym c) in
        let f : turns_left (size p) (spelling r ++ ss) < turns_left (size p) (Do n ∷ ss) = subst (λ n. turns_left (size p) (spelling r ++ ss) < turns_left (size p) (Do n ∷ ss)) is (chosen_fewer r ss (size p)) in
        again (spelling r ++ ss) (marks ++ (node r ∷ [])) p
        (less_fuel (turns_left (size p) (spelling r ++ ss)) (turns_left (size p) (Do n ∷ ss)) fuel f lt)
        (keeps_chosen r x.0 x.1 ss marks p n is e c start w)

    looking : (o : Look) → look (mode n) p ≡ o → EndsSo start (chosen (predicted fuel) n ss marks p o)
    looking None e = stuck (halts_none n p (sym e))
    looking (Some x) e = by_rule x e (choose n x.0) refl

goes_on : Shortens → (fuel : ℕ) (start : Place) (todo : List (Symbol TokenKind Part)) (marks : List Mark) (p : Place) → turns_left (size p) todo < fuel → Owes text_reader start todo marks p → EndsSo start (predicted fuel todo marks p)
unfolding Again EndsSo predicted
goes_on short zero start todo marks p lt w = absurd (no_fuel (turns_left (size p) todo) lt)
goes_on short (suc fuel) start [] marks p lt w = (p, whole_read start marks p w)
goes_on short (suc fuel) start (Want k ∷ ss) marks p lt w = by_token short fuel start k ss marks p (λ todo marks q. goes_on short fuel start todo marks q) lt w
goes_on short (suc fuel) start (Do n ∷ ss) marks p lt w = by_part fuel start n ss marks p (λ todo marks q. goes_on short fuel start todo marks q) lt w

pub each_ends : Shortens → (text : Text) → EndsSo (begin text) (end_of text)
each_ends short text = goes_on short (suc (turns_left (size (begin text)) script)) (begin text) script [] (begin text) (omega arith) (owed_first text_reader (begin text))
