-- Lines that lack a byte are not selected.
use Rattle.std.proofs.Common.{◌≡◌, ℕ, zero, suc, ◌+◌, List, [], ◌∷◌, ◌++◌, Bool, true, false, length, take, drop, refl, sym, ap, ◌∙◌, arith, zero-add}
use Rattle.std.specs.Prelude.{◌==◌, ◌||◌, not, cond, if◌then◌else◌, Option, Some, None, IfSome, MatchOption, is_some, count_by}
use Rattle.std.specs.Fmt.{decimal}
use Rattle.std.specs.List.{list_any}
use Rattle.std.proofs.lemmas.List.Sums.{sum_by-cons}
use Rattle.rk_base.specs.Text.{Text}
use Rattle.ut_bre.specs.declared.group.Span.{Span}
use Rattle.ut_bre.specs.Needing.{IsNeeded as IsNeededIn}
use Rattle.ut_bre.specs.Trees.{Expression}
use Rattle.ut_filter.proofs.OutputLemmas.{put_nothing, put_more}
use Rattle.ut_filter.specs.Lines.{lines_of, onto_first, Lacks}
use Rattle.ut_filter.specs.Outputs.{Growing, put}
use Rattle.ut_grep.specs.Greps.{PatternValue, basic, GrepValue, is_whole, holds, matches, selects, prefix, number_of, row, rows}
use Rattle.ut_grep.specs.Passing.{IsNeededBy, IsNeeded, NoneSelected, SameNumber}

no-basic : (e : Expression) (b : ℕ) → IsNeededIn e b → IsNeededBy (basic e) b
no-basic e b needed = λ g line lacks.
    ap (λ (s : Option Span). if g.whole then is_whole line s else is_some {T = Span} s) (needed line 0 lacks) ∙ (elim g.whole as (λ w. (if w then is_whole line None else is_some {T = Span} None) ≡ false) [ true ↦ refl | false ↦ refl ])

pub no_basics : (e : Expression) (r : Option ℕ) → IfSome r (IsNeededIn e) → IfSome r (IsNeededBy (basic e))
no_basics e None h = tt
no_basics e (Some b) h = no-basic e b h

not-selected : (g : GrepValue) (p : PatternValue) (b : ℕ) → g.inverted ≡ false → g.patterns ≡ p ∷ [] → IsNeededBy p b → IsNeeded g b
not-selected g p b straight one needed = λ line lacks.
    ap (λ i. if i then not (matches g line) else matches g line) straight ∙ (ap (list_any (holds g line)) one ∙ ap (λ z. z || false) (needed g line lacks))

pub one_pattern : (g : GrepValue) (p : PatternValue) (r : Option ℕ) → g.inverted ≡ false → g.patterns ≡ p ∷ [] → IfSome r (IsNeededBy p) → IfSome r (IsNeeded g)
one_pattern g p None straight one h = tt
one_pattern g p (Some b) straight one h = not-selected g p b straight one h

-- each line of a text without a byte lacks it

abbrev Each : (Text → Type 0) → List Text → Type 0
Each P [] = Unit {0}
Each P (line ∷ lines) = P line × Each P lines

cons-lacks : (c b : ℕ) (line : Text) → (c ≡ b → ⊥) → Lacks line b → Lacks (c ∷ line) b
cons-lacks c b line other lacks zero h = other (cc)
cons-lacks c b line other lacks (suc k) h = lacks k h

none-lacks : (b : ℕ) → Lacks [] b
none-lacks b k h = absurd (cc)

onto-lacks : (c b : ℕ) (lines : List Text) → (c ≡ b → ⊥) → Each (λ line. Lacks line b) lines → Each (λ line. Lacks line b) (onto_first c lines)
onto-lacks c b [] other each = (cons-lacks c b [] other (none-lacks b), tt)
onto-lacks c b (line ∷ lines) other each = (cons-lacks c b line other each.0, each.1)

lines-lack : (t : Text) (b : ℕ) → Lacks t b → Each (λ line. Lacks line b) (lines_of t)
lines-lack [] b lacks = tt
lines-lack (c ∷ cs) b lacks =
    let rest = lines-lack cs b (λ k h. lacks (suc k) h) in
    elim (c == 10) as (λ z. Each (λ line. Lacks line b) (if z then [] ∷ lines_of cs else onto_first c (lines_of cs))) [
      | true ↦ (none-lacks b, rest)
      | false ↦ onto-lacks c b (lines_of cs) (λ e. lacks 0 (ap Some e)) rest
    ]

each-none : (g : GrepValue) (b : ℕ) (lines : List Text) → IsNeeded g b → Each (λ line. Lacks line b) lines → NoneSelected g lines
each-none g b [] needed each = refl
each-none g b (line ∷ lines) needed each = ap (λ z. z || list_any (selects g) lines) (needed line each.0) ∙ each-none g b lines needed each.1

pub none_selected : (g : GrepValue) (needed : Option ℕ) (t : Text) → IfSome needed (IsNeeded g) → MatchOption needed (t ≡ []) (Lacks t) → NoneSelected g (lines_of t)
none_selected g None t h e = ap (λ (x : Text). list_any (selects g) (lines_of x)) e
none_selected g (Some b) t h lacks = each-none g b (lines_of t) h (lines-lack t b lacks)

-- lines that are not selected

or-none : (a b : Bool) → (a || b) ≡ false → (a ≡ false) × (b ≡ false)
or-none true b h = absurd (cc)
or-none false b h = (refl, h)

pub none-more : (g : GrepValue) (front back : List Text) → NoneSelected g front → NoneSelected g back → NoneSelected g (front ++ back)
none-more g [] back h k = k
none-more g (line ∷ lines) back h k =
    let both = or-none (selects g line) (list_any (selects g) lines) h in
    ap (λ z. z || list_any (selects g) (lines ++ back)) both.0 ∙ none-more g lines back both.1 k

counted-cons : (g : GrepValue) (line : Text) (lines : List Text) → count_by (selects g) (line ∷ lines) ≡ cond (selects g line) 1 0 + count_by (selects g) lines
counted-cons g line lines = sum_by-cons (λ y. cond (selects g y) 1 0) line lines

counted-not : (g : GrepValue) (line : Text) (lines : List Text) → selects g line ≡ false → count_by (selects g) (line ∷ lines) ≡ count_by (selects g) lines
counted-not g line lines e = counted-cons g line lines ∙ (ap (λ z. cond z 1 0 + count_by (selects g) lines) e ∙ zero-add (count_by (selects g) lines))

none-counted : (g : GrepValue) (lines more : List Text) → NoneSelected g lines → count_by (selects g) (lines ++ more) ≡ count_by (selects g) more
none-counted g [] more h = refl
none-counted g (line ∷ lines) more h =
    let both = or-none (selects g line) (list_any (selects g) lines) h in
    counted-not g line (lines ++ more) both.0 ∙ none-counted g lines more both.1

pub none-told : (g : GrepValue) (name : Text) (n : ℕ) (lines more : List Text) → NoneSelected g lines → rows g name n (lines ++ more) ≡ rows g name (n + length lines) more
none-told g name n [] more h = ap (λ k. rows g name k more) (let e : n ≡ n + 0 = omega arith in e)
none-told g name n (line ∷ lines) more h =
    let both = or-none (selects g line) (list_any (selects g) lines) h in
    let next : (n + 1) + length lines ≡ n + suc (length lines) = omega arith in
    ap (λ z. (if z then row g name n line else []) ++ rows g name (n + 1) (lines ++ more)) both.0 ∙ (none-told g name (n + 1) lines more both.1 ∙ ap (λ k. rows g name k more) next)

-- where numbers are not told
same-row : (g : GrepValue) (name : Text) (n m : ℕ) (line : Text) → g.numbered ≡ false → row g name n line ≡ row g name m line
same-row g name n m line e =
    let a : number_of g n ≡ [] = ap (λ z. if z then decimal n ++ 58 ∷ [] else []) e in
    let b : number_of g m ≡ [] = ap (λ z. if z then decimal m ++ 58 ∷ [] else []) e in
    ap (λ (t : Text). prefix g name ++ t ++ line ++ 10 ∷ []) (a ∙ sym b)

pub any_number : (g : GrepValue) (n m : ℕ) → g.numbered ≡ false → SameNumber g n m
any_number g n m e name [] = refl
any_number g n m e name (line ∷ lines) =
    ap (λ (t : Text). (if selects g line then t else []) ++ rows g name (n + 1) lines) (same-row g name n m line e) ∙ ap (λ (t : Text). (if selects g line then row g name m line else []) ++ t) (any_number g (n + 1) (m + 1) e name lines)

-- a line behind some that are not selected

counted_next : (g : GrepValue) (text front line after : Text) → lines_of text ≡ lines_of front ++ line ∷ lines_of after → NoneSelected g (lines_of front) → count_by (selects g) (lines_of text) ≡ cond (selects g line) 1 0 + count_by (selects g) (lines_of after)
counted_next g text front line after e h =
    ap (count_by (selects g)) e ∙ (none-counted g (lines_of front) (line ∷ lines_of after) h ∙ counted-cons g line (lines_of after))

counted-if : (s : Bool) (count next whole k m : ℕ) → m ≡ cond s 1 0 + k → next ≡ (if s then count + 1 else count) → count + m ≡ whole → next + k ≡ whole
counted-if true count next whole k m e f h = omega arith
counted-if false count next whole k m e f h = omega arith

pub counted_on : (g : GrepValue) (text front line after : Text) (count next whole : ℕ) (s : Bool) → lines_of text ≡ lines_of front ++ line ∷ lines_of after → NoneSelected g (lines_of front) → s ≡ selects g line → next ≡ (if s then count + 1 else count) → count + count_by (selects g) (lines_of text) ≡ whole → next + count_by (selects g) (lines_of after) ≡ whole
counted_on g text front line after count next whole s e h is n all =
    let m = counted_next g text front line after e h ∙ ap (λ z. cond z 1 0 + count_by (selects g) (lines_of after)) (sym is) in
    counted-if s count next whole (count_by (selects g) (lines_of after)) (count_by (selects g) (lines_of text)) m n all

told_next : (g : GrepValue) (name : Text) (number n : ℕ) (text front line after : Text) → lines_of text ≡ lines_of front ++ line ∷ lines_of after → NoneSelected g (lines_of front) → SameNumber g (number + length (lines_of front)) n → rows g name number (lines_of text) ≡ (if selects g line then row g name n line else []) ++ rows g name (n + 1) (lines_of after)
told_next g name number n text front line after e h same =
    ap (rows g name number) e ∙ (none-told g name number (lines_of front) (line ∷ lines_of after) h ∙ same name (line ∷ lines_of after))

pub told_on : (g : GrepValue) (name text front line after : Text) (out more whole : Growing) (number n next : ℕ) → lines_of text ≡ lines_of front ++ line ∷ lines_of after → NoneSelected g (lines_of front) → SameNumber g (number + length (lines_of front)) n → next ≡ n + 1 → more ≡ put out (if selects g line then row g name n line else []) → put out (rows g name number (lines_of text)) ≡ whole → put more (rows g name next (lines_of after)) ≡ whole
told_on g name text front line after out more whole number n next e h same f o all =
    let w : Text = if selects g line then row g name n line else [] in
    let t = told_next g name number n text front line after e h same in
    ap (λ (x : Growing). put x (rows g name next (lines_of after))) o ∙ (ap (λ k. put (put out w) (rows g name k (lines_of after))) f ∙ (put_more out w (rows g name (n + 1) (lines_of after)) ∙ (ap (λ (x : Text). put out x) (sym t) ∙ all)))

counted-none : (g : GrepValue) (lines : List Text) → NoneSelected g lines → count_by (selects g) lines ≡ 0
counted-none g [] h = refl
counted-none g (line ∷ lines) h =
    let both = or-none (selects g line) (list_any (selects g) lines) h in
    counted-not g line lines both.0 ∙ counted-none g lines both.1

pub counted_end : (g : GrepValue) (lines : List Text) (count whole : ℕ) → NoneSelected g lines → count + count_by (selects g) lines ≡ whole → count ≡ whole
counted_end g lines count whole h all = let z : count_by (selects g) lines ≡ 0 = counted-none g lines h in omega arith

told-none : (g : GrepValue) (name : Text) (n : ℕ) (lines : List Text) → NoneSelected g lines → rows g name n lines ≡ []
told-none g name n [] h = refl
told-none g name n (line ∷ lines) h =
    let both = or-none (selects g line) (list_any (selects g) lines) h in
    ap (λ z. (if z then row g name n line else []) ++ rows g name (n + 1) lines) both.0 ∙ told-none g name (n + 1) lines both.1

pub told_end : (g : GrepValue) (name : Text) (out whole : Growing) (n : ℕ) (lines : List Text) → NoneSelected g lines → put out (rows g name n lines) ≡ whole → out ≡ whole
told_end g name out whole n lines h all = sym (put_nothing out) ∙ (ap (λ (x : Text). put out x) (sym (told-none g name n lines h)) ∙ all)

pub same_number : (g : GrepValue) (n m : ℕ) → n ≡ m → SameNumber g n m
same_number g n m e = λ name lines. ap (λ k. rows g name k lines) e

-- nothing is left behind lines that are not selected
pub none_left : (g : GrepValue) (needed : Option ℕ) (t left : Text) (n : ℕ) → IfSome needed (IsNeeded g) → MatchOption needed (take n t ≡ []) (Lacks (take n t)) → lines_of t ≡ lines_of (take n t) ++ lines_of (drop n t) → left ≡ drop n t → left ≡ [] → NoneSelected g (lines_of t)
none_left g needed t left n h lacks cut e empty =
    let back : NoneSelected g (lines_of (drop n t)) = ap (λ (x : Text). list_any (selects g) (lines_of x)) (sym e ∙ empty) in
    ap (list_any (selects g)) cut ∙ none-more g (lines_of (take n t)) (lines_of (drop n t)) (none_selected g needed (take n t) h lacks) back

pub none_passed : (g : GrepValue) (needed : Option ℕ) (t front : Text) (n : ℕ) → IfSome needed (IsNeeded g) → MatchOption needed (take n t ≡ []) (Lacks (take n t)) → front ≡ take n t → NoneSelected g (lines_of front)
none_passed g needed t front n h lacks e = ap (λ (x : Text). list_any (selects g) (lines_of x)) e ∙ none_selected g needed (take n t) h lacks
