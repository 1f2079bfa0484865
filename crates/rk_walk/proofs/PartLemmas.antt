-- How a text is cut.
use Rattle.std.proofs.Common.{◌≡◌, ◌<◌, ◌≤◌, ℕ, suc, ◌+◌, List, [], ◌∷◌, ◌++◌, length, drop, get_or, Bool, true, false, cond, ◌||◌, refl, sym, ap, ◌∙◌, append_assoc, append-nil, arith, length-append, drop-cons}
use Rattle.rk_base.specs.Text.{Text}
use Rattle.rk_base.specs.Canonical.{is_empty}
use Rattle.rk_walk.specs.Course.{has_slash, is_after, IsFirst}
use Rattle.rk_walk.specs.Walk.{Part, parts, parts_from, closed}

pub parts-slash : (more : Text) → parts (47 ∷ more) ≡ parts more
unfolding parts
parts-slash more = refl

suc_add : (i : ℕ) → suc i ≡ i + 1
suc_add i = omega arith

-- one slash more is passed
pub skipped : (text : Text) (i : ℕ) (more : Text) → i < length text → get_or text i 0 ≡ 47 → parts (drop i text ++ more) ≡ parts (drop (i + 1) text ++ more)
skipped text i more lt is =
    ap (λ (t : Text). parts (t ++ more)) (drop-cons text i 0 lt ∙ ap (λ (b : ℕ). b ∷ drop (suc i) text) is) ∙ parts-slash (drop (suc i) text ++ more)
    ∙ ap (λ (k : ℕ). parts (drop k text ++ more)) (suc_add i)

or_left : (a b : Bool) → (a || b) ≡ false → a ≡ false
or_left true b h = cc
or_left false b h = refl

or_right : (a b : Bool) → (a || b) ≡ false → b ≡ false
or_right true b h = cc
or_right false b h = h

-- what stands before the first slash is one name
name_first : (begun name rest : Text) → has_slash name ≡ false → parts_from begun (name ++ rest) ≡ parts_from (begun ++ name) rest
name_first begun [] rest h = ap (λ (t : Text). parts_from t rest) (sym (append-nil begun))
name_first begun (b ∷ bs) rest h =
    ap (λ (s : Bool). cond s (closed begun (b ∷ bs ++ rest) ++ parts_from [] (bs ++ rest)) (parts_from (begun ++ b ∷ []) (bs ++ rest))) (or_left _ _ h)
    ∙ name_first (begun ++ b ∷ []) bs rest (or_right _ _ h)
    ∙ ap (λ (t : Text). parts_from t rest) (append_assoc begun (b ∷ []) bs)

-- a name is closed by what stands after it
closes : (b : ℕ) (bs rest : Text) → is_after rest ≡ true → parts_from (b ∷ bs) rest ≡ record { name = b ∷ bs; after = rest } ∷ parts_from [] rest
closes b bs [] h = refl
closes b bs (r ∷ rest) h =
    ap (λ (s : Bool). cond s (closed (b ∷ bs) (r ∷ rest) ++ parts_from [] rest) (parts_from ((b ∷ bs) ++ r ∷ []) rest)) h
    ∙ ap (λ (t : List Part). record { name = b ∷ bs; after = r ∷ rest } ∷ t) (sym (ap (λ (s : Bool). cond s (closed [] (r ∷ rest) ++ parts_from [] rest) (parts_from (r ∷ []) rest)) h))

pub after-append : (rest more : Text) → is_after rest ≡ true → is_after more ≡ true → is_after (rest ++ more) ≡ true
after-append [] more h k = k
after-append (r ∷ rest) more h k = h

first-parts : (b : ℕ) (bs rest more : Text) → has_slash (b ∷ bs) ≡ false → is_after rest ≡ true → is_after more ≡ true
    → parts (((b ∷ bs) ++ rest) ++ more) ≡ record { name = b ∷ bs; after = rest ++ more } ∷ parts (rest ++ more)
unfolding parts
first-parts b bs rest more name after goes =
    ap (parts_from []) (append_assoc (b ∷ bs) rest more) ∙ name_first [] (b ∷ bs) (rest ++ more) name ∙ closes b bs (rest ++ more) (after-append rest more after goes)

pub is_first : (text left name rest : Text) → ((more : Text) → parts (text ++ more) ≡ parts (left ++ more)) → length left ≤ length text → left ≡ name ++ rest → has_slash name ≡ false → is_after rest ≡ true → 0 < length name → IsFirst text name rest
is_first text left [] rest same short whole no_slash after full = absurd (omega arith)
is_first text left (b ∷ bs) rest same short whole no_slash after full = record {
  parts_are = λ more goes. same more ∙ ap (λ (t : Text). parts (t ++ more)) whole ∙ first-parts b bs rest more no_slash after goes;
  goes_on = after;
  shorter = omega (arith, ap length whole, length-append (b ∷ bs) rest);
}

clash : {b : Bool} → b ≡ false → b ≡ true → ⊥
clash f t = cc

-- only slashes are no component
pub no_part : (text left name rest : Text) → ((more : Text) → parts (text ++ more) ≡ parts (left ++ more)) → left ≡ name ++ rest → is_after rest ≡ true → is_empty name ≡ true → (is_empty left ≡ false → is_after left ≡ false) → (more : Text) → parts (text ++ more) ≡ parts more
no_part text left (b ∷ bs) rest same whole after none starts more = cc
no_part text [] [] rest same whole after none starts more = same more
no_part text (l ∷ ls) [] rest same whole after none starts more = absurd (clash (starts refl) (ap is_after whole ∙ after))
