-- Runs, step by step.
use Rattle.std.proofs.Common.{◌≡◌, ℕ, suc, ◌+◌, ◌≤◌, List, [], ◌∷◌, length, drop, Bool, true, false, refl, sym, ap, ◌∙◌, arith, length-drop}
use Rattle.sh_token.specs.declared.blanks.Skip.TheVariants as sk
use Rattle.std.specs.Prelude.{if◌then◌else◌, ◌==◌}
use Rattle.sh_token.specs.Bytes.{is_blank, ◌or◌}
use Rattle.sh_token.specs.Blanks.{pick, skip_of, counted, blanks, is_join, joins, two_if}

-- what is left of a text past its blanks, by what is left of a part of it
pub record Left (whole : List ℕ) (comment : Bool) (ts : List ℕ) : Type 0 where
  pub same : drop (blanks false whole) whole ≡ drop (blanks comment ts) ts
  pub count : blanks false whole + length ts ≡ length whole + blanks comment ts

pub all_left : (whole : List ℕ) → Left whole false whole
all_left whole = record { same = refl; count = omega arith }

one_at : (m : Bool) (ts : List ℕ) → skip_of m ts ≡ sk.One → (drop (blanks m ts) ts ≡ drop (blanks m (drop 1 ts)) (drop 1 ts)) × (blanks m ts ≡ suc (blanks m (drop 1 ts))) × (1 ≤ length ts)
one_at true [] h = cc
one_at false [] h = cc
one_at m (c ∷ []) h =
    let e : blanks m (c ∷ []) ≡ 1 = ap (λ s. counted s 0 0 0) h in
    (ap (λ n. drop n (c ∷ [])) e, e, omega arith)
one_at m (c ∷ (d ∷ cs)) h =
    let e : blanks m (c ∷ (d ∷ cs)) ≡ suc (blanks m (d ∷ cs)) = ap (λ s. counted s (blanks m (d ∷ cs)) (blanks true (d ∷ cs)) (blanks m cs)) h in
    (ap (λ n. drop n (c ∷ (d ∷ cs))) e, e, omega arith)

hash_at : (m : Bool) (ts : List ℕ) → skip_of m ts ≡ sk.Hash → (drop (blanks m ts) ts ≡ drop (blanks true (drop 1 ts)) (drop 1 ts)) × (blanks m ts ≡ suc (blanks true (drop 1 ts))) × (1 ≤ length ts)
hash_at true [] h = cc
hash_at false [] h = cc
hash_at m (c ∷ []) h =
    let e : blanks m (c ∷ []) ≡ 1 = ap (λ s. counted s 0 0 0) h in
    (ap (λ n. drop n (c ∷ [])) e, e, omega arith)
hash_at m (c ∷ (d ∷ cs)) h =
    let e : blanks m (c ∷ (d ∷ cs)) ≡ suc (blanks true (d ∷ cs)) = ap (λ s. counted s (blanks m (d ∷ cs)) (blanks true (d ∷ cs)) (blanks m cs)) h in
    (ap (λ n. drop n (c ∷ (d ∷ cs))) e, e, omega arith)

pick_join : (a b c : Bool) → pick a b c ≡ sk.Join → c ≡ true
pick_join true b c h = cc
pick_join false true c h = cc
pick_join false false true h = refl
pick_join false false false h = cc

join_true : (ts : List ℕ) (c : ℕ) → skip_of true (c ∷ ts) ≡ sk.Join → ⊥
join_true ts c h = no_join (c == 10 or c == 0) h
  where
    no_join : (b : Bool) → (if b then sk.Stop else sk.One) ≡ sk.Join → ⊥
    no_join true e = cc
    no_join false e = cc

join_at : (m : Bool) (ts : List ℕ) → skip_of m ts ≡ sk.Join → (drop (blanks m ts) ts ≡ drop (blanks m (drop 2 ts)) (drop 2 ts)) × (blanks m ts ≡ suc (suc (blanks m (drop 2 ts)))) × (2 ≤ length ts)
join_at true [] h = cc
join_at false [] h = cc
join_at true (c ∷ []) h = absurd (join_true [] c h)
join_at false (c ∷ []) h = let bad = pick_join (is_blank c) (c == 35) false h in cc
join_at m (c ∷ (d ∷ cs)) h =
    let e : blanks m (c ∷ (d ∷ cs)) ≡ suc (suc (blanks m cs)) = ap (λ s. counted s (blanks m (d ∷ cs)) (blanks true (d ∷ cs)) (blanks m cs)) h in
    (ap (λ n. drop n (c ∷ (d ∷ cs))) e, e, omega arith)

stop_at : (m : Bool) (ts : List ℕ) → skip_of m ts ≡ sk.Stop → blanks m ts ≡ 0
stop_at m [] h = refl
stop_at m (c ∷ []) h = ap (λ s. counted s 0 0 0) h
stop_at m (c ∷ (d ∷ cs)) h = ap (λ s. counted s (blanks m (d ∷ cs)) (blanks true (d ∷ cs)) (blanks m cs)) h

pub one_fits : (m : Bool) (ts : List ℕ) → skip_of m ts ≡ sk.One → 1 ≤ length ts
one_fits m ts h = (one_at m ts h).2

pub hash_fits : (m : Bool) (ts : List ℕ) → skip_of m ts ≡ sk.Hash → 1 ≤ length ts
hash_fits m ts h = (hash_at m ts h).2

pub join_fits : (m : Bool) (ts : List ℕ) → skip_of m ts ≡ sk.Join → 2 ≤ length ts
join_fits m ts h = (join_at m ts h).2

pub step_one : (whole : List ℕ) (m : Bool) (ts : List ℕ) → Left whole m ts → skip_of m ts ≡ sk.One → Left whole m (drop 1 ts)
step_one whole m ts l h = let o = one_at m ts h in record { same = l.same ∙ o.0; count = omega (arith, l.count, o.1, o.2, length-drop 1 ts) }

pub step_hash : (whole : List ℕ) (m : Bool) (ts : List ℕ) → Left whole m ts → skip_of m ts ≡ sk.Hash → Left whole true (drop 1 ts)
step_hash whole m ts l h = let o = hash_at m ts h in record { same = l.same ∙ o.0; count = omega (arith, l.count, o.1, o.2, length-drop 1 ts) }

pub step_join : (whole : List ℕ) (m : Bool) (ts : List ℕ) → Left whole m ts → skip_of m ts ≡ sk.Join → Left whole m (drop 2 ts)
step_join whole m ts l h = let o = join_at m ts h in record { same = l.same ∙ o.0; count = omega (arith, l.count, o.1, o.2, length-drop 2 ts) }

pub end_rest : (whole : List ℕ) (m : Bool) (ts : List ℕ) → Left whole m ts → skip_of m ts ≡ sk.Stop → ts ≡ drop (blanks false whole) whole
end_rest whole m ts l h = sym (l.same ∙ ap (λ n. drop n ts) (stop_at m ts h))

pub end_count : (whole : List ℕ) (m : Bool) (ts : List ℕ) → Left whole m ts → skip_of m ts ≡ sk.Stop → blanks false whole + length ts ≡ length whole
end_count whole m ts l h = omega (arith, l.count, stop_at m ts h)

-- joined lines
pub record Joined (whole ts : List ℕ) : Type 0 where
  pub same : drop (joins whole) whole ≡ drop (joins ts) ts
  pub count : joins whole + length ts ≡ length whole + joins ts

pub all_joined : (whole : List ℕ) → Joined whole whole
all_joined whole = record { same = refl; count = omega arith }

joined_at : (ts : List ℕ) → is_join ts ≡ true → (drop (joins ts) ts ≡ drop (joins (drop 2 ts)) (drop 2 ts)) × (joins ts ≡ suc (suc (joins (drop 2 ts)))) × (2 ≤ length ts)
joined_at [] h = cc
joined_at (c ∷ []) h = cc
joined_at (c ∷ (d ∷ cs)) h =
    let e : joins (c ∷ (d ∷ cs)) ≡ suc (suc (joins cs)) = ap (λ b. two_if b (joins cs)) h in
    (ap (λ n. drop n (c ∷ (d ∷ cs))) e, e, omega arith)

pub joined_fits : (ts : List ℕ) → is_join ts ≡ true → 2 ≤ length ts
joined_fits ts h = (joined_at ts h).2

pub step_joined : (whole ts : List ℕ) → Joined whole ts → is_join ts ≡ true → Joined whole (drop 2 ts)
step_joined whole ts l h = let o = joined_at ts h in record { same = l.same ∙ o.0; count = omega (arith, l.count, o.1, o.2, length-drop 2 ts) }

none_joined : (ts : List ℕ) → is_join ts ≡ false → joins ts ≡ 0
none_joined [] h = refl
none_joined (c ∷ []) h = refl
none_joined (c ∷ (d ∷ cs)) h = ap (λ b. two_if b (joins cs)) h

pub joined_rest : (whole ts : List ℕ) → Joined whole ts → is_join ts ≡ false → ts ≡ drop (joins whole) whole
joined_rest whole ts l h = sym (l.same ∙ ap (λ n. drop n ts) (none_joined ts h))

pub joined_count : (whole ts : List ℕ) → Joined whole ts → is_join ts ≡ false → joins whole + length ts ≡ length whole
joined_count whole ts l h = omega (arith, l.count, none_joined ts h)
