-- A text is its first line and what stands after it.
use Rattle.std.proofs.Common.{◌≡◌, ◌+◌, ◌<◌, ◌≤◌, arith, ℕ, zero, suc, List, [], ◌∷◌, ◌++◌, length, length-take, min, take, drop, get_or, refl, sym, ap, ◌∙◌, subst, Bool, true, false}
use Rattle.std.specs.Prelude.{◌==◌, if◌then◌else◌}
use Rattle.std.proofs.lemmas.Bool.{eq-eqb}
use Rattle.std.proofs.lemmas.List.{get_or-take, take_all, drop_all, append-nil}
use Rattle.std.proofs.lemmas.Option.{slice_get_within, get_or_from_slice_get}
use Rattle.memchr.specs.Find.{Nowhere, Passes, is_byte}
use Rattle.rk_base.specs.Text.{Text}
use Rattle.ut_filter.specs.Lines.{onto_first, lines_of, first_line, after_line, Lacks}

take-first_line : (t : Text) → take (length (first_line t)) t ≡ first_line t
take-first_line [] = refl
take-first_line (b ∷ bs) =
    elim (b == 10) as (λ k. take (length (if k then [] else b ∷ first_line bs)) (b ∷ bs) ≡ (if k then [] else b ∷ first_line bs)) [
      | true ↦ refl
      | false ↦ ap (λ z. b ∷ z) (take-first_line bs)
    ]

drop-first_line : (t : Text) → drop (suc (length (first_line t))) t ≡ after_line t
drop-first_line [] = refl
drop-first_line (b ∷ bs) =
    elim (b == 10) as (λ k. drop (suc (length (if k then [] else b ∷ first_line bs))) (b ∷ bs) ≡ (if k then bs else after_line bs)) [
      | true ↦ refl
      | false ↦ drop-first_line bs
    ]

drop-suc : (n : ℕ) (t : Text) → drop (suc n) t ≡ drop 1 (drop n t)
drop-suc zero t = refl
drop-suc (suc n) [] = refl
drop-suc (suc n) (b ∷ bs) = drop-suc n bs

lines_of-cons : (b : ℕ) (bs : Text) → lines_of (b ∷ bs) ≡ first_line (b ∷ bs) ∷ lines_of (after_line (b ∷ bs))
lines_of-cons b [] =
    elim (b == 10) as (λ k. (if k then [] ∷ [] else (b ∷ []) ∷ []) ≡ (if k then [] else b ∷ []) ∷ lines_of (if k then [] else [])) [ true ↦ refl | false ↦ refl ]
lines_of-cons b (c ∷ cs) =
    elim (b == 10) as (λ k. (if k then [] ∷ lines_of (c ∷ cs) else onto_first b (lines_of (c ∷ cs))) ≡ (if k then [] else b ∷ first_line (c ∷ cs)) ∷ lines_of (if k then c ∷ cs else after_line (c ∷ cs))) [
      | true ↦ refl
      | false ↦ ap (onto_first b) (lines_of-cons c cs)
    ]

pub lines_cut : (t line after : Text) → 0 < length t → line ≡ take (length (first_line t)) t → after ≡ drop 1 (drop (length (first_line t)) t) → lines_of t ≡ line ∷ lines_of after
lines_cut [] line after h e f = absurd (omega arith)
lines_cut (b ∷ bs) line after h e f =
    let e' : line ≡ first_line (b ∷ bs) = e ∙ take-first_line (b ∷ bs) in
    let f' : after ≡ after_line (b ∷ bs) = f ∙ (sym (drop-suc (length (first_line (b ∷ bs))) (b ∷ bs)) ∙ drop-first_line (b ∷ bs)) in
    lines_of-cons b bs ∙ (ap (λ z. z ∷ lines_of (after_line (b ∷ bs))) (sym e') ∙ ap (λ z. line ∷ lines_of z) (sym f'))

-- where the first newline stands

first-none-by : (b : ℕ) (bs : Text) (z : Bool) → (b == 10) ≡ z → (z ≡ true → ⊥) → length (first_line bs) ≡ length bs → length (first_line (b ∷ bs)) ≡ suc (length bs)
first-none-by b bs true e other h = absurd (other refl)
first-none-by b bs false e other h = ap (λ z. length (if z then [] else b ∷ first_line bs)) e ∙ ap suc h

pub first-none : (t : Text) → Nowhere (Passes (is_byte 10) t) 0 (length t) → length (first_line t) ≡ length t
first-none [] none = refl
first-none (b ∷ bs) none =
    first-none-by b bs (b == 10) refl (λ e. none 0 (omega arith) (omega arith) e) (first-none bs (λ k low lt p. none (suc k) (omega arith) (omega arith) p))

first-at-by : (b n : ℕ) (bs : Text) (z : Bool) → (b == 10) ≡ z → (z ≡ true → ⊥) → length (first_line bs) ≡ n → length (first_line (b ∷ bs)) ≡ suc n
first-at-by b n bs true e other h = absurd (other refl)
first-at-by b n bs false e other h = ap (λ z. length (if z then [] else b ∷ first_line bs)) e ∙ ap suc h

pub first-at : (t : Text) (n : ℕ) → n < length t → Passes (is_byte 10) t n → Nowhere (Passes (is_byte 10) t) 0 n → length (first_line t) ≡ n
first-at [] n lt h none = absurd (omega arith)
first-at (b ∷ bs) zero lt h none = ap (λ z. length (if z then [] else b ∷ first_line bs)) h
first-at (b ∷ bs) (suc n) lt h none =
    first-at-by b n bs (b == 10) refl (λ e. none 0 (omega arith) (omega arith) e) (first-at bs n (omega arith) h (λ k low kn p. none (suc k) (omega arith) (omega arith) p))

-- a text may be cut behind each newline

onto-append : (b : ℕ) (ls more : List Text) (x : Text) (xs : List Text) → ls ≡ x ∷ xs → onto_first b (ls ++ more) ≡ onto_first b ls ++ more
onto-append b ls more x xs e = subst (λ (l : List Text). onto_first b (l ++ more) ≡ onto_first b l ++ more) (sym e) refl

cut-behind : (t : Text) (n : ℕ) → n < length t → Passes (is_byte 10) t n → lines_of t ≡ lines_of (take (suc n) t) ++ lines_of (drop (suc n) t)
cut-behind [] n lt h = absurd (omega arith)
cut-behind (b ∷ bs) zero lt h =
    subst (λ z. (if z then [] ∷ lines_of bs else onto_first b (lines_of bs)) ≡ (if z then [] ∷ [] else (b ∷ []) ∷ []) ++ lines_of bs) (sym h) refl
cut-behind (b ∷ []) (suc n) lt h = absurd (omega arith)
cut-behind (b ∷ c ∷ cs) (suc n) lt h =
    let rest : lines_of (c ∷ cs) ≡ lines_of (take (suc n) (c ∷ cs)) ++ lines_of (drop (suc n) (c ∷ cs)) = cut-behind (c ∷ cs) n (omega arith) h in
    elim (b == 10) as (λ z. (if z then [] ∷ lines_of (c ∷ cs) else onto_first b (lines_of (c ∷ cs))) ≡ (if z then [] ∷ lines_of (take (suc n) (c ∷ cs)) else onto_first b (lines_of (take (suc n) (c ∷ cs)))) ++ lines_of (drop (suc n) (c ∷ cs))) [
      | true ↦ ap (λ (ls : List Text). [] ∷ ls) rest
      | false ↦ ap (onto_first b) rest ∙ onto-append b (lines_of (c ∷ take n cs)) (lines_of (drop (suc n) (c ∷ cs))) _ _ (lines_of-cons c (take n cs))
    ]

pub cut-at : (t front : Text) (at n : ℕ) → front ≡ take at t → at ≤ length t → n < length front → Passes (is_byte 10) front n → lines_of t ≡ lines_of (take (n + 1) t) ++ lines_of (drop (n + 1) t)
cut-at t front at n e within lt h =
    let size : length front ≡ min at (length t) = ap length e ∙ length-take at t in
    let low : n < at = omega (arith, size) in
    let same : get_or front n 0 ≡ get_or t n 0 = ap (λ (xs : Text). get_or xs n 0) e ∙ get_or-take at t n 0 low in
    let next : suc n ≡ n + 1 = omega arith in
    subst (λ m. lines_of t ≡ lines_of (take m t) ++ lines_of (drop m t)) next (cut-behind t n (omega arith) (subst (λ x. (x == 10) ≡ true) same h))

pub start-within : (t front : Text) (at n : ℕ) → front ≡ take at t → n < length front → n + 1 ≤ at
start-within t front at n e lt = let size : length front ≡ min at (length t) = ap length e ∙ length-take at t in omega (arith, size)

-- what stands before the first such byte lacks it
pub lacks-before : (t : Text) (b n m : ℕ) → m ≤ n → Nowhere (Passes (is_byte b) t) 0 n → Lacks (take m t) b
lacks-before t b n m le none = λ k h.
    (let within : k < length (take m t) = slice_get_within (take m t) k b h in
    let size : length (take m t) ≡ min m (length t) = length-take m t in
    let low : k < m = omega (arith, size) in
    let same : get_or t k 0 ≡ b = sym (get_or-take m t k 0 low) ∙ get_or_from_slice_get (take m t) k b 0 h in
    none k (omega arith) (omega arith) (eq-eqb (get_or t k 0) b same))

pub cut-all : (t : Text) → lines_of t ≡ lines_of (take (length t) t) ++ lines_of (drop (length t) t)
cut-all t =
    let whole : take (length t) t ≡ t = take_all (length t) t (omega arith) in
    let none : drop (length t) t ≡ [] = drop_all (length t) t (omega arith) in
    sym (append-nil (lines_of t)) ∙ (ap (λ (xs : Text). lines_of xs ++ []) (sym whole) ∙ ap (λ (xs : Text). lines_of (take (length t) t) ++ lines_of xs) (sym none))
