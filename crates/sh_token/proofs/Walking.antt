-- Delimiters and bodies of here-documents, step by step.
use Rattle.std.proofs.Common.{◌≡◌, ◌≤◌, ℕ, ◌+◌, List, [], ◌∷◌, ◌++◌, Bool, true, false, refl, sym, ap, ◌∙◌, arith, drop, length, length-drop, ◌⊎◌, inl, inr}
use Rattle.std.specs.Prelude.{if◌then◌else◌, ◌==◌, slice_index}
use Rattle.sh_token.specs.declared.delimiter.Within.{Within}
use Rattle.sh_token.specs.declared.delimiter.Within.TheVariants as w
use Rattle.sh_token.specs.declared.delimiter.DelimiterStep.{DelimiterStep}
use Rattle.sh_token.specs.declared.delimiter.DelimiterStep.TheVariants as s
use Rattle.sh_token.specs.Bytes.{◌or◌, ◌also◌, is_end}
use Rattle.sh_token.specs.HereDocuments.{Walk, further, stopped, walked, at_end, step, step_at, nowhere, walk, one_left, two_left, left, nothing, delimiter_of}

-- so many bytes went by of a delimiter
pub record Walked (whole rest : List ℕ) (x : Within) (count : ℕ) : Type 0 where
  pub same : walk w.Bare whole ≡ further count (walk x rest)
  pub counts : count + length rest ≡ length whole

further_more : (a b : ℕ) (x : Walk) → further a (further b x) ≡ further (a + b) x
further_more a b x = let e : a + (b + x.count) ≡ (a + b) + x.count = omega arith in ap (λ n. record { count = n; ends = x.ends }) e

no_step : (x : Within) (t : DelimiterStep) → at_end x ≡ t → (t ≡ s.Ends) ⊎ (t ≡ s.Fails)
no_step w.Bare t h = inl (sym h)
no_step w.Single t h = inr (sym h)
no_step w.Double t h = inr (sym h)

abbrev NotTwo : DelimiterStep → Type 0
NotTwo t = (y : Within) → t ≡ s.Two y → ⊥

two_if : (b : Bool) (t u : DelimiterStep) → NotTwo t → NotTwo u → NotTwo (if b then t else u)
two_if true t u f g = f
two_if false t u f g = g

one_not : (x : Within) → NotTwo (s.One x)
one_not x y e = cc

last_not : (x : Within) (c : ℕ) → NotTwo (step x c 0 false)
last_not w.Bare c =
    two_if (is_end c or c == 96) _ _ (λ y e. cc)
    (two_if (c == 39) _ _ (one_not w.Single) (two_if (c == 34) _ _ (one_not w.Double) (two_if (c == 92 also false) _ _ (λ y e. cc) (one_not w.Bare))))
last_not w.Single c = two_if (c == 39) _ _ (one_not w.Bare) (two_if (c == 0) _ _ (λ y e. cc) (one_not w.Single))
last_not w.Double c =
    two_if (c == 34) _ _ (one_not w.Bare) (two_if (c == 0 or c == 96) _ _ (λ y e. cc) (two_if (c == 92 also false) _ _ (λ y e. cc) (one_not w.Double)))

one_walk : (x y : Within) (ts : List ℕ) → step_at x ts ≡ s.One y → (walk x ts ≡ further 1 (walk y (drop 1 ts))) × (1 ≤ length ts)
one_walk w.Bare y [] h = cc
one_walk w.Single y [] h = cc
one_walk w.Double y [] h = cc
one_walk x y (c ∷ []) h = (ap (λ t. walked t (λ y. walked (at_end y) nowhere nowhere) nowhere) h, omega arith)
one_walk x y (c ∷ (d ∷ cs)) h = (ap (λ t. walked t (λ y. walk y (d ∷ cs)) (λ y. walk y cs)) h, omega arith)

two_walk : (x y : Within) (ts : List ℕ) → step_at x ts ≡ s.Two y → (walk x ts ≡ further 2 (walk y (drop 2 ts))) × (2 ≤ length ts)
two_walk w.Bare y [] h = cc
two_walk w.Single y [] h = cc
two_walk w.Double y [] h = cc
two_walk x y (c ∷ []) h = absurd (last_not x c y h)
two_walk x y (c ∷ (d ∷ cs)) h = (ap (λ t. walked t (λ y. walk y (d ∷ cs)) (λ y. walk y cs)) h, omega arith)

stop_walk : (x : Within) (ts : List ℕ) (b : Bool) (t : DelimiterStep) → walked t nowhere nowhere ≡ stopped b → (t ≡ s.Ends) ⊎ (t ≡ s.Fails) → step_at x ts ≡ t → walk x ts ≡ stopped b
stop_walk x [] b t h i e = ap (λ t. walked t nowhere nowhere) e ∙ h
stop_walk x (c ∷ []) b t h (inl i) e = ap (λ t. walked t (λ y. walked (at_end y) nowhere nowhere) nowhere) (e ∙ i) ∙ ap (λ t. walked t nowhere nowhere) (sym i) ∙ h
stop_walk x (c ∷ []) b t h (inr i) e = ap (λ t. walked t (λ y. walked (at_end y) nowhere nowhere) nowhere) (e ∙ i) ∙ ap (λ t. walked t nowhere nowhere) (sym i) ∙ h
stop_walk x (c ∷ (d ∷ cs)) b t h (inl i) e = ap (λ t. walked t (λ y. walk y (d ∷ cs)) (λ y. walk y cs)) (e ∙ i) ∙ ap (λ t. walked t nowhere nowhere) (sym i) ∙ h
stop_walk x (c ∷ (d ∷ cs)) b t h (inr i) e = ap (λ t. walked t (λ y. walk y (d ∷ cs)) (λ y. walk y cs)) (e ∙ i) ∙ ap (λ t. walked t nowhere nowhere) (sym i) ∙ h

no_more : (n : ℕ) → n + 0 ≡ n
no_more n = omega arith

further_none : (x : Walk) → x ≡ further 0 x
further_none x = let e : x.count ≡ 0 + x.count = omega arith in ap (λ n. record { count = n; ends = x.ends }) e

pub walk_begins : (whole : List ℕ) → Walked whole whole w.Bare 0
walk_begins whole = record { same = further_none (walk w.Bare whole); counts = omega arith }

pub walk_one : (whole rest : List ℕ) (x y : Within) (n : ℕ) → Walked whole rest x n → step_at x rest ≡ s.One y → Walked whole (drop 1 rest) y (n + 1)
walk_one whole rest x y n h e =
    let o = one_walk x y rest e in
    record {
      same = h.same ∙ ap (further n) o.0 ∙ further_more n 1 (walk y (drop 1 rest));
      counts = omega (arith, h.counts, o.1, length-drop 1 rest);
    }

pub walk_two : (whole rest : List ℕ) (x y : Within) (n : ℕ) → Walked whole rest x n → step_at x rest ≡ s.Two y → Walked whole (drop 2 rest) y (n + 2)
walk_two whole rest x y n h e =
    let o = two_walk x y rest e in
    record {
      same = h.same ∙ ap (further n) o.0 ∙ further_more n 2 (walk y (drop 2 rest));
      counts = omega (arith, h.counts, o.1, length-drop 2 rest);
    }

pub walk_ends : (whole rest : List ℕ) (x : Within) (n : ℕ) → Walked whole rest x n → step_at x rest ≡ s.Ends → walk w.Bare whole ≡ record { count = n; ends = true }
walk_ends whole rest x n h e =
    h.same ∙ ap (further n) (stop_walk x rest true s.Ends refl (inl refl) e) ∙ ap (λ n. record { count = n; ends = true }) (no_more n)

pub walk_fails : (whole rest : List ℕ) (x : Within) (n : ℕ) → Walked whole rest x n → step_at x rest ≡ s.Fails → walk w.Bare whole ≡ record { count = n; ends = false }
walk_fails whole rest x n h e =
    h.same ∙ ap (further n) (stop_walk x rest false s.Fails refl (inr refl) e) ∙ ap (λ n. record { count = n; ends = false }) (no_more n)

pub within_one : (x y : Within) (ts : List ℕ) → step_at x ts ≡ s.One y → 1 ≤ length ts
within_one x y ts h = (one_walk x y ts h).1

pub within_two : (x y : Within) (ts : List ℕ) → step_at x ts ≡ s.Two y → 2 ≤ length ts
within_two x y ts h = (two_walk x y ts h).1

-- the delimiter itself
pub one_delimiter : (x y : Within) (ts : List ℕ) → step_at x ts ≡ s.One y → delimiter_of x ts ≡ one_left x (slice_index ts 0) ++ delimiter_of y (drop 1 ts)
one_delimiter w.Bare y [] h = cc
one_delimiter w.Single y [] h = cc
one_delimiter w.Double y [] h = cc
one_delimiter x y (c ∷ []) h = ap (λ t. left t (one_left x c) [] nothing nothing) h
one_delimiter x y (c ∷ (d ∷ cs)) h = ap (λ t. left t (one_left x c) (two_left x d) (λ y. delimiter_of y (d ∷ cs)) (λ y. delimiter_of y cs)) h

pub two_delimiter : (x y : Within) (ts : List ℕ) → step_at x ts ≡ s.Two y → delimiter_of x ts ≡ two_left x (slice_index ts 1) ++ delimiter_of y (drop 2 ts)
two_delimiter w.Bare y [] h = cc
two_delimiter w.Single y [] h = cc
two_delimiter w.Double y [] h = cc
two_delimiter x y (c ∷ []) h = absurd (last_not x c y h)
two_delimiter x y (c ∷ (d ∷ cs)) h = ap (λ t. left t (one_left x c) (two_left x d) (λ y. delimiter_of y (d ∷ cs)) (λ y. delimiter_of y cs)) h

pub no_delimiter : (x : Within) (ts : List ℕ) → (step_at x ts ≡ s.Ends) ⊎ (step_at x ts ≡ s.Fails) → delimiter_of x ts ≡ []
no_delimiter x [] h = refl
no_delimiter x (c ∷ []) (inl h) = ap (λ t. left t (one_left x c) [] nothing nothing) h
no_delimiter x (c ∷ []) (inr h) = ap (λ t. left t (one_left x c) [] nothing nothing) h
no_delimiter x (c ∷ (d ∷ cs)) (inl h) = ap (λ t. left t (one_left x c) (two_left x d) (λ y. delimiter_of y (d ∷ cs)) (λ y. delimiter_of y cs)) h
no_delimiter x (c ∷ (d ∷ cs)) (inr h) = ap (λ t. left t (one_left x c) (two_left x d) (λ y. delimiter_of y (d ∷ cs)) (λ y. delimiter_of y cs)) h
