-- One pass over the definitions: each keeps what is alike in any view, wherever at most so many turns are left. As it is
-- that gives a definition's unfolding, cut that fewer turns only cut it, and properly that its calls are proper. Here what
-- comes after commands.
use Rattle.std.proofs.Common.{ℕ, zero, suc, ◌-◌, ◌≤◌, List, [], ◌∷◌, Option, Some, None, arith}
use Rattle.rk_base.specs.Text.{Text}
use Rattle.rk_calls.specs.declared.call.Call.{Call}
use Rattle.rk_calls.specs.declared.answer.Answer.{Answer}
use Rattle.rk_calls.specs.Proper.{IsProper}
use Rattle.rk_calls.specs.Views.{View, Alike, alike-ask}
use Rattle.sh_redirect.specs.DescriptorTable.{slot}
use Rattle.sh_means.specs.declared.flow.Flow.{Flow}
use Rattle.sh_means.specs.declared.flow.Flow.TheVariants.{Normal, Breaks, Continues, Returns}
use Rattle.sh_means.specs.declared.flow.Place.{Place}
use Rattle.sh_means.specs.State.{Shell, with_status, heard}
use Rattle.sh_means.specs.Flows.{Next, Go_on, Means, asks, told, tells, ends, and_then, by_status, leave, go_round, in_loop, returned, watch, watched, inverted_status, inverted}

-- each pair of two lists of one length
abbrev pub Each : {A : Type 0} → (A → A → Type 0) → List A → List A → Type 0
Each R [] [] = Unit {0}
Each R [] (y ∷ ys) = ⊥
Each R (x ∷ xs) [] = ⊥
Each R (x ∷ xs) (y ∷ ys) = R x y × Each R xs ys

module _ (v : View) where
  -- what comes after, wherever at most P turns are left
  abbrev pub Below : ℕ → Next → Next → Type 0
  Below P k k' = (f : Flow) (e : Shell) (p : ℕ) → p ≤ P → Alike v p (k f e) (k' f e)

  abbrev pub Goes : ℕ → Go_on → Go_on → Type 0
  Goes P g g' = (e : Shell) (p : ℕ) → p ≤ P → Alike v p (g e) (g' e)

  abbrev pub SameMeans : ℕ → Means → Means → Type 0
  SameMeans P m m' = (pl : Place) (e : Shell) (p : ℕ) (k k' : Next) → p ≤ P → Below p k k' → Alike v p (m pl e k) (m' pl e k')

  pub lower : (P p : ℕ) (k k' : Next) → p ≤ P → Below P k k' → Below p k k'
  lower P p k k' le h f e p' le' = h f e p' (omega arith)

  pub means-down : (P p : ℕ) (m m' : Means) → p ≤ P → SameMeans P m m' → SameMeans p m m'
  means-down P p m m' le s pl e q k k' le' hk = s pl e q k k' (omega arith) hk

  pub all-down : (P p : ℕ) (ms ms' : List Means) → p ≤ P → Each (SameMeans P) ms ms' → Each (SameMeans p) ms ms'
  all-down P p [] [] le s = tt
  all-down P p [] (m ∷ ms) le s = absurd s
  all-down P p (m ∷ ms) [] le s = absurd s
  all-down P p (m ∷ ms) (m' ∷ ms') le s = (means-down P p m m' le s.0, all-down P p ms ms' le s.1)

  -- Lines of error text.

  pub asks-alike : (P : ℕ) (call : Call) (c : ℕ) (k k' : Answer → Go_on) → IsProper call → ((a : Answer) → Goes P (k a) (k' a)) → Goes P (asks call c k) (asks call c k')
  asks-alike P call c k k' proper h e p le =
      alike-ask v p call c (λ a. k a (heard a e)) (λ a. k' a (heard a e)) proper (λ lt a. h a (heard a e) (p - c) (omega arith))

  told-alike : (P : ℕ) (o : Option ℕ) (line : Text) (g g' : Go_on) → Goes P g g' → Goes P (told o line g) (told o line g')
  told-alike P None line g g' h = h
  told-alike P (Some n) line g g' h = asks-alike P _ _ (λ a. g) (λ a. g') tt (λ a. h)

  pub tells-alike : (P : ℕ) (line : Text) (g g' : Go_on) → Goes P g g' → Goes P (tells line g) (tells line g')
  tells-alike P line g g' h e p le = told-alike P (slot e.descriptors 2) line g g' h e p le

  -- Flows.

  pub ends-alike : (P : ℕ) (f : Flow) (n : ℕ) (k k' : Next) → Below P k k' → Goes P (ends f n k) (ends f n k')
  ends-alike P f n k k' h e p le = h f (with_status n e) p le

  pub and_then-alike : (P : ℕ) (g g' : Go_on) (k k' : Next) → Goes P g g' → Below P k k' → Below P (and_then g k) (and_then g' k')
  and_then-alike P g g' k k' hg hk Normal = hg
  and_then-alike P g g' k k' hg hk flow = hk flow

  pub by_status-alike : (P s : ℕ) (g g' h h' : Go_on) → Goes P g g' → Goes P h h' → Goes P (by_status s g h) (by_status s g' h')
  by_status-alike P zero g g' h h' hg hh = hg
  by_status-alike P (suc s) g g' h h' hg hh = hh

  go_round-alike : (P n : ℕ) (g g' : Go_on) (k k' : Next) → Goes P g g' → Below P k k' → Goes P (go_round n g k) (go_round n g' k')
  go_round-alike P zero g g' k k' hg hk = hg
  go_round-alike P (suc n) g g' k k' hg hk = hk (Continues n)

  pub in_loop-alike : (P : ℕ) (g g' h h' : Go_on) (k k' : Next) → Goes P g g' → Goes P h h' → Below P k k' → Below P (in_loop g h k) (in_loop g' h' k')
  in_loop-alike P g g' h h' k k' hg hh hk (Breaks n) = hk (leave n)
  in_loop-alike P g g' h h' k k' hg hh hk (Continues n) = go_round-alike P n h h' k k' hh hk
  in_loop-alike P g g' h h' k k' hg hh hk flow = and_then-alike P g g' k k' hg hk flow

  pub returned-alike : (P : ℕ) (k k' : Next) → Below P k k' → Below P (returned k) (returned k')
  returned-alike P k k' h Returns = h Normal
  returned-alike P k k' h flow = h flow

  pub watched-alike : (P : ℕ) (pl : Place) (k k' : Next) → Below P k k' → Below P (watched pl k) (watched pl k')
  watched-alike P pl k k' h = and_then-alike P (λ e. k (watch pl e) e) (λ e. k' (watch pl e) e) k k' (λ e p le. h (watch pl e) e p le) h

  pub inverted-alike : (P : ℕ) (k k' : Next) → Below P k k' → Below P (inverted k) (inverted k')
  inverted-alike P k k' h =
      let x : Go_on = λ e. k Normal (with_status (inverted_status e.env.status) e) in
      let x' : Go_on = λ e. k' Normal (with_status (inverted_status e.env.status) e) in
      and_then-alike P x x' k k' (λ e p le. h Normal (with_status (inverted_status e.env.status) e) p le) h
