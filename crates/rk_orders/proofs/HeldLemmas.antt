-- Descriptors by names and by numbers.
use Rattle.std.proofs.Common.{◌≡◌, ℕ, zero, suc, ◌-◌, ◌<◌, List, [], ◌∷◌, ◌++◌, map, Bool, true, false, Option, Some, None, refl, sym, subst, arith}
use Rattle.std.proofs.lemmas.List.{append_assoc, append-nil}
use Rattle.std.specs.Prelude.{if◌then◌else◌, nat_lt, slice_get}
use Rattle.rk_calls.specs.RefMaps.{number_of}
use Rattle.rk_calls.specs.Refs.{RefsHeld, at_number as number_at, flat as flat_number, passed_refs, ref_at, ten, top_refs, with_opened}
use Rattle.rk_calls.specs.declared.answer.Answer.{Answer}
use Rattle.rk_calls.specs.declared.answer.Answer.TheVariants as answer
use Rattle.rk_feet.specs.Named.{Name, Given}
use Rattle.rk_feet.specs.Simulates.{Lasts}
use Rattle.rk_feet.specs.Told.{StandsFor}
use Rattle.rk_feet.specs.World.{World}
use Rattle.rk_orders.specs.Held.{Held, at_number, flat, if_opened, named_at, passed_held, top_held, with_opens}
use Rattle.rk_orders.proofs.AnsweredLemmas.{refs_opened}

-- a name and a number stand for one description, or both for none
abbrev pub StandAs : World → Option Name → Option ℕ → Type 0
StandAs w None None = Unit {0}
StandAs w None (Some n) = ⊥
StandAs w (Some x) None = ⊥
StandAs w (Some x) (Some n) = w.opens.number_of x ≡ Some n

abbrev pub ArePassed : World → List (Option Name) → List (Option ℕ) → Type 0
ArePassed w [] [] = Unit {0}
ArePassed w [] (p ∷ ps) = ⊥
ArePassed w (o ∷ os) [] = ⊥
ArePassed w (o ∷ os) (p ∷ ps) = StandAs w o p × ArePassed w os ps

abbrev pub AreOpened : World → List Name → List ℕ → Type 0
AreOpened w [] [] = Unit {0}
AreOpened w [] (n ∷ ns) = ⊥
AreOpened w (x ∷ xs) [] = ⊥
AreOpened w (x ∷ xs) (n ∷ ns) = (w.opens.number_of x ≡ Some n) × AreOpened w xs ns

pub record IsHeld (w : World) (held : Held) (refs : RefsHeld) : Type 0 where
  pub passed : ArePassed w held.passed refs.passed
  pub opened : AreOpened w held.opened refs.opened

module _ (w : World) where
  get-passed : (os : List (Option Name)) (ps : List (Option ℕ)) (r : ℕ) → ArePassed w os ps → StandAs w (flat (slice_get os r)) (flat_number (slice_get ps r))
  get-passed [] [] r h = tt
  get-passed [] (p ∷ ps) r h = absurd h
  get-passed (o ∷ os) [] r h = absurd h
  get-passed (o ∷ os) (p ∷ ps) zero h = h.0
  get-passed (o ∷ os) (p ∷ ps) (suc r) h = get-passed os ps r h.1

  get-opened : (xs : List Name) (ns : List ℕ) (r : ℕ) → AreOpened w xs ns → StandAs w (slice_get xs r) (slice_get ns r)
  get-opened [] [] r h = tt
  get-opened [] (n ∷ ns) r h = absurd h
  get-opened (x ∷ xs) [] r h = absurd h
  get-opened (x ∷ xs) (n ∷ ns) zero h = h.0
  get-opened (x ∷ xs) (n ∷ ns) (suc r) h = get-opened xs ns r h.1

  pub stand-at : (held : Held) (refs : RefsHeld) → IsHeld w held refs → (r : ℕ) → StandAs w (named_at held r) (ref_at refs r)
  unfolding ref_at
  stand-at held refs h r = go (nat_lt r 10)
    where
      go : (b : Bool) → StandAs w (if b then flat (slice_get held.passed r) else slice_get held.opened (r - 10))
          (if b then flat_number (slice_get refs.passed r) else slice_get refs.opened (r - 10))
      go true = get-passed held.passed refs.passed r h.passed
      go false = get-opened held.opened refs.opened (r - 10) h.opened

  pub stands-for : (held : Held) (refs : RefsHeld) → IsHeld w held refs → (r : ℕ) → StandsFor w refs r (named_at held r)
  stands-for held refs h r = go (named_at held r) (ref_at refs r) refl (stand-at held refs h r)
    where
      go : (o : Option Name) (p : Option ℕ) → ref_at refs r ≡ p → StandAs w o p → StandsFor w refs r o
      go None None e s = e
      go None (Some n) e s = absurd s
      go (Some x) None e s = absurd s
      go (Some x) (Some n) e s = (n, e, s)

  -- what is passed on
  pub passed-on : (held : Held) (refs : RefsHeld) (pairs : List (ℕ × ℕ)) → IsHeld w held refs → IsHeld w (passed_held held pairs) (passed_refs refs pairs)
  unfolding passed_refs
  passed-on held refs pairs h = record { passed = go ten; opened = tt }
    where
      one : (o : Option ℕ) → StandAs w (at_number held o) (number_at refs o)
      one None = tt
      one (Some r) = stand-at held refs h r

      go : (ds : List ℕ) → ArePassed w (map (λ d. at_number held (number_of d pairs)) ds) (map (λ d. number_at refs (number_of d pairs)) ds)
      go [] = tt
      go (d ∷ ds) = (one (number_of d pairs), go ds)

  -- what is opened
  pub opened-on : (xs ys : List Name) (ns ms : List ℕ) → AreOpened w xs ns → AreOpened w ys ms → AreOpened w (xs ++ ys) (ns ++ ms)
  opened-on [] ys [] ms h k = k
  opened-on [] ys (n ∷ ns) ms h k = absurd h
  opened-on (x ∷ xs) ys [] ms h k = absurd h
  opened-on (x ∷ xs) ys (n ∷ ns) ms h k = (h.0, opened-on xs ys ns ms h.1 k)

  pub none-more : (held : Held) (refs : RefsHeld) → IsHeld w held refs → IsHeld w (with_opens held []) refs
  none-more held refs h = record { passed = h.passed; opened = subst (λ xs. AreOpened w xs refs.opened) (sym (append-nil held.opened)) h.opened }

  pub one-more : (held : Held) (refs : RefsHeld) (x : Name) (n : ℕ) → IsHeld w held refs → w.opens.number_of x ≡ Some n
      → IsHeld w (with_opens held (x ∷ [])) (with_opened refs n)
  one-more held refs x n h e = record { passed = h.passed; opened = opened-on held.opened (x ∷ []) refs.opened (n ∷ []) h.opened (e, tt) }

  pub two-more : (held : Held) (refs : RefsHeld) (x y : Name) (n m : ℕ) → IsHeld w held refs → w.opens.number_of x ≡ Some n → w.opens.number_of y ≡ Some m
      → IsHeld w (with_opens held (x ∷ y ∷ [])) (with_opened (with_opened refs n) m)
  two-more held refs x y n m h e f = record {
    passed = h.passed;
    opened = subst (AreOpened w (held.opened ++ x ∷ y ∷ [])) (sym (append_assoc refs.opened (n ∷ []) (m ∷ [])))
        (opened-on held.opened (x ∷ y ∷ []) refs.opened (n ∷ m ∷ []) h.opened (e, (f, tt)));
  }

  -- by the answer of Open
  pub opens-one : (held : Held) (refs : RefsHeld) (x : Name) (n : ℕ) (it : Answer) → IsHeld w held refs → (it ≡ answer.Opened → w.opens.number_of x ≡ Some n)
      → IsHeld w (with_opens held (if_opened it (x ∷ []))) (refs_opened it (with_opened refs n) refs)
  opens-one held refs x n answer.Opened h e = one-more held refs x n h (e refl)
  opens-one held refs x n _ h e = none-more held refs h

-- what stands for a description does so ever after

module _ (w v : World) (lasts : Lasts w v) where
  stand-after : (o : Option Name) (p : Option ℕ) → StandAs w o p → StandAs v o p
  stand-after None None h = tt
  stand-after None (Some n) h = h
  stand-after (Some x) None h = h
  stand-after (Some x) (Some n) h = lasts.opens x n h

  passed-after : (os : List (Option Name)) (ps : List (Option ℕ)) → ArePassed w os ps → ArePassed v os ps
  passed-after [] [] h = tt
  passed-after [] (p ∷ ps) h = h
  passed-after (o ∷ os) [] h = h
  passed-after (o ∷ os) (p ∷ ps) h = (stand-after o p h.0, passed-after os ps h.1)

  opened-after : (xs : List Name) (ns : List ℕ) → AreOpened w xs ns → AreOpened v xs ns
  opened-after [] [] h = tt
  opened-after [] (n ∷ ns) h = h
  opened-after (x ∷ xs) [] h = h
  opened-after (x ∷ xs) (n ∷ ns) h = (lasts.opens x n h.0, opened-after xs ns h.1)

  pub held-after : (held : Held) (refs : RefsHeld) → IsHeld w held refs → IsHeld v held refs
  held-after held refs h =
      record { passed = passed-after held.passed refs.passed h.passed; opened = opened-after held.opened refs.opened h.opened }

pub held-first : (w : World) → ((k : ℕ) → k < 3 → w.opens.number_of (Given k) ≡ Some k) → IsHeld w top_held top_refs
held-first w given = record { passed = (given 0 (omega arith), (given 1 (omega arith), (given 2 (omega arith), tt))); opened = tt }
