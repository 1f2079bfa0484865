-- Reading one after the other, as a loop does.
use Rattle.std.proofs.Common.{◌≡◌, ℕ, suc, ◌-◌, ◌+◌, ◌≤◌, ◌<◌, List, [], ◌∷◌, ◌++◌, Option, Some, None, length, take, get_or, refl, sym, ap, subst, ◌∙◌, arith}
use Rattle.std.specs.List.{AllByRecursion}
use Rattle.std.proofs.lemmas.List.{take_more, take_all}
use Rattle.tr_parts.specs.declared.fault.PartErr.{PartErr}
use Rattle.tr_parts.specs.declared.fault.PartErr.TheVariants.{Form, NoMemory}
use Rattle.tr_parts.specs.Reads.{Fails}
use Rattle.tr_parts.specs.Reading.{many_at}

module _ {A : Type 0} (one : List A → List ℕ → Option (A × List ℕ)) where
  -- nothing was read yet
  pub starts : (count : ℕ) (bytes : List ℕ) → many_at one (count - 0) [] bytes ≡ many_at one count [] bytes
  starts count bytes = let all : count - 0 ≡ count = omega arith in ap (λ (n : ℕ). many_at one n [] bytes) all

  -- one more was read
  pub goes_on : (front : List A) (count i : ℕ) (bytes : List ℕ) (x : A) (after : List ℕ) (total : Option (List A × List ℕ)) → i < count → one front bytes ≡ Some (x, after)
      → many_at one (count - i) front bytes ≡ total → many_at one (count - (i + 1)) (front ++ x ∷ []) after ≡ total
  unfolding many_at
  goes_on front count i bytes x after total lt h so_far =
      let k : count - i ≡ suc (count - (i + 1)) = omega arith in
      let step : many_at one (count - i) front bytes ≡ many_at one (count - (i + 1)) (front ++ x ∷ []) after = rw (k, h) refl in
      sym step ∙ so_far

  -- where one isn't read, they aren't
  pub ends : (e : PartErr) (front : List A) (count i : ℕ) (bytes : List ℕ) (total : Option (List A × List ℕ)) → i < count → Fails e (one front bytes)
      → many_at one (count - i) front bytes ≡ total → Fails e total
  unfolding many_at
  ends NoMemory front count i bytes total lt h so_far = tt
  ends Form front count i bytes total lt h so_far =
      let k : count - i ≡ suc (count - (i + 1)) = omega arith in
      let step : many_at one (count - i) front bytes ≡ None = rw (k, h) refl in
      sym so_far ∙ step

  -- after the last
  pub is_done : (front : List A) (count i : ℕ) (bytes : List ℕ) (total : Option (List A × List ℕ)) → count ≤ i → many_at one (count - i) front bytes ≡ total → total ≡ Some (front, bytes)
  unfolding many_at
  is_done front count i bytes total le so_far =
      let k : count - i ≡ 0 = omega arith in
      let step : many_at one (count - i) front bytes ≡ Some (front, bytes) = rw k refl in
      sym so_far ∙ step

all-push : {X : Type 0} (P : X → Type 0) (xs : List X) (x : X) → AllByRecursion P xs → P x → AllByRecursion P (xs ++ x ∷ [])
all-push P [] x h p = (p, tt)
all-push P (y ∷ ys) x h p = (h.0, all-push P ys x h.1 p)

-- what holds of all items before one, and of it, holds of one item more
pub all_next : {X : Type 0} (P : X → Type 0) (xs : List X) (i : ℕ) (d x : X) → i < length xs → x ≡ get_or xs i d → P x → AllByRecursion P (take i xs) → AllByRecursion P (take (i + 1) xs)
all_next P xs i d x lt e p h = subst (AllByRecursion P) (sym (take_more xs i d lt)) (all-push P (take i xs) (get_or xs i d) h (subst P e p))

pub all_done : {X : Type 0} (P : X → Type 0) (xs : List X) (i : ℕ) → length xs ≤ i → AllByRecursion P (take i xs) → AllByRecursion P xs
all_done P xs i le h = subst (AllByRecursion P) (take_all i xs le) h
