-- Any order of the steps that keeps each command's own, and wave after wave, goes as the run.
use Rattle.std.proofs.Common.{◌≡◌, ◌≢◌, ◌≤◌, ◌<◌, List, [], ◌∷◌, ◌++◌, true, false, inl, inr, refl, sym, ◌∙◌, ap, subst, arith}
use Rattle.std.proofs.lemmas.Bool.Decides.{eqb_tells}
use Rattle.rk_waves.specs.System.{System, conflict, IsLawful}
use Rattle.rk_waves.specs.Goes.{Told, Goes}
use Rattle.rk_waves.specs.Waves.{Move, Each, own, KeepsOwn, Follows, tolds}
use Rattle.rk_waves.proofs.Exchange.{exchange, alike-goes}
use Rattle.rk_waves.specs.Tests.{either}
use Rattle.rk_waves.proofs.Listing.{Rising, Standing, first_of_own, none_at_all, each-owner, each-left, kept-each, own-here, own-there, own-join, rising-left}
use Rattle.rk_waves.proofs.Listing.{rising-without}

module _ {World Step Cell Value Answer : Type 0} (g : System World Step Cell Value Answer) where
  -- a move may come after another
  abbrev pub MayComeAfter : Move (Told Step Cell Answer) → Move (Told Step Cell Answer) → Type 0
  MayComeAfter m n = Follows m.owner m.wave n.owner n.wave (conflict g m.told.foot n.told.foot)

  -- each may come after those before it
  abbrev pub Waved : List (Move (Told Step Cell Answer)) → Type 0
  Waved [] = Unit {0}
  Waved (m ∷ ms) = Each (MayComeAfter m) ms × Waved ms

  abbrev pub Free : Move (Told Step Cell Answer) → Move (Told Step Cell Answer) → Type 0
  Free m u = conflict g m.told.foot u.told.foot ≡ false

module _ {World Step Cell Value Answer : Type 0} (g : System World Step Cell Value Answer) (law : IsLawful g) where
  -- a step is taken after these in place of before them
  carry :
      (us vs : List (Move (Told Step Cell Answer))) (m : Move (Told Step Cell Answer)) (w end : World) → Each (Free g m) us
      → g.foot m.told.step w ≡ m.told.foot → g.answer m.told.step w ≡ m.told.answer
      → Goes g (g.after m.told.step w) (tolds (us ++ vs)) end → Goes g w (tolds (us ++ m ∷ vs)) end
  carry [] vs m w end free foot answer it = (foot, answer, it)
  carry (u ∷ us) vs m w end free foot answer it =
      let e = exchange g law m.told u.told w free.0 foot answer it.0 it.1 in
      (e.0, e.1, carry us vs m (g.after u.told.step w) end free.1 e.2 e.3 (alike-goes g law (tolds (us ++ vs)) _ _ end e.4 it.2))

  -- what stands before a command's first step and didn't in the run is free of it
  free-before :
      (us : List (Move (Told Step Cell Answer))) (m : Move (Told Step Cell Answer)) → Each (λ u. u.owner ≢ m.owner) us → Each (λ u. u.wave ≤ m.wave) us
      → Each (λ u. m.owner ≢ u.owner → MayComeAfter g m u) us → Each (Free g m) us
  free-before [] m others early later = tt
  free-before (u ∷ us) m others early later =
      (either (conflict g m.told.foot u.told.foot) (λ meets. absurd (late meets)) (λ free. free), free-before us m others.1 early.1 later.1)
    where
      differ : m.owner ≢ u.owner
      differ e = others.0 (sym e)

      late : conflict g m.told.foot u.told.foot ≡ true → ⊥
      late meets = let h : m.wave < u.wave = (later.0 differ).other differ meets in let k : u.wave ≤ m.wave = early.0 in omega arith

  -- without a command's first step the others keep their order
  kept-without :
      (ms : List (Move (Told Step Cell Answer))) (m : Move (Told Step Cell Answer)) (us vs : List (Move (Told Step Cell Answer)))
      → KeepsOwn (us ++ m ∷ vs) (m ∷ ms)
      → own m.owner us ≡ [] → own m.owner vs ≡ own m.owner ms → KeepsOwn (us ++ vs) ms
  kept-without ms m us vs keeps none rest o =
      elim (eqb_tells m.owner o) [
        | inl e ↦ subst (λ o. own o (us ++ vs) ≡ own o ms) e.1 (own-join m.owner us vs ∙ ap (λ l. l ++ own m.owner vs) none ∙ rest)
        | inr e ↦
            own-join o us vs ∙ ap (λ l. own o us ++ l) (sym (own-there o m vs e.0)) ∙ sym (own-join o us (m ∷ vs)) ∙ keeps o ∙ own-there o m ms e.0
      ]

  pub goes-sorted :
      (ms ns : List (Move (Told Step Cell Answer))) (w end : World) → Waved g ms → Rising ns → KeepsOwn ns ms → Goes g w (tolds ms) end
      → Goes g w (tolds ns) end
  goes-sorted [] ns w end waved rising keeps it = subst (λ l. Goes g w (tolds l) end) (sym (none_at_all ns keeps)) it
  goes-sorted (m ∷ ms) ns w end waved rising keeps it =
      subst (λ l. Goes g w (tolds l) end) (sym at.is)
      (carry at.before at.behind m w end
      (free-before at.before m (each-owner m.owner at.before at.none) (rising-left at.before at.behind m rises)
      (each-left (λ u. m.owner ≢ u.owner → MayComeAfter g m u) at.before (m ∷ at.behind)
      (subst (Each (λ u. m.owner ≢ u.owner → MayComeAfter g m u)) at.is
      (kept-each (λ u. m.owner ≢ u.owner → MayComeAfter g m u) (m ∷ ms) ns keeps (λ e. absurd (e refl), later ms waved.0)))))
      it.0 it.1
      (goes-sorted ms (at.before ++ at.behind) (g.after m.told.step w) end waved.1 (rising-without at.before at.behind m rises)
      (kept-without ms m at.before at.behind (subst (λ l. KeepsOwn l (m ∷ ms)) at.is keeps) at.none at.rest_is) it.2))
    where
      own_first : own m.owner (m ∷ ms) ≡ m ∷ own m.owner ms
      own_first = elim (eqb_tells m.owner m.owner) [ inl e ↦ own-here m.owner m ms e.0 | inr e ↦ absurd (e.1 refl) ]

      at : Standing m.owner ns m (own m.owner ms)
      at = first_of_own m.owner ns m (own m.owner ms) (keeps m.owner ∙ own_first)

      rises : Rising (at.before ++ m ∷ at.behind)
      rises = subst Rising at.is rising

      later : (ls : List (Move (Told Step Cell Answer))) → Each (MayComeAfter g m) ls → Each (λ u. m.owner ≢ u.owner → MayComeAfter g m u) ls
      later [] h = tt
      later (l ∷ ls) h = (λ _. h.0, later ls h.1)
