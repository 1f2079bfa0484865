-- The theorem.
use Rattle.std.proofs.Common.{ℕ, ◌≤◌, List, [], ◌∷◌, sym, subst, inl, inr}
use Rattle.std.specs.Prelude.{◌==◌}
use Rattle.std.proofs.lemmas.Bool.Decides.{eqb_tells}
use Rattle.rk_waves.specs.System.{System, IsLawful}
use Rattle.rk_waves.specs.Goes.{Told, Goes}
use Rattle.rk_waves.specs.Waves.{Move, Placed, Each, own, moves_in, moves_of, placed, InWaves, InWavesApart}
use Rattle.rk_waves.proofs.Listing.{Rising, each-join, filter-here, filter-there}
use Rattle.rk_waves.proofs.Sorting.{Waved, MayComeAfter, goes-sorted}
use Rattle.rk_waves.proofs.PlacedLemmas.{waved-apart, placed-apart, all-from_one, tolds-placed}
use Rattle.rk_waves.proofs.Rounds.{rising-rounds, keeps-rounds}

each-move : {T : Type 0} (P : ℕ → Type 0) (qs : List (Placed T)) → Each (λ q. P q.wave) qs → Each (λ m. P m.wave) (moves_of qs)
each-move P [] h = tt
each-move {T} P (q ∷ qs) h = each-join (λ m. P m.wave) (moves_in q.wave q.piece.owner q.piece.steps) (moves_of qs) (go q.piece.steps) (each-move P qs h.1)
  where
    go : (ts : List T) → Each (λ m. P m.wave) (moves_in q.wave q.piece.owner ts)
    go [] = tt
    go (t ∷ ts) = (h.0, go ts)

module _ {World Step Cell Value Answer : Type 0} (g : System World Step Cell Value Answer) (law : IsLawful g) where
  -- each command's steps are in rising waves
  own-rising : (ms : List (Move (Told Step Cell Answer))) → Waved g ms → (o : ℕ) → Rising (own o ms)
  own-rising [] h o = tt
  own-rising (m ∷ ms) h o =
      elim (eqb_tells m.owner o) [
        | inl e ↦
            subst Rising (sym (filter-here (λ m. m.owner == o) m ms e.0))
            (subst (λ o. Each (λ n. m.wave ≤ n.wave) (own o ms)) e.1 (own-later ms h.0), own-rising ms h.1 o)
        | inr e ↦ subst Rising (sym (filter-there (λ m. m.owner == o) m ms e.0)) (own-rising ms h.1 o)
      ]
    where
      own-later : (ns : List (Move (Told Step Cell Answer))) → Each (MayComeAfter g m) ns → Each (λ n. m.wave ≤ n.wave) (own m.owner ns)
      own-later [] k = tt
      own-later (n ∷ ns) k =
          elim (eqb_tells n.owner m.owner) [
            | inl e ↦ subst (Each (λ n. m.wave ≤ n.wave)) (sym (filter-here (λ x. x.owner == m.owner) n ns e.0)) (k.0.own (sym e.1), own-later ns k.1)
            | inr e ↦ subst (Each (λ n. m.wave ≤ n.wave)) (sym (filter-there (λ x. x.owner == m.owner) n ns e.0)) (own-later ns k.1)
          ]

  pub in-waves-apart : InWavesApart g
  in-waves-apart start end run order k apart ones most goes keeps =
      let waved : Waved g (moves_of run) = waved-apart g run apart in
      goes-sorted g law (moves_of run) _ start end waved (rising-rounds (moves_of run) order keeps k)
      (keeps-rounds (moves_of run) order keeps (own-rising (moves_of run) waved) (each-move (λ n. 1 ≤ n) run ones) k (each-move (λ n. n ≤ k) run most))
      goes

  pub in-waves : InWaves g
  in-waves start end run order k goes keeps most =
      in-waves-apart start end (placed g run) order k (placed-apart g run) (all-from_one g [] run) most
      (subst (λ l. Goes g start l end) (sym (tolds-placed g [] run)) goes) keeps
