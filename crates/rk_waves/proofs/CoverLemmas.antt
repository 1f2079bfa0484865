-- Feet that have all cells of others conflict where these do.
use Rattle.std.proofs.Common.{◌≡◌, List, [], ◌∷◌, Bool, true, false, not, ◌&&◌, ◌||◌, refl, sym, ap₂, true≢false}
use Rattle.rk_waves.specs.System.{System, has, meets, meets_plainly}
use Rattle.rk_waves.specs.Tests.{both-of, one-of, or-left, or-right}
use Rattle.rk_waves.specs.Waves.{ConflictByMore}

module _ {World Step Cell Value Answer : Type 0} (g : System World Step Cell Value Answer) (same_cell : (c d : Cell) → g.same c d ≡ true → c ≡ d)
    (itself : (c : Cell) → g.same c c ≡ true) where
  abbrev Among : List Cell → List Cell → Type 0
  Among less more = (c : Cell) → has g less c ≡ true → has g more c ≡ true

  first-among : (c : Cell) (cs more : List Cell) → Among (c ∷ cs) more → has g more c ≡ true
  first-among c cs more h = h c (or-left (g.same c c) (has g cs c) (itself c))

  rest-among : (c : Cell) (cs more : List Cell) → Among (c ∷ cs) more → Among cs more
  rest-among c cs more h d e = h d (or-right (g.same c d) (has g cs d) e)

  -- a cell that is among both is so among those that have more
  meets-at : (more ds : List Cell) (c : Cell) → has g more c ≡ true → has g ds c ≡ true → meets g more ds ≡ true
  meets-at [] ds c h k = absurd (true≢false (sym h))
  meets-at (x ∷ xs) ds c h k =
      one-of (g.same x c) (has g xs c) h
      (λ e. or-left (has g ds x) (meets g xs ds) (rw (same_cell x c e) k))
      (λ e. or-right (has g ds x) (meets g xs ds) (meets-at xs ds c e k))

  plainly-at : (more ds : List Cell) (c : Cell) → has g more c ≡ true → g.gathers c ≡ false → has g ds c ≡ true → meets_plainly g more ds ≡ true
  plainly-at [] ds c h f k = absurd (true≢false (sym h))
  plainly-at (x ∷ xs) ds c h f k =
      one-of (g.same x c) (has g xs c) h
      (λ e. or-left (not (g.gathers x) && has g ds x) (meets_plainly g xs ds) (rw (same_cell x c e) (ap₂ (λ a b. not a && b) f k)))
      (λ e. or-right (not (g.gathers x) && has g ds x) (meets_plainly g xs ds) (plainly-at xs ds c e f k))

  meets-more : (cs ds cs' ds' : List Cell) → Among cs cs' → Among ds ds' → meets g cs ds ≡ true → meets g cs' ds' ≡ true
  meets-more [] ds cs' ds' h k e = absurd (true≢false (sym e))
  meets-more (c ∷ cs) ds cs' ds' h k e =
      one-of (has g ds c) (meets g cs ds) e (λ here. meets-at cs' ds' c (first-among c cs cs' h) (k c here))
      (λ later. meets-more cs ds cs' ds' (rest-among c cs cs' h) k later)

  plain : (b : Bool) → not b ≡ true → b ≡ false
  plain true e = absurd (true≢false (sym e))
  plain false e = refl

  plainly-more : (cs ds cs' ds' : List Cell) → Among cs cs' → Among ds ds' → meets_plainly g cs ds ≡ true → meets_plainly g cs' ds' ≡ true
  plainly-more [] ds cs' ds' h k e = absurd (true≢false (sym e))
  plainly-more (c ∷ cs) ds cs' ds' h k e =
      one-of (not (g.gathers c) && has g ds c) (meets_plainly g cs ds) e
      (λ here. let both = both-of (not (g.gathers c)) (has g ds c) here in
      plainly-at cs' ds' c (first-among c cs cs' h) (plain (g.gathers c) both.0) (k c both.1))
      (λ later. plainly-more cs ds cs' ds' (rest-among c cs cs' h) k later)

  pub conflict-more : ConflictByMore g
  conflict-more a b a' b' h k e =
      one-of (meets g a.writes b.reads) (meets g b.writes a.reads || meets_plainly g a.writes b.writes) e
      (λ m. or-left (meets g a'.writes b'.reads) _ (meets-more a.writes b.reads a'.writes b'.reads h.writes k.reads m))
      (λ o. or-right (meets g a'.writes b'.reads) _
      (one-of (meets g b.writes a.reads) (meets_plainly g a.writes b.writes) o
      (λ m. or-left (meets g b'.writes a'.reads) _ (meets-more b.writes a.reads b'.writes a'.reads k.writes h.reads m))
      (λ m. or-right (meets g b'.writes a'.reads) _ (plainly-more a.writes b.writes a'.writes b'.writes h.writes k.writes m))))
