-- Steps without conflict change places.
use Rattle.std.proofs.Common.{◌≡◌, List, [], ◌∷◌, true, false, not, ◌&&◌, ◌||◌, sym, ◌∙◌, subst, true≢false}
use Rattle.rk_waves.specs.System.{System, has, meets, meets_plainly, conflict, AgreeOn, AgreePlainlyOn, Alike, IsLawful}
use Rattle.rk_waves.specs.Tests.{left-false, right-false, either}
use Rattle.rk_waves.specs.Goes.{Told, Goes}

module _ {World Step Cell Value Answer : Type 0} (g : System World Step Cell Value Answer) (law : IsLawful g) where
  -- a cell of the one is none of the other
  apart : (cs ds : List Cell) → meets g cs ds ≡ false → (c : Cell) → has g cs c ≡ true → has g ds c ≡ false
  apart [] ds e c h = absurd (true≢false (sym h))
  apart (d ∷ cs) ds e c h =
      either (g.same d c)
      (λ is. subst (λ x. has g ds x ≡ false) (law.same_cell d c is) (left-false (has g ds d) (meets g cs ds) e))
      (λ isnt. apart cs ds (right-false (has g ds d) (meets g cs ds) e) c (subst (λ b. (b || has g cs c) ≡ true) isnt h))

  plainly_apart : (cs ds : List Cell) → meets_plainly g cs ds ≡ false → (c : Cell) → has g cs c ≡ true → g.gathers c ≡ false → has g ds c ≡ false
  plainly_apart [] ds e c h plain = absurd (true≢false (sym h))
  plainly_apart (d ∷ cs) ds e c h plain =
      either (g.same d c)
      (λ is. subst (λ b. (not b && has g ds c) ≡ false) plain
      (subst (λ x. (not (g.gathers x) && has g ds x) ≡ false) (law.same_cell d c is) (left-false (not (g.gathers d) && has g ds d) (meets_plainly g cs ds) e)))
      (λ isnt. plainly_apart cs ds (right-false (not (g.gathers d) && has g ds d) (meets_plainly g cs ds) e) c (subst (λ b. (b || has g cs c) ≡ true) isnt h)
      plain)

  -- Worlds that are alike.

  pub alike-after : (s : Step) (w v : World) → Alike g w v → Alike g (g.after s w) (g.after s v)
  alike-after s w v h =
      law.gathered (g.after s w) (g.after s v) λ c plain.
      either (has g (g.foot s w).writes c)
      (λ is. law.leaves s w v (λ d _. h d) (λ d _ _. h d) c is plain)
      (λ isnt. law.stays s w c isnt ∙ h c ∙ sym (law.stays s v c (subst (λ f. has g f.writes c ≡ false) (sym (law.one_foot s w v (λ d _. h d))) isnt)))

  pub alike-goes : (ts : List (Told Step Cell Answer)) (w v end : World) → Alike g v w → Goes g w ts end → Goes g v ts end
  alike-goes [] w v end h e = λ c. h c ∙ e c
  alike-goes (t ∷ ts) w v end h it = (
    sym (law.one_foot t.step v w (λ c _. h c)) ∙ it.0,
    sym (law.one_answer t.step v w (λ c _. h c)) ∙ it.1,
    alike-goes ts (g.after t.step w) (g.after t.step v) end (alike-after t.step v w h) it.2,
  )

  -- The exchange.

  -- x, and then y, go so from a world
  pub exchange :
      (x y : Told Step Cell Answer) (w : World) → conflict g x.foot y.foot ≡ false
      → g.foot x.step w ≡ x.foot → g.answer x.step w ≡ x.answer
      → g.foot y.step (g.after x.step w) ≡ y.foot → g.answer y.step (g.after x.step w) ≡ y.answer
      → (g.foot y.step w ≡ y.foot) × (g.answer y.step w ≡ y.answer)
      × (g.foot x.step (g.after y.step w) ≡ x.foot) × (g.answer x.step (g.after y.step w) ≡ x.answer)
      × Alike g (g.after x.step (g.after y.step w)) (g.after y.step (g.after x.step w))
  exchange x y w free xf xa yf ya = (y_foot, y_same ∙ ya, x_foot, x_same ∙ xa, law.gathered _ _ alike)
    where
      wx : World
      wx = g.after x.step w

      wy : World
      wy = g.after y.step w

      c₁ : meets g x.foot.writes y.foot.reads ≡ false
      c₁ = left-false _ _ free

      c₂ : meets g y.foot.writes x.foot.reads ≡ false
      c₂ = left-false _ _ (right-false (meets g x.foot.writes y.foot.reads) _ free)

      c₃ : meets_plainly g x.foot.writes y.foot.writes ≡ false
      c₃ = right-false (meets g y.foot.writes x.foot.reads) _ (right-false (meets g x.foot.writes y.foot.reads) _ free)

      stays_x : (c : Cell) → has g x.foot.writes c ≡ false → g.at wx c ≡ g.at w c
      stays_x c h = law.stays x.step w c (subst (λ f. has g f.writes c ≡ false) (sym xf) h)

      y_reads : AgreeOn g (g.foot y.step wx).reads wx w
      y_reads c h =
          either (has g x.foot.writes c)
          (λ is. absurd (true≢false (sym (subst (λ f. has g f.reads c ≡ true) yf h) ∙ apart x.foot.writes y.foot.reads c₁ c is)))
          (λ isnt. stays_x c isnt)

      y_one : g.foot y.step w ≡ g.foot y.step wx
      y_one = law.one_foot y.step wx w y_reads

      y_foot : g.foot y.step w ≡ y.foot
      y_foot = y_one ∙ yf

      y_same : g.answer y.step w ≡ g.answer y.step wx
      y_same = law.one_answer y.step wx w y_reads

      stays_y : (c : Cell) → has g y.foot.writes c ≡ false → g.at wy c ≡ g.at w c
      stays_y c h = law.stays y.step w c (subst (λ f. has g f.writes c ≡ false) (sym y_foot) h)

      x_reads : AgreeOn g (g.foot x.step w).reads w wy
      x_reads c h =
          either (has g y.foot.writes c)
          (λ is. absurd (true≢false (sym (subst (λ f. has g f.reads c ≡ true) xf h) ∙ apart y.foot.writes x.foot.reads c₂ c is)))
          (λ isnt. sym (stays_y c isnt))

      x_one : g.foot x.step wy ≡ g.foot x.step w
      x_one = law.one_foot x.step w wy x_reads

      x_foot : g.foot x.step wy ≡ x.foot
      x_foot = x_one ∙ xf

      x_same : g.answer x.step wy ≡ g.answer x.step w
      x_same = law.one_answer x.step w wy x_reads

      x_writes : AgreePlainlyOn g (g.foot x.step w).writes w wy
      x_writes c h plain = sym (stays_y c (plainly_apart x.foot.writes y.foot.writes c₃ c (subst (λ f. has g f.writes c ≡ true) xf h) plain))

      y_writes : AgreePlainlyOn g (g.foot y.step wx).writes wx w
      y_writes c h plain =
          either (has g x.foot.writes c)
          (λ is. absurd (true≢false (sym (subst (λ f. has g f.writes c ≡ true) yf h) ∙ plainly_apart x.foot.writes y.foot.writes c₃ c is plain)))
          (λ isnt. stays_x c isnt)

      alike : (c : Cell) → g.gathers c ≡ false → g.at (g.after x.step wy) c ≡ g.at (g.after y.step wx) c
      alike c plain =
          either (has g x.foot.writes c)
          (λ is.
          let isnt : has g y.foot.writes c ≡ false = plainly_apart x.foot.writes y.foot.writes c₃ c is plain in
          sym (law.leaves x.step w wy x_reads x_writes c (subst (λ f. has g f.writes c ≡ true) (sym xf) is) plain)
          ∙ sym (law.stays y.step wx c (subst (λ f. has g f.writes c ≡ false) (sym yf) isnt)))
          (λ isnt.
          law.stays x.step wy c (subst (λ f. has g f.writes c ≡ false) (sym x_foot) isnt)
          ∙ either (has g y.foot.writes c)
          (λ is. sym (law.leaves y.step wx w y_reads y_writes c (subst (λ f. has g f.writes c ≡ true) (sym yf) is) plain))
          (λ none. stays_y c none ∙ sym (stays_x c isnt) ∙ sym (law.stays y.step wx c (subst (λ f. has g f.writes c ≡ false) (sym yf) none))))
