-- Steps of two commands that conflict by names do so by what is told of them.
use Rattle.std.proofs.Common.{◌≡◌, ℕ, List, [], ◌∷◌, Bool, true, false, not, ◌&&◌, refl, sym, ◌∙◌, ap, subst, inl, inr, true≢false}
use Rattle.rk_calls.specs.declared.answer.Answer.{Answer}
use Rattle.rk_kernel.specs.Cell.{cell_Decides, gathers, same_cell}
use Rattle.rk_kernel.specs.declared.cell.Cell.{Cell as Numbered}
use Rattle.rk_waves.specs.CellPieces.{by_feet, told}
use Rattle.rk_waves.specs.Programs.{Cell, One, All, by_cells, gathers_all}
use Rattle.rk_waves.specs.System.{Foot, System, conflict, has, meets, meets_plainly}
use Rattle.rk_waves.specs.Tests.{both-of, one-of, or-left, or-right}
use Rattle.rk_waves.specs.Waves.{Each, step_conflicts, steps_conflict}
use Rattle.rk_feet.specs.Named.{Name, Plain, EntryOf, AboveOf, ModeOf, BytesOf, OpenOf, PipeOf, OutputText, ErrorText, Used, Value}
use Rattle.rk_feet.specs.Played.{PlaysKernel}
use Rattle.rk_feet.specs.Steps.{Step}
use Rattle.rk_feet.specs.Told.{Among, AreTold, By, IsTold, Its, Telling, numbered}
use Rattle.rk_feet.specs.World.{World}
use Rattle.rk_orders.specs.Orders.{Taken}
use Rattle.rk_orders.proofs.StepLemmas.{IsToldBy, in_world}

-- the steps of a piece are told by one foot
abbrev pub StepsTold : World → Foot Numbered → List Taken → Type 0
StepsTold z foot = Each (λ t. IsToldBy z t foot)

-- by numbers
abbrev pub feet : System (Unit {0}) (Foot Numbered) Numbered (Unit {0}) (Unit {0})
feet = by_feet same_cell gathers

has-among : (ds : List Numbered) (c : Numbered) → Among ds c → has feet ds c ≡ true
has-among [] c h = absurd h
has-among (d ∷ ds) c (inl e) = or-left (same_cell d c) (has feet ds c) ((cell_Decides d c).1 e)
has-among (d ∷ ds) c (inr h) = or-right (same_cell d c) (has feet ds c) (has-among ds c h)

meet-among : (cs ds : List Numbered) (c : Numbered) → Among cs c → Among ds c → meets feet cs ds ≡ true
meet-among [] ds c h k = absurd h
meet-among (x ∷ xs) ds c (inl e) k = or-left (has feet ds x) (meets feet xs ds) (has-among ds x (subst (Among ds) (sym e) k))
meet-among (x ∷ xs) ds c (inr h) k = or-right (has feet ds x) (meets feet xs ds) (meet-among xs ds c h k)

plainly-among : (cs ds : List Numbered) (c : Numbered) → gathers c ≡ false → Among cs c → Among ds c → meets_plainly feet cs ds ≡ true
plainly-among [] ds c g h k = absurd h
plainly-among (x ∷ xs) ds c g (inl e) k =
    or-left (not (gathers x) && has feet ds x) (meets_plainly feet xs ds)
    (plainly (gathers x) (has feet ds x) (ap gathers e ∙ g) (has-among ds x (subst (Among ds) (sym e) k)))
  where
    plainly : (a b : Bool) → a ≡ false → b ≡ true → (not a && b) ≡ true
    plainly true b e h = absurd (true≢false e)
    plainly false b e h = h
plainly-among (x ∷ xs) ds c g (inr h) k =
    or-right (not (gathers x) && has feet ds x) (meets_plainly feet xs ds) (plainly-among xs ds c g h k)

-- a cell that gathers nothing is told by one that gathers nothing

told-plain : {c n : Numbered} → By c ≡ By n → gathers c ≡ false → gathers n ≡ false
told-plain {c} {n} e g = (let same : c ≡ n = cc in ap gathers (sym same) ∙ g)

plain-told : (z : World) (c : Cell Plain Name) (n : Numbered) → gathers_all c ≡ false → numbered z c ≡ By n → gathers n ≡ false
plain-told z (All dir) n g e = absurd (true≢false g)
plain-told z (One (EntryOf dir name)) n g e = told-plain e refl
plain-told z (One (AboveOf dir)) n g e = told-plain e refl
plain-told z (One (ModeOf m)) n g e = told-plain e refl
plain-told z (One (BytesOf m)) n g e = told-plain e refl
plain-told z (One (OpenOf m)) n g e = told-plain e refl
plain-told z (One (PipeOf m)) n g e = told-plain e refl
plain-told z (One OutputText) n g e = told-plain e refl
plain-told z (One ErrorText) n g e = told-plain e refl
plain-told z (One (Used r s)) n g e = absurd (let no : Its r s ≡ By n = e in cc)

module _ (k : PlaysKernel) (z : World) (a b : Step) (apart : a.command ≡ b.command → ⊥) where
  abbrev g : System World Step (Cell Plain Name) Value Answer
  g = by_cells k.it

  -- a cell among these is told
  has-told : (told : List Numbered) (cs : List (Cell Plain Name)) (c : Cell Plain Name) → has g cs c ≡ true → AreTold z (in_world z b) told cs
      → IsTold z (in_world z b) told (numbered z c)
  has-told told [] c h all = absurd (true≢false (sym h))
  has-told told (d ∷ ds) c h all =
      one-of (g.same d c) (has g ds c) h
      (λ e. subst (λ x. IsTold z (in_world z b) told (numbered z x)) (k.lawful.same_cell d c e) all.0)
      (λ e. has-told told ds c e all.1)

  meet-cell : (cs ds : List Numbered) (c : Telling) → IsTold z (in_world z a) cs c → IsTold z (in_world z b) ds c → meets feet cs ds ≡ true
  meet-cell cs ds (By n) h k = meet-among cs ds n h k
  meet-cell cs ds (Its r s) h k = absurd (apart (sym h.0 ∙ k.0))

  pub meet-told : (cs ds : List Numbered) (xs ys : List (Cell Plain Name)) → AreTold z (in_world z a) cs xs → AreTold z (in_world z b) ds ys
      → meets g xs ys ≡ true → meets feet cs ds ≡ true
  meet-told cs ds [] ys h k m = absurd (true≢false (sym m))
  meet-told cs ds (x ∷ xs) ys h k m =
      one-of (has g ys x) (meets g xs ys) m (λ e. meet-cell cs ds (numbered z x) h.0 (has-told ds ys x e k)) (λ e. meet-told cs ds xs ys h.1 k e)

  plain-cell : (cs ds : List Numbered) (c : Cell Plain Name) (t : Telling) → numbered z c ≡ t → gathers_all c ≡ false
      → IsTold z (in_world z a) cs t → IsTold z (in_world z b) ds t → meets_plainly feet cs ds ≡ true
  plain-cell cs ds c (By n) is plain h k = plainly-among cs ds n (plain-told z c n plain is) h k
  plain-cell cs ds c (Its r s) is plain h k = absurd (apart (sym h.0 ∙ k.0))

  plainly-told : (cs ds : List Numbered) (xs ys : List (Cell Plain Name)) → AreTold z (in_world z a) cs xs → AreTold z (in_world z b) ds ys
      → meets_plainly g xs ys ≡ true → meets_plainly feet cs ds ≡ true
  plainly-told cs ds [] ys h k m = absurd (true≢false (sym m))
  plainly-told cs ds (x ∷ xs) ys h k m =
      one-of (not (gathers_all x) && has g ys x) (meets_plainly g xs ys) m
      (λ e. let two = both-of (not (gathers_all x)) (has g ys x) e in
      plain-cell cs ds x (numbered z x) refl (false-of (gathers_all x) two.0) h.0 (has-told ds ys x two.1 k))
      (λ e. plainly-told cs ds xs ys h.1 k e)
    where
      false-of : (t : Bool) → not t ≡ true → t ≡ false
      false-of true e = absurd (true≢false (sym e))
      false-of false e = refl

-- two steps of two commands
module _ (k : PlaysKernel) (z : World) where
  conflict-told : (t u : Taken) → (t.step.command ≡ u.step.command → ⊥) → (foot its : Foot Numbered) → IsToldBy z t foot → IsToldBy z u its
      → conflict (by_cells k.it) t.foot u.foot ≡ true → conflict feet foot its ≡ true
  conflict-told t u apart foot its h i e =
      one-of (meets (by_cells k.it) t.foot.writes u.foot.reads) _ e
      (λ m. or-left (meets feet foot.writes its.reads) _
      (meet-told k z t.step u.step apart foot.writes its.reads t.foot.writes u.foot.reads h.writes i.reads m))
      (λ m. or-right (meets feet foot.writes its.reads) _
      (one-of (meets (by_cells k.it) u.foot.writes t.foot.reads) (meets_plainly (by_cells k.it) t.foot.writes u.foot.writes) m
      (λ m. or-left (meets feet its.writes foot.reads) _
      (meet-told k z u.step t.step (λ e. apart (sym e)) its.writes foot.reads u.foot.writes t.foot.reads i.writes h.reads m))
      (λ m. or-right (meets feet its.writes foot.reads) _
      (plainly-told k z t.step u.step apart foot.writes its.writes t.foot.writes u.foot.writes h.writes i.writes m))))

  one-conflict : (o : ℕ) (t : Taken) (us : List Taken) → (t.step.command ≡ o → ⊥) → Each (λ (u : Taken). o ≡ u.step.command) us
      → (foot its : Foot Numbered) → IsToldBy z t foot → StepsTold z its us → step_conflicts (by_cells k.it) t us ≡ true → conflict feet foot its ≡ true
  one-conflict o t [] apart own foot its h i e = absurd (true≢false (sym e))
  one-conflict o t (u ∷ us) apart own foot its h i e =
      one-of (conflict (by_cells k.it) t.foot u.foot) (step_conflicts (by_cells k.it) t us) e
      (λ m. conflict-told t u (λ same. apart (same ∙ sym own.0)) foot its h i.0 m)
      (λ m. one-conflict o t us apart own.1 foot its h i.1 m)

  -- two pieces of two commands
  pub pieces-conflict : (o p : ℕ) → (o ≡ p → ⊥) → (ts us : List Taken) → Each (λ (t : Taken). o ≡ t.step.command) ts
      → Each (λ (u : Taken). p ≡ u.step.command) us → (foot its : Foot Numbered) → StepsTold z foot ts → StepsTold z its us
      → steps_conflict (by_cells k.it) ts us ≡ true → conflict feet foot its ≡ true
  pieces-conflict o p apart [] us own owns foot its h i e = absurd (true≢false (sym e))
  pieces-conflict o p apart (t ∷ ts) us own owns foot its h i e =
      one-of (step_conflicts (by_cells k.it) t us) (steps_conflict (by_cells k.it) ts us) e
      (λ m. one-conflict p t us (λ same. apart (own.0 ∙ same)) owns foot its h.0 i m)
      (λ m. pieces-conflict o p apart ts us own.1 owns foot its h.1 i m)
