use Rattle.std.proofs.Common.{◌≡◌, ◌++◌, List, ℕ, sym, ◌∙◌, ap, subst, Ok}
use Rattle.rk_walk.specs.Course.{Course, IsEnd}
use Rattle.rk_walk.specs.Walk.{parts}
use Rattle.rk_walk.specs.declared.place.Place.TheVariants.{Found}
use Rattle.rk_walk.proofs.CourseLemmas.{arrived, popped}
use Rattle.rk_walk.proofs.walker.Walker.advance.Goals as goal

pub returns-then-pops : goal.returns-then-pops
returns-then-pops c =
    popped c.args.tree.now c.args.follow c.args.self.now c.pops.new.self _ _
    (subst (λ (t : List ℕ). (more : List ℕ) → parts (t ++ more) ≡ parts more) c.ahead.ensures c.in-None.ensures) c.if-pops.ensures.0 c.if-pops.ensures.1 c.requires

pub returns-else-pops : goal.returns-else-pops
returns-else-pops c =
    subst (IsEnd c.args.tree.now c.args.follow c.args.self.now) (sym (c.found.ensures ∙ ap (λ (w : Course). Ok (Found w.here)) c.if-pops.ensures.0))
    (arrived c.args.tree.now c.args.follow c.args.self.now
    (subst (λ (t : List ℕ). (more : List ℕ) → parts (t ++ more) ≡ parts more) c.ahead.ensures c.in-None.ensures) c.if-pops.ensures.1)
