use Rattle.std.proofs.Common.{◌≡◌, ◌++◌, List, ℕ, sym, ◌∙◌, ap, subst, append-nil}
use Rattle.rk_walk.specs.Course.{IsFirst}
use Rattle.rk_walk.specs.Way.{looks}
use Rattle.rk_walk.specs.Walk.{parts}
use Rattle.rk_walk.specs.declared.seen.Seen.{Seen}
use Rattle.rk_walk.proofs.CourseLemmas.{sees-nothing, looks-first}
use Rattle.rk_walk.proofs.walker.Walker.looks.Goals as goal

pub returns-in-None : goal.returns-in-None
returns-in-None c =
    sym (ap (λ (s : List Seen). c.args.seen.now.items ++ s) (sees-nothing c.args.tree.now c.args.self.now
    (subst (λ (t : List ℕ). (more : List ℕ) → parts (t ++ more) ≡ parts more) c.ahead.ensures c.in-None.ensures)) ∙ append-nil c.args.seen.now.items)

pub returns-in_ok-look-in-Some : goal.returns-in_ok-look-in-Some
returns-in_ok-look-in-Some c =
    c.in_ok-look-in-Some.ensures
    ∙ ap (λ (s : List Seen). c.args.seen.now.items ++ s) (
    ap (λ (n : ℕ). looks c.args.tree.now n c.in-Some.name.now) c.node.ensures
    ∙ sym (looks-first c.args.tree.now c.args.self.now.here.node c.args.self.now.ahead c.in-Some.name.now c.in-Some.field-0-1.now
    (subst (λ (t : List ℕ). IsFirst t c.in-Some.name.now c.in-Some.field-0-1.now) c.ahead.ensures c.in-Some.ensures)))
