use Rattle.std.proofs.Common.{◌∙◌, ◌+◌, ℕ, List, Vec, Global, ap, sym, subst}
use Rattle.tr_matching.proofs.DistinctLemmas.{AreDistinct, distinct-kept, distinct-left_out, distinct-whole}
use Rattle.tr_matching.proofs.distinct.distinct_talks.Goals as goal
use Rattle.tr_matching.proofs.distinct.distinct_talks.Goals.{then-branch+in_ok-push, else-branch}

pub numbers-preserved : goal.numbers-preserved
numbers-preserved c = elim c.if-branch.branch [
  | then-branch+in_ok-push w ↦
      subst (λ (l : List ℕ). AreDistinct c.args.earlier.now c.args.numbers.now (c.numbers.k + 1) l c.insert.new.self.keys) (sym (ap (λ (v : Vec ℕ Global). v.items) w.kept-is ∙ w.in_ok-push.ensures.items))
      (distinct-kept c.args.earlier.now c.args.numbers.now c.numbers.k c.numbers.kept.items c.numbers.talks.keys c.numbers.invariant c.numbers-test.true c.talk_of.result c.talk_of.ensures.talk c.talk_of.ensures.head
      c.insert.new.self.keys c.in_ok-insert.ensures.keys c.in_ok-insert.field-0 c.in_ok-insert.ensures.added w.if-branch.true)
  | else-branch w ↦
      subst (λ (l : List ℕ). AreDistinct c.args.earlier.now c.args.numbers.now (c.numbers.k + 1) l c.insert.new.self.keys) (sym (ap (λ (v : Vec ℕ Global). v.items) w.kept-is))
      (distinct-left_out c.args.earlier.now c.args.numbers.now c.numbers.k c.numbers.kept.items c.numbers.talks.keys c.numbers.invariant c.numbers-test.true c.talk_of.result c.talk_of.ensures.talk c.talk_of.ensures.head
      c.insert.new.self.keys c.in_ok-insert.ensures.keys c.in_ok-insert.field-0 c.in_ok-insert.ensures.added w.if-branch.false)
]

pub returns-clause-once : goal.returns-clause-once
returns-clause-once c = distinct-whole c.args.earlier.now c.args.numbers.now c.numbers.k c.numbers.kept.items c.numbers.talks.keys c.numbers.invariant c.numbers-test.false
