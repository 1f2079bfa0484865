use Rattle.std.proofs.Common.{◌≡◌, refl, true, false, arith}
use Rattle.tr_kept.proofs.HeadedLemmas.{ends_at, all_ends}
use Rattle.tr_kept.proofs.generations.all_same_ends.Goals as goal

pub returns-then-not-same_ends : goal.returns-then-not-same_ends
returns-then-not-same_ends c = (
  λ t. absurd (let f : false ≡ true = t in cc),
  λ e.
      let is = c.same_ends.ensures.1 (ends_at c.args.a.now c.args.b.now c.records.i c.index-a-i.result c.index-b-i.result (omega arith) (omega arith) c.index-a-i.is c.index-b-i.is e) in
      absurd cc,
)

pub returns : goal.returns
returns c = (λ t. all_ends c.args.a.now c.args.b.now (omega arith) (λ k d lt. c.records.invariant k d (omega arith)), λ e. refl)
