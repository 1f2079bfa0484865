use Rattle.std.proofs.Common.{◌≡◌, ◌≤◌, subst, arith}
use Rattle.ut_bre.specs.Relations.{Relates}
use Rattle.ut_bre.proofs.Related.{related-first, related-more, set-of-place}
use Rattle.ut_bre.proofs.relation.relate_nothing.Goals as goal

pub places-init : goal.places-init
places-init c start = related-first (λ i j. i ≡ j) start c.args.size c.new-table.result.items c.new-table.ensures.items

pub places-preserved : goal.places-preserved
places-preserved c start =
    let size = c.args.size in
    let n = c.places.place in
    let le : n ≤ size = omega arith in
    related-more (λ i j. i ≡ j) start size n c.places.table.items c.push.new.self.items c.in_ok-set.set c.in_ok-push.ensures.items (set-of-place start size n c.in_ok-set.set le c.in_ok-set.ensures) (c.places.invariant start)

pub returns : goal.returns
returns c start =
    let size = c.args.size in
    let n = c.places.place in
    let all : n ≡ size = omega arith in
    let le : size ≤ size = omega arith in
    related-more (λ i j. i ≡ j) start size size c.places.table.items c.push-2.new.self.items c.in_ok-last.last c.in_ok-push-2.ensures.items (set-of-place start size size c.in_ok-last.last le c.in_ok-last.ensures) (subst (λ m. Relates (λ i j. i ≡ j) start size m c.places.table.items) all (c.places.invariant start))
