use Rattle.std.proofs.Common.{◌≡◌, ◌≢◌, ◌∙◌, ◌<◌, [], ℕ, List, length, sym, subst, ap, arith}
use Rattle.std.specs.List.{AllByRecursion as Each}
use Rattle.tr_matching.specs.Groups.{group_at, numbers_of}
use Rattle.tr_matching.specs.Once.{IsOnce}
use Rattle.tr_matching.proofs.OnceLemmas.{once-part, once-some}
use Rattle.tr_record.specs.Places.{places_of}
use Rattle.rk_replay.proofs.KeyLemmas.{numbers-in}
use Rattle.rk_replay.proofs.SeatLemmas.{talks-more}
use Rattle.rk_replay.proofs.talks.Talks.begin.Goals as goal

pub distinct_talks-requires-clause-in_old : goal.distinct_talks-requires-clause-in_old
distinct_talks-requires-clause-in_old c =
    let is : c.as_slice.result.now ≡ places_of c.args.key.now c.args.earlier.now.records = c.as_slice.ensures.value ∙ c.in_ok-numbers.ensures in
    subst (Each (λ i. i < length c.args.earlier.now.records)) (sym is) (numbers-in c.args.earlier.now.records c.args.key.now)

pub first_group-requires-clause-some : goal.first_group-requires-clause-some
first_group-requires-clause-some c =
    let some : c.as_slice.result.now ≢ [] = λ z.
    let many : length c.in_ok-numbers.numbers.items ≡ 0 = ap length (sym c.as_slice.ensures.value ∙ z) in
    omega (arith, c.len.ensures, c.if-len-eq0.false) in
    let one = once-some c.args.earlier.now.records c.as_slice.result.now c.in_ok-numbers-2.numbers.items c.in_ok-numbers-2.ensures.once some in
    λ z. one (sym c.as_slice-2.ensures.value ∙ z)

pub first_group-requires-clause-in_old : goal.first_group-requires-clause-in_old
first_group-requires-clause-in_old c =
    let is : c.as_slice.result.now ≡ places_of c.args.key.now c.args.earlier.now.records = c.as_slice.ensures.value ∙ c.in_ok-numbers.ensures in
    subst (Each (λ i. i < length c.args.earlier.now.records)) (sym c.as_slice-2.ensures.value)
    (once-part c.args.earlier.now.records (λ i. i < length c.args.earlier.now.records) c.as_slice.result.now [] c.in_ok-numbers-2.numbers.items c.in_ok-numbers-2.ensures.once
    (subst (Each (λ i. i < length c.args.earlier.now.records)) (sym is) (numbers-in c.args.earlier.now.records c.args.key.now)))

pub returns-clause-talks : goal.returns-clause-talks
returns-clause-talks c =
    talks-more c.args.earlier.now c.args.self.now (record { groups = c.first_group.new.groups; firsts = c.note.new.firsts }) c.args.key.now c.in_ok-key.key c.in_ok-g.g c.requires.talks c.in_ok-key.ensures c.in_ok-note.ensures
    c.first_group.ensures.groups c.first_group.ensures.grows c.in_ok-g.ensures.begun
    (subst (λ (l : List ℕ). IsOnce c.args.earlier.now.records [] l (numbers_of (group_at c.in_ok-g.g c.first_group.new.groups.items))) (c.as_slice.ensures.value ∙ c.in_ok-numbers.ensures)
    (subst (IsOnce c.args.earlier.now.records [] c.as_slice.result.now) (sym (c.in_ok-g.ensures.all ∙ c.as_slice-2.ensures.value)) c.in_ok-numbers-2.ensures.once))
