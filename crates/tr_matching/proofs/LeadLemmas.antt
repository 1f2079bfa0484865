-- The part to which an answer leads.
use Rattle.std.proofs.Common.{◌≡◌, ◌∙◌, ℕ, ◌+◌, ◌<◌, List, [], length, filter, Some, None, sym, ap, subst, arith}
use Rattle.rk_calls.specs.declared.answer.Answer.{Answer}
use Rattle.tr_matching.specs.declared.group.Group.{Group}
use Rattle.tr_matching.specs.Earlier.{EarlierRecords, IsRest}
use Rattle.tr_matching.specs.Groups.{IsPart, IsSplit, first_of, group_at, numbers_of}
use Rattle.tr_matching.specs.Index.{part_of}
use Rattle.tr_matching.specs.Left.{is_answered}
use Rattle.tr_matching.specs.Places.{IsAt}
use Rattle.tr_matching.proofs.TakeLemmas.{split-none}

module _ (e : EarlierRecords) (items : List Group) (g : ℕ) (a key : Answer) (res : Group) (is : res ≡ group_at g items) (s : IsSplit e items (group_at g items)) (same : key ≡ a) where
  -- what is found in the group that was read is found in it
  under : part_of (group_at g items).parts a ≡ part_of res.parts key
  under = ap (λ (y : Group). part_of y.parts a) (sym is) ∙ ap (part_of res.parts) (sym same)

  pub lead-none : None ≡ part_of res.parts key → filter (is_answered e.records (group_at g items).alike a) (numbers_of (group_at g items)) ≡ []
  lead-none none = split-none e items (group_at g items) a s (under ∙ sym none)

  module _ (c : ℕ) (found : Some c ≡ part_of res.parts key) where
    number : (group_at g items).from + c ≡ res.from + c
    number = ap (λ (y : Group). y.from + c) (sym is)

    pub lead-here : res.from + c < length items
    lead-here = subst (λ n. n < length items) number (s.parts a c (under ∙ sym found)).0

    part : IsPart e (group_at g items) a (group_at (res.from + c) items)
    part = subst (λ n. IsPart e (group_at g items) a (group_at n items)) number (s.parts a c (under ∙ sym found)).1

    pub lead-some : numbers_of (group_at (res.from + c) items) ≡ filter (is_answered e.records (group_at g items).alike a) (numbers_of (group_at g items))
    lead-some = part.are

    pub lead-at : (next start : ℕ) → next ≡ (group_at g items).alike + 1 → start ≡ (group_at (res.from + c) items).start → IsAt e items (record { group = res.from + c; at = next; rest = start })
    lead-at next start n st = record {
      here = lead-here;
      within = (let f = part.further in omega arith);
      rest =
          subst (λ r. IsRest e (first_of (group_at (res.from + c) items)) next r) (sym st)
          (subst (λ k. IsRest e (first_of (group_at (res.from + c) items)) k (group_at (res.from + c) items).start) (sym n) part.start);
    }
