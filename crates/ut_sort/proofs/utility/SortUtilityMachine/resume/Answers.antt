use Rattle.std.proofs.Common.{◌≡◌, ℕ, IfOk, sym, subst}
use Rattle.rk_calls.specs.Talk.{after}
use Rattle.ut_sort.specs.declared.utility.SortUtility.{SortUtility}
use Rattle.ut_sort.specs.declared.utility.SortUtility.TheVariants.{Complains, Filters}
use Rattle.ut_sort.specs.Utilities.{sort_talk}
use Rattle.ut_sort.proofs.utility.SortUtilityMachine.resume.Goals as goal

pub returns-in-Complains-clause-talk : goal.returns-in-Complains-clause-talk
returns-in-Complains-clause-talk c =
    let P : SortUtility → Type 0 = λ u. IfOk c.resume.result (λ t. (p : ℕ) → sort_talk u c.args.answer p ≡ after t (sort_talk (Complains c.resume.new.self)) p) in
    subst P (sym c.in-Complains.is) c.resume.ensures.talk

pub returns-in-Filters-clause-talk : goal.returns-in-Filters-clause-talk
returns-in-Filters-clause-talk c =
    let P : SortUtility → Type 0 = λ u. IfOk c.resume-in-Filters.result (λ t. (p : ℕ) → sort_talk u c.args.answer p ≡ after t (sort_talk (Filters c.resume-in-Filters.new.self)) p) in
    subst P (sym c.in-Filters.is) c.resume-in-Filters.ensures.talk
