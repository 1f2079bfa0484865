use Rattle.std.proofs.Common.{ℕ, List, codes, sym, ap, ◌∙◌, subst}
use Rattle.rk_calls.specs.Talk.{pay}
use Rattle.ut_filter.specs.declared.made.Input.{Input}
use Rattle.ut_filter.specs.declared.made.Made.{Made}
use Rattle.ut_filter.specs.declared.made.Measured.{Measured}
use Rattle.ut_filter.specs.declared.made.Measured.TheVariants.{Long}
use Rattle.ut_filter.specs.Filters.{Job, puts_paid}
use Rattle.ut_filter.specs.Measures.{Measures}
use Rattle.ut_filter.proofs.PaidLemmas.{puts-paid}
use Rattle.ut_filter.proofs.filter.pay_or_put.Goals as goal

pub returns-in-Long-clause-talk : goal.returns-in-Long-clause-talk
returns-in-Long-clause-talk g c =
    let job : Job = g.W.Work.job c.args.work.now in
    let made : Made = job.makes c.args.reader.now.inputs in
    let At : Measured → Type 0 = λ measured. Measures (job.makes c.inputs.result.now) measured in
    let Of : List Input → Type 0 = λ inputs. Measures (job.makes inputs) (Long c.in-Long.length) in
    let long : Measures made (Long c.in-Long.length) = subst Of c.inputs.ensures (subst At c.in-Long.is c.in_ok-made.ensures) in
    λ wd operands p.
    puts-paid job (codes "output") 1 made c.in-Long.length long.0 long.1 p
    ∙ ap (λ (cost : ℕ). pay cost (puts_paid job (codes "output") 1 made) p) (sym c.div_ceil.ensures)
