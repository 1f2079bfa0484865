-- The utilities that select, as filters.
use Rattle.ut_filter.specs.Filters.{Job}
use Rattle.ut_select.specs.declared.work.SelectWork.{SelectWork}
use Rattle.ut_select.specs.declared.work.SelectWork.TheVariants.{Cuts, Trs}
use Rattle.ut_select.specs.Cuts.{cut_job}
use Rattle.ut_select.specs.Trs.{tr_job}

abbrev pub select_job : SelectWork → Job
select_job (Cuts w) = cut_job w
select_job (Trs w) = tr_job w
