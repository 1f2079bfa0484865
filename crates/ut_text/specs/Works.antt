-- The text utilities that are filters.
use Rattle.ut_filter.specs.Filters.{Job}
use Rattle.ut_text.specs.declared.work.TextWork.{TextWork}
use Rattle.ut_text.specs.declared.work.TextWork.TheVariants.{Cats, Heads, Wcs, Uniqs, Cmps, Tails}
use Rattle.ut_text.specs.Cats.{cat_job}
use Rattle.ut_text.specs.Cmps.{cmp_job}
use Rattle.ut_text.specs.Heads.{head_job}
use Rattle.ut_text.specs.Tails.{tail_job}
use Rattle.ut_text.specs.Uniqs.{uniq_job}
use Rattle.ut_text.specs.Wcs.{wc_job}

abbrev pub text_job : TextWork → Job
text_job (Cats w) = cat_job
text_job (Heads w) = head_job w
text_job (Wcs w) = wc_job w
text_job (Uniqs w) = uniq_job w
text_job (Cmps w) = cmp_job w
text_job (Tails w) = tail_job w
