-- What `grep` says while it reads its patterns.
use Rattle.std.specs.Prelude.{ℕ, List}
use Rattle.rk_base.specs.Text.{Text}
use Rattle.rk_calls.specs.declared.answer.Answer.{Answer}
use Rattle.rk_calls.specs.Brought.{brought}
use Rattle.rk_calls.specs.Talk.{Says}
use Rattle.ut_grep.specs.declared.gatherer.Gatherer.{Gatherer}
use Rattle.ut_grep.specs.declared.gatherer.Gathered.{Gathered}
use Rattle.ut_grep.specs.declared.gatherer.Waits.{Waits}
use Rattle.ut_grep.specs.declared.gatherer.Waits.TheVariants.{Next, Opening, Reading}
use Rattle.ut_grep.specs.Starts.{gathers, patterns_read, patterns_opened}

-- with the files that are left, once there are these patterns, and the next file has this number
abbrev pub goes_on_with : Gathered → List Text → ℕ → Says
goes_on_with g = gathers g.wd g.manner g.operands g.files.items

abbrev pub goes_on : Gathered → Says
goes_on g = goes_on_with g g.patterns g.next

abbrev pub waits_talk : Gathered → Waits → Answer → Says
waits_talk g Next a = goes_on g
waits_talk g (Opening file) a = patterns_opened file g.patterns g.next (goes_on_with g) (brought a)
waits_talk g (Reading file) a = patterns_read file g.patterns (λ ps. goes_on_with g ps g.next) (brought a)

abbrev pub gatherer_talk : Gatherer → Answer → Says
gatherer_talk g = waits_talk g.gathered g.waits
