-- What `sed` says while it reads its scripts.
use Rattle.std.specs.Prelude.{ℕ, List}
use Rattle.rk_calls.specs.declared.answer.Answer.{Answer}
use Rattle.rk_calls.specs.Brought.{brought}
use Rattle.rk_calls.specs.Talk.{Says}
use Rattle.ut_sed.specs.declared.gatherer.Gatherer.{Gatherer}
use Rattle.ut_sed.specs.declared.gatherer.Gathered.{Gathered}
use Rattle.ut_sed.specs.declared.gatherer.Waits.{Waits}
use Rattle.ut_sed.specs.declared.gatherer.Waits.TheVariants.{Next, Opening, Reading}
use Rattle.ut_sed.specs.Commands.{CommandValue, commands_of}
use Rattle.ut_sed.specs.Starts.{gathers, script_read, script_opened}

-- with the scripts that are left, once there are these commands, and the next file has this number
abbrev pub goes_on_with : Gathered → List CommandValue → ℕ → Says
goes_on_with g = gathers g.wd g.quiet g.operands g.sources.items

abbrev pub goes_on : Gathered → Says
goes_on g = goes_on_with g (commands_of g.commands.items) g.next

abbrev pub waits_talk : Gathered → Waits → Answer → Says
waits_talk g Next a = goes_on g
waits_talk g (Opening file) a = script_opened file (commands_of g.commands.items) g.next (goes_on_with g) (brought a)
waits_talk g (Reading file) a = script_read file (commands_of g.commands.items) (λ cs. goes_on_with g cs g.next) (brought a)

abbrev pub gatherer_talk : Gatherer → Answer → Says
gatherer_talk g = waits_talk g.gathered g.waits
