use Rattle.rk_build.proofs.BuildLemmas.{special-first, damaged-first, forged-so}
use Rattle.rk_build.proofs.BuiltLemmas.{built-ended, built-no-fault, built-started, built-asked}
use Rattle.rk_build.proofs.SettledLemmas.{settles}
use Rattle.rk_build.proofs.entry.build_in.Goals as goal

pub returns-clause-folder : goal.returns-clause-folder
returns-clause-folder g c = rw c.outcome_of.ensures c.build.ensures.folder

pub returns-clause-live : goal.returns-clause-live
returns-clause-live g c = rw c.outcome_of.ensures c.build.ensures.live

pub returns-clause-calls : goal.returns-clause-calls
returns-clause-calls g c = rw c.outcome_of.ensures c.build.ensures.calls

pub returns-clause-output : goal.returns-clause-output
returns-clause-output g c = rw c.outcome_of.ensures c.build.ensures.output

pub returns-clause-errors : goal.returns-clause-errors
returns-clause-errors g c = rw c.outcome_of.ensures c.build.ensures.errors

pub returns-clause-error_counts : goal.returns-clause-error_counts
returns-clause-error_counts g c = rw c.outcome_of.ensures c.build.ensures.error_counts

pub returns-clause-counts : goal.returns-clause-counts
returns-clause-counts g c = rw c.outcome_of.ensures c.build.ensures.counts

pub returns-clause-status : goal.returns-clause-status
returns-clause-status g c = rw c.outcome_of.ensures (built-ended _ c.build.result c.build.ensures.status)

pub returns-clause-tally : goal.returns-clause-tally
returns-clause-tally g c = rw c.outcome_of.ensures (built-ended _ c.build.result c.build.ensures.tally)

pub returns-clause-checked : goal.returns-clause-checked
returns-clause-checked g c = rw c.outcome_of.ensures (built-ended _ c.build.result c.build.ensures.checked)

pub returns-clause-starts : goal.returns-clause-starts
returns-clause-starts g c = rw c.outcome_of.ensures (built-started g.M.Maker.first c.args.request.now _ _ _ c.build.result c.build.ensures.starts)

pub returns-clause-asked : goal.returns-clause-asked
returns-clause-asked g c = rw c.outcome_of.ensures (built-asked c.build.result)

pub returns-clause-special : goal.returns-clause-special
returns-clause-special g c = rw c.outcome_of.ensures (special-first g.M.Maker.first c.args.request.now _ _ _ _ _ c.build.ensures.folder)

pub returns-clause-damaged : goal.returns-clause-damaged
returns-clause-damaged g c = rw c.outcome_of.ensures (damaged-first g.M.Maker.first c.args.request.now _ _ _ _ _ c.build.ensures.folder)

pub returns-clause-forged : goal.returns-clause-forged
returns-clause-forged g c = rw c.outcome_of.ensures (forged-so g.M.Maker.first c.args.request.now _ _ _ _ _ c.build.ensures.folder)

pub returns-clause-steady : goal.returns-clause-steady
returns-clause-steady g c = λ folder out err. let h = c.build.ensures.steady folder out err in (h.0, rw c.outcome_of.ensures (built-no-fault c.build.result h.1))

pub returns-clause-complete : goal.returns-clause-complete
returns-clause-complete g c = λ held is r w o x. rw c.outcome_of.ensures (settles g.M.Maker.first c.args.request.now _ _ _ _ _ _ _ held c.build.ensures.folder (built-ended _ c.build.result c.build.ensures.status) c.build.ensures.counts (built-asked c.build.result) is r w o x)
