use Rattle.rk_install.proofs.LookLemmas.{calls-listed, calls-read}
use Rattle.rk_install.proofs.recovery.sealed.Goals as goal

pub returns-in_err-is_sealed-clause-calls : goal.returns-in_err-is_sealed-clause-calls
returns-in_err-is_sealed-clause-calls g c = calls-listed _ _ c.is_sealed.ensures.calls

pub returns-then-not-branch-clause-calls : goal.returns-then-not-branch-clause-calls
returns-then-not-branch-clause-calls g c = calls-listed _ _ c.in_ok-is_sealed.ensures.calls

pub returns-in_err-bytes-clause-calls : goal.returns-in_err-bytes-clause-calls
returns-in_err-bytes-clause-calls g c = calls-read c.in_ok-path.path _ _ _ c.in_ok-path.ensures c.in_ok-is_sealed.ensures.calls c.bytes_of.ensures.calls

pub returns-clause-calls : goal.returns-clause-calls
returns-clause-calls g c = calls-read c.in_ok-path.path _ _ _ c.in_ok-path.ensures c.in_ok-is_sealed.ensures.calls c.in_ok-bytes.ensures.calls
