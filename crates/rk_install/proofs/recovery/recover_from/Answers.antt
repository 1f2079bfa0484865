use Rattle.rk_install.proofs.RecoveryLemmas.{still-memory, still-reads, still-steady, still-writes, told-undecoded}
use Rattle.rk_install.proofs.recovery.recover_from.Goals as goal

pub finish_list-requires-clause-calls : goal.finish_list-requires-clause-calls
finish_list-requires-clause-calls g c = c.in-Ok.ensures.found.0

pub finish_list-requires-clause-spelt : goal.finish_list-requires-clause-spelt
finish_list-requires-clause-spelt g c = c.in-Ok.ensures.found.1

pub returns-in-Err-clause-told : goal.returns-in-Err-clause-told
returns-in-Err-clause-told g c = rw c.of_codec.ensures (told-undecoded (Unit {0}) _ c.args.bytes.now c.in-Err.e c.requires c.in-Err.ensures.damage c.in-Err.ensures.only)

pub returns-in-Err-clause-cause : goal.returns-in-Err-clause-cause
returns-in-Err-clause-cause g c = rw c.of_codec.ensures (still-reads (Unit {0}) _ c.in-Err.e)

pub returns-in-Err-clause-writes : goal.returns-in-Err-clause-writes
returns-in-Err-clause-writes g c = rw c.of_codec.ensures (still-writes (Unit {0}) _ c.in-Err.e)

pub returns-in-Err-clause-memory : goal.returns-in-Err-clause-memory
returns-in-Err-clause-memory g c = rw c.of_codec.ensures (still-memory (Unit {0}) _ c.in-Err.e)

pub returns-in-Err-clause-steady : goal.returns-in-Err-clause-steady
returns-in-Err-clause-steady g c = rw c.of_codec.ensures (still-steady (Unit {0}) _ c.in-Err.e)
