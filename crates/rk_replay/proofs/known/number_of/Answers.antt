use Rattle.rk_replay.proofs.Numbering.{known_text, still_known}
use Rattle.rk_replay.proofs.known.number_of.Goals as goal

pub returns-in-Some-clause-number : goal.returns-in-Some-clause-number
returns-in-Some-clause-number g c = known_text _ _ _ _ _ _ c.requires.known c.in-Some.ensures c.requires.text

pub note-requires-clause-known : goal.note-requires-clause-known
note-requires-clause-known g c = still_known _ _ _ _ c.requires.known c.intern.ensures.kept
