use Rattle.std.proofs.Common.{◌≡◌, ◌+◌, ◌≤◌, drop}
use Rattle.ut_text.specs.Counts.{words_in, words_from}
use Rattle.ut_text.proofs.count.words_in.Given as goal

abbrev pub invariant-bytes : goal.invariant-bytes
invariant-bytes l = (l.words + words_from l.inside (drop l.b-index l.text) ≡ words_in l.text) × (l.words ≤ l.b-index)
