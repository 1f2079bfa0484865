use Rattle.std.proofs.Common.{◌≡◌, ◌+◌, ◌≤◌, drop}
use Rattle.sh_script.specs.Reads as reads
use Rattle.sh_parse.proofs.reader.newlines.Given as goal

abbrev pub invariant-text : goal.invariant-text
invariant-text l = record { counted : l.n + reads.newlines (drop l.b-index l.text) ≡ reads.newlines l.text; within : l.n ≤ l.b-index }
