use Rattle.std.proofs.Common.{◌≡◌, drop}
use Rattle.sh_special.specs.Invocation.{options}
use Rattle.sh_special.proofs.invocation.read_options.Given as goal

abbrev pub invariant-words : goal.invariant-words
invariant-words l = options l.text (drop l.at l.words) ≡ options l.fn.text l.words
