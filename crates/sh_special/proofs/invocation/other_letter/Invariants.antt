use Rattle.std.proofs.Common.{◌≡◌, drop}
use Rattle.sh_special.specs.Invocation.{other_letter}
use Rattle.sh_special.proofs.invocation.other_letter.Given as goal

abbrev pub invariant-letters : goal.invariant-letters
invariant-letters l = other_letter (drop l.b-index l.letters) ≡ other_letter l.letters
