use Rattle.std.proofs.Common.{◌≡◌, drop}
use Rattle.sh_special.specs.Settings.{with_letters}
use Rattle.sh_special.proofs.options.with_letters.Given as goal

abbrev pub invariant-letters : goal.invariant-letters
invariant-letters l = with_letters l.on (drop l.b-index l.letters) l.options ≡ with_letters l.on l.letters l.initial.options
