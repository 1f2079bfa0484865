use Rattle.std.proofs.Common.{◌≡◌, drop}
use Rattle.sh_special.specs.Settings.{settings}
use Rattle.sh_special.proofs.options.settings.Given as goal

abbrev pub invariant-words : goal.invariant-words
invariant-words l = settings (drop l.at l.words) l.options ≡ settings l.words l.initial.options
