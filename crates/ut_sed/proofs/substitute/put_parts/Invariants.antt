use Rattle.std.proofs.Common.{◌≡◌, ◌++◌, drop}
use Rattle.ut_sed.specs.Substituting.{parts_text}
use Rattle.ut_sed.proofs.substitute.put_parts.Given as goal

abbrev pub invariant-parts : goal.invariant-parts
invariant-parts l = l.made.items ++ parts_text l.text l.found (drop l.part-index l.parts) ≡ l.initial.made.items ++ parts_text l.text l.found l.parts
