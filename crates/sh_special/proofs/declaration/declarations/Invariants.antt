use Rattle.std.proofs.Common.{◌≡◌, map, take}
use Rattle.sh_special.specs.Orders.{declaration_of}
use Rattle.sh_special.proofs.declaration.declarations.Given as goal

abbrev pub invariant-words : goal.invariant-words
invariant-words l = l.declarations.items ≡ map declaration_of (take l.word-index l.words)
