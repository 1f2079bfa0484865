use Rattle.std.proofs.Common.{◌≡◌, ◌++◌, length, reverse}
use Rattle.sh_parse.proofs.todo.put_all.Given as goal

-- what is left in front of what was put is the whole
abbrev pub invariant-symbols : goal.invariant-symbols
invariant-symbols l = l.left ++ reverse l.under.items ≡ l.fn.symbols ++ reverse l.fn.under.items

abbrev pub decreases-symbols : goal.decreases-symbols
decreases-symbols l = length l.left
