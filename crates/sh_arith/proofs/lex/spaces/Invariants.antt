use Rattle.std.proofs.Common.{◌≡◌, ◌+◌, drop}
use Rattle.std.specs.List.{prefix_len}
use Rattle.sh_arith.specs.Tokens.{is_space}
use Rattle.sh_arith.proofs.lex.spaces.Given as goal

abbrev pub invariant-bytes : goal.invariant-bytes
invariant-bytes l = (l.n ≡ l.b-index) × (l.n + prefix_len is_space (drop l.b-index l.text) ≡ prefix_len is_space l.text)
