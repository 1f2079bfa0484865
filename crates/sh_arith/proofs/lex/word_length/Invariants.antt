use Rattle.std.proofs.Common.{◌≡◌, ◌+◌, drop}
use Rattle.std.specs.List.{prefix_len}
use Rattle.rk_base.specs.Variables.{is_more}
use Rattle.sh_arith.proofs.lex.word_length.Given as goal

abbrev pub invariant-bytes : goal.invariant-bytes
invariant-bytes l = (l.n ≡ l.b-index) × (l.n + prefix_len is_more (drop l.b-index l.text) ≡ prefix_len is_more l.text)
