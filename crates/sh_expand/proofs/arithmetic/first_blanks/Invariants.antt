use Rattle.std.proofs.Common.{◌≡◌, ◌+◌, drop}
use Rattle.std.specs.List.{prefix_len}
use Rattle.sh_expand.specs.Arithmetic.{is_blank}
use Rattle.sh_expand.proofs.arithmetic.first_blanks.Given as goal

abbrev pub invariant-bytes : goal.invariant-bytes
invariant-bytes l = (l.n ≡ l.b-index) × (l.n + prefix_len is_blank (drop l.b-index l.text) ≡ prefix_len is_blank l.text)
