use Rattle.std.proofs.Common.{◌≡◌, ◌-◌, List, []}
use Rattle.rk_seal.specs.declared.ops.Op.{Op}
use Rattle.tr_parts.specs.Reading.{many_at}
use Rattle.rk_seal.specs.Reading.{op_at}
use Rattle.rk_seal.proofs.reading.so_many_ops.Given as goal

abbrev pub invariant-ops : goal.invariant-ops
invariant-ops l = many_at (λ (front : List Op). op_at) (l.count - l.counter) l.ops.items l.rest ≡ many_at (λ (front : List Op). op_at) l.count [] l.bytes
