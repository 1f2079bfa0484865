use Rattle.std.proofs.Common.{◌≡◌, ◌-◌, List, []}
use Rattle.std.specs.Prelude.{fold}
use Rattle.rk_base.specs.declared.vars.Var.{Var}
use Rattle.tr_codec.specs.Reading.{var_at, many_at}
use Rattle.tr_codec.specs.Used.{var_used}
use Rattle.tr_codec.proofs.keys.so_many_vars.Given as goal

abbrev pub invariant-vars : goal.invariant-vars
invariant-vars l = record {
  read : many_at (λ (front : List Var). var_at l.blobs) (l.count - l.counter) l.vars.items l.rest ≡ many_at (λ (front : List Var). var_at l.blobs) l.count [] l.bytes;
  used : l.used ≡ fold (var_used l.blobs) l.initial.used l.vars.items;
}
