use Rattle.std.proofs.Common.{◌≡◌, ◌-◌, List, [], length, take}
use Rattle.std.specs.Prelude.{fold}
use Rattle.rk_base.specs.declared.vars.Var.{Var}
use Rattle.tr_codec.specs.Reading.{var_at, many_at}
use Rattle.tr_codec.specs.Used.{var_used}
use Rattle.tr_codec.proofs.recent.past_each_var.Given as goal

abbrev pub invariant-vars : goal.invariant-vars
invariant-vars l = record {
  stand : many_at (λ (front : List Var). var_at l.blobs) (length l.vars - l.var-index) (take l.var-index l.vars) l.rest ≡ many_at (λ (front : List Var). var_at l.blobs) (length l.vars) [] l.bytes;
  used : l.used ≡ fold (var_used l.blobs) l.initial.used (take l.var-index l.vars);
}
