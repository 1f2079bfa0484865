use Rattle.std.proofs.Common.{◌≡◌, length}
use Rattle.std.specs.Prelude.{◌↔◌}
use Rattle.tr_record.proofs.same.same_steps.Given as goal

-- as many are left of both, and all are the same exactly where these are
abbrev pub invariant-steps : goal.invariant-steps
invariant-steps l = record {
  many : length l.left ≡ length l.other;
  same : (l.fn.a ≡ l.fn.b) ↔ (l.left ≡ l.other);
}

abbrev pub decreases-steps : goal.decreases-steps
decreases-steps l = length l.left
