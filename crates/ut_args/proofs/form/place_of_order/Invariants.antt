use Rattle.std.proofs.Common.{◌≡◌, ℕ, ◌<◌, get_or, false}
use Rattle.ut_args.specs.Forms.{is_order}
use Rattle.ut_args.proofs.form.place_of_order.Given as goal

abbrev pub invariant-loop-i : goal.invariant-loop-i
invariant-loop-i l = (k : ℕ) → k < l.i → is_order (get_or l.text k 0) ≡ false
