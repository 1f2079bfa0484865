use Rattle.std.proofs.Common.{◌≡◌, ℕ, ◌<◌, ◌≤◌, ◌-◌, get_or, length, true}
use Rattle.ut_sort.specs.Runs.{is_of}
use Rattle.ut_sort.proofs.runs.run.Given as goal

abbrev pub invariant-bytes : goal.invariant-bytes
invariant-bytes l = record {
  within : l.at ≤ length l.text;
  passed : (k : ℕ) → k < l.at → is_of l.class (get_or l.text k 0) ≡ true;
}

abbrev pub decreases-bytes : goal.decreases-bytes
decreases-bytes l = length l.text - l.at
