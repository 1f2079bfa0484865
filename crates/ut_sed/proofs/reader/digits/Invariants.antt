use Rattle.std.proofs.Common.{◌≡◌, ℕ, ◌<◌, ◌≤◌, ◌-◌, get_or, length, true}
use Rattle.ut_sed.specs.Scanning.{is_digit}
use Rattle.ut_sed.proofs.reader.digits.Given as goal

abbrev pub invariant-digits : goal.invariant-digits
invariant-digits l = record {
  within : l.at ≤ length l.text;
  passed : (k : ℕ) → k < l.at → is_digit (get_or l.text k 0) ≡ true;
}

abbrev pub decreases-digits : goal.decreases-digits
decreases-digits l = length l.text - l.at
