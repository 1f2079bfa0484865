use Rattle.std.proofs.Common.{◌≡◌, ◌≤◌, ◌<◌, ◌+◌, ℕ, get_or}
use Rattle.sh_split.proofs.marked.length_without_newlines.Given as goal

abbrev pub invariant-loop-i : goal.invariant-loop-i
invariant-loop-i l = (l.end ≤ l.i) × ((k : ℕ) → l.end ≤ k → k < l.i → get_or l.text k 0 ≡ 10) × ((k : ℕ) → k + 1 ≡ l.end → get_or l.text k 0 ≡ 10 → ⊥)
