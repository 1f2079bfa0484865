use Rattle.std.proofs.Common.{◌≡◌, ℕ, ◌≤◌, map, vec_len}
use Rattle.std.specs.Prelude.{max}
use Rattle.rk_waves.specs.Listed.{list_at}
use Rattle.rk_waves.proofs.listed.make_room.Given as goal

abbrev pub invariant-waves : goal.invariant-waves
invariant-waves l = record {
  count : vec_len l.waves ≡ l.counter;
  least : vec_len l.initial.waves ≤ l.counter;
  most : l.counter ≤ max (vec_len l.initial.waves) l.count;
  each : (k : ℕ) → list_at (map (λ s. s.keys) l.waves.items) k ≡ list_at (map (λ s. s.keys) l.initial.waves.items) k;
}
