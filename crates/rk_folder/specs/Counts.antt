-- Counts of faults, which stop at their last value.
pub use Rattle.rk_tree.specs.Counts.{one_more, Rose, Still}
