use Rattle.std.proofs.Common.{◌≡◌, true}
use Rattle.rk_tree.specs.Entries.{is_dir}
use Rattle.rk_tree.specs.Hierarchy.{node, path_of, within}
use Rattle.rk_tree.proofs.ClimbingLemmas.{depth_at}
use Rattle.rk_tree.proofs.tree.Tree.stands_within.Given as goal

-- the directory that the loop has come to is within the other one exactly where the first one is
abbrev pub invariant-up : goal.invariant-up
invariant-up l = record {
  in_dir : is_dir (node l.self l.at) ≡ true;
  alike : within (path_of l.self l.above) (path_of l.self l.at) ≡ within (path_of l.self l.above) (path_of l.self l.fn.dir);
}

abbrev pub decreases-up : goal.decreases-up
decreases-up l = depth_at (path_of l.self l.at)
