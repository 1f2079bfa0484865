use Rattle.std.proofs.Common.{◌≡◌, true}
use Rattle.std.specs.Option.{option_map}
use Rattle.rk_tree.specs.Entries.{is_dir}
use Rattle.rk_tree.specs.Hierarchy.{node, path_of}
use Rattle.rk_tree.specs.Names.{path_by}
use Rattle.rk_tree.proofs.ClimbingLemmas.{depth_at}
use Rattle.rk_tree.proofs.tree.Tree.names_to.Given as goal

-- the names so far, put after the path of the directory that the loop has come to
abbrev pub invariant-up : goal.invariant-up
invariant-up l = record {
  in_dir : is_dir (node l.self l.at) ≡ true;
  names : option_map (λ path. path_by path l.names.items) (path_of l.self l.at) ≡ path_of l.self l.fn.dir;
}

abbrev pub decreases-up : goal.decreases-up
decreases-up l = depth_at (path_of l.self l.at)
