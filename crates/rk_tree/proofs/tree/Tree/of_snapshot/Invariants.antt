use Rattle.rk_tree.specs.Copying.{HasDirs}
use Rattle.rk_tree.proofs.PlantedLemmas.{Takes}
use Rattle.rk_tree.proofs.tree.Tree.of_snapshot.Given as goal

abbrev pub invariant-loop-path : goal.invariant-loop-path
invariant-loop-path l = record {
  numbers : HasDirs l.tree l.numbers.entries;
  takes : Takes l.snapshot l.tree l.path-iterator;
}
