use Rattle.std.proofs.Common.{◌≡◌, ◌++◌, []}
use Rattle.rk_tree.specs.Hierarchy.{top}
use Rattle.rk_walk.specs.Course.{IsCourse, course_leads, course_sees, left_of}
use Rattle.rk_walk.specs.Walk.{leads, as_spot}
use Rattle.rk_walk.specs.Way.{leads_seeing}
use Rattle.rk_walk.proofs.walker.leads_seeing.Given as goal

abbrev pub invariant-walk : goal.invariant-walk
invariant-walk l = record {
  kept : IsCourse l.walker;
  same : leads as_spot 32 l.tree l.follow top l.path [] ≡ course_leads l.tree l.follow l.walker;
  sees : leads_seeing 32 l.tree l.follow top l.path [] ≡ l.seen.items ++ course_sees l.tree l.follow l.walker;
}

abbrev pub decreases-walk : goal.decreases-walk
decreases-walk l = left_of l.walker
