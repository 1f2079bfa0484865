use Rattle.std.proofs.Common.{◌≡◌, []}
use Rattle.rk_tree.specs.Hierarchy.{top}
use Rattle.rk_walk.specs.Course.{IsCourse, course_leads, left_of}
use Rattle.rk_walk.specs.Walk.{leads, as_spot}
use Rattle.rk_walk.proofs.walker.leads.Given as goal

abbrev pub invariant-loop-end : goal.invariant-loop-end
invariant-loop-end l = record { kept : IsCourse l.walker; same : leads as_spot 32 l.tree l.follow top l.path [] ≡ course_leads l.tree l.follow l.walker }

abbrev pub decreases-loop-end : goal.decreases-loop-end
decreases-loop-end l = left_of l.walker
