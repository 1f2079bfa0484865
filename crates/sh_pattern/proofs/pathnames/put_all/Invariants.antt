use Rattle.std.proofs.Common.{◌≡◌, ◌++◌, length}
use Rattle.sh_pattern.specs.Pathnames.{put_all}
use Rattle.sh_pattern.proofs.pathnames.put_all.Given as goal

abbrev pub invariant-prefixes : goal.invariant-prefixes
invariant-prefixes l = l.paths ++ put_all l.last l.value l.prefixes ≡ put_all l.last l.value l.initial.prefixes

abbrev pub decreases-prefixes : goal.decreases-prefixes
decreases-prefixes l = length l.prefixes
