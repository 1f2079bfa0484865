-- What the code keeps of where a path led.
use Rattle.std.specs.Prelude.{ℕ, Option, Some, None, Result, Ok, Err}
use Rattle.rk_base.specs.declared.errno.Errno.{Errno}
use Rattle.rk_tree.specs.Hierarchy.{Hierarchy}
use Rattle.rk_walk.specs.Places.{IsFound, IsFreeName}
use Rattle.rk_walk.specs.Walk.{Spot as Led}
use Rattle.rk_walk.specs.declared.place.Place.TheVariants as place
use Rattle.rk_kernel.specs.declared.spot.Spot.{Spot}
use Rattle.rk_kernel.specs.declared.spot.Spot.TheVariants.{Found, Absent, Fails}

abbrev pub spot_means : Spot → Led
spot_means (Found n up slash) = Ok (place.Found (record { node = n; up = up; slash = slash }))
spot_means (Absent dir name slash) = Ok (place.Absent dir name slash)
spot_means (Fails e) = Err e

-- what is known of it in a whole tree
abbrev pub IsSpotOf : Hierarchy → Spot → Type 0
IsSpotOf tree (Found n up slash) = IsFound tree n up
IsSpotOf tree (Absent dir name slash) = IsFreeName tree dir name
IsSpotOf tree (Fails e) = Unit {0}

-- the node that a path leads to, or none
abbrev pub met : Led → Result (Option ℕ) Errno
met (Err e) = Err e
met (Ok (place.Absent dir name slash)) = Ok None
met (Ok (place.Found at)) = Ok (Some at.node)
