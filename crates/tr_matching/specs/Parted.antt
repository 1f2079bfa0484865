-- A group with its parts.
use Rattle.std.specs.Prelude.{ℕ, true}
use Rattle.tr_matching.specs.declared.group.Group.{Group}
use Rattle.tr_matching.specs.declared.parting.Parting.{Parting}

-- a group that is parted so, its parts behind so many groups
abbrev pub with_parts : Group → ℕ → Parting → Group
with_parts it from more = record it { from = from; parted = true; parts = more.index }
