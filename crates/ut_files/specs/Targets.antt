-- Where `ln`, `mv` and `cp` put their sources: a directory takes each by its basename; several sources need one.
use Rattle.std.specs.Prelude.{◌-◌, List, [], ◌∷◌, take, drop, length, Bool, true, false, Option, Some, None, Result, Ok, Err}
use Rattle.rk_base.specs.Text.{Text}
use Rattle.rk_base.specs.declared.errno.Errno.{Errno}
use Rattle.rk_base.specs.declared.errno.Errno.TheVariants.{NotDir}
use Rattle.rk_base.specs.declared.file_type.FileType.{FileType}
use Rattle.rk_base.specs.declared.file_type.FileType.TheVariants.{File, Dir, Link}
use Rattle.ut_files.specs.declared.answers.Stood.{Stood}
use Rattle.ut_files.specs.declared.manner.Manner.{Manner}
use Rattle.ut_files.specs.declared.step.WorkItem.{WorkItem}
use Rattle.ut_files.specs.declared.targets.Aim.{Aim}
use Rattle.ut_files.specs.declared.targets.Aim.TheVariants.{Inside, Itself, Nowhere}
use Rattle.ut_files.specs.Complaints.{usage}
use Rattle.ut_files.specs.Operands.{basename, below}

-- one source goes to the target itself, which stands or not; several can't
abbrev pub onto : List Text → Bool → Errno → Aim
onto [] stands errno = Nowhere errno
onto (source ∷ []) stands errno = Itself stands
onto (source ∷ other ∷ more) stands errno = Nowhere errno

abbrev pub by_kind : List Text → FileType → Aim
by_kind sources Dir = Inside
by_kind sources File = onto sources true NotDir
by_kind sources Link = onto sources true NotDir

-- by what stands at the target, links followed
abbrev pub aim_at : List Text → Result Stood Errno → Aim
aim_at sources (Ok s) = by_kind sources s.kind
aim_at sources (Err errno) = onto sources false errno

-- where a source goes
abbrev pub goal : Aim → Text → Text → Text
goal Inside target source = below target (basename source)
goal (Itself stands) target source = target
goal (Nowhere errno) target source = target

abbrev pub only : List Text → Option Text
only [] = None
only (target ∷ []) = Some target
only (target ∷ other ∷ others) = None

-- the last operand, where one stands before it
abbrev pub the_target : List Text → List Text → Option Text
the_target [] rest = None
the_target (source ∷ more) rest = only rest

abbrev pub by_target : {T : Type 0} → Manner → (List Text → Text → WorkItem T) → List Text → Option Text → List (WorkItem T)
by_target m find sources None = usage m
by_target m find sources (Some target) = find sources target ∷ []

abbrev pub sources_of : List Text → List Text
sources_of operands = take (length operands - 1) operands

abbrev pub target_of : List Text → List Text
target_of operands = drop (length operands - 1) operands

-- with the last operand and with those before it, of which there is one at least
abbrev pub with_target : {T : Type 0} → Manner → (List Text → Text → WorkItem T) → List Text → List (WorkItem T)
with_target m find operands = by_target m find (sources_of operands) (the_target (sources_of operands) (target_of operands))
