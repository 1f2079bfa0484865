-- What `find` tests of a path.
use Rattle.std.specs.Prelude.{List, [], ◌∷◌, Bool, true, false, ◌&&◌}
use Rattle.rk_base.specs.Text.{Text}
use Rattle.rk_base.specs.declared.file_type.FileType.{FileType}
use Rattle.rk_base.specs.declared.file_type.FileType.TheVariants.{File, Dir, Link}
use Rattle.sh_pattern.specs.Decided.{is_matched}
use Rattle.ut_files.specs.Operands.{basename}
use Rattle.ut_find.specs.declared.test.Test.{Test}
use Rattle.ut_find.specs.declared.test.Test.TheVariants.{Named, OfKind}

abbrev pub same_kind : FileType → FileType → Bool
same_kind File File = true
same_kind File Dir = false
same_kind File Link = false
same_kind Dir File = false
same_kind Dir Dir = true
same_kind Dir Link = false
same_kind Link File = false
same_kind Link Dir = false
same_kind Link Link = true

-- its last component matches a pattern, or this stands there
abbrev pub meets : FileType → Text → Test → Bool
meets kind path (Named pattern) = is_matched pattern (basename path)
meets kind path (OfKind wanted) = same_kind kind wanted

abbrev pub meets_all : FileType → Text → List Test → Bool
meets_all kind path [] = true
meets_all kind path (test ∷ tests) = meets kind path test && meets_all kind path tests
