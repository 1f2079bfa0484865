-- What answers tell. An answer that doesn't fit is taken as one that tells the least.
use Rattle.std.specs.Prelude.{List, [], Bool, true, false, Option, Some, None, Result, Ok, Err}
use Rattle.rk_base.specs.Text.{Text, root}
use Rattle.rk_base.specs.declared.errno.Errno.{Errno}
use Rattle.rk_base.specs.declared.errno.Errno.TheVariants.{NoEntry, Exists}
use Rattle.rk_base.specs.declared.file_type.FileType.TheVariants.{File}
use Rattle.rk_calls.specs.declared.answer.Answer.{Answer}
use Rattle.rk_calls.specs.declared.answer.Answer.TheVariants.{Stat, Names, Text as Told, Place, Same, No}
use Rattle.ut_files.specs.declared.answers.Stood.{Stood}

-- why a call was refused, where it was
abbrev pub refusal : Answer → Option Errno
refusal (No errno) = Some errno
refusal answer = None

-- what stands there
abbrev pub found : Answer → Result Stood Errno
found (Stat kind mode empty) = Ok (record { kind = kind; mode = mode })
found (No errno) = Err errno
found answer = Ok (record { kind = File; mode = 0 })

-- the names in a directory
abbrev pub names_in : Answer → Result (List Text) Errno
names_in (Names names) = Ok names
names_in (No errno) = Err errno
names_in answer = Ok []

-- the text of a link
abbrev pub text_in : Answer → Result Text Errno
text_in (Told text) = Ok text
text_in (No errno) = Err errno
text_in answer = Ok []

-- the canonical path of a directory
abbrev pub place_in : Answer → Result Text Errno
place_in (Place path) = Ok path
place_in (No errno) = Err errno
place_in answer = Ok root

-- whether two paths lead to one node
abbrev pub same_in : Answer → Result Bool Errno
same_in (Same same) = Ok same
same_in (No errno) = Err errno
same_in answer = Ok false

abbrev pub is_no_entry : Errno → Bool
is_no_entry NoEntry = true
is_no_entry errno = false

abbrev pub is_exists : Errno → Bool
is_exists Exists = true
is_exists errno = false
