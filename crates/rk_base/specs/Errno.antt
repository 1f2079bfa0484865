-- The words for refusals.
use Rattle.std.specs.Prelude.{ℕ, List, codes}
use Rattle.rk_base.specs.declared.errno.Errno.{Errno}
use Rattle.rk_base.specs.declared.errno.Errno.TheVariants.{NoEntry, NotDir, IsDir, Exists, Denied, Loops, NotEmpty, BadRef, Invalid}

abbrev pub word : Errno → List ℕ
word NoEntry = codes "no such file"
word NotDir = codes "not a directory"
word IsDir = codes "is a directory"
word Exists = codes "exists"
word Denied = codes "denied"
word Loops = codes "too many links"
word NotEmpty = codes "not empty"
word BadRef = codes "bad descriptor"
word Invalid = codes "not valid"
