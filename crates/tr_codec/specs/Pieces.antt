-- The pieces of keys, calls and answers, which each version of the spelling has.
use Rattle.std.specs.Prelude.{ℕ, Bool, true, false}
use Rattle.rk_base.specs.declared.errno.Errno.{Errno}
use Rattle.rk_base.specs.declared.errno.Errno.TheVariants as errno
use Rattle.rk_base.specs.declared.file_type.FileType.{FileType}
use Rattle.rk_base.specs.declared.file_type.FileType.TheVariants.{File, Dir, Link}
use Rattle.rk_calls.specs.Keys.{KeyValue}
use Rattle.rk_base.specs.declared.vars.Var.{Var}
use Rattle.rk_calls.specs.declared.call.How.{How}
use Rattle.rk_calls.specs.declared.call.How.TheVariants as how
use Rattle.rk_calls.specs.declared.call.Call.{Call}
use Rattle.rk_calls.specs.declared.call.Call.TheVariants as call
use Rattle.rk_calls.specs.declared.answer.Answer.{Answer}
use Rattle.rk_calls.specs.declared.answer.Answer.TheVariants as answer
use Rattle.tr_parts.specs.Piece.{Piece, blob, ◌⊕◌, byte, mode, number, counted}

-- a variable is its name and its value
abbrev pub var_piece : Var → Piece
var_piece v = blob v.name ⊕ blob v.value

-- a key is its words, its working directory and its variables
abbrev pub key_piece : KeyValue → Piece
key_piece key = counted blob key.argv ⊕ blob key.wd ⊕ counted var_piece key.vars

-- a descriptor, and the number that it stands for
abbrev pub pair_piece : ℕ × ℕ → Piece
pair_piece pair = byte pair.0 ⊕ number pair.1

abbrev pub how_code : How → ℕ
how_code how.Read = 0
how_code how.Make = 1
how_code how.Append = 2

abbrev pub flag_code : Bool → ℕ
flag_code false = 0
flag_code true = 1

-- a call is its kind and its fields
abbrev pub call_piece : Call → Piece
call_piece (call.Open path how) = byte 1 ⊕ blob path ⊕ byte (how_code how)
call_piece (call.Read r) = byte 2 ⊕ number r
call_piece (call.ReadLine r) = byte 3 ⊕ number r
call_piece (call.Write r bytes) = byte 4 ⊕ number r ⊕ blob bytes
call_piece (call.Stat path follow) = byte 5 ⊕ blob path ⊕ byte (flag_code follow)
call_piece (call.List path) = byte 6 ⊕ blob path
call_piece (call.ReadLink path) = byte 7 ⊕ blob path
call_piece (call.Walk path) = byte 8 ⊕ blob path
call_piece (call.Same a b) = byte 9 ⊕ blob a ⊕ blob b
call_piece (call.Mkdir path permissions) = byte 10 ⊕ blob path ⊕ mode permissions
call_piece (call.Rmdir path) = byte 11 ⊕ blob path
call_piece (call.Unlink path) = byte 12 ⊕ blob path
call_piece (call.Rename a b) = byte 13 ⊕ blob a ⊕ blob b
call_piece (call.Symlink text path) = byte 14 ⊕ blob text ⊕ blob path
call_piece (call.Link a b) = byte 15 ⊕ blob a ⊕ blob b
call_piece (call.Chmod path permissions) = byte 16 ⊕ blob path ⊕ mode permissions
call_piece call.Pipe = byte 17
call_piece (call.Launch key map) = byte 18 ⊕ key_piece key ⊕ counted pair_piece map

abbrev pub kind_code : FileType → ℕ
kind_code File = 1
kind_code Dir = 2
kind_code Link = 3

abbrev pub errno_code : Errno → ℕ
errno_code errno.NoEntry = 1
errno_code errno.NotDir = 2
errno_code errno.IsDir = 3
errno_code errno.Exists = 4
errno_code errno.Denied = 5
errno_code errno.Loops = 6
errno_code errno.NotEmpty = 7
errno_code errno.BadRef = 8
errno_code errno.Invalid = 9

-- an answer is its kind and its fields; Go is never recorded, and no reading takes its kind
abbrev pub answer_piece : Answer → Piece
answer_piece answer.Go = byte 0
answer_piece answer.Done = byte 1
answer_piece answer.Opened = byte 2
answer_piece answer.Piped = byte 3
answer_piece (answer.Content bytes) = byte 4 ⊕ blob bytes
answer_piece (answer.Stat it permissions empty) = byte 5 ⊕ byte (kind_code it) ⊕ mode permissions ⊕ byte (flag_code empty)
answer_piece (answer.Names names) = byte 6 ⊕ counted blob names
answer_piece (answer.Text text) = byte 7 ⊕ blob text
answer_piece (answer.Place path) = byte 8 ⊕ blob path
answer_piece (answer.Same same) = byte 9 ⊕ byte (flag_code same)
answer_piece (answer.Joined status) = byte 10 ⊕ byte status
answer_piece (answer.No errno) = byte 11 ⊕ byte (errno_code errno)
