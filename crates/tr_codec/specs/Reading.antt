-- Reading a table, as functions on bytes: a value and the rest, or none. The order of first uses is looked at when all is read.
use Rattle.std.specs.Prelude.{◌≡◌, ℕ, ◌^◌, Bool, List, [], ◌∷◌, Option, Some, None, not, ◌&&◌, ◌==◌, nat_lt, nat_le, length, take, drop, if◌then◌else◌}
use Rattle.std.specs.Int.{w64}
use Rattle.std.specs.Cmp.Lexicographic.{pointwise}
use Rattle.rk_base.specs.Text.{Text, same_text}
use Rattle.rk_base.specs.Canonical.{is_canonical, is_name}
use Rattle.rk_base.specs.Names.{are_names}
use Rattle.rk_base.specs.declared.errno.Errno.{Errno}
use Rattle.rk_base.specs.declared.errno.Errno.TheVariants as errno
use Rattle.rk_base.specs.declared.file_type.FileType.{FileType}
use Rattle.rk_base.specs.declared.file_type.FileType.TheVariants.{File, Dir, Link}
use Rattle.rk_base.specs.Variables.{are_variables}
use Rattle.rk_calls.specs.Keys.{KeyValue, is_key}
use Rattle.rk_calls.specs.RefMaps.{is_refmap}
use Rattle.rk_base.specs.declared.vars.Var.{Var}
use Rattle.rk_calls.specs.declared.call.How.{How}
use Rattle.rk_calls.specs.declared.call.How.TheVariants as how
use Rattle.rk_calls.specs.declared.call.Call.{Call}
use Rattle.rk_calls.specs.declared.call.Call.TheVariants as call
use Rattle.rk_calls.specs.declared.answer.Answer.{Answer}
use Rattle.rk_calls.specs.declared.answer.Answer.TheVariants as answer
use Rattle.tr_nodes.specs.Tails.{Tail, has as has_tail, same_tail, needed, steps_at}
use Rattle.tr_record.specs.Rec.{count_of}
use Rattle.tr_record.specs.declared.steps.Step.{Step}
use Rattle.tr_record.specs.declared.records.Record.{Record}
use Rattle.tr_parts.specs.Piece.{has, with_uses}
use Rattle.tr_codec.specs.Fits.{paid}
use Rattle.tr_codec.specs.Same.{same_step}
use Rattle.tr_codec.specs.Spelling.{talks, table_piece, magic}
pub use Rattle.tr_parts.specs.Reading.{◌>>=◌, given, flag_of, counted_at}
unfoldable pub use Rattle.tr_parts.specs.Reading.{number_at, byte_at, mode_at, flag_at, count_at, many_at, string_at, blob_at}

unfoldable pub var_at : List Text → List ℕ → Option (Var × List ℕ)
var_at blobs bytes = do
  name ← blob_at blobs bytes
  value ← blob_at blobs name.1
  Some (record { name = name.0; value = value.0 }, value.1)

-- the key of these parts, where they are parts of one
abbrev pub key_from : List Text → Text → List Var → Option KeyValue
key_from argv wd vars = given (is_canonical wd && (are_variables vars && is_key argv vars)) (record { argv = argv; wd = wd; vars = vars })

unfoldable pub key_at : List Text → List ℕ → Option (KeyValue × List ℕ)
key_at blobs bytes = do
  argv ← counted_at (λ front. blob_at blobs) bytes
  wd ← blob_at blobs argv.1
  vars ← counted_at (λ front. var_at blobs) wd.1
  key ← key_from argv.0 wd.0 vars.0
  Some (key, vars.1)

unfoldable pub pair_at : List ℕ → Option ((ℕ × ℕ) × List ℕ)
pair_at bytes = do
  d ← byte_at bytes
  n ← number_at w64 d.1
  Some ((d.0, n.0), n.1)

unfoldable pub map_at : List ℕ → Option (List (ℕ × ℕ) × List ℕ)
map_at bytes = do
  pairs ← counted_at (λ front. pair_at) bytes
  map ← given (is_refmap pairs.0) pairs.0
  Some (map, pairs.1)

abbrev pub how_of : ℕ → Option How
how_of code =
    if code == 0 then Some how.Read else
    if code == 1 then Some how.Make else
    if code == 2 then Some how.Append else None

abbrev pub kind_of : ℕ → Option FileType
kind_of code =
    if code == 1 then Some File else
    if code == 2 then Some Dir else
    if code == 3 then Some Link else None

abbrev pub errno_of : ℕ → Option Errno
errno_of code =
    if code == 1 then Some errno.NoEntry else
    if code == 2 then Some errno.NotDir else
    if code == 3 then Some errno.IsDir else
    if code == 4 then Some errno.Exists else
    if code == 5 then Some errno.Denied else
    if code == 6 then Some errno.Loops else
    if code == 7 then Some errno.NotEmpty else
    if code == 8 then Some errno.BadRef else
    if code == 9 then Some errno.Invalid else None

-- a call of a number
unfoldable pub number_call_at : (ℕ → Call) → List ℕ → Option (Call × List ℕ)
number_call_at make bytes = do
  r ← number_at w64 bytes
  Some (make r.0, r.1)

-- a call of a path
unfoldable pub path_call_at : (Text → Call) → List Text → List ℕ → Option (Call × List ℕ)
path_call_at make blobs bytes = do
  path ← blob_at blobs bytes
  Some (make path.0, path.1)

-- a call of two texts
unfoldable pub texts_call_at : (Text → Text → Call) → List Text → List ℕ → Option (Call × List ℕ)
texts_call_at make blobs bytes = do
  a ← blob_at blobs bytes
  b ← blob_at blobs a.1
  Some (make a.0 b.0, b.1)

-- a call of a path and a mode
unfoldable pub mode_call_at : (Text → ℕ → Call) → List Text → List ℕ → Option (Call × List ℕ)
mode_call_at make blobs bytes = do
  path ← blob_at blobs bytes
  mode ← mode_at path.1
  Some (make path.0 mode.0, mode.1)

unfoldable pub open_at : List Text → List ℕ → Option (Call × List ℕ)
open_at blobs bytes = do
  path ← blob_at blobs bytes
  code ← byte_at path.1
  how ← how_of code.0
  Some (call.Open path.0 how, code.1)

unfoldable pub write_at : List Text → List ℕ → Option (Call × List ℕ)
write_at blobs bytes = do
  r ← number_at w64 bytes
  text ← blob_at blobs r.1
  Some (call.Write r.0 text.0, text.1)

unfoldable pub stat_at : List Text → List ℕ → Option (Call × List ℕ)
stat_at blobs bytes = do
  path ← blob_at blobs bytes
  follow ← flag_at path.1
  Some (call.Stat path.0 follow.0, follow.1)

unfoldable pub launch_at : List Text → List ℕ → Option (Call × List ℕ)
launch_at blobs bytes = do
  key ← key_at blobs bytes
  map ← map_at key.1
  Some (call.Launch key.0 map.0, map.1)

abbrev pub call_of : List Text → ℕ → List ℕ → Option (Call × List ℕ)
call_of blobs kind bytes =
    if kind == 1 then open_at blobs bytes else
    if kind == 2 then number_call_at call.Read bytes else
    if kind == 3 then number_call_at call.ReadLine bytes else
    if kind == 4 then write_at blobs bytes else
    if kind == 5 then stat_at blobs bytes else
    if kind == 6 then path_call_at call.List blobs bytes else
    if kind == 7 then path_call_at call.ReadLink blobs bytes else
    if kind == 8 then path_call_at call.Walk blobs bytes else
    if kind == 9 then texts_call_at call.Same blobs bytes else
    if kind == 10 then mode_call_at call.Mkdir blobs bytes else
    if kind == 11 then path_call_at call.Rmdir blobs bytes else
    if kind == 12 then path_call_at call.Unlink blobs bytes else
    if kind == 13 then texts_call_at call.Rename blobs bytes else
    if kind == 14 then texts_call_at call.Symlink blobs bytes else
    if kind == 15 then texts_call_at call.Link blobs bytes else
    if kind == 16 then mode_call_at call.Chmod blobs bytes else
    if kind == 17 then Some (call.Pipe, bytes) else
    if kind == 18 then launch_at blobs bytes else None

unfoldable pub call_at : List Text → List ℕ → Option (Call × List ℕ)
call_at blobs bytes = do
  kind ← byte_at bytes
  call_of blobs kind.0 kind.1

-- an answer of a text
unfoldable pub text_answer_at : (Text → Answer) → List Text → List ℕ → Option (Answer × List ℕ)
text_answer_at make blobs bytes = do
  text ← blob_at blobs bytes
  Some (make text.0, text.1)

unfoldable pub found_at : List ℕ → Option (Answer × List ℕ)
found_at bytes = do
  code ← byte_at bytes
  kind ← kind_of code.0
  mode ← mode_at code.1
  empty ← flag_at mode.1
  Some (answer.Stat kind mode.0 empty.0, empty.1)

unfoldable pub name_at : List Text → List ℕ → Option (Text × List ℕ)
name_at blobs bytes = do
  text ← blob_at blobs bytes
  name ← given (is_name text.0) text.0
  Some (name, text.1)

unfoldable pub names_at : List Text → List ℕ → Option (Answer × List ℕ)
names_at blobs bytes = do
  names ← counted_at (λ front. name_at blobs) bytes
  list ← given (are_names names.0) names.0
  Some (answer.Names list, names.1)

unfoldable pub place_at : List Text → List ℕ → Option (Answer × List ℕ)
place_at blobs bytes = do
  text ← blob_at blobs bytes
  path ← given (is_canonical text.0) text.0
  Some (answer.Place path, text.1)

unfoldable pub same_at : List ℕ → Option (Answer × List ℕ)
same_at bytes = do
  same ← flag_at bytes
  Some (answer.Same same.0, same.1)

unfoldable pub joined_at : List ℕ → Option (Answer × List ℕ)
joined_at bytes = do
  status ← byte_at bytes
  Some (answer.Joined status.0, status.1)

unfoldable pub no_at : List ℕ → Option (Answer × List ℕ)
no_at bytes = do
  code ← byte_at bytes
  errno ← errno_of code.0
  Some (answer.No errno, code.1)

abbrev pub answer_of : List Text → ℕ → List ℕ → Option (Answer × List ℕ)
answer_of blobs kind bytes =
    if kind == 1 then Some (answer.Done, bytes) else
    if kind == 2 then Some (answer.Opened, bytes) else
    if kind == 3 then Some (answer.Piped, bytes) else
    if kind == 4 then text_answer_at answer.Content blobs bytes else
    if kind == 5 then found_at bytes else
    if kind == 6 then names_at blobs bytes else
    if kind == 7 then text_answer_at answer.Text blobs bytes else
    if kind == 8 then place_at blobs bytes else
    if kind == 9 then same_at bytes else
    if kind == 10 then joined_at bytes else
    if kind == 11 then no_at bytes else None

unfoldable pub answer_at : List Text → List ℕ → Option (Answer × List ℕ)
answer_at blobs bytes = do
  kind ← byte_at bytes
  answer_of blobs kind.0 kind.1

-- a step of this cost: its call and its answer
abbrev pub asked_at : List Text → ℕ → List ℕ → Option (Step × List ℕ)
asked_at blobs cost bytes = do
  asked ← call_at blobs bytes
  told ← answer_at blobs asked.1
  Some (record { cost = cost; call = asked.0; answer = told.0 }, told.1)

unfoldable pub step_at : List Text → List ℕ → Option (Step × List ℕ)
step_at blobs bytes = do
  cost ← number_at w64 bytes
  asked_at blobs cost.0 cost.1

-- a step, and the steps of a number in front of it
abbrev pub tail_of : List (Tail Step) → ℕ → Step → Tail Step
tail_of front next step = record { first = step; rest = steps_at front next }

-- what a tail's steps cost together
abbrev pub tail_paid : Tail Step → ℕ
tail_paid tail = paid (tail.first ∷ tail.rest) 0

-- the number of a rest stands in front of it, they aren't there together yet, and cost less than 2^64
abbrev pub is_new : List (Tail Step) → ℕ → Tail Step → Bool
is_new front next tail = nat_le next (length front) && (not (has_tail same_step front tail) && nat_lt (tail_paid tail) (2 ^ 64))

-- a node: the number of a rest, and a step
unfoldable pub node_at : List Text → List (Tail Step) → List ℕ → Option (Tail Step × List ℕ)
node_at blobs front bytes = do
  next ← number_at w64 bytes
  step ← step_at blobs next.1
  given (is_new front next.0 (tail_of front next.0 step.0)) (tail_of front next.0 step.0, step.1)

-- a record but for its ordinal
pub record Row : Type 0 where
  pub key : KeyValue
  pub steps : List Step
  pub exit : ℕ
  pub exit_cost : ℕ

-- with the steps of a number; its costs together are below 2^64
unfoldable pub row_at : List Text → List (Tail Step) → List ℕ → Option (Row × List ℕ)
row_at blobs tails bytes = do
  key ← key_at blobs bytes
  head ← number_at w64 key.1
  exit ← byte_at head.1
  exit_cost ← number_at w64 exit.1
  given (nat_le head.0 (length tails) && nat_lt (paid (steps_at tails head.0) exit_cost.0) (2 ^ 64)) (record { key = key.0; steps = steps_at tails head.0; exit = exit.0; exit_cost = exit_cost.0 }, exit_cost.1)

-- the next record after these
abbrev pub next_rec : List Record → Row → Record
next_rec front row = record { key = row.key; ordinal = count_of row.key front; steps = row.steps; exit = row.exit; exit_cost = row.exit_cost }

unfoldable pub record_at : List Text → List (Tail Step) → List Record → List ℕ → Option (Record × List ℕ)
record_at blobs tails front bytes = do
  row ← row_at blobs tails bytes
  Some (next_rec front row.0, row.1)

-- a blob: a text that isn't one of those in front
unfoldable pub fresh_at : List Text → List ℕ → Option (Text × List ℕ)
fresh_at front bytes = do
  text ← string_at bytes
  given (not (has front text.0)) text

-- the nodes are those that the records need, the blobs those that both use, each in the order of first use, and nothing stands behind them
abbrev pub is_whole : List Text → List (Tail Step) → List Record → List ℕ → Option (List Record)
is_whole blobs tails table rest =
    given (pointwise (same_tail same_step) (needed same_step (talks table)) tails && (pointwise same_text (with_uses [] (table_piece table).uses) blobs && (length rest == 0))) table

-- so many records with these blobs and nodes, which use all of both
abbrev pub records_at : List Text → List (Tail Step) → List ℕ → Option (List Record)
records_at blobs tails bytes = do
  table ← counted_at (record_at blobs tails) bytes
  is_whole blobs tails table.0 table.1

-- the table that is spelt after the magic: blobs, each once, nodes, each once, and records
unfoldable pub table_at : List ℕ → Option (List Record)
table_at bytes = do
  blobs ← counted_at fresh_at bytes
  tails ← counted_at (node_at blobs.0) blobs.1
  records_at blobs.0 tails.0 tails.1

-- the table that a body spells
unfoldable pub body_at : List ℕ → Option (List Record)
body_at bytes = if same_text (take 4 bytes) magic then table_at (drop 4 bytes) else None

-- this number stands there
abbrev pub IsNumberAt : List ℕ → ℕ → Type 0
IsNumberAt bytes n = (rest : List ℕ) × (number_at w64 bytes ≡ Some (n, rest))
