-- How many of the blobs are in use, as a table goes on: each is the next one at its first use.
use Rattle.std.specs.Prelude.{ℕ, ◌+◌, List, Option, Some, None, Bool, false, ◌==◌, nat_lt, fold, if◌then◌else◌}
use Rattle.rk_base.specs.Text.{Text}
use Rattle.rk_base.specs.declared.vars.Var.{Var}
use Rattle.rk_calls.specs.Keys.{KeyValue}
use Rattle.rk_calls.specs.declared.call.Call.{Call}
use Rattle.rk_calls.specs.declared.call.Call.TheVariants as call
use Rattle.rk_calls.specs.declared.answer.Answer.{Answer}
use Rattle.rk_calls.specs.declared.answer.Answer.TheVariants as answer
use Rattle.tr_nodes.specs.Tails.{Tail}
use Rattle.tr_record.specs.declared.steps.Step.{Step}
use Rattle.tr_record.specs.declared.records.Record.{Record}
use Rattle.tr_parts.specs.Piece.{number_of}

-- so many after a use of the blob with this number: it was in use, or is the next one; none, where others are skipped
unfoldable pub used_with : Option ℕ → ℕ → Option ℕ
used_with None n = None
used_with (Some used) n =
    if nat_lt n used then Some used else
    if n == used then Some (used + 1) else None

-- after a use of this text
abbrev pub used_by : List Text → Option ℕ → Text → Option ℕ
used_by blobs used text = used_with used (number_of blobs text)

abbrev pub var_used : List Text → Option ℕ → Var → Option ℕ
var_used blobs used v = used_by blobs (used_by blobs used v.name) v.value

abbrev pub key_used : List Text → Option ℕ → KeyValue → Option ℕ
key_used blobs used key = fold (var_used blobs) (used_by blobs (fold (used_by blobs) used key.argv) key.wd) key.vars

abbrev pub call_used : List Text → Option ℕ → Call → Option ℕ
call_used blobs used (call.Open path how) = used_by blobs used path
call_used blobs used (call.Read r) = used
call_used blobs used (call.ReadLine r) = used
call_used blobs used (call.Write r bytes) = used_by blobs used bytes
call_used blobs used (call.Stat path follow) = used_by blobs used path
call_used blobs used (call.List path) = used_by blobs used path
call_used blobs used (call.ReadLink path) = used_by blobs used path
call_used blobs used (call.Walk path) = used_by blobs used path
call_used blobs used (call.Same a b) = used_by blobs (used_by blobs used a) b
call_used blobs used (call.Mkdir path mode) = used_by blobs used path
call_used blobs used (call.Rmdir path) = used_by blobs used path
call_used blobs used (call.Unlink path) = used_by blobs used path
call_used blobs used (call.Rename a b) = used_by blobs (used_by blobs used a) b
call_used blobs used (call.Symlink text path) = used_by blobs (used_by blobs used text) path
call_used blobs used (call.Link a b) = used_by blobs (used_by blobs used a) b
call_used blobs used (call.Chmod path mode) = used_by blobs used path
call_used blobs used call.Pipe = used
call_used blobs used (call.Launch key map) = key_used blobs used key

abbrev pub answer_used : List Text → Option ℕ → Answer → Option ℕ
answer_used blobs used answer.Go = used
answer_used blobs used answer.Done = used
answer_used blobs used answer.Opened = used
answer_used blobs used answer.Piped = used
answer_used blobs used (answer.Content bytes) = used_by blobs used bytes
answer_used blobs used (answer.Stat kind mode empty) = used
answer_used blobs used (answer.Names names) = fold (used_by blobs) used names
answer_used blobs used (answer.Text text) = used_by blobs used text
answer_used blobs used (answer.Place path) = used_by blobs used path
answer_used blobs used (answer.Same same) = used
answer_used blobs used (answer.Joined status) = used
answer_used blobs used (answer.No errno) = used

abbrev pub step_used : List Text → Option ℕ → Step → Option ℕ
step_used blobs used step = answer_used blobs (call_used blobs used step.call) step.answer

-- after nodes of the first steps of these tails
abbrev pub nodes_used : List Text → Option ℕ → List (Tail Step) → Option ℕ
nodes_used blobs = fold (λ used tail. step_used blobs used tail.first)

-- after the keys of these records
abbrev pub keys_used : List Text → Option ℕ → List Record → Option ℕ
keys_used blobs = fold (λ used rec. key_used blobs used rec.key)

-- whether all of so many blobs are in use
abbrev pub all_used : Option ℕ → ℕ → Bool
all_used None blobs = false
all_used (Some used) blobs = used == blobs

-- ---- as a table of the first version goes on

-- after a record with this key and these steps
abbrev pub row_used : List Text → Option ℕ → KeyValue → List Step → Option ℕ
row_used blobs used key steps = fold (step_used blobs) (key_used blobs used key) steps

abbrev pub record_used : List Text → Option ℕ → Record → Option ℕ
record_used blobs used rec = row_used blobs used rec.key rec.steps

abbrev pub table_used : List Text → Option ℕ → List Record → Option ℕ
table_used blobs = fold (record_used blobs)
