-- The programs of Open and Pipe.
use Rattle.std.specs.Prelude.{ℕ, List, [], ◌∷◌, ◌++◌, true, false, if◌then◌else◌, Some}
use Rattle.rk_base.specs.Text.{Text}
use Rattle.rk_base.specs.declared.errno.Errno.TheVariants.{NoEntry, IsDir, Denied}
use Rattle.rk_calls.specs.declared.call.How.{How}
use Rattle.rk_calls.specs.declared.call.How.TheVariants as how
use Rattle.rk_calls.specs.declared.answer.Answer.TheVariants as answer
use Rattle.rk_kernel.specs.Opening.{is_read, lacks}
use Rattle.rk_waves.specs.Programs.{Reads, Ends, Sets, Update, One}
use Rattle.rk_feet.specs.Named.{Name, Made, What, File, Dir, Link, Of, Pipe, Description, Plain, EntryOf, ModeOf, BytesOf, OpenOf, Used, Value, Entry, Bytes}
use Rattle.rk_feet.specs.Named.{Opened, Flag, flag, mode, Does}
use Rattle.rk_feet.specs.Ways.{Place, Found, Absent, resolve}
use Rattle.rk_feet.specs.Checks.{no, row, strict, writing}

-- Open

abbrev pub description : How → Name → Description
description how.Read n = record { source = Of n; offset = 0; read = true; write = false; append = false }
description how.Make n = record { source = Of n; offset = 0; read = false; write = true; append = false }
description how.Append n = record { source = Of n; offset = 0; read = false; write = true; append = true }

abbrev pub opens : Name → How → Name → Plain × Update Value
opens me h n = (OpenOf me, Sets (Opened (Some (description h n))))

abbrev pub empties : How → Name → List (Plain × Update Value)
empties how.Make n = (BytesOf n, Sets (Bytes [])) ∷ []
empties _ n = []

-- the step has made something
abbrev pub uses : ℕ → ℕ → Plain × Update Value
uses command step = (Used command step, Sets (Flag true))

abbrev pub open_mode : ℕ → ℕ → How → Name → Value → Does
open_mode r s h n m = if lacks h (mode m) then no Denied else Ends answer.Opened (uses r s ∷ empties h n ++ opens (Made r s 0 420) h n ∷ [])

abbrev pub open_what : ℕ → ℕ → How → Name → What → Does
open_what r s h n File = Reads (One (ModeOf n)) (open_mode r s h n)
open_what r s h n Dir = no IsDir
open_what r s h n (Link text) = Reads (One (ModeOf n)) (open_mode r s h n)

abbrev pub makes_file : ℕ → ℕ → How → Name → Text → Does
makes_file r s h dir name =
    Ends answer.Opened (uses r s ∷ (EntryOf dir name, Sets (Entry (Some (record { name = Made r s 0 420; what = File }))))
    ∷ opens (Made r s 0 420) h (Made r s 0 420) ∷ [])

abbrev pub open_at : ℕ → ℕ → How → Place → Does
open_at r s h (Found here) = open_what r s h here.node.name here.node.what
open_at r s h (Absent dir name slash) = if is_read h then no NoEntry else writing dir (makes_file r s h dir name)

-- what makes something, makes it once: the answer `Go` never comes
abbrev pub once_by : Does → Value → Does
once_by x u = if flag u then Ends answer.Go [] else x

abbrev pub once : ℕ → ℕ → Does → Does
once r s x = Reads (One (Used r s)) (once_by x)

abbrev pub open_path : ℕ → ℕ → Text → How → Does
open_path r s path h = resolve (row (strict (open_at r s h))) true path

abbrev pub does_open : ℕ → ℕ → Text → How → Does
does_open r s path h = once r s (open_path r s path h)

-- Pipe

abbrev pub pipe_read : Name → Description
pipe_read p = record { source = Pipe p; offset = 0; read = true; write = false; append = false }

abbrev pub pipe_write : Name → Description
pipe_write p = record { source = Pipe p; offset = 0; read = false; write = true; append = false }

abbrev pub makes_pipe : ℕ → ℕ → List (Plain × Update Value)
makes_pipe r s = uses r s ∷ (OpenOf (Made r s 0 0), Sets (Opened (Some (pipe_read (Made r s 0 0)))))
    ∷ (OpenOf (Made r s 1 0), Sets (Opened (Some (pipe_write (Made r s 0 0))))) ∷ []

abbrev pub does_pipe : ℕ → ℕ → Does
does_pipe r s = once r s (Ends answer.Piped (makes_pipe r s))
