-- The programs of Read, ReadLine and Write.
use Rattle.std.specs.Prelude.{◌+◌, [], ◌∷◌, ◌++◌, length, drop, not, if◌then◌else◌, Option, Some, None}
use Rattle.rk_base.specs.Text.{Text, written}
use Rattle.rk_base.specs.Canonical.{is_empty}
use Rattle.rk_base.specs.declared.errno.Errno.TheVariants.{BadRef}
use Rattle.rk_calls.specs.declared.answer.Answer.TheVariants as answer
use Rattle.rk_kernel.specs.World.{line_of, after_line, line_end}
use Rattle.rk_waves.specs.Programs.{Reads, Ends, Sets, Changes, Update, One}
use Rattle.rk_feet.specs.Named.{Name, Source, Of, Pipe, Output, Error, Nothing, Description, BytesOf, OpenOf, PipeOf, OutputText, ErrorText, Value, Bytes}
use Rattle.rk_feet.specs.Named.{Opened, bytes, opened, Does}
use Rattle.rk_feet.specs.Checks.{no}

-- Read

-- Each continuation of a read has a name: a proof passes it on.

abbrev pub read_bytes : Name → Description → Value → Does
read_bytes k d b = Ends (answer.Content (drop d.offset (bytes b)))
    ((OpenOf k, Sets (Opened (Some (record d { offset = if d.append then 0 else length (bytes b) })))) ∷ [])

abbrev pub read_pipe : Name → Value → Does
read_pipe p b = Ends (answer.Content (bytes b)) ((PipeOf p, Sets (Bytes [])) ∷ [])

abbrev pub read_from : Name → Description → Source → Does
read_from k d (Of n) = Reads (One (BytesOf n)) (read_bytes k d)
read_from k d (Pipe p) = Reads (One (PipeOf p)) (read_pipe p)
read_from k d Output = Ends (answer.Content []) []
read_from k d Error = Ends (answer.Content []) []
read_from k d Nothing = Ends (answer.Content []) []

abbrev pub read_by : Name → Option Description → Does
read_by k None = no BadRef
read_by k (Some d) = if not d.read then no BadRef else read_from k d d.source

-- the description is the one that the trace says
abbrev pub does_read : Option Name → Does
does_read None = no BadRef
does_read (Some k) = Reads (One (OpenOf k)) (λ d. read_by k (opened d))

-- ReadLine

abbrev pub read_line_bytes : Name → Description → Value → Does
read_line_bytes k d b = Ends (answer.Content (line_of (drop d.offset (bytes b))))
    ((OpenOf k, Sets (Opened (Some (record d { offset = if d.append then 0 else line_end (bytes b) d.offset })))) ∷ [])

abbrev pub read_line_pipe : Name → Value → Does
read_line_pipe p b = Ends (answer.Content (line_of (bytes b))) ((PipeOf p, Sets (Bytes (after_line (bytes b)))) ∷ [])

abbrev pub read_line_from : Name → Description → Source → Does
read_line_from k d (Of n) = Reads (One (BytesOf n)) (read_line_bytes k d)
read_line_from k d (Pipe p) = Reads (One (PipeOf p)) (read_line_pipe p)
read_line_from k d Output = Ends (answer.Content []) []
read_line_from k d Error = Ends (answer.Content []) []
read_line_from k d Nothing = Ends (answer.Content []) []

abbrev pub read_line_by : Name → Option Description → Does
read_line_by k None = no BadRef
read_line_by k (Some d) = if not d.read then no BadRef else read_line_from k d d.source

abbrev pub does_read_line : Option Name → Does
does_read_line None = no BadRef
does_read_line (Some k) = Reads (One (OpenOf k)) (λ d. read_line_by k (opened d))

-- Write

abbrev pub adds : Text → Update Value
adds text = Changes (λ old. Bytes (bytes old ++ text))

abbrev pub write_to : Name → Description → Text → Source → Does
write_to k d text (Of n) =
    if d.append then Ends answer.Done ((BytesOf n, adds text) ∷ [])
    else Ends answer.Done ((BytesOf n, Changes (λ old. Bytes (written (bytes old) d.offset text)))
    ∷ (OpenOf k, Sets (Opened (Some (record d { offset = d.offset + length text })))) ∷ [])
write_to k d text (Pipe p) = Ends answer.Done ((PipeOf p, adds text) ∷ [])
write_to k d text Output = Ends answer.Done ((OutputText, adds text) ∷ [])
write_to k d text Error = Ends answer.Done ((ErrorText, adds text) ∷ [])
write_to k d text Nothing = Ends answer.Done []

abbrev pub write_by : Name → Text → Option Description → Does
write_by k text None = no BadRef
write_by k text (Some d) = if not d.write then no BadRef else if is_empty text then Ends answer.Done [] else write_to k d text d.source

abbrev pub does_write : Option Name → Text → Does
does_write None text = no BadRef
does_write (Some k) text = Reads (One (OpenOf k)) (λ d. write_by k text (opened d))
