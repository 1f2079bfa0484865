-- What the words ask for.
use Rattle.std.specs.Prelude.{ℕ, Bool, false, List, [], ◌∷◌, Option, Some, None, codes, if◌then◌else◌, option_and_then, option_map}
use Rattle.std.specs.Str.{bytes_eq}
use Rattle.clap.specs.Words.{Kinds, Row, Text, fault_of, first_of, subcommand_of}
use Rattle.rk_request.specs.CommandLine.{command_line}
use Rattle.rk_request.specs.Decimal.{number_of}
use Rattle.rk_request.specs.declared.requests.Request.{Request}
use Rattle.rk_request.specs.declared.requests.Request.TheVariants as request

-- the budget of turns: 1,000,000 where none is named, else a number of at most thirteen digits from 1 to 1,000,000,000,000
abbrev pub steps_of : Option Text → Option ℕ
steps_of None = Some 1000000
steps_of (Some text) = number_of 13 1 1000000000000 text

-- a flag that was given has the text `true`
abbrev pub is_true : Option Text → Bool
is_true None = false
is_true (Some text) = bytes_eq text (codes "true")

-- whether this flag was given
abbrev pub is_given : Text → List Row → Bool
is_given name rows = is_true (first_of name rows)

-- `build [--steps N] [--explain] [--fresh] [--check]`
abbrev pub build_request : List Row → Option Request
build_request rows =
    option_map (λ steps. request.Build steps (is_given (codes "explain") rows) (is_given (codes "fresh") rows) (is_given (codes "check") rows)) (steps_of (first_of (codes "steps") rows))

-- `trace [--json]`
abbrev pub trace_request : List Row → Request
trace_request rows = request.Trace (is_given (codes "json") rows)

-- `gen SEED`: a seed has one to twenty digits and lies below 2^64
abbrev pub gen_request : List Row → Option Request
gen_request rows = option_map request.Gen (option_and_then (number_of 20 0 18446744073709551615) (first_of (codes "seed") rows))

-- the request of a subcommand with what its words name
abbrev pub request_by : Text → List Row → Option Request
request_by name rows =
    if bytes_eq name (codes "build") then build_request rows
    else if bytes_eq name (codes "check") then Some request.Check
    else if bytes_eq name (codes "trace") then Some (trace_request rows)
    else if bytes_eq name (codes "forget") then Some request.Forget
    else if bytes_eq name (codes "gen") then gen_request rows
    else None

-- what was found, where the words have no fault
abbrev pub if_no_fault : Kinds → Option Request → Option Request
if_no_fault [] found = found
if_no_fault (k ∷ ks) found = None

-- the request that the words are, of which the first is the program's name: they are one exactly where the
-- command line takes them and their numbers are in range
unfoldable pub request_of : List Text → Option Request
request_of words =
    if_no_fault (fault_of command_line words) (option_and_then (λ p. request_by p.0 p.1) (subcommand_of command_line words))

-- the turns within which a build is to end; nothing else has any
abbrev pub turns : Request → ℕ
turns (request.Build steps explain fresh check) = steps
turns other = 0

-- whether the lines of what ran are asked for
abbrev pub explains : Request → Bool
explains (request.Build steps explain fresh check) = explain
explains other = false

-- whether the recorded table counts as empty
abbrev pub is_fresh : Request → Bool
is_fresh (request.Build steps explain fresh check) = fresh
is_fresh other = false

-- whether every record is to be checked before the build
abbrev pub checks : Request → Bool
checks (request.Build steps explain fresh check) = check
checks other = false

-- this is so of what is asked of the database alone
abbrev pub IfQuery : Request → Type 0 → Type 0
IfQuery (request.Build steps explain fresh check) P = Unit {0}
IfQuery (request.Gen seed) P = Unit {0}
IfQuery other P = P

-- this is so of a made workload, by its seed
abbrev pub IfGen : Request → (ℕ → Type 0) → Type 0
IfGen (request.Gen seed) P = P seed
IfGen other P = Unit {0}

-- this is so of a build
abbrev pub IfBuild : Request → Type 0 → Type 0
IfBuild (request.Build steps explain fresh check) P = P
IfBuild other P = Unit {0}
