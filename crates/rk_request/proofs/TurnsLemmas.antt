-- A request of a build has at least one turn.
use Rattle.std.proofs.Common.{◌≡◌, ℕ, ◌<◌, ◌≤◌, List, [], ◌∷◌, Bool, true, false, Option, Some, None, arith, refl, subst, codes, option_map, if◌then◌else◌, Result, Ok, Err, IfOk}
use Rattle.std.specs.Prelude.{option_and_then}
use Rattle.std.specs.Str.{bytes_eq}
use Rattle.std.proofs.lemmas.Bool.Decides.{nat_tests}
use Rattle.clap.specs.Words.{Kinds, Row, Text, first_of, fault_of, subcommand_of}
use Rattle.rk_request.specs.CommandLine.{command_line}
use Rattle.rk_request.specs.Asked.{is_given, steps_of, build_request, gen_request, trace_request, request_by, if_no_fault, request_of, turns, IfBuild}
use Rattle.rk_request.specs.Decimal.{number_of}
use Rattle.rk_request.specs.declared.requests.Request.{Request}
use Rattle.rk_request.specs.declared.requests.RequestErr.{RequestErr}
use Rattle.rk_request.specs.declared.requests.Request.TheVariants.{Build, Check, Forget, Gen}

some-is : (a b : ℕ) → Some a ≡ Some b → a ≡ b
some-is a b e = cc

number-low : (most low high : ℕ) (text : List ℕ) (n : ℕ) → number_of most low high text ≡ Some n → low ≤ n
number-low most low high text n e = grind (arith, nat_tests)

turns-some : (text : Option Text) (n : ℕ) → steps_of text ≡ Some n → 0 < n
turns-some None n e = let h : 1000000 ≡ n = some-is 1000000 n e in omega arith
turns-some (Some text) n e = let h : 1 ≤ n = number-low 13 1 1000000000000 text n e in omega arith

abbrev HasTurns : Option Request → Type 0
HasTurns None = Unit {0}
HasTurns (Some r) = IfBuild r (0 < turns r)

built : (explain fresh check : Bool) (o : Option ℕ) → ((n : ℕ) → o ≡ Some n → 0 < n) → HasTurns (option_map (λ n. Build n explain fresh check) o)
built explain fresh check None h = tt
built explain fresh check (Some n) h = h n refl

made : (o : Option ℕ) → HasTurns (option_map Gen o)
made None = tt
made (Some seed) = tt

either : (b : Bool) (o other : Option Request) → HasTurns o → HasTurns other → HasTurns (if b then o else other)
either true o other h too = h
either false o other h too = too

by_name : (p : Text × List Row) → HasTurns (request_by p.0 p.1)
by_name p =
    either (bytes_eq p.0 (codes "build")) (build_request p.1) _ (built (is_given (codes "explain") p.1) (is_given (codes "fresh") p.1) (is_given (codes "check") p.1) (steps_of (first_of (codes "steps") p.1)) (turns-some (first_of (codes "steps") p.1)))
    (either (bytes_eq p.0 (codes "check")) (Some Check) _ tt (either (bytes_eq p.0 (codes "trace")) (Some (trace_request p.1)) _ tt (either (bytes_eq p.0 (codes "forget")) (Some Forget) _ tt (either (bytes_eq p.0 (codes "gen")) (gen_request p.1) None (made (option_and_then (number_of 20 0 18446744073709551615) (first_of (codes "seed") p.1))) tt))))

found : (o : Option (Text × List Row)) → HasTurns (option_and_then (λ p. request_by p.0 p.1) o)
found None = tt
found (Some p) = by_name p

unless_fault : (kinds : Kinds) (o : Option Request) → HasTurns o → HasTurns (if_no_fault kinds o)
unless_fault [] o h = h
unless_fault (k ∷ ks) o h = tt

has_turns : (words : List Text) → HasTurns (request_of words)
unfolding request_of
has_turns words = unless_fault (fault_of command_line words) _ (found (subcommand_of command_line words))

-- so has the request that words are
pub some_turns : (words : List Text) (r : Request) → request_of words ≡ Some r → IfBuild r (0 < turns r)
some_turns words r e = subst HasTurns e (has_turns words)

pub some-read : (words : List Text) (result : Result Request RequestErr) → IfOk result (λ r. request_of words ≡ Some r) → IfOk result (λ r. IfBuild r (0 < turns r))
some-read words (Ok r) asked = some_turns words r asked
some-read words (Err e) asked = tt
