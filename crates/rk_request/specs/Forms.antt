-- What the forms of the command line ask for, said of words that are written out.
use Rattle.std.specs.Prelude.{◌≡◌, List, [], ◌∷◌, ◌++◌, Option, Some, None, Result, Ok, Err, true, false, codes, option_map}
use Rattle.std.specs.Str.{bytes_eq}
use Rattle.std.specs.Str.Parse.{starts_with_minus}
use Rattle.clap.specs.Words.{Text}
use Rattle.rk_request.specs.Decimal.{number_of}
use Rattle.rk_request.specs.declared.requests.Request.{Request}
use Rattle.rk_request.specs.declared.requests.Request.TheVariants.{Build, Check, Trace, Forget, Gen}
use Rattle.rk_request.specs.declared.requests.RequestErr.{RequestErr}
use Rattle.rk_request.specs.declared.requests.RequestErr.TheVariants.{Usage, NoMemory}

-- the answer is this request, or Usage where there is none, or there was no memory
abbrev pub Answers : Option Request → Result Request RequestErr → Type 0
Answers asked (Ok r) = asked ≡ Some r
Answers asked (Err Usage) = asked ≡ None
Answers asked (Err NoMemory) = Unit {0}

-- a build within N turns, where N is a number in range
abbrev pub build_within : Text → Option Request
build_within n = option_map (λ steps. Build steps false false false) (number_of 13 1 1000000000000 n)

abbrev pub explained_within : Text → Option Request
explained_within n = option_map (λ steps. Build steps true false false) (number_of 13 1 1000000000000 n)

-- with every flag
abbrev pub all_within : Text → Option Request
all_within n = option_map (λ steps. Build steps true true true) (number_of 13 1 1000000000000 n)

-- the workload of a seed, where that is a number in range
abbrev pub made_of : Text → Option Request
made_of n = option_map Gen (number_of 20 0 18446744073709551615 n)

-- the word does not begin with a hyphen
abbrev pub IsPlainWord : Text → Type 0
IsPlainWord word = starts_with_minus word ≡ false

-- the word is no subcommand
pub record IsOther (word : Text) : Type 0 where
  pub plain : IsPlainWord word
  pub build : bytes_eq (codes "build") word ≡ false
  pub check : bytes_eq (codes "check") word ≡ false
  pub trace : bytes_eq (codes "trace") word ≡ false
  pub forget : bytes_eq (codes "forget") word ≡ false
  pub gen : bytes_eq (codes "gen") word ≡ false

pub record ReadsForms (words : List Text) (answer : Result Request RequestErr) : Type 0 where
  -- no words, or the program's name alone
  pub empty : words ≡ [] → Answers None answer
  pub unnamed : (name : Text) → words ≡ name ∷ [] → Answers None answer
  -- `build`
  pub alone : (name : Text) → words ≡ name ∷ codes "build" ∷ [] → Answers (Some (Build 1000000 false false false)) answer
  -- `build --steps N` and `build --steps=N`
  pub steps : (name n : Text) → IsPlainWord n → words ≡ name ∷ codes "build" ∷ codes "--steps" ∷ n ∷ []
      → Answers (build_within n) answer
  pub joined : (name n : Text) → words ≡ name ∷ codes "build" ∷ (codes "--steps=" ++ n) ∷ []
      → Answers (build_within n) answer
  -- `build --explain`, also before and after the number, and twice
  pub explain : (name : Text) → words ≡ name ∷ codes "build" ∷ codes "--explain" ∷ [] → Answers (Some (Build 1000000 true false false)) answer
  pub explain_first : (name n : Text) → words ≡ name ∷ codes "build" ∷ codes "--explain" ∷ (codes "--steps=" ++ n) ∷ []
      → Answers (explained_within n) answer
  pub explain_last : (name n : Text) → words ≡ name ∷ codes "build" ∷ (codes "--steps=" ++ n) ∷ codes "--explain" ∷ []
      → Answers (explained_within n) answer
  pub explain_twice : (name : Text) → words ≡ name ∷ codes "build" ∷ codes "--explain" ∷ codes "--explain" ∷ [] → Answers None answer
  -- `build --fresh` and `build --check`, each also twice, and all flags in the usage line's order
  pub fresh : (name : Text) → words ≡ name ∷ codes "build" ∷ codes "--fresh" ∷ [] → Answers (Some (Build 1000000 false true false)) answer
  pub fresh_twice : (name : Text) → words ≡ name ∷ codes "build" ∷ codes "--fresh" ∷ codes "--fresh" ∷ [] → Answers None answer
  pub check : (name : Text) → words ≡ name ∷ codes "build" ∷ codes "--check" ∷ [] → Answers (Some (Build 1000000 false false true)) answer
  pub check_twice : (name : Text) → words ≡ name ∷ codes "build" ∷ codes "--check" ∷ codes "--check" ∷ [] → Answers None answer
  pub all : (name n : Text) → words ≡ name ∷ codes "build" ∷ (codes "--steps=" ++ n) ∷ codes "--explain" ∷ codes "--fresh" ∷ codes "--check" ∷ []
      → Answers (all_within n) answer
  -- `check`, `trace`, `trace --json` and `forget`
  pub checked : (name : Text) → words ≡ name ∷ codes "check" ∷ [] → Answers (Some Check) answer
  pub trace : (name : Text) → words ≡ name ∷ codes "trace" ∷ [] → Answers (Some (Trace false)) answer
  pub json : (name : Text) → words ≡ name ∷ codes "trace" ∷ codes "--json" ∷ [] → Answers (Some (Trace true)) answer
  pub json_twice : (name : Text) → words ≡ name ∷ codes "trace" ∷ codes "--json" ∷ codes "--json" ∷ [] → Answers None answer
  pub forget : (name : Text) → words ≡ name ∷ codes "forget" ∷ [] → Answers (Some Forget) answer
  -- `gen SEED`, and without a seed or with two
  pub gen : (name n : Text) → IsPlainWord n → words ≡ name ∷ codes "gen" ∷ n ∷ [] → Answers (made_of n) answer
  pub no_seed : (name : Text) → words ≡ name ∷ codes "gen" ∷ [] → Answers None answer
  pub two_seeds : (name m n : Text) → IsPlainWord m → IsPlainWord n → words ≡ name ∷ codes "gen" ∷ m ∷ n ∷ [] → Answers None answer
  -- a word after each of them
  pub after_check : (name word : Text) → IsPlainWord word → words ≡ name ∷ codes "check" ∷ word ∷ [] → Answers None answer
  pub after_trace : (name word : Text) → IsPlainWord word → words ≡ name ∷ codes "trace" ∷ word ∷ [] → Answers None answer
  pub after_forget : (name word : Text) → IsPlainWord word → words ≡ name ∷ codes "forget" ∷ word ∷ [] → Answers None answer
  -- `build --steps`, and the flag twice
  pub no_number : (name : Text) → words ≡ name ∷ codes "build" ∷ codes "--steps" ∷ [] → Answers None answer
  pub twice : (name m n : Text) → IsPlainWord m → IsPlainWord n
      → words ≡ name ∷ codes "build" ∷ codes "--steps" ∷ m ∷ codes "--steps" ∷ n ∷ [] → Answers None answer
  -- `build WORD`
  pub stray : (name word : Text) → IsPlainWord word → words ≡ name ∷ codes "build" ∷ word ∷ [] → Answers None answer
  -- another word first, whatever follows
  pub unknown : (name word : Text) (more : List Text) → IsOther word → words ≡ name ∷ word ∷ more → Answers None answer
  -- there are no help words
  pub help : (name : Text) (more : List Text) → words ≡ name ∷ codes "--help" ∷ more → Answers None answer
