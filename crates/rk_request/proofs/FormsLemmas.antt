-- What the definition gives for words that are written out.
use Rattle.std.proofs.Common.{◌≡◌, List, [], ◌∷◌, ◌++◌, Option, Some, None, Result, Ok, Err, true, false, refl, codes, ap, ◌∙◌, subst, IfOk, IfErr}
use Rattle.clap.specs.Words.{Text}
use Rattle.clap.proofs.OnLiterals.{clap_on_literals}
use Rattle.rk_request.specs.CommandLine.{build_app, command_line, folder_line, gen_app, trace_app}
use Rattle.rk_request.specs.Asked.{request_of}
use Rattle.rk_request.specs.Forms.{Answers, IsOther, IsPlainWord, ReadsForms, all_within, build_within, explained_within, made_of}
use Rattle.rk_request.specs.declared.requests.Request.{Request}
use Rattle.rk_request.specs.declared.requests.Request.TheVariants.{Build, Check, Trace, Forget}
use Rattle.rk_request.specs.declared.requests.RequestErr.{RequestErr}
use Rattle.rk_request.specs.declared.requests.RequestErr.TheVariants.{Usage, NoMemory}

empty : request_of [] ≡ None
unfolding clap_on_literals command_line build_app trace_app gen_app folder_line request_of
empty = refl

unnamed : (name : Text) → request_of (name ∷ []) ≡ None
unfolding clap_on_literals command_line build_app trace_app gen_app folder_line request_of
unnamed name = refl

alone : (name : Text) → request_of (name ∷ codes "build" ∷ []) ≡ Some (Build 1000000 false false false)
unfolding clap_on_literals command_line build_app trace_app gen_app folder_line request_of
alone name = refl

steps : (name n : Text) → IsPlainWord n → request_of (name ∷ codes "build" ∷ codes "--steps" ∷ n ∷ []) ≡ build_within n
unfolding clap_on_literals command_line build_app trace_app gen_app folder_line request_of
steps name [] plain = refl
steps name (d ∷ ds) plain = simp plain refl

joined : (name n : Text) → request_of (name ∷ codes "build" ∷ (codes "--steps=" ++ n) ∷ []) ≡ build_within n
unfolding clap_on_literals command_line build_app trace_app gen_app folder_line request_of
joined name n = refl

explain : (name : Text) → request_of (name ∷ codes "build" ∷ codes "--explain" ∷ []) ≡ Some (Build 1000000 true false false)
unfolding clap_on_literals command_line build_app trace_app gen_app folder_line request_of
explain name = refl

explain_first : (name n : Text) → request_of (name ∷ codes "build" ∷ codes "--explain" ∷ (codes "--steps=" ++ n) ∷ []) ≡ explained_within n
unfolding clap_on_literals command_line build_app trace_app gen_app folder_line request_of
explain_first name n = refl

explain_last : (name n : Text) → request_of (name ∷ codes "build" ∷ (codes "--steps=" ++ n) ∷ codes "--explain" ∷ []) ≡ explained_within n
unfolding clap_on_literals command_line build_app trace_app gen_app folder_line request_of
explain_last name n = refl

explain_twice : (name : Text) → request_of (name ∷ codes "build" ∷ codes "--explain" ∷ codes "--explain" ∷ []) ≡ None
unfolding clap_on_literals command_line build_app trace_app gen_app folder_line request_of
explain_twice name = refl

fresh : (name : Text) → request_of (name ∷ codes "build" ∷ codes "--fresh" ∷ []) ≡ Some (Build 1000000 false true false)
unfolding clap_on_literals command_line build_app trace_app gen_app folder_line request_of
fresh name = refl

fresh_twice : (name : Text) → request_of (name ∷ codes "build" ∷ codes "--fresh" ∷ codes "--fresh" ∷ []) ≡ None
unfolding clap_on_literals command_line build_app trace_app gen_app folder_line request_of
fresh_twice name = refl

check : (name : Text) → request_of (name ∷ codes "build" ∷ codes "--check" ∷ []) ≡ Some (Build 1000000 false false true)
unfolding clap_on_literals command_line build_app trace_app gen_app folder_line request_of
check name = refl

check_twice : (name : Text) → request_of (name ∷ codes "build" ∷ codes "--check" ∷ codes "--check" ∷ []) ≡ None
unfolding clap_on_literals command_line build_app trace_app gen_app folder_line request_of
check_twice name = refl

all : (name n : Text) → request_of (name ∷ codes "build" ∷ (codes "--steps=" ++ n) ∷ codes "--explain" ∷ codes "--fresh" ∷ codes "--check" ∷ []) ≡ all_within n
unfolding clap_on_literals command_line build_app trace_app gen_app folder_line request_of
all name n = refl

checked : (name : Text) → request_of (name ∷ codes "check" ∷ []) ≡ Some Check
unfolding clap_on_literals command_line build_app trace_app gen_app folder_line request_of
checked name = refl

trace : (name : Text) → request_of (name ∷ codes "trace" ∷ []) ≡ Some (Trace false)
unfolding clap_on_literals command_line build_app trace_app gen_app folder_line request_of
trace name = refl

json : (name : Text) → request_of (name ∷ codes "trace" ∷ codes "--json" ∷ []) ≡ Some (Trace true)
unfolding clap_on_literals command_line build_app trace_app gen_app folder_line request_of
json name = refl

json_twice : (name : Text) → request_of (name ∷ codes "trace" ∷ codes "--json" ∷ codes "--json" ∷ []) ≡ None
unfolding clap_on_literals command_line build_app trace_app gen_app folder_line request_of
json_twice name = refl

forget : (name : Text) → request_of (name ∷ codes "forget" ∷ []) ≡ Some Forget
unfolding clap_on_literals command_line build_app trace_app gen_app folder_line request_of
forget name = refl

gen : (name n : Text) → IsPlainWord n → request_of (name ∷ codes "gen" ∷ n ∷ []) ≡ made_of n
unfolding clap_on_literals command_line build_app trace_app gen_app folder_line request_of
gen name [] plain = refl
gen name (d ∷ ds) plain = simp plain refl

no_seed : (name : Text) → request_of (name ∷ codes "gen" ∷ []) ≡ None
unfolding clap_on_literals command_line build_app trace_app gen_app folder_line request_of
no_seed name = refl

two_seeds : (name m n : Text) → IsPlainWord m → IsPlainWord n → request_of (name ∷ codes "gen" ∷ m ∷ n ∷ []) ≡ None
unfolding clap_on_literals command_line build_app trace_app gen_app folder_line request_of
two_seeds name [] [] plain too = refl
two_seeds name [] (e ∷ es) plain too = simp too refl
two_seeds name (d ∷ ds) [] plain too = simp plain refl
two_seeds name (d ∷ ds) (e ∷ es) plain too = simp (plain, too) refl

after_check : (name word : Text) → IsPlainWord word → request_of (name ∷ codes "check" ∷ word ∷ []) ≡ None
unfolding clap_on_literals command_line build_app trace_app gen_app folder_line request_of
after_check name [] plain = refl
after_check name (d ∷ ds) plain = simp plain refl

after_trace : (name word : Text) → IsPlainWord word → request_of (name ∷ codes "trace" ∷ word ∷ []) ≡ None
unfolding clap_on_literals command_line build_app trace_app gen_app folder_line request_of
after_trace name [] plain = refl
after_trace name (d ∷ ds) plain = simp plain refl

after_forget : (name word : Text) → IsPlainWord word → request_of (name ∷ codes "forget" ∷ word ∷ []) ≡ None
unfolding clap_on_literals command_line build_app trace_app gen_app folder_line request_of
after_forget name [] plain = refl
after_forget name (d ∷ ds) plain = simp plain refl

no_number : (name : Text) → request_of (name ∷ codes "build" ∷ codes "--steps" ∷ []) ≡ None
unfolding clap_on_literals command_line build_app trace_app gen_app folder_line request_of
no_number name = refl

twice : (name m n : Text) → IsPlainWord m → IsPlainWord n
    → request_of (name ∷ codes "build" ∷ codes "--steps" ∷ m ∷ codes "--steps" ∷ n ∷ []) ≡ None
unfolding clap_on_literals command_line build_app trace_app gen_app folder_line request_of
twice name [] [] plain too = refl
twice name [] (e ∷ es) plain too = simp too refl
twice name (d ∷ ds) [] plain too = simp plain refl
twice name (d ∷ ds) (e ∷ es) plain too = simp (plain, too) refl

stray : (name word : Text) → IsPlainWord word → request_of (name ∷ codes "build" ∷ word ∷ []) ≡ None
unfolding clap_on_literals command_line build_app trace_app gen_app folder_line request_of
stray name [] plain = refl
stray name (d ∷ ds) plain = simp plain refl

unknown : (name word : Text) (more : List Text) → IsOther word → request_of (name ∷ word ∷ more) ≡ None
unfolding clap_on_literals command_line build_app trace_app gen_app folder_line request_of
unknown name [] more other = refl
unknown name (d ∷ ds) more other = simp (other.plain, other.build, other.check, other.trace, other.forget, other.gen) refl

help : (name : Text) (more : List Text) → request_of (name ∷ codes "--help" ∷ more) ≡ None
unfolding clap_on_literals command_line build_app trace_app gen_app folder_line request_of
help name more = refl

-- the two clauses as one
answers : (words : List Text) (answer : Result Request RequestErr) → IfOk answer (λ r. request_of words ≡ Some r)
    → IfErr answer (λ e. e ≡ Usage → request_of words ≡ None) → Answers (request_of words) answer
answers words (Ok r) asked usage = asked
answers words (Err Usage) asked usage = usage refl
answers words (Err NoMemory) asked usage = tt

pub forms : (words : List Text) (answer : Result Request RequestErr) → IfOk answer (λ r. request_of words ≡ Some r)
    → IfErr answer (λ e. e ≡ Usage → request_of words ≡ None) → ReadsForms words answer
forms words answer asked usage =
    let at = λ (form : List Text) (want : Option Request) (is : words ≡ form) (gives : request_of form ≡ want).
    subst (λ (x : Option Request). Answers x answer) (ap request_of is ∙ gives) (answers words answer asked usage) in
    record {
      empty = λ is. at _ _ is empty;
      unnamed = λ name is. at _ _ is (unnamed name);
      alone = λ name is. at _ _ is (alone name);
      steps = λ name n plain is. at _ _ is (steps name n plain);
      joined = λ name n is. at _ _ is (joined name n);
      explain = λ name is. at _ _ is (explain name);
      explain_first = λ name n is. at _ _ is (explain_first name n);
      explain_last = λ name n is. at _ _ is (explain_last name n);
      explain_twice = λ name is. at _ _ is (explain_twice name);
      fresh = λ name is. at _ _ is (fresh name);
      fresh_twice = λ name is. at _ _ is (fresh_twice name);
      check = λ name is. at _ _ is (check name);
      check_twice = λ name is. at _ _ is (check_twice name);
      all = λ name n is. at _ _ is (all name n);
      checked = λ name is. at _ _ is (checked name);
      trace = λ name is. at _ _ is (trace name);
      json = λ name is. at _ _ is (json name);
      json_twice = λ name is. at _ _ is (json_twice name);
      forget = λ name is. at _ _ is (forget name);
      gen = λ name n plain is. at _ _ is (gen name n plain);
      no_seed = λ name is. at _ _ is (no_seed name);
      two_seeds = λ name m n plain too is. at _ _ is (two_seeds name m n plain too);
      after_check = λ name word plain is. at _ _ is (after_check name word plain);
      after_trace = λ name word plain is. at _ _ is (after_trace name word plain);
      after_forget = λ name word plain is. at _ _ is (after_forget name word plain);
      no_number = λ name is. at _ _ is (no_number name);
      twice = λ name m n plain too is. at _ _ is (twice name m n plain too);
      stray = λ name word plain is. at _ _ is (stray name word plain);
      unknown = λ name word more other is. at _ _ is (unknown name word more other);
      help = λ name more is. at _ _ is (help name more);
    }
