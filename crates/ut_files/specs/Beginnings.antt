-- What a utility of tasks says by its words (XCU, "Utilities").
use Rattle.std.specs.Prelude.{List, [], ◌∷◌, false, Option, Some, None, IfSome, Result, Ok, Err}
use Rattle.rk_base.specs.Text.{Text}
use Rattle.rk_calls.specs.Talk.{Says}
use Rattle.rk_calls.specs.Views.{IsCommandTalk}
use Rattle.ut_args.specs.declared.form.Opt.{Opt}
use Rattle.ut_args.specs.declared.opts.Given.{Given}
use Rattle.ut_args.specs.Opts.{ArgsValue}
use Rattle.ut_args.specs.Words.{options}
use Rattle.ut_files.specs.declared.manner.Manner.{Manner}
use Rattle.ut_files.specs.declared.step.WorkItem.{WorkItem}
use Rattle.ut_files.specs.Complaints.{bad_option}
use Rattle.ut_files.specs.Working.{work_of}
use Rattle.ut_files.specs.Works.{Rules, works, talk-works}

-- How a utility begins: its options, how it works in a directory by those that are given, and its first steps.
pub record Beginning (T : Type 0) : Type 0 where
  pub table : List Opt
  pub manner : Text → List Given → Manner
  pub first : Manner → List Given → List Text → List (WorkItem T)

abbrev pub begun : {T : Type 0} → (Manner → Rules T) → Manner → List (WorkItem T) → Says
begun rules m first = works (rules m) (work_of false 10 first)

abbrev pub begins : {T : Type 0} → (Manner → Rules T) → Beginning T → Text → List Given → List Text → Says
begins rules b wd given operands = begun rules (b.manner wd given) (b.first (b.manner wd given) given operands)

-- by its options and operands, or by the option that is at fault
abbrev pub by_options : {T : Type 0} → (Manner → Rules T) → Beginning T → Text → Result ArgsValue Text → Says
by_options rules b wd (Ok args) = begins rules b wd args.given args.operands
by_options rules b wd (Err option) = begun rules (b.manner wd []) (bad_option (b.manner wd []) option)

-- with these words, of which the first is its name
unfoldable pub says : {T : Type 0} → (Manner → Rules T) → Beginning T → Text → List Text → Says
says rules b wd argv = by_options rules b wd (options b.table argv)

talk-by_options : {T : Type 0} (rules : Manner → Rules T) (b : Beginning T) (wd : Text) (args : Result ArgsValue Text) → IsCommandTalk (by_options rules b wd args)
talk-by_options rules b wd (Ok args) = talk-works _ _
talk-by_options rules b wd (Err option) = talk-works _ _

-- a command may say it
talk-says : {T : Type 0} (rules : Manner → Rules T) (b : Beginning T) (wd : Text) (argv : List Text) → IsCommandTalk (says rules b wd argv)
unfolding says
talk-says rules b wd argv = talk-by_options rules b wd (options b.table argv)

abbrev pub first_word : List Text → Text
first_word [] = []
first_word (name ∷ words) = name

-- the utility that has the name, where there is one
abbrev pub by_name : {U T : Type 0} → (Manner → Rules T) → (U → Beginning T) → Text → List Text → Option U → Option Says
by_name rules beginning wd argv None = None
by_name rules beginning wd argv (Some utility) = Some (says rules (beginning utility) wd argv)

pub talk-by_name : {U T : Type 0} (rules : Manner → Rules T) (beginning : U → Beginning T) (wd : Text) (argv : List Text) (utility : Option U) → IfSome (by_name rules beginning wd argv utility) IsCommandTalk
talk-by_name rules beginning wd argv None = tt
talk-by_name rules beginning wd argv (Some utility) = talk-says rules (beginning utility) wd argv
