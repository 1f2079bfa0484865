-- Options are read word by word.
use Rattle.std.proofs.Common.{◌≡◌, List, ◌∷◌, sym, ap, ◌∙◌, subst}
use Rattle.std.specs.Prelude.{Option, Result}
use Rattle.rk_base.specs.Text.{Text}
use Rattle.ut_args.specs.declared.form.Opt.{Opt}
use Rattle.ut_args.specs.declared.opts.Given.{Given}
use Rattle.ut_args.specs.declared.words.Judged.{Judged}
use Rattle.ut_args.specs.declared.args.UsageOr.{UsageOr}
use Rattle.ut_args.specs.Opts.{ArgsValue}
use Rattle.ut_args.specs.Words.{options_from, judged_on, JudgesTo, OptionsAre}

pub judged : (table : List Opt) (wants : Option Opt) (old : List Given) (rest : List Text) (r : Result ArgsValue Text) (word : Text) (after : List Text) (j j' : Judged) (new : List Given) → options_from table wants old rest ≡ r → rest ≡ word ∷ after → JudgesTo table wants old word j new → j ≡ j' → r ≡ judged_on table j' new word after
judged table wants old rest r word after j j' new e cut h is =
    sym e ∙ (ap (options_from table wants old) cut ∙ (h after ∙ ap (λ k. judged_on table k new word after) is))

pub told : (r r' : Result ArgsValue Text) (result : Result ArgsValue UsageOr) → r ≡ r' → OptionsAre r' result → OptionsAre r result
told r r' result e h = subst (λ x. OptionsAre x result) (sym e) h
