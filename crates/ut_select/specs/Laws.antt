-- A command may say what the utilities that select say.
use Rattle.std.specs.Prelude.{List, [], ◌∷◌, ◌++◌, codes, count_by, Option, Some, None, IfSome, Bool, true, false, ◌==◌, if◌then◌else◌}
use Rattle.rk_base.specs.Text.{Text, same_text}
use Rattle.rk_calls.specs.Talk.{Says}
use Rattle.rk_calls.specs.Views.{IsCommandTalk, talk-if}
use Rattle.ut_args.specs.declared.form.Form.TheVariants as forms
use Rattle.ut_args.specs.Opts.{ArgsValue}
use Rattle.ut_args.specs.Tables.{alone, taking}
use Rattle.ut_args.specs.Usage.{talk-begins, talk-complains}
use Rattle.ut_args.specs.Words.{options}
use Rattle.ut_filter.specs.Filters.{dash, or_dash}
use Rattle.ut_filter.specs.Laws.{talk-filters}
use Rattle.ut_select.specs.Chosen.{is_list, cut_of, tr_of}
use Rattle.ut_select.specs.Cuts.{cut_job}
use Rattle.ut_select.specs.Trs.{TrValue, tr_job}
use Rattle.ut_select.specs.Starts.{cut_by, cuts, tr_by, trs, select_utility}

talk-cut_by : (wd : Text) (args : ArgsValue) → IsCommandTalk (cut_by wd args)
talk-cut_by wd args = talk-if (count_by is_list args.given == 1) _ _ (talk-filters (cut_job (cut_of args)) wd (or_dash args.operands)) (talk-complains _ 1)

talk-cuts : (wd : Text) (argv : List Text) → IsCommandTalk (cuts wd argv)
talk-cuts wd argv =
    talk-begins (codes "cut") 1 (options (taking forms.Ranges (codes "bcf") ++ taking forms.Byte (codes "d") ++ alone (codes "s")) argv) (cut_by wd) (talk-cut_by wd)

talk-tr_by : (wd : Text) (t : Option TrValue) → IsCommandTalk (tr_by wd t)
talk-tr_by wd None = talk-complains _ 1
talk-tr_by wd (Some t) = talk-filters (tr_job t) wd (dash ∷ [])

talk-trs : (wd : Text) (argv : List Text) → IsCommandTalk (trs wd argv)
talk-trs wd argv = talk-begins (codes "tr") 1 (options (alone (codes "cds")) argv) _ (λ args. talk-tr_by wd (tr_of args args.operands))

if_named : (b : Bool) (x : Says) (o : Option Says) → IsCommandTalk x → IfSome o IsCommandTalk → IfSome (if b then Some x else o) IsCommandTalk
if_named true x o h k = h
if_named false x o h k = k

pub talk-select_utility : (wd : Text) (argv : List Text) → IfSome (select_utility wd argv) IsCommandTalk
talk-select_utility wd [] = tt
talk-select_utility wd (name ∷ words) =
    if_named (same_text name (codes "cut")) _ _ (talk-cuts wd (name ∷ words))
    (if_named (same_text name (codes "tr")) _ _ (talk-trs wd (name ∷ words)) tt)

-- Whatever the words are, fewer turns only cut what the utility says, and its calls are proper.
abbrev pub EachIsCommandTalk : Type 0
EachIsCommandTalk = (wd : Text) (argv : List Text) → IfSome (select_utility wd argv) IsCommandTalk
