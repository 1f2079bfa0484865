-- What the utilities that select say by their words, of which the first is the name.
use Rattle.std.specs.Prelude.{List, [], ◌∷◌, ◌++◌, codes, count_by, Option, Some, None, ◌==◌, if◌then◌else◌}
use Rattle.rk_base.specs.Text.{Text, same_text}
use Rattle.rk_calls.specs.Talk.{Says}
use Rattle.ut_args.specs.declared.form.Form.TheVariants as forms
use Rattle.ut_args.specs.Opts.{ArgsValue}
use Rattle.ut_args.specs.Tables.{alone, taking}
use Rattle.ut_args.specs.Usage.{begins, misuses}
use Rattle.ut_args.specs.Words.{options}
use Rattle.ut_filter.specs.Filters.{filters, dash, or_dash}
use Rattle.ut_select.specs.Chosen.{is_list, cut_of, tr_of}
use Rattle.ut_select.specs.Cuts.{cut_job}
use Rattle.ut_select.specs.Trs.{TrValue, tr_job}

-- exactly one list is given
abbrev pub cut_by : Text → ArgsValue → Says
cut_by wd args = if count_by is_list args.given == 1 then filters (cut_job (cut_of args)) wd (or_dash args.operands) else misuses (codes "cut") 1

-- `cut -b L|-c L|-f L [-d C] [-s] [FILE..]`
abbrev pub cuts : Text → List Text → Says
cuts wd argv =
    begins (codes "cut") 1 (options (taking forms.Ranges (codes "bcf") ++ taking forms.Byte (codes "d") ++ alone (codes "s")) argv) (cut_by wd)

abbrev pub tr_by : Text → Option TrValue → Says
tr_by wd None = misuses (codes "tr") 1
tr_by wd (Some t) = filters (tr_job t) wd (dash ∷ [])

-- `tr [-c] [-d] [-s] A [B]`
abbrev pub trs : Text → List Text → Says
trs wd argv = begins (codes "tr") 1 (options (alone (codes "cds")) argv) (λ args. tr_by wd (tr_of args args.operands))

-- the utility of a name, where this crate has it
abbrev pub named : Text → Text → List Text → Option Says
named name wd argv =
    if same_text name (codes "cut") then Some (cuts wd argv) else
    (if same_text name (codes "tr") then Some (trs wd argv) else None)

-- the utility of some words in a working directory
abbrev pub select_utility : Text → List Text → Option Says
select_utility wd [] = None
select_utility wd (name ∷ words) = named name wd (name ∷ words)
