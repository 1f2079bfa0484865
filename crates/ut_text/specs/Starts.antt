-- What the text utilities say by their words, of which the first is the name.
use Rattle.std.specs.Prelude.{List, [], ◌∷◌, length, codes, Option, Some, None, Bool, false, nat_lt, not, ◌==◌, ◌||◌, if◌then◌else◌}
use Rattle.rk_base.specs.Text.{Text, same_text}
use Rattle.rk_calls.specs.Talk.{Says}
use Rattle.ut_args.specs.declared.form.Form.TheVariants.{Number, Signed}
use Rattle.ut_args.specs.Forms.{unsigned}
use Rattle.ut_args.specs.Numbers.{number, number_or}
use Rattle.ut_args.specs.Opts.{ArgsValue, gives, argument}
use Rattle.ut_args.specs.Tables.{alone, taking}
use Rattle.ut_args.specs.Usage.{begins, misuses}
use Rattle.ut_args.specs.Words.{options}
use Rattle.ut_filter.specs.Filters.{Job, filters, dash, or_dash}
use Rattle.ut_text.specs.declared.head.Head.{Head}
use Rattle.ut_text.specs.declared.wc.Wc.{Wc}
use Rattle.ut_text.specs.declared.tail.Tail.{Tail}
use Rattle.ut_text.specs.declared.uniq.Uniq.{Uniq}
use Rattle.ut_text.specs.declared.cmp.Cmp.{Cmp}
use Rattle.ut_text.specs.Cats.{cat_job}
use Rattle.ut_text.specs.Heads.{head_job}
use Rattle.ut_text.specs.Wcs.{wc_job}
use Rattle.ut_text.specs.Uniqs.{uniq_job}
use Rattle.ut_text.specs.Cmps.{cmp_job}
use Rattle.ut_text.specs.Tails.{tail_job}

-- a filter of the operands, or of the standard input where there is none
abbrev pub filters_operands : Job → Text → ArgsValue → Says
filters_operands job wd args = filters job wd (or_dash args.operands)

-- `cat [-u] [FILE..]`
abbrev pub cats : Text → List Text → Says
cats wd argv = begins (codes "cat") 1 (options (alone (codes "u")) argv) (filters_operands cat_job wd)

-- ten lines where no number is given; headers stand where there are several operands
abbrev pub head_of : ArgsValue → Head
head_of args = record { number = number_or 10 (argument args (codes "n")); headed = nat_lt 1 (length args.operands) }

-- `head [-n N] [FILE..]`
abbrev pub heads : Text → List Text → Says
heads wd argv = begins (codes "head") 1 (options (taking Number (codes "n")) argv) (λ args. filters_operands (head_job (head_of args)) wd args)

-- whether an option of `wc` is given, or none is
abbrev pub counts : ArgsValue → Text → Bool
counts args letter = gives args letter || not (gives args (codes "c") || gives args (codes "l") || gives args (codes "w"))

-- names stand where there are operands, a total where there are several
abbrev pub wc_of : ArgsValue → Wc
wc_of args =
    record {
      lines = counts args (codes "l");
      words = counts args (codes "w");
      bytes = counts args (codes "c");
      named = nat_lt 0 (length args.operands);
      many = nat_lt 1 (length args.operands);
    }

-- `wc [-clw] [FILE..]`
abbrev pub wcs : Text → List Text → Says
wcs wd argv = begins (codes "wc") 1 (options (alone (codes "clw")) argv) (λ args. filters_operands (wc_job (wc_of args)) wd args)

-- which runs are shown, and where they go
abbrev pub uniq_of : ArgsValue → Option Text → Uniq
uniq_of args out = record { counted = gives args (codes "c"); repeated = gives args (codes "d"); single = gives args (codes "u"); out = out }

-- the lines of an input, to the standard output or to a file
abbrev pub filters_runs : Text → ArgsValue → Text → Option Text → Says
filters_runs wd args input out = filters (uniq_job (uniq_of args out)) wd (input ∷ [])

abbrev pub uniq_operands : Text → ArgsValue → List Text → Says
uniq_operands wd args [] = filters_runs wd args dash None
uniq_operands wd args (input ∷ []) = filters_runs wd args input None
uniq_operands wd args (input ∷ out ∷ []) = filters_runs wd args input (Some out)
uniq_operands wd args (input ∷ out ∷ surplus ∷ more) = misuses (codes "uniq") 1

-- `uniq [-c] [-d] [-u] [IN [OUT]]`
abbrev pub uniqs : Text → List Text → Says
uniqs wd argv = begins (codes "uniq") 1 (options (alone (codes "cdu")) argv) (λ args. uniq_operands wd args args.operands)

abbrev pub cmp_operands : Text → Cmp → List Text → Says
cmp_operands wd c [] = misuses (codes "cmp") 2
cmp_operands wd c (a ∷ []) = misuses (codes "cmp") 2
cmp_operands wd c (a ∷ b ∷ []) = filters (cmp_job c) wd (a ∷ b ∷ [])
cmp_operands wd c (a ∷ b ∷ surplus ∷ more) = misuses (codes "cmp") 2

-- `cmp [-s] A B`
abbrev pub cmps : Text → List Text → Says
cmps wd argv = begins (codes "cmp") 2 (options (alone (codes "s")) argv) (λ args. cmp_operands wd (record { silent = gives args (codes "s") }) args.operands)

-- whether a text begins with a `+`
abbrev pub is_plus : Text → Bool
is_plus [] = false
is_plus (b ∷ bs) = b == 43

-- the last ten lines where no number is given; with a `+` it is that of the first line
abbrev pub tail_by : Option Text → Tail
tail_by None = record { from_front = false; number = 10 }
tail_by (Some text) = record { from_front = is_plus text; number = number (unsigned text) }

abbrev pub tail_of : ArgsValue → Tail
tail_of args = tail_by (argument args (codes "n"))

abbrev pub tail_operands : Text → Tail → List Text → Says
tail_operands wd t [] = filters (tail_job t) wd (dash ∷ [])
tail_operands wd t (input ∷ []) = filters (tail_job t) wd (input ∷ [])
tail_operands wd t (input ∷ surplus ∷ more) = misuses (codes "tail") 1

-- `tail [-n N|-n -N|-n +N] [FILE]`
abbrev pub tails : Text → List Text → Says
tails wd argv = begins (codes "tail") 1 (options (taking Signed (codes "n")) argv) (λ args. tail_operands wd (tail_of args) args.operands)

-- the utility of a name, where this crate has it
abbrev pub named : Text → Text → List Text → Option Says
named name wd argv =
    if same_text name (codes "cat") then Some (cats wd argv) else
    (if same_text name (codes "head") then Some (heads wd argv) else
    (if same_text name (codes "wc") then Some (wcs wd argv) else
    (if same_text name (codes "uniq") then Some (uniqs wd argv) else
    (if same_text name (codes "cmp") then Some (cmps wd argv) else
    (if same_text name (codes "tail") then Some (tails wd argv) else None)))))

-- the utility of some words in a working directory
abbrev pub text_utility : Text → List Text → Option Says
text_utility wd [] = None
text_utility wd (name ∷ words) = named name wd (name ∷ words)
