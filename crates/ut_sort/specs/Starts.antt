-- What `sort` says by its words, of which the first is the name.
use Rattle.std.specs.Prelude.{List, [], ◌∷◌, ◌++◌, codes, Option, Some, None, if◌then◌else◌}
use Rattle.rk_base.specs.Text.{Text, same_text}
use Rattle.rk_calls.specs.Talk.{Says}
use Rattle.ut_args.specs.declared.form.Form.TheVariants as forms
use Rattle.ut_args.specs.declared.form.Opt.{Opt}
use Rattle.ut_args.specs.Tables.{alone, taking}
use Rattle.ut_args.specs.Usage.{begins}
use Rattle.ut_args.specs.Words.{options}
use Rattle.ut_filter.specs.Filters.{filters, or_dash}
use Rattle.ut_sort.specs.Chosen.{sort_of}
use Rattle.ut_sort.specs.Sorts.{sort_job}

abbrev pub table : List Opt
table = alone (codes "nru") ++ taking forms.Text (codes "o") ++ taking forms.Byte (codes "t") ++ taking forms.Key (codes "k")

-- `sort [-n] [-r] [-u] [-o F] [-t C] [-k F[,L][nr]].. [FILE..]`
abbrev pub sorts : Text → List Text → Says
sorts wd argv = begins (codes "sort") 2 (options table argv) (λ args. filters (sort_job (sort_of args)) wd (or_dash args.operands))

-- `sort` in a working directory, where the words name it
abbrev pub sort_utility : Text → List Text → Option Says
sort_utility wd [] = None
sort_utility wd (name ∷ words) = if same_text name (codes "sort") then Some (sorts wd (name ∷ words)) else None
