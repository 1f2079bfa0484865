-- A command may say what `sort` says, and its lines are in order.
use Rattle.std.specs.Prelude.{◌≡◌, List, [], ◌∷◌, codes, take, Some, None, IfSome, Bool, true, false, if◌then◌else◌}
use Rattle.std.specs.List.{filter}
use Rattle.std.specs.List.Sorted.{IsPermutation, IsSorted}
use Rattle.rk_base.specs.Text.{Text, same_text}
use Rattle.rk_calls.specs.Talk.{Says}
use Rattle.rk_calls.specs.Views.{IsCommandTalk}
use Rattle.ut_args.specs.Usage.{talk-begins}
use Rattle.ut_args.specs.Words.{options}
use Rattle.ut_filter.specs.Filters.{or_dash}
use Rattle.ut_filter.specs.Laws.{talk-filters}
use Rattle.ut_sort.specs.Chosen.{sort_of}
use Rattle.ut_sort.specs.Orders.{SortValue, line_cmp, is_same}
use Rattle.ut_sort.specs.Sorts.{sort_job, in_order, distinct}
use Rattle.ut_sort.specs.Starts.{table, sorts, sort_utility}

talk-sorts : (wd : Text) (argv : List Text) → IsCommandTalk (sorts wd argv)
talk-sorts wd argv = talk-begins (codes "sort") 2 (options table argv) _ (λ args. talk-filters (sort_job (sort_of args)) wd (or_dash args.operands))

if_named : (b : Bool) (x : Says) → IsCommandTalk x → IfSome (if b then Some x else None) IsCommandTalk
if_named true x h = h
if_named false x h = tt

pub talk-sort_utility : (wd : Text) (argv : List Text) → IfSome (sort_utility wd argv) IsCommandTalk
talk-sort_utility wd [] = tt
talk-sort_utility wd (name ∷ words) = if_named (same_text name (codes "sort")) _ (talk-sorts wd (name ∷ words))

-- Whatever the words are, fewer turns only cut what the utility says, and its calls are proper.
abbrev pub EachIsCommandTalk : Type 0
EachIsCommandTalk = (wd : Text) (argv : List Text) → IfSome (sort_utility wd argv) IsCommandTalk

-- Lines in order are the same lines, and none comes before the one ahead of it.
abbrev pub EachIsInOrder : Type 0
EachIsInOrder = (s : SortValue) (lines : List Text) → IsPermutation lines (in_order s lines) × IsSorted (line_cmp s) (in_order s lines)

-- Of the lines that are the same as one, the first in the input is left, and no other.
abbrev pub EachKeepsItsFirst : Type 0
EachKeepsItsFirst = (s : SortValue) (lines : List Text) (line : Text) → filter (is_same s line) (distinct (is_same s) (in_order s lines)) ≡ take 1 (filter (is_same s line) lines)
