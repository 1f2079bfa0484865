-- A command may say what `tee` says.
use Rattle.std.specs.Prelude.{ℕ, ◌+◌, List, [], ◌∷◌, ◌++◌, Result, Ok, Err, Bool}
use Rattle.rk_base.specs.Text.{Text}
use Rattle.rk_base.specs.Canonical.{is_empty}
use Rattle.rk_base.specs.declared.errno.Errno.{Errno}
use Rattle.rk_calls.specs.declared.call.How.{How}
use Rattle.rk_calls.specs.declared.call.Call.TheVariants.{Open, Read, Write}
use Rattle.rk_calls.specs.Brought.{brought}
use Rattle.rk_calls.specs.Places.{absolute}
use Rattle.rk_calls.specs.Talk.{Says}
use Rattle.rk_calls.specs.Turns.{turns}
use Rattle.rk_calls.specs.Views.{IsCommandTalk, talk-exits, talk-ask, talk-if}
use Rattle.ut_filter.specs.Filters.{dash}
use Rattle.ut_filter.specs.Laws.{talk-complains}
use Rattle.ut_filter.specs.Statuses.{status_of}
use Rattle.ut_plain.specs.declared.target.Target.{Target}
use Rattle.ut_plain.specs.Tees.{refused, with_refusal, ends, writes_all, output, input_read, opened, opens, how_of, tees}

talk-ends : (errors : Text) → IsCommandTalk (ends errors)
talk-ends errors = talk-if (is_empty errors) _ _ (talk-exits (status_of 1 errors) 0) (talk-complains errors (status_of 1 errors))

talk-writes_all : (text : Text) (targets : List Target) (errors : Text) → IsCommandTalk (writes_all text targets errors)
talk-writes_all text [] errors = talk-ends errors
talk-writes_all text (target ∷ more) errors = talk-ask (Write target.number text) (1 + turns text) _ tt (λ a. talk-writes_all text more (with_refusal errors target.place (brought a)))

talk-input_read : (targets : List Target) (errors : Text) (r : Result Text Errno) → IsCommandTalk (input_read targets errors r)
talk-input_read targets errors (Ok text) = talk-if (is_empty text) _ _ (talk-ends errors) (talk-writes_all text (output ∷ targets) errors)
talk-input_read targets errors (Err errno) = talk-ends (refused errors dash errno)

talk-opened : (on : List Target → Text → ℕ → Says) → ((targets : List Target) (errors : Text) (next : ℕ) → IsCommandTalk (on targets errors next)) → (file : Text) (targets : List Target) (errors : Text) (next : ℕ) (r : Result Text Errno) → IsCommandTalk (opened on file targets errors next r)
talk-opened on goes file targets errors next (Ok bytes) = goes (targets ++ (record { place = file; number = next }) ∷ []) errors (next + 1)
talk-opened on goes file targets errors next (Err errno) = goes targets (refused errors file errno) next

talk-opens : (wd : Text) (how : How) (files : List Text) (targets : List Target) (errors : Text) (next : ℕ) → IsCommandTalk (opens wd how files targets errors next)
talk-opens wd how [] targets errors next = talk-ask (Read 0) 1 _ tt (λ a. talk-input_read targets errors (brought a))
talk-opens wd how (file ∷ files) targets errors next =
    talk-ask (Open (absolute wd file) how) 1 _ tt (λ a. talk-opened (opens wd how files) (talk-opens wd how files) file targets errors next (brought a))

pub talk-tees : (wd : Text) (appends : Bool) (files : List Text) → IsCommandTalk (tees wd appends files)
talk-tees wd appends files = talk-opens wd (how_of appends) files [] [] 10
