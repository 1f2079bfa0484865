-- A command may say what the text utilities say.
use Rattle.std.specs.Prelude.{List, [], ◌∷◌, codes, Option, Some, None, IfSome, Bool, true, false, if◌then◌else◌}
use Rattle.rk_base.specs.Text.{Text, same_text}
use Rattle.rk_calls.specs.Talk.{Says}
use Rattle.rk_calls.specs.Views.{IsCommandTalk}
use Rattle.ut_args.specs.declared.form.Form.TheVariants.{Number, Signed}
use Rattle.ut_args.specs.Tables.{alone, taking}
use Rattle.ut_args.specs.Opts.{ArgsValue, gives}
use Rattle.ut_args.specs.Usage.{talk-begins, talk-complains}
use Rattle.ut_args.specs.Words.{options}
use Rattle.ut_filter.specs.Filters.{dash, or_dash}
use Rattle.ut_filter.specs.Laws.{talk-filters}
use Rattle.ut_text.specs.Cats.{cat_job}
use Rattle.ut_text.specs.Heads.{head_job}
use Rattle.ut_text.specs.Wcs.{wc_job}
use Rattle.ut_text.specs.declared.cmp.Cmp.{Cmp}
use Rattle.ut_text.specs.Uniqs.{uniq_job}
use Rattle.ut_text.specs.Cmps.{cmp_job}
use Rattle.ut_text.specs.declared.tail.Tail.{Tail}
use Rattle.ut_text.specs.Tails.{tail_job}
use Rattle.ut_text.specs.Starts.{cats, heads, head_of, wcs, wc_of, uniqs, uniq_of, uniq_operands, cmps, cmp_operands, tails, tail_of, tail_operands, text_utility}

talk-cats : (wd : Text) (argv : List Text) → IsCommandTalk (cats wd argv)
talk-cats wd argv = talk-begins (codes "cat") 1 (options (alone (codes "u")) argv) _ (λ args. talk-filters cat_job wd (or_dash args.operands))

talk-heads : (wd : Text) (argv : List Text) → IsCommandTalk (heads wd argv)
talk-heads wd argv = talk-begins (codes "head") 1 (options (taking Number (codes "n")) argv) _ (λ args. talk-filters (head_job (head_of args)) wd (or_dash args.operands))

talk-wcs : (wd : Text) (argv : List Text) → IsCommandTalk (wcs wd argv)
talk-wcs wd argv = talk-begins (codes "wc") 1 (options (alone (codes "clw")) argv) _ (λ args. talk-filters (wc_job (wc_of args)) wd (or_dash args.operands))

talk-uniq_operands : (wd : Text) (args : ArgsValue) (operands : List Text) → IsCommandTalk (uniq_operands wd args operands)
talk-uniq_operands wd args [] = talk-filters (uniq_job (uniq_of args None)) wd (dash ∷ [])
talk-uniq_operands wd args (input ∷ []) = talk-filters (uniq_job (uniq_of args None)) wd (input ∷ [])
talk-uniq_operands wd args (input ∷ out ∷ []) = talk-filters (uniq_job (uniq_of args (Some out))) wd (input ∷ [])
talk-uniq_operands wd args (input ∷ out ∷ surplus ∷ more) = talk-complains _ 1

talk-uniqs : (wd : Text) (argv : List Text) → IsCommandTalk (uniqs wd argv)
talk-uniqs wd argv = talk-begins (codes "uniq") 1 (options (alone (codes "cdu")) argv) _ (λ args. talk-uniq_operands wd args args.operands)

talk-cmp_operands : (wd : Text) (c : Cmp) (operands : List Text) → IsCommandTalk (cmp_operands wd c operands)
talk-cmp_operands wd c [] = talk-complains _ 2
talk-cmp_operands wd c (a ∷ []) = talk-complains _ 2
talk-cmp_operands wd c (a ∷ b ∷ []) = talk-filters (cmp_job c) wd (a ∷ b ∷ [])
talk-cmp_operands wd c (a ∷ b ∷ surplus ∷ more) = talk-complains _ 2

talk-tail_operands : (wd : Text) (t : Tail) (operands : List Text) → IsCommandTalk (tail_operands wd t operands)
talk-tail_operands wd t [] = talk-filters (tail_job t) wd (dash ∷ [])
talk-tail_operands wd t (input ∷ []) = talk-filters (tail_job t) wd (input ∷ [])
talk-tail_operands wd t (input ∷ surplus ∷ more) = talk-complains _ 1

talk-tails : (wd : Text) (argv : List Text) → IsCommandTalk (tails wd argv)
talk-tails wd argv = talk-begins (codes "tail") 1 (options (taking Signed (codes "n")) argv) _ (λ args. talk-tail_operands wd (tail_of args) args.operands)

talk-cmps : (wd : Text) (argv : List Text) → IsCommandTalk (cmps wd argv)
talk-cmps wd argv = talk-begins (codes "cmp") 2 (options (alone (codes "s")) argv) _ (λ args. talk-cmp_operands wd (record { silent = gives args (codes "s") }) args.operands)

if_named : (b : Bool) (x : Says) (o : Option Says) → IsCommandTalk x → IfSome o IsCommandTalk → IfSome (if b then Some x else o) IsCommandTalk
if_named true x o h k = h
if_named false x o h k = k

pub talk-text_utility : (wd : Text) (argv : List Text) → IfSome (text_utility wd argv) IsCommandTalk
talk-text_utility wd [] = tt
talk-text_utility wd (name ∷ words) =
    if_named (same_text name (codes "cat")) _ _ (talk-cats wd (name ∷ words))
    (if_named (same_text name (codes "head")) _ _ (talk-heads wd (name ∷ words))
    (if_named (same_text name (codes "wc")) _ _ (talk-wcs wd (name ∷ words))
    (if_named (same_text name (codes "uniq")) _ _ (talk-uniqs wd (name ∷ words))
    (if_named (same_text name (codes "cmp")) _ _ (talk-cmps wd (name ∷ words))
    (if_named (same_text name (codes "tail")) _ _ (talk-tails wd (name ∷ words)) tt)))))

-- Whatever the words are, fewer turns only cut what the utility says, and its calls are proper.
abbrev pub EachIsCommandTalk : Type 0
EachIsCommandTalk = (wd : Text) (argv : List Text) → IfSome (text_utility wd argv) IsCommandTalk
