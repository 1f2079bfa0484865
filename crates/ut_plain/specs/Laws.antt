-- A command may say what these utilities say.
use Rattle.std.specs.Prelude.{List, [], ◌∷◌, codes, Option, Some, IfSome, Bool, true, false, if◌then◌else◌}
use Rattle.rk_base.specs.Text.{Text, same_text}
use Rattle.rk_calls.specs.Talk.{Says}
use Rattle.rk_calls.specs.Views.{IsCommandTalk}
use Rattle.ut_args.specs.Opts.{gives}
use Rattle.ut_args.specs.Tables.{alone}
use Rattle.ut_args.specs.Usage.{talk-begins, talk-complains}
use Rattle.ut_args.specs.Words.{options}
use Rattle.ut_filter.specs.Laws.{talk-filters}
use Rattle.ut_plain.specs.declared.names.Line.{Line}
use Rattle.ut_plain.specs.Names.{base, without_suffix, dir, line_job}
use Rattle.ut_plain.specs.Starts.{writes_line, basenames, basename_operands, dirnames, dirname_operands, tee_utility, plain_utility}
use Rattle.ut_plain.specs.TeeLaws.{talk-tees}

talk-writes_line : (wd : Text) (line : Line) → IsCommandTalk (writes_line wd line)
talk-writes_line wd line = talk-filters (line_job line) wd []

talk-basename_operands : (wd : Text) (operands : List Text) → IsCommandTalk (basename_operands wd operands)
talk-basename_operands wd [] = talk-complains _ 1
talk-basename_operands wd (text ∷ []) = talk-writes_line wd (record { text = base text; is_dir = false })
talk-basename_operands wd (text ∷ suffix ∷ []) = talk-writes_line wd (record { text = without_suffix suffix (base text); is_dir = false })
talk-basename_operands wd (text ∷ suffix ∷ surplus ∷ more) = talk-complains _ 1

talk-basenames : (wd : Text) (argv : List Text) → IsCommandTalk (basenames wd argv)
talk-basenames wd argv = talk-begins (codes "basename") 1 (options [] argv) _ (λ args. talk-basename_operands wd args.operands)

talk-dirname_operands : (wd : Text) (operands : List Text) → IsCommandTalk (dirname_operands wd operands)
talk-dirname_operands wd [] = talk-complains _ 1
talk-dirname_operands wd (text ∷ []) = talk-writes_line wd (record { text = dir text; is_dir = true })
talk-dirname_operands wd (text ∷ surplus ∷ more) = talk-complains _ 1

talk-dirnames : (wd : Text) (argv : List Text) → IsCommandTalk (dirnames wd argv)
talk-dirnames wd argv = talk-begins (codes "dirname") 1 (options [] argv) _ (λ args. talk-dirname_operands wd args.operands)

talk-tee_utility : (wd : Text) (argv : List Text) → IsCommandTalk (tee_utility wd argv)
talk-tee_utility wd argv = talk-begins (codes "tee") 1 (options (alone (codes "a")) argv) _ (λ args. talk-tees wd (gives args (codes "a")) args.operands)

if_named : (b : Bool) (x : Says) (o : Option Says) → IsCommandTalk x → IfSome o IsCommandTalk → IfSome (if b then Some x else o) IsCommandTalk
if_named true x o h k = h
if_named false x o h k = k

pub talk-plain_utility : (wd : Text) (argv : List Text) → IfSome (plain_utility wd argv) IsCommandTalk
talk-plain_utility wd [] = tt
talk-plain_utility wd (name ∷ words) =
    if_named (same_text name (codes "basename")) _ _ (talk-basenames wd (name ∷ words))
    (if_named (same_text name (codes "dirname")) _ _ (talk-dirnames wd (name ∷ words))
    (if_named (same_text name (codes "tee")) _ _ (talk-tee_utility wd (name ∷ words)) tt))

-- Whatever the words are, fewer turns only cut what the utility says, and its calls are proper.
abbrev pub EachIsCommandTalk : Type 0
EachIsCommandTalk = (wd : Text) (argv : List Text) → IfSome (plain_utility wd argv) IsCommandTalk
