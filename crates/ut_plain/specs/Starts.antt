-- What these utilities say by their words, of which the first is the name.
use Rattle.std.specs.Prelude.{List, [], ◌∷◌, codes, Option, Some, None, true, false, if◌then◌else◌}
use Rattle.rk_base.specs.Text.{Text, same_text}
use Rattle.rk_calls.specs.Talk.{Says}
use Rattle.ut_args.specs.Opts.{gives}
use Rattle.ut_args.specs.Tables.{alone}
use Rattle.ut_args.specs.Usage.{begins, misuses}
use Rattle.ut_args.specs.Words.{options}
use Rattle.ut_filter.specs.Filters.{filters}
use Rattle.ut_plain.specs.declared.names.Line.{Line}
use Rattle.ut_plain.specs.Names.{base, without_suffix, dir, line_job}
use Rattle.ut_plain.specs.Tees.{tees}

-- a line of output, without any input
abbrev pub writes_line : Text → Line → Says
writes_line wd line = filters (line_job line) wd []

abbrev pub basename_operands : Text → List Text → Says
basename_operands wd [] = misuses (codes "basename") 1
basename_operands wd (text ∷ []) = writes_line wd (record { text = base text; is_dir = false })
basename_operands wd (text ∷ suffix ∷ []) = writes_line wd (record { text = without_suffix suffix (base text); is_dir = false })
basename_operands wd (text ∷ suffix ∷ surplus ∷ more) = misuses (codes "basename") 1

-- `basename S [SUFFIX]`
abbrev pub basenames : Text → List Text → Says
basenames wd argv = begins (codes "basename") 1 (options [] argv) (λ args. basename_operands wd args.operands)

abbrev pub dirname_operands : Text → List Text → Says
dirname_operands wd [] = misuses (codes "dirname") 1
dirname_operands wd (text ∷ []) = writes_line wd (record { text = dir text; is_dir = true })
dirname_operands wd (text ∷ surplus ∷ more) = misuses (codes "dirname") 1

-- `dirname S`
abbrev pub dirnames : Text → List Text → Says
dirnames wd argv = begins (codes "dirname") 1 (options [] argv) (λ args. dirname_operands wd args.operands)

-- `tee [-a] [FILE..]`
abbrev pub tee_utility : Text → List Text → Says
tee_utility wd argv = begins (codes "tee") 1 (options (alone (codes "a")) argv) (λ args. tees wd (gives args (codes "a")) args.operands)

-- the utility of a name, where this crate has it
abbrev pub named : Text → Text → List Text → Option Says
named name wd argv =
    if same_text name (codes "basename") then Some (basenames wd argv) else
    (if same_text name (codes "dirname") then Some (dirnames wd argv) else
    (if same_text name (codes "tee") then Some (tee_utility wd argv) else None))

-- the utility of some words in a working directory
abbrev pub plain_utility : Text → List Text → Option Says
plain_utility wd [] = None
plain_utility wd (name ∷ words) = named name wd (name ∷ words)
