-- What parameters are worth (XCU 2.5.1 and 2.5.2).
use Rattle.std.specs.Prelude.{ℕ, ◌+◌, ◌-◌, ◌*◌, ◌==◌, List, [], ◌∷◌, length, take, drop, slice_get, Option, Some, None, Bool, true, false, not, ◌&&◌, if◌then◌else◌}
use Rattle.std.specs.Fmt.{decimal}
use Rattle.rk_base.specs.Text.{Text}
use Rattle.sh_ast.specs.declared.parameter.Parameter.{Parameter}
use Rattle.sh_ast.specs.declared.parameter.Parameter.TheVariants as p
use Rattle.sh_ast.specs.declared.word.Removal.{Removal}
use Rattle.sh_ast.specs.declared.word.Removal.TheVariants.{SmallestSuffix, LargestSuffix, SmallestPrefix, LargestPrefix}
use Rattle.sh_pattern.specs.Best.{best_prefix, best_suffix}
use Rattle.sh_split.specs.Joining.{joined, first_byte}
use Rattle.sh_vars.specs.Held.{value_at}
use Rattle.sh_vars.specs.declared.env.Env.{Env}

-- the number that decimal digits write, after a number so far
abbrev pub number_from : ℕ → Text → ℕ
number_from n [] = n
number_from n (b ∷ bs) = number_from (n * 10 + (b - 48)) bs

abbrev pub number : Text → ℕ
number digits = number_from 0 digits

-- the positional parameter of a number; 0 is the name of the shell
abbrev pub positional_at : Env → ℕ → Option Text
positional_at e n = if n == 0 then Some e.zero else slice_get e.vars.positional (n - 1)

abbrev pub ifs_name : Text
ifs_name = 73 ∷ 70 ∷ 83 ∷ []

abbrev pub separator : Env → Text
separator e = first_byte (value_at e.vars ifs_name)

-- all positional parameters joined; unset where there are none
abbrev pub some_joined : Text → List Text → Option Text
some_joined separator [] = None
some_joined separator (word ∷ words) = Some (joined separator (word ∷ words))

-- the value of a parameter; None where it is unset
abbrev pub value : Env → Parameter → Option Text
value e (p.Variable name) = value_at e.vars name
value e (p.Positional digits) = positional_at e (number digits)
value e p.At = some_joined (separator e) e.vars.positional
value e p.Asterisk = some_joined (separator e) e.vars.positional
value e p.Count = Some (decimal (length e.vars.positional))
value e p.Status = Some (decimal e.status)
value e p.Zero = Some e.zero

abbrev pub alone : Option Text → Option (List Text)
alone None = None
alone (Some text) = Some (text ∷ [])

-- the values of a parameter, of which only `@` and `*` may have several or none; None where it is unset
abbrev pub values : Env → Parameter → Option (List Text)
values e (p.Variable name) = alone (value_at e.vars name)
values e (p.Positional digits) = alone (positional_at e (number digits))
values e p.At = Some e.vars.positional
values e p.Asterisk = Some e.vars.positional
values e p.Count = Some (decimal (length e.vars.positional) ∷ [])
values e p.Status = Some (decimal e.status ∷ [])
values e p.Zero = Some (e.zero ∷ [])

-- whether several values stay apart: `$@` and `$*` where fields are split, but for a quoted `$*`
abbrev pub stay_apart : Bool → Bool → Parameter → Bool
stay_apart splits quoted (p.Variable name) = true
stay_apart splits quoted (p.Positional digits) = true
stay_apart splits quoted p.At = splits
stay_apart splits quoted p.Asterisk = splits && not quoted
stay_apart splits quoted p.Count = true
stay_apart splits quoted p.Status = true
stay_apart splits quoted p.Zero = true

-- a text without its front or end of so many bytes
abbrev pub without_front : Text → Option ℕ → Text
without_front text None = text
without_front text (Some size) = drop size text

abbrev pub without_end : Text → Option ℕ → Text
without_end text None = text
without_end text (Some size) = take (length text - size) text

-- a value without what a pattern matches (XCU 2.6.2)
abbrev pub removed : Removal → Text → Text → Text
removed SmallestSuffix pattern text = without_end text (best_suffix pattern text false)
removed LargestSuffix pattern text = without_end text (best_suffix pattern text true)
removed SmallestPrefix pattern text = without_front text (best_prefix pattern text false)
removed LargestPrefix pattern text = without_front text (best_prefix pattern text true)

abbrev pub all_removed : Removal → Text → List Text → List Text
all_removed removal pattern [] = []
all_removed removal pattern (word ∷ words) = removed removal pattern word ∷ all_removed removal pattern words
