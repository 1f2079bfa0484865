-- The lines of what ran, and why.
use Rattle.std.specs.Prelude.{ℕ, ◌++◌, codes}
use Rattle.std.specs.Fmt.{decimal}
use Rattle.rk_base.specs.Text.{Text}
use Rattle.rk_calls.specs.Keys.{KeyValue}
use Rattle.rk_show.specs.Commands.{command_name}
use Rattle.rk_show.specs.declared.ran.Why.{Why}
use Rattle.rk_show.specs.declared.ran.Why.TheVariants.{NoRecord, Differs}

-- steps count from 1
abbrev pub why_text : Why → Text
why_text NoRecord = codes "no record"
why_text (Differs step) = codes "step " ++ (decimal step ++ codes " differs")

-- a command that ran
unfoldable pub ran_line : KeyValue → ℕ → Why → Text
ran_line key ordinal why = codes "rkr: ran " ++ (command_name key ordinal ++ (codes ": " ++ (why_text why ++ codes "\n")))

-- how many commands were launched, and how many of them ran
unfoldable pub launched_line : ℕ → ℕ → Text
launched_line launched ran = codes "rkr: launched " ++ (decimal launched ++ (codes ", ran " ++ (decimal ran ++ codes "\n")))
