-- The lines that tell outcomes, and the numbers with which the program exits.
use Rattle.std.specs.Prelude.{ℕ, [], ◌++◌, codes}
use Rattle.rk_base.specs.Text.{Text}
use Rattle.std.specs.Fmt.{decimal}
use Rattle.hex.specs.Hex.{encode_lower}
use Rattle.tr_parts.specs.declared.fault.Damage.{Damage}
use Rattle.tr_parts.specs.declared.fault.Damage.TheVariants as damage
use Rattle.rk_show.specs.Shown.{shown}
use Rattle.rk_build.specs.declared.outcome.StateFile.{StateFile}
use Rattle.rk_build.specs.declared.outcome.StateFile.TheVariants as file
use Rattle.rk_build.specs.declared.outcome.Outcome.{Outcome}
use Rattle.rk_build.specs.declared.outcome.Outcome.TheVariants as out

abbrev pub special_line : Text → Text
special_line path = codes "rkr: " ++ shown path ++ codes ": not a file or directory\n"

abbrev pub name_of : StateFile → Text
name_of file.Attrs = codes "attrs"
name_of file.Db = codes "db"
name_of file.Install = codes "install"

abbrev pub digests : Text → Text → Text
digests kept computed = codes "digest " ++ (encode_lower kept ++ (codes ", computed " ++ encode_lower computed))

-- a digest has 64 hexadecimal digits
abbrev pub damage_text : Damage → Text
damage_text (damage.Short length) = codes "short"
damage_text (damage.Digest kept computed) = digests kept computed
damage_text damage.Form = codes "form"

abbrev pub damaged_line : StateFile → Damage → Text
damaged_line file it = codes "rkr: .rkr/" ++ (name_of file ++ (codes ": damaged: " ++ (damage_text it ++ codes "\n")))

abbrev pub forged_line : ℕ → ℕ → Text
forged_line rec step = codes "rkr: record " ++ (decimal rec ++ (codes " step " ++ (decimal step ++ codes ": forged\n")))

-- the lines that name nothing; none for an end
abbrev pub fixed_line : Outcome → Text
fixed_line (out.Ended status launched ran) = []
fixed_line (out.Said status) = []
fixed_line out.Usage = codes "usage: rkr build [--steps N] [--explain] [--fresh] [--check] | check | trace [--json] | forget | gen SEED\n"
fixed_line (out.Special path) = []
fixed_line (out.Damaged file damage) = []
fixed_line (out.Forged rec step) = []
fixed_line out.Spent = codes "rkr: budget spent\n"
fixed_line out.ReadFault = codes "rkr: read fault\n"
fixed_line out.WriteFault = codes "rkr: write fault\n"
fixed_line out.NoMemory = codes "rkr: out of memory\n"

-- an outcome's line
abbrev pub line_of : Outcome → Text
line_of (out.Ended status launched ran) = []
line_of (out.Said status) = []
line_of out.Usage = fixed_line out.Usage
line_of (out.Special path) = special_line path
line_of (out.Damaged file damage) = damaged_line file damage
line_of (out.Forged rec step) = forged_line rec step
line_of out.Spent = fixed_line out.Spent
line_of out.ReadFault = fixed_line out.ReadFault
line_of out.WriteFault = fixed_line out.WriteFault
line_of out.NoMemory = fixed_line out.NoMemory

abbrev pub exit_code : Outcome → ℕ
exit_code (out.Ended status launched ran) = status
exit_code (out.Said status) = status
exit_code out.Usage = 241
exit_code (out.Special path) = 247
exit_code (out.Damaged file damage) = 242
exit_code (out.Forged rec step) = 248
exit_code out.Spent = 243
exit_code out.ReadFault = 244
exit_code out.WriteFault = 245
exit_code out.NoMemory = 246
