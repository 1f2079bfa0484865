-- The words of `set` (XCU 2.14, `set`).
use Rattle.std.specs.Prelude.{ℕ, List, [], ◌∷◌, ◌==◌, codes, Bool, true, false, Option, Some, None, Result, Ok, Err, if◌then◌else◌}
use Rattle.rk_base.specs.Text.{Text, same_text}
use Rattle.rk_calls.specs.Lines.{error_line}
use Rattle.sh_special.specs.declared.options.Options.{Options}
use Rattle.sh_special.specs.declared.options.SetWord.{SetWord}
use Rattle.sh_special.specs.declared.options.SetWord.TheVariants.{Letters, Last, Operand}
use Rattle.sh_special.specs.declared.order.Order.{Order}
use Rattle.sh_special.specs.declared.order.Order.TheVariants as order
use Rattle.sh_special.specs.Lines.{usage_line}

-- no option is named
abbrev pub none_named : Options
none_named = record { errexit = None; nounset = None; noglob = None }

-- `-e`, `-u` and `-f` turn an option on, `+e`, `+u` and `+f` off
abbrev pub with_letter : Bool → ℕ → Options → Option Options
with_letter on b options =
    if b == 101
    then Some (record options { errexit = Some on })
    else (if b == 117 then Some (record options { nounset = Some on }) else (if b == 102 then Some (record options { noglob = Some on }) else None))

abbrev pub behind_letter : ℕ → Option Options → (Options → Result Options ℕ) → Result Options ℕ
behind_letter b None rest = Err b
behind_letter b (Some options) rest = rest options

-- letters may be joined; the first that is no option's is told
abbrev pub with_letters : Bool → Text → Options → Result Options ℕ
with_letters on [] options = Ok options
with_letters on (b ∷ bs) options = behind_letter b (with_letter on b options) (λ options. with_letters on bs options)

-- a `-` or a `+` alone is an operand
abbrev pub kind_of : Text → SetWord
kind_of [] = Operand
kind_of (b ∷ []) = Operand
kind_of (b ∷ c ∷ cs) = if same_text (b ∷ c ∷ cs) (codes "--") then Last else (if b == 45 then Letters true else (if b == 43 then Letters false else Operand))

abbrev pub behind_sign : Text → Text
behind_sign [] = []
behind_sign (b ∷ bs) = bs

abbrev pub sign : Bool → ℕ
sign true = 45
sign false = 43

abbrev pub bad_letter : Bool → ℕ → Order
bad_letter on b = order.Usage (error_line (codes "set") (sign on ∷ b ∷ []) (codes "usage"))

abbrev pub behind_letters : Bool → Result Options ℕ → (Options → Order) → Order
behind_letters on (Ok options) rest = rest options
behind_letters on (Err b) rest = bad_letter on b

-- the operands, where there are any or `--` stands before them, become the positional parameters
abbrev pub by_kind : SetWord → Text → List Text → Options → (Options → Order) → Order
by_kind (Letters on) word words options rest = behind_letters on (with_letters on (behind_sign word) options) rest
by_kind Last word words options rest = order.Set options (Some words)
by_kind Operand word words options rest = order.Set options (Some (word ∷ words))

abbrev pub settings : List Text → Options → Order
settings [] options = order.Set options None
settings (word ∷ words) options = by_kind (kind_of word) word words options (λ options. settings words options)

-- without a word it would print
abbrev pub sets : List Text → Order
sets [] = order.Usage (usage_line (codes "set"))
sets (word ∷ words) = settings (word ∷ words) none_named
