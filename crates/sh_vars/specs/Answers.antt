-- What `set` answers.
use Rattle.std.specs.Prelude.{◌≡◌, Bool, true, false, Result, Ok, Err}
use Rattle.sh_vars.specs.declared.vars.VarErr.{VarErr}
use Rattle.sh_vars.specs.declared.vars.VarErr.TheVariants.{Readonly, NoMemory}

-- Readonly exactly where the name is readonly, before memory is asked for
abbrev pub AnswersSet : {A : Type 0} → Bool → Result A VarErr → Type 0
AnswersSet true result = result ≡ Err Readonly
AnswersSet false (Ok done) = Unit {0}
AnswersSet false (Err NoMemory) = Unit {0}
AnswersSet false (Err Readonly) = ⊥
