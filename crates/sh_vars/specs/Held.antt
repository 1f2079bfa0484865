-- What a shell holds: its variables with their flags, and its positional parameters (XCU 2.5).
use Rattle.std.specs.Prelude.{List, [], Bool, true, false, ◌&&◌, Option, Some, None, if◌then◌else◌, refl}
use Rattle.std.specs.List.{filter_map}
use Rattle.std.specs.Coded.{Coded, code_by, coded×, coded_ℕ, coded_list}
use Rattle.std.specs.FinMap.{FinMap, empty, entries, get, insert, remove, code}
use Rattle.rk_base.specs.Text.{Text, text_cmp}
use Rattle.rk_base.specs.Variables.{is_variable}
use Rattle.rk_base.specs.declared.vars.Var.{Var}
use Rattle.sh_vars.specs.declared.variable.Variable.{Variable}

abbrev pub Variables : Type 0
Variables = FinMap text_cmp Variable

pub record Held : Type 0 where
  pub variables : Variables
  pub positional : List Text

-- by which a proof tells two of them apart
abbrev pub held_code : Coded Variable → Coded Held
held_code it =
    code_by (Variables × List Text) (coded× (code (coded_list coded_ℕ) it) (coded_list (coded_list coded_ℕ))) (λ h. (h.variables, h.positional)) (λ p. record { variables = p.0; positional = p.1 }) (λ _. refl)

-- nothing is set
abbrev pub nothing : Held
nothing = record { variables = empty; positional = [] }

-- One variable. One that isn't there is unset and has no flag.

abbrev pub value_of : Option Variable → Option Text
value_of None = None
value_of (Some variable) = variable.value

abbrev pub is_given : Option Variable → Bool
is_given None = false
is_given (Some variable) = variable.exported

abbrev pub is_kept : Option Variable → Bool
is_kept None = false
is_kept (Some variable) = variable.readonly

-- The variables by name.

abbrev pub variable_at : Held → Text → Option Variable
variable_at held name = get held.variables name

abbrev pub value_at : Held → Text → Option Text
value_at held name = value_of (variable_at held name)

abbrev pub is_exported : Held → Text → Bool
is_exported held name = is_given (variable_at held name)

abbrev pub is_readonly : Held → Text → Bool
is_readonly held name = is_kept (variable_at held name)

-- What changes it.

abbrev pub with_variable : Text → Variable → Held → Held
with_variable name variable held = record held { variables = insert held.variables name variable }

-- a variable takes a value, and keeps its flags
abbrev pub assigned : Text → Text → Held → Held
assigned name value held = with_variable name (record { value = Some value; exported = is_exported held name; readonly = is_readonly held name }) held

-- it is exported from now on, and keeps all else
abbrev pub given : Text → Held → Held
given name held = with_variable name (record { value = value_at held name; exported = true; readonly = is_readonly held name }) held

-- it is readonly from now on, and keeps all else
abbrev pub kept : Text → Held → Held
kept name held = with_variable name (record { value = value_at held name; exported = is_exported held name; readonly = true }) held

-- it is unset, and has no flag
abbrev pub without : Text → Held → Held
without name held = record held { variables = remove held.variables name }

-- a variable is this from now on, or is unset without a flag
abbrev pub with_entry : Text → Option Variable → Held → Held
with_entry name None held = without name held
with_entry name (Some variable) held = with_variable name variable held

-- What is exported.

abbrev pub with_value : Text → Option Text → Option Var
with_value name None = None
with_value name (Some value) = Some (record { name = name; value = value })

-- name and value of a variable that is exported and set; a name that no variable may have is left out
abbrev pub exported_var : Text × Variable → Option Var
exported_var row = if row.1.exported && is_variable row.0 then with_value row.0 row.1.value else None

-- ascending by name
abbrev pub exported_of : Variables → List Var
exported_of variables = filter_map exported_var (entries variables)
