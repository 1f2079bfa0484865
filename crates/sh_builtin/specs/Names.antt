-- The names of builtins.
use Rattle.std.specs.Prelude.{List, [], ◌∷◌, codes, Bool, true, false, if◌then◌else◌}
use Rattle.rk_base.specs.Text.{Text, same_text}
use Rattle.sh_builtin.specs.declared.name.Name.{Name}
use Rattle.sh_builtin.specs.declared.name.Name.TheVariants.{Cd, Read, Echo, Printf, Pwd, Test, Bracket, True, False, Unknown}

abbrev pub named_in : Text → List (Text × Name) → Name
named_in word [] = Unknown
named_in word (row ∷ rows) = if same_text word row.0 then row.1 else named_in word rows

abbrev pub names : List (Text × Name)
names =
    (codes "cd", Cd) ∷ (codes "read", Read) ∷ (codes "echo", Echo) ∷ (codes "printf", Printf) ∷ (codes "pwd", Pwd) ∷ (codes "test", Test) ∷ (codes "[", Bracket)
    ∷ (codes "true", True)
    ∷ (codes "false", False)
    ∷ []

-- the builtin of this name
abbrev pub name_of : Text → Name
name_of word = named_in word names

abbrev pub is_known : Name → Bool
is_known Unknown = false
is_known name = true

abbrev pub is_builtin : Text → Bool
is_builtin word = is_known (name_of word)

-- the name that error text begins with; both forms of the test have one
abbrev pub text_of : Name → Text
text_of Cd = codes "cd"
text_of Read = codes "read"
text_of Echo = codes "echo"
text_of Printf = codes "printf"
text_of Pwd = codes "pwd"
text_of Test = codes "test"
text_of Bracket = codes "test"
text_of True = codes "true"
text_of False = codes "false"
text_of Unknown = codes "sh"
