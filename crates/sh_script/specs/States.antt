-- What the code keeps while it builds a script, from the end of a text to its beginning.
use Rattle.std.specs.Prelude.{List, [], ◌∷◌, ◌++◌}
use Rattle.sh_ast.specs.Commands.{CommandTree, CommandsTree, WordTree}
use Rattle.sh_script.specs.Values.{Value, nothing, commands}
pub use Rattle.sh_script.specs.Documents.{last, but_last}

-- The values of what was read, that of the first symbol in front; for each word that is being read, and then the one around
-- it, and last for what stands in no word, the bodies of its substitutions from the last to the first of the text; and for each here-document's body that is being
-- read, and then for the text around it, the here-documents' bodies that no operator has yet, in their order.
pub record State : Type 0 where
  pub values : List Value
  pub bodies : List (List CommandsTree)
  pub documents : List (List WordTree)

abbrev pub start : State
start = record { values = []; bodies = [] ∷ []; documents = [] ∷ [] }

abbrev pub head : List Value → Value
head [] = nothing
head (v ∷ vs) = v

abbrev pub tail : {A : Type 0} → List A → List A
tail [] = []
tail (v ∷ vs) = vs

-- the value in front; without it; and with another one
unfoldable pub top : State → Value
top s = head s.values

unfoldable pub less : State → State
less s = record s { values = tail s.values }

unfoldable pub with : Value → State → State
with v s = record s { values = v ∷ s.values }

-- the second value, and so on
abbrev pub second : State → Value
second s = top (less s)

abbrev pub third : State → Value
third s = top (less (less s))

abbrev pub fourth : State → Value
fourth s = top (less (less (less s)))

abbrev pub fifth : State → Value
fifth s = top (less (less (less (less s))))

abbrev pub sixth : State → Value
sixth s = top (less (less (less (less (less s)))))

-- one value in place of one, two and so on
abbrev pub for_one : Value → State → State
for_one v s = with v (less s)

abbrev pub for_two : Value → State → State
for_two v s = with v (less (less s))

abbrev pub for_three : Value → State → State
for_three v s = with v (less (less (less s)))

abbrev pub for_four : Value → State → State
for_four v s = with v (less (less (less (less s))))

abbrev pub for_five : Value → State → State
for_five v s = with v (less (less (less (less (less s)))))

abbrev pub for_six : Value → State → State
for_six v s = with v (less (less (less (less (less (less s))))))

abbrev pub one_command : CommandTree → Value
one_command c = commands (c ∷ [])

-- the list in front
unfoldable pub front : {A : Type 0} → List (List A) → List A
front [] = []
front (xs ∷ more) = xs

-- a word ends here; and begins here
unfoldable pub word_opened : State → State
word_opened s = record s { bodies = [] ∷ s.bodies }

unfoldable pub word_closed : State → State
word_closed s = record s { bodies = tail s.bodies }

-- the body of a substitution, by its number
abbrev pub added : {A : Type 0} → A → List (List A) → List (List A)
added x [] = []
added x (xs ∷ more) = (xs ++ x ∷ []) ∷ more

unfoldable pub with_body : CommandsTree → State → State
with_body body s = record s { bodies = added body s.bodies }

-- a here-document's body that is expanded ends here; and begins here
unfoldable pub body_opened : State → State
body_opened s = record s { documents = [] ∷ s.documents; bodies = [] ∷ s.bodies }

unfoldable pub body_closed : State → State
body_closed s = record s { documents = tail s.documents; bodies = tail s.bodies }

-- a body is met
abbrev pub put_first : {A : Type 0} → A → List (List A) → List (List A)
put_first x [] = []
put_first x (xs ∷ more) = (x ∷ xs) ∷ more

unfoldable pub with_document : WordTree → State → State
with_document body s = record s { documents = put_first body s.documents }

abbrev pub last_taken : {A : Type 0} → List (List A) → List (List A)
last_taken [] = []
last_taken (xs ∷ more) = but_last xs ∷ more

unfoldable pub without_document : State → State
without_document s = record s { documents = last_taken s.documents }
