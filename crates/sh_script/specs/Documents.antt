-- Here-documents (XCU 2.7.4): which body an operator has.
use Rattle.std.specs.Prelude.{List, [], ◌∷◌, Option, Some, None}
use Rattle.rk_base.specs.Text.{Text}
use Rattle.sh_ast.specs.declared.word.Quoting.TheVariants.{Quoted}
use Rattle.sh_ast.specs.Words.{literal, parts_of}
use Rattle.sh_ast.specs.Commands.{WordTree, word_of, no_bodies}

-- the last of a list, and the list without it
abbrev pub last : {A : Type 0} → List A → Option A
last [] = None
last (x ∷ []) = Some x
last (x ∷ (y ∷ xs)) = last (y ∷ xs)

abbrev pub but_last : {A : Type 0} → List A → List A
but_last [] = []
but_last (x ∷ []) = []
but_last (x ∷ (y ∷ xs)) = x ∷ but_last (y ∷ xs)

-- a body that isn't expanded: one quoted literal
abbrev pub literal_body : Text → WordTree
literal_body text = word_of (parts_of (literal Quoted text ∷ [])) no_bodies

-- the body that an operator has; in a script each has one, by a law (`documents_in_order`)
abbrev pub document : Option WordTree → WordTree
document None = word_of (parts_of []) no_bodies
document (Some body) = body
