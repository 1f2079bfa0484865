-- Parameters (XCU 2.5).
use Rattle.std.specs.Prelude.{[], ◌∷◌}
use Rattle.rk_base.specs.Text.{Text}
use Rattle.sh_ast.specs.declared.parameter.Parameter.{Parameter}
use Rattle.sh_ast.specs.declared.parameter.Parameter.TheVariants.{Variable, Positional, At, Asterisk, Count, Status, Zero}

-- as it is written between ${ and }
abbrev pub spelling : Parameter → Text
spelling (Variable name) = name
spelling (Positional digits) = digits
spelling At = 64 ∷ []
spelling Asterisk = 42 ∷ []
spelling Count = 35 ∷ []
spelling Status = 63 ∷ []
spelling Zero = 48 ∷ []
