-- Scripts, and faulty texts (XCU 2.2 to 2.10).
use Rattle.std.specs.Prelude.{◌≡◌, ◌<◌, ◌≤◌, ◌⊎◌, ℕ, List, length}
use Rattle.sh_rules.specs.Grammar.{Halt}
use Rattle.sh_rules.specs.Rules.{Token, script}
use Rattle.sh_ast.specs.Commands.{CommandsTree}
use Rattle.sh_token.specs.Places.{Place, begin}
use Rattle.sh_token.specs.declared.fault.Why.TheVariants.{Long}
use Rattle.sh_token.specs.declared.fault.ScriptFault.{ScriptFault}
use Rattle.sh_token.specs.Faults.{fault, fault_of}
use Rattle.sh_script.specs.Trees.{Trees, tokens}
use Rattle.sh_script.specs.Meanings.{script_of}
use Rattle.sh_script.specs.Standing.{AllStand, AreAll, AreFirst, NoneGoesOn}

-- the most bytes that a script may have
abbrev pub longest : ℕ
longest = 16777216

-- From a place to another one the text spells a parse tree of a script.
unfoldable pub Spells : Trees script → Place → Place → Type 0
Spells tree p q = AllStand (tokens tree) p q

-- From a place on the text stops being a script at another one: the tokens before it begin one, and aren't all of it, and there
-- none goes on.
unfoldable pub StopsAt : Place → Place → Halt Token → Type 0
StopsAt p m h = (before : List Token) × AllStand before p m × AreFirst before × (AreAll before → ⊥) × NoneGoesOn before m h

-- THE TEXT IS A SCRIPT: it isn't too long, and it spells a parse tree that is the script.
unfoldable pub IsScript : List ℕ → CommandsTree → Type 0
IsScript text commands = (length text ≤ longest) × ((tree : Trees script) × (q : Place) × Spells tree (begin text) q × (script_of tree ≡ commands))

-- THE TEXT IS FAULTY: it is too long, or it stops being a script, with the fault of the place where it does.
unfoldable pub IsFaulty : List ℕ → ScriptFault → Type 0
IsFaulty text f =
    ((longest < length text) × (f ≡ fault longest Long)) ⊎
    ((length text ≤ longest) × ((p : Place) × (h : Halt Token) × StopsAt (begin text) p h × (f ≡ fault_of p h)))
