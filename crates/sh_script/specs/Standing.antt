-- The tokens that stand in a text (XCU 2.3), and where they stop being a script (XCU 2.10).
use Rattle.std.specs.Prelude.{◌≡◌, List, [], ◌∷◌, ◌++◌, Some, false, true}
use Rattle.sh_rules.specs.Modes.{mode_of}
use Rattle.sh_rules.specs.Grammar.{Halt, Blocked, Over}
use Rattle.sh_rules.specs.Rules.{Token, script}
use Rattle.sh_token.specs.Places.{Place}
use Rattle.sh_token.specs.Steps.{lex, over}
use Rattle.sh_script.specs.Trees.{Trees, tokens}

-- A token stands at a place, up to another one: it is found there, where tokens of its kind are looked for.
abbrev pub Stands : Token → Place → Place → Type 0
Stands t p q = lex (mode_of t.kind) p ≡ Some (t, q)

-- Tokens stand one after another, and none opens a level too many.
abbrev pub AllStand : List Token → Place → Place → Type 0
AllStand [] p q = p ≡ q
AllStand (t ∷ ts) p q = (m : Place) × Stands t p m × (over t p ≡ false) × AllStand ts m q

-- Tokens are all of a script's, or the first of them.
abbrev pub AreAll : List Token → Type 0
AreAll ts = (tree : Trees script) × (tokens tree ≡ ts)

abbrev pub AreFirst : List Token → Type 0
AreFirst ts = (tree : Trees script) × (more : List Token) × (tokens tree ≡ ts ++ more)

-- Behind some tokens no token that stands there goes on with a script; or one does, but opens a level too many.
abbrev pub NoneGoesOn : List Token → Place → Halt Token → Type 0
NoneGoesOn before p Blocked = (t : Token) (q : Place) → Stands t p q → AreFirst (before ++ t ∷ []) → ⊥
NoneGoesOn before p (Over t) = ((q : Place) × Stands t p q) × (over t p ≡ true) × AreFirst (before ++ t ∷ [])
