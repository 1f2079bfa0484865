-- Which rule of the grammar a token chooses at a part, by its kind alone: the rule that may begin with it, else the one that spells
-- nothing. All of it is computed from `spelling` of Rules.antt, and is so of the parse trees, by a law (`first_tokens`).
use Rattle.std.specs.Prelude.{ℕ, zero, suc, List, [], ◌∷◌, Option, Bool, true, false, if◌then◌else◌}
use Rattle.std.specs.List.{list_any, find}
use Rattle.std.specs.Option.{option_or}
use Rattle.sh_rules.specs.declared.token_kind.TokenKind.{TokenKind}
use Rattle.sh_rules.specs.declared.token_kind.Mode.{Mode}
use Rattle.sh_rules.specs.Grammar.{Symbol, Want, Do}
use Rattle.sh_rules.specs.Parts.{Part}
use Rattle.sh_rules.specs.Rules.{Rule, Token, rules, spelling}
use Rattle.sh_rules.specs.Kinds.{same}
use Rattle.sh_rules.specs.Modes.{mode, mode_of}
use Rattle.sh_rules.specs.Reading.{Reader}

-- no symbols
abbrev pub is_nothing : List (Symbol TokenKind Part) → Bool
is_nothing [] = true
is_nothing (s ∷ ss) = false

-- a part may be empty: one of its rules spells nothing
abbrev pub may_be_empty : Part → Bool
may_be_empty it = list_any (λ rule. is_nothing (spelling rule)) (rules it)

-- those of the symbols that may stand first: all before them may be empty
abbrev pub leading : List (Symbol TokenKind Part) → List (Symbol TokenKind Part)
leading [] = []
leading (Want kind ∷ ss) = Want kind ∷ []
leading (Do it ∷ ss) = Do it ∷ (if may_be_empty it then leading ss else [])

-- A symbol may begin with a token of the kind: it is such a token, or one of the part's rules may begin so. At most so many parts
-- begin one with another.
abbrev pub begins_within : ℕ → TokenKind → Symbol TokenKind Part → Bool
begins_within deep kind (Want other) = same other kind
begins_within zero kind (Do it) = false
begins_within (suc deep) kind (Do it) = list_any (λ rule. list_any (begins_within deep kind) (leading (spelling rule))) (rules it)

-- a part may: the grammar has 35 parts
unfoldable pub begins : Part → TokenKind → Bool
begins it kind = begins_within 35 kind (Do it)

-- a rule may
abbrev pub rule_begins : TokenKind → Rule → Bool
rule_begins kind rule = list_any (begins_within 35 kind) (leading (spelling rule))

-- THE RULE that a token of the kind chooses at a part
unfoldable pub choose : Part → TokenKind → Option Rule
choose it kind = option_or (find (rule_begins kind) (rules it)) (find (λ rule. is_nothing (spelling rule)) (rules it))

-- the shell, read by a lexer
abbrev pub reader : {P : Type 0} → (Mode → P → Option (Token × P)) → (Token → P → Bool) → Reader TokenKind Part Rule Token Mode P
reader lex over = record { choose = choose; mode = mode; mode_of = mode_of; lex = lex; over = over }
