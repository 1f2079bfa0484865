-- With which tokens the parse trees of a part begin, and whether one has none.
use Rattle.std.proofs.Common.{◌≡◌, ℕ, zero, suc, List, [], ◌∷◌, ◌++◌, Some, None, Bool, true, false, refl, sym, ap, ◌∙◌, subst}
use Rattle.std.specs.Prelude.{if◌then◌else◌}
use Rattle.std.specs.List.{list_any}
use Rattle.std.proofs.Math.Bool.{◌||◌}
use Rattle.sh_rules.specs.declared.token_kind.TokenKind.{TokenKind}
use Rattle.sh_rules.specs.declared.token_kind.Mode.{Mode}
use Rattle.sh_rules.specs.Grammar.{Symbol, Want, Do, Parse, Leaf, Node, Parses, no_parses, parse_and, leaves, leaves_all, IsParse, AreParses}
use Rattle.sh_rules.specs.Reading.{Reader}
use Rattle.sh_rules.specs.Parts.{Part}
use Rattle.sh_rules.specs.Rules.{Rule, Token, rules, part_of, spelling, shell}
use Rattle.sh_rules.specs.Choosing.{is_nothing, may_be_empty, leading, begins_within, begins, choose, reader}
use Rattle.sh_rules.proofs.Begins as all
use Rattle.sh_rules.proofs.Checked.{Checked}
use Rattle.sh_rules.proofs.Sets.{sets}
use Rattle.sh_rules.proofs.Tables.{checked, productive, kind_is}
use Rattle.sh_rules.proofs.Alternatives.{rules_own, one_own}

-- a tree that begins with a token of the kind
abbrev pub Begun : TokenKind → Symbol TokenKind Part → Type 0
Begun kind s = (tree : Parse Rule Token) × (token : Token) × (more : List Token) × IsParse shell tree s × (leaves tree ≡ token ∷ more) × (token.kind ≡ kind)

abbrev pub BegunAll : TokenKind → List (Symbol TokenKind Part) → Type 0
BegunAll kind ss = (trees : Parses Rule Token) × (token : Token) × (more : List Token) × AreParses shell trees ss × (leaves_all trees ≡ token ∷ more) × (token.kind ≡ kind)

-- a tree without tokens
abbrev pub Emptied : Part → Type 0
Emptied it = (tree : Parse Rule Token) × IsParse shell tree (Do it) × (leaves tree ≡ [])

all_spelled : (ss : List (Symbol TokenKind Part)) → (trees : Parses Rule Token) × AreParses shell trees ss
all_spelled [] = (no_parses, tt)
all_spelled (s ∷ ss) = let a = productive s in let b = all_spelled ss in (parse_and a.0 b.0, (a.1, b.1))

first_begun : (kind : TokenKind) (s : Symbol TokenKind Part) (ss : List (Symbol TokenKind Part)) → Begun kind s → BegunAll kind (s ∷ ss)
first_begun kind s ss b =
    let r = all_spelled ss in
    (parse_and b.0 r.0, b.1, b.2 ++ leaves_all r.0, (b.3, r.1), ap (λ ts. ts ++ leaves_all r.0) b.4, b.5)

later_begun : (kind : TokenKind) (it : Part) (ss : List (Symbol TokenKind Part)) → Emptied it → BegunAll kind ss → BegunAll kind (Do it ∷ ss)
later_begun kind it ss e b = (parse_and e.0 b.0, b.1, b.2, (e.1, b.3), ap (λ ts. ts ++ leaves_all b.0) e.2 ∙ b.4, b.5)

nothing_spelled : (ss : List (Symbol TokenKind Part)) → is_nothing ss ≡ true → AreParses shell no_parses ss
nothing_spelled [] h = tt
nothing_spelled (s ∷ ss) h = cc

pub emptied : (it : Part) → may_be_empty it ≡ true → Emptied it
emptied it h =
    let a = one_own it (λ rule. is_nothing (spelling rule)) (rules it) (rules_own it) h in
    (Node a.0 no_parses, (ap Do (sym a.1), nothing_spelled (spelling a.0) a.2), refl)

-- the first of the leading symbols that begins so
led : (kind : TokenKind) (f : Symbol TokenKind Part → Bool) → ((s : Symbol TokenKind Part) → f s ≡ true → Begun kind s) → (ss : List (Symbol TokenKind Part)) → list_any f (leading ss) ≡ true → BegunAll kind ss
led kind f from [] h = cc
led kind f from (Want k ∷ ss) h = by (f (Want k)) refl h
  where
    by : (b : Bool) → f (Want k) ≡ b → (b || false) ≡ true → BegunAll kind (Want k ∷ ss)
    by true e h = first_begun kind (Want k) ss (from (Want k) e)
    by false e h = cc
led kind f from (Do it ∷ ss) h = by (led kind f from ss) (f (Do it)) refl (may_be_empty it) refl h
  where
    by : (list_any f (leading ss) ≡ true → BegunAll kind ss) → (b : Bool) → f (Do it) ≡ b → (c : Bool) → may_be_empty it ≡ c → (b || list_any f (if c then leading ss else [])) ≡ true → BegunAll kind (Do it ∷ ss)
    by again true e c i h = first_begun kind (Do it) ss (from (Do it) e)
    by again false e true i h = later_begun kind it ss (emptied it i) (again h)
    by again false e false i h = cc

begun : (deep : ℕ) (kind : TokenKind) (s : Symbol TokenKind Part) → begins_within deep kind s ≡ true → Begun kind s
begun deep kind (Want other) h = (Leaf (record { kind = other; text = [] }), record { kind = other; text = [] }, [], refl, refl, kind_is other kind h)
begun zero kind (Do it) h = cc
begun (suc deep) kind (Do it) h =
    let a = one_own it (λ rule. list_any (begins_within deep kind) (leading (spelling rule))) (rules it) (rules_own it) h in
    let b = led kind (begins_within deep kind) (begun deep kind) (spelling a.0) a.2 in
    (Node a.0 b.0, b.1, b.2, (ap Do (sym a.1), b.3), b.4, b.5)

pub begins_so : (it : Part) (kind : TokenKind) → begins it kind ≡ true → Begun kind (Do it)
unfolding begins
begins_so it kind h = begun 35 kind (Do it) h

-- by no lexer at all
none : Reader TokenKind Part Rule Token Mode Token
none = reader (λ m t. None) (λ t p. false)

right : Checked shell none sets
unfolding none
right = checked Token (λ m t. None) (λ t p. false)

pub so_begins : (it : Part) (kind : TokenKind) → Begun kind (Do it) → begins it kind ≡ true
so_begins it kind b =
    let h = all.begins TokenKind Part Rule Token Mode Token shell none sets right b.0 (Do it) b.3 in
    let f : begins it b.1.kind ≡ true = subst (λ ts. all.Begins TokenKind Part Rule Token Mode Token shell none sets right (Do it) ts) b.4 h in
    subst (λ k. begins it k ≡ true) b.5 f

pub so_empty : (it : Part) → Emptied it → may_be_empty it ≡ true
so_empty it e =
    subst (λ ts. all.Begins TokenKind Part Rule Token Mode Token shell none sets right (Do it) ts) e.2
    (all.begins TokenKind Part Rule Token Mode Token shell none sets right e.0 (Do it) e.1)

pub so_chosen : (rule : Rule) (kind : TokenKind) → BegunAll kind (spelling rule) → choose (part_of rule) kind ≡ Some rule
unfolding none
so_chosen rule kind b =
    let h = all.begins_all TokenKind Part Rule Token Mode Token shell none sets right b.0 (spelling rule) b.3 in
    let f = subst (λ ts. all.BeginsAll TokenKind Part Rule Token Mode Token shell none sets right (spelling rule) ts) b.4 h in
    subst (λ k. choose (part_of rule) k ≡ Some rule) b.5 (right.chosen rule b.1.kind f)
