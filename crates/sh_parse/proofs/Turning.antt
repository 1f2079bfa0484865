-- A turn by a token, and a turn by a rule: by what was answered.
use Rattle.std.proofs.Common.{◌≡◌, ℕ, List, [], ◌∷◌, ◌++◌, Option, Some, None, refl, sym, ap, ◌∙◌, subst}
use Rattle.std.specs.Prelude.{Result, Ok, Err, MatchResult, MatchOption}
use Rattle.sh_rules.specs.Grammar.{Symbol, Want, Do, Blocked, Over}
use Rattle.sh_rules.specs.declared.token_kind.TokenKind.{TokenKind}
use Rattle.sh_rules.specs.declared.token_kind.Mode.{Mode}
use Rattle.sh_rules.specs.Parts.{Part}
use Rattle.sh_rules.specs.Rules.{Rule, spelling}
use Rattle.sh_rules.specs.Modes.{mode_of, mode}
use Rattle.sh_rules.specs.Choosing.{choose}
use Rattle.sh_grammar.specs.declared.spelled.Symbol as ds
use Rattle.sh_grammar.specs.Named.{symbol_named}
use Rattle.sh_grammar.specs.Marks.{Mark, node, leaf}
use Rattle.sh_token.specs.Places.{Place, size}
use Rattle.sh_token.specs.Lexemes.{look}
use Rattle.sh_token.specs.Tokens.{Look}
use Rattle.sh_token.specs.Steps.{token_of}
use Rattle.sh_token.proofs.Sizes.{may_be_empty, Shrinks}
use Rattle.sh_script.specs.TextReader.{text_reader, StandsThere, NotOf, HaltsAt}
use Rattle.sh_script.specs.Owing.{Owes, Keeps, Fewer}
use Rattle.sh_rules.proofs.Alternatives.{chosen_part}
use Rattle.sh_script.proofs.Fewer.{chosen_fewer}
use Rattle.sh_script.proofs.Turning.{keeps_taken, fewer_taken, halts_deep, halts_want, keeps_chosen, halts_none, halts_unwanted, whole_stuck}
use Rattle.sh_parse.specs.Tokens.{Took}
use Rattle.sh_parse.specs.Turns.{Halted, Reached, reached, Turns, StopsBy}
use Rattle.sh_parse.specs.declared.source.ParseErr.{ParseErr}
use Rattle.sh_parse.specs.declared.source.ParseErr.TheVariants as stop

pub turn_not_taken : (kind : TokenKind) (n : ℕ) (p q : Place) (e : ParseErr) → StandsThere kind n p → Took kind n p q (Err e) → Halted (Want kind) p q e
turn_not_taken kind n p q stop.Memory h k = tt
turn_not_taken kind n p q stop.Blocked h k = absurd k
turn_not_taken kind n p q stop.Deep h k = (k.0, (token_of kind n p, halts_deep kind n p h k.1))

pub not_expanded : (s : Symbol TokenKind Part) (p q : Place) (e : ParseErr) → e ≡ stop.Memory → Halted s p q e
not_expanded s p q e h = subst (λ e. Halted s p q e) (sym h) tt

pub turn_taken : {X : Type 0} (kind : TokenKind) (n : ℕ) (ss : List (Symbol TokenKind Part)) (marks marks' : List Mark) (p q : Place) (text : List ℕ) (r : Result X ParseErr) → StandsThere kind n p → Took kind n p q (Ok text) → Shrinks (may_be_empty kind) (size p) (size q) → MatchResult r (λ _. marks' ≡ marks ++ (leaf text ∷ [])) (λ e. e ≡ stop.Memory) → Turns (Want kind) (reached ss marks p) (reached ss marks' q) r
turn_taken kind n ss marks marks' p q text (Ok x) h k s m =
    let is : marks' ≡ marks ++ (leaf (token_of kind n p).text ∷ []) = m ∙ ap (λ t. marks ++ (leaf t ∷ [])) k.2 in (
      subst (λ ms. Keeps (Want kind ∷ ss) marks p ss ms q) (sym is) (subst (λ q. Keeps (Want kind ∷ ss) marks p ss (marks ++ (leaf (token_of kind n p).text ∷ [])) q) (sym k.0) (keeps_taken kind n ss marks p h k.1)),
      fewer_taken kind ss p q s,
    )
turn_taken kind n ss marks marks' p q text (Err e) h k s m = not_expanded (Want kind) p q e m

goes_on : (n : Part) (kind : TokenKind) (length : ℕ) (r : Rule) (ss todo : List (Symbol TokenKind Part)) (marks marks' : List Mark) (p : Place) → Some (kind, length) ≡ look (mode n) p → Some r ≡ choose n kind → marks' ≡ marks ++ (node r ∷ []) → todo ≡ spelling r ++ ss → Keeps (Do n ∷ ss) marks p todo marks' p × Fewer (Do n ∷ ss) p todo p
goes_on n kind length r ss todo marks marks' p h c m t =
    let e = chosen_part n kind r c in
    let k : Keeps (Do n ∷ ss) marks p (spelling r ++ ss) (marks ++ (node r ∷ [])) p = keeps_chosen r kind length ss marks p n e (sym h) (sym c) in
    let f : Fewer (Do n ∷ ss) p (spelling r ++ ss) p = subst (λ n. Fewer (Do n ∷ ss) p (spelling r ++ ss) p) e (chosen_fewer r ss (size p)) in (
      subst (λ ms. Keeps (Do n ∷ ss) marks p todo ms p) (sym m) (subst (λ td. Keeps (Do n ∷ ss) marks p td (marks ++ (node r ∷ [])) p) (sym t) k),
      subst (λ td. Fewer (Do n ∷ ss) p td p) (sym t) f,
    )

pub turn_chosen : {X : Type 0} (n : Part) (kind : TokenKind) (length : ℕ) (r : Rule) (ss todo : List (Symbol TokenKind Part)) (marks marks' : List Mark) (p : Place) (done : Result X ParseErr) → Some (kind, length) ≡ look (mode n) p → Some r ≡ choose n kind → MatchResult done (λ _. (marks' ≡ marks ++ (node r ∷ [])) × (todo ≡ spelling r ++ ss)) (λ e. e ≡ stop.Memory) → Turns (Do n) (reached ss marks p) (reached todo marks' p) done
turn_chosen n kind length r ss todo marks marks' p (Ok x) h c k = goes_on n kind length r ss todo marks marks' p h c k.0 k.1
turn_chosen n kind length r ss todo marks marks' p (Err e) h c k = not_expanded (Do n) p p e k

-- the whole goes on by a turn
pub owes_on : (start : Place) (s : Symbol TokenKind Part) (ss todo : List (Symbol TokenKind Part)) (before : List (Symbol TokenKind Part)) (marks marks' : List Mark) (p q : Place) → before ≡ s ∷ ss → Owes text_reader start before marks p → Keeps (s ∷ ss) marks p todo marks' q → Owes text_reader start todo marks' q
unfolding Keeps
owes_on start s ss todo before marks marks' p q e w k = k start (subst (λ td. Owes text_reader start td marks p) e w)

pub stops_there : (start : Place) (s : Symbol TokenKind Part) (ss before : List (Symbol TokenKind Part)) (marks : List Mark) (p q : Place) (e : ParseErr) → before ≡ s ∷ ss → Owes text_reader start before marks p → Halted s p q e → StopsBy start q e
stops_there start s ss before marks p q stop.Memory b w k = tt
stops_there start s ss before marks p q stop.Blocked b w k = whole_stuck start s ss marks p q Blocked (subst (λ td. Owes text_reader start td marks p) b w) k.0 k.1
stops_there start s ss before marks p q stop.Deep b w k = (k.1.0, whole_stuck start s ss marks p q (Over k.1.0) (subst (λ td. Owes text_reader start td marks p) b w) k.0 k.1.1)

pub looked : (kind : TokenKind) (p : Place) (found : Look) (m : Mode) (r : Option ℕ) → m ≡ mode_of kind → found ≡ look m p → MatchOption r (NotOf kind found) (λ n. found ≡ Some (kind, n)) → MatchOption r (HaltsAt (Want kind) p Blocked) (λ n. StandsThere kind n p)
looked kind p found m None e f h = halts_want kind p (subst (NotOf kind) (f ∙ ap (λ m. look m p) e) h)
looked kind p found m (Some n) e f h = sym (f ∙ ap (λ m. look m p) e) ∙ h

pub none_halts : (n : Part) (p : Place) → None ≡ look (mode n) p → (p ≡ p) × HaltsAt (Do n) p Blocked
none_halts n p h = (refl, halts_none n p h)

pub unwanted_halts : (n : Part) (kind : TokenKind) (length : ℕ) (p : Place) → Some (kind, length) ≡ look (mode n) p → None ≡ choose n kind → (p ≡ p) × HaltsAt (Do n) p Blocked
unwanted_halts n kind length p h c = (refl, halts_unwanted n kind length p h c)

-- a turn at a symbol is one at what the symbol is
pub turn_named : {X : Type 0} (symbol it : ds.Symbol) (old new : Reached) (r : Result X ParseErr) → symbol ≡ it → Turns (symbol_named it) old new r → Turns (symbol_named symbol) old new r
turn_named symbol it old new r is h = subst (λ s. Turns (symbol_named s) old new r) (sym is) h
