-- In a script the n-th here-document operator has the n-th body: behind each place as many bodies are free as are awaited there.
use Rattle.std.proofs.Common.{arith, ◌≡◌, ℕ, suc, ◌+◌, List, [], ◌∷◌, ◌++◌, Option, Some, None, refl, sym, ap, ◌∙◌, append_assoc, append-nil, length, drop, length-append}
use Rattle.rk_base.specs.Text.{Text}
use Rattle.sh_ast.specs.declared.command.RedirectOperator.TheVariants.{HereDocument}
use Rattle.sh_ast.specs.Commands.{commands_of, WordTree}
use Rattle.sh_rules.specs.Grammar.{Symbol, Want, Do}
use Rattle.sh_rules.specs.Reading.{Spelled}
use Rattle.sh_rules.specs.declared.token_kind.TokenKind.{TokenKind}
use Rattle.sh_rules.specs.declared.token_kind.TokenKind.TheVariants as k
use Rattle.sh_rules.specs.Parts as p
use Rattle.sh_rules.specs.Parts.{Part}
use Rattle.sh_rules.specs.Rules as r
use Rattle.sh_rules.specs.Rules.{Rule, shell, part_of, spelling, script}
use Rattle.sh_rules.proofs.Complete.{spelled_apart}
use Rattle.sh_token.specs.HereDocuments.{Awaited}
use Rattle.sh_token.specs.Places.{Place, OuterText, begin}
use Rattle.sh_script.specs.Texts.{descriptor_of}
use Rattle.sh_script.specs.Words.{Pieces, word}
use Rattle.sh_script.specs.Documents.{last, but_last, literal_body, document}
use Rattle.sh_script.specs.Made.{Made, Values}
use Rattle.sh_script.specs.Makes.{redirect, make}
use Rattle.sh_script.specs.Trees.{Trees, no_trees, token_and, rule_and, tokens}
use Rattle.sh_script.specs.Meanings.{Comes, Meanings, through, meaning_by, meanings_of, script_of}
use Rattle.sh_script.specs.InOrder.{Ordered, Orders, in_order, order_by, orders_of, tree_in_order, script_in_order}
use Rattle.sh_script.specs.TextReader.{text_reader}
use Rattle.sh_script.specs.Scripts.{Spells}
use Rattle.sh_script.proofs.Standing.{spelled_of}
use Rattle.sh_script.proofs.Levels.{awaits, Level, level_there}

-- LISTS
sum_is : (xs ys : List WordTree) (n m : ℕ) → length xs ≡ n → length ys ≡ m → length (xs ++ ys) ≡ n + m
sum_is xs ys n m e f = omega (arith, length-append xs ys, e, f)

dropped : (xs ys : List WordTree) → drop (length xs) (xs ++ ys) ≡ ys
dropped [] ys = refl
dropped (x ∷ xs) ys = dropped xs ys

-- what is left in front, the bodies of two symbols, and what is free behind them
shared : (left c1 b1 f c2 b2 free : List WordTree) → left ++ c1 ≡ b1 ++ f → f ++ c2 ≡ b2 ++ free → left ++ (c1 ++ c2) ≡ (b1 ++ b2) ++ free
shared left c1 b1 f c2 b2 free e h =
    sym (append_assoc left c1 c2) ∙ ap (λ l. l ++ c2) e ∙ append_assoc b1 f c2 ∙ ap (λ l. b1 ++ l) h ∙ sym (append_assoc b1 b2 free)

none_of : (left : List WordTree) → length left ≡ 0 → left ≡ []
none_of [] e = refl
none_of (x ∷ left) e = absurd (not_none (length left) e)
  where
    not_none : (n : ℕ) → suc n ≡ 0 → ⊥
    not_none n h = omega (arith, h)

all_claimed : (left c b : List WordTree) → length left ≡ 0 → left ++ c ≡ b ++ [] → c ≡ b
all_claimed left c b e h = ap (λ l. l ++ c) (sym (none_of left e)) ∙ h ∙ append-nil b

last_of : (x : WordTree) (xs : List WordTree) → (y : WordTree) × (last (x ∷ xs) ≡ Some y) × (length (but_last (x ∷ xs)) ≡ length xs) × (but_last (x ∷ xs) ++ y ∷ [] ≡ x ∷ xs)
last_of x [] = (x, refl, refl, refl)
last_of x (z ∷ xs) = let i = last_of z xs in (i.0, i.1, ap suc i.2, ap (λ l. x ∷ l) i.3)

less_one : (n m : ℕ) → suc n ≡ suc m → n ≡ m
less_one n m e = omega (arith, e)

pair_same : {A B : Type 0} {a c : A} {b d : B} → a ≡ c → b ≡ d → ◌≡◌ {A = A × B} (a, b) (c, d)
pair_same e h = λ i. (e i, h i)

-- ONE TREE: of the bodies that are free behind it and that stand in it, its operators have the last ones, in their order.
abbrev Pair : (A : Type 0) → (List WordTree → Comes A) → Ordered A → List WordTree → ℕ → Type 0
Pair A m o free n =
    (claimed : List WordTree) × (length (m free).free ≡ n) × (length claimed ≡ o.operators) × ((m free).free ++ claimed ≡ o.bodies ++ free) ×
    ((more : List WordTree) → (m free).value ≡ o.value (claimed ++ more))

-- and as many are free in front of it as are awaited there
abbrev Paired : (n : Part) → (List WordTree → Comes (Made n)) → Ordered (Made n) → Place → Place → Type 0
Paired p.body_parts m o a b = (rest : List OuterText) (x : OuterText) → a.around ≡ rest ++ x ∷ [] → (b.around ≡ rest) × (b.awaited ≡ x.awaited) × Pair Pieces m o [] (awaits a)
Paired n m o a b = (b.around ≡ a.around) × ((free : List WordTree) → length free ≡ awaits b → Pair (Made n) m o free (awaits a))

abbrev AllPaired : (ss : List (Symbol TokenKind Part)) → Meanings ss → Orders ss → Place → Place → Type 0
AllPaired [] ms os a b = a ≡ b
AllPaired (Want kind ∷ ss) ms os a b = (c : Place) × Level kind a c × (ms.0 ≡ os.0) × AllPaired ss ms.1 os.1 c b
AllPaired (Do n ∷ ss) ms os a b = (c : Place) × Paired n ms.0 os.0 a c × AllPaired ss ms.1 os.1 c b

-- SYMBOL BY SYMBOL
no_pair : (free : List WordTree) → Pair (Values []) (through [] tt) (in_order [] tt) free (length free)
no_pair free = ([], refl, refl, append-nil free, λ more. refl)

at_count : {A : Type 0} (m : List WordTree → Comes A) (o : Ordered A) (free : List WordTree) (n l : ℕ) → n ≡ l → Pair A m o free n → Pair A m o free l
at_count m o free n l e x = (x.0, x.1 ∙ e, x.2, x.3, x.4)

token_pair : (kind : TokenKind) (ss : List (Symbol TokenKind Part)) (ms : Meanings (Want kind ∷ ss)) (os : Orders (Want kind ∷ ss)) (free : List WordTree) (n : ℕ) → ms.0 ≡ os.0 → Pair (Values ss) (through ss ms.1) (in_order ss os.1) free n → Pair (Values (Want kind ∷ ss)) (through (Want kind ∷ ss) ms) (in_order (Want kind ∷ ss) os) free n
token_pair kind ss ms os free n e x = (x.0, x.1, x.2, x.3, λ more. pair_same e (x.4 more))

part_pair : (n : Part) (ss : List (Symbol TokenKind Part)) (ms : Meanings (Do n ∷ ss)) (os : Orders (Do n ∷ ss)) (free : List WordTree) (i j : ℕ) → Pair (Values ss) (through ss ms.1) (in_order ss os.1) free j → Pair (Made n) ms.0 os.0 (through ss ms.1 free).free i → Pair (Values (Do n ∷ ss)) (through (Do n ∷ ss) ms) (in_order (Do n ∷ ss) os) free i
part_pair n ss ms os free i j y x =
    let inner = through ss ms.1 free in
    let o = os.0 in
    let others = in_order ss os.1 in
    let at_rest : (more : List WordTree) → y.0 ++ more ≡ drop o.operators ((x.0 ++ y.0) ++ more) = λ more.
    sym (dropped x.0 (y.0 ++ more)) ∙ ap (λ l. drop (length x.0) l) (sym (append_assoc x.0 y.0 more)) ∙ ap (λ l. drop l ((x.0 ++ y.0) ++ more)) x.2 in (
      x.0 ++ y.0,
      x.1,
      sum_is x.0 y.0 o.operators others.operators x.2 y.2,
      shared (ms.0 inner.free).free x.0 o.bodies inner.free y.0 others.bodies free x.3 y.3,
      λ more. pair_same (x.4 (y.0 ++ more) ∙ ap o.value (sym (append_assoc x.0 y.0 more))) (y.4 more ∙ ap others.value (at_rest more)),
    )

-- symbols that change no level
abbrev Flat : List (Symbol TokenKind Part) → Type 0
Flat [] = Unit {0}
Flat (Want k.Delimiter ∷ ss) = ⊥
Flat (Want k.LiteralBody ∷ ss) = ⊥
Flat (Want k.BodyOpen ∷ ss) = ⊥
Flat (Want k.BodyClose ∷ ss) = ⊥
Flat (Want kind ∷ ss) = Flat ss
Flat (Do p.body_parts ∷ ss) = ⊥
Flat (Do n ∷ ss) = Flat ss

flat_pair : (ss : List (Symbol TokenKind Part)) → Flat ss → (ms : Meanings ss) (os : Orders ss) (a b : Place) → AllPaired ss ms os a b → (b.around ≡ a.around) × ((free : List WordTree) → length free ≡ awaits b → Pair (Values ss) (through ss ms) (in_order ss os) free (awaits a))
flat_pair [] h ms os a b e =
    (ap (λ (q : Place). q.around) (sym e), λ free l. ([], l ∙ ap (λ (q : Place). awaits q) (sym e), refl, append-nil free, λ more. refl))
flat_pair (Want k.Delimiter ∷ ss) h ms os a b e = absurd h
flat_pair (Want k.LiteralBody ∷ ss) h ms os a b e = absurd h
flat_pair (Want k.BodyOpen ∷ ss) h ms os a b e = absurd h
flat_pair (Want k.BodyClose ∷ ss) h ms os a b e = absurd h
flat_pair (Want kind ∷ ss) h ms os a b e =
    let t = flat_pair ss h ms.1 os.1 e.0 b e.3 in (
      t.0 ∙ e.1.1,
      λ free l. token_pair kind ss ms os free (awaits a) e.2 (at_count (through ss ms.1) (in_order ss os.1) free (awaits e.0) (awaits a) (ap length e.1.0) (t.1 free l)),
    )
flat_pair (Do p.body_parts ∷ ss) h ms os a b e = absurd h
flat_pair (Do n ∷ ss) h ms os a b e =
    let t = flat_pair ss h ms.1 os.1 e.0 b e.2 in (
      t.0 ∙ e.1.0,
      λ free l.
          let y = t.1 free l in
          part_pair n ss ms os free (awaits a) (awaits e.0) y (e.1.1 (through ss ms.1 free).free y.1),
    )

-- RULE BY RULE
abbrev Plain : Rule → Type 0
Plain r.Here = ⊥
Plain r.Literal_body = ⊥
Plain r.Body = ⊥
Plain q = Unit {0}

-- a rule that neither takes nor gives a body
rule_pair : (q : Rule) → Plain q → (ms : Meanings (spelling q)) (os : Orders (spelling q)) (free : List WordTree) (n : ℕ) → Pair (Values (spelling q)) (through (spelling q) ms) (in_order (spelling q) os) free n → Pair (Made (part_of q)) (meaning_by q ms) (order_by q os) free n
rule_pair r.Here h ms os free n x = absurd h
rule_pair r.Literal_body h ms os free n x = absurd h
rule_pair r.Body h ms os free n x = absurd h
rule_pair q h ms os free n x = (x.0, x.1, x.2, x.3, λ more. ap (make (document None) q) (x.4 more))

here_pair : (ms : Meanings (spelling r.Here)) (os : Orders (spelling r.Here)) (free : List WordTree) (n : ℕ) → ms.0 ≡ os.0 → length free ≡ suc n → Pair (Made p.redirect) (meaning_by r.Here ms) (order_by r.Here os) free n
here_pair ms os [] n e l = absurd (not_one n l)
  where
    not_one : (n : ℕ) → 0 ≡ suc n → ⊥
    not_one n h = omega (arith, h)
here_pair ms os (x ∷ xs) n e l =
    let i = last_of x xs in (
      i.0 ∷ [],
      i.2 ∙ less_one (length xs) n l,
      refl,
      i.3,
      λ more.
          ap (λ (d : Option WordTree). redirect (descriptor_of ms.0) HereDocument (document d)) i.1 ∙ ap (λ (t : Text). redirect (descriptor_of t) HereDocument (document (Some i.0))) e,
    )

-- the parts of a body, behind what stands in front of them in it
parts_pair : (ms : Meanings (Do p.body_parts ∷ [])) (os : Orders (Do p.body_parts ∷ [])) (n : ℕ) → Pair Pieces ms.0 os.0 [] n → Pair (Values (Do p.body_parts ∷ [])) (through (Do p.body_parts ∷ []) ms) (in_order (Do p.body_parts ∷ []) os) [] n
parts_pair ms os n x = part_pair p.body_parts [] ms os [] n 0 (no_pair []) x

body_end : (ms : Meanings (spelling r.Body_end)) (os : Orders (spelling r.Body_end)) (a b : Place) → AllPaired (spelling r.Body_end) ms os a b → Paired p.body_parts (meaning_by r.Body_end ms) (order_by r.Body_end os) a b
body_end ms os a b e = λ rest x h.
    let g = e.1.1 rest x h in (
      ap (λ (q : Place). q.around) (sym e.3) ∙ g.0,
      ap (λ (q : Place). q.awaited) (sym e.3) ∙ g.1,
      ([], sym (ap length e.1.0), refl, refl, λ more. refl),
    )

body_text : (ms : Meanings (spelling r.Body_text)) (os : Orders (spelling r.Body_text)) (a b : Place) → AllPaired (spelling r.Body_text) ms os a b → Paired p.body_parts (meaning_by r.Body_text ms) (order_by r.Body_text os) a b
body_text ms os a b e = λ rest x h.
    let c = e.0 in
    let g = e.3.1 rest x (e.1.1 ∙ h) in
    let y = token_pair k.BodyText (Do p.body_parts ∷ []) ms os [] (awaits c) e.2 (parts_pair ms.1 os.1 (awaits c) g.2) in (
      ap (λ (q : Place). q.around) (sym e.3.2) ∙ g.0,
      ap (λ (q : Place). q.awaited) (sym e.3.2) ∙ g.1,
      at_count (meaning_by r.Body_text ms) (order_by r.Body_text os) [] (awaits c) (awaits a) (ap length e.1.0) (rule_pair r.Body_text tt ms os [] (awaits c) y),
    )

body_escape : (ms : Meanings (spelling r.Body_escape)) (os : Orders (spelling r.Body_escape)) (a b : Place) → AllPaired (spelling r.Body_escape) ms os a b → Paired p.body_parts (meaning_by r.Body_escape ms) (order_by r.Body_escape os) a b
body_escape ms os a b e = λ rest x h.
    let c = e.0 in
    let g = e.3.1 rest x (e.1.1 ∙ h) in
    let y = token_pair k.BodyEscape (Do p.body_parts ∷ []) ms os [] (awaits c) e.2 (parts_pair ms.1 os.1 (awaits c) g.2) in (
      ap (λ (q : Place). q.around) (sym e.3.2) ∙ g.0,
      ap (λ (q : Place). q.awaited) (sym e.3.2) ∙ g.1,
      at_count (meaning_by r.Body_escape ms) (order_by r.Body_escape os) [] (awaits c) (awaits a) (ap length e.1.0) (rule_pair r.Body_escape tt ms os [] (awaits c) y),
    )

body_expansion : (ms : Meanings (spelling r.Body_expansion)) (os : Orders (spelling r.Body_expansion)) (a b : Place) → AllPaired (spelling r.Body_expansion) ms os a b → Paired p.body_parts (meaning_by r.Body_expansion ms) (order_by r.Body_expansion os) a b
body_expansion ms os a b e = λ rest x h.
    let c = e.0 in
    let g = e.2.1 rest x (e.1.0 ∙ h) in
    let y = parts_pair ms.1 os.1 (awaits c) g.2 in
    let z = part_pair p.expansion (Do p.body_parts ∷ []) ms os [] (awaits a) (awaits c) y (e.1.1 (through (Do p.body_parts ∷ []) ms.1 []).free y.1) in (
      ap (λ (q : Place). q.around) (sym e.2.2) ∙ g.0,
      ap (λ (q : Place). q.awaited) (sym e.2.2) ∙ g.1,
      rule_pair r.Body_expansion tt ms os [] (awaits a) z,
    )

body_braced : (ms : Meanings (spelling r.Body_braced)) (os : Orders (spelling r.Body_braced)) (a b : Place) → AllPaired (spelling r.Body_braced) ms os a b → Paired p.body_parts (meaning_by r.Body_braced ms) (order_by r.Body_braced os) a b
body_braced ms os a b e = λ rest x h.
    let c = e.0 in
    let d = e.3.0 in
    let g = e.3.2.1 rest x (e.3.1.0 ∙ e.1.1 ∙ h) in
    let y = parts_pair ms.1.1 os.1.1 (awaits d) g.2 in
    let z = part_pair p.quoted_brace_parts (Do p.body_parts ∷ []) ms.1 os.1 [] (awaits c) (awaits d) y (e.3.1.1 (through (Do p.body_parts ∷ []) ms.1.1 []).free y.1) in
    let v = token_pair k.QuotedBrace (Do p.quoted_brace_parts ∷ Do p.body_parts ∷ []) ms os [] (awaits c) e.2 z in (
      ap (λ (q : Place). q.around) (sym e.3.2.2) ∙ g.0,
      ap (λ (q : Place). q.awaited) (sym e.3.2.2) ∙ g.1,
      at_count (meaning_by r.Body_braced ms) (order_by r.Body_braced os) [] (awaits c) (awaits a) (ap length e.1.0) (rule_pair r.Body_braced tt ms os [] (awaits c) v),
    )

-- an operator and its delimiter
here : (ms : Meanings (spelling r.Here)) (os : Orders (spelling r.Here)) (a b : Place) → AllPaired (spelling r.Here) ms os a b → Paired p.redirect (meaning_by r.Here ms) (order_by r.Here os) a b
here ms os a b e = (
  ap (λ (q : Place). q.around) (sym e.3.3) ∙ e.3.1.1 ∙ e.1.1,
  λ free l. here_pair ms os free (awaits a) e.2 (l ∙ ap (λ (q : Place). awaits q) (sym e.3.3) ∙ e.3.1.0 ∙ ap (λ (n : List Awaited). suc (length n)) e.1.0),
)

-- a body that isn't expanded
literal : (ms : Meanings (spelling r.Literal_body)) (os : Orders (spelling r.Literal_body)) (a b : Place) → AllPaired (spelling r.Literal_body) ms os a b → Paired p.bodies (meaning_by r.Literal_body ms) (order_by r.Literal_body os) a b
literal ms os a b e =
    let t = flat_pair (Do p.bodies ∷ []) tt ms.1 os.1 e.0 b e.3 in
    let others = in_order (Do p.bodies ∷ []) os.1 in (
      t.0 ∙ e.1.1,
      λ free l.
          let x = t.1 free l in (
            x.0,
            ap suc x.1 ∙ sym e.1.0,
            x.2,
            ap (λ (w : List WordTree). literal_body ms.0 ∷ w) x.3 ∙ ap (λ (w : Text). literal_body w ∷ (others.bodies ++ free)) e.2,
            λ more. refl,
          ),
    )

-- one that is, which is a text by itself
body : (ms : Meanings (spelling r.Body)) (os : Orders (spelling r.Body)) (a b : Place) → AllPaired (spelling r.Body) ms os a b → Paired p.bodies (meaning_by r.Body ms) (order_by r.Body os) a b
body ms os a b e =
    let o = os.1.0 in
    let others = os.1.1.0 in
    let inner = e.3.1 a.around e.1.0 e.1.2 in
    let behind = e.3.2.1 in
    let z = inner.2 in
    let none : length (ms.1.0 []).free ≡ 0 = z.1 ∙ ap length e.1.3 in
    let same : z.0 ++ [] ≡ o.bodies = append-nil z.0 ∙ all_claimed (ms.1.0 []).free z.0 o.bodies none z.3 in
    let words : word (ms.1.0 []).value ≡ word (o.value o.bodies) = ap (λ (w : Pieces). word w) (z.4 [] ∙ ap o.value same) in (
      ap (λ (q : Place). q.around) (sym e.3.2.2) ∙ behind.0 ∙ inner.0,
      λ free l.
          let x = behind.1 free (l ∙ ap (λ (q : Place). awaits q) (sym e.3.2.2)) in (
            x.0,
            ap suc (x.1 ∙ ap length inner.1) ∙ sym e.1.1,
            x.2,
            ap (λ (w : List WordTree). word (ms.1.0 []).value ∷ w) x.3 ∙ ap (λ (w : WordTree). w ∷ (others.bodies ++ free)) words,
            λ more. refl,
          ),
    )

by_rule : (q : Rule) (ms : Meanings (spelling q)) (os : Orders (spelling q)) (a b : Place) → AllPaired (spelling q) ms os a b → Paired (part_of q) (meaning_by q ms) (order_by q os) a b
by_rule r.Here ms os a b e = here ms os a b e
by_rule r.Literal_body ms os a b e = literal ms os a b e
by_rule r.Body ms os a b e = body ms os a b e
by_rule r.Body_end ms os a b e = body_end ms os a b e
by_rule r.Body_text ms os a b e = body_text ms os a b e
by_rule r.Body_escape ms os a b e = body_escape ms os a b e
by_rule r.Body_braced ms os a b e = body_braced ms os a b e
by_rule r.Body_expansion ms os a b e = body_expansion ms os a b e
by_rule q ms os a b e =
    let t = flat_pair (spelling q) tt ms os a b e in
    (t.0, λ free l. rule_pair q tt ms os free (awaits a) (t.1 free l))

each_paired : {ss : List (Symbol TokenKind Part)} (ts : Trees ss) (a b : Place) → Spelled shell text_reader (tokens ts) a b → AllPaired ss (meanings_of ts) (orders_of ts) a b
each_paired no_trees a b h = h
each_paired (token_and t ts) a b h = (h.0, level_there t a h.0 h.1, refl, each_paired ts h.0 b h.3)
each_paired (rule_and q below ts) a b h =
    let c = spelled_apart shell text_reader (tokens below) (tokens ts) a b h in
    (c.0, by_rule q (meanings_of below) (orders_of below) a c.0 (each_paired below a c.0 c.1), each_paired ts c.0 b c.2)

-- THE SCRIPT: behind its end nothing is awaited
all_paired : (text : List ℕ) (tree : Trees script) (q : Place) → Spells tree (begin text) q → Pair (Values script) (through script (meanings_of tree)) (in_order script (orders_of tree)) [] 0
unfolding Spells
all_paired text tree q h =
    let e = each_paired tree (begin text) q (spelled_of (tokens tree) (begin text) q h) in
    let at_end : 0 ≡ awaits q = sym (ap length e.2.1.2) ∙ sym (ap length e.2.1.0) ∙ ap (λ (x : Place). awaits x) e.2.3 in
    (flat_pair script tt (meanings_of tree) (orders_of tree) (begin text) q e).1 [] at_end

pub as_many : (text : List ℕ) (tree : Trees script) (q : Place) → Spells tree (begin text) q → (tree_in_order tree).operators ≡ length (tree_in_order tree).bodies
unfolding tree_in_order
as_many text tree q h =
    let x = all_paired text tree q h in
    let o = in_order script (orders_of tree) in
    sym x.2 ∙ ap length (all_claimed (through script (meanings_of tree) []).free x.0 o.bodies x.1 x.3)

pub in_order_there : (text : List ℕ) (tree : Trees script) (q : Place) → Spells tree (begin text) q → script_of tree ≡ script_in_order tree
unfolding tree_in_order script_of script_in_order
in_order_there text tree q h =
    let x = all_paired text tree q h in
    let o = in_order script (orders_of tree) in
    let same : x.0 ++ [] ≡ o.bodies = append-nil x.0 ∙ all_claimed (through script (meanings_of tree) []).free x.0 o.bodies x.1 x.3 in
    ap (λ (y : Values script). commands_of y.0) (x.4 [] ∙ ap o.value same)
