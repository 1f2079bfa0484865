-- From what is read to scripts and faults.
use Rattle.std.proofs.Common.{arith, ◌≡◌, ◌<◌, ◌≤◌, ℕ, List, [], ◌∷◌, Bool, true, false, refl, sym, ap, ◌∙◌, subst, ◌⊎◌, inl, inr, append-nil, length}
use Rattle.std.specs.Prelude.{nat_lt, if◌then◌else◌}
use Rattle.std.proofs.lemmas.Bool.{ltb-true, ltb-false}
use Rattle.rk_base.specs.Text.{Text}
use Rattle.sh_rules.specs.Grammar.{Want, Parses, no_parses, leaves_all, Halt}
use Rattle.sh_rules.specs.Reading.{Spelled, ReadsAll}
use Rattle.sh_rules.proofs.Checked.{FirstAll, Checked, ModesAgree}
use Rattle.sh_rules.proofs.Keeps.{Consistent, Inv}
use Rattle.sh_rules.proofs.Stopping.{stops_all}
use Rattle.sh_rules.proofs.Complete.{sound_all, reads_all, once_all}
use Rattle.sh_rules.proofs.Once.{begun, stops_once, whole_stops_not}
use Rattle.sh_rules.specs.declared.token_kind.TokenKind.{TokenKind}
use Rattle.sh_rules.specs.declared.token_kind.TokenKind.TheVariants as k
use Rattle.sh_rules.specs.declared.token_kind.Mode.{Mode}
use Rattle.sh_rules.specs.Parts.{Part}
use Rattle.sh_rules.specs.Parts as p
use Rattle.sh_rules.specs.Rules.{Rule, Token, shell, script}
use Rattle.sh_rules.proofs.Sets.{sets}
use Rattle.sh_rules.proofs.Tables.{checked, productive}
use Rattle.sh_ast.specs.Commands.{CommandsTree}
use Rattle.sh_grammar.specs.Marks.{Mark, flat_all}
use Rattle.sh_token.specs.Places.{Place, begin}
use Rattle.sh_token.specs.Steps.{lex, over}
use Rattle.sh_token.specs.declared.fault.ScriptFault.{ScriptFault}
use Rattle.sh_token.specs.declared.fault.Why.TheVariants.{Long}
use Rattle.sh_token.specs.Faults.{fault, fault_of}
use Rattle.sh_token.proofs.Modes.{modes_agree}
use Rattle.sh_token.proofs.Sizes.{shorter}
use Rattle.sh_script.specs.TextReader.{text_reader}
use Rattle.sh_script.specs.Outcomes.{IsRead, IsStuck}
use Rattle.sh_script.specs.Trees.{Trees, tokens}
use Rattle.sh_script.specs.Meanings.{script_of}
use Rattle.sh_script.specs.Folds.{script_marked}
use Rattle.sh_script.specs.Scripts.{longest, Spells, StopsAt, IsScript, IsFaulty}
use Rattle.sh_script.proofs.Typed.{untyped, are_parses, tokens_are, typed}
use Rattle.sh_script.proofs.Standing.{spelled_of, stand_of, stop_of, stops_at_of}
use Rattle.sh_script.proofs.Built.{script_by_marks}
use Rattle.sh_script.specs.Predicting.{End, Read, Stuck, end_of}
use Rattle.sh_script.specs.Reads.{Reading, Script, Faulty, fault_words, reading_of, reads}
use Rattle.sh_script.proofs.Existing.{Shortens, EndsSo, each_ends}

-- All that is asked of the lexer.
abbrev pub Agrees : Type 0
Agrees = ModesAgree shell text_reader sets

ok : Checked shell text_reader sets
ok = checked Place lex over

consistent : (agree : ModesAgree shell text_reader sets) → Consistent TokenKind Part Rule Token Mode Place shell text_reader sets ok agree script
consistent agree = ((λ j h. by_end j h), (λ h. h.0), tt)
  where
    by_end : (j : TokenKind) → FirstAll sets (Want k.End ∷ []) j → sets.follow p.opt_list j ≡ true
    by_end j (inl e) = subst (λ j. sets.follow p.opt_list j ≡ true) e refl
    by_end j (inr h) = absurd h.0

-- a tree of the table that is read is one of the shell's
pub tree_there : Agrees → (qs : Parses Rule Token) (a b : Place) → ReadsAll shell text_reader qs script a b → (tree : Trees script) × Spells tree a b × (untyped tree ≡ qs)
unfolding Spells
tree_there agree qs a b h =
    let s = sound_all TokenKind Part Rule Token Mode Place shell text_reader sets ok agree qs script a b h in
    let t = typed qs script s.0 in
    (t.0, stand_of (tokens t.0) a b (subst (λ ts. Spelled shell text_reader ts a b) (ap (λ (xs : Parses Rule Token). leaves_all xs) (sym t.1) ∙ tokens_are t.0) s.1), t.1)

untyped_spelled : (tree : Trees script) (a b : Place) → Spells tree a b → Spelled shell text_reader (leaves_all (untyped tree)) a b
unfolding Spells
untyped_spelled tree a b h = subst (λ ts. Spelled shell text_reader ts a b) (sym (tokens_are tree)) (spelled_of (tokens tree) a b h)

pub stuck_stops : Agrees → (a m : Place) (h : Halt Token) → IsStuck a m h → StopsAt a m h
unfolding IsStuck
stuck_stops agree a m h x =
    stops_at_of a m h
    (stops_all TokenKind Part Rule Token Mode Place shell text_reader sets ok agree productive script a [] x.0 script [] a m h x.1
    (subst (λ α. Inv TokenKind Part Rule Token Mode Place shell text_reader sets ok agree script a [] α a) (sym (append-nil script))
    (begun TokenKind Part Rule Token Mode Place shell text_reader sets ok agree productive script a (consistent agree))))

pub one_stop : Agrees → (a m n : Place) (h i : Halt Token) → StopsAt a m h → StopsAt a n i → (m ≡ n) × (h ≡ i)
one_stop agree a m n h i x y =
    stops_once TokenKind Part Rule Token Mode Place shell text_reader sets ok agree productive script a m n h i (consistent agree) (stop_of a m h x) (stop_of a n i y)

pub no_both : Agrees → (tree : Trees script) (a b m : Place) (h : Halt Token) → Spells tree a b → StopsAt a m h → ⊥
no_both agree tree a b m h s x =
    whole_stops_not TokenKind Part Rule Token Mode Place shell text_reader sets ok agree productive script a (leaves_all (untyped tree)) b m h (consistent agree) (untyped_spelled tree a b s) (untyped tree, are_parses tree, refl) (stop_of a m h x)

reads_all_of : Agrees → (tree : Trees script) (a b : Place) → Spells tree a b → ReadsAll shell text_reader (untyped tree) script a b
reads_all_of agree tree a b h =
    reads_all TokenKind Part Rule Token Mode Place shell text_reader sets ok agree (untyped tree) script no_parses [] a b b (are_parses tree) tt (consistent agree) (untyped_spelled tree a b h) refl

one_tree : Agrees → (tree other : Trees script) (a b c : Place) → Spells tree a b → Spells other a c → untyped tree ≡ untyped other
one_tree agree tree other a b c h k =
    (once_all TokenKind Part Rule Token Mode Place shell text_reader sets ok agree (untyped tree) (untyped other) script a b c (reads_all_of agree tree a b h) (reads_all_of agree other a c k)).0

same_script : (tree other : Trees script) → untyped tree ≡ untyped other → script_of tree ≡ script_of other
same_script tree other e = sym (script_by_marks tree) ∙ ap (λ (xs : Parses Rule Token). script_marked (flat_all xs)) e ∙ script_by_marks other

not_both_lengths : (n m : ℕ) → n ≤ m → m < n → ⊥
not_both_lengths n m a b = omega (arith, a, b)

-- a text is one script at most
pub one_script : Agrees → (text : List ℕ) (s t : CommandsTree) → IsScript text s → IsScript text t → s ≡ t
unfolding IsScript
one_script agree text s t x y = sym x.1.3 ∙ same_script x.1.0 y.1.0 (one_tree agree x.1.0 y.1.0 (begin text) x.1.1 y.1.1 x.1.2 y.1.2) ∙ y.1.3

-- it has one fault at most
pub one_fault : Agrees → (text : List ℕ) (f g : ScriptFault) → IsFaulty text f → IsFaulty text g → f ≡ g
unfolding IsFaulty
one_fault agree text f g (inl x) (inl y) = x.1 ∙ sym y.1
one_fault agree text f g (inl x) (inr y) = absurd (not_both_lengths (length text) longest y.0 x.0)
one_fault agree text f g (inr x) (inl y) = absurd (not_both_lengths (length text) longest x.0 y.0)
one_fault agree text f g (inr x) (inr y) =
    let o = one_stop agree (begin text) x.1.0 y.1.0 x.1.1 y.1.1 x.1.2 y.1.2 in
    x.1.3 ∙ ap (λ p. fault_of p x.1.1) o.0 ∙ ap (fault_of y.1.0) o.1 ∙ sym y.1.3

-- and not both
pub not_both : Agrees → (text : List ℕ) (s : CommandsTree) (f : ScriptFault) → IsScript text s → IsFaulty text f → ⊥
unfolding IsScript IsFaulty
not_both agree text s f x (inl y) = not_both_lengths (length text) longest x.0 y.0
not_both agree text s f x (inr y) = no_both agree x.1.0 (begin text) x.1.1 y.1.0 y.1.1 x.1.2 y.1.2

-- what was read, by its marks
pub script_read : Agrees → (text : List ℕ) (q : Place) (marks : List Mark) (s : CommandsTree) → length text ≤ longest → IsRead (begin text) q marks → s ≡ script_marked marks → IsScript text s
unfolding IsScript IsRead
script_read agree text q marks s l r e =
    let t = tree_there agree r.0 (begin text) q r.1 in
    (l, (t.0, q, t.1, sym (script_by_marks t.0) ∙ ap (λ (xs : Parses Rule Token). script_marked (flat_all xs)) t.2 ∙ ap script_marked r.2 ∙ sym e))

pub fault_read : Agrees → (text : List ℕ) (m : Place) (h : Halt Token) (f : ScriptFault) → length text ≤ longest → IsStuck (begin text) m h → f ≡ fault_of m h → IsFaulty text f
unfolding IsFaulty
fault_read agree text m h f l s e = inr (l, (m, h, stuck_stops agree (begin text) m h s, e))

pub too_long : (text : List ℕ) → longest < length text → IsFaulty text (fault longest Long)
unfolding IsFaulty
too_long text l = inl (l, refl)

-- the text is the script that it reads as, or it has the fault whose words it reads as
unfoldable pub ReadsSo : Text → Reading → Type 0
ReadsSo text (Script s) = IsScript text s
ReadsSo text (Faulty words) = (f : ScriptFault) × IsFaulty text f × (words ≡ fault_words text f)

reads_so : Agrees → Shortens → (text : Text) → ReadsSo text (reads text)
unfolding EndsSo ReadsSo reads
reads_so agree short text = by_length (nat_lt longest (length text)) refl
  where
    by_end : length text ≤ longest → (e : End) → EndsSo (begin text) e → ReadsSo text (reading_of text e)
    by_end l (Read marks) x = script_read agree text x.0 marks (script_marked marks) l x.1 refl
    by_end l (Stuck m h) x = (fault_of m h, fault_read agree text m h (fault_of m h) l x refl, refl)

    by_length : (b : Bool) → nat_lt longest (length text) ≡ b → ReadsSo text (if b then Faulty (fault_words text (fault longest Long)) else reading_of text (end_of text))
    by_length true e = (fault longest Long, too_long text (ltb-true longest (length text) e), refl)
    by_length false e = by_end (ltb-false longest (length text) e) (end_of text) (each_ends short text)

-- THE LEXER AGREES, so nothing is left to ask
pub reads_so_there : (text : Text) → ReadsSo text (reads text)
reads_so_there = reads_so modes_agree shorter

-- EACH TEXT IS A SCRIPT OR FAULTY
some_answer : (text : Text) (r : Reading) → ReadsSo text r → ((s : CommandsTree) × IsScript text s) ⊎ ((f : ScriptFault) × IsFaulty text f)
unfolding ReadsSo
some_answer text (Script s) x = inl (s, x)
some_answer text (Faulty words) x = inr (x.0, x.1)

pub some : (text : Text) → ((s : CommandsTree) × IsScript text s) ⊎ ((f : ScriptFault) × IsFaulty text f)
some text = some_answer text (reads text) (reads_so_there text)

pub one_script_there : (text : List ℕ) (s t : CommandsTree) → IsScript text s → IsScript text t → s ≡ t
one_script_there = one_script modes_agree

pub one_fault_there : (text : List ℕ) (f g : ScriptFault) → IsFaulty text f → IsFaulty text g → f ≡ g
one_fault_there = one_fault modes_agree

pub not_both_there : (text : List ℕ) (s : CommandsTree) (f : ScriptFault) → IsScript text s → IsFaulty text f → ⊥
not_both_there = not_both modes_agree
