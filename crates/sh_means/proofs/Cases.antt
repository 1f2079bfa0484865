-- The items of a `case` and their patterns.
use Rattle.std.proofs.Common.{◌≡◌, ℕ, ◌+◌, List, [], ◌∷◌, Some, None, if◌then◌else◌, refl, sym, ap, subst, ◌∙◌}
use Rattle.std.specs.declared.rc.Rc.{Rc}
use Rattle.std.specs.declared.alloc.Global.{Global}
use Rattle.rk_base.specs.Text.{Text}
use Rattle.rk_calls.specs.declared.answer.Answer.TheVariants.{Go}
use Rattle.sh_ast.specs.Commands as tree
use Rattle.sh_ast.specs.Lists.{word_at, case_item_at}
use Rattle.sh_ast.specs.declared.command.CaseItem.{CaseItem, out-CaseItem}
use Rattle.sh_ast.specs.declared.command.CaseItems.{CaseItems}
use Rattle.sh_ast.specs.declared.command.CommandList.{CommandList}
use Rattle.sh_ast.specs.declared.command.Word.{Word}
use Rattle.sh_ast.specs.declared.command.Words.{Words}
use Rattle.sh_pattern.specs.Decided.{is_matched}
use Rattle.sh_expand.specs.declared.mode.Mode.TheVariants as mode
use Rattle.sh_means.specs.declared.control.Aim.TheVariants as aim
use Rattle.sh_means.specs.declared.control.PendingCase.{PendingCase}
use Rattle.sh_means.specs.declared.control.Control.{Control}
use Rattle.sh_means.specs.declared.flow.Flow.TheVariants.{Normal}
use Rattle.sh_means.specs.declared.flow.Place.{Place}
use Rattle.sh_means.specs.Compound.{CaseMeant, case_patterns, case_items}
use Rattle.sh_means.specs.Eval.{word_in, words_in}
use Rattle.sh_means.specs.Flows.{Next, ends}
use Rattle.sh_means.specs.Run.{run}
use Rattle.sh_means.specs.Stack.{items_from, case_from, case_body, casing, aimed, resumed, whole}
use Rattle.sh_means.specs.State.{Shell}
use Rattle.sh_means.specs.Words.{WordMeant, expand_word, value_of}
use Rattle.sh_means.proofs.Begun.{Begins}
use Rattle.sh_means.proofs.Folding.{item_is}
use Rattle.sh_means.proofs.Places.{items_some, items_none, words_some, words_none, item_meant}

items_again : (cs : List CaseMeant) (value : Text) (pl : Place) (k : Next) (e : Shell) (p : ℕ) → case_items cs value pl k e p ≡ case_from cs 0 value pl k e p
items_again [] value pl k e p = refl
items_again (c ∷ cs) value pl k e p = refl

item_of : CaseItem → CaseMeant
item_of x = record { patterns = words_in run (tree.words (out-CaseItem x).patterns.value); body = whole (out-CaseItem x).body.value }

from_item : (c : PendingCase) (is : CaseItems) (x : CaseItem) → is ≡ c.items.value → Some (tree.case_item x) ≡ case_item_at (tree.case_items is) c.at → items_from c.items.value c.at ≡ item_of x ∷ items_from c.items.value (c.at + 1)
unfolding item_of
from_item c is x hs h =
    items_some (tree.case_items c.items.value) c.at (tree.case_item x) (subst (λ (is : CaseItems). Some (tree.case_item x) ≡ case_item_at (tree.case_items is) c.at) hs h)
    ∙ ap (λ (t : tree.CaseItemTree). item_meant t ∷ items_from c.items.value (c.at + 1)) (item_is x)

pub items_over : (c : PendingCase) (is : CaseItems) (pl : Place) (k : Next) (e : Shell) (p : ℕ) → is ≡ c.items.value → None ≡ case_item_at (tree.case_items is) c.at → casing c c.pattern pl k e p ≡ ends Normal 0 k e p
items_over c is pl k e p hs h =
    ap (λ (L : List CaseMeant). case_from L c.pattern c.value pl k e p) (items_none (tree.case_items c.items.value) c.at (subst (λ (is : CaseItems). None ≡ case_item_at (tree.case_items is) c.at) hs h))

pub patterns_over : (c : PendingCase) (is : CaseItems) (x : CaseItem) (ws : Words) (pl : Place) (k : Next) (e : Shell) (p : ℕ) → is ≡ c.items.value → Some (tree.case_item x) ≡ case_item_at (tree.case_items is) c.at → ws ≡ (out-CaseItem x).patterns.value → None ≡ word_at (tree.words ws) c.pattern → casing c c.pattern pl k e p ≡ casing (record c { at = c.at + 1; pattern = 0 }) 0 pl k e p
unfolding item_of
patterns_over c is x ws pl k e p hs h hw hn =
    let rest = items_from c.items.value (c.at + 1) in
    ap (λ (L : List CaseMeant). case_from L c.pattern c.value pl k e p) (from_item c is x hs h)
    ∙ ap (λ (ms : List WordMeant). case_patterns ms (whole (out-CaseItem x).body.value) (case_items rest c.value pl k) c.value pl k e p) (words_none (tree.words (out-CaseItem x).patterns.value) c.pattern (subst (λ (ws : Words). None ≡ word_at (tree.words ws) c.pattern) hw hn))
    ∙ items_again rest c.value pl k e p

pub pattern_begun : (c : PendingCase) (is : CaseItems) (x : CaseItem) (ws : Words) (w : Word) (w' : Rc Word Global) (ctl : Control) (pl : Place) (k : Next) (e : Shell) (p : ℕ) → is ≡ c.items.value → Some (tree.case_item x) ≡ case_item_at (tree.case_items is) c.at → ws ≡ (out-CaseItem x).patterns.value → Some (tree.word w) ≡ word_at (tree.words ws) c.pattern → w'.value ≡ w → Begins mode.Pattern w'.value pl (aim.Pattern (record c { pattern = c.pattern + 1 })) ctl → casing c c.pattern pl k e p ≡ resumed ctl k Go e p
unfolding item_of
pattern_begun c is x ws w w' ctl pl k e p hs h hw hp hv b =
    let rest = items_from c.items.value (c.at + 1) in
    let hL = from_item c is x hs h in
    ap (λ (L : List CaseMeant). case_from L c.pattern c.value pl k e p) hL
    ∙ ap (λ (ms : List WordMeant). case_patterns ms (whole (out-CaseItem x).body.value) (case_items rest c.value pl k) c.value pl k e p) (words_some (tree.words (out-CaseItem x).patterns.value) c.pattern (tree.word w) (subst (λ (ws : Words). Some (tree.word w) ≡ word_at (tree.words ws) c.pattern) hw hp))
    ∙ ap (λ (L : List CaseMeant). expand_word mode.Pattern (word_in run (tree.word w)) pl (λ t e. if is_matched (value_of t) c.value then case_body L pl e k else case_from L (c.pattern + 1) c.value pl k e) k e p) (sym hL)
    ∙ ap (λ (v : Word). expand_word mode.Pattern (word_in run (tree.word v)) pl (aimed (aim.Pattern (record c { pattern = c.pattern + 1 })) pl k) k e p) (sym hv)
    ∙ b k e p

pub body_matched : (c : PendingCase) (is : CaseItems) (x : CaseItem) (b : Rc CommandList Global) (pl : Place) (k : Next) (e : Shell) (p : ℕ) → is ≡ c.items.value → Some (tree.case_item x) ≡ case_item_at (tree.case_items is) c.at → b.value ≡ (out-CaseItem x).body.value → case_body (items_from c.items.value c.at) pl e k p ≡ whole b.value pl e k p
unfolding item_of
body_matched c is x b pl k e p hs h hb =
    ap (λ (L : List CaseMeant). case_body L pl e k p) (from_item c is x hs h) ∙ ap (λ (l : CommandList). whole l pl e k p) (sym hb)

pub none_matched : (c : PendingCase) (is : CaseItems) (pl : Place) (k : Next) (e : Shell) (p : ℕ) → is ≡ c.items.value → None ≡ case_item_at (tree.case_items is) c.at → case_body (items_from c.items.value c.at) pl e k p ≡ k Normal e p
none_matched c is pl k e p hs h =
    ap (λ (L : List CaseMeant). case_body L pl e k p) (items_none (tree.case_items c.items.value) c.at (subst (λ (is : CaseItems). None ≡ case_item_at (tree.case_items is) c.at) hs h))
