-- What is left to do without cost, as syntax is passed, frames are put and turns are taken.
use Rattle.std.proofs.Common.{Result, Ok, Err, IfOk, OnOk, IfSome, ◌≡◌, ◌≤◌, ◌<◌, ℕ, zero, suc, ◌+◌, ◌-◌, ◌*◌, List, [], ◌∷◌, ◌++◌, length, Option, Some, None, refl, sym, ap, subst, ◌∙◌, arith}
use Rattle.std.proofs.lemmas.List.Sums.{sum_by_push}
use Rattle.std.proofs.lemmas.Option.{slice_get_within}
use Rattle.std.specs.List.{slice_get}
use Rattle.std.specs.Option.{option_to_list}
use Rattle.std.specs.declared.rc.Rc.{Rc}
use Rattle.std.specs.declared.alloc.Global.{Global}
use Rattle.rk_base.specs.Text.{Text}
use Rattle.rk_calls.specs.declared.call.Call.{Call}
use Rattle.rk_calls.specs.declared.turn.Turn.TheVariants as turn
use Rattle.sh_ast.specs.Commands as tree
use Rattle.sh_ast.specs.Lists.{word_at, redirect_at, assignment_at, branch_at, case_item_at}
use Rattle.sh_ast.specs.declared.command.Assignments.{Assignments}
use Rattle.sh_ast.specs.declared.command.Branches.{Branches}
use Rattle.sh_ast.specs.declared.command.CaseItem.{CaseItem, out-CaseItem}
use Rattle.sh_ast.specs.declared.command.CaseItems.{CaseItems}
use Rattle.sh_ast.specs.declared.command.CommandList.{CommandList}
use Rattle.sh_ast.specs.declared.command.Compound as a_compound
use Rattle.sh_ast.specs.declared.command.Connector.{Connector}
use Rattle.sh_ast.specs.declared.command.Connectors.{Connectors}
use Rattle.sh_ast.specs.declared.command.LoopKind.{LoopKind}
use Rattle.sh_ast.specs.declared.command.Redirects.{Redirects}
use Rattle.sh_ast.specs.declared.command.SimpleCommand.{SimpleCommand, out-SimpleCommand}
use Rattle.sh_ast.specs.declared.command.Word.{Word}
use Rattle.sh_ast.specs.declared.command.Words.{Words}
use Rattle.sh_expand.specs.Turns.{bodies_due}
use Rattle.sh_expand.specs.declared.expander.Expander.{Expander}
use Rattle.sh_means.specs.declared.control.Acted.{Acted}
use Rattle.sh_means.specs.declared.control.Aim.{Aim}
use Rattle.sh_means.specs.declared.control.Control.{Control}
use Rattle.sh_means.specs.declared.control.Frame.{Frame}
use Rattle.sh_means.specs.declared.control.PendingWord.{PendingWord}
use Rattle.sh_means.specs.declared.flow.Place.{Place}
use Rattle.sh_means.specs.Stack.{IsStep}
use Rattle.sh_means.specs.Trees.{for_words_of}
use Rattle.sh_means.specs.Weights.{count_words, count_redirects, count_assignments, count_branches, words_left, redirects_left, assignments_left, branches_left, weigh_items, weigh_items_from, items_left, weigh_for, weigh_compound_tree, weigh_compound, weigh_command, weigh_aim, weigh_word, weigh, weigh_frame, weigh_all, IsFree, Falls, Pays, Sinks, Lowers}
use Rattle.sh_means.proofs.Folding.{item_is, a_group_is, a_subshell_is, a_for_is, a_case_is, an_if_is, a_loop_is}

-- Turns.

pub falls_free : (m n c : ℕ) (ctl : Control) → weigh ctl + n < m → Falls m n (record { turn = turn.More c; control = ctl })
unfolding Falls
falls_free m n c ctl h = (tt, λ free. h)

pub falls_paid : (m n c : ℕ) (ctl : Control) → 1 ≤ c → Falls m n (record { turn = turn.More c; control = ctl })
unfolding Falls
falls_paid m n c ctl h = (tt, λ free. absurd (omega arith))

pub falls_asked : (m n : ℕ) (call : Call) (c : ℕ) (ctl : Control) → 1 ≤ c → Falls m n (record { turn = turn.Ask call c; control = ctl })
unfolding Falls
falls_asked m n call c ctl h = (h, λ free. absurd free)

pub falls_over : (m n status c : ℕ) (ctl : Control) → Falls m n (record { turn = turn.Exit status c; control = ctl })
unfolding Falls
falls_over m n status c ctl = (tt, λ free. absurd free)

pub falls_step : (m n : ℕ) (t : Acted) → Falls m n t → IsStep t.turn
unfolding Falls
falls_step m n t h = h.0

pub falls_less : (m n : ℕ) (t : Acted) → Falls m n t → IsFree t.turn → weigh t.control + n < m
unfolding Falls
falls_less m n t h free = h.1 free

-- A step that falls from one weight does from a greater one.

pub lowers_more : {E : Type 0} (r : Result Acted E) (w w' : ℕ) (fs gs fs' : List Frame) → IfOk r (Lowers w fs fs') → w + weigh_all fs ≤ w' + weigh_all gs → IfOk r (Lowers w' gs fs')
lowers_more (Ok t) w w' fs gs fs' h le = λ m b. h m (omega arith)
lowers_more (Err x) w w' fs gs fs' h le = tt

pub sinks_lower : {E : Type 0} (r : Result Acted E) (w w' : ℕ) (fs : List Frame) → IfOk r (Sinks w) → w ≤ w' → IfOk r (Lowers w' fs fs)
sinks_lower (Ok t) w w' fs h le = λ m b. h m (weigh_all fs) (omega arith)
sinks_lower (Err x) w w' fs h le = tt

pub pays_lower : {E : Type 0} (r : Result Acted E) (w : ℕ) (fs fs' : List Frame) → IfOk r Pays → IfOk r (Lowers w fs fs')
pays_lower (Ok t) w fs fs' h = λ m b. h m (weigh_all fs')
pays_lower (Err x) w fs fs' h = tt

pub sinks_more : {E : Type 0} (r : Result Acted E) (w w' : ℕ) → IfOk r (Sinks w) → w ≤ w' → IfOk r (Sinks w')
sinks_more (Ok t) w w' h le = λ m n b. h m n (omega arith)
sinks_more (Err x) w w' h le = tt

pub pays_sinks : {E : Type 0} (r : Result Acted E) (w : ℕ) → IfOk r Pays → IfOk r (Sinks w)
pays_sinks (Ok t) w h = λ m n b. h m n
pays_sinks (Err x) w h = tt

-- a frame that is put
pub one_more : {T E : Type 0} (r : Result T E) (x y : ℕ) → OnOk r (x ≡ y + 1) → OnOk r (x ≤ y + 1)
one_more (Ok t) x y h = omega arith
one_more (Err e) x y h = tt

-- Frames.

pub push_weighs : (fs : List Frame) (f : Frame) → weigh_all (fs ++ f ∷ []) ≡ weigh_all fs + weigh_frame f
unfolding weigh_all
push_weighs fs f = sum_by_push weigh_frame fs f

pub pushed_weighs : (fs fs' : List Frame) (f : Frame) → fs' ≡ fs ++ f ∷ [] → weigh_all fs' ≡ weigh_all fs + weigh_frame f
pushed_weighs fs fs' f is = ap weigh_all is ∙ push_weighs fs f

pub popped_weighs : (o : Option Frame) (fs fs' : List Frame) → fs ≡ fs' ++ option_to_list o → IfSome o (λ f. weigh_all fs ≡ weigh_all fs' + weigh_frame f)
popped_weighs None fs fs' h = tt
popped_weighs (Some f) fs fs' h = pushed_weighs fs' fs f h

-- Words, redirections, assignments and branches, one less at each.

words_below : (t : tree.WordsTree) (n : ℕ) (w : tree.WordTree) → Some w ≡ word_at t n → n < count_words t
words_below tree.no_words n w h = absurd (cc)
words_below (tree.word_and x t) zero w h = omega arith
words_below (tree.word_and x t) (suc n) w h = let r : n < count_words t = words_below t n w h in omega arith

pub word_less : (ws' ws : Words) (n : ℕ) (w : tree.WordTree) → ws' ≡ ws → Some w ≡ word_at (tree.words ws') n → words_left ws n ≡ words_left ws (n + 1) + 1
unfolding words_left
word_less ws' ws n w hs h =
    let r : n < count_words (tree.words ws) = words_below (tree.words ws) n w (subst (λ (v : Words). Some w ≡ word_at (tree.words v) n) hs h) in
    omega arith

redirects_below : (t : tree.RedirectsTree) (n : ℕ) (r : tree.RedirectTree) → Some r ≡ redirect_at t n → n < count_redirects t
redirects_below tree.no_redirects n r h = absurd (cc)
redirects_below (tree.redirect_and d operator operand t) zero r h = omega arith
redirects_below (tree.redirect_and d operator operand t) (suc n) r h = let b : n < count_redirects t = redirects_below t n r h in omega arith

pub redirect_less : (rs' rs : Redirects) (n : ℕ) (r : tree.RedirectTree) → rs' ≡ rs → Some r ≡ redirect_at (tree.redirects rs') n → redirects_left rs n ≡ redirects_left rs (n + 1) + 1
unfolding redirects_left
redirect_less rs' rs n r hs h =
    let b : n < count_redirects (tree.redirects rs) = redirects_below (tree.redirects rs) n r (subst (λ (v : Redirects). Some r ≡ redirect_at (tree.redirects v) n) hs h) in
    omega arith

assignments_below : (t : tree.AssignmentsTree) (n : ℕ) (a : tree.AssignmentTree) → Some a ≡ assignment_at t n → n < count_assignments t
assignments_below tree.no_assignments n a h = absurd (cc)
assignments_below (tree.assignment_and name value t) zero a h = omega arith
assignments_below (tree.assignment_and name value t) (suc n) a h = let r : n < count_assignments t = assignments_below t n a h in omega arith

pub assignment_less : (as'' as' : Assignments) (n : ℕ) (a : tree.AssignmentTree) → as'' ≡ as' → Some a ≡ assignment_at (tree.assignments as'') n → assignments_left as' n ≡ assignments_left as' (n + 1) + 1
unfolding assignments_left
assignment_less as'' as' n a hs h =
    let r : n < count_assignments (tree.assignments as') = assignments_below (tree.assignments as') n a (subst (λ (v : Assignments). Some a ≡ assignment_at (tree.assignments v) n) hs h) in
    omega arith

branches_below : (t : tree.BranchesTree) (n : ℕ) (b : tree.BranchTree) → Some b ≡ branch_at t n → n < count_branches t
branches_below tree.no_branches n b h = absurd (cc)
branches_below (tree.branch_and condition body t) zero b h = omega arith
branches_below (tree.branch_and condition body t) (suc n) b h = let r : n < count_branches t = branches_below t n b h in omega arith

pub branch_less : (bs' bs : Branches) (n : ℕ) (b : tree.BranchTree) → bs' ≡ bs → Some b ≡ branch_at (tree.branches bs') n → branches_left bs n ≡ branches_left bs (n + 1) + 1
unfolding branches_left
branch_less bs' bs n b hs h =
    let r : n < count_branches (tree.branches bs) = branches_below (tree.branches bs) n b (subst (λ (v : Branches). Some b ≡ branch_at (tree.branches v) n) hs h) in
    omega arith

pub branches_same : (bs bs' : Branches) (n : ℕ) → bs ≡ bs' → branches_left bs n ≡ branches_left bs' n
branches_same bs bs' n h = ap (λ (v : Branches). branches_left v n) h

pub connector_less : (os os' : Connectors) (x : Connector) (n m : ℕ) → os' ≡ os → m ≡ n + 1 → Some x ≡ slice_get os.items.items n → 2 * (length os'.items.items - m) + 2 ≤ 2 * (length os.items.items - n)
connector_less os os' x n m hs hm h =
    let r : n < length os.items.items = slice_get_within os.items.items n x (sym h) in
    let same : length os'.items.items ≡ length os.items.items = ap (λ (o : Connectors). length o.items.items) hs in
    omega arith

-- The items of a `case`.

items_begun : (t : tree.CaseItemsTree) → weigh_items_from t 0 0 ≡ weigh_items t
items_begun tree.no_case_items = refl
items_begun (tree.case_item_and patterns body t) = omega arith

item_passed : (t : tree.CaseItemsTree) (n j : ℕ) (x : tree.CaseItemTree) → Some x ≡ case_item_at t n → weigh_items_from t (suc n) 0 < weigh_items_from t n j
item_passed tree.no_case_items n j x h = absurd (cc)
item_passed (tree.case_item_and patterns body t) zero j x h = let b : weigh_items_from t 0 0 ≡ weigh_items t = items_begun t in omega arith
item_passed (tree.case_item_and patterns body t) (suc n) j x h = item_passed t n j x h

pattern_passed : (t : tree.CaseItemsTree) (n j : ℕ) (x : tree.CaseItemTree) (w : tree.WordTree) → Some x ≡ case_item_at t n → Some w ≡ word_at x.patterns j → weigh_items_from t n (j + 1) + 10 ≤ weigh_items_from t n j
pattern_passed tree.no_case_items n j x w h hw = absurd (cc)
pattern_passed (tree.case_item_and patterns body t) zero j x w h hw =
    let same : x ≡ record { patterns = patterns; body = body } = cc in
    let r : j < count_words patterns = words_below patterns j w (subst (λ (y : tree.CaseItemTree). Some w ≡ word_at y.patterns j) same hw) in
    omega arith
pattern_passed (tree.case_item_and patterns body t) (suc n) j x w h hw = pattern_passed t n j x w h hw

pub item_less : (is' is : CaseItems) (n m j : ℕ) (x : tree.CaseItemTree) → m ≡ suc n → is' ≡ is → Some x ≡ case_item_at (tree.case_items is') n → items_left is m 0 < items_left is n j
unfolding items_left
item_less is' is n m j x hm hs h =
    subst (λ (m : ℕ). weigh_items_from (tree.case_items is) m 0 < weigh_items_from (tree.case_items is) n j) (sym hm) (item_passed (tree.case_items is) n j x (subst (λ (v : CaseItems). Some x ≡ case_item_at (tree.case_items v) n) hs h))

pub pattern_less : (is' is : CaseItems) (n j : ℕ) (x : CaseItem) (ws : Words) (w : tree.WordTree) → is' ≡ is → Some (tree.case_item x) ≡ case_item_at (tree.case_items is') n → ws ≡ (out-CaseItem x).patterns.value → Some w ≡ word_at (tree.words ws) j → items_left is n (j + 1) + 10 ≤ items_left is n j
unfolding items_left
pattern_less is' is n j x ws w hs h hw hp =
    pattern_passed (tree.case_items is) n j (tree.case_item x) w (subst (λ (v : CaseItems). Some (tree.case_item x) ≡ case_item_at (tree.case_items v) n) hs h)
    (subst (λ (y : tree.CaseItemTree). Some w ≡ word_at y.patterns j) (sym (item_is x)) (subst (λ (v : Words). Some w ≡ word_at (tree.words v) j) hw hp))

-- Compound commands.

pub group_weighs : (l : Rc CommandList Global) → weigh_compound (a_compound.Group l) ≡ 2
unfolding weigh_compound
group_weighs l = ap weigh_compound_tree (a_group_is l)

pub subshell_weighs : (l : Rc CommandList Global) → weigh_compound (a_compound.Subshell l) ≡ 4
unfolding weigh_compound
subshell_weighs l = ap weigh_compound_tree (a_subshell_is l)

pub for_weighs : (name : Text) (words : Option (Rc Words Global)) (body : Rc CommandList Global) → weigh_compound (a_compound.For name words body) ≡ weigh_for (for_words_of words) + 1
unfolding weigh_compound
for_weighs name words body = ap weigh_compound_tree (a_for_is name words body)

pub case_weighs : (w : Rc Word Global) (is : Rc CaseItems Global) → weigh_compound (a_compound.Case w is) ≡ items_left is.value 0 0 + 9
unfolding weigh_compound items_left
case_weighs w is = ap weigh_compound_tree (a_case_is w is) ∙ ap (λ (n : ℕ). n + 9) (sym (items_begun (tree.case_items is.value)))

pub if_weighs : (bs : Rc Branches Global) (otherwise : Rc CommandList Global) → weigh_compound (a_compound.If bs otherwise) ≡ 3 * branches_left bs.value 0 + 3
unfolding weigh_compound branches_left
if_weighs bs otherwise =
    let h : weigh_compound_tree (tree.compound (a_compound.If bs otherwise)) ≡ 3 * count_branches (tree.branches bs.value) + 3 = ap weigh_compound_tree (an_if_is bs otherwise) in
    omega arith

pub loop_weighs : (kind : LoopKind) (condition body : Rc CommandList Global) → weigh_compound (a_compound.Loop kind condition body) ≡ 1
unfolding weigh_compound
loop_weighs kind condition body = ap weigh_compound_tree (a_loop_is kind condition body)

-- the words of a `for`
pub for_words_weigh : (ws ws' : Words) → ws' ≡ ws → 10 * words_left ws' 0 + 3 ≡ weigh_for (tree.in_words (tree.words ws))
unfolding words_left
for_words_weigh ws ws' h =
    let same : count_words (tree.words ws') ≡ count_words (tree.words ws) = ap (λ (v : Words). count_words (tree.words v)) h in
    omega arith

-- what is behind the words of a simple command
pub command_weighs : (x : SimpleCommand) (rs : Redirects) (as' : Assignments) → rs ≡ (out-SimpleCommand x).redirects.value → as' ≡ (out-SimpleCommand x).assignments.value → 10 * redirects_left rs 0 + (10 * assignments_left as' 0 + 7) ≡ weigh_command x
unfolding weigh_command
command_weighs x rs as' hr ha =
    ap (λ (v : Redirects). 10 * redirects_left v 0 + (10 * assignments_left as' 0 + 7)) hr
    ∙ ap (λ (v : Assignments). 10 * redirects_left (out-SimpleCommand x).redirects.value 0 + (10 * assignments_left v 0 + 7)) ha

-- Words half expanded.

pub word_begun : (w : PendingWord) (x : Expander) (word : Rc Word Global) (pl : Place) (u : Aim) → w ≡ record { expander = x; word = word; place = pl; aim = u } → bodies_due x ≤ 1 → weigh_word w ≤ weigh_aim u + 5
word_begun w x word pl u is due =
    subst (λ (w : PendingWord). weigh_word w ≤ weigh_aim u + 5) (sym is) (omega arith)
