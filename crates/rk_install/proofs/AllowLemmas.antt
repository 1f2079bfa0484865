-- A folder that allows the calls of a list allows them sealed.
use Rattle.std.proofs.Common.{◌≡◌, ◌⊎◌, inl, inr, List, [], ◌∷◌, Bool, true, false, not, ◌&&◌, ◌||◌, cond, nat_lt, Option, Some, None, refl, sym, ap, subst, ◌∙◌}
use Rattle.std.specs.List.{list_all, list_any}
use Rattle.std.specs.Ordering.{eq_by_cmp}
use Rattle.rk_base.specs.Text.{Text, text_cmp, is_root, is_within, join, name_of, parent, root, same_text}
use Rattle.rk_base.specs.Canonical.{is_canonical, is_empty}
use Rattle.rk_base.proofs.CanonicalLemmas.{both, denied}
use Rattle.rk_base.proofs.PathLemmas.{is_in-is, path-is_cut}
use Rattle.rk_base.proofs.WithinLemmas.{within-down, within-join}
use Rattle.rk_tree.proofs.TextLemmas.{hidden-back, same_is, same_itself, ties_itself, told_apart}
use Rattle.rk_folder.specs.Hidden.{hidden_dir, attrs_file, db_file, install_file, fresh_list_file}
use Rattle.rk_folder.specs.Told.{Held, can_hold, can_make_dir, can_rename, can_write, is_dir, is_file, is_file_or_nothing, is_nothing, is_odd, items_of, standing, with_standing}
use Rattle.rk_folder.specs.Whole.{IsWhole}
use Rattle.rk_folder.specs.declared.folder.Standing.{Standing}
use Rattle.rk_folder.specs.declared.folder.Standing.TheVariants.{File, Dir, Special}
use Rattle.rk_folder.proofs.HeldLemmas.{empty_holds_none, empty_not_odd, same_path, standing-with, standing-without}
use Rattle.rk_seal.specs.Ops.{group, is_call, path_of}
use Rattle.rk_seal.specs.Spelling.{install_spelling}
use Rattle.rk_seal.specs.declared.ops.Op.{Op}
use Rattle.rk_seal.specs.declared.ops.Op.TheVariants.{RemoveFile, RemoveDir, MakeDir, Write}
use Rattle.rk_install.specs.Calls.{AllowsAll, after_all, allowed, left_by, step}
use Rattle.rk_install.specs.Install.{Allows, AllowsSeal, Leaves, MayInstall, drafted, installed, makes_hidden, others, rooted, sealed}
use Rattle.rk_install.proofs.HalfwayLemmas.{unempty, whole-step}
use Rattle.rk_install.proofs.InstallLemmas.{StandsHidden, at_sealed, draft_stands, hidden_kept, hidden_making, sealed_as, sealed-hidden, sealed-list, sealed-whole}
use Rattle.rk_install.proofs.SealLemmas.{bytes_file, call_parts, each-call}
use Rattle.rk_install.proofs.StepLemmas.{odd-step, standing-step}

clash : (b : Bool) → b ≡ true → b ≡ false → ⊥
clash b t f = cc

-- Where a call may be.

abbrev IsPlace : Text → Type 0
IsPlace q = (is_within hidden_dir q ≡ false) ⊎ ((q ≡ attrs_file) ⊎ (q ≡ db_file))

lands : (b c : Bool) → (not b || c) ≡ true → b ≡ true → c ≡ true
lands true c h e = h
lands false c h e = cc

removed_place : (path : Text) → nat_lt 2 (cond (same_text path attrs_file) 4 0) ≡ true → path ≡ attrs_file
removed_place path h = by (same_text path attrs_file) refl h where
  by : (b : Bool) → same_text path attrs_file ≡ b → nat_lt 2 (cond b 4 0) ≡ true → path ≡ attrs_file
  by true e k = same_is path attrs_file e
  by false e k = cc

written_place : (path : Text) → nat_lt 2 (cond (same_text path attrs_file) 4 (cond (same_text path db_file) 5 2)) ≡ true → (path ≡ attrs_file) ⊎ (path ≡ db_file)
written_place path h = by (same_text path attrs_file) (same_text path db_file) refl refl h where
  by : (a d : Bool) → same_text path attrs_file ≡ a → same_text path db_file ≡ d → nat_lt 2 (cond a 4 (cond d 5 2)) ≡ true → (path ≡ attrs_file) ⊎ (path ≡ db_file)
  by true d e f k = inl (same_is path attrs_file e)
  by false true e f k = inr (same_is path db_file f)
  by false false e f k = cc

made_place : (path : Text) → same_text path hidden_dir ≡ false → nat_lt 2 (cond (same_text path hidden_dir) 3 1) ≡ true → ⊥
made_place path other h = by (same_text path hidden_dir) other h where
  by : (b : Bool) → b ≡ false → nat_lt 2 (cond b 3 1) ≡ true → ⊥
  by true e k = cc
  by false e k = cc

no_group : nat_lt 2 0 ≡ true → ⊥
no_group h = cc

inside : (op : Op) → makes_hidden op ≡ false → nat_lt 2 (group op) ≡ true → (path_of op ≡ attrs_file) ⊎ (path_of op ≡ db_file)
inside (RemoveFile path) other h = inl (removed_place path h)
inside (RemoveDir path) other h = absurd (no_group h)
inside (MakeDir path) other h = absurd (made_place path other h)
inside (Write path bytes) other h = written_place path h

place_of : (op : Op) → is_call op ≡ true → makes_hidden op ≡ false → IsPlace (path_of op)
place_of op h other = by (is_within hidden_dir (path_of op)) refl where
  by : (b : Bool) → is_within hidden_dir (path_of op) ≡ b → IsPlace (path_of op)
  by true e = inr (inside op other (lands (is_within hidden_dir (path_of op)) (nat_lt 2 (group op)) (call_parts op h).1 e))
  by false e = inl e

hidden-inside : is_within hidden_dir hidden_dir ≡ true
unfolding is_within join
hidden-inside = refl

attrs_not_hidden : same_text attrs_file hidden_dir ≡ false
unfolding join
attrs_not_hidden = refl

db_not_hidden : same_text db_file hidden_dir ≡ false
unfolding join
db_not_hidden = refl

install_not_hidden : same_text install_file hidden_dir ≡ false
unfolding join
install_not_hidden = refl

fresh_not_hidden : same_text fresh_list_file hidden_dir ≡ false
unfolding join
fresh_not_hidden = refl

attrs_not_fresh : same_text attrs_file fresh_list_file ≡ false
unfolding join
attrs_not_fresh = refl

db_not_fresh : same_text db_file fresh_list_file ≡ false
unfolding join
db_not_fresh = refl

attrs_not_install : same_text attrs_file install_file ≡ false
unfolding join
attrs_not_install = refl

db_not_install : same_text db_file install_file ≡ false
unfolding join
db_not_install = refl

install-inside : is_within hidden_dir install_file ≡ true
unfolding is_within join
install-inside = refl

fresh-inside : is_within hidden_dir fresh_list_file ≡ true
unfolding is_within join
fresh-inside = refl

apart : (a b : Text) → same_text a b ≡ false → a ≡ b → ⊥
apart a b other same = clash (same_text a b) (ap (same_text a) (sym same) ∙ same_itself a) other

not_there : (q other : Text) → is_within hidden_dir other ≡ true → is_within hidden_dir q ≡ false → q ≡ other → ⊥
not_there q other inside out same = clash _ (ap (is_within hidden_dir) same ∙ inside) out

-- Two folders that agree but for the hidden directory, which stands in the second, and the two places of a list.

abbrev IsElse : Text → Type 0
IsElse q = (q ≡ hidden_dir → ⊥) × (q ≡ install_file → ⊥) × (q ≡ fresh_list_file → ⊥)

record Agree (held sealed : Held) : Type 0 where
  elsewhere : (q : Text) → IsElse q → standing sealed q ≡ standing held q
  hidden : standing sealed hidden_dir ≡ Some Dir
  odd : sealed.odd ≡ held.odd

-- they agree where a call may be
else_of : (q : Text) → IsPlace q → IsElse q
else_of q (inl out) = (not_there q hidden_dir hidden-inside out, not_there q install_file install-inside out, not_there q fresh_list_file fresh-inside out)
else_of q (inr (inl a)) = (λ at. apart attrs_file hidden_dir attrs_not_hidden (sym a ∙ at), λ at. apart attrs_file install_file attrs_not_install (sym a ∙ at), λ at. apart attrs_file fresh_list_file attrs_not_fresh (sym a ∙ at))
else_of q (inr (inr d)) = (λ at. apart db_file hidden_dir db_not_hidden (sym d ∙ at), λ at. apart db_file install_file db_not_install (sym d ∙ at), λ at. apart db_file fresh_list_file db_not_fresh (sym d ∙ at))

same_at : (held sealed : Held) (q : Text) → Agree held sealed → IsPlace q → standing sealed q ≡ standing held q
same_at held sealed q agree place = agree.elsewhere q (else_of q place)

-- what a path outside stands in is outside
out_parent : (path : Text) → is_canonical path ≡ true → is_root path ≡ false → is_within hidden_dir path ≡ false → is_within hidden_dir (parent path) ≡ false
out_parent path c r out = by (is_within hidden_dir (parent path)) refl where
  by : (b : Bool) → is_within hidden_dir (parent path) ≡ b → is_within hidden_dir (parent path) ≡ false
  by true e = absurd (clash _ (ap (is_within hidden_dir) (sym (path-is_cut path c r).whole) ∙ within-down hidden_dir (parent path) (name_of path) e) out)
  by false e = e

hidden-parent : parent hidden_dir ≡ root
unfolding parent join
hidden-parent = refl

attrs-parent : parent attrs_file ≡ hidden_dir
unfolding parent join
attrs-parent = refl

db-parent : parent db_file ≡ hidden_dir
unfolding parent join
db-parent = refl

-- and so is what stands in a directory outside that isn't the root
out_child : (dir q : Text) → is_canonical q ≡ true → is_root q ≡ false → parent q ≡ dir → is_root dir ≡ false → is_within hidden_dir dir ≡ false → is_within hidden_dir q ≡ false
out_child dir q c r at below out = by (is_within hidden_dir q) refl where
  by : (b : Bool) → is_within hidden_dir q ≡ b → is_within hidden_dir q ≡ false
  by true e =
      let cut = path-is_cut q c r in
      elim (within-join hidden_dir (parent q) (name_of q) hidden-back cut.dir cut.name (ap (is_within hidden_dir) cut.whole ∙ e)) [
        | inl same ↦ absurd (clash (is_root dir) (ap is_root (sym at ∙ ap parent (sym cut.whole ∙ same) ∙ hidden-parent) ∙ same_itself root) below)
        | inr above ↦ absurd (clash _ (ap (is_within hidden_dir) (sym at) ∙ above) out)
      ]
  by false e = e

hold_more : (o : Option Standing) (b : Bool) → can_hold o b ≡ true → can_hold o true ≡ true
hold_more None b h = refl
hold_more (Some (File bytes)) b h = refl
hold_more (Some Dir) b h = cc
hold_more (Some Special) b h = cc

empty_too : (held sealed : Held) (path : Text) → Agree held sealed → IsWhole sealed → is_root path ≡ false → is_within hidden_dir path ≡ false → is_empty (items_of held path) ≡ true → is_empty (items_of sealed path) ≡ true
empty_too held sealed path agree whole below out none = by (is_empty (items_of sealed path)) refl where
  by : (b : Bool) → is_empty (items_of sealed path) ≡ b → is_empty (items_of sealed path) ≡ true
  by true e = e
  by false e = absurd (unempty sealed path e (ap (is_odd path) agree.odd ∙ empty_not_odd path held none) (λ q at some.
      let in_dir = is_in-is path q at in
      clash _ (ap is_nothing (same_at held sealed q agree (inl (out_child path q (whole.paths q some) in_dir.0 in_dir.1 below out))) ∙ empty_holds_none path q held none at) some))

state_within : (path : Text) → (path ≡ attrs_file) ⊎ (path ≡ db_file) → is_within hidden_dir path ≡ true
unfolding is_within join
state_within path (inl a) = ap (is_within hidden_dir) a
state_within path (inr d) = ap (is_within hidden_dir) d

allowed_too : (op : Op) (held sealed : Held) → is_call op ≡ true → makes_hidden op ≡ false → Agree held sealed → IsWhole sealed → allowed op held ≡ true → allowed op sealed ≡ true
allowed_too (RemoveFile path) held sealed call other agree whole may = ap is_file (same_at held sealed path agree (place_of (RemoveFile path) call other)) ∙ may
allowed_too (RemoveDir path) held sealed call other agree whole may =
    let m = both (is_dir (standing held path) && not (is_root path)) (is_empty (items_of held path)) may in
    let d = both (is_dir (standing held path)) (not (is_root path)) m.0 in
    dirs (place_of (RemoveDir path) call other) d.0 d.1 m.1 where
      all_three : (a b c : Bool) → a ≡ true → b ≡ true → c ≡ true → (a && b && c) ≡ true
      all_three true true c x y z = z
      all_three true false c x y z = cc
      all_three false b c x y z = cc

      dirs : IsPlace path → is_dir (standing held path) ≡ true → not (is_root path) ≡ true → is_empty (items_of held path) ≡ true → (is_dir (standing sealed path) && not (is_root path) && is_empty (items_of sealed path)) ≡ true
      dirs (inl out) d r none = all_three _ _ _ (ap is_dir (same_at held sealed path agree (inl out)) ∙ d) r (empty_too held sealed path agree whole (denied (is_root path) r) out none)
      dirs (inr state) d r none = absurd (no_group (lands (is_within hidden_dir path) (nat_lt 2 0) (call_parts (RemoveDir path) call).1 (state_within path state)))
allowed_too (MakeDir path) held sealed call other agree whole may =
    let m = both (is_nothing (standing held path)) (is_dir (standing held (parent path))) may in
    dirs (place_of (MakeDir path) call other) m.0 m.1 where
      pair : (a b : Bool) → a ≡ true → b ≡ true → (a && b) ≡ true
      pair true b x y = y
      pair false b x y = cc

      dirs : IsPlace path → is_nothing (standing held path) ≡ true → is_dir (standing held (parent path)) ≡ true → (is_nothing (standing sealed path) && is_dir (standing sealed (parent path))) ≡ true
      dirs (inl out) n d =
          pair _ _ (ap is_nothing (same_at held sealed path agree (inl out)) ∙ n)
          (ap is_dir (same_at held sealed (parent path) agree (inl (out_parent path (both (is_canonical path) _ call).0 (call_parts (MakeDir path) call).0 out))) ∙ d)
      dirs (inr state) n d = absurd (made_place path other (lands (is_within hidden_dir path) _ (call_parts (MakeDir path) call).1 (state_within path state)))
allowed_too (Write path bytes) held sealed call other agree whole may = holds (place_of (Write path bytes) call other) where
  in_hidden : (file : Text) → path ≡ file → parent file ≡ hidden_dir → standing sealed path ≡ standing held path → can_hold (standing sealed path) (is_dir (standing sealed (parent path))) ≡ true
  in_hidden file at up same =
      ap (λ (p : Text). can_hold (standing sealed path) (is_dir (standing sealed p))) (ap parent at ∙ up) ∙ ap (λ (o : Option Standing). can_hold (standing sealed path) (is_dir o)) agree.hidden
      ∙ ap (λ (o : Option Standing). can_hold o true) same ∙ hold_more (standing held path) (is_dir (standing held (parent path))) may

  holds : IsPlace path → can_hold (standing sealed path) (is_dir (standing sealed (parent path))) ≡ true
  holds (inl out) =
      ap (λ (o : Option Standing). can_hold o (is_dir (standing sealed (parent path)))) (same_at held sealed path agree (inl out))
      ∙ ap (λ (o : Option Standing). can_hold (standing held path) (is_dir o)) (same_at held sealed (parent path) agree (inl (out_parent path (both (is_canonical path) _ call).0 (call_parts (Write path bytes) call).0 out)))
      ∙ may
  holds (inr (inl a)) = in_hidden attrs_file a attrs-parent (same_at held sealed path agree (inr (inl a)))
  holds (inr (inr d)) = in_hidden db_file d db-parent (same_at held sealed path agree (inr (inr d)))

-- they agree after a call too, and after the making of the hidden directory, which the sealed one has
step_at : (op : Op) (held sealed : Held) (q : Text) → standing sealed q ≡ standing held q → standing (step op sealed) q ≡ standing (step op held) q
step_at op held sealed q same = standing-step op sealed q ∙ ap (cond (eq_by_cmp text_cmp q (path_of op)) (left_by op)) same ∙ sym (standing-step op held q)

agree-step : (op : Op) (held sealed : Held) → is_call op ≡ true → makes_hidden op ≡ false → Agree held sealed → Agree (step op held) (step op sealed)
agree-step op held sealed call other agree = record {
  elsewhere = λ q e. step_at op held sealed q (agree.elsewhere q e);
  hidden = hidden_kept op sealed call other agree.hidden;
  odd = odd-step op sealed ∙ agree.odd ∙ sym (odd-step op held);
}

-- a path at which nothing was put
with_other : (path : Text) (it : Standing) (held : Held) (q : Text) → (q ≡ path → ⊥) → standing (with_standing path it held) q ≡ standing held q
with_other path it held q other = elim (told_apart q path) [
  | inl same ↦ absurd (other same.0)
  | inr apart ↦ standing-with path it held q ∙ ap (λ (b : Bool). cond b (Some it) (standing held q)) apart.1
]

rooted_other : (ops : List Op) (held : Held) (q : Text) → (q ≡ hidden_dir → ⊥) → standing (rooted ops held) q ≡ standing held q
rooted_other ops held q other = by (list_any makes_hidden ops) where
  by : (m : Bool) → standing (cond m (with_standing hidden_dir Dir held) held) q ≡ standing held q
  by true = with_other hidden_dir Dir held q other
  by false = refl

drafted_other : (ops : List Op) (held : Held) (q : Text) → (q ≡ hidden_dir → ⊥) → (q ≡ fresh_list_file → ⊥) → standing (drafted ops held) q ≡ standing held q
drafted_other ops held q hidden fresh = with_other fresh_list_file (File (install_spelling ops)) (rooted ops held) q fresh ∙ rooted_other ops held q hidden

sealed_other : (ops : List Op) (held : Held) (q : Text) → (q ≡ hidden_dir → ⊥) → (q ≡ fresh_list_file → ⊥) → (q ≡ install_file → ⊥) → standing (sealed ops held) q ≡ standing held q
sealed_other ops held q hidden fresh install =
    at_sealed ops held q
    ∙ ap (λ (b : Bool). cond b None (cond (same_path q install_file) (Some (File (install_spelling ops))) (standing (drafted ops held) q))) (untied q fresh_list_file fresh)
    ∙ ap (λ (b : Bool). cond b (Some (File (install_spelling ops))) (standing (drafted ops held) q)) (untied q install_file install)
    ∙ drafted_other ops held q hidden fresh where
      untied : (a b : Text) → (a ≡ b → ⊥) → same_path a b ≡ false
      untied a b other = elim (told_apart a b) [
        | inl same ↦ absurd (other same.0)
        | inr apart ↦ apart.1
      ]

agree-making : (op : Op) (held sealed : Held) → makes_hidden op ≡ true → Agree held sealed → Agree (step op held) sealed
agree-making op held sealed m agree = subst (λ (o : Op). Agree (step o held) sealed) (sym (hidden_making op m)) (record {
  elsewhere = λ q e. agree.elsewhere q e ∙ sym (with_other hidden_dir Dir held q e.0);
  hidden = agree.hidden;
  odd = agree.odd;
})

abbrev Follows : List Op → Held → Held → Type 0
Follows ops held sealed = AllowsAll (others ops) sealed × Agree (after_all ops held) (after_all (others ops) sealed)

follows_by : (op : Op) (ops : List Op) (held sealed : Held) (m : Bool) → is_call op ≡ true → makes_hidden op ≡ m → Agree held sealed → IsWhole sealed → allowed op held ≡ true → ((h k : Held) → Agree h k → IsWhole k → AllowsAll ops h → Follows ops h k) → AllowsAll ops (step op held)
    → AllowsAll (cond (not m) (op ∷ others ops) (others ops)) sealed × Agree (after_all ops (step op held)) (after_all (cond (not m) (op ∷ others ops) (others ops)) sealed)
follows_by op ops held sealed true call e agree whole may rest more = rest (step op held) sealed (agree-making op held sealed e agree) whole more
follows_by op ops held sealed false call e agree whole may rest more =
    let also = allowed_too op held sealed call e agree whole may in
    let r = rest (step op held) (step op sealed) (agree-step op held sealed call e agree) (whole-step op sealed whole also (both (is_canonical (path_of op)) _ call).0) more in
    ((also, r.0), r.1)

follows : (ops : List Op) (held sealed : Held) → list_all is_call ops ≡ true → Agree held sealed → IsWhole sealed → AllowsAll ops held → Follows ops held sealed
follows [] held sealed all agree whole may = (tt, agree)
follows (op ∷ ops) held sealed all agree whole may =
    let a = both (is_call op) (list_all is_call ops) all in
    follows_by op ops held sealed (makes_hidden op) a.0 refl agree whole may.0 (λ h k g w m. follows ops h k a.1 g w m) may.1

-- Where no other call may be, what stands stays.

kept_place : (op : Op) (held : Held) (q : Text) → is_call op ≡ true → makes_hidden op ≡ false → (IsPlace q → ⊥) → standing (step op held) q ≡ standing held q
kept_place op held q call other never = elim (told_apart q (path_of op)) [
  | inl same ↦ absurd (never (subst (λ (p : Text). IsPlace p) (sym same.0) (place_of op call other)))
  | inr apart ↦ standing-step op held q ∙ ap (λ (b : Bool). cond b (left_by op) (standing held q)) apart.1
]

no_place : (q : Text) → is_within hidden_dir q ≡ true → same_text attrs_file q ≡ false → same_text db_file q ≡ false → IsPlace q → ⊥
no_place q inside attrs db (inl out) = clash _ inside out
no_place q inside attrs db (inr (inl a)) = apart attrs_file q attrs (sym a)
no_place q inside attrs db (inr (inr d)) = apart db_file q db (sym d)

others_kept : (ops : List Op) (held : Held) (q : Text) → list_all is_call ops ≡ true → (IsPlace q → ⊥) → standing (after_all (others ops) held) q ≡ standing held q
others_kept [] held q all never = refl
others_kept (op ∷ ops) held q all never =
    let a = both (is_call op) (list_all is_call ops) all in
    by (makes_hidden op) refl a.0 (λ h. others_kept ops h q a.1 never) where
      by : (m : Bool) → makes_hidden op ≡ m → is_call op ≡ true → ((h : Held) → standing (after_all (others ops) h) q ≡ standing h q) → standing (after_all (cond (not m) (op ∷ others ops) (others ops)) held) q ≡ standing held q
      by true e call rest = rest held
      by false e call rest = rest (step op held) ∙ kept_place op held q call e never

hidden_no_place : IsPlace hidden_dir → ⊥
hidden_no_place = no_place hidden_dir hidden-inside attrs_not_hidden db_not_hidden

install_no_place : IsPlace install_file → ⊥
install_no_place = no_place install_file install-inside attrs_not_install db_not_install

fresh_no_place : IsPlace fresh_list_file → ⊥
fresh_no_place = no_place fresh_list_file fresh-inside attrs_not_fresh db_not_fresh

-- the hidden directory stands to the end, once it was made
hidden_end : (ops : List Op) (held : Held) → list_all is_call ops ≡ true → (list_any makes_hidden ops ≡ true) ⊎ StandsHidden held → StandsHidden (after_all ops held)
hidden_end [] held all (inl any) = cc
hidden_end [] held all (inr at) = at
hidden_end (op ∷ ops) held all h =
    let a = both (is_call op) (list_all is_call ops) all in
    hidden_end ops (step op held) a.1 (by (makes_hidden op) refl a.0 h) where
      by : (m : Bool) → makes_hidden op ≡ m → is_call op ≡ true → ((m || list_any makes_hidden ops) ≡ true) ⊎ StandsHidden held → (list_any makes_hidden ops ≡ true) ⊎ StandsHidden (step op held)
      by true e call k = inr (ap (λ (o : Op). standing (step o held) hidden_dir) (hidden_making op e) ∙ standing-with hidden_dir Dir held hidden_dir ∙ ap (λ (b : Bool). cond b (Some Dir) (standing held hidden_dir)) (ties_itself hidden_dir))
      by false e call (inl any) = inl any
      by false e call (inr at) = inr (hidden_kept op held call e at)

odd_after : (ops : List Op) (held : Held) → (after_all ops held).odd ≡ held.odd
odd_after [] held = refl
odd_after (op ∷ ops) held = odd_after ops (step op held) ∙ odd-step op held

-- Nothing stands at the hidden directory where it is to be made.

free_by : (op : Op) (ops : List Op) (held : Held) (m : Bool) → is_call op ≡ true → makes_hidden op ≡ m → allowed op held ≡ true → (list_any makes_hidden ops ≡ true → is_nothing (standing (step op held) hidden_dir) ≡ true) → (m || list_any makes_hidden ops) ≡ true → is_nothing (standing held hidden_dir) ≡ true
free_by op ops held true call e may rest any = (both (is_nothing (standing held hidden_dir)) _ (ap (λ (o : Op). allowed o held) (sym (hidden_making op e)) ∙ may)).0
free_by op ops held false call e may rest any = ap is_nothing (sym (kept_place op held hidden_dir call e hidden_no_place)) ∙ rest any

hidden_free : (ops : List Op) (held : Held) → list_all is_call ops ≡ true → AllowsAll ops held → list_any makes_hidden ops ≡ true → is_nothing (standing held hidden_dir) ≡ true
hidden_free [] held all may any = cc
hidden_free (op ∷ ops) held all may any =
    let a = both (is_call op) (list_all is_call ops) all in
    free_by op ops held (makes_hidden op) a.0 refl may.0 (λ more. hidden_free ops (step op held) a.1 may.1 more) any

pair_true : (a b : Bool) → a ≡ true → b ≡ true → (a && b) ≡ true
pair_true true b x y = y
pair_true false b x y = cc

hold_in : (o : Option Standing) → is_file_or_nothing o ≡ true → can_hold o true ≡ true
hold_in None h = refl
hold_in (Some (File bytes)) h = refl
hold_in (Some Dir) h = cc
hold_in (Some Special) h = cc

fresh-parent : parent fresh_list_file ≡ hidden_dir
unfolding parent join
fresh-parent = refl

install-parent : parent install_file ≡ hidden_dir
unfolding parent join
install-parent = refl

-- the hidden directory stands once it was made
rooted_dir : (ops : List Op) (held : Held) → MayInstall ops held → is_dir (standing (rooted ops held) hidden_dir) ≡ true
rooted_dir ops held may = by (list_any makes_hidden ops) refl where
  by : (m : Bool) → list_any makes_hidden ops ≡ m → is_dir (standing (cond m (with_standing hidden_dir Dir held) held) hidden_dir) ≡ true
  by true e = ap is_dir (standing-with hidden_dir Dir held hidden_dir ∙ ap (λ (b : Bool). cond b (Some Dir) (standing held hidden_dir)) (ties_itself hidden_dir))
  by false e = may.hidden e

may-hidden : (ops : List Op) (held : Held) → MayInstall ops held → list_any makes_hidden ops ≡ true → can_make_dir hidden_dir held ≡ true
may-hidden ops held may any =
    pair_true (is_nothing (standing held hidden_dir)) _ (hidden_free ops held (each-call ops may.are) may.calls any) (ap (λ (p : Text). is_dir (standing held p)) hidden-parent ∙ may.whole.root_dir)

may-draft : (ops : List Op) (held : Held) → MayInstall ops held → can_write fresh_list_file (rooted ops held) ≡ true
may-draft ops held may =
    ap (λ (b : Bool). can_hold (standing (rooted ops held) fresh_list_file) b) (ap (λ (p : Text). is_dir (standing (rooted ops held) p)) fresh-parent ∙ rooted_dir ops held may)
    ∙ hold_in (standing (rooted ops held) fresh_list_file) (ap is_file_or_nothing (rooted_other ops held fresh_list_file (apart fresh_list_file hidden_dir fresh_not_hidden)) ∙ may.draft)

hidden_not_fresh : same_text hidden_dir fresh_list_file ≡ false
unfolding join
hidden_not_fresh = refl

install_not_fresh : same_text install_file fresh_list_file ≡ false
unfolding join
install_not_fresh = refl

may-seal : (ops : List Op) (held : Held) → MayInstall ops held → can_rename fresh_list_file install_file (drafted ops held) ≡ true
may-seal ops held may =
    let dir : is_dir (standing (drafted ops held) (parent install_file)) ≡ true =
    ap (λ (p : Text). is_dir (standing (drafted ops held) p)) install-parent ∙ ap is_dir (with_other fresh_list_file (File (install_spelling ops)) (rooted ops held) hidden_dir (apart hidden_dir fresh_list_file hidden_not_fresh)) ∙ rooted_dir ops held may in
    pair_true (is_file (standing (drafted ops held) fresh_list_file)) _ (ap is_file (draft_stands ops held))
    (ap (λ (o : Option Standing). can_hold o (is_dir (standing (drafted ops held) (parent install_file)))) (drafted_other ops held install_file (apart install_file hidden_dir install_not_hidden) (apart install_file fresh_list_file install_not_fresh)) ∙ ap (can_hold (standing held install_file)) dir
    ∙ hold_in (standing held install_file) may.list)

allows-seal : (ops : List Op) (held : Held) → MayInstall ops held → AllowsSeal ops held
allows-seal ops held may = record { hidden = may-hidden ops held may; draft = may-draft ops held may; seal = may-seal ops held may }

agree-sealed : (ops : List Op) (held : Held) → MayInstall ops held → Agree held (sealed ops held)
agree-sealed ops held may = record {
  elsewhere = λ q e. sealed_other ops held q e.0 e.2 e.1;
  hidden = sealed-hidden ops held may.whole (allows-seal ops held may);
  odd = ap (λ (h : Held). h.odd) (sym (sealed_as ops held)) ∙ odd_rooted (list_any makes_hidden ops);
} where
  odd_rooted : (m : Bool) → (cond m (with_standing hidden_dir Dir held) held).odd ≡ held.odd
  odd_rooted true = refl
  odd_rooted false = refl

all_follow : (ops : List Op) (held : Held) → MayInstall ops held → Follows ops held (sealed ops held)
all_follow ops held may = follows ops held (sealed ops held) (each-call ops may.are) (agree-sealed ops held may) (sealed-whole ops held may.whole (allows-seal ops held may)) may.calls

pub allows-install : Allows
allows-install ops held may = record {
  first = allows-seal ops held may;
  calls = (all_follow ops held may).0;
  unseal = ap is_file (others_kept ops (sealed ops held) install_file (each-call ops may.are) install_no_place) ∙ bytes_file (standing (sealed ops held) install_file) (install_spelling ops) (sealed-list ops held);
}

-- What an install leaves.

stands_dir : (o : Option Standing) → is_dir o ≡ true → o ≡ Some Dir
stands_dir None h = cc
stands_dir (Some (File bytes)) h = cc
stands_dir (Some Dir) h = refl
stands_dir (Some Special) h = cc

hidden_start : (ops : List Op) (held : Held) → MayInstall ops held → (list_any makes_hidden ops ≡ true) ⊎ StandsHidden held
hidden_start ops held may = by (list_any makes_hidden ops) refl where
  by : (m : Bool) → list_any makes_hidden ops ≡ m → (list_any makes_hidden ops ≡ true) ⊎ StandsHidden held
  by true e = inl e
  by false e = inr (stands_dir (standing held hidden_dir) (may.hidden e))

fresh_gone : (ops : List Op) (held : Held) → standing (sealed ops held) fresh_list_file ≡ None
fresh_gone ops held = at_sealed ops held fresh_list_file ∙ ap (λ (b : Bool). cond b None (cond (same_path fresh_list_file install_file) (Some (File (install_spelling ops))) (standing (drafted ops held) fresh_list_file))) (ties_itself fresh_list_file)

fresh_not_install : same_text fresh_list_file install_file ≡ false
unfolding join
fresh_not_install = refl

pub leaves-so : Leaves
leaves-so ops held may = record {
  same = λ q list draft. unsealed_at q list ∙ same_end q list draft;
  list = standing-without install_file (after_all (others ops) (sealed ops held)) install_file ∙ ap (λ (b : Bool). cond b None (standing (after_all (others ops) (sealed ops held)) install_file)) (ties_itself install_file);
  draft = unsealed_at fresh_list_file (apart fresh_list_file install_file fresh_not_install) ∙ others_kept ops (sealed ops held) fresh_list_file (each-call ops may.are) fresh_no_place ∙ fresh_gone ops held;
  odd = (all_follow ops held may).1.odd ∙ odd_after ops held;
} where
  unsealed_at : (q : Text) → (q ≡ install_file → ⊥) → standing (installed ops held) q ≡ standing (after_all (others ops) (sealed ops held)) q
  unsealed_at q list = elim (told_apart q install_file) [
    | inl same ↦ absurd (list same.0)
    | inr other ↦ standing-without install_file (after_all (others ops) (sealed ops held)) q ∙ ap (λ (b : Bool). cond b None (standing (after_all (others ops) (sealed ops held)) q)) other.1
  ]

  same_end : (q : Text) → (q ≡ install_file → ⊥) → (q ≡ fresh_list_file → ⊥) → standing (after_all (others ops) (sealed ops held)) q ≡ standing (after_all ops held) q
  same_end q list draft = elim (told_apart q hidden_dir) [
    | inl same ↦ ap (standing (after_all (others ops) (sealed ops held))) same.0 ∙ (all_follow ops held may).1.hidden ∙ sym (ap (standing (after_all ops held)) same.0 ∙ hidden_end ops held (each-call ops may.are) (hidden_start ops held may))
    | inr other ↦ (all_follow ops held may).1.elsewhere q (other.0, list, draft)
  ]
