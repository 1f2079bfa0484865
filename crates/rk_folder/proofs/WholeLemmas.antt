-- Changes that a folder allows keep it whole.
use Rattle.std.proofs.Common.{◌≡◌, List, [], ◌∷◌, Bool, true, false, ◌&&◌, not, Option, Some, None, refl, sym, ap, subst, ◌∙◌, cond}
use Rattle.std.specs.List.{list_all, list_any}
use Rattle.std.specs.FinMap.{empty, get-empty, get-insert}
use Rattle.std.specs.Cmp.Lexicographic.{nat_list_cmp_total, bytes_decides}
use Rattle.std.proofs.lemmas.List.Folds.{list_all-append}
use Rattle.rk_base.specs.Text.{Text, text_cmp, root, parent, is_root, is_in, same_text}
use Rattle.rk_base.specs.Canonical.{is_canonical}
use Rattle.rk_base.proofs.CanonicalLemmas.{both, either, denied, root-canonical}
use Rattle.rk_folder.specs.Told.{Held, standing, is_dir, is_file, is_nothing, can_hold, can_list, can_write, can_make_dir, can_remove_file, can_remove_dir, with_standing, without, with_odd, root_alone}
use Rattle.rk_folder.specs.Whole.{IsWhole}
use Rattle.rk_folder.specs.declared.folder.Standing.{Standing}
use Rattle.rk_folder.specs.declared.folder.Standing.TheVariants.{File, Dir, Special}
use Rattle.rk_folder.proofs.HeldLemmas.{same_path, one_path, standing-with, standing-without, empty_holds_none, empty_not_odd}

all_still : {A : Type 0} (f g : A → Bool) (xs : List A) → ((x : A) → f x ≡ true → g x ≡ true) → list_all f xs ≡ true → list_all g xs ≡ true
all_still f g [] h all = refl
all_still f g (x ∷ xs) h all = let e = both (f x) _ all in ap (λ (b : Bool). b && list_all g xs) (h x e.0) ∙ all_still f g xs h e.1

-- The new folder has o at the path, and else what the old one has.
pub record IsChanged (old new : Held) (path : Text) (o : Option Standing) : Type 0 where
  pub at : (q : Text) → standing new q ≡ cond (same_path q path) o (standing old q)
  pub odd : new.odd ≡ old.odd

pub put-changed : (held : Held) (path : Text) (it : Standing) → IsChanged held (with_standing path it held) path (Some it)
put-changed held path it = record { at = standing-with path it held; odd = refl }

pub taken-changed : (held : Held) (path : Text) → IsChanged held (without path held) path None
taken-changed held path = record { at = standing-without path held; odd = refl }

-- what was a directory still is one
still_dir : (old new : Held) (path : Text) (o : Option Standing) → IsChanged old new path o → is_dir (standing old path) ≡ false → (q : Text) → is_dir (standing old q) ≡ true → is_dir (standing new q) ≡ true
still_dir old new path o change no_dir q dir =
    ap is_dir (change.at q) ∙ (elim (same_path q path) as (λ b. same_path q path ≡ b → is_dir (cond b o (standing old q)) ≡ true) [
      | true ↦ λ e. let bad : false ≡ true = sym no_dir ∙ sym (ap (λ (p : Text). is_dir (standing old p)) (one_path q path e)) ∙ dir in cc
      | false ↦ λ e. dir
    ] refl)

-- a change at a path that is no directory
keeps_whole : (old new : Held) (path : Text) (o : Option Standing) → IsChanged old new path o → is_dir (standing old path) ≡ false → (is_nothing o ≡ false → (is_dir (standing old (parent path)) ≡ true) × (is_canonical path ≡ true)) → IsWhole old → IsWhole new
keeps_whole old new path o change no_dir fit whole =
    let still = still_dir old new path o change no_dir in
    record {
      root_dir = still root whole.root_dir;
      parents = λ q stands. still (parent q) ((elim (same_path q path) as (λ b. same_path q path ≡ b → is_nothing (cond b o (standing old q)) ≡ false → is_dir (standing old (parent q)) ≡ true) [
        | true ↦ λ e there. subst (λ p. is_dir (standing old (parent p)) ≡ true) (sym (one_path q path e)) (fit there).0
        | false ↦ λ e there. whole.parents q there
      ]) refl (sym (ap is_nothing (change.at q)) ∙ stands));
      paths = λ q stands. (elim (same_path q path) as (λ b. same_path q path ≡ b → is_nothing (cond b o (standing old q)) ≡ false → is_canonical q ≡ true) [
        | true ↦ λ e there. ap is_canonical (one_path q path e) ∙ (fit there).1
        | false ↦ λ e there. whole.paths q there
      ]) refl (sym (ap is_nothing (change.at q)) ∙ stands);
      odd_dirs = ap (list_all (λ dir. is_dir (standing new dir))) change.odd ∙ all_still (λ dir. is_dir (standing old dir)) (λ dir. is_dir (standing new dir)) old.odd still whole.odd_dirs;
    }

-- what may be written to is no directory, and stands in one
writable : (held : Held) (path : Text) (it : Option Standing) (in_dir : Bool) → can_hold it in_dir ≡ true → standing held path ≡ it → is_dir (standing held (parent path)) ≡ in_dir → IsWhole held → (is_dir it ≡ false) × (is_dir (standing held (parent path)) ≡ true)
writable held path None in_dir may here is whole = (refl, is ∙ may)
writable held path (Some (File bytes)) in_dir may here is whole = (refl, whole.parents path (ap is_nothing here))
writable held path (Some Dir) in_dir may here is whole = cc
writable held path (Some Special) in_dir may here is whole = cc

pub may_write : (path : Text) (held : Held) → can_write path held ≡ true → IsWhole held → (is_dir (standing held path) ≡ false) × (is_dir (standing held (parent path)) ≡ true)
may_write path held may whole = writable held path (standing held path) (is_dir (standing held (parent path))) may refl refl whole

pub whole-put : (path : Text) (it : Standing) (held : Held) → can_write path held ≡ true → is_canonical path ≡ true → IsWhole held → IsWhole (with_standing path it held)
whole-put path it held may c whole =
    let w = may_write path held may whole in
    keeps_whole held (with_standing path it held) path (Some it) (put-changed held path it) w.0 (λ _. (w.1, c)) whole

nothing_there : (o : Option Standing) → is_nothing o ≡ true → is_dir o ≡ false
nothing_there None h = refl
nothing_there (Some it) h = cc

pub whole-make_dir : (path : Text) (held : Held) → can_make_dir path held ≡ true → is_canonical path ≡ true → IsWhole held → IsWhole (with_standing path Dir held)
whole-make_dir path held may c whole =
    let m = both (is_nothing (standing held path)) _ may in
    keeps_whole held (with_standing path Dir held) path (Some Dir) (put-changed held path Dir) (nothing_there (standing held path) m.0) (λ _. (m.1, c)) whole

file_there : (o : Option Standing) → is_file o ≡ true → is_dir o ≡ false
file_there None h = refl
file_there (Some (File bytes)) h = refl
file_there (Some Dir) h = cc
file_there (Some Special) h = refl

pub whole-remove_file : (path : Text) (held : Held) → can_remove_file path held ≡ true → IsWhole held → IsWhole (without path held)
whole-remove_file path held may whole =
    keeps_whole held (without path held) path None (taken-changed held path) (file_there (standing held path) may) (λ none. cc) whole

-- A directory that is removed.

apart : (q path : Text) (held : Held) → (q ≡ path → ⊥) → standing (without path held) q ≡ standing held q
apart q path held other = standing-without path held q ∙ (elim (same_path q path) as (λ (b : Bool). same_path q path ≡ b → cond b None (standing held q) ≡ standing held q) [
  | true ↦ λ e. absurd (other (one_path q path e))
  | false ↦ λ e. refl
] refl)

left : (q path : Text) (held : Held) → is_nothing (standing (without path held) q) ≡ false → is_nothing (standing held q) ≡ false
left q path held stands = (elim (same_path q path) as (λ (b : Bool). is_nothing (cond b None (standing held q)) ≡ false → is_nothing (standing held q) ≡ false) [
  | true ↦ λ there. cc
  | false ↦ λ there. there
]) (sym (ap is_nothing (standing-without path held q)) ∙ stands)

not_root_path : (path : Text) → not (is_root path) ≡ true → root ≡ path → ⊥
not_root_path path h e = let r : is_root path ≡ true = (bytes_decides path root).1 (sym e) in let n : is_root path ≡ false = denied _ h in cc

pub is_below : (dir q : Text) → is_root q ≡ false → parent q ≡ dir → is_in dir q ≡ true
unfolding is_in
is_below dir q n e = ap (λ (b : Bool). not b && same_text (parent q) dir) n ∙ (bytes_decides (parent q) dir).1 e

parent_root : (q : Text) → is_root q ≡ true → parent q ≡ root
unfolding parent
parent_root q r = ap parent ((bytes_decides q root).0 r)

others : (dir : Text) (held : Held) (odd : List Text) → list_any (λ d. same_text d dir) odd ≡ false → list_all (λ d. is_dir (standing held d)) odd ≡ true → list_all (λ d. is_dir (standing (without dir held) d)) odd ≡ true
others dir held [] none all = refl
others dir held (d ∷ odd) none all =
    let n = either (same_text d dir) _ none in
    let a = both (is_dir (standing held d)) _ all in
    ap (λ (b : Bool). b && list_all (λ e. is_dir (standing (without dir held) e)) odd) (ap is_dir (apart d dir held (λ e. let y = (bytes_decides d dir).1 e in let m = n.0 in cc)) ∙ a.0) ∙ others dir held odd n.1 a.1

pub whole-remove_dir : (path : Text) (held : Held) → can_remove_dir path held ≡ true → IsWhole held → IsWhole (without path held)
whole-remove_dir path held may whole =
    let m = both (is_dir (standing held path) && not (is_root path)) _ may in
    let no_root = not_root_path path (both (is_dir (standing held path)) _ m.0).1 in
    record {
      root_dir = ap is_dir (apart root path held no_root) ∙ whole.root_dir;
      parents = λ q stands.
          let stood = left q path held stands in
          ap is_dir (apart (parent q) path held (λ e. (elim (is_root q) as (λ (b : Bool). is_root q ≡ b → ⊥) [
            | true ↦ λ r. no_root (sym (parent_root q r) ∙ e)
            | false ↦ λ r. let none = empty_holds_none path q held m.1 (is_below path q r e) in cc
          ]) refl)) ∙ whole.parents q stood;
      paths = λ q stands. whole.paths q (left q path held stands);
      odd_dirs = others path held held.odd (empty_not_odd path held m.1) whole.odd_dirs;
    }

pub whole-odd : (dir : Text) (held : Held) → can_list dir held ≡ true → IsWhole held → IsWhole (with_odd dir held)
whole-odd dir held may whole = record {
  root_dir = whole.root_dir;
  parents = whole.parents;
  paths = whole.paths;
  odd_dirs = list_all-append (λ d. is_dir (standing held d)) held.odd (dir ∷ []) ∙ ap (λ (b : Bool). b && (is_dir (standing held dir) && true)) whole.odd_dirs ∙ ap (λ (b : Bool). b && true) may;
}

-- an empty folder
standing-root_alone : (q : Text) → standing root_alone q ≡ cond (same_path q root) (Some Dir) None
standing-root_alone q = get-insert nat_list_cmp_total empty root Dir q ∙ ap (cond (same_path q root) (Some Dir)) (get-empty text_cmp q)

only_root : (q : Text) → is_nothing (standing root_alone q) ≡ false → q ≡ root
only_root q stands = (elim (same_path q root) as (λ (b : Bool). same_path q root ≡ b → is_nothing (cond b (Some Dir) None) ≡ false → q ≡ root) [
  | true ↦ λ e there. one_path q root e
  | false ↦ λ e there. cc
]) refl (sym (ap is_nothing (standing-root_alone q)) ∙ stands)

pub whole-root_alone : IsWhole root_alone
unfolding parent
whole-root_alone = record {
  root_dir = ap is_dir (standing-root_alone root);
  parents = λ q stands. ap (λ (p : Text). is_dir (standing root_alone (parent p))) (only_root q stands) ∙ ap is_dir (standing-root_alone root);
  paths = λ q stands. ap is_canonical (only_root q stands) ∙ root-canonical;
  odd_dirs = refl;
}
