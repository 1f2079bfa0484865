-- A folder in which nothing is special holds just what is imported of it.
use Rattle.std.proofs.Common.{◌≡◌, inl, inr, Bool, true, false, Option, Some, None, option_map, refl, sym, ap, ◌∙◌, cond}
use Rattle.std.specs.FinMap.{get}
use Rattle.std.specs.Option.{option_and_then}
use Rattle.rk_base.specs.Text.{Text, parent, is_within}
use Rattle.rk_tree.specs.Node.{Node as Entry}
use Rattle.rk_folder.specs.Hidden.{install_file, fresh_list_file}
use Rattle.rk_folder.specs.Told.{Held, standing, is_file, is_file_or_nothing, is_dir, is_nothing, bytes_in}
use Rattle.rk_folder.specs.Whole.{IsWhole}
use Rattle.rk_folder.specs.Specials.{state_fault, hidden_fault, state_special, first_special}
use Rattle.rk_folder.specs.Import.{entry_of, snapshot_of}
use Rattle.rk_folder.proofs.ImportLemmas.{hidden-plain}
use Rattle.rk_folder.proofs.ReadingLemmas.{are_plain}
use Rattle.rk_folder.proofs.ListedLemmas.{get-snapshot_of}
use Rattle.rk_folder.specs.declared.folder.Standing.{Standing}
use Rattle.rk_folder.specs.declared.folder.Standing.TheVariants.{File, Dir, Special}
use Rattle.rk_changes.specs.declared.holding.Holding.{Holding}
use Rattle.rk_changes.specs.Holdings.{hidden_dir, db_file, attrs_file, placed, dir_where, HasPlaces, Holds, IsBuilt, MayBecome}
use Rattle.rk_changes.specs.Imported.{holding_of}
use Rattle.rk_changes.proofs.HiddenLemmas.{attrs_parent, db_parent, fresh_list_parent, install_parent}
use Rattle.rk_changes.proofs.SeenLemmas.{stands-outside, odd-within}

-- What is imported of what stands at a path.

-- nothing within the hidden directory
abbrev pub shown : Option Standing → Bool → Option Entry
shown None within = None
shown (Some it) within = cond within None (entry_of it)

shown_is : (o : Option Standing) (within : Bool) → cond within None (option_and_then entry_of o) ≡ shown o within
shown_is None true = refl
shown_is None false = refl
shown_is (Some it) within = refl

-- what an imported folder has at a path, whatever it holds
pub get-imported : (held : Held) (path : Text) → get (snapshot_of held) path ≡ shown (standing held path) (is_within hidden_dir path)
get-imported held path = get-snapshot_of held path ∙ shown_is (standing held path) (is_within hidden_dir path)

-- What stands is what is imported.

shown_hidden : (o : Option Standing) → shown o true ≡ None
shown_hidden None = refl
shown_hidden (Some it) = refl

shown_nothing : (o : Option Standing) → is_nothing o ≡ true → o ≡ placed (shown o false)
shown_nothing None h = refl
shown_nothing (Some it) h = cc

shown_file : (o : Option Standing) → is_file o ≡ true → o ≡ placed (shown o false)
shown_file None h = cc
shown_file (Some (File bytes)) h = refl
shown_file (Some Dir) h = cc
shown_file (Some Special) h = cc

shown_dir : (o : Option Standing) → is_dir o ≡ true → o ≡ placed (shown o false)
shown_dir None h = cc
shown_dir (Some (File bytes)) h = cc
shown_dir (Some Dir) h = refl
shown_dir (Some Special) h = cc

-- What stands at the hidden directory and at its state files, where it is no fault.

faulty : (path : Text) → Some path ≡ None → ⊥
faulty path h = cc

dir_held : (o : Option Standing) (state : Option Text) → hidden_fault o state ≡ None → o ≡ dir_where (is_dir o)
dir_held None state h = refl
dir_held (Some (File bytes)) state h = absurd (faulty hidden_dir h)
dir_held (Some Dir) state h = refl
dir_held (Some Special) state h = absurd (faulty hidden_dir h)

dir_state : (o : Option Standing) (state : Option Text) → is_dir o ≡ true → hidden_fault o state ≡ None → state ≡ None
dir_state None state d h = cc
dir_state (Some (File bytes)) state d h = cc
dir_state (Some Dir) state d h = h
dir_state (Some Special) state d h = cc

state_held : (path : Text) (o : Option Standing) → (is_nothing o ≡ false → state_fault path o ≡ None) → o ≡ option_map File (bytes_in o)
state_held path None h = refl
state_held path (Some (File bytes)) h = refl
state_held path (Some Dir) h = absurd (faulty path (h refl))
state_held path (Some Special) h = absurd (faulty path (h refl))

file_held : (path : Text) (o : Option Standing) → (is_nothing o ≡ false → state_fault path o ≡ None) → is_file_or_nothing o ≡ true
file_held path None h = refl
file_held path (Some (File bytes)) h = refl
file_held path (Some Dir) h = absurd (faulty path (h refl))
file_held path (Some Special) h = absurd (faulty path (h refl))

module _ (held : Held) (whole : IsWhole held) (plain : first_special held ≡ None) where
  shown_outside : (path : Text) → is_within hidden_dir path ≡ false → standing held path ≡ placed (shown (standing held path) false)
  shown_outside path out = elim (is_nothing (standing held path)) as (λ (b : Bool). is_nothing (standing held path) ≡ b → standing held path ≡ placed (shown (standing held path) false)) [
    | true ↦ λ none. shown_nothing (standing held path) none
    | false ↦ λ stands. elim (stands-outside held whole plain path stands out) [
      | inl dir ↦ shown_dir (standing held path) dir
      | inr file ↦ shown_file (standing held path) file
    ]
  ] refl

  -- in the hidden directory nothing is special
  in_hidden : (path : Text) → parent path ≡ hidden_dir → is_nothing (standing held path) ≡ false → state_special held ≡ None
  in_hidden path e stands =
      dir_state (standing held hidden_dir) (state_special held) (ap (λ (p : Text). is_dir (standing held p)) (sym e) ∙ whole.parents path stands) (hidden-plain held whole plain)

  -- the folder holds just what is imported of it
  pub holds-imported : Holds held (holding_of false held)
  holds-imported = record {
    unseen = λ path within. get-imported held path ∙ ap (shown (standing held path)) within ∙ shown_hidden (standing held path);
    outside = λ path out. shown_outside path out ∙ ap placed (sym (get-imported held path ∙ ap (shown (standing held path)) out));
    rkr = dir_held (standing held hidden_dir) (state_special held) (hidden-plain held whole plain);
    db = state_held db_file (standing held db_file) (λ stands. (are_plain held (in_hidden db_file db_parent stands)).db);
    attrs = state_held attrs_file (standing held attrs_file) (λ stands. (are_plain held (in_hidden attrs_file attrs_parent stands)).attrs);
  }

  -- and so it may become what a build leaves
  pub may_become-imported : (fresh : Bool) (after : Holding) → IsBuilt after → MayBecome held (holding_of fresh held) after
  may_become-imported true after built = record {
    whole = whole;
    db = (holding_of false held).state.db;
    holds = holds-imported;
    read = inl refl;
    odd = odd-within held whole plain;
    built = built;
  }
  may_become-imported false after built = record {
    whole = whole;
    db = (holding_of false held).state.db;
    holds = holds-imported;
    read = inr refl;
    odd = odd-within held whole plain;
    built = built;
  }

  -- in the places of a list of calls stand files alone
  pub has_places-imported : (fresh : Bool) → HasPlaces held (holding_of fresh held)
  has_places-imported fresh = record {
    list = file_held install_file (standing held install_file) (λ stands. (are_plain held (in_hidden install_file install_parent stands)).install);
    draft = file_held fresh_list_file (standing held fresh_list_file) (λ stands. (are_plain held (in_hidden fresh_list_file fresh_list_parent stands)).fresh_list);
    fresh_list = refl;
  }
