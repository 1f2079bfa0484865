-- What stands in a folder in which nothing is special.
use Rattle.std.proofs.Common.{◌≡◌, ◌⊎◌, inl, inr, List, [], ◌∷◌, Bool, true, false, ◌&&◌, ◌||◌, Option, Some, None, refl, ap, subst, ◌∙◌}
use Rattle.std.specs.List.{list_all}
use Rattle.rk_base.specs.Text.{Text, is_within, same_text}
use Rattle.rk_base.proofs.CanonicalLemmas.{both}
use Rattle.rk_tree.proofs.TextLemmas.{same_itself, or_right}
use Rattle.rk_folder.specs.Told.{Held, standing, is_file, is_dir, is_nothing, is_odd}
use Rattle.rk_folder.specs.Whole.{IsWhole}
use Rattle.rk_folder.specs.Listing.{IsFirst}
use Rattle.rk_folder.specs.Specials.{is_special, is_fault, first_special}
use Rattle.rk_folder.specs.declared.folder.Standing.{Standing}
use Rattle.rk_folder.specs.declared.folder.Standing.TheVariants.{File, Dir, Special}
use Rattle.rk_folder.proofs.FirstLemmas.{first_special-is}
use Rattle.rk_folder.proofs.SpecialLemmas.{special-fault, dir-fault}
use Rattle.rk_changes.specs.Holdings.{hidden_dir}

clash : (b : Bool) → b ≡ true → b ≡ false → ⊥
clash b t f = cc

-- what stands and isn't special
file_or_dir : (o : Option Standing) → is_nothing o ≡ false → is_special o ≡ false → (is_dir o ≡ true) ⊎ (is_file o ≡ true)
file_or_dir None stands h = cc
file_or_dir (Some (File bytes)) stands h = inr refl
file_or_dir (Some Dir) stands h = inl refl
file_or_dir (Some Special) stands h = cc

none_special : (held : Held) → first_special held ≡ None → (q : Text) → is_fault held q ≡ false
none_special held plain = subst (IsFirst (is_fault held)) plain (first_special-is held)

is_in_odd : (dir : Text) (odd : List Text) → same_text dir dir ≡ true → is_odd dir (dir ∷ odd) ≡ true
is_in_odd dir odd same = ap (λ (b : Bool). b || is_odd dir odd) same

module _ (held : Held) (whole : IsWhole held) (plain : first_special held ≡ None) where
  not_special : (path : Text) → is_within hidden_dir path ≡ false → is_special (standing held path) ≡ false
  not_special path out = elim (is_special (standing held path)) as (λ (b : Bool). is_special (standing held path) ≡ b → b ≡ false) [
    | true ↦ λ e. absurd (clash _ (special-fault held path out e) (none_special held plain path))
    | false ↦ λ e. refl
  ] refl

  -- outside the hidden directory stand directories and files
  pub stands-outside : (path : Text) → is_nothing (standing held path) ≡ false → is_within hidden_dir path ≡ false → (is_dir (standing held path) ≡ true) ⊎ (is_file (standing held path) ≡ true)
  stands-outside path stands out = file_or_dir (standing held path) stands (not_special path out)

  odd_within : (dir : Text) → is_dir (standing held dir) ≡ true → is_odd dir held.odd ≡ true → is_within hidden_dir dir ≡ true
  odd_within dir stands odd = elim (is_within hidden_dir dir) as (λ (b : Bool). is_within hidden_dir dir ≡ b → b ≡ true) [
    | true ↦ λ h. refl
    | false ↦ λ out. absurd (clash _ (dir-fault held dir out stands ∙ odd) (none_special held plain dir))
  ] refl

  all_within : (odd : List Text) → ((dir : Text) → is_odd dir odd ≡ true → is_odd dir held.odd ≡ true) → list_all (λ dir. is_dir (standing held dir)) odd ≡ true → list_all (λ dir. is_within hidden_dir dir) odd ≡ true
  all_within [] among all = refl
  all_within (dir ∷ odd) among all =
      let a = both (is_dir (standing held dir)) _ all in
      ap (λ (b : Bool). b && list_all (λ d. is_within hidden_dir d) odd) (odd_within dir a.0 (among dir (is_in_odd dir odd (same_itself dir))))
      ∙ all_within odd (λ d h. among d (or_right (same_text dir d) (is_odd d odd) h)) a.1

  -- only the hidden directory, and what is below it, hold odd names
  pub odd-within : list_all (λ dir. is_within hidden_dir dir) held.odd ≡ true
  odd-within = all_within held.odd (λ dir h. h) whole.odd_dirs
