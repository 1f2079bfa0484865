-- What the items of the root tell, one after another, of what is listed in the hidden directory.
use Rattle.std.proofs.Common.{◌≡◌, inl, inr, ℕ, ◌+◌, ◌<◌, List, [], ◌∷◌, length, drop, get_or, Bool, true, false, ◌||◌, Option, Some, None, IfSome, Ok, Err, suc, refl, sym, ap, subst, ◌∙◌, cond, add-one, drop-cons}
use Rattle.std.specs.List.{list_all, list_any}
use Rattle.rk_base.specs.Text.{Text, root, hidden, join}
use Rattle.rk_base.specs.Canonical.{is_name}
use Rattle.rk_base.proofs.CanonicalLemmas.{both}
use Rattle.rk_tree.specs.Entries.{Entries}
use Rattle.rk_tree.proofs.TextLemmas.{one_of, or_right, same_is}
use Rattle.rk_folder.specs.Told.{Held, standing, is_dir, items_of}
use Rattle.rk_folder.specs.Whole.{IsWhole, TellsWhole}
use Rattle.rk_folder.specs.Hidden.{hidden_dir}
use Rattle.rk_folder.specs.Specials.{hidden_fault, state_special}
use Rattle.rk_folder.specs.Import.{Tells}
use Rattle.rk_folder.specs.Steps.{ListsRoot, agrees, first_within, hidden_listed, is_dir_item, is_hidden_dir, is_named, item_named, listed_at, listed_by, listed_in, newer, special_in, with_item, with_within}
use Rattle.rk_folder.specs.declared.hidden_listing.Listed.{Listed}
use Rattle.rk_folder.specs.declared.folder.Item.{Item}
use Rattle.rk_folder.specs.declared.folder.Item.TheVariants as item
use Rattle.rk_folder.specs.declared.folder.Standing.{Standing}
use Rattle.rk_folder.specs.declared.folder.Standing.TheVariants.{Dir}
use Rattle.rk_folder.specs.declared.importing.ImportErr.{ImportErr}
use Rattle.rk_folder.specs.declared.importing.ImportErr.TheVariants as err
use Rattle.rk_folder.proofs.HiddenLemmas.{special-hidden}
use Rattle.rk_folder.proofs.ImportLemmas.{a_dir, item_dir}
use Rattle.rk_folder.proofs.ListingLemmas.{items-agree}
use Rattle.rk_folder.proofs.ReadingLemmas.{hidden_item}
use Rattle.rk_folder.proofs.SnapshotLemmas.{within-hidden}
use Rattle.rk_folder.proofs.TakenLemmas.{Agrees}

-- The item that the hidden directory is.

pub is_the_dir : (it : Item) → is_hidden_dir it ≡ true → it ≡ item.Dir hidden
is_the_dir (item.File name) h = cc
is_the_dir (item.Dir name) h = ap (λ (n : Text). item.Dir n) (same_is name hidden h)
is_the_dir (item.Special name) h = cc
is_the_dir item.Odd h = cc

agrees_dir : (held : Held) (it : Item) → agrees held root it ≡ true → is_hidden_dir it ≡ true → standing held hidden_dir ≡ Some Dir
agrees_dir held it a h =
    let so : agrees held root (item.Dir hidden) ≡ true = ap (agrees held root) (sym (is_the_dir it h)) ∙ a in
    a_dir (standing held hidden_dir) (both (is_name hidden) _ so).1

pub told-lists_top : (told : Option Held) (dir : Text) (it : Item) (b : Bool) → dir ≡ root → Agrees told dir it → b ≡ is_hidden_dir it → b ≡ true → IfSome told (λ held. standing held hidden_dir ≡ Some Dir)
told-lists_top None dir it b at a is on = tt
told-lists_top (Some held) dir it b at a is on = agrees_dir held it (ap (λ (d : Text). agrees held d it) (sym at) ∙ a) (sym is ∙ on)

-- what is told of its state files is told of the item
top_first : (held : Held) (dir : Text) (it : Item) (o : Option Text) → IsWhole held → dir ≡ root → agrees held dir it ≡ true → is_hidden_dir it ≡ true → state_special held ≡ o → special_in held dir it ≡ o
top_first held dir it o whole at a h fault =
    let stands : standing held hidden_dir ≡ Some Dir = agrees_dir held it (ap (λ (d : Text). agrees held d it) (sym at) ∙ a) h in
    ap (special_in held dir) (is_the_dir it h) ∙ ap (λ (d : Text). first_within held (join d hidden)) at ∙ special-hidden held whole ∙ ap (λ (s : Option Standing). hidden_fault s (state_special held)) stands ∙ fault

top_same : (held : Held) (dir : Text) (it : Item) (snapshot : Entries) → dir ≡ root → is_hidden_dir it ≡ true → snapshot ≡ with_item held dir snapshot it
top_same held dir it snapshot at h =
    within-hidden held snapshot ∙ ap (λ (d : Text). with_within held (join d hidden) snapshot) (sym at) ∙ ap (with_item held dir snapshot) (sym (is_the_dir it h))

pub told-top : {A B : Type 0} (told : Option Held) (dir : Text) (it : Item) (b : Bool) (snapshot : Entries) (P : Held → A → Type 0) (a : A) (c : B) → TellsWhole told → dir ≡ root → Agrees told dir it → b ≡ is_hidden_dir it → b ≡ true → Tells told state_special P (Ok a)
    → Tells told (λ held. special_in held dir it) (λ held x. snapshot ≡ with_item held dir snapshot it) (Ok c)
told-top None dir it b snapshot P a c whole at ag is on tells = tt
told-top (Some held) dir it b snapshot P a c whole at ag is on tells = (top_first held dir it None whole at ag (sym is ∙ on) tells.0, top_same held dir it snapshot at (sym is ∙ on))

pub told-top_failed : {A B : Type 0} (told : Option Held) (dir : Text) (it : Item) (b : Bool) (P : Held → A → Type 0) (Q : Held → B → Type 0) (e : ImportErr) → TellsWhole told → dir ≡ root → Agrees told dir it → b ≡ is_hidden_dir it → b ≡ true → Tells {T = A} told state_special P (Err e)
    → Tells {T = B} told (λ held. special_in held dir it) Q (Err e)
told-top_failed None dir it b P Q (err.Special path) whole at ag is on tells = tt
told-top_failed (Some held) dir it b P Q (err.Special path) whole at ag is on tells = top_first held dir it (Some path) whole at ag (sym is ∙ on) tells
told-top_failed told dir it b P Q err.ReadFault whole at ag is on tells = tt
told-top_failed told dir it b P Q err.NoMemory whole at ag is on tells = tt

pub told-listed_top : (told : Option Held) (it : Item) (b : Bool) (special : Held → Option Text) (listed : Listed) → b ≡ is_hidden_dir it → b ≡ true → Tells told special (λ held x. x ≡ listed_in held) (Ok listed) → IfSome told (λ held. Some listed ≡ listed_at held it)
told-listed_top None it b special listed is on tells = tt
told-listed_top (Some held) it b special listed is on tells = ap (λ (l : Listed). Some l) tells.1 ∙ sym (ap (λ (h : Bool). cond h (Some (listed_in held)) None) (sym is ∙ on))

pub told-other_top : (told : Option Held) (it : Item) (b : Bool) → b ≡ is_hidden_dir it → b ≡ false → IfSome told (λ held. None ≡ listed_at held it)
told-other_top None it b is off = tt
told-other_top (Some held) it b is off = sym (ap (λ (h : Bool). cond h (Some (listed_in held)) None) (sym is ∙ off))

-- of a folder that tells the same
pub moved-listed : (now told : Option Held) (it : Item) (found : Option Listed) → now ≡ told → IfSome now (λ held. found ≡ listed_at held it) → IfSome told (λ held. found ≡ listed_at held it)
moved-listed now told it found same is = subst (λ (t : Option Held). IfSome t (λ held. found ≡ listed_at held it)) same is

-- All items.

pub listed-next : (told : Option Held) (items : List Item) (i : ℕ) (it : Item) (old found new : Option Listed) → i < length items → it ≡ get_or items i it → IfSome told (λ held. listed_by held old (drop i items) ≡ listed_by held None items) → IfSome told (λ held. found ≡ listed_at held it) → new ≡ newer old found
    → IfSome told (λ held. listed_by held new (drop (i + 1) items) ≡ listed_by held None items)
listed-next None items i it old found new h is so at gives = tt
listed-next (Some held) items i it old found new h is so at gives =
    let split : drop i items ≡ it ∷ drop (i + 1) items = rw (add-one, drop-cons items i it h) (ap (λ (x : Item). x ∷ drop (suc i) items) (sym is)) in
    ap (λ (l : Option Listed). listed_by held l (drop (i + 1) items)) (gives ∙ ap (newer old) at) ∙ sym (ap (listed_by held old) split) ∙ so

keeps : (a b : Bool) (listed : Listed) (old : Option Listed) → cond b (Some listed) (newer old (cond a (Some listed) None)) ≡ cond (a || b) (Some listed) old
keeps true true listed old = refl
keeps true false listed old = refl
keeps false true listed old = refl
keeps false false listed old = refl

by_any : (held : Held) (old : Option Listed) (its : List Item) → listed_by held old its ≡ cond (list_any is_hidden_dir its) (Some (listed_in held)) old
by_any held old [] = refl
by_any held old (it ∷ its) = by_any held (newer old (listed_at held it)) its ∙ keeps (is_hidden_dir it) (list_any is_hidden_dir its) (listed_in held) old

any_agrees : (held : Held) (its : List Item) → list_all (agrees held root) its ≡ true → list_any is_hidden_dir its ≡ true → is_dir (standing held hidden_dir) ≡ true
any_agrees held [] all any = cc
any_agrees held (it ∷ its) all any =
    let a = both (agrees held root it) _ all in elim (one_of (is_hidden_dir it) _ any) [
      | inl here ↦ ap is_dir (agrees_dir held it a.0 here)
      | inr later ↦ any_agrees held its a.1 later
    ]

named_dir : (it : Item) → is_named hidden it ≡ true → is_dir_item (Some it) ≡ true → is_hidden_dir it ≡ true
named_dir (item.File name) n d = cc
named_dir (item.Dir name) n d = n
named_dir (item.Special name) n d = cc
named_dir item.Odd n d = cc

any_named : (its : List Item) → is_dir_item (item_named hidden its) ≡ true → list_any is_hidden_dir its ≡ true
any_named [] d = cc
any_named (it ∷ its) d = here (is_named hidden it) refl d (λ h. any_named its h) where
  here : (n : Bool) → is_named hidden it ≡ n → is_dir_item (cond n (Some it) (item_named hidden its)) ≡ true → (is_dir_item (item_named hidden its) ≡ true → list_any is_hidden_dir its ≡ true) → (is_hidden_dir it || list_any is_hidden_dir its) ≡ true
  here true e h later = ap (λ (b : Bool). b || list_any is_hidden_dir its) (named_dir it e h)
  here false e h later = or_right (is_hidden_dir it) _ (later h)

any_dir : (held : Held) (items : List Item) → IsWhole held → items ≡ items_of held root → list_any is_hidden_dir items ≡ is_dir (standing held hidden_dir)
any_dir held items whole listed = both_ways (list_any is_hidden_dir items) (is_dir (standing held hidden_dir)) there back where
  there : list_any is_hidden_dir items ≡ true → is_dir (standing held hidden_dir) ≡ true
  there = any_agrees held items (ap (list_all (agrees held root)) listed ∙ items-agree held root whole)

  back : is_dir (standing held hidden_dir) ≡ true → list_any is_hidden_dir items ≡ true
  back d = any_named items (ap is_dir_item (hidden_item held items whole listed) ∙ item_dir (standing held hidden_dir) ∙ d)

  both_ways : (a b : Bool) → (a ≡ true → b ≡ true) → (b ≡ true → a ≡ true) → a ≡ b
  both_ways true b t k = sym (t refl)
  both_ways false true t k = k refl
  both_ways false false t k = refl

pub told-root_listed : (told : Option Held) (items : List Item) (listed : Option Listed) → TellsWhole told → ListsRoot told items → IfSome told (λ held. listed ≡ listed_by held None items) → IfSome told (λ held. listed ≡ hidden_listed held)
told-root_listed None items listed whole lists is = tt
told-root_listed (Some held) items listed whole lists is = is ∙ by_any held None items ∙ ap (λ (b : Bool). cond b (Some (listed_in held)) None) (any_dir held items whole lists)

-- beside the entries
pub told-both : (told : Option Held) (special : Held → Option Text) (P : Held → Type 0) (Q : Held → Type 0) → IfSome told (λ held. (special held ≡ None) × P held) → IfSome told Q → IfSome told (λ held. (special held ≡ None) × (P held × Q held))
told-both None special P Q a b = tt
told-both (Some held) special P Q a b = (a.0, (a.1, b))
