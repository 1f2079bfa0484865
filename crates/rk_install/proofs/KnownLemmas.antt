-- What is known of a folder.
use Rattle.std.proofs.Common.{◌≡◌, ◌⊎◌, inl, inr, List, [], ◌∷◌, Bool, true, false, cond, Option, Some, None, IfSome, Result, Ok, Err, OnOk, option_map, refl, sym, ap, subst, ◌∙◌}
use Rattle.std.specs.List.{list_all}
use Rattle.std.specs.Ordering.{eq_by_cmp}
use Rattle.rk_base.specs.Text.{Text, text_cmp, join, same_text}
use Rattle.rk_base.specs.Canonical.{is_canonical, is_name}
use Rattle.rk_base.proofs.CanonicalLemmas.{both}
use Rattle.rk_tree.proofs.TextLemmas.{same_is, ties_itself, told_apart}
use Rattle.rk_folder.specs.Specials.{is_special}
use Rattle.rk_folder.specs.Steps.{agrees, is_named, item_named}
use Rattle.rk_folder.specs.Told.{Held, standing, is_dir, is_file, item_of, items_of}
use Rattle.rk_folder.specs.Whole.{IsWhole, TellsWhole}
use Rattle.rk_folder.specs.declared.folder.Item.{Item}
use Rattle.rk_folder.specs.declared.folder.Item.TheVariants as item
use Rattle.rk_folder.specs.declared.folder.Standing.{Standing}
use Rattle.rk_folder.specs.declared.folder.Standing.TheVariants as standing
use Rattle.rk_folder.proofs.ListingLemmas.{item_named-is, items-agree}
use Rattle.rk_seal.specs.Ops.{path_of}
use Rattle.rk_seal.specs.declared.ops.Op.{Op}
use Rattle.rk_install.specs.Calls.{left_by, step}
use Rattle.rk_install.specs.Known.{Knows, KnowsTold, is_listed_dir, listed_dir, name_listed, nothing_seen, place_seen, seen_at, unlisted, with_call, with_item, with_items, with_listing, with_name, with_seen}
use Rattle.rk_install.specs.Looks.{place_by, place_of}
use Rattle.rk_install.specs.declared.knowing.Known.{Known}
use Rattle.rk_install.specs.declared.knowing.Seen.{Seen}
use Rattle.rk_install.specs.declared.looking.Place.{Place}
use Rattle.rk_install.specs.declared.looking.Place.TheVariants.{File, Dir, Special}
use Rattle.rk_install.proofs.LookLemmas.{moved-told}
use Rattle.rk_install.proofs.StepLemmas.{standing-step}

clash : (b : Bool) → b ≡ true → b ≡ false → ⊥
clash b t f = cc

some_none : (it : Seen) (o : Option Seen) → o ≡ Some it → o ≡ None → ⊥
some_none it o s n = cc

one_seen : (a b : Seen) → Some a ≡ Some b → a ≡ b
one_seen a b e = cc

-- What is seen after something was seen at a path.

seen_cases : (path : Text) (it : Seen) (seen : Text → Option Seen) (q : Text) → ((q ≡ path) × (with_seen path it seen q ≡ Some it)) ⊎ ((q ≡ path → ⊥) × (with_seen path it seen q ≡ seen q))
seen_cases path it seen q = elim (told_apart path q) [
  | inl same ↦ inl (sym same.0, ap (λ (b : Bool). cond b (Some it) (seen q)) same.1)
  | inr apart ↦ inr ((λ (e : q ≡ path). apart.0 (sym e)), ap (λ (b : Bool). cond b (Some it) (seen q)) apart.1)
]

seen_here : (path : Text) (it : Seen) (seen : Text → Option Seen) → with_seen path it seen path ≡ Some it
seen_here path it seen = ap (λ (b : Bool). cond b (Some it) (seen path)) (ties_itself path)

none_before : (path : Text) (it : Seen) (seen : Text → Option Seen) (q : Text) → with_seen path it seen q ≡ None → seen q ≡ None
none_before path it seen q none = elim (seen_cases path it seen q) [
  | inl same ↦ absurd (some_none it (with_seen path it seen q) same.1 none)
  | inr apart ↦ sym apart.1 ∙ none
]

listed_before : (path : Text) (place : Place) (seen : Text → Option Seen) (dir : Text) → is_listed_dir (with_seen path (unlisted place) seen dir) ≡ true → is_listed_dir (seen dir) ≡ true
listed_before path place seen dir listed = elim (seen_cases path (unlisted place) seen dir) [
  | inl same ↦ absurd (clash (is_listed_dir (with_seen path (unlisted place) seen dir)) listed (ap is_listed_dir same.1))
  | inr apart ↦ ap is_listed_dir (sym apart.1) ∙ listed
]

-- a place that is so
found_more : (held : Held) (path : Text) (it : Seen) (seen : Text → Option Seen) → Knows held seen → it.place ≡ place_of true (standing held path) → (q : Text) (s : Seen) → with_seen path it seen q ≡ Some s → s.place ≡ place_of true (standing held q)
found_more held path it seen knows so q s at = elim (seen_cases path it seen q) [
  | inl same ↦ ap (λ (x : Seen). x.place) (one_seen s it (sym at ∙ same.1)) ∙ so ∙ ap (λ (p : Text). place_of true (standing held p)) (sym same.0)
  | inr apart ↦ knows.found q s (sym apart.1 ∙ at)
]

knows_seen : (held : Held) (path : Text) (place : Place) (seen : Text → Option Seen) → Knows held seen → place ≡ place_of true (standing held path) → Knows held (with_seen path (unlisted place) seen)
knows_seen held path place seen knows so = record {
  found = found_more held path (unlisted place) seen knows so;
  rest = λ dir name c n listed none. knows.rest dir name c n (listed_before path place seen dir listed) (none_before path (unlisted place) seen (join dir name) none);
}

-- Nothing is seen yet.

no_sight : (it : Seen) → None ≡ Some it → ⊥
no_sight it e = cc

knows_nothing : (held : Held) → Knows held nothing_seen
knows_nothing held = record {
  found = λ path it at. absurd (no_sight it at);
  rest = λ dir name c n listed none. absurd (clash false listed refl);
}

pub told-knows_none : (told : Option Held) (seen : Text → Option Seen) → seen ≡ nothing_seen → IfSome told (λ held. Knows held seen)
told-knows_none None seen is = tt
told-knows_none (Some held) seen is = subst (λ (f : Text → Option Seen). Knows held f) (sym is) (knows_nothing held)

-- What is listed.

stands_file : (o : Option Standing) → is_file o ≡ true → File ≡ place_of true o
stands_file None h = cc
stands_file (Some (standing.File bytes)) h = refl
stands_file (Some standing.Dir) h = cc
stands_file (Some standing.Special) h = cc

stands_dir : (o : Option Standing) → is_dir o ≡ true → Dir ≡ place_of true o
stands_dir None h = cc
stands_dir (Some (standing.File bytes)) h = cc
stands_dir (Some standing.Dir) h = refl
stands_dir (Some standing.Special) h = cc

stands_special : (o : Option Standing) → is_special o ≡ true → Special ≡ place_of true o
stands_special None h = cc
stands_special (Some (standing.File bytes)) h = cc
stands_special (Some standing.Dir) h = cc
stands_special (Some standing.Special) h = refl

knows_item : (held : Held) (dir : Text) (seen : Text → Option Seen) (it : Item) → Knows held seen → agrees held dir it ≡ true → Knows held (with_item dir seen it)
knows_item held dir seen (item.File name) knows so = knows_seen held (join dir name) File seen knows (stands_file (standing held (join dir name)) (both (is_name name) (is_file (standing held (join dir name))) so).1)
knows_item held dir seen (item.Dir name) knows so = knows_seen held (join dir name) Dir seen knows (stands_dir (standing held (join dir name)) (both (is_name name) (is_dir (standing held (join dir name))) so).1)
knows_item held dir seen (item.Special name) knows so = knows_seen held (join dir name) Special seen knows (stands_special (standing held (join dir name)) (both (is_name name) (is_special (standing held (join dir name))) so).1)
knows_item held dir seen item.Odd knows so = knows

knows_items : (held : Held) (dir : Text) (items : List Item) (seen : Text → Option Seen) → Knows held seen → list_all (agrees held dir) items ≡ true → Knows held (with_items dir items seen)
knows_items held dir [] seen knows so = knows
knows_items held dir (it ∷ items) seen knows so =
    let h = both (agrees held dir it) (list_all (agrees held dir) items) so in
    knows_items held dir items (with_item dir seen it) (knows_item held dir seen it knows h.0) h.1

-- what isn't seen then wasn't before
item_none : (dir : Text) (seen : Text → Option Seen) (it : Item) (q : Text) → with_item dir seen it q ≡ None → seen q ≡ None
item_none dir seen (item.File name) q none = none_before (join dir name) (unlisted File) seen q none
item_none dir seen (item.Dir name) q none = none_before (join dir name) (unlisted Dir) seen q none
item_none dir seen (item.Special name) q none = none_before (join dir name) (unlisted Special) seen q none
item_none dir seen item.Odd q none = none

items_none : (dir : Text) (items : List Item) (seen : Text → Option Seen) (q : Text) → with_items dir items seen q ≡ None → seen q ≡ None
items_none dir [] seen q none = none
items_none dir (it ∷ items) seen q none = item_none dir seen it q (items_none dir items (with_item dir seen it) q none)

-- and isn't listed
unnamed : (dir name n : Text) (place : Place) (seen : Text → Option Seen) (b : Bool) → same_text n name ≡ b → with_seen (join dir n) (unlisted place) seen (join dir name) ≡ None → b ≡ false
unnamed dir name n place seen true is none =
    absurd (some_none (unlisted place) (with_seen (join dir n) (unlisted place) seen (join dir name)) (sym (ap (λ (t : Text). with_seen (join dir n) (unlisted place) seen (join dir t)) (same_is n name is)) ∙ seen_here (join dir n) (unlisted place) seen) none)
unnamed dir name n place seen false is none = refl

unnamed_item : (dir name : Text) (seen : Text → Option Seen) (it : Item) → with_item dir seen it (join dir name) ≡ None → is_named name it ≡ false
unnamed_item dir name seen (item.File n) none = unnamed dir name n File seen (same_text n name) refl none
unnamed_item dir name seen (item.Dir n) none = unnamed dir name n Dir seen (same_text n name) refl none
unnamed_item dir name seen (item.Special n) none = unnamed dir name n Special seen (same_text n name) refl none
unnamed_item dir name seen item.Odd none = refl

unnamed_items : (dir name : Text) (items : List Item) (seen : Text → Option Seen) → with_items dir items seen (join dir name) ≡ None → item_named name items ≡ None
unnamed_items dir name [] seen none = refl
unnamed_items dir name (it ∷ items) seen none =
    ap (λ (b : Bool). cond b (Some it) (item_named name items)) (unnamed_item dir name seen it (items_none dir items (with_item dir seen it) (join dir name) none))
    ∙ unnamed_items dir name items (with_item dir seen it) none

nothing_listed : (name : Text) (o : Option Standing) → option_map (item_of name) o ≡ None → o ≡ None
nothing_listed name None h = refl
nothing_listed name (Some it) h = cc

listing_rest : (held : Held) (dir : Text) (items : List Item) (seen : Text → Option Seen) → IsWhole held → items ≡ items_of held dir → Knows held (with_items dir items seen)
    → (at name : Text) → is_canonical at ≡ true → is_name name ≡ true → is_listed_dir (with_listing dir items seen at) ≡ true → with_listing dir items seen (join at name) ≡ None → standing held (join at name) ≡ None
listing_rest held dir items seen whole are knows at name c n listed none =
    let mid : Text → Option Seen = with_items dir items seen in
    let gone = none_before dir listed_dir mid (join at name) none in
    elim (seen_cases dir listed_dir mid at) [
      | inl same ↦ nothing_listed name (standing held (join at name)) (
          sym (item_named-is held at name whole c n)
          ∙ ap (λ (d : Text). item_named name (items_of held d)) same.0
          ∙ ap (item_named name) (sym are)
          ∙ unnamed_items dir name items seen (sym (ap (λ (d : Text). mid (join d name)) same.0) ∙ gone)
          )
      | inr apart ↦ knows.rest at name c n (ap is_listed_dir (sym apart.1) ∙ listed) gone
    ]

knows_listing : (held : Held) (dir : Text) (items : List Item) (seen : Text → Option Seen) → IsWhole held → is_dir (standing held dir) ≡ true → items ≡ items_of held dir → Knows held seen → Knows held (with_listing dir items seen)
knows_listing held dir items seen whole stands are knows =
    let all : Knows held (with_items dir items seen) = knows_items held dir items seen knows (ap (list_all (agrees held dir)) are ∙ items-agree held dir whole) in
    record {
      found = found_more held dir listed_dir (with_items dir items seen) all (stands_dir (standing held dir) stands);
      rest = listing_rest held dir items seen whole are all;
    }

listing_told : (told : Option Held) (dir : Text) (items : List Item) (seen new : Text → Option Seen) → TellsWhole told → IfSome told (λ held. is_dir (standing held dir) ≡ true) → IfSome told (λ held. items ≡ items_of held dir) → IfSome told (λ held. Knows held seen) → new ≡ with_listing dir items seen
    → IfSome told (λ held. Knows held new)
listing_told None dir items seen new whole stands are knows is = tt
listing_told (Some held) dir items seen new whole stands are knows is = subst (λ (f : Text → Option Seen). Knows held f) (sym is) (knows_listing held dir items seen whole stands are knows)

pub told-knows_listing : (told now : Option Held) (dir : Text) (items same : List Item) (seen new : Text → Option Seen) → now ≡ told → TellsWhole told → IfSome told (λ held. is_dir (standing held dir) ≡ true) → IfSome told (λ held. items ≡ items_of held dir) → same ≡ items → IfSome told (λ held. Knows held seen) → new ≡ with_listing dir same seen
    → IfSome now (λ held. Knows held new)
told-knows_listing told now dir items same seen new moved whole stands are is knows made =
    moved-told (λ held. Knows held new) told now (sym moved) (listing_told told dir items seen new whole stands are knows (made ∙ ap (λ (its : List Item). with_listing dir its seen) is))

pub listed_now : (dir : Text) (items : List Item) (seen new : Text → Option Seen) → new ≡ with_listing dir items seen → is_listed_dir (new dir) ≡ true
listed_now dir items seen new is = ap (λ (f : Text → Option Seen). is_listed_dir (f dir)) is ∙ ap is_listed_dir (seen_here dir listed_dir (with_items dir items seen))

-- an item, by its name
pub item-kept : {T E : Type 0} (result : Result T E) (dir name : Text) (it : Item) (place : Place) (seen new : Text → Option Seen) → OnOk result (new ≡ with_seen (join dir name) (unlisted place) seen) → Some name ≡ name_listed it → place ≡ place_by (Some it) → OnOk result (new ≡ with_item dir seen it)
item-kept (Ok done) dir name it place seen new is named at = is ∙ ap (λ (p : Place). with_seen (join dir name) (unlisted p) seen) at ∙ ap (λ (o : Option Text). with_name dir seen o (place_by (Some it))) named
item-kept (Err e) dir name it place seen new is named at = tt

-- A call is made.

standing_left : (op : Op) (held : Held) (q : Text) → q ≡ path_of op → standing (step op held) q ≡ left_by op
standing_left op held q at =
    standing-step op held q ∙ ap (λ (p : Text). cond (eq_by_cmp text_cmp p (path_of op)) (left_by op) (standing held q)) at ∙ ap (λ (b : Bool). cond b (left_by op) (standing held q)) (ties_itself (path_of op))

standing_kept : (op : Op) (held : Held) (q : Text) → (q ≡ path_of op → ⊥) → standing (step op held) q ≡ standing held q
standing_kept op held q apart = elim (told_apart q (path_of op)) [
  | inl same ↦ absurd (apart same.0)
  | inr other ↦ standing-step op held q ∙ ap (λ (b : Bool). cond b (left_by op) (standing held q)) other.1
]

call_found : (held : Held) (op : Op) (seen : Text → Option Seen) → Knows held seen → (q : Text) (s : Seen) → with_call op seen q ≡ Some s → s.place ≡ place_of true (standing (step op held) q)
call_found held op seen knows q s at =
    let it : Seen = unlisted (place_of true (left_by op)) in
    elim (seen_cases (path_of op) it seen q) [
      | inl same ↦ ap (λ (x : Seen). x.place) (one_seen s it (sym at ∙ same.1)) ∙ ap (place_of true) (sym (standing_left op held q same.0))
      | inr apart ↦ knows.found q s (sym apart.1 ∙ at) ∙ ap (place_of true) (sym (standing_kept op held q apart.0))
    ]

call_rest : (held : Held) (op : Op) (seen : Text → Option Seen) → Knows held seen → (dir name : Text) → is_canonical dir ≡ true → is_name name ≡ true → is_listed_dir (with_call op seen dir) ≡ true → with_call op seen (join dir name) ≡ None → standing (step op held) (join dir name) ≡ None
call_rest held op seen knows dir name c n listed none =
    let place : Place = place_of true (left_by op) in
    elim (seen_cases (path_of op) (unlisted place) seen (join dir name)) [
      | inl same ↦ absurd (some_none (unlisted place) (with_call op seen (join dir name)) same.1 none)
      | inr apart ↦ standing_kept op held (join dir name) apart.0 ∙ knows.rest dir name c n (listed_before (path_of op) place seen dir listed) (sym apart.1 ∙ none)
    ]

knows_call : (held : Held) (op : Op) (seen : Text → Option Seen) → Knows held seen → Knows (step op held) (with_call op seen)
knows_call held op seen knows = record { found = call_found held op seen knows; rest = call_rest held op seen knows }

call_told : (told : Option Held) (op : Op) (seen now : Text → Option Seen) → IfSome told (λ held. Knows held seen) → now ≡ with_call op seen → IfSome (option_map (step op) told) (λ held. Knows held now)
call_told None op seen now knows is = tt
call_told (Some held) op seen now knows is = subst (λ (f : Text → Option Seen). Knows (step op held) f) (sym is) (knows_call held op seen knows)

pub told-knows_call : (told new : Option Held) (op : Op) (seen now : Text → Option Seen) → new ≡ option_map (step op) told → IfSome told (λ held. Knows held seen) → now ≡ with_call op seen → IfSome new (λ held. Knows held now)
told-knows_call told new op seen now made knows is = moved-told (λ held. Knows held now) (option_map (step op) told) new (sym made) (call_told told op seen now knows is)

-- Looking up.

known_place : (held : Held) (dir name : Text) (seen : Text → Option Seen) → Knows held seen → is_canonical dir ≡ true → is_name name ≡ true → is_listed_dir (seen dir) ≡ true → place_seen (seen (join dir name)) ≡ place_of true (standing held (join dir name))
known_place held dir name seen knows c n listed = (elim (seen (join dir name)) as (λ (o : Option Seen). seen (join dir name) ≡ o → place_seen o ≡ place_of true (standing held (join dir name))) [
  | None ↦ λ e. sym (ap (place_of true) (knows.rest dir name c n listed e))
  | Some it ↦ λ e. knows.found (join dir name) it e
]) refl

place_told : (told : Option Held) (dir name path : Text) (seen : Text → Option Seen) (place : Place) → is_canonical dir ≡ true → is_name name ≡ true → IfSome told (λ held. Knows held seen) → is_listed_dir (seen dir) ≡ true → path ≡ join dir name → place ≡ place_seen (seen path)
    → IfSome told (λ held. place ≡ place_of true (standing held (join dir name)))
place_told None dir name path seen place c n knows listed at is = tt
place_told (Some held) dir name path seen place c n knows listed at is = is ∙ ap (λ (p : Text). place_seen (seen p)) at ∙ known_place held dir name seen knows c n listed

pub told-known_place : (now told : Option Held) (dir name path : Text) (seen : Text → Option Seen) (place : Place) → now ≡ told → is_canonical dir ≡ true → is_name name ≡ true → IfSome now (λ held. Knows held seen) → is_listed_dir (seen dir) ≡ true → path ≡ join dir name → place ≡ place_seen (seen path)
    → IfSome told (λ held. place ≡ place_of true (standing held (join dir name)))
told-known_place now told dir name path seen place same c n knows listed at is = moved-told (λ held. place ≡ place_of true (standing held (join dir name))) now told same (place_told now dir name path seen place c n knows listed at is)

-- of a folder that tells the same
pub told-still_known : (now told : Option Held) (known : Known) → now ≡ told → KnowsTold told known → KnowsTold now known
told-still_known now told known same knows = moved-told (λ held. Knows held (seen_at known)) told now (sym same) knows
