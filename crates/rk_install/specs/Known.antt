-- What is known of a folder: what stands at a path, by listings and by the calls that were made since.
use Rattle.std.specs.Prelude.{◌≡◌, List, Bool, true, false, Option, Some, None, IfSome, if◌then◌else◌}
use Rattle.std.specs.BTreeMap.{is_at}
use Rattle.std.specs.List.{fold}
use Rattle.std.specs.Map.{lookup}
use Rattle.rk_base.specs.Text.{Text, text_cmp, join}
use Rattle.rk_base.specs.Canonical.{is_canonical, is_name}
use Rattle.rk_folder.specs.Told.{Held, standing}
use Rattle.rk_folder.specs.declared.folder.Item.{Item}
use Rattle.rk_folder.specs.declared.folder.Item.TheVariants as item
use Rattle.rk_seal.specs.Ops.{path_of}
use Rattle.rk_seal.specs.declared.ops.Op.{Op}
use Rattle.rk_install.specs.Calls.{left_by}
use Rattle.rk_install.specs.Looks.{place_by, place_of}
use Rattle.rk_install.specs.declared.knowing.Known.{Known}
use Rattle.rk_install.specs.declared.knowing.Seen.{Seen}
use Rattle.rk_install.specs.declared.looking.Place.{Place}
use Rattle.rk_install.specs.declared.looking.Place.TheVariants.{Free, Dir}

-- what was seen at a path
abbrev pub seen_at : Known → Text → Option Seen
seen_at known path = lookup (is_at (text_cmp path)) known.seen.entries

abbrev pub nothing_seen : Text → Option Seen
nothing_seen path = None

-- something is seen at a path, in the place of what was seen there
abbrev pub with_seen : Text → Seen → (Text → Option Seen) → Text → Option Seen
with_seen path it seen q = if is_at (text_cmp path) q then Some it else seen q

abbrev pub unlisted : Place → Seen
unlisted place = record { place = place; is_listed = false }

abbrev pub listed_dir : Seen
listed_dir = record { place = Dir; is_listed = true }

abbrev pub name_listed : Item → Option Text
name_listed (item.File name) = Some name
name_listed (item.Dir name) = Some name
name_listed (item.Special name) = Some name
name_listed item.Odd = None

abbrev pub with_name : Text → (Text → Option Seen) → Option Text → Place → Text → Option Seen
with_name dir seen None place = seen
with_name dir seen (Some name) place = with_seen (join dir name) (unlisted place) seen

-- an item of a directory
abbrev pub with_item : Text → (Text → Option Seen) → Item → Text → Option Seen
with_item dir seen it = with_name dir seen (name_listed it) (place_by (Some it))

abbrev pub with_items : Text → List Item → (Text → Option Seen) → Text → Option Seen
with_items dir items seen = fold (with_item dir) seen items

-- all that is listed in a directory, which is listed then
abbrev pub with_listing : Text → List Item → (Text → Option Seen) → Text → Option Seen
with_listing dir items seen = with_seen dir listed_dir (with_items dir items seen)

-- what a call leaves
abbrev pub with_call : Op → (Text → Option Seen) → Text → Option Seen
with_call op seen = with_seen (path_of op) (unlisted (place_of true (left_by op))) seen

abbrev pub is_listed_dir : Option Seen → Bool
is_listed_dir None = false
is_listed_dir (Some it) = it.is_listed

-- in a directory that is listed, nothing stands where nothing was seen
abbrev pub place_seen : Option Seen → Place
place_seen None = Free
place_seen (Some it) = it.place

-- What was seen stands there, and in a directory that is listed nothing else.
pub record Knows (held : Held) (seen : Text → Option Seen) : Type 0 where
  pub found : (path : Text) (it : Seen) → seen path ≡ Some it → it.place ≡ place_of true (standing held path)
  pub rest : (dir name : Text) → is_canonical dir ≡ true → is_name name ≡ true → is_listed_dir (seen dir) ≡ true → seen (join dir name) ≡ None → standing held (join dir name) ≡ None

-- where the folder tells what it holds
abbrev pub KnowsTold : Option Held → Known → Type 0
KnowsTold told known = IfSome told (λ held. Knows held (seen_at known))
