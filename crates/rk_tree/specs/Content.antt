-- What a file holds, and what is known of it.
use Rattle.std.proofs.Common.{◌≡◌, [], Option, Some, None, ◌⊎◌, inl, inr, refl}
use Rattle.std.specs.Coded.{Coded, code_by, coded×, coded⊎, coded_ℕ, coded_list}
use Rattle.rk_base.specs.Text.{Text}
pub use Rattle.rk_tree.specs.declared.content.Content.{Content}
pub use Rattle.rk_tree.specs.declared.content.Content.TheVariants.{Own, Unread, Read}

-- the bytes that are known; none of what wasn't read
abbrev pub bytes_of : Content → Text
bytes_of (Own bytes) = bytes
bytes_of (Unread path) = []
bytes_of (Read path bytes) = bytes

-- the bytes, where they are known
abbrev pub known_bytes : Content → Option Text
known_bytes (Own bytes) = Some bytes
known_bytes (Unread path) = None
known_bytes (Read path bytes) = Some bytes

-- where it came from, until it is written or emptied
abbrev pub import_path : Content → Option Text
import_path (Own bytes) = None
import_path (Unread path) = Some path
import_path (Read path bytes) = Some path

-- bytes that are known now beside the import path
abbrev pub with_known : Text → Content → Content
with_known bytes (Own own) = Own own
with_known bytes (Unread path) = Read path bytes
with_known bytes (Read path own) = Read path own

-- by which a proof tells two of them apart

abbrev pub Stored : Type 0
Stored = Text ⊎ (Text ⊎ (Text × Text))

abbrev pub stored : Content → Stored
stored (Own bytes) = inl bytes
stored (Unread path) = inr (inl path)
stored (Read path bytes) = inr (inr (path, bytes))

abbrev pub content_in : Stored → Content
content_in (inl bytes) = Own bytes
content_in (inr (inl path)) = Unread path
content_in (inr (inr both)) = Read both.0 both.1

pub content_back : (it : Content) → content_in (stored it) ≡ it
content_back (Own bytes) = refl
content_back (Unread path) = refl
content_back (Read path bytes) = refl

abbrev pub content_code : Coded Content
content_code = code_by Stored (coded⊎ (coded_list coded_ℕ) (coded⊎ (coded_list coded_ℕ) (coded× (coded_list coded_ℕ) (coded_list coded_ℕ)))) stored content_in content_back
