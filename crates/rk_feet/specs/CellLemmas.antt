-- Cells are told apart.
use Rattle.std.proofs.Common.{◌≡◌, true, false, ◌&&◌, refl, ap, ap₂}
use Rattle.std.specs.Prelude.{◌==◌}
use Rattle.std.proofs.lemmas.Bool.{eqb-true}
use Rattle.rk_base.proofs.WithinLemmas.{same_is, same_itself}
use Rattle.rk_waves.specs.Programs.{Cells}
use Rattle.rk_feet.specs.Named.{Name, Plain, EntryOf, AboveOf, ModeOf, BytesOf, OpenOf, PipeOf, OutputText, ErrorText, Used}
use Rattle.rk_feet.specs.Naming.{same_name}
use Rattle.rk_feet.specs.World.{is_plain, group_of}
use Rattle.rk_feet.specs.NamingLemmas.{clash, both, equal, name-is, name-self}

pub plain-is : (p q : Plain) → is_plain p q ≡ true → p ≡ q
plain-is (EntryOf d a) (EntryOf e b) h = let two = both (same_name d e) _ h in ap₂ EntryOf (name-is d e two.0) (same_is a b two.1)
plain-is (AboveOf d) (AboveOf e) h = ap AboveOf (name-is d e h)
plain-is (ModeOf d) (ModeOf e) h = ap ModeOf (name-is d e h)
plain-is (BytesOf d) (BytesOf e) h = ap BytesOf (name-is d e h)
plain-is (OpenOf d) (OpenOf e) h = ap OpenOf (name-is d e h)
plain-is (PipeOf d) (PipeOf e) h = ap PipeOf (name-is d e h)
plain-is OutputText OutputText h = refl
plain-is ErrorText ErrorText h = refl
plain-is (Used r s) (Used t u) h = let two = both (r == t) _ h in ap₂ Used (eqb-true r t two.0) (eqb-true s u two.1)
plain-is (EntryOf d a) (AboveOf e) h = absurd (clash false h refl)
plain-is (EntryOf d a) (ModeOf e) h = absurd (clash false h refl)
plain-is (EntryOf d a) (BytesOf e) h = absurd (clash false h refl)
plain-is (EntryOf d a) (OpenOf e) h = absurd (clash false h refl)
plain-is (EntryOf d a) (PipeOf e) h = absurd (clash false h refl)
plain-is (EntryOf d a) OutputText h = absurd (clash false h refl)
plain-is (EntryOf d a) ErrorText h = absurd (clash false h refl)
plain-is (EntryOf d a) (Used t u) h = absurd (clash false h refl)
plain-is (AboveOf d) (EntryOf e b) h = absurd (clash false h refl)
plain-is (AboveOf d) (ModeOf e) h = absurd (clash false h refl)
plain-is (AboveOf d) (BytesOf e) h = absurd (clash false h refl)
plain-is (AboveOf d) (OpenOf e) h = absurd (clash false h refl)
plain-is (AboveOf d) (PipeOf e) h = absurd (clash false h refl)
plain-is (AboveOf d) OutputText h = absurd (clash false h refl)
plain-is (AboveOf d) ErrorText h = absurd (clash false h refl)
plain-is (AboveOf d) (Used t u) h = absurd (clash false h refl)
plain-is (ModeOf d) (EntryOf e b) h = absurd (clash false h refl)
plain-is (ModeOf d) (AboveOf e) h = absurd (clash false h refl)
plain-is (ModeOf d) (BytesOf e) h = absurd (clash false h refl)
plain-is (ModeOf d) (OpenOf e) h = absurd (clash false h refl)
plain-is (ModeOf d) (PipeOf e) h = absurd (clash false h refl)
plain-is (ModeOf d) OutputText h = absurd (clash false h refl)
plain-is (ModeOf d) ErrorText h = absurd (clash false h refl)
plain-is (ModeOf d) (Used t u) h = absurd (clash false h refl)
plain-is (BytesOf d) (EntryOf e b) h = absurd (clash false h refl)
plain-is (BytesOf d) (AboveOf e) h = absurd (clash false h refl)
plain-is (BytesOf d) (ModeOf e) h = absurd (clash false h refl)
plain-is (BytesOf d) (OpenOf e) h = absurd (clash false h refl)
plain-is (BytesOf d) (PipeOf e) h = absurd (clash false h refl)
plain-is (BytesOf d) OutputText h = absurd (clash false h refl)
plain-is (BytesOf d) ErrorText h = absurd (clash false h refl)
plain-is (BytesOf d) (Used t u) h = absurd (clash false h refl)
plain-is (OpenOf d) (EntryOf e b) h = absurd (clash false h refl)
plain-is (OpenOf d) (AboveOf e) h = absurd (clash false h refl)
plain-is (OpenOf d) (ModeOf e) h = absurd (clash false h refl)
plain-is (OpenOf d) (BytesOf e) h = absurd (clash false h refl)
plain-is (OpenOf d) (PipeOf e) h = absurd (clash false h refl)
plain-is (OpenOf d) OutputText h = absurd (clash false h refl)
plain-is (OpenOf d) ErrorText h = absurd (clash false h refl)
plain-is (OpenOf d) (Used t u) h = absurd (clash false h refl)
plain-is (PipeOf d) (EntryOf e b) h = absurd (clash false h refl)
plain-is (PipeOf d) (AboveOf e) h = absurd (clash false h refl)
plain-is (PipeOf d) (ModeOf e) h = absurd (clash false h refl)
plain-is (PipeOf d) (BytesOf e) h = absurd (clash false h refl)
plain-is (PipeOf d) (OpenOf e) h = absurd (clash false h refl)
plain-is (PipeOf d) OutputText h = absurd (clash false h refl)
plain-is (PipeOf d) ErrorText h = absurd (clash false h refl)
plain-is (PipeOf d) (Used t u) h = absurd (clash false h refl)
plain-is OutputText (EntryOf e b) h = absurd (clash false h refl)
plain-is OutputText (AboveOf e) h = absurd (clash false h refl)
plain-is OutputText (ModeOf e) h = absurd (clash false h refl)
plain-is OutputText (BytesOf e) h = absurd (clash false h refl)
plain-is OutputText (OpenOf e) h = absurd (clash false h refl)
plain-is OutputText (PipeOf e) h = absurd (clash false h refl)
plain-is OutputText ErrorText h = absurd (clash false h refl)
plain-is OutputText (Used t u) h = absurd (clash false h refl)
plain-is ErrorText (EntryOf e b) h = absurd (clash false h refl)
plain-is ErrorText (AboveOf e) h = absurd (clash false h refl)
plain-is ErrorText (ModeOf e) h = absurd (clash false h refl)
plain-is ErrorText (BytesOf e) h = absurd (clash false h refl)
plain-is ErrorText (OpenOf e) h = absurd (clash false h refl)
plain-is ErrorText (PipeOf e) h = absurd (clash false h refl)
plain-is ErrorText OutputText h = absurd (clash false h refl)
plain-is ErrorText (Used t u) h = absurd (clash false h refl)
plain-is (Used r s) (EntryOf e b) h = absurd (clash false h refl)
plain-is (Used r s) (AboveOf e) h = absurd (clash false h refl)
plain-is (Used r s) (ModeOf e) h = absurd (clash false h refl)
plain-is (Used r s) (BytesOf e) h = absurd (clash false h refl)
plain-is (Used r s) (OpenOf e) h = absurd (clash false h refl)
plain-is (Used r s) (PipeOf e) h = absurd (clash false h refl)
plain-is (Used r s) OutputText h = absurd (clash false h refl)
plain-is (Used r s) ErrorText h = absurd (clash false h refl)

pub plain-self : (p : Plain) → is_plain p p ≡ true
plain-self (EntryOf d a) = ap₂ ◌&&◌ (name-self d) (same_itself a)
plain-self (AboveOf d) = name-self d
plain-self (ModeOf d) = name-self d
plain-self (BytesOf d) = name-self d
plain-self (OpenOf d) = name-self d
plain-self (PipeOf d) = name-self d
plain-self OutputText = refl
plain-self ErrorText = refl
plain-self (Used r s) = ap₂ ◌&&◌ (equal r) (equal s)

abbrev pub cells : Cells Plain Name
cells = record {
  is_plain = is_plain;
  is_group = same_name;
  group_of = group_of;
  plain_is = plain-is;
  plain_self = plain-self;
  group_is = name-is;
  group_self = name-self;
}
