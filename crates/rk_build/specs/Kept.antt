-- What the state files of a folder keep, and which damage they have.
use Rattle.std.specs.Prelude.{◌≡◌, ◌≢◌, Bool, true, List, [], Option, Some, None, Result, Ok, Err}
use Rattle.rk_base.specs.Text.{Text}
use Rattle.tr_record.specs.declared.records.Record.{Record}
use Rattle.rk_attrs.specs.Rows.{are_rows}
use Rattle.tr_attrs.specs.Attrs.{attrs_spelling}
use Rattle.tr_parts.specs.Reads.{IsDamage}
use Rattle.tr_kept.specs.KeptSpelling.{IsKeptSpelling}
use Rattle.tr_parts.specs.declared.fault.Damage.{Damage}
use Rattle.rk_attrs.specs.declared.rows.AttrRow.{AttrRow}
use Rattle.rk_folder.specs.Told.{Held}
use Rattle.rk_folder.specs.Import.{read_state, snapshot_of, state_of}
use Rattle.rk_folder.specs.Attributes.{with_rows}
use Rattle.rk_tree.specs.Entries.{Entries}
use Rattle.rk_folder.specs.Specials.{first_special}
use Rattle.rk_folder.specs.declared.hidden_files.State.{State}
use Rattle.rk_build.specs.declared.kept.KeptState.{KeptState}
use Rattle.rk_build.specs.declared.outcome.StateFile.{StateFile}
use Rattle.rk_build.specs.declared.outcome.StateFile.TheVariants as file
use Rattle.rk_build.specs.declared.stop.Refusal.{Refusal}
use Rattle.rk_build.specs.declared.stop.Refusal.TheVariants as refusal
use Rattle.rk_build.specs.declared.stop.BuildErr.{BuildErr}
use Rattle.rk_build.specs.declared.stop.BuildErr.TheVariants as stop

-- these are the rows that attrs spells; where it doesn't stand there are none
abbrev pub SpellsRows : Option Text → List (Text × AttrRow) → Type 0
SpellsRows None rows = rows ≡ []
SpellsRows (Some bytes) rows = (are_rows rows ≡ true) × (bytes ≡ attrs_spelling rows)

-- and no others are
abbrev pub AreRows : Option Text → List (Text × AttrRow) → Type 0
AreRows attrs rows = SpellsRows attrs rows × ((other : List (Text × AttrRow)) → SpellsRows attrs other → rows ≡ other)

-- these are the tables that the database spells, by the version that is written or one before it; where it doesn't stand there are none
abbrev pub Spells : Option Text → List (List Record) → Type 0
Spells None kept = kept ≡ []
Spells (Some bytes) kept = IsKeptSpelling bytes kept

-- and no others are
abbrev pub AreTables : Option Text → List (List Record) → Type 0
AreTables db kept = Spells db kept × ((other : List (List Record)) → Spells db other → kept ≡ other)

-- both state files are well, and these are the rows and the tables of records that they keep
abbrev pub IsKept : State → List (Text × AttrRow) → List (List Record) → Type 0
IsKept state rows kept = AreRows state.attrs rows × AreTables state.db kept

-- attrs stands, and is no spelling
abbrev pub IsDamagedAttrs : Option Text → Damage → Type 0
IsDamagedAttrs None damage = ⊥
IsDamagedAttrs (Some bytes) damage = IsDamage 44 bytes damage × ((rows : List (Text × AttrRow)) → are_rows rows ≡ true → bytes ≢ attrs_spelling rows)

-- the database stands, and is no spelling
abbrev pub IsDamagedDb : Option Text → Damage → Type 0
IsDamagedDb None damage = ⊥
IsDamagedDb (Some bytes) damage = IsDamage 52 bytes damage × ((kept : List (List Record)) → IsKeptSpelling bytes kept → ⊥)

-- this state file is damaged so; attrs comes before the database (a build doesn't look into a list of calls)
abbrev pub IsDamaged : State → StateFile → Damage → Type 0
IsDamaged state file.Attrs damage = IsDamagedAttrs state.attrs damage
IsDamaged state file.Db damage = ((rows : List (Text × AttrRow)) × AreRows state.attrs rows) × IsDamagedDb state.db damage
IsDamaged state file.Install damage = ⊥

-- the state files of a folder
abbrev pub state_in : Held → State
state_in held = (state_of held).state

-- the state files that are decoded: of a build that begins afresh all but the database, which isn't read either
abbrev pub decoded : Bool → State → State
decoded fresh state = read_state fresh state

-- Nothing of the folder is special, its state files are well, and this is so of its entries with the rows of attributes and
-- of the tables of records that are kept, the newest first.
pub record Keeping (fresh : Bool) (held : Held) (P : Entries → List (List Record) → Type 0) : Type 0 where
  pub plain : first_special held ≡ None
  pub rows : List (Text × AttrRow)
  pub old : List (List Record)
  pub kept : IsKept (decoded fresh (state_in held)) rows old
  pub so : P (with_rows (snapshot_of held) rows) old

-- why the folder is refused: its first special path, or else the first state file that is damaged
abbrev pub Refuses : Bool → Held → Refusal → Type 0
Refuses fresh held (refusal.Special path) = first_special held ≡ Some path
Refuses fresh held (refusal.Damaged file damage) = (first_special held ≡ None) × IsDamaged (decoded fresh (state_in held)) file damage

-- What reading tells.

abbrev pub ReadsAttrs : Option Text → Result (List (Text × AttrRow)) BuildErr → Type 0
ReadsAttrs attrs (Ok rows) = AreRows attrs rows
ReadsAttrs attrs (Err (stop.Refused (refusal.Special path))) = ⊥
ReadsAttrs attrs (Err (stop.Refused (refusal.Damaged file.Attrs damage))) = IsDamagedAttrs attrs damage
ReadsAttrs attrs (Err (stop.Refused (refusal.Damaged file.Db damage))) = ⊥
ReadsAttrs attrs (Err (stop.Refused (refusal.Damaged file.Install damage))) = ⊥
ReadsAttrs attrs (Err (stop.Forged rec step)) = ⊥
ReadsAttrs attrs (Err stop.Spent) = ⊥
ReadsAttrs attrs (Err stop.ReadFault) = ⊥
ReadsAttrs attrs (Err stop.WriteFault) = ⊥
ReadsAttrs attrs (Err stop.NoMemory) = Unit {0}

abbrev pub ReadsDb : Option Text → Result (List (List Record)) BuildErr → Type 0
ReadsDb db (Ok kept) = AreTables db kept
ReadsDb db (Err (stop.Refused (refusal.Special path))) = ⊥
ReadsDb db (Err (stop.Refused (refusal.Damaged file.Attrs damage))) = ⊥
ReadsDb db (Err (stop.Refused (refusal.Damaged file.Db damage))) = IsDamagedDb db damage
ReadsDb db (Err (stop.Refused (refusal.Damaged file.Install damage))) = ⊥
ReadsDb db (Err (stop.Forged rec step)) = ⊥
ReadsDb db (Err stop.Spent) = ⊥
ReadsDb db (Err stop.ReadFault) = ⊥
ReadsDb db (Err stop.WriteFault) = ⊥
ReadsDb db (Err stop.NoMemory) = Unit {0}

abbrev pub ReadsState : State → Result KeptState BuildErr → Type 0
ReadsState state (Ok kept) = IsKept state kept.attrs kept.old
ReadsState state (Err (stop.Refused (refusal.Special path))) = ⊥
ReadsState state (Err (stop.Refused (refusal.Damaged file damage))) = IsDamaged state file damage
ReadsState state (Err (stop.Forged rec step)) = ⊥
ReadsState state (Err stop.Spent) = ⊥
ReadsState state (Err stop.ReadFault) = ⊥
ReadsState state (Err stop.WriteFault) = ⊥
ReadsState state (Err stop.NoMemory) = Unit {0}
