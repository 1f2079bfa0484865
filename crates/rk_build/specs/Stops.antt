-- What a build leaves where its install stopped is finished to what it was to leave.
use Rattle.std.specs.Prelude.{◌≡◌, ◌⊎◌, ◌<◌, ◌^◌, List, length, Option, Some, None, IfSome}
use Rattle.rk_calls.specs.Keys.{KeyValue}
use Rattle.rk_calls.specs.Talk.{Says}
use Rattle.rk_folder.specs.Specials.{first_special}
use Rattle.rk_folder.specs.Told.{Held}
use Rattle.rk_folder.specs.Whole.{IsWhole}
use Rattle.rk_seal.specs.Effects.{after_all}
use Rattle.rk_seal.specs.Spelling.{install_spelling}
use Rattle.rk_seal.specs.declared.ops.Op.{Op}
use Rattle.rk_install.specs.Install.{IsUnsealed}
use Rattle.rk_install.specs.declared.calling.InstallErr.{InstallErr}
use Rattle.rk_install.specs.Recovery.{IsCutShort, IsDamagedList, IsRecovered, IsSealed, sealed_in, unsealed}
use Rattle.rk_changes.specs.Holdings.{IsAfter}
use Rattle.rk_changes.specs.declared.holding.Holding.{Holding}
use Rattle.rk_tree.specs.Copies.{snapshot_of as entries_of}
use Rattle.rk_tree.specs.Entries.{Entries, IsWholeSnapshot}
use Rattle.tr_parts.specs.declared.fault.Damage.{Damage}
use Rattle.tr_record.specs.declared.records.Record.{Record}
use Rattle.rk_request.specs.declared.requests.Request.{Request}
use Rattle.rk_build.specs.Fresh.{held_after}
use Rattle.rk_build.specs.Outcomes.{PartlyInstalled}

-- all is as before, but for the hidden directory and a list that isn't sealed, where there are calls
abbrev pub LeavesUnsealed : Option (List Op) → Held → Held → Type 0
LeavesUnsealed None held new = new ≡ held
LeavesUnsealed (Some ops) held new = IsUnsealed ops held (Some new)

-- a list stands sealed, and some of its calls were made; all of them lead to the folder afterwards
pub record LeadsOn (held : Held) (after : Holding) (new : Held) : Type 0 where
  pub calls : List Op
  pub start : Held
  pub sealed : IsSealed calls start new
  pub leads : IsAfter held (unsealed (after_all calls start)) after

-- fewer than 2^64 bytes, as all bytes in memory are
abbrev pub FewBytes : Option (List Op) → Type 0
FewBytes None = Unit {0}
FewBytes (Some ops) = length (install_spelling ops) < 2 ^ 64

-- an install that stopped left all as before, or what leads on
abbrev pub StopsSealed : Type 0
StopsSealed = (first : KeyValue → Says) (request : Request) (entries : Entries) (old : List (List Record)) (held new : Held) (e : InstallErr) → IsWhole held → first_special held ≡ None → (it : PartlyInstalled first request entries old held (Some new) e) → IsWholeSnapshot (entries_of it.world.tree) → FewBytes it.plan.calls
    → LeavesUnsealed it.plan.calls held new ⊎ LeadsOn held (held_after it.world it.kept) new

-- finished, that is what the build was to leave
abbrev pub FinishesAfter : Type 0
FinishesAfter = (held : Held) (after : Holding) (new : Held) (last : Option Held) → LeadsOn held after new → IsRecovered (sealed_in new) new last → IfSome last (λ it. IsAfter held it after)

-- and where finishing it is cut short, it leads on still
abbrev pub LeadsOnAgain : Type 0
LeadsOnAgain = (held : Held) (after : Holding) (new : Held) (last : Option Held) → LeadsOn held after new → IsCutShort new last → IfSome last (LeadsOn held after)

-- the list is never damaged
abbrev pub StaysUndamaged : Type 0
StaysUndamaged = (held : Held) (after : Holding) (new : Held) (damage : Damage) → LeadsOn held after new → IsDamagedList (sealed_in new) damage → ⊥
