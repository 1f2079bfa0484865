-- What a build finds in a folder.
use Rattle.std.proofs.Common.{◌≡◌, ◌∙◌, Bool, List, Option, Some, None, Result, Ok, Err, ap, subst, sym}
use Rattle.rk_base.specs.Text.{Text}
use Rattle.tr_kept.specs.KeptSpelling.{IsKeptSpelling}
use Rattle.tr_parts.specs.Reads.{Finds, Tells}
use Rattle.tr_parts.specs.declared.fault.CodecErr.{CodecErr}
use Rattle.tr_parts.specs.declared.fault.CodecErr.TheVariants as fault
use Rattle.tr_parts.specs.declared.fault.Damage.{Damage}
use Rattle.tr_record.specs.declared.records.Record.{Record}
use Rattle.rk_folder.specs.Told.{Held}
use Rattle.rk_folder.specs.declared.hidden_files.State.{State}
use Rattle.rk_changes.specs.Imported.{listed_holding}
use Rattle.rk_changes.specs.declared.holding.Holding.{Holding}
use Rattle.rk_request.specs.declared.requests.Request.{Request}
use Rattle.rk_request.specs.Asked.{is_fresh}
use Rattle.rk_build.specs.Kept.{AreTables, IsDamagedDb, IsKept, ReadsDb, ReadsState, Spells, state_in, decoded}
use Rattle.rk_build.specs.Stages.{LooksSo, FindsSo}
use Rattle.rk_build.specs.declared.found.Found.{Found}
use Rattle.rk_build.specs.declared.kept.KeptState.{KeptState}
use Rattle.rk_build.specs.declared.outcome.StateFile.TheVariants as file
use Rattle.rk_build.specs.declared.stop.Refusal.TheVariants as refusal
use Rattle.rk_build.specs.declared.stop.BuildErr.{BuildErr}
use Rattle.rk_build.specs.declared.stop.BuildErr.TheVariants as stop

state-same : (fresh : Bool) (held : Held) (holding : Holding) → holding ≡ listed_holding fresh held → holding.state ≡ decoded fresh (state_in held)
state-same fresh held holding same = ap (λ (h : Holding). h.state) same

-- the look failed
look-stops : (request : Request) (told : Option Held) (e : BuildErr) → LooksSo (is_fresh request) told (Err e) → FindsSo request told (Err e)
look-stops request None (stop.Refused (refusal.Special path)) look = tt
look-stops request (Some held) (stop.Refused (refusal.Special path)) look = look
look-stops request told (stop.Refused (refusal.Damaged file damage)) look = absurd look
look-stops request told (stop.Forged rec step) look = absurd look
look-stops request told stop.Spent look = absurd look
look-stops request told stop.ReadFault look = tt
look-stops request told stop.WriteFault look = absurd look
look-stops request told stop.NoMemory look = tt

-- a state file is damaged
kept-stops : (request : Request) (told : Option Held) (holding : Holding) (e : BuildErr) → LooksSo (is_fresh request) told (Ok holding) → ReadsState holding.state (Err e) → FindsSo request told (Err e)
kept-stops request told holding (stop.Refused (refusal.Special path)) look kept = absurd kept
kept-stops request None holding (stop.Refused (refusal.Damaged file damage)) look kept = tt
kept-stops request (Some held) holding (stop.Refused (refusal.Damaged file damage)) look kept =
    (look.0, subst (λ s. ReadsState s (Err (stop.Refused (refusal.Damaged file damage)))) (state-same (is_fresh request) held holding look.1) kept)
kept-stops request told holding (stop.Forged rec step) look kept = absurd kept
kept-stops request told holding stop.Spent look kept = absurd kept
kept-stops request told holding stop.ReadFault look kept = absurd kept
kept-stops request told holding stop.WriteFault look kept = absurd kept
kept-stops request told holding stop.NoMemory look kept = tt

-- by a test of whether the build begins afresh

asked : (told : Option Held) (result : Result Holding BuildErr) (fresh asks : Bool) → fresh ≡ asks → LooksSo fresh told result → LooksSo asks told result
asked told result fresh asks same look = subst (λ (b : Bool). LooksSo b told result) same look

pub look-stops-so : (request : Request) (told : Option Held) (e : BuildErr) (fresh : Bool) → fresh ≡ is_fresh request → LooksSo fresh told (Err e) → FindsSo request told (Err e)
look-stops-so request told e fresh same look = look-stops request told e (asked told (Err e) fresh (is_fresh request) same look)

pub kept-stops-so : (request : Request) (told : Option Held) (holding : Holding) (e : BuildErr) (fresh : Bool) → fresh ≡ is_fresh request → LooksSo fresh told (Ok holding) → ReadsState holding.state (Err e) → FindsSo request told (Err e)
kept-stops-so request told holding e fresh same look kept = kept-stops request told holding e (asked told (Ok holding) fresh (is_fresh request) same look) kept

-- the tables that a database's bytes spell are read
pub tables-read : (db : Option Text) (bytes slice : Text) (kept : List (List Record)) → db ≡ Some bytes → slice ≡ bytes → IsKeptSpelling slice kept → ((other : List (List Record)) → IsKeptSpelling slice other → kept ≡ other) → AreTables db kept
tables-read db bytes slice kept is same found only = subst (λ (o : Option Text). AreTables o kept) (sym (is ∙ ap Some (sym same))) (found, only)

-- or they spell none
pub tables-damaged : (db : Option Text) (bytes slice : Text) (e : CodecErr) (damage : Damage) (stopped : BuildErr) → db ≡ Some bytes → slice ≡ bytes → e ≡ fault.Damaged damage → Tells {T = List (List Record)} 52 slice (Err e) → ((kept : List (List Record)) → IsKeptSpelling slice kept → Finds (Err e) kept)
    → stopped ≡ stop.Refused (refusal.Damaged file.Db damage) → ReadsDb db (Err stopped)
tables-damaged db bytes slice e damage stopped is same told tells only stops =
    subst (λ (s : BuildErr). ReadsDb db (Err s)) (sym stops)
    (subst (λ (o : Option Text). IsDamagedDb o damage) (sym (is ∙ ap Some (sym same)))
    (subst (λ (e : CodecErr). Tells {T = List (List Record)} 52 slice (Err e)) told tells, λ kept spells. subst (λ (e : CodecErr). Finds (Err e) kept) told (only kept spells)))

-- the database that was read is the spelling of the tables
pub kept-spells : (state : State) (kept : KeptState) → ReadsState state (Ok kept) → Spells state.db kept.old
kept-spells state kept reads = reads.1.0

-- all was found
found-asked : (request : Request) (told : Option Held) (found : Found) → LooksSo (is_fresh request) told (Ok found.holding) → ReadsState found.holding.state (Ok (record { attrs = found.attrs; old = found.old; contents = found.contents })) → FindsSo request told (Ok found)
found-asked request None found look kept = tt
found-asked request (Some held) found look kept =
    (look.0, look.1, subst (λ s. IsKept s found.attrs found.old) (state-same (is_fresh request) held found.holding look.1) kept)

pub is_found : (request : Request) (told : Option Held) (found : Found) (fresh : Bool) → fresh ≡ is_fresh request → LooksSo fresh told (Ok found.holding) → ReadsState found.holding.state (Ok (record { attrs = found.attrs; old = found.old; contents = found.contents })) → FindsSo request told (Ok found)
is_found request told found fresh same look kept = found-asked request told found (asked told (Ok found.holding) fresh (is_fresh request) same look) kept
