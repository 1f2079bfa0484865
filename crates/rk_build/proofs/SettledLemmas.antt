-- What a folder holds calls for one outcome alone.
use Rattle.std.proofs.Common.{◌≡◌, ◌≢◌, ◌<◌, ◌≤◌, ◌-◌, ◌^◌, ℕ, List, length, Option, Some, None, IfSome, refl, sym, ap, subst, ◌∙◌, inl, inr, arith}
use Rattle.rk_base.specs.Text.{Text}
use Rattle.tr_record.specs.Generations.{records}
use Rattle.tr_record.specs.declared.records.Record.{Record}
use Rattle.tr_parts.specs.Reads.{IsDamage}
use Rattle.rk_attrs.specs.declared.rows.AttrRow.{AttrRow}
use Rattle.tr_parts.specs.declared.fault.Damage.{Damage}
use Rattle.tr_parts.specs.declared.fault.Damage.TheVariants as damage
use Rattle.rk_calls.specs.Keys.{KeyValue}
use Rattle.rk_calls.specs.Talk.{Says}
use Rattle.rk_traces.proofs.Checks.{never-first_wrong}
use Rattle.rk_kernel.specs.World.{World}
use Rattle.rk_traces.specs.Run.{Outcome as Run, Done, Spent}
use Rattle.rk_folder.specs.Told.{Held}
use Rattle.rk_folder.specs.declared.hidden_files.State.{State}
use Rattle.rk_folder.specs.Counts.{Rose, Still}
use Rattle.rk_folder.specs.Attributes.{with_rows}
use Rattle.rk_folder.specs.Import.{snapshot_of}
use Rattle.rk_traces.specs.Spoken.{AreSpoken}
use Rattle.rk_tree.specs.Entries.{Entries}
use Rattle.rk_request.specs.Asked.{is_fresh}
use Rattle.rk_request.specs.declared.requests.Request.{Request}
use Rattle.rk_build.specs.Kept.{AreRows, AreTables, IsKept, IsDamagedAttrs, IsDamagedDb, IsDamaged, state_in, Keeping, Refuses, decoded}
use Rattle.rk_build.specs.Checks.{IsForged, TellsForged}
use Rattle.rk_build.specs.Run.{fresh_run}
use Rattle.rk_build.specs.Outcomes.{EndsWith, HasStatus, IfEnded, Leaves, FolderCounts, Counts, Counted, Settles, outcome_of_refusal}
use Rattle.rk_build.specs.Laws.{IsOr, Answers, KeepsSpoken}
use Rattle.rk_build.specs.declared.outcome.StateFile.{StateFile}
use Rattle.rk_build.specs.declared.outcome.StateFile.TheVariants as file
use Rattle.rk_build.specs.declared.outcome.Outcome.{Outcome}
use Rattle.rk_build.specs.declared.outcome.Outcome.TheVariants as out
use Rattle.rk_build.specs.declared.stop.Refusal.{Refusal}
use Rattle.rk_build.specs.declared.stop.Refusal.TheVariants as refusal

-- What is damaged isn't kept.

attrs-clash : (o : Option Text) (rows : List (Text × AttrRow)) (d : Damage) → AreRows o rows → IsDamagedAttrs o d → ⊥
attrs-clash None rows d a h = h
attrs-clash (Some bytes) rows d a h = h.1 rows a.0.0 a.0.1

pub db-clash : (o : Option Text) (kept : List (List Record)) (d : Damage) → AreTables o kept → IsDamagedDb o d → ⊥
db-clash None kept d t h = h
db-clash (Some bytes) kept d t h = h.1 kept t.0

kept-clash : (state : State) (rows : List (Text × AttrRow)) (kept : List (List Record)) (f : StateFile) (d : Damage) → IsKept state rows kept → IsDamaged state f d → ⊥
kept-clash state rows kept file.Attrs d k h = attrs-clash state.attrs rows d k.0 h
kept-clash state rows kept file.Db d k h = db-clash state.db kept d k.1 h.1
kept-clash state rows kept file.Install d k h = h

none-some : (o : Option Text) (path : Text) → o ≡ None → o ≡ Some path → ⊥
none-some o path none some = cc

pub refused-kept : (request : Request) (held : Held) (r : Refusal) (P : Entries → List (List Record) → Type 0) → Refuses (is_fresh request) held r → Keeping (is_fresh request) held P → ⊥
refused-kept request held (refusal.Special path) P r k = none-some _ path k.plain r
refused-kept request held (refusal.Damaged f d) P r k = kept-clash (decoded (is_fresh request) (state_in held)) k.rows k.old f d k.kept r.1

-- A file has one damage.

one-damage : (least : ℕ) (bytes : Text) (a b : Damage) → IsDamage least bytes a → IsDamage least bytes b → a ≡ b
one-damage least bytes (damage.Short n) (damage.Short m) h g = ap damage.Short (h.0 ∙ sym g.0)
one-damage least bytes (damage.Short n) (damage.Digest k c) h g = absurd (let e : n ≡ length bytes = h.0 in let l : n < least = h.1 in let m : least ≤ length bytes = g.0 in omega arith)
one-damage least bytes (damage.Short n) damage.Form h g = absurd (let e : n ≡ length bytes = h.0 in let l : n < least = h.1 in let m : least ≤ length bytes = g.0 in omega arith)
one-damage least bytes (damage.Digest k c) (damage.Short n) h g = absurd (let e : n ≡ length bytes = g.0 in let l : n < least = g.1 in let m : least ≤ length bytes = h.0 in omega arith)
one-damage least bytes (damage.Digest k c) (damage.Digest k' c') h g =
    let ek : k ≡ k' = h.1 ∙ sym g.1 in
    let ec : c ≡ c' = h.2 ∙ sym g.2 in
    ap (λ (x : Text). damage.Digest x c) ek ∙ ap (damage.Digest k') ec
one-damage least bytes (damage.Digest k c) damage.Form h g = absurd (h.3 (h.1 ∙ g.1 ∙ sym h.2))
one-damage least bytes damage.Form (damage.Short n) h g = absurd (let e : n ≡ length bytes = g.0 in let l : n < least = g.1 in let m : least ≤ length bytes = h.0 in omega arith)
one-damage least bytes damage.Form (damage.Digest k c) h g = absurd (g.3 (g.1 ∙ h.1 ∙ sym g.2))
one-damage least bytes damage.Form damage.Form h g = refl

attrs-one : (o : Option Text) (a b : Damage) → IsDamagedAttrs o a → IsDamagedAttrs o b → a ≡ b
attrs-one None a b h g = absurd h
attrs-one (Some bytes) a b h g = one-damage 44 bytes a b h.0 g.0

db-one : (o : Option Text) (a b : Damage) → IsDamagedDb o a → IsDamagedDb o b → a ≡ b
db-one None a b h g = absurd h
db-one (Some bytes) a b h g = one-damage 52 bytes a b h.0 g.0

damaged-one : (state : State) (f g : StateFile) (a b : Damage) → IsDamaged state f a → IsDamaged state g b → out.Damaged g b ≡ out.Damaged f a
damaged-one state file.Attrs file.Attrs a b h g = ap (out.Damaged file.Attrs) (sym (attrs-one state.attrs a b h g))
damaged-one state file.Attrs file.Db a b h g = absurd (attrs-clash state.attrs g.0.0 a g.0.1 h)
damaged-one state file.Db file.Attrs a b h g = absurd (attrs-clash state.attrs h.0.0 b h.0.1 g)
damaged-one state file.Db file.Db a b h g = ap (out.Damaged file.Db) (sym (db-one state.db a b h.1 g.1))
damaged-one state file.Attrs file.Install a b h g = absurd g
damaged-one state file.Db file.Install a b h g = absurd g
damaged-one state file.Install g a b h i = absurd h

one-path : (o : Option Text) (p q : Text) → o ≡ Some p → o ≡ Some q → out.Special q ≡ out.Special p
one-path o p q h g = cc

refused-one : (request : Request) (held : Held) (r s : Refusal) → Refuses (is_fresh request) held r → Refuses (is_fresh request) held s → outcome_of_refusal s ≡ outcome_of_refusal r
refused-one request held (refusal.Special p) (refusal.Special q) h g = one-path _ p q h g
refused-one request held (refusal.Special p) (refusal.Damaged f d) h g = absurd (none-some _ p g.0 h)
refused-one request held (refusal.Damaged f d) (refusal.Special p) h g = absurd (none-some _ p h.0 g)
refused-one request held (refusal.Damaged f a) (refusal.Damaged g b) h k = damaged-one (decoded (is_fresh request) (state_in held)) f g a b h.1 k.1

pub refused-settle : (first : KeyValue → Says) (request : Request) (held : Held) (r : Refusal) (outcome : Outcome) → Refuses (is_fresh request) held r → Settles first request held outcome → IsOr (outcome_of_refusal r) outcome
refused-settle first request held r (out.Ended status launched ran) h s = absurd (refused-kept request held r _ h s)
refused-settle first request held r out.Usage h s = absurd s
refused-settle first request held r (out.Said status) h s = absurd s
refused-settle first request held r (out.Special path) h s = inl (refused-one request held r (refusal.Special path) h s)
refused-settle first request held r (out.Damaged f d) h s = inl (refused-one request held r (refusal.Damaged f d) h s)
refused-settle first request held r (out.Forged rec step) h s = absurd (refused-kept request held r _ h s)
refused-settle first request held r out.Spent h s = absurd (refused-kept request held r _ h s)
refused-settle first request held r out.ReadFault h s = absurd s
refused-settle first request held r out.WriteFault h s = absurd s
refused-settle first request held r out.NoMemory h s = inr refl

-- Spoken records.

pub forged-clash : (first : KeyValue → Says) (table : List Record) (rec step : ℕ) → AreSpoken first table → IsForged first table rec step → ⊥
forged-clash first table rec step spoken f =
    never-first_wrong first table rec step spoken
    (record { here = f.0; wrong = f.1; before = λ i h. spoken i (let here : rec < length table = f.0 in omega arith) })

one-kept : (o : Option Text) (a b : List (List Record)) → AreTables o a → AreTables o b → a ≡ b
one-kept o a b h g = h.1 b g.0

one-rows : (o : Option Text) (a b : List (Text × AttrRow)) → AreRows o a → AreRows o b → a ≡ b
one-rows o a b h g = h.1 b g.0

ends-with : (r : Run World) (status launched ran : ℕ) → EndsWith r status → Answers r (out.Ended status launched ran)
ends-with (Done world exit left table) status launched ran h = h
ends-with Spent status launched ran h = absurd h

spent-answers : (r : Run World) → r ≡ Spent → Answers r out.Spent
spent-answers r h = subst (λ (it : Run World). Answers it out.Spent) (sym h) tt

no_memory : (r : Run World) → Answers r out.NoMemory
no_memory (Done world exit left table) = tt
no_memory Spent = tt

-- what is so of what a folder keeps is so of its entries and its tables
same-kept : (first : KeyValue → Says) (request : Request) (held : Held) (it : Entries) (P : Entries → List (List Record) → Type 0) (k : KeepsSpoken first request held it) → Keeping (is_fresh request) held P → P it k.old
same-kept first request held it P k s =
    let tables : s.old ≡ k.old = one-kept (decoded (is_fresh request) (state_in held)).db s.old k.old s.kept.1 k.kept.1 in
    let rows : s.rows ≡ k.rows = one-rows (decoded (is_fresh request) (state_in held)).attrs s.rows k.rows s.kept.0 k.kept.0 in
    let entries : with_rows (snapshot_of held) s.rows ≡ it = ap (with_rows (snapshot_of held)) rows ∙ k.so.0 in
    subst (λ (e : Entries). P e k.old) entries (subst (λ (t : List (List Record)). P (with_rows (snapshot_of held) s.rows) t) tables s.so)

pub spoken-settle : (first : KeyValue → Says) (request : Request) (held : Held) (it : Entries) (outcome : Outcome) → KeepsSpoken first request held it → Settles first request held outcome → Answers (fresh_run first request it) outcome
spoken-settle first request held it (out.Ended status launched ran) k s =
    ends-with (fresh_run first request it) status launched ran (same-kept first request held it (λ entries old. AreSpoken first (records old) → EndsWith (fresh_run first request entries) status) k s k.so.1)
spoken-settle first request held it out.Usage k s = absurd s
spoken-settle first request held it (out.Said status) k s = absurd s
spoken-settle first request held it (out.Special path) k s = absurd (refused-kept request held (refusal.Special path) (λ entries old. (entries ≡ it) × AreSpoken first (records old)) s k)
spoken-settle first request held it (out.Damaged f d) k s = absurd (refused-kept request held (refusal.Damaged f d) (λ entries old. (entries ≡ it) × AreSpoken first (records old)) s k)
spoken-settle first request held it (out.Forged rec step) k s = absurd (forged-clash first (records k.old) rec step k.so.1 (same-kept first request held it (λ entries old. TellsForged first request (records old) rec step) k s).wrong)
spoken-settle first request held it out.Spent k s = spent-answers (fresh_run first request it) (same-kept first request held it (λ entries old. AreSpoken first (records old) × (fresh_run first request entries ≡ Spent)) k s).1
spoken-settle first request held it out.ReadFault k s = absurd s
spoken-settle first request held it out.WriteFault k s = absurd s
spoken-settle first request held it out.NoMemory k s = no_memory (fresh_run first request it)

-- An outcome is called for, where no count rose.

never-rose : (before now : ℕ) → Rose before now → Still before now → ⊥
never-rose before now rose still = let same : now ≡ before = still.0 in let low : before < 2 ^ 64 - 1 = still.1 in omega arith

pub settles : (first : KeyValue → Says) (request : Request) (told new : Option Held) (b n : FolderCounts) (c d : Counts) (outcome : Outcome) (held : Held) → Leaves first request told new b n outcome → IfEnded outcome (λ status launched ran. HasStatus first request told status) → Counted c d outcome → outcome ≢ out.Usage → told ≡ Some held
    → Still c.reads d.reads → Still c.writes d.writes → Still c.puts d.puts → Still c.error_puts d.error_puts → Settles first request held outcome
settles first request told new b n c d (out.Ended status launched ran) held l s counted asked is r w o x = subst (λ (t : Option Held). HasStatus first request t status) is s
settles first request told new b n c d out.Usage held l s counted asked is r w o x = absurd (asked refl)
settles first request told new b n c d (out.Said status) held l s counted asked is r w o x = absurd l
settles first request told new b n c d (out.Special path) held l s counted asked is r w o x = subst (λ (t : Option Held). IfSome t (λ held. Refuses (is_fresh request) held (refusal.Special path))) is l.1
settles first request told new b n c d (out.Damaged f damage) held l s counted asked is r w o x = subst (λ (t : Option Held). IfSome t (λ held. Refuses (is_fresh request) held (refusal.Damaged f damage))) is l.1
settles first request told new b n c d (out.Forged rec step) held l s counted asked is r w o x = subst (λ (t : Option Held). IfSome t (λ held. Keeping (is_fresh request) held (λ entries old. TellsForged first request (records old) rec step))) is l.1
settles first request told new b n c d out.Spent held l s counted asked is r w o x = subst (λ (t : Option Held). IfSome t (λ held. Keeping (is_fresh request) held (λ entries old. AreSpoken first (records old) × (fresh_run first request entries ≡ Spent)))) is l.1
settles first request told new b n c d out.ReadFault held l s counted asked is r w o x = absurd (never-rose c.reads d.reads counted.0 r)
settles first request told new b n c d out.WriteFault held l s counted asked is r w o x = absurd (elim counted.1 [
  | inl writes ↦ never-rose c.writes d.writes writes w
  | inr puts ↦ elim puts [
    | inl out ↦ never-rose c.puts d.puts out o
    | inr errors ↦ never-rose c.error_puts d.error_puts errors x
  ]
])
settles first request told new b n c d out.NoMemory held l s counted asked is r w o x = tt
