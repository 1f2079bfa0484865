-- What is said of an outcome is said of what is told of it.
use Rattle.std.proofs.Common.{◌≡◌, ◌≤◌, ◌∙◌, ℕ, Option, refl, sym, ap, subst, inl, inr, arith}
use Rattle.rk_base.specs.Text.{Text}
use Rattle.rk_calls.specs.Keys.{KeyValue}
use Rattle.rk_calls.specs.Talk.{Says}
use Rattle.rk_folder.specs.Counts.{Still}
use Rattle.rk_folder.specs.Schedule.{Schedule}
use Rattle.rk_folder.specs.Told.{Held}
use Rattle.tr_parts.specs.declared.fault.Damage.{Damage}
use Rattle.rk_build.specs.declared.outcome.StateFile.{StateFile}
use Rattle.rk_request.specs.declared.requests.Request.{Request}
use Rattle.rk_build.specs.Calls.{AsksSo}
use Rattle.rk_build.specs.Outcomes.{IfEnded, Leaves, FolderCounts, Gains, GainsErrors, GainsLine, InOrder, ErrorsCounted, Counts, Counted, AfterLine, Faults, Ticked, IsNoFault, Settles, IfSpecial, IfDamaged, IfForged}
use Rattle.rk_build.specs.Telling.{SinkState, IsNamed, IsTold, Put, PutsLine, Tells}
use Rattle.rk_build.specs.declared.outcome.Outcome.{Outcome}
use Rattle.rk_build.specs.declared.outcome.Outcome.TheVariants as out
use Rattle.rk_build.proofs.BuildLemmas.{counts-same}
use Rattle.rk_build.proofs.PrepareLemmas.{looked-alone}

-- by what is said of want of memory where the outcome names something
pub as_told : (P : Outcome → Type 0) (outcome it : Outcome) → IsTold outcome it → P outcome → (IsNamed outcome → P outcome → P out.NoMemory) → P it
as_told P outcome it (inl same) h named = subst P (sym same) h
as_told P outcome it (inr n) h named = subst P (sym n.1) (named n.0 h)

unnamed-leaves : (first : KeyValue → Says) (request : Request) (told new : Option Held) (b n : FolderCounts) (outcome : Outcome) → IsNamed outcome → Leaves first request told new b n outcome → Leaves first request told new b n out.NoMemory
unnamed-leaves first request told new b n (out.Special path) named l = inl l.0
unnamed-leaves first request told new b n (out.Damaged file damage) named l = inl l.0
unnamed-leaves first request told new b n (out.Forged rec step) named l = inl l.0
unnamed-leaves first request told new b n (out.Ended status launched ran) named l = absurd named
unnamed-leaves first request told new b n out.Usage named l = absurd named
unnamed-leaves first request told new b n (out.Said status) named l = absurd named
unnamed-leaves first request told new b n out.Spent named l = absurd named
unnamed-leaves first request told new b n out.ReadFault named l = absurd named
unnamed-leaves first request told new b n out.WriteFault named l = absurd named
unnamed-leaves first request told new b n out.NoMemory named l = l

pub line-leaves : (first : KeyValue → Says) (request : Request) (told new : Option Held) (b n : FolderCounts) (outcome it : Outcome) → IsTold outcome it → Leaves first request told new b n outcome → Leaves first request told new b n it
line-leaves first request told new b n outcome it t l = as_told (Leaves first request told new b n) outcome it t l (unnamed-leaves first request told new b n outcome)

unnamed-asks : (first : KeyValue → Says) (request : Request) (reach : ℕ) (told : Option Held) (before now : Option Schedule) (outcome : Outcome) → IsNamed outcome → AsksSo first request reach told before now outcome → AsksSo first request reach told before now out.NoMemory
unfolding AsksSo
unnamed-asks first request reach told before now (out.Special path) named a = inl (looked-alone request reach told before now a)
unnamed-asks first request reach told before now (out.Damaged file damage) named a = inl (looked-alone request reach told before now a)
unnamed-asks first request reach told before now (out.Forged rec step) named a = inl a
unnamed-asks first request reach told before now (out.Ended status launched ran) named a = absurd named
unnamed-asks first request reach told before now out.Usage named a = absurd named
unnamed-asks first request reach told before now (out.Said status) named a = absurd named
unnamed-asks first request reach told before now out.Spent named a = absurd named
unnamed-asks first request reach told before now out.ReadFault named a = absurd named
unnamed-asks first request reach told before now out.WriteFault named a = absurd named
unnamed-asks first request reach told before now out.NoMemory named a = a

pub line-asks : (first : KeyValue → Says) (request : Request) (reach : ℕ) (told : Option Held) (before now : Option Schedule) (outcome it : Outcome) → IsTold outcome it → AsksSo first request reach told before now outcome → AsksSo first request reach told before now it
line-asks first request reach told before now outcome it t a = as_told (AsksSo first request reach told before now) outcome it t a (unnamed-asks first request reach told before now outcome)

unnamed-gains : (first : KeyValue → Says) (request : Request) (told : Option Held) (old new : SinkState) (outcome : Outcome) → IsNamed outcome → Gains first request told old new outcome → Gains first request told old new out.NoMemory
unnamed-gains first request told old new (out.Special path) named g = inl g
unnamed-gains first request told old new (out.Damaged file damage) named g = inl g
unnamed-gains first request told old new (out.Forged rec step) named g = inl g
unnamed-gains first request told old new (out.Ended status launched ran) named g = absurd named
unnamed-gains first request told old new out.Usage named g = absurd named
unnamed-gains first request told old new (out.Said status) named g = absurd named
unnamed-gains first request told old new out.Spent named g = absurd named
unnamed-gains first request told old new out.ReadFault named g = absurd named
unnamed-gains first request told old new out.WriteFault named g = absurd named
unnamed-gains first request told old new out.NoMemory named g = g

pub told-gains : (first : KeyValue → Says) (request : Request) (told : Option Held) (old new : SinkState) (outcome it : Outcome) → IsTold outcome it → Gains first request told old new outcome → Gains first request told old new it
told-gains first request told old new outcome it t g = as_told (Gains first request told old new) outcome it t g (unnamed-gains first request told old new outcome)

unnamed-gains-errors : (first : KeyValue → Says) (request : Request) (told : Option Held) (old new : SinkState) (outcome : Outcome) → IsNamed outcome → GainsErrors first request told old new outcome → GainsErrors first request told old new out.NoMemory
unnamed-gains-errors first request told old new (out.Special path) named g = inl g
unnamed-gains-errors first request told old new (out.Damaged file damage) named g = inl g
unnamed-gains-errors first request told old new (out.Forged rec step) named g = inl g
unnamed-gains-errors first request told old new (out.Ended status launched ran) named g = absurd named
unnamed-gains-errors first request told old new out.Usage named g = absurd named
unnamed-gains-errors first request told old new (out.Said status) named g = absurd named
unnamed-gains-errors first request told old new out.Spent named g = absurd named
unnamed-gains-errors first request told old new out.ReadFault named g = absurd named
unnamed-gains-errors first request told old new out.WriteFault named g = absurd named
unnamed-gains-errors first request told old new out.NoMemory named g = g

unnamed-errors : (old new : SinkState) (outcome : Outcome) → IsNamed outcome → ErrorsCounted old new outcome → ErrorsCounted old new out.NoMemory
unnamed-errors old new (out.Special path) named c = (c.0, omega arith)
unnamed-errors old new (out.Damaged file damage) named c = (c.0, omega arith)
unnamed-errors old new (out.Forged rec step) named c = (c.0, omega arith)
unnamed-errors old new (out.Ended status launched ran) named c = absurd named
unnamed-errors old new out.Usage named c = absurd named
unnamed-errors old new (out.Said status) named c = absurd named
unnamed-errors old new out.Spent named c = absurd named
unnamed-errors old new out.ReadFault named c = absurd named
unnamed-errors old new out.WriteFault named c = absurd named
unnamed-errors old new out.NoMemory named c = c

pub told-errors : (old new : SinkState) (outcome it : Outcome) → IsTold outcome it → ErrorsCounted old new outcome → ErrorsCounted old new it
told-errors old new outcome it t c = as_told (ErrorsCounted old new) outcome it t c (unnamed-errors old new outcome)

pub line-gains : (first : KeyValue → Says) (request : Request) (told : Option Held) (out_old out_new old mid new : SinkState) (outcome it : Outcome) → InOrder first request told (record { out = out_old; err = old }) (record { out = out_new; err = mid }) → GainsErrors first request told old mid outcome → ErrorsCounted old mid outcome → Tells outcome it mid new → GainsLine first request told out_old out_new old new it
line-gains first request told out_old out_new old mid new outcome it o g c t = record {
  worked = mid;
  order = o;
  text = as_told (GainsErrors first request told old mid) outcome it t.0 g (unnamed-gains-errors first request told old mid outcome);
  counted = told-errors old mid outcome it t.0 c;
  line = t.1;
}

unnamed-ticked : (request : Request) (before now : ℕ) (outcome : Outcome) → IsNamed outcome → Ticked request before now outcome → Ticked request before now out.NoMemory
unnamed-ticked request before now (out.Special path) named t = omega arith
unnamed-ticked request before now (out.Damaged file damage) named t = omega arith
unnamed-ticked request before now (out.Forged rec step) named t = t.0
unnamed-ticked request before now (out.Ended status launched ran) named t = absurd named
unnamed-ticked request before now out.Usage named t = absurd named
unnamed-ticked request before now (out.Said status) named t = absurd named
unnamed-ticked request before now out.Spent named t = absurd named
unnamed-ticked request before now out.ReadFault named t = absurd named
unnamed-ticked request before now out.WriteFault named t = absurd named
unnamed-ticked request before now out.NoMemory named t = t

pub line-ticked : (request : Request) (before now : ℕ) (outcome it : Outcome) → IsTold outcome it → Ticked request before now outcome → Ticked request before now it
line-ticked request before now outcome it told t = as_told (Ticked request before now) outcome it told t (unnamed-ticked request before now outcome)

unnamed-counted : (b n : Counts) (outcome : Outcome) → IsNamed outcome → Counted b n outcome → Counted b n out.NoMemory
unnamed-counted b n (out.Special path) named c = c
unnamed-counted b n (out.Damaged file damage) named c = c
unnamed-counted b n (out.Forged rec step) named c = c
unnamed-counted b n (out.Ended status launched ran) named c = absurd named
unnamed-counted b n out.Usage named c = absurd named
unnamed-counted b n (out.Said status) named c = absurd named
unnamed-counted b n out.Spent named c = absurd named
unnamed-counted b n out.ReadFault named c = absurd named
unnamed-counted b n out.WriteFault named c = absurd named
unnamed-counted b n out.NoMemory named c = c

pub told-counted : (b n : Counts) (outcome it : Outcome) → IsTold outcome it → Counted b n outcome → Counted b n it
told-counted b n outcome it t c = as_told (Counted b n) outcome it t c (unnamed-counted b n outcome)

-- the same line
pub puts-same : (line it : Text) (old new : SinkState) → line ≡ it → PutsLine line old new → PutsLine it old new
puts-same line it old new same put = subst (λ (l : Text). PutsLine l old new) same put

-- a count of faults doesn't fall as a line is put
fell : (line : Text) (old new : SinkState) (before now : ℕ) → before ≡ old.faults → now ≡ new.faults → PutsLine line old new → before ≤ now
fell line old new before now b n (inl put) = let same : new.faults ≡ old.faults = put.faults in omega arith
fell line old new before now b n (inr cut) = let most : old.faults ≤ new.faults = cut.faults in omega arith

after-line : (m n : Counts) (old new : SinkState) (outcome : Outcome) → n.reads ≡ m.reads → n.writes ≡ m.writes → n.puts ≡ m.puts → m.error_puts ≡ old.faults → n.error_puts ≡ new.faults → Put outcome old new → AfterLine m n outcome
after-line m n old new (out.Ended status launched ran) r w p o x put = counts-same m n r w p (x ∙ ap (λ (s : SinkState). s.faults) put ∙ sym o)
after-line m n old new out.Usage r w p o x put = (r, w, p, fell _ old new m.error_puts n.error_puts o x put)
after-line m n old new (out.Said status) r w p o x put = counts-same m n r w p (x ∙ ap (λ (s : SinkState). s.faults) put ∙ sym o)
after-line m n old new (out.Special path) r w p o x put = (r, w, p, fell _ old new m.error_puts n.error_puts o x put)
after-line m n old new (out.Damaged file damage) r w p o x put = (r, w, p, fell _ old new m.error_puts n.error_puts o x put)
after-line m n old new (out.Forged rec step) r w p o x put = (r, w, p, fell _ old new m.error_puts n.error_puts o x put)
after-line m n old new out.Spent r w p o x put = (r, w, p, fell _ old new m.error_puts n.error_puts o x put)
after-line m n old new out.ReadFault r w p o x put = (r, w, p, fell _ old new m.error_puts n.error_puts o x put)
after-line m n old new out.WriteFault r w p o x put = (r, w, p, fell _ old new m.error_puts n.error_puts o x put)
after-line m n old new out.NoMemory r w p o x put = (r, w, p, fell _ old new m.error_puts n.error_puts o x put)

pub line-faults : (b m n : Counts) (old new : SinkState) (outcome it : Outcome) → Counted b m outcome → Tells outcome it old new → n.reads ≡ m.reads → n.writes ≡ m.writes → n.puts ≡ m.puts → m.error_puts ≡ old.faults → n.error_puts ≡ new.faults → Faults b n it
line-faults b m n old new outcome it c t r w p o x = (m, told-counted b m outcome it t.0 c, after-line m n old new it r w p o x t.1)

pub line-ended : (P : ℕ → ℕ → ℕ → Type 0) (outcome it : Outcome) → IsTold outcome it → IfEnded outcome P → IfEnded it P
line-ended P outcome it t h = as_told (λ (o : Outcome). IfEnded o P) outcome it t h (λ named g. tt)

pub line-special : (P : Text → Type 0) (outcome it : Outcome) → IsTold outcome it → IfSpecial outcome P → IfSpecial it P
line-special P outcome it t h = as_told (λ (o : Outcome). IfSpecial o P) outcome it t h (λ named g. tt)

pub line-damaged : (P : StateFile → Damage → Type 0) (outcome it : Outcome) → IsTold outcome it → IfDamaged outcome P → IfDamaged it P
line-damaged P outcome it t h = as_told (λ (o : Outcome). IfDamaged o P) outcome it t h (λ named g. tt)

pub line-forged : (P : ℕ → ℕ → Type 0) (outcome it : Outcome) → IsTold outcome it → IfForged outcome P → IfForged it P
line-forged P outcome it t h = as_told (λ (o : Outcome). IfForged o P) outcome it t h (λ named g. tt)

pub line-no-fault : (outcome it : Outcome) → IsTold outcome it → IsNoFault outcome → IsNoFault it
line-no-fault outcome it t h = as_told IsNoFault outcome it t h (λ named g. tt)

pub line-settles : (first : KeyValue → Says) (request : Request) (held : Held) (outcome it : Outcome) → IsTold outcome it → Settles first request held outcome → Settles first request held it
line-settles first request held outcome it t h = as_told (Settles first request held) outcome it t h (λ named g. tt)

-- The counts of the error text's sink don't fall.

rises : (old new : SinkState) (outcome : Outcome) → ErrorsCounted old new outcome → old.faults ≤ new.faults
rises old new (out.Ended status launched ran) c = let same : new.faults ≡ old.faults = c.0 in omega arith
rises old new out.Usage c = let same : new.faults ≡ old.faults = c.0 in omega arith
rises old new (out.Said status) c = let same : new.faults ≡ old.faults = c.0 in omega arith
rises old new (out.Special path) c = let same : new.faults ≡ old.faults = c.0 in omega arith
rises old new (out.Damaged file damage) c = let same : new.faults ≡ old.faults = c.0 in omega arith
rises old new (out.Forged rec step) c = let same : new.faults ≡ old.faults = c.0 in omega arith
rises old new out.Spent c = let same : new.faults ≡ old.faults = c.0 in omega arith
rises old new out.ReadFault c = let same : new.faults ≡ old.faults = c.0 in omega arith
rises old new out.WriteFault c = c.0
rises old new out.NoMemory c = let same : new.faults ≡ old.faults = c.0 in omega arith

put-rises : (old new : SinkState) (outcome : Outcome) → Put outcome old new → old.faults ≤ new.faults
put-rises old new (out.Ended status launched ran) put = let same : new.faults ≡ old.faults = ap (λ (s : SinkState). s.faults) put in omega arith
put-rises old new out.Usage put = fell _ old new old.faults new.faults refl refl put
put-rises old new (out.Said status) put = let same : new.faults ≡ old.faults = ap (λ (s : SinkState). s.faults) put in omega arith
put-rises old new (out.Special path) put = fell _ old new old.faults new.faults refl refl put
put-rises old new (out.Damaged file damage) put = fell _ old new old.faults new.faults refl refl put
put-rises old new (out.Forged rec step) put = fell _ old new old.faults new.faults refl refl put
put-rises old new out.Spent put = fell _ old new old.faults new.faults refl refl put
put-rises old new out.ReadFault put = fell _ old new old.faults new.faults refl refl put
put-rises old new out.WriteFault put = fell _ old new old.faults new.faults refl refl put
put-rises old new out.NoMemory put = fell _ old new old.faults new.faults refl refl put

-- a count that hasn't risen afterwards hadn't before the line
pub mid-still : (old mid new : SinkState) (outcome it : Outcome) → ErrorsCounted old mid outcome → Put it mid new → Still old.faults new.faults → Still old.faults mid.faults
mid-still old mid new outcome it c put still =
    let a : old.faults ≤ mid.faults = rises old mid outcome c in
    let b : mid.faults ≤ new.faults = put-rises mid new it put in
    let same : new.faults ≡ old.faults = still.0 in
    ((omega arith), still.1)

-- Where nothing is a fault no count of faults rises.

no-fault-same : (b m : Counts) (outcome : Outcome) → Counted b m outcome → IsNoFault outcome → m ≡ b
no-fault-same b m (out.Ended status launched ran) c safe = c
no-fault-same b m out.Usage c safe = c
no-fault-same b m (out.Said status) c safe = c
no-fault-same b m (out.Special path) c safe = c
no-fault-same b m (out.Damaged file damage) c safe = c
no-fault-same b m (out.Forged rec step) c safe = c
no-fault-same b m out.Spent c safe = c
no-fault-same b m out.ReadFault c safe = absurd safe
no-fault-same b m out.WriteFault c safe = absurd safe
no-fault-same b m out.NoMemory c safe = c

pub steady-same : (b m n : Counts) (outcome : Outcome) → Counted b m outcome → IsNoFault outcome → n.reads ≡ m.reads → n.writes ≡ m.writes → n.puts ≡ m.puts → n.error_puts ≡ m.error_puts → n ≡ b
steady-same b m n outcome c safe r w p x = counts-same m n r w p x ∙ no-fault-same b m outcome c safe

-- what follows over an end
pub ended-then : (P Q : ℕ → ℕ → ℕ → Type 0) (outcome : Outcome) → ((status launched ran : ℕ) → P status launched ran → Q status launched ran) → IfEnded outcome P → IfEnded outcome Q
ended-then P Q (out.Ended status launched ran) f h = f status launched ran h
ended-then P Q out.Usage f h = tt
ended-then P Q (out.Said status) f h = tt
ended-then P Q (out.Special path) f h = tt
ended-then P Q (out.Damaged file damage) f h = tt
ended-then P Q (out.Forged rec step) f h = tt
ended-then P Q out.Spent f h = tt
ended-then P Q out.ReadFault f h = tt
ended-then P Q out.WriteFault f h = tt
ended-then P Q out.NoMemory f h = tt

-- whatever it is
pub ended-any : (P : ℕ → ℕ → ℕ → Type 0) (outcome : Outcome) → ((status launched ran : ℕ) → P status launched ran) → IfEnded outcome P
ended-any P (out.Ended status launched ran) f = f status launched ran
ended-any P out.Usage f = tt
ended-any P (out.Said status) f = tt
ended-any P (out.Special path) f = tt
ended-any P (out.Damaged file damage) f = tt
ended-any P (out.Forged rec step) f = tt
ended-any P out.Spent f = tt
ended-any P out.ReadFault f = tt
ended-any P out.WriteFault f = tt
ended-any P out.NoMemory f = tt
