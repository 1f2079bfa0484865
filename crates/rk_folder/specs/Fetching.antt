-- What reads of files leave of a folder.
use Rattle.std.specs.Prelude.{◌≡◌, ◌≤◌, ◌++◌, ℕ, List, [], ◌∷◌, Option, Some, None, option_map}
use Rattle.std.proofs.Common.{refl, ap, arith, subst, ◌∙◌}
use Rattle.rk_tree.specs.Fetched.{Has}
use Rattle.rk_folder.specs.Import.{told_of}
use Rattle.rk_folder.specs.Schedule.{Made, Schedule, after_call, after_calls}
use Rattle.rk_folder.specs.Told.{Held}
use Rattle.rk_folder.specs.declared.folder.FolderCall.{FolderCall}
use Rattle.rk_folder.specs.declared.folder.FolderCall.TheVariants as asks

-- a read of a file that is listed
abbrev pub IsListedRead : Option Held → FolderCall → Type 0
IsListedRead told (asks.Read file) = Has (option_map told_of told) file
IsListedRead told other = ⊥

abbrev pub AreReads : Option Held → List Made → Type 0
AreReads told [] = Unit {0}
AreReads told (made ∷ more) = IsListedRead told made.0 × AreReads told more

-- a folder that tells its schedule was asked for reads of listed files, and for nothing else
abbrev pub MakesReads : Option Held → Option Schedule → Option Schedule → Type 0
MakesReads told before now = (made : List Made) × AreReads told made × (now ≡ option_map (after_calls made) before)

-- what a folder tells, and what no read changes of it
pub record Lasting : Type 0 where
  pub told : Option Held
  pub writes : ℕ
  pub reach : ℕ

-- it is still the same; only calls that had no memory may be more, and only reads were made
pub record KeptFolder (old new : Lasting) (few many : ℕ) (before now : Option Schedule) : Type 0 where
  pub held : new ≡ old
  pub memory : few ≤ many
  pub reads : MakesReads old.told before now

none-made : (schedule : Option Schedule) → schedule ≡ option_map (after_calls []) schedule
none-made None = refl
none-made (Some schedule) = refl

pub no-reads : (told : Option Held) (schedule : Option Schedule) → MakesReads told schedule schedule
no-reads told schedule = ([], tt, none-made schedule)

pub kept-itself : {it : Lasting} {memory : ℕ} (schedule : Option Schedule) → KeptFolder it it memory memory schedule schedule
kept-itself {it = it} schedule = record { held = refl; memory = omega arith; reads = no-reads it.told schedule }

reads-then : (told : Option Held) (a b : List Made) → AreReads told a → AreReads told b → AreReads told (a ++ b)
reads-then told [] b p q = q
reads-then told (made ∷ a) b p q = (p.0, reads-then told a b p.1 q)

after-both : (x y : List Made) (schedule : Schedule) → after_calls y (after_calls x schedule) ≡ after_calls (x ++ y) schedule
after-both [] y schedule = refl
after-both (made ∷ x) y schedule = after-both x y (after_call made schedule)

both-made : (x y : List Made) (schedule : Option Schedule) → option_map (after_calls y) (option_map (after_calls x) schedule) ≡ option_map (after_calls (x ++ y)) schedule
both-made x y None = refl
both-made x y (Some schedule) = ap (λ (s : Schedule). Some s) (after-both x y schedule)

pub reads-on : (told : Option Held) (a b c : Option Schedule) → MakesReads told a b → MakesReads told b c → MakesReads told a c
reads-on told a b c s t = (s.0 ++ t.0, reads-then told s.0 t.0 s.1 t.1, t.2 ∙ ap (option_map (after_calls t.0)) s.2 ∙ both-made s.0 t.0 a)

pub kept-on : {x y z : Lasting} {k l m : ℕ} {a b c : Option Schedule} → KeptFolder x y k l a b → KeptFolder y z l m b c → KeptFolder x z k m a c
kept-on {x = x} {k = k} {l = l} {m = m} {a = a} {b = b} {c = c} s t = record {
  held = t.held ∙ s.held;
  memory = let p = s.memory in let q = t.memory in omega (arith, p, q);
  reads = reads-on x.told a b c s.reads (subst (λ (it : Lasting). MakesReads it.told b c) s.held t.reads);
}
