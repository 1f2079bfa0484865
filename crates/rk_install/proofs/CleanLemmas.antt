-- What an install leaves where a call of it had no memory: just what was made before.
use Rattle.std.proofs.Common.{ℕ, ◌≡◌, inl, inr, List, [], ◌∷◌, Bool, true, false, not, cond, Option, Some, None, IfSome, OnErr, Result, Ok, Err, option_map, subst, ◌∙◌}
use Rattle.rk_folder.specs.Told.{Held}
use Rattle.rk_seal.specs.declared.ops.Op.{Op}
use Rattle.rk_install.specs.Calls.{OnNoMemory, after_all, step}
use Rattle.rk_install.specs.Halfway.{IsFront}
use Rattle.rk_install.specs.Install.{IsMoment, IsReadable, ReadableOrNone, drafted, makes_hidden, others, rooted, sealed, step_other}
use Rattle.rk_install.specs.declared.calling.InstallErr.{InstallErr}
use Rattle.rk_install.specs.declared.calling.InstallErr.TheVariants.{WriteFault, NoMemory}

pub memory-then : {P Q : Type 0} (e : InstallErr) → (P → Q) → OnNoMemory {T = Unit {0}} (Err e) P → OnNoMemory {T = Unit {0}} (Err e) Q
memory-then WriteFault f h = tt
memory-then NoMemory f h = f h

pub memory-only : {P : Type 0} (e : InstallErr) → P → OnNoMemory {T = Unit {0}} (Err e) P
memory-only WriteFault p = tt
memory-only NoMemory p = p

-- Some of the calls.

pub front-here : (ops : List Op) (old new : Option Held) → new ≡ old → IsFront ops old new
front-here [] old new same = same
front-here (op ∷ ops) old new same = inl same

front-all : (ops : List Op) (held : Held) (new : Option Held) → new ≡ Some (after_all ops held) → IsFront ops (Some held) new
front-all [] held new same = same
front-all (op ∷ ops) held new same = inr (front-all ops (step op held) new same)

front_by : (op : Op) (ops : List Op) (told new : Option Held) (m : Bool) → IsFront (others ops) (option_map (λ held. cond m held (step op held)) told) new → IsFront (cond (not m) (op ∷ others ops) (others ops)) told new
front_by op ops None new true front = front
front_by op ops (Some held) new true front = front
front_by op ops told new false front = inr front

pub front-later : (op : Op) (ops : List Op) (told now new : Option Held) → now ≡ option_map (step_other op) told → IsFront (others ops) now new → IsFront (others (op ∷ ops)) told new
front-later op ops told now new made front = front_by op ops told new (makes_hidden op) (subst (λ (o : Option Held). IsFront (others ops) o new) made front)

-- The moments of an install.

pub moment-none : (start new : Option Held) (ops : List Op) → new ≡ start → IfSome start (λ held. IsMoment ops held new)
moment-none None new ops same = tt
moment-none (Some held) new ops same = inl same

pub moment-rooted : (start one new : Option Held) (ops : List Op) → one ≡ option_map (rooted ops) start → new ≡ one → IfSome start (λ held. IsMoment ops held new)
moment-rooted None one new ops at same = tt
moment-rooted (Some held) one new ops at same = inr (inl (same ∙ at))

pub moment-drafted : (start two new : Option Held) (ops : List Op) → two ≡ option_map (drafted ops) start → new ≡ two → IfSome start (λ held. IsMoment ops held new)
moment-drafted None two new ops at same = tt
moment-drafted (Some held) two new ops at same = inr (inr (inl (same ∙ at)))

pub moment-sealed : (start three new : Option Held) (ops : List Op) → three ≡ option_map (sealed ops) start → IsFront (others ops) three new → IfSome start (λ held. IsMoment ops held new)
moment-sealed None three new ops at front = tt
moment-sealed (Some held) three new ops at front = inr (inr (inr (subst (λ (o : Option Held). IsFront (others ops) o new) at front)))

pub moment-last : (start four new : Option Held) (ops : List Op) → four ≡ option_map (λ held. after_all (others ops) (sealed ops held)) start → new ≡ four → IfSome start (λ held. IsMoment ops held new)
moment-last None four new ops at same = tt
moment-last (Some held) four new ops at same = inr (inr (inr (front-all (others ops) (sealed ops held) new (same ∙ at))))

-- of no calls all stays as it was
pub none-clean : {T : Type 0} (told new : Option Held) (result : Result T InstallErr) → OnErr result (new ≡ told) → OnNoMemory result (IfSome told (λ held. new ≡ Some held))
none-clean told new (Ok it) same = tt
none-clean told new (Err WriteFault) same = tt
none-clean None new (Err NoMemory) same = tt
none-clean (Some held) new (Err NoMemory) same = same

-- a list that is readable is so, however the install ends
pub readable-all : (calls : Option (List Op)) (before now : ℕ) (result : Result (Unit {0}) InstallErr) → IsReadable calls → ReadableOrNone calls before now result
readable-all calls before now (Ok it) is = is
readable-all calls before now (Err WriteFault) is = is
readable-all calls before now (Err NoMemory) is = inr is
