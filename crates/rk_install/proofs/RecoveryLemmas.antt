-- What is done with a sealed list.
use Rattle.std.proofs.Common.{◌≡◌, inl, inr, ℕ, Bool, arith, List, [], ◌∷◌, true, Option, Some, None, IfSome, Result, Ok, Err, OnErr, option_map, refl, sym, ap, subst, ◌∙◌}
use Rattle.rk_base.specs.Text.{Text}
use Rattle.tr_parts.specs.Reads.{Finds, Tells}
use Rattle.tr_parts.specs.declared.fault.Damage.{Damage}
use Rattle.tr_parts.specs.declared.fault.CodecErr.{CodecErr}
use Rattle.tr_parts.specs.declared.fault.CodecErr.TheVariants as codec
use Rattle.rk_folder.specs.Told.{Held}
use Rattle.rk_seal.specs.Ops.{are_calls}
use Rattle.rk_seal.specs.Spelling.{install_spelling}
use Rattle.rk_seal.specs.declared.ops.Op.{Op}
use Rattle.rk_seal.proofs.ListLemmas.{one_list}
use Rattle.rk_install.specs.Calls.{after_all}
use Rattle.rk_install.specs.Halfway.{Halfway, IsCut, finished, pass}
use Rattle.rk_install.specs.Recovery.{IsCutShort, IsDamagedList, IsRecovered, IsSealed, IsStop, NeverDamaged, MemoryCounted, ReadCaused, Recovers, RecoversAll, RecoversTold, Seals, StaysSealed, Steadily, WriteCaused, of_codec, sealed_in, unsealed}
use Rattle.rk_install.specs.declared.fault.RecoverErr.{RecoverErr}
use Rattle.rk_install.specs.declared.fault.RecoverErr.TheVariants.{Damaged, ReadFault, WriteFault, NoMemory}
use Rattle.rk_install.proofs.HalfwayLemmas.{finishes-all, stops-again}
use Rattle.rk_install.proofs.SealLemmas.{seal-kept}

-- Calls that were all made, and then nothing more.

mapped_id : (old : Option Held) → option_map (finished []) old ≡ old
mapped_id None = refl
mapped_id (Some held) = refl

mapped_pass : (op : Op) (ops : List Op) (old : Option Held) → option_map (finished (op ∷ ops)) old ≡ option_map (finished ops) (option_map (pass op) old)
mapped_pass op ops None = refl
mapped_pass op ops (Some held) = refl

pub cut-last : (ops : List Op) (old new : Option Held) → new ≡ option_map (finished ops) old → IsCut ops old new
cut-last [] old new is = is ∙ mapped_id old
cut-last (op ∷ ops) old new is = inr (cut-last ops (option_map (pass op) old) new (is ∙ mapped_pass op ops old))

pub all-then : (ops : List Op) (old mid new : Option Held) → mid ≡ option_map (finished ops) old → new ≡ option_map unsealed mid → new ≡ option_map (λ held. unsealed (finished ops held)) old
all-then ops None mid new is last = last ∙ ap (option_map unsealed) is
all-then ops (Some held) mid new is last = last ∙ ap (option_map unsealed) is

pub cut-then : (ops : List Op) (old mid new : Option Held) → mid ≡ option_map (finished ops) old → new ≡ mid → IsCut ops old new
cut-then ops old mid new is same = cut-last ops old new (same ∙ is)

pub left-then : {T : Type 0} (result : Result T RecoverErr) (ops : List Op) (old mid new : Option Held) → mid ≡ option_map (finished ops) old → OnErr result (new ≡ mid) → OnErr result (IsCut ops old new)
left-then (Ok it) ops old mid new is same = tt
left-then (Err e) ops old mid new is same = cut-then ops old mid new is same

-- What reading and carrying out come to.

pub told-carried : {T : Type 0} (told new : Option Held) (bytes : Text) (ops : List Op) (it : T) → IfSome told (λ held. sealed_in held ≡ Some bytes) → are_calls ops ≡ true → bytes ≡ install_spelling ops → new ≡ option_map (λ held. unsealed (finished ops held)) told → RecoversTold {T = T} told new (Ok it)
told-carried None new bytes ops it seal are spelt is = tt
told-carried (Some held) new bytes ops it seal are spelt is =
    subst (λ (o : Option Text). IsRecovered o held new) (sym seal) (ops, record { calls = are; spelt = ap (λ (b : Text). Some b) spelt }, is)

cut_err : (T : Type 0) (held : Held) (new : Option Held) (e : RecoverErr) → IsStop {T = T} (Err e) → IsCutShort held new → Recovers {T = T} held new (Err e)
cut_err T held new (Damaged damage) stop cut = absurd stop
cut_err T held new ReadFault stop cut = cut
cut_err T held new WriteFault stop cut = cut
cut_err T held new NoMemory stop cut = cut

pub told-cut : (A T : Type 0) (told new : Option Held) (bytes : Text) (ops : List Op) (e : RecoverErr) → IfSome told (λ held. sealed_in held ≡ Some bytes) → are_calls ops ≡ true → bytes ≡ install_spelling ops → IsStop {T = A} (Err e) → IsCut ops told new → RecoversTold {T = T} told new (Err e)
told-cut A T None new bytes ops e seal are spelt stop cut = tt
told-cut A T (Some held) new bytes ops e seal are spelt stop cut = cut_err T held new e (stop_as e stop) (inr (ops, record { calls = are; spelt = seal ∙ ap (λ (b : Text). Some b) spelt }, cut)) where
  stop_as : (e : RecoverErr) → IsStop {T = A} (Err e) → IsStop {T = T} (Err e)
  stop_as (Damaged damage) s = s
  stop_as ReadFault s = tt
  stop_as WriteFault s = tt
  stop_as NoMemory s = tt

pub told-undecoded : (T : Type 0) (told : Option Held) (bytes : Text) (e : CodecErr) → IfSome told (λ held. sealed_in held ≡ Some bytes) → Tells {T = List Op} 44 bytes (Err e)
    → ((ops : List Op) → are_calls ops ≡ true → bytes ≡ install_spelling ops → Finds {T = List Op} (Err e) ops) → RecoversTold {T = T} told told (Err (of_codec e))
told-undecoded T None bytes e seal tells only = tt
told-undecoded T (Some held) bytes (codec.Damaged damage) seal tells only =
    (subst (λ (o : Option Text). IsDamagedList o damage) (sym seal) (tells, λ ops are spelt. only ops are spelt), refl)
told-undecoded T (Some held) bytes codec.NoMemory seal tells only = inl refl

-- and no count of the folder rose
pub still-reads : (T : Type 0) (n : ℕ) (e : CodecErr) → ReadCaused {T = T} n n (Err (of_codec e))
still-reads T n (codec.Damaged damage) = refl
still-reads T n codec.NoMemory = refl

pub still-writes : (T : Type 0) (n : ℕ) (e : CodecErr) → WriteCaused {T = T} n n (Err (of_codec e))
still-writes T n (codec.Damaged damage) = refl
still-writes T n codec.NoMemory = refl

pub still-memory : (T : Type 0) (n : ℕ) (e : CodecErr) → MemoryCounted {T = T} n n (Err (of_codec e))
still-memory T n (codec.Damaged damage) = refl
still-memory T n codec.NoMemory = omega arith

pub still-steady : (T : Type 0) (b : Bool) (e : CodecErr) → Steadily {T = T} b b (Err (of_codec e))
still-steady T b (codec.Damaged damage) = (refl, λ on. tt)
still-steady T b codec.NoMemory = (refl, λ on. tt)

-- all is as before
pub told-untouched : (told new : Option Held) → new ≡ told → IfSome told (λ held. IsCutShort held new)
told-untouched None new same = tt
told-untouched (Some held) new same = inl same

pub told-unsealed : {T : Type 0} (told new : Option Held) (seal : Option Text) (it : T) → IfSome told (λ held. seal ≡ sealed_in held) → seal ≡ None → new ≡ told → RecoversTold {T = T} told new (Ok it)
told-unsealed None new seal it is none same = tt
told-unsealed (Some held) new seal it is none same = subst (λ (o : Option Text). IsRecovered o held new) (sym none ∙ is) same

-- from the moment at which the list was looked at
pub told-from : {T : Type 0} (told mid new : Option Held) (result : Result T RecoverErr) → mid ≡ told → RecoversTold {T = T} mid new result → RecoversTold {T = T} told new result
told-from told mid new result same h = subst (λ (o : Option Held). RecoversTold o new result) same h

-- Laws.

some_one : (a b : Text) → Some a ≡ Some b → a ≡ b
some_one a b e = cc

one_seal : (ops others : List Op) (start held : Held) → IsSealed ops start held → Seals (sealed_in held) others → others ≡ ops
one_seal ops others start held sealed seals =
    sym (one_list ops others sealed.calls seals.calls sealed.few (some_one (install_spelling ops) (install_spelling others) (sym sealed.seal ∙ seals.spelt)))

pub recovers-all : RecoversAll
recovers-all ops start held new sealed h = by (sealed_in held) sealed.seal refl h where
  by : (o : Option Text) → o ≡ Some (install_spelling ops) → sealed_in held ≡ o → IsRecovered o held new → new ≡ Some (unsealed (after_all ops start))
  by None none same k = cc
  by (Some bytes) some same k =
      k.2 ∙ ap (λ (l : List Op). Some (unsealed (finished l held))) (one_seal ops k.0 start held sealed (subst (λ (o : Option Text). Seals o k.0) (sym same) k.1)) ∙ ap (λ (f : Held). Some (unsealed f)) (finishes-all ops start held sealed.whole sealed.ready sealed.half)

still_sealed : (ops : List Op) (start held : Held) (new : Option Held) → IsSealed ops start held → IfSome new (Halfway ops start) → IfSome new (λ h. sealed_in h ≡ sealed_in held) → IfSome new (IsSealed ops start)
still_sealed ops start held None sealed half seal = tt
still_sealed ops start held (Some k) sealed half seal = record { calls = sealed.calls; few = sealed.few; seal = seal ∙ sealed.seal; whole = sealed.whole; ready = sealed.ready; half = half }

pub stays-sealed : StaysSealed
stays-sealed ops start held new sealed (inl same) = subst (λ (o : Option Held). IfSome o (IsSealed ops start)) (sym same) sealed
stays-sealed ops start held new sealed (inr h) =
    let cut : IsCut ops (Some held) new = subst (λ (l : List Op). IsCut l (Some held) new) (one_seal ops h.0 start held sealed h.1) h.2 in
    still_sealed ops start held new sealed (stops-again ops start held new sealed.whole sealed.ready sealed.half cut) (seal-kept ops held new sealed.calls cut)

undamaged : (o : Option Text) (ops : List Op) (damage : Damage) → are_calls ops ≡ true → o ≡ Some (install_spelling ops) → IsDamagedList o damage → ⊥
undamaged None ops damage are seal d = d
undamaged (Some bytes) ops damage are seal d = d.1 ops are (some_one bytes (install_spelling ops) seal)

pub never-damaged : NeverDamaged
never-damaged ops start held damage sealed d = undamaged (sealed_in held) ops damage sealed.calls sealed.seal d
