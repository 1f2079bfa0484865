-- A sealed list of calls is finished before anything else.
use Rattle.std.proofs.Common.{◌≡◌, inl, inr, ℕ, List, Bool, true, false, cond, Option, Some, None, IfSome, Ok, Err, refl, sym, ap, subst, ◌∙◌}
use Rattle.rk_base.specs.Text.{Text}
use Rattle.rk_folder.specs.Counts.{Rose}
use Rattle.rk_folder.specs.Schedule.{MakesCalls, Schedule}
use Rattle.rk_folder.specs.Hidden.{install_file}
use Rattle.rk_folder.specs.Told.{Held, bytes_in, standing}
use Rattle.rk_folder.proofs.HeldLemmas.{standing-without}
use Rattle.rk_base.proofs.WithinLemmas.{ties_itself}
use Rattle.rk_install.specs.Halfway.{finished}
use Rattle.rk_folder.proofs.CallsLemmas.{makes-none}
use Rattle.rk_install.specs.Recovery.{IsNoFault as IsNoStop, IsRecovered, ReadCaused, RecoversTold, Steadily, WriteCaused, seal_looks, sealed_in}
use Rattle.rk_install.specs.declared.fault.RecoverErr.{RecoverErr}
use Rattle.rk_install.specs.declared.fault.RecoverErr.TheVariants.{Damaged, ReadFault, WriteFault, NoMemory}
use Rattle.rk_request.specs.Asked.{request_of}
use Rattle.rk_request.specs.declared.requests.Request.{Request}
use Rattle.rk_build.specs.Outcomes.{Counted, Counts, ErrorsCounted, IsNoFault}
use Rattle.rk_build.specs.Telling.{IsTold, SinkState, Tells}
use Rattle.rk_build.specs.declared.outcome.Outcome.{Outcome}
use Rattle.rk_build.specs.declared.outcome.Outcome.TheVariants as out
use Rattle.rk_build.proofs.BuildLemmas.{counts-same}
use Rattle.rk_build.proofs.TellLemmas.{line-faults, line-no-fault, steady-same, told-counted}
use Rattle.rk_top.specs.Outside.{Outside, Steady, counts, with_line}
use Rattle.rk_top.specs.Recovers.{Halts, Precedes, ServesAfter, StopsFirst, asks_folder, is_of_folder, outcome_of_recovery}
use Rattle.rk_top.specs.Serves.{Works}
use Rattle.rk_top.proofs.ServeLemmas.{errors-still, line-alone, read-rose, serves-asked, serves-none, serves-unread, unnamed}

clash : {P : Type 0} (b : Bool) → b ≡ true → b ≡ false → P
clash b t f = absurd (no (sym t ∙ f)) where
  no : true ≡ false → ⊥
  no e = cc

-- The test of the request.

pub not-of-folder : {P : Type 0} (b : Bool) (asked : Request) → b ≡ is_of_folder asked → b ≡ false → is_of_folder asked ≡ true → P
not-of-folder b asked is off on = clash (is_of_folder asked) on (sym is ∙ off)

pub of-folder : {P : Type 0} (b : Bool) (asked : Request) → b ≡ is_of_folder asked → b ≡ true → is_of_folder asked ≡ false → P
of-folder b asked is on off = clash (is_of_folder asked) (sym is ∙ on) off

pub none-looked : (told : Option Held) (schedule : Option Schedule) → IfSome told (λ held. sealed_in held ≡ None → MakesCalls seal_looks schedule schedule)
none-looked None schedule = tt
none-looked (Some held) schedule = λ none. makes-none seal_looks schedule schedule refl

-- Why it wasn't finished.

recovery-counted : (b m : Counts) (e : RecoverErr) → ReadCaused {T = Unit {0}} b.reads m.reads (Err e) → WriteCaused {T = Unit {0}} b.writes m.writes (Err e) → m.puts ≡ b.puts → m.error_puts ≡ b.error_puts → Counted b m (outcome_of_recovery e)
recovery-counted b m (Damaged damage) r w p x = counts-same b m r w p x
recovery-counted b m ReadFault r w p x = (r.1, w, p, x)
recovery-counted b m WriteFault r w p x = (r, inl w.1)
recovery-counted b m NoMemory r w p x = counts-same b m r w p x

recovery-no-fault : (e : RecoverErr) → IsNoStop {T = Unit {0}} (Err e) → IsNoFault (outcome_of_recovery e)
recovery-no-fault (Damaged damage) h = tt
recovery-no-fault ReadFault h = absurd h
recovery-no-fault WriteFault h = absurd h
recovery-no-fault NoMemory h = tt

recovery-rose : (e : RecoverErr) (b n : ℕ) → WriteCaused {T = Unit {0}} b n (Err e) → outcome_of_recovery e ≡ out.WriteFault → Rose b n
recovery-rose (Damaged damage) b n w is = absurd (let bad : outcome_of_recovery (Damaged damage) ≡ out.WriteFault = is in cc)
recovery-rose ReadFault b n w is = absurd (let bad : out.ReadFault ≡ out.WriteFault = is in cc)
recovery-rose WriteFault b n w is = w.1
recovery-rose NoMemory b n w is = absurd (let bad : out.NoMemory ≡ out.WriteFault = is in cc)

pub not-none : (e : RecoverErr) → Some e ≡ None → ⊥
not-none e h = cc

-- Once it was finished no list stands.
none-sealed : (held : Held) (new : Option Held) → IsRecovered (sealed_in held) held new → IfSome new (λ it. sealed_in it ≡ None)
none-sealed held new recovered = by (sealed_in held) refl recovered where
  by : (o : Option Text) → sealed_in held ≡ o → IsRecovered o held new → IfSome new (λ it. sealed_in it ≡ None)
  by None none same = subst (λ (n : Option Held). IfSome n (λ it. sealed_in it ≡ None)) (sym same) none
  by (Some bytes) stands r =
      subst (λ (n : Option Held). IfSome n (λ it. sealed_in it ≡ None)) (sym r.2)
      (ap bytes_in (standing-without install_file (finished r.0 held) install_file ∙ ap (λ (b : Bool). cond b None (standing (finished r.0 held) install_file)) (ties_itself install_file)))

told-none : (told new : Option Held) → RecoversTold {T = Unit {0}} told new (Ok tt) → IfSome told (λ was. IfSome new (λ held. sealed_in held ≡ None))
told-none None new h = tt
told-none (Some held) new h = none-sealed held new h

-- What comes before the work.

pub precedes : (of_folder : Bool) (before mid : Outside) → (of_folder ≡ true → RecoversTold {T = Unit {0}} before.held mid.held (Ok tt)) → (of_folder ≡ false → (mid.held ≡ before.held) × (mid.schedule ≡ before.schedule)) → IfSome before.held (λ held. sealed_in held ≡ None → MakesCalls seal_looks before.schedule mid.schedule)
    → mid.reads ≡ before.reads → mid.writes ≡ before.writes → mid.memory ≡ before.memory → mid.steady.folder ≡ before.steady.folder → mid.steady.out ≡ before.steady.out → mid.steady.err ≡ before.steady.err → mid.out ≡ before.out → mid.err ≡ before.err → mid.live ≡ before.live → Precedes of_folder before mid
precedes of_folder before mid told apart looks reads writes memory steady steady_out steady_err output errors live = record {
  finished = told;
  none_sealed = λ on. told-none before.held mid.held (told on);
  untouched = apart;
  looks = looks;
  none_rose = counts-same (counts before) (counts mid) reads writes (ap (λ (s : SinkState). s.faults) output) (ap (λ (s : SinkState). s.faults) errors);
  memory = memory;
  sinks = (output, errors);
  steady = (steady, steady_out, steady_err);
  live = live;
}

-- nothing was done yet
pub still-first : (before : Outside) (of_folder : Bool) → of_folder ≡ false → Precedes of_folder before before
still-first before of_folder off = precedes of_folder before before (λ on. clash of_folder on off) (λ same. (refl, refl)) (none-looked before.held before.schedule) refl refl refl refl refl refl refl refl refl

-- it couldn't be finished
pub stops-first : (request : Request) (before now : Outside) (e : RecoverErr) (outcome : Outcome) → outcome ≡ outcome_of_recovery e → (is_of_folder request ≡ true → RecoversTold {T = Unit {0}} before.held now.held (Err e)) → (is_of_folder request ≡ false → ⊥) → ReadCaused {T = Unit {0}} before.reads now.reads (Err e) → WriteCaused {T = Unit {0}} before.writes now.writes (Err e)
    → Steadily {T = Unit {0}} before.steady.folder now.steady.folder (Err e) → now.steady.err ≡ before.steady.err → now.out ≡ before.out → now.err ≡ before.err → now.live ≡ before.live → StopsFirst (is_of_folder request) before now outcome
stops-first request before now e outcome is told asked reads writes steady still output errors live =
    let on : is_of_folder request ≡ true = by (is_of_folder request) refl in
    let counted : Counted (counts before) (counts now) (outcome_of_recovery e) = recovery-counted (counts before) (counts now) e reads writes (ap (λ (s : SinkState). s.faults) output) (ap (λ (s : SinkState). s.faults) errors) in
    record {
      asked = on;
      err = e;
      is = is;
      folder = told on;
      sinks = (output, errors);
      live = live;
      counted = subst (λ (o : Outcome). Counted (counts before) (counts now) o) (sym is) counted;
      write_fault = λ fault. recovery-rose e before.writes now.writes writes (sym is ∙ fault);
      steady = λ s. (still ∙ s.err, subst IsNoFault (sym is) (recovery-no-fault e (steady.1 s.folder)));
    } where
      by : (b : Bool) → is_of_folder request ≡ b → is_of_folder request ≡ true
      by true h = h
      by false h = absurd (asked h)

-- The outcome's line.

-- it couldn't be finished, and that is told
halts : (words : List Text) (asked : Request) (before worked : Outside) (err : SinkState) (steady : Steady) (outcome told : Outcome) → request_of words ≡ Some asked → StopsFirst (is_of_folder asked) before worked outcome → Tells outcome told worked.err err → (worked.steady.err ≡ true → err.faults ≡ worked.err.faults) → Halts words before (with_line err steady worked) told
halts words asked before worked err steady outcome told is stop tells steadily = record {
  asked = ap asks_folder is ∙ stop.asked;
  err = stop.err;
  told = subst (λ (o : Outcome). IsTold o told) stop.is tells.0;
  folder = stop.folder;
  output = stop.sinks.0;
  live = stop.live;
  line = line-alone before.err worked.err err outcome told (ap (λ (s : SinkState). s.so_far) stop.sinks.1) (subst (λ (s : SinkState). ErrorsCounted before.err s outcome) (sym stop.sinks.1) (errors-still before.err outcome)) tells;
  read_fault = λ fault. read-rose (counts before) (counts worked) told fault (told-counted (counts before) (counts worked) outcome told tells.0 stop.counted);
  write_fault = λ fault. stop.write_fault (unnamed outcome told out.WriteFault tells.0 (λ e. cc) fault);
  faults = line-faults (counts before) (counts worked) (counts (with_line err steady worked)) worked.err err outcome told stop.counted tells refl refl refl refl refl;
  steady = λ s. let h = stop.steady s in (line-no-fault outcome told tells.0 h.1, steady-same (counts before) (counts worked) (counts (with_line err steady worked)) outcome stop.counted h.1 refl refl refl (steadily h.0));
}

pub after-stop : (words : List Text) (asked : Request) (before worked : Outside) (err : SinkState) (steady : Steady) (outcome told : Outcome) → request_of words ≡ Some asked → StopsFirst (is_of_folder asked) before worked outcome → Tells outcome told worked.err err → (worked.steady.err ≡ true → err.faults ≡ worked.err.faults) → ServesAfter words before (with_line err steady worked) told
after-stop words asked before worked err steady outcome told is stop tells steadily = inr (halts words asked before worked err steady outcome told is stop tells steadily)

-- it was finished, and the work was done from there
pub after-asked : (words : List Text) (asked : Request) (before mid worked : Outside) (err : SinkState) (steady : Steady) (outcome told : Outcome) → request_of words ≡ Some asked → Precedes (is_of_folder asked) before mid → Works asked mid worked outcome → Tells outcome told worked.err err → (worked.steady.err ≡ true → err.faults ≡ worked.err.faults) → ServesAfter words before (with_line err steady worked) told
after-asked words asked before mid worked err steady outcome told is first works tells steadily =
    inl (mid, (subst (λ (b : Bool). Precedes b before mid) (sym (ap asks_folder is)) first, serves-asked words asked mid worked err steady outcome told is works tells steadily))

-- the words are no request
pub after-none : (words : List Text) (before : Outside) (err : SinkState) (steady : Steady) (told : Outcome) → request_of words ≡ None → Tells out.Usage told before.err err → (before.steady.err ≡ true → err.faults ≡ before.err.faults) → ServesAfter words before (with_line err steady before) told
after-none words before err steady told none tells steadily = inl (before, (still-first before (asks_folder (request_of words)) (ap asks_folder none), serves-none words before err steady told none tells steadily))

-- there was no memory to read them
no-memory : (told : Option Held) → RecoversTold {T = Unit {0}} told told (Err NoMemory)
no-memory None = tt
no-memory (Some held) = inl refl

unread-stops : (before : Outside) (of_folder : Bool) → of_folder ≡ true → StopsFirst of_folder before before out.NoMemory
unread-stops before of_folder on = record {
  asked = on;
  err = NoMemory;
  is = refl;
  folder = no-memory before.held;
  sinks = (refl, refl);
  live = refl;
  counted = refl;
  write_fault = λ fault. absurd (let bad : out.NoMemory ≡ out.WriteFault = fault in cc);
  steady = λ s. (s.err, tt);
}

pub after-unread : (words : List Text) (before : Outside) (err : SinkState) (steady : Steady) (told : Outcome) → Tells out.NoMemory told before.err err → (before.steady.err ≡ true → err.faults ≡ before.err.faults) → ServesAfter words before (with_line err steady before) told
after-unread words before err steady told tells steadily = by (request_of words) refl where
  of : (asked : Request) → request_of words ≡ Some asked → (b : Bool) → is_of_folder asked ≡ b → ServesAfter words before (with_line err steady before) told
  of asked is true on = inr (halts words asked before before err steady out.NoMemory told is (unread-stops before (is_of_folder asked) on) tells steadily)
  of asked is false off = inl (before, (still-first before (asks_folder (request_of words)) (ap asks_folder is ∙ off), serves-unread words before err steady told tells steadily))

  by : (o : Option Request) → request_of words ≡ o → ServesAfter words before (with_line err steady before) told
  by None none = inl (before, (still-first before (asks_folder (request_of words)) (ap asks_folder none), serves-unread words before err steady told tells steadily))
  by (Some asked) is = of asked is (is_of_folder asked) refl
