-- A record is spoken step by step exactly where the run over its answers is as recorded.
use Rattle.std.proofs.Common.{◌≡◌, ◌↔◌, ℕ, ◌+◌, ◌-◌, List, [], ◌∷◌, drop, refl, ap, arith}
use Rattle.std.proofs.lemmas.List.Sums.{sum_by-cons}
use Rattle.rk_calls.specs.declared.answer.Answer.{Answer}
use Rattle.rk_calls.specs.declared.drive.Spoke.{Spoke}
use Rattle.rk_calls.specs.declared.drive.Spoke.TheVariants.{Call as Calls, Exit as Exits, Short}
use Rattle.rk_calls.specs.Keys.{KeyValue}
use Rattle.rk_calls.specs.Saying.{speaks, goes_on}
use Rattle.rk_calls.specs.Talk.{Says, Lasts}
use Rattle.tr_record.specs.Costs.{steps_cost}
use Rattle.tr_record.specs.declared.records.Record.{Record}
use Rattle.tr_record.specs.declared.steps.Step.{Step}
use Rattle.rk_traces.specs.Lasting.{asks-enough, asks-exact, ends-exact, Lasts-goes, AllLast}
use Rattle.rk_traces.specs.Own.{own}
use Rattle.rk_traces.specs.Run.{step}
use Rattle.rk_traces.specs.Spoken.{follow, Follows, IsSpoken}
use Rattle.rk_traces.specs.Over.{Exited, Spent, Dry, Heard, heard, then, last_heard, next_heard, over, answers_of, AllFit, IsRunOver}

over-spoken : (x : Says) → Lasts x → (steps : List Step) (exit cost p : ℕ) → p ≡ steps_cost steps + cost → Follows x steps → speaks cost (follow x steps) ≡ Exits exit cost → over p x (answers_of steps) ≡ heard steps (Exited exit cost)
over-spoken x l [] exit cost p h f e =
    let z : p ≡ cost = omega arith in
    rw (z, e) refl
over-spoken x l (st ∷ sts) exit cost p h f e =
    let c = sum_by-cons (λ (s : Step). s.cost) st sts in
    let says = asks-enough x l st.cost p st.call f.0.0 (omega arith) in
    let m : p - st.cost ≡ steps_cost sts + cost = omega arith in
    let on = over-spoken (goes_on st.cost x st.answer) (Lasts-goes x l st.call st.cost f.0.0 st.answer) sts exit cost (p - st.cost) m f.1 e in
    rw says (ap (then st) on)

-- the step by step meaning of steps and an exit
record Spoken (x : Says) (steps : List Step) (exit cost : ℕ) : Type 0 where
  follows : Follows x steps
  ends : speaks cost (follow x steps) ≡ Exits exit cost

last-exits : (s : Spoke) (exit cost : ℕ) → last_heard s ≡ heard [] (Exited exit cost) → s ≡ Exits exit cost
last-exits (Calls call c) exit cost e = let h : Dry ≡ Exited exit cost = ap (λ (t : Heard). t.ending) e in cc
last-exits (Exits status c) exit cost e = let h : Exited status c ≡ Exited exit cost = ap (λ (t : Heard). t.ending) e in cc
last-exits Short exit cost e = let h : Spent ≡ Exited exit cost = ap (λ (t : Heard). t.ending) e in cc

record NextIs (s : Spoke) (on : ℕ → Heard) (st : Step) (sts : List Step) (exit cost : ℕ) : Type 0 where
  says : s ≡ Calls st.call st.cost
  rest : on st.cost ≡ heard sts (Exited exit cost)

next-calls : (s : Spoke) (a : Answer) (on : ℕ → Heard) (st : Step) (sts : List Step) (exit cost : ℕ) → next_heard a on s ≡ heard (st ∷ sts) (Exited exit cost) → NextIs s on st sts exit cost
next-calls (Calls call c) a on st sts exit cost e =
    let both : (step c call a) ∷ (on c).steps ≡ st ∷ sts = ap (λ (t : Heard). t.steps) e in
    let is : step c call a ≡ st = cc in
    let ec : c ≡ st.cost = ap (λ (s : Step). s.cost) is in
    let ek : call ≡ st.call = ap (λ (s : Step). s.call) is in
    let r : on c ≡ heard sts (Exited exit cost) = ap (λ (t : Heard). heard (drop 1 t.steps) t.ending) e in
    record { says = rw (ec, ek) refl; rest = rw (← ec) r }
next-calls (Exits status c) a on st sts exit cost e = let h : [] ≡ st ∷ sts = ap (λ (t : Heard). t.steps) e in cc
next-calls Short a on st sts exit cost e = let h : [] ≡ st ∷ sts = ap (λ (t : Heard). t.steps) e in cc

spoken-over : (x : Says) → Lasts x → (steps : List Step) (exit cost p : ℕ) → p ≡ steps_cost steps + cost → AllFit steps → over p x (answers_of steps) ≡ heard steps (Exited exit cost) → Spoken x steps exit cost
spoken-over x l [] exit cost p h fit e = record { follows = tt; ends = ends-exact x l cost p exit (last-exits (speaks p x) exit cost e) }
spoken-over x l (st ∷ sts) exit cost p h fit e =
    let c = sum_by-cons (λ (s : Step). s.cost) st sts in
    let n = next-calls (speaks p x) st.answer (λ c. over (p - c) (goes_on c x st.answer) (answers_of sts)) st sts exit cost e in
    let says = asks-exact x l st.cost p st.call n.says in
    let m : p - st.cost ≡ steps_cost sts + cost = omega arith in
    let on = spoken-over (goes_on st.cost x st.answer) (Lasts-goes x l st.call st.cost says st.answer) sts exit cost (p - st.cost) m fit.1 n.rest in
    record { follows = ((says, fit.0), on.follows); ends = on.ends }

all-fit : (x : Says) (steps : List Step) → Follows x steps → AllFit steps
all-fit x [] f = tt
all-fit x (st ∷ sts) f = (f.0.1, all-fit (goes_on st.cost x st.answer) sts f.1)

pub spoken-is_run : (first : KeyValue → Says) → AllLast first → (rec : Record) → IsSpoken first rec ↔ IsRunOver first rec
spoken-is_run first lasts rec = (
  λ s.
      record {
        run = over-spoken (first rec.key) (lasts rec.key) rec.steps rec.exit rec.exit_cost (own rec) refl s.follows s.ends;
        fit = all-fit (first rec.key) rec.steps s.follows;
      },
  λ r.
      let s = spoken-over (first rec.key) (lasts rec.key) rec.steps rec.exit rec.exit_cost (own rec) refl r.fit r.run in
      record { follows = s.follows; ends = s.ends },
)
