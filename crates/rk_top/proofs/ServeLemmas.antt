-- What was done, and then the outcome's line.
use Rattle.std.proofs.Common.{◌≡◌, ◌≢◌, ◌⊎◌, ◌≤◌, inl, inr, ℕ, List, Bool, true, Option, Some, None, Result, refl, sym, subst, ◌∙◌, arith}
use Rattle.rk_base.specs.Text.{Text}
use Rattle.rk_folder.specs.Counts.{Rose, one_more}
use Rattle.rk_folder.proofs.CallsLemmas.{makes-none}
use Rattle.rk_request.specs.Asked.{IfBuild, IfGen, IfQuery, request_of}
use Rattle.rk_request.specs.declared.requests.Request.{Request}
use Rattle.rk_request.specs.declared.requests.Request.TheVariants as request
use Rattle.rk_folder.specs.Told.{Held}
use Rattle.rk_build.specs.Outcomes.{Counted, Counts, ErrorsCounted, Faults, GainsLine, IsNoFault}
use Rattle.rk_build.specs.Telling.{IsTold, SinkState, Tells}
use Rattle.rk_build.specs.declared.outcome.Outcome.{Outcome}
use Rattle.rk_build.specs.declared.outcome.Outcome.TheVariants as out
use Rattle.rk_build.proofs.CallsLemmas.{asks-none}
use Rattle.rk_build.proofs.TellLemmas.{line-asks, line-damaged, line-ended, line-faults, line-forged, line-gains, line-leaves, line-no-fault, line-settles, line-special, line-ticked, mid-still, steady-same, told-counted, told-errors, told-gains}
use Rattle.rk_top.specs.First.{first_talk}
use Rattle.rk_top.specs.Outside.{GainsLineAlone, IsSteady, Outside, Steady, counts, with_line}
use Rattle.rk_top.specs.Generated.{Generates}
use Rattle.rk_top.specs.Queries.{IsAnswer, Queried}
use Rattle.rk_top.specs.Serves.{BuildWorks, Builds, QueryWorks, Serves, Works, query_calls}
use Rattle.rk_top.proofs.AskLemmas.{asks, asks-any, build-then, builds-any, gen-then, gens-any, queries-any, query-then, unasked}
use Rattle.rk_top.proofs.GeneratedLemmas.{line-generates}
use Rattle.rk_top.proofs.QueryLemmas.{asked-not-usage, line-queried, unread-queried}
use Rattle.rk_database.specs.declared.stop.Said.{Said}
use Rattle.rk_database.specs.declared.stop.QueryErr.{QueryErr}

-- The work.

-- a request that is known
pub works-as : (request it : Request) (before now : Outside) (outcome : Outcome) → request ≡ it → Works it before now outcome → Works request before now outcome
works-as request it before now outcome same h = subst (λ (r : Request). Works r before now outcome) (sym same) h

-- a count that stays hasn't fallen or risen
pub errors-still : (err : SinkState) (outcome : Outcome) → ErrorsCounted err err outcome
errors-still err (out.Ended status launched ran) = (refl, refl)
errors-still err out.Usage = (refl, refl)
errors-still err (out.Said status) = (refl, refl)
errors-still err (out.Special path) = (refl, refl)
errors-still err (out.Damaged file damage) = (refl, refl)
errors-still err (out.Forged rec step) = (refl, refl)
errors-still err out.Spent = (refl, refl)
errors-still err out.ReadFault = (refl, refl)
errors-still err out.WriteFault = (omega arith, refl)
errors-still err out.NoMemory = (refl, omega arith)

-- nothing but a build puts anything on the error text
pub works-of : (it : Request) (before now : Outside) (outcome : Outcome) → outcome ≢ out.Usage → IfBuild it (BuildWorks it before now outcome) → Queried first_talk it before.held now.held before.out.so_far now.out.so_far outcome → IfQuery it (QueryWorks it before now)
    → IfGen it (λ seed. Generates first_talk seed before.live now.live before.out.so_far now.out.so_far outcome) → IfGen it (λ seed. (now.held ≡ before.held) × (now.err.so_far ≡ before.err.so_far))
    → ((errors : ℕ) → Counted (record { reads = before.reads; writes = before.writes; puts = before.out.faults; error_puts = errors }) (record { reads = now.reads; writes = now.writes; puts = now.out.faults; error_puts = errors }) outcome)
    → (IsSteady before → IsNoFault outcome) → now.err ≡ before.err → now.steady.err ≡ before.steady.err → Works it before now outcome
works-of it before now outcome asked build queried query generated apart counted steady same still = record {
  asked = asked;
  build = build;
  queried = queried;
  query = query;
  generated = generated;
  apart = apart;
  counted = subst (λ (e : SinkState). Counted (counts before) (record { reads = now.reads; writes = now.writes; puts = now.out.faults; error_puts = e.faults }) outcome) (sym same) (counted before.err.faults);
  error_counts = subst (λ (e : SinkState). ErrorsCounted before.err e outcome) (sym same) (errors-still before.err outcome);
  steady = λ s. (still ∙ s.err, steady s);
}

-- a build asks nothing of the database alone
pub unqueried : (it : Request) (steps : ℕ) (explain fresh check : Bool) (told now : Option Held) (old new : Option Text) (outcome : Outcome) → it ≡ request.Build steps explain fresh check → Queried first_talk it told now old new outcome
unqueried it steps explain fresh check told now old new outcome same = subst (λ (r : Request). Queried first_talk r told now old new outcome) (sym same) tt

-- an answer is no refusal of the words
pub answer-asked : (outcome : Outcome) (P : Result Said QueryErr → Type 0) → IsAnswer outcome P → outcome ≢ out.Usage
answer-asked outcome P a = λ e. asked-not-usage a.0 (sym a.1.0 ∙ e)

pub line-asked : (seed before now : ℕ) (old new : Option Text) (outcome : Outcome) → Generates first_talk seed before now old new outcome → outcome ≢ out.Usage
line-asked seed before now old new outcome h = λ e. subst (λ (o : Outcome). Generates first_talk seed before now old new o) e h

-- The outcome's line.

-- what is told without a name is what it was
pub unnamed : (outcome told it : Outcome) → IsTold outcome told → it ≢ out.NoMemory → told ≡ it → outcome ≡ it
unnamed outcome told it (inl same) other is = sym same ∙ is
unnamed outcome told it (inr named) other is = absurd (other (sym is ∙ named.1))

pub line-alone : (before worked now : SinkState) (outcome told : Outcome) → worked.so_far ≡ before.so_far → ErrorsCounted before worked outcome → Tells outcome told worked now → GainsLineAlone before now told
line-alone before worked now outcome told nothing counted tells = record {
  worked = worked;
  nothing = nothing;
  counted = told-errors before worked outcome told tells.0 counted;
  line = tells.1;
}

-- Of a build.
builds-told : (request : Request) (before worked : Outside) (err : SinkState) (steady : Steady) (outcome told : Outcome) → Builds request before worked outcome → ErrorsCounted before.err worked.err outcome → Tells outcome told worked.err err → Builds request before (with_line err steady worked) told
builds-told request before worked err steady outcome told b counted tells = record {
  folder = line-leaves first_talk request _ _ _ _ _ _ tells.0 b.folder;
  status = line-ended _ _ _ tells.0 b.status;
  tally = line-ended _ _ _ tells.0 b.tally;
  checked = line-ended _ _ _ tells.0 b.checked;
  live = line-ticked request _ _ _ _ tells.0 b.live;
  calls = line-asks first_talk request _ _ _ _ _ _ tells.0 b.calls;
  output = told-gains first_talk request _ _ _ _ _ tells.0 b.output;
  special = line-special _ _ _ tells.0 b.special;
  damaged = line-damaged _ _ _ tells.0 b.damaged;
  forged = line-forged _ _ _ tells.0 b.forged;
  spent = λ is. b.spent (unnamed outcome told out.Spent tells.0 (λ e. cc) is);
  complete = λ held is r w o x. line-settles first_talk request held _ _ tells.0 (b.complete held is r w o (mid-still before.err worked.err err outcome told counted tells.1 x));
}

-- a write fault after the line is one that a count rose for
fault-rose : (b n : Counts) (outcome : Outcome) → outcome ≡ out.WriteFault → Faults b n outcome → Rose b.writes n.writes ⊎ Rose b.puts n.puts ⊎ Rose b.error_puts n.error_puts
fault-rose b n outcome is h =
    let f : Faults b n out.WriteFault = subst (λ (o : Outcome). Faults b n o) is h in
    let writes : n.writes ≡ f.0.writes = f.2.1 in
    let puts : n.puts ≡ f.0.puts = f.2.2 in
    let rest : f.0.error_puts ≤ n.error_puts = f.2.3 in
    elim f.1.1 [
      | inl w ↦ inl (subst (Rose b.writes) (sym writes) w)
      | inr x ↦ elim x [
        | inl p ↦ inr (inl (subst (Rose b.puts) (sym puts) p))
        | inr e ↦ let first : one_more b.error_puts ≤ f.0.error_puts = e in inr (inr (omega arith))
      ]
    ]

pub read-rose : (b n : Counts) (outcome : Outcome) → outcome ≡ out.ReadFault → Counted b n outcome → Rose b.reads n.reads
read-rose b n outcome is h = let f : Counted b n out.ReadFault = subst (λ (o : Outcome). Counted b n o) is h in f.0

-- the request was read, and its work done
pub serves-asked : (words : List Text) (request : Request) (before worked : Outside) (err : SinkState) (steady : Steady) (outcome told : Outcome) → request_of words ≡ Some request → Works request before worked outcome → Tells outcome told worked.err err
    → (worked.steady.err ≡ true → err.faults ≡ worked.err.faults) → Serves words before (with_line err steady worked) told
serves-asked words request before worked err steady outcome told asked done tells steadily = record {
  usage = λ is. absurd (done.asked (unnamed outcome told out.Usage tells.0 (λ e. cc) is));
  refused = λ none. absurd (clash none);
  untouched = λ none. absurd (clash none);
  unasked = λ none. absurd (clash none);
  build = asks words _ request asked (build-then request _ _ (λ b. builds-told request before worked err steady outcome told b.builds done.error_counts tells) done.build);
  errors = asks words _ request asked (build-then request (BuildWorks request before worked outcome) (GainsLine first_talk request before.held before.out worked.out before.err err told) (λ b. line-gains first_talk request _ _ _ _ _ _ _ _ b.order b.errors done.error_counts tells) done.build);
  queried = asks words _ request asked (line-queried first_talk request _ _ _ _ _ _ tells.0 done.queried);
  silent = asks words _ request asked (query-then request _ _ (λ q. (q.live, line-alone before.err worked.err err outcome told q.errors done.error_counts tells)) done.query);
  looks = asks words _ request asked (query-then request _ _ (λ q. q.looks) done.query);
  generated = asks words _ request asked (gen-then request _ _ (λ seed h. line-generates first_talk seed _ _ _ _ _ _ tells.0 h) done.generated);
  apart = asks words _ request asked (gen-then request _ _ (λ seed h. (h.0, line-alone before.err worked.err err outcome told h.1 done.error_counts tells)) done.apart);
  read_fault = λ is. read-rose (counts before) (counts worked) told is (told-counted (counts before) (counts worked) outcome told tells.0 done.counted);
  write_fault = λ is. fault-rose (counts before) (counts (with_line err steady worked)) told is all;
  faults = all;
  steady = λ s. let h = done.steady s in (line-no-fault outcome told tells.0 h.1, steady-same (counts before) (counts worked) (counts (with_line err steady worked)) outcome done.counted h.1 refl refl refl (steadily h.0));
} where
  clash : request_of words ≡ None → ⊥
  clash none = cc

  all : Faults (counts before) (counts (with_line err steady worked)) told
  all = line-faults (counts before) (counts worked) _ worked.err err outcome told done.counted tells refl refl refl refl refl

usage-told : (told : Outcome) → IsTold out.Usage told → told ≡ out.Usage
usage-told told (inl same) = same
usage-told told (inr named) = absurd named.0

memory-told : (told : Outcome) → IsTold out.NoMemory told → told ≡ out.NoMemory
memory-told told (inl same) = same
memory-told told (inr named) = absurd named.0

-- the words are no request
pub serves-none : (words : List Text) (before : Outside) (err : SinkState) (steady : Steady) (told : Outcome) → request_of words ≡ None → Tells out.Usage told before.err err
    → (before.steady.err ≡ true → err.faults ≡ before.err.faults) → Serves words before (with_line err steady before) told
serves-none words before err steady told none tells steadily = record {
  usage = λ is. none;
  refused = λ n. inl is;
  untouched = λ n. (refl, refl, refl);
  unasked = λ n. line-alone before.err before.err err out.Usage told refl (refl, refl) tells;
  build = unasked words _ none;
  errors = unasked words _ none;
  queried = unasked words _ none;
  silent = unasked words _ none;
  looks = unasked words _ none;
  generated = unasked words _ none;
  apart = unasked words _ none;
  read_fault = λ r. cc (is, r);
  write_fault = λ w. cc (is, w);
  faults = line-faults (counts before) (counts before) _ before.err err out.Usage told refl tells refl refl refl refl refl;
  steady = λ s. (line-no-fault out.Usage told tells.0 tt, steady-same (counts before) (counts before) (counts (with_line err steady before)) out.Usage refl tt refl refl refl (steadily s.err));
} where
  is : told ≡ out.Usage
  is = usage-told told tells.0

-- there was no memory to read them
unread : (words : List Text) (before : Outside) (err : SinkState) (steady : Steady) → Tells out.NoMemory out.NoMemory before.err err
    → (before.steady.err ≡ true → err.faults ≡ before.err.faults) → Serves words before (with_line err steady before) out.NoMemory
unread words before err steady tells steadily = record {
  usage = λ is. cc;
  refused = λ none. inr refl;
  untouched = λ none. (refl, refl, refl);
  unasked = λ none. alone;
  build = builds-any words _ (λ request. record {
    folder = inl refl;
    status = tt;
    tally = tt;
    checked = tt;
    live = omega arith;
    calls = asks-none first_talk request before.reach before.held before.schedule;
    output = inl refl;
    special = tt;
    damaged = tt;
    forged = tt;
    spent = λ is. cc;
    complete = λ held is r w o x. tt;
  });
  errors = builds-any words _ (λ request. record { worked = before.err; order = inl refl; text = inl refl; counted = (refl, omega arith); line = tells.1 });
  queried = asks-any words _ (λ request. unread-queried first_talk request before.held before.out.so_far);
  silent = queries-any words _ (λ request. (refl, alone));
  looks = queries-any words _ (λ request. makes-none (query_calls request) before.schedule before.schedule refl);
  generated = gens-any words _ (λ seed. inl refl);
  apart = gens-any words _ (λ seed. (refl, alone));
  read_fault = λ is. cc;
  write_fault = λ is. cc;
  faults = line-faults (counts before) (counts before) _ before.err err out.NoMemory out.NoMemory refl tells refl refl refl refl refl;
  steady = λ s. (tt, steady-same (counts before) (counts before) (counts (with_line err steady before)) out.NoMemory refl tt refl refl refl (steadily s.err));
} where
  alone : GainsLineAlone before.err err out.NoMemory
  alone = line-alone before.err before.err err out.NoMemory out.NoMemory refl (refl, omega arith) tells

pub serves-unread : (words : List Text) (before : Outside) (err : SinkState) (steady : Steady) (told : Outcome) → Tells out.NoMemory told before.err err
    → (before.steady.err ≡ true → err.faults ≡ before.err.faults) → Serves words before (with_line err steady before) told
serves-unread words before err steady told tells steadily =
    let is : told ≡ out.NoMemory = memory-told told tells.0 in
    subst (λ (o : Outcome). Serves words before (with_line err steady before) o) (sym is) (unread words before err steady (subst (λ (o : Outcome). Tells out.NoMemory o before.err err) is tells) steadily)
