-- What is asked of the database alone, and what is told of it.
use Rattle.std.proofs.Common.{◌≡◌, Option, Result, Ok, Err, refl, subst, inl, inr}
use Rattle.rk_base.specs.Text.{Text}
use Rattle.rk_calls.specs.Keys.{KeyValue}
use Rattle.rk_calls.specs.Talk.{Says}
use Rattle.rk_database.specs.Answers.{EitherCounted, Forgets, IsNoFault as IsNoStop, ReadsCounted, SaysNone, Shows, WritesCounted}
use Rattle.rk_database.specs.Texts.{IsChecked, IsTrace, NoCheck, NoTrace, TextOf}
use Rattle.rk_database.specs.declared.stop.Said.{Said}
use Rattle.rk_database.specs.declared.stop.Said.TheVariants as said
use Rattle.rk_database.specs.declared.stop.QueryErr.{QueryErr}
use Rattle.rk_database.specs.declared.stop.QueryErr.TheVariants as stop
use Rattle.rk_folder.specs.Told.{Held}
use Rattle.rk_request.specs.declared.requests.Request.{Request}
use Rattle.rk_request.specs.declared.requests.Request.TheVariants as request
use Rattle.rk_build.specs.Outcomes.{Counted, Counts, IsNoFault}
use Rattle.rk_top.specs.Queries.{IsAnswer, Queried, outcome_of_answer}
use Rattle.rk_build.specs.Telling.{IsNamed, IsTold}
use Rattle.rk_build.specs.declared.outcome.Outcome.{Outcome}
use Rattle.rk_build.specs.declared.outcome.Outcome.TheVariants as out
use Rattle.rk_build.proofs.BuildLemmas.{counts-same}
use Rattle.rk_build.proofs.TellLemmas.{as_told}

pub query-no-fault : (answer : Result Said QueryErr) → IsNoStop answer → IsNoFault (outcome_of_answer answer)
query-no-fault (Ok said.Done) h = tt
query-no-fault (Ok said.NoTrace) h = tt
query-no-fault (Err (stop.Special path)) h = tt
query-no-fault (Err (stop.Damaged damage)) h = tt
query-no-fault (Err (stop.Forged rec step)) h = tt
query-no-fault (Err stop.ReadFault) h = absurd h
query-no-fault (Err stop.WriteFault) h = absurd h
query-no-fault (Err stop.NoMemory) h = tt

-- the counts of faults of a check or a trace
pub shown-counted : (b n : Counts) (answer : Result Said QueryErr) → ReadsCounted b.reads n.reads answer → n.writes ≡ b.writes → WritesCounted b.puts n.puts answer → n.error_puts ≡ b.error_puts → Counted b n (outcome_of_answer answer)
shown-counted b n (Ok said.Done) r w p x = counts-same b n r w p x
shown-counted b n (Ok said.NoTrace) r w p x = counts-same b n r w p x
shown-counted b n (Err (stop.Special path)) r w p x = counts-same b n r w p x
shown-counted b n (Err (stop.Damaged damage)) r w p x = counts-same b n r w p x
shown-counted b n (Err (stop.Forged rec step)) r w p x = counts-same b n r w p x
shown-counted b n (Err stop.ReadFault) r w p x = (r, w, p, x)
shown-counted b n (Err stop.WriteFault) r w p x = (r, inr (inl p.1))
shown-counted b n (Err stop.NoMemory) r w p x = counts-same b n r w p x

-- and of a removal
pub forgotten-counted : (b n : Counts) (answer : Result Said QueryErr) → ReadsCounted b.reads n.reads answer → EitherCounted b.writes n.writes b.puts n.puts answer → n.error_puts ≡ b.error_puts → Counted b n (outcome_of_answer answer)
forgotten-counted b n (Ok said.Done) r w x = counts-same b n r w.0 w.1 x
forgotten-counted b n (Ok said.NoTrace) r w x = counts-same b n r w.0 w.1 x
forgotten-counted b n (Err (stop.Special path)) r w x = counts-same b n r w.0 w.1 x
forgotten-counted b n (Err (stop.Damaged damage)) r w x = counts-same b n r w.0 w.1 x
forgotten-counted b n (Err (stop.Forged rec step)) r w x = counts-same b n r w.0 w.1 x
forgotten-counted b n (Err stop.ReadFault) r w x = (r, w.0, w.1, x)
forgotten-counted b n (Err stop.WriteFault) r w x = (r, elim w.2 [ inl writes ↦ inl writes | inr puts ↦ inr (inl puts) ])
forgotten-counted b n (Err stop.NoMemory) r w x = counts-same b n r w.0 w.1 x

pub asked-not-usage : (answer : Result Said QueryErr) → outcome_of_answer answer ≡ out.Usage → ⊥
asked-not-usage (Ok said.Done) same = cc
asked-not-usage (Ok said.NoTrace) same = cc
asked-not-usage (Err (stop.Special path)) same = cc
asked-not-usage (Err (stop.Damaged damage)) same = cc
asked-not-usage (Err (stop.Forged rec step)) same = cc
asked-not-usage (Err stop.ReadFault) same = cc
asked-not-usage (Err stop.WriteFault) same = cc
asked-not-usage (Err stop.NoMemory) same = cc

-- There was no memory for the line that names something.

-- what named something leaves the output as it was
shown-named : (Of : TextOf) (R : Text → QueryErr → Type 0) (told : Option Held) (old new : Option Text) (answer : Result Said QueryErr) → IsNamed (outcome_of_answer answer) → Shows Of R told old new answer → Shows Of R told old new (Err stop.NoMemory)
shown-named Of R told old new (Ok said.Done) named h = absurd named
shown-named Of R told old new (Ok said.NoTrace) named h = absurd named
shown-named Of R told old new (Err (stop.Special path)) named h = inl h.1
shown-named Of R told old new (Err (stop.Damaged damage)) named h = inl h.1
shown-named Of R told old new (Err (stop.Forged rec step)) named h = inl h.1
shown-named Of R told old new (Err stop.ReadFault) named h = absurd named
shown-named Of R told old new (Err stop.WriteFault) named h = absurd named
shown-named Of R told old new (Err stop.NoMemory) named h = h

forgotten-named : (told now : Option Held) (old new : Option Text) (answer : Result Said QueryErr) → IsNamed (outcome_of_answer answer) → Forgets told now answer × SaysNone told old new answer → Forgets told now (Err stop.NoMemory) × SaysNone told old new (Err stop.NoMemory)
forgotten-named told now old new (Ok said.Done) named h = absurd named
forgotten-named told now old new (Ok said.NoTrace) named h = absurd named
forgotten-named told now old new (Err (stop.Special path)) named h = (h.0.1, inl h.1)
forgotten-named told now old new (Err (stop.Damaged damage)) named h = absurd h.0
forgotten-named told now old new (Err (stop.Forged rec step)) named h = absurd h.0
forgotten-named told now old new (Err stop.ReadFault) named h = absurd named
forgotten-named told now old new (Err stop.WriteFault) named h = absurd named
forgotten-named told now old new (Err stop.NoMemory) named h = h

named-answer : (P : Result Said QueryErr → Type 0) (outcome : Outcome) → ((answer : Result Said QueryErr) → IsNamed (outcome_of_answer answer) → P answer → P (Err stop.NoMemory)) → IsNamed outcome → IsAnswer outcome P → IsAnswer out.NoMemory P
named-answer P outcome f named a = (Err stop.NoMemory, (refl, f a.0 (subst IsNamed a.1.0 named) a.1.1))

unnamed-queried : (first : KeyValue → Says) (it : Request) (told now : Option Held) (old new : Option Text) (outcome : Outcome) → IsNamed outcome → Queried first it told now old new outcome → Queried first it told now old new out.NoMemory
unnamed-queried first (request.Build steps explain fresh check) told now old new outcome named q = tt
unnamed-queried first request.Check told now old new outcome named q = (q.0, named-answer _ outcome (shown-named (IsChecked first) (NoCheck first) told old new) named q.1)
unnamed-queried first (request.Trace json) told now old new outcome named q = (q.0, named-answer _ outcome (shown-named (IsTrace json) NoTrace told old new) named q.1)
unnamed-queried first (request.Gen seed) told now old new outcome named q = tt
unnamed-queried first request.Forget told now old new outcome named q = named-answer _ outcome (forgotten-named told now old new) named q

pub line-queried : (first : KeyValue → Says) (it : Request) (told now : Option Held) (old new : Option Text) (outcome said : Outcome) → IsTold outcome said → Queried first it told now old new outcome → Queried first it told now old new said
line-queried first it told now old new outcome said t q = as_told (Queried first it told now old new) outcome said t q (unnamed-queried first it told now old new outcome)

-- the request was none, or there was no memory to read it
pub unread-queried : (first : KeyValue → Says) (it : Request) (told : Option Held) (old : Option Text) → Queried first it told told old old out.NoMemory
unread-queried first (request.Build steps explain fresh check) told old = tt
unread-queried first request.Check told old = (refl, (Err stop.NoMemory, (refl, inl refl)))
unread-queried first (request.Trace json) told old = (refl, (Err stop.NoMemory, (refl, inl refl)))
unread-queried first (request.Gen seed) told old = tt
unread-queried first request.Forget told old = (Err stop.NoMemory, (refl, (refl, inl refl)))
