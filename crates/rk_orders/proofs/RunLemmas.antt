-- A recorded run, gone through by names.
use Rattle.std.proofs.Common.{◌≡◌, ℕ, suc, ◌≤◌, ◌<◌, List, [], ◌∷◌, map, true, false, Option, Some, None, refl, sym, ◌∙◌, ap, subst, arith, length}
use Rattle.std.specs.Prelude.{slice_get}
use Rattle.rk_calls.specs.Fits.{is_launch}
use Rattle.rk_calls.specs.Given.{Given}
use Rattle.rk_calls.specs.Keys.{KeyValue}
use Rattle.rk_calls.specs.Refs.{RefsHeld, passed_refs}
use Rattle.rk_calls.specs.declared.answer.Answer.{Answer}
use Rattle.rk_calls.specs.declared.call.Call.{Call}
use Rattle.rk_calls.specs.declared.call.Call.TheVariants as call
use Rattle.rk_kernel.specs.Do.{answered}
use Rattle.rk_kernel.specs.Feet.{foot_by}
use Rattle.rk_kernel.specs.World as kernel
use Rattle.rk_waves.specs.CellPieces.{no_foot}
use Rattle.rk_waves.specs.Goes.{Goes}
use Rattle.rk_waves.specs.Programs.{by_cells}
use Rattle.rk_feet.specs.Named.{Used, Flag}
use Rattle.rk_feet.specs.Played.{PlaysKernel, after_step, given_to}
use Rattle.rk_feet.specs.Simulates.{Lasts}
use Rattle.rk_feet.specs.Steps.{Step}
use Rattle.rk_feet.specs.Told.{GetsNumbers}
use Rattle.rk_feet.specs.World.{World}
use Rattle.rk_plan.specs.declared.event.Event.{Event}
use Rattle.rk_plan.specs.declared.event.Event.TheVariants.{Touches, Launches, Ends}
use Rattle.rk_plan.specs.Plans.{foot_of}
use Rattle.rk_plan.specs.Retracing as numbers
use Rattle.rk_plan.specs.Retracing.{Retraces, answered_so, called, launched}
use Rattle.tr_record.specs.declared.records.Record.{Record}
use Rattle.tr_record.specs.declared.steps.Step.{Step as Recorded}
use Rattle.rk_orders.specs.Held.{passed_held}
use Rattle.rk_orders.specs.Named.{Answered, AreTurns, Command, Course, begins, goes_on, gone_on, next_step, steps_in, taken, turn}
use Rattle.rk_orders.specs.Orders.{Taken, as_answered}
use Rattle.rk_orders.proofs.AnsweredLemmas.{IsLike}
use Rattle.rk_orders.proofs.AskLemmas.{given-so, held-then, is-call, refs_after}
use Rattle.rk_orders.proofs.HeldLemmas.{IsHeld, held-after, none-more, passed-on}
use Rattle.rk_orders.proofs.StepLemmas.{IsToldBy, foot-is, holds, lasts-itself, lasts-on, named_foot, told-by, used-by}

-- Steps and events, one beside the other.

-- a piece that is under way is of this command
abbrev pub Fits : Option ℕ → ℕ → Type 0
Fits None owner = Unit {0}
Fits (Some a) owner = a ≡ owner

-- each event with the step that it tells, in the numbers of a later world; and the piece that is under way, if there is one, is of this command
abbrev pub AreBeside : World → Option ℕ → List (Option Taken) → List Event → Type 0
AreBeside z o [] [] = o ≡ None
AreBeside z o [] (e ∷ es) = ⊥
AreBeside z o (t ∷ ts) [] = ⊥
AreBeside z o (Some t ∷ ts) (Touches a foot ∷ es) = Fits o a × (t.step.command ≡ a) × IsToldBy z t (foot_of foot) × AreBeside z (Some a) ts es
AreBeside z o (Some t ∷ ts) (Launches a ∷ es) = Fits o a × (t.step.command ≡ a) × IsToldBy z t no_foot × AreBeside z None ts es
AreBeside z o (Some t ∷ ts) (Ends a ∷ es) = ⊥
AreBeside z o (None ∷ ts) (Touches a foot ∷ es) = ⊥
AreBeside z o (None ∷ ts) (Launches a ∷ es) = ⊥
AreBeside z o (None ∷ ts) (Ends a ∷ es) = Fits o a × AreBeside z None ts es

-- The commands under way, by names and by numbers.

abbrev pub commands_by : List Command → List RefsHeld → List numbers.Command
commands_by [] rs = []
commands_by (n ∷ ns) [] = []
commands_by (n ∷ ns) (r ∷ rs) = record { owner = n.owner; refs = r; left = n.left } ∷ commands_by ns rs

abbrev pub course_by : kernel.World → List Command → ℕ → List RefsHeld → numbers.Course
course_by world ns begun rs = record { under_way = commands_by ns rs; begun = begun; world = world }

abbrev pub course_named : List Command → ℕ → Course
course_named ns begun = record { under_way = ns; begun = begun }

-- from a step on none has made anything
abbrev pub IsUnused : World → ℕ → ℕ → Type 0
IsUnused w owner from = (s : ℕ) → from ≤ s → w.used owner s ≡ false

pub record IsCommand (w : World) (bound : ℕ) (n : Command) (refs : RefsHeld) : Type 0 where
  pub below : n.owner < bound
  pub held : IsHeld w n.held refs
  pub unused : IsUnused w n.owner n.number

-- those that were launched later have greater numbers
abbrev pub AreCommands : World → ℕ → List Command → List RefsHeld → Type 0
AreCommands w bound [] [] = Unit {0}
AreCommands w bound [] (r ∷ rs) = ⊥
AreCommands w bound (n ∷ ns) [] = ⊥
AreCommands w bound (n ∷ ns) (r ∷ rs) = IsCommand w bound n r × AreCommands w n.owner ns rs

abbrev pub IsFresh : World → ℕ → Type 0
IsFresh w begun = (r s : ℕ) → begun ≤ r → w.used r s ≡ false

-- the piece under way is of the command that goes on next
abbrev pub IsNext : Option ℕ → List Command → Type 0
IsNext None ns = Unit {0}
IsNext (Some a) [] = ⊥
IsNext (Some a) (n ∷ ns) = a ≡ n.owner

fits-next : (o : Option ℕ) (n : Command) (ns : List Command) → IsNext o (n ∷ ns) → Fits o n.owner
fits-next None n ns h = tt
fits-next (Some a) n ns h = h

less-on : (a b c : ℕ) → a < b → b < c → a < c
less-on a b c h k = omega arith

wider : (w : World) (low high : ℕ) → low < high → (ns : List Command) (rs : List RefsHeld) → AreCommands w low ns rs → AreCommands w high ns rs
wider w low high less [] [] h = tt
wider w low high less [] (r ∷ rs) h = absurd h
wider w low high less (n ∷ ns) [] h = absurd h
wider w low high less (n ∷ ns) (r ∷ rs) h =
    (record { below = less-on n.owner low high h.0.below less; held = h.0.held; unused = h.0.unused }, h.1)

-- after a step of another command
still : (w v : World) → Lasts w v → (bound : ℕ) → ((r s : ℕ) → r < bound → v.used r s ≡ w.used r s) → (ns : List Command) (rs : List RefsHeld)
    → AreCommands w bound ns rs → AreCommands v bound ns rs
still w v lasts bound kept [] [] h = tt
still w v lasts bound kept [] (r ∷ rs) h = absurd h
still w v lasts bound kept (n ∷ ns) [] h = absurd h
still w v lasts bound kept (n ∷ ns) (r ∷ rs) h = (
  record {
    below = h.0.below;
    held = held-after w v lasts n.held r h.0.held;
    unused = λ s from. kept n.owner s h.0.below ∙ h.0.unused s from;
  },
  still w v lasts n.owner (λ r s less. kept r s (less-on r n.owner bound less h.0.below)) ns rs h.1,
)

abbrev pub as_turn : Option Taken → Option Answered
as_turn None = None
as_turn (Some t) = Some (as_answered t)

module _ (k : PlaysKernel) (table : List Record) (end : numbers.Course) (done : end.under_way ≡ []) (all_begun : end.begun ≡ length table) where
  pub record IsGone (w : World) (ns : List Command) (begun : ℕ) (o : Option ℕ) (es : List Event) : Type 0 where
    pub turns : List (Option Taken)
    pub are : AreTurns table (course_named ns begun) (map as_turn turns)
    pub last : World
    pub held : last.held ≡ end.world
    pub goes : Goes (by_cells k.it) w (steps_in turns) last
    pub lasts : Lasts w last
    pub beside : (z : World) → Lasts last z → AreBeside z o turns es

  abbrev pub AllGo : List Event → Type 0
  AllGo es = (w : World) (ns : List Command) (begun : ℕ) (rs : List RefsHeld) (o : Option ℕ) → IsFresh w begun → AreCommands w begun ns rs → IsNext o ns
      → Retraces table (course_by w.held ns begun rs) es end → IsGone w ns begun o es

  -- none is under way
  finished : AllGo []
  finished w [] begun [] o fresh are next same = record {
    turns = [];
    are = (refl, ap (λ (c : numbers.Course). c.begun) same ∙ all_begun);
    last = w;
    held = ap (λ (c : numbers.Course). c.world) same;
    goes = λ c. refl;
    lasts = lasts-itself w;
    beside = λ z l. none o next;
  } where
    none : (o : Option ℕ) → IsNext o [] → o ≡ None
    none None h = refl
    none (Some a) h = absurd h
  finished w [] begun (r ∷ rs) o fresh are next same = absurd are
  finished w (n ∷ ns) begun [] o fresh are next same = absurd are
  finished w (n ∷ ns) begun (r ∷ rs) o fresh are next same =
      absurd (let e : record { owner = n.owner; refs = r; left = n.left } ∷ commands_by ns rs ≡ [] = ap (λ (c : numbers.Course). c.under_way) same ∙ done in cc)

  module _ (es : List Event) (again : AllGo es) (w : World) (begun : ℕ) (o : Option ℕ) (fresh : IsFresh w begun) where
    module _ (n : Command) (ns : List Command) (r : RefsHeld) (rs : List RefsHeld) (is : IsCommand w begun n r) (are : AreCommands w n.owner ns rs)
        (next : IsNext o (n ∷ ns)) where
      -- a command ends
      ended : (e : Event) (after : numbers.Course) → n.left ≡ [] → e ≡ Ends n.owner → after ≡ course_by w.held ns begun rs → Retraces table after es end
          → IsGone w (n ∷ ns) begun o (e ∷ es)
      ended e after none is_e is_after rest =
          let it = again w ns begun rs None fresh (wider w n.owner begun is.below ns rs are) tt (subst (λ c. Retraces table c es end) is_after rest) in
          record {
            turns = None ∷ it.turns;
            are = (course_named ns begun, ap (λ sts. Some (taken table (course_named (n ∷ ns) begun) n ns sts)) none, it.are);
            last = it.last;
            held = it.held;
            goes = it.goes;
            lasts = it.lasts;
            beside = λ z l. subst (λ e. AreBeside z o (None ∷ it.turns) (e ∷ es)) (sym is_e) (fits-next o n ns next, it.beside z l);
          }

      -- a command asks the world

      module _ (st : Recorded) (sts : List Recorded) (plain : is_launch st.call ≡ false) (so : (answered w.held r st.call).answer ≡ st.answer) where
        abbrev its : Given kernel.World
        its = answered w.held r st.call

        abbrev step : Step
        step = (next_step n st).step

        abbrev then_world : World
        then_world = k.it.after step w

        like : IsLike (refs_after w.held r st.call) its (given_to w n.owner n.number step.ask)
        like = given-so w n.held r is.held n.owner n.number (is.unused n.number (omega arith)) st.call st.answer plain

        world-is : then_world.held ≡ its.world
        world-is = k.becomes step w ∙ sym like.world

        gives : k.it.answer step w ≡ st.answer
        gives = k.answers step w ∙ sym like.answer ∙ so

        kept : (a b : ℕ) → (a ≡ n.owner → b ≡ n.number → ⊥) → then_world.used a b ≡ w.used a b
        kept = used-by k step w r st.call (is-call w n.held r is.held st.call st.answer) then_world (lasts-itself then_world)

        less-not : (a b : ℕ) → a < b → a ≡ b → ⊥
        less-not a b h e = omega arith

        more-not : (a b : ℕ) → b ≤ a → a < b → ⊥
        more-not a b h g = omega arith

        past : (a b : ℕ) → suc a ≤ b → b ≡ a → ⊥
        past a b h e = omega arith

        earlier : (a b : ℕ) → suc a ≤ b → a ≤ b
        earlier a b h = omega arith

        fresh-then : IsFresh then_world begun
        fresh-then a b from = kept a b (λ e _. more-not a begun from (subst (λ x. x < begun) (sym e) is.below)) ∙ fresh a b from

        are-then : AreCommands then_world begun (gone_on n st sts ∷ ns) (its.refs ∷ rs)
        are-then = (
          record {
            below = is.below;
            held = held-then w (after_step step w then_world (k.lasts step w)) n.held r (held-after w then_world (k.lasts step w) n.held r is.held)
                st.call st.answer its.refs
                (subst (GetsNumbers w (after_step step w then_world (k.lasts step w)) step.ask) gives (k.gets step w))
                (subst (λ it. refs_after w.held r st.call it its.refs) so like.refs)
                (λ e. sym so ∙ ap (λ c. (answered w.held r c).answer) e);
            unused = λ b from. kept n.owner b (λ _ e. past n.number b from e) ∙ is.unused b (earlier n.number b from);
          },
          still w then_world (k.lasts step w) n.owner (λ a b less. kept a b (λ e _. less-not a n.owner less e)) ns rs are,
        )

        others-go : (c : Call) → is_launch c ≡ false → goes_on table (course_named (n ∷ ns) begun) (gone_on n st sts ∷ ns) n.held c
            ≡ course_named (gone_on n st sts ∷ ns) begun
        others-go (call.Launch key map) e = absurd (let no : true ≡ false = e in cc)
        others-go _ e = refl

        asked : (e : Event) (after : numbers.Course) → n.left ≡ st ∷ sts → e ≡ Touches n.owner (foot_by w.held r st.call)
            → after ≡ answered_so (record { owner = n.owner; refs = r; left = sts }) (commands_by ns rs) begun its
            → Retraces table after es end → IsGone w (n ∷ ns) begun o (e ∷ es)
        asked e after left is_e is_after rest =
            let it = again then_world (gone_on n st sts ∷ ns) begun (its.refs ∷ rs) (Some n.owner) fresh-then are-then refl
            (subst (λ c. Retraces table c es end)
            (is_after ∙ ap (λ h. course_by h (gone_on n st sts ∷ ns) begun (its.refs ∷ rs)) (sym world-is)) rest) in
            let t : Taken = record { step = step; foot = named_foot w step; answer = st.answer } in
            record {
              turns = Some t ∷ it.turns;
              are = (
                course_named (gone_on n st sts ∷ ns) begun,
                ap (λ l. Some (taken table (course_named (n ∷ ns) begun) n ns l)) left
                    ∙ ap (λ c. let o : Option Answered × Course = (Some (next_step n st), c) in Some o) (others-go st.call plain),
                it.are,
              );
              last = it.last;
              held = it.held;
              goes = (foot-is k step w, gives, it.goes);
              lasts = lasts-on w then_world it.last (k.lasts step w) it.lasts;
              beside = λ z l. subst (λ e. AreBeside z o (Some t ∷ it.turns) (e ∷ es)) (sym is_e) (
                fits-next o n ns next,
                refl,
                told-by k step w r st.call (is-call w n.held r is.held st.call st.answer) z (lasts-on then_world it.last z it.lasts l) st.answer,
                it.beside z l,
              );
            }

      -- a command launches another one

      module _ (cost : ℕ) (key : KeyValue) (pairs : List (ℕ × ℕ)) (told : Answer) (sts : List Recorded) where
        abbrev launch : Recorded
        launch = record { cost = cost; call = call.Launch key pairs; answer = told }

        abbrev launching : Step
        launching = (next_step n launch).step

        abbrev launched_world : World
        launched_world = k.it.after launching w

        same-used : (a b : ℕ) → launched_world.used a b ≡ w.used a b
        same-used a b = let e : Flag (launched_world.used a b) ≡ Flag (w.used a b) = holds k launching w (Used a b) in cc

        fresh-launched : IsFresh launched_world begun
        fresh-launched a b from = same-used a b ∙ fresh a b from

        sooner : (a b : ℕ) → suc a ≤ b → a ≤ b
        sooner a b h = omega arith

        waits : AreCommands launched_world begun (gone_on n launch sts ∷ ns) (r ∷ rs)
        waits = (
          record {
            below = is.below;
            held = none-more launched_world n.held r (held-after w launched_world (k.lasts launching w) n.held r is.held);
            unused = λ b from. same-used n.owner b ∙ is.unused b (sooner n.number b from);
          },
          still w launched_world (k.lasts launching w) n.owner (λ a b less. same-used a b) ns rs are,
        )

        abbrev child : Record → Command
        child rec = record { owner = begun; held = passed_held n.held pairs; number = 0; left = rec.steps }

        begins-so : (rec : Record) → AreCommands launched_world (suc begun) (child rec ∷ gone_on n launch sts ∷ ns) (passed_refs r pairs ∷ r ∷ rs)
        begins-so rec = (
          record {
            below = last begun;
            held = passed-on launched_world n.held r pairs (held-after w launched_world (k.lasts launching w) n.held r is.held);
            unused = λ b from. fresh-launched begun b (self begun);
          },
          waits,
        )
          where
            last : (m : ℕ) → m < suc m
            last m = omega arith

            self : (m : ℕ) → m ≤ m
            self m = omega arith

        abbrev taking : Taken
        taking = record { step = launching; foot = named_foot w launching; answer = told }

        -- with what comes after it
        with-launch :
            (e : Event) → e ≡ Launches n.owner → (ms : List Command) (begun_then : ℕ)
            → turn table (course_named (n ∷ ns) begun) ≡ Some (as_turn (Some taking), course_named ms begun_then)
            → IsGone launched_world ms begun_then None es → IsGone w (n ∷ ns) begun o (e ∷ es)
        with-launch e is_e ms begun_then turns it = record {
          turns = Some taking ∷ it.turns;
          are = (course_named ms begun_then, turns, it.are);
          last = it.last;
          held = it.held;
          goes = (foot-is k launching w, k.answers launching w, it.goes);
          lasts = lasts-on w launched_world it.last (k.lasts launching w) it.lasts;
          beside = λ z l. subst (λ e. AreBeside z o (Some taking ∷ it.turns) (e ∷ es)) (sym is_e)
              (fits-next o n ns next, refl, record { reads = tt; writes = tt }, it.beside z l);
        }

        named-turn : n.left ≡ launch ∷ sts → (rec : Option Record) → slice_get table begun ≡ rec
            → turn table (course_named (n ∷ ns) begun)
            ≡ Some (as_turn (Some taking), begins (course_named (n ∷ ns) begun) (gone_on n launch sts ∷ ns) (passed_held n.held pairs) rec)
        named-turn left rec is_rec =
            ap (λ l. Some (taken table (course_named (n ∷ ns) begun) n ns l)) left
            ∙ ap (λ rec. let t : Option Answered × Course = (
              as_turn (Some taking),
              begins (course_named (n ∷ ns) begun) (gone_on n launch sts ∷ ns) (passed_held n.held pairs) rec,
            ) in Some t) is_rec

        launches : (e : Event) (after : numbers.Course) → n.left ≡ launch ∷ sts → e ≡ Launches n.owner → (rec : Option Record) → slice_get table begun ≡ rec
            → after ≡ launched (course_by w.held (n ∷ ns) begun (r ∷ rs)) (record { owner = n.owner; refs = r; left = sts } ∷ commands_by ns rs)
            (passed_refs r pairs) rec
            → Retraces table after es end → IsGone w (n ∷ ns) begun o (e ∷ es)
        launches e after left is_e None is_rec is_after rest =
            with-launch e is_e (gone_on n launch sts ∷ ns) begun (named-turn left None is_rec)
            (again launched_world (gone_on n launch sts ∷ ns) begun (r ∷ rs) None fresh-launched waits tt
            (subst (λ c. Retraces table c es end)
            (is_after ∙ ap (λ h. course_by h (gone_on n launch sts ∷ ns) begun (r ∷ rs)) (sym (k.becomes launching w))) rest))
        launches e after left is_e (Some rec) is_rec is_after rest =
            with-launch e is_e (child rec ∷ gone_on n launch sts ∷ ns) (suc begun) (named-turn left (Some rec) is_rec)
            (again launched_world (child rec ∷ gone_on n launch sts ∷ ns) (suc begun) (passed_refs r pairs ∷ r ∷ rs) None
            (λ a b from. fresh-launched a b (sooner begun a from)) (begins-so rec) tt
            (subst (λ c. Retraces table c es end)
            (is_after ∙ ap (λ h. course_by h (child rec ∷ gone_on n launch sts ∷ ns) (suc begun) (passed_refs r pairs ∷ r ∷ rs))
            (sym (k.becomes launching w))) rest))

      -- whatever it does next

      pair-is : (a b : Event × numbers.Course) → Some a ≡ Some b → (b.0 ≡ a.0) × (b.1 ≡ a.1)
      pair-is a b e = let same : a ≡ b = cc in (ap (λ (p : Event × numbers.Course). p.0) (sym same), ap (λ (p : Event × numbers.Course). p.1) (sym same))

      called-by : (cost : ℕ) (c : Call) (told : Answer) (sts : List Recorded) → n.left ≡ record { cost = cost; call = c; answer = told } ∷ sts
          → (e : Event) (after : numbers.Course)
          → Some (called table (course_by w.held (n ∷ ns) begun (r ∷ rs)) (record { owner = n.owner; refs = r; left = sts }) (commands_by ns rs) c)
          ≡ Some (e, after)
          → (is_launch c ≡ false → (answered w.held r c).answer ≡ told) → Retraces table after es end → IsGone w (n ∷ ns) begun o (e ∷ es)
      called-by cost (call.Launch key pairs) told sts left e after turned so rest =
          let it = pair-is _ (e, after) turned in
          launches cost key pairs told sts e after left it.0 (slice_get table begun) refl it.1 rest
      called-by cost c told sts left e after turned so rest =
          let it = pair-is _ (e, after) turned in
          asked (record { cost = cost; call = c; answer = told }) sts refl (so refl) e after left it.0 it.1 rest

      goes-next : (sts : List Recorded) → n.left ≡ sts → (e : Event) (after : numbers.Course)
          → Some (numbers.taken table (course_by w.held (n ∷ ns) begun (r ∷ rs)) (record { owner = n.owner; refs = r; left = n.left }) (commands_by ns rs) sts)
          ≡ Some (e, after)
          → numbers.IsAnsweredAt table (course_by w.held (n ∷ ns) begun (r ∷ rs)) (record { owner = n.owner; refs = r; left = n.left }) sts
          → Retraces table after es end → IsGone w (n ∷ ns) begun o (e ∷ es)
      goes-next [] left e after turned so rest = let it = pair-is _ (e, after) turned in ended e after left it.0 it.1 rest
      goes-next (st ∷ sts) left e after turned so rest = called-by st.cost st.call st.answer sts left e after turned so rest

  goes-event : (es : List Event) → AllGo es → (e : Event) → AllGo (e ∷ es)
  goes-event es again e w [] begun [] o fresh are next it = absurd (let no : None ≡ Some (e, it.0) = it.1 in cc)
  goes-event es again e w [] begun (r ∷ rs) o fresh are next it = absurd are
  goes-event es again e w (n ∷ ns) begun [] o fresh are next it = absurd are
  goes-event es again e w (n ∷ ns) begun (r ∷ rs) o fresh are next it =
      goes-next es again w begun o fresh n ns r rs are.0 are.1 next n.left refl e it.0 it.1 it.2 it.3

  pub gone : (es : List Event) → AllGo es
  gone [] = finished
  gone (e ∷ es) = goes-event es (gone es) e
