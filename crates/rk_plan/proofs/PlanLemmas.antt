-- The pieces of a run, event by event.
use Rattle.std.proofs.Common.{◌≡◌, ℕ, List, [], ◌∷◌, ◌++◌, Option, Some, None, Bool, map, Result, Ok, Err, refl, sym, ap, subst, ◌∙◌}
use Rattle.std.proofs.lemmas.List.Sums.{fold_push}
use Rattle.std.specs.Prelude.{IfSome, OnOk, slice_get}
use Rattle.rk_base.specs.declared.memory.NoMemory.{NoMemory}
use Rattle.rk_kernel.specs.Cell.{cell_Decides, gathers, same_cell}
use Rattle.rk_kernel.specs.declared.cell.Cell.{Cell}
use Rattle.rk_waves.specs.CellPieces.{AreBy, Pieced, RunPieces, closed, no_foot, touched}
use Rattle.rk_plan.specs.declared.event.Event.{Event}
use Rattle.rk_plan.specs.declared.event.Event.TheVariants.{Launches}
use Rattle.rk_kernel.specs.Full.{full_world}
use Rattle.rk_kernel.specs.World.{World}
use Rattle.rk_tree.specs.Full.{Told}
use Rattle.tr_record.specs.declared.records.Record.{Record}
use Rattle.rk_waves.specs.CellPieces.{IsTold, no_pieces, placed}
use Rattle.rk_waves.specs.Listed.{IsPlan, members}
use Rattle.rk_plan.specs.Going.{Going, Turns, in_full}
use Rattle.rk_plan.specs.Plans.{ArePiecesWhereTold, IsPlanWhereTold, IsWithEvent, pieces_of, with_event}
use Rattle.rk_plan.specs.Retracing.{Course, Leads, start, started, turn}

pub launches-so : (r : Result (Unit {0}) NoMemory) (old middle new : Pieced Cell) (owner : ℕ) (e : Event) → e ≡ Launches owner
    → ((p : RunPieces Cell) → AreBy same_cell p old → AreBy same_cell (touched p no_foot) middle)
    → ((p : RunPieces Cell) → AreBy same_cell p middle → OnOk r (AreBy same_cell (closed p owner) new)) → OnOk r (IsWithEvent old e new)
launches-so (Ok x) old middle new owner e is f g = λ p a. subst (λ e. AreBy same_cell (with_event p e) new) (sym is) (g (touched p no_foot) (f p a))
launches-so (Err x) old middle new owner e is f g = tt

-- how far the run has come, by events
pub record IsSoFar (told : Told) (world : World) (table : List Record) (course : Course) (pieces : Pieced Cell) : Type 0 where
  pub events : List Event
  pub leads : Leads table (start (full_world told world) table) events (in_full told course)
  pub are : AreBy same_cell (pieces_of events) pieces

abbrev pub IsSoFarWhereTold : Option Told → World → List Record → Course → Pieced Cell → Type 0
IsSoFarWhereTold o world table course pieces = IfSome o (λ told. IsSoFar told world table course pieces)

started-full : (told : Told) (world : World) (o : Option Record) → in_full told (started world o) ≡ started (full_world told world) o
started-full told world None = refl
started-full told world (Some rec) = refl

pub so-far-start : (o : Option Told) (world : World) (table : List Record) (pieces : Pieced Cell) → AreBy same_cell no_pieces pieces
    → IsSoFarWhereTold o world table (start world table) pieces
so-far-start None world table pieces are = tt
so-far-start (Some told) world table pieces are = record { events = []; leads = sym (started-full told world (slice_get table 0)); are = are }

leads-more : (table : List Record) (c middle end : Course) (es : List Event) (e : Event) → Leads table c es middle → turn table middle ≡ Some (e, end)
    → Leads table c (es ++ e ∷ []) end
leads-more table c middle end [] e l t = (end, ap (turn table) l ∙ t, refl)
leads-more table c middle end (x ∷ xs) e l t = (l.0, l.1, leads-more table l.0 middle end xs e l.2 t)

pub so-far-next : (o now : Option Told) (world : World) (table : List Record) (old new : Going) (before after : Pieced Cell) (e : Event) → now ≡ o
    → old.table ≡ table → IsSoFarWhereTold o world table old.course before → Turns now old e new → IsWithEvent before e after
    → IsSoFarWhereTold o world table new.course after
so-far-next None now world table old new before after e en et so turns adds = tt
so-far-next (Some told) now world table old new before after e en et so turns adds =
    let t : turn old.table (in_full told old.course) ≡ Some (e, in_full told new.course) = subst (λ o. Turns o old e new) en turns in
    record {
      events = so.events ++ e ∷ [];
      leads =
          leads-more table (start (full_world told world) table) (in_full told old.course) (in_full told new.course) so.events e so.leads
          (subst (λ rows. turn rows (in_full told old.course) ≡ Some (e, in_full told new.course)) et t);
      are = subst (λ p. AreBy same_cell p after) (sym (fold_push with_event no_pieces so.events e)) (adds (pieces_of so.events) so.are);
    }

pub so-far-end : (o : Option Told) (world : World) (table : List Record) (course : Course) (pieces : Pieced Cell) → course.under_way ≡ []
    → IsSoFarWhereTold o world table course pieces → ArePiecesWhereTold o world table pieces
so-far-end None world table course pieces ends so = tt
so-far-end (Some told) world table course pieces ends so = record {
  events = so.events;
  end = in_full told course;
  are = record { leads = so.leads; done = ends };
  pieces_are = so.are;
}

-- the waves of the pieces are those of the run
pub waves-so : (o : Option Told) (world : World) (table : List Record) (pieces : Pieced Cell) (told : List Bool) (lists : List (List ℕ))
    → ArePiecesWhereTold o world table pieces → told ≡ map gathers pieces.cells
    → ((p : RunPieces Cell) (g : Cell → Bool) → IsTold same_cell g → AreBy same_cell p pieces → told ≡ map g pieces.cells → IsPlan (members
    (placed same_cell g p.ended)) lists)
    → IsPlanWhereTold o world table lists
waves-so None world table pieces told lists are e plan = tt
waves-so (Some bytes) world table pieces told lists are e plan = record {
  events = are.events;
  end = are.end;
  are = are.are;
  plan = plan (pieces_of are.events) gathers (λ c d s. ap gathers ((cell_Decides c d).0 s)) are.pieces_are e;
}
