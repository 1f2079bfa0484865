-- What a build leaves where its install stopped is finished to what it was to leave.
use Rattle.std.proofs.Common.{◌≡◌, ◌⊎◌, inl, inr, List, Bool, true, Option, Some, None, IfSome, refl, sym, ap, subst, ◌∙◌}
use Rattle.rk_folder.specs.Told.{Held}
use Rattle.rk_folder.specs.Whole.{IsWhole}
use Rattle.rk_seal.specs.Ops.{are_calls}
use Rattle.rk_seal.specs.declared.ops.Op.{Op}
use Rattle.rk_install.specs.Install.{AllowsCalls, StopsCalls, carried_out, sealed}
use Rattle.rk_install.specs.Recovery.{IsSealed}
use Rattle.rk_install.proofs.InstallLemmas.{leads-same, stops-sealed}
use Rattle.rk_install.proofs.RecoveryLemmas.{never-damaged, recovers-all, stays-sealed}
use Rattle.rk_changes.specs.Holdings.{HasPlaces, IsAfter, IsBuilt, MayBecome}
use Rattle.rk_changes.specs.Imported.{holding_of}
use Rattle.rk_changes.specs.Planned.{planned}
use Rattle.rk_changes.specs.declared.holding.Holding.{Holding}
use Rattle.rk_changes.proofs.ImportedLemmas.{has_places-imported, may_become-imported}
use Rattle.rk_changes.proofs.PlanLemmas.{IsListed, plan-list}
use Rattle.rk_request.specs.Asked.{is_fresh}
use Rattle.rk_build.specs.Fresh.{held_after}
use Rattle.rk_build.specs.Stops.{FewBytes, FinishesAfter, LeadsOn, LeadsOnAgain, LeavesUnsealed, StaysUndamaged, StopsSealed}
use Rattle.rk_build.proofs.InstalledLemmas.{plan-allows, plan-leads}

same-held : (a b : Held) → Some a ≡ Some b → a ≡ b
same-held a b e = cc

stops-by : (held new : Held) (after : Holding) (ops : List Op) (fresh : Bool) (calls : Option (List Op)) → IsWhole held → FewBytes calls → IsListed calls ops → AllowsCalls calls fresh held → IsAfter held (carried_out calls fresh held) after → StopsCalls calls held (Some new) → LeavesUnsealed calls held new ⊎ LeadsOn held after new
stops-by held new after ops fresh None whole few listed may leads stops = inl (same-held new held stops)
stops-by held new after ops fresh (Some list) whole few listed may leads (inl unsealed) = inl unsealed
stops-by held new after ops fresh (Some list) whole few listed may leads (inr stopped) =
    let are : are_calls list ≡ true = ap are_calls listed.0 ∙ listed.1 in
    inr (record {
      calls = list;
      start = sealed list held;
      sealed = stops-sealed list held (Some new) are few whole may stopped;
      leads = subst (λ (h : Held). IsAfter held h after) (leads-same list held are whole may) leads;
    })

pub stop-sealed : StopsSealed
stop-sealed first request entries old held new e whole plain it tree few =
    let before : Holding = holding_of (is_fresh request) held in
    let after : Holding = held_after it.world it.kept in
    let built : IsBuilt after = record { entries = tree; rkr = refl; db = refl } in
    let becomes : MayBecome held before after = may_become-imported held whole plain (is_fresh request) after built in
    let places : HasPlaces held before = has_places-imported held whole plain (is_fresh request) in
    stops-by held new after (planned before after) it.plan.fresh_list it.plan.calls whole few (plan-list (planned before after) before.state.fresh_list it.plan it.is_plan) (plan-allows held before after becomes places it.plan it.is_plan) (plan-leads held before after becomes places it.plan it.is_plan) it.stops

pub finishes-after : FinishesAfter
finishes-after held after new last leads recovered =
    subst (λ (o : Option Held). IfSome o (λ it. IsAfter held it after)) (sym (recovers-all leads.calls leads.start new last leads.sealed recovered)) leads.leads

pub leads-again : LeadsOnAgain
leads-again held after new last leads cut = by last (stays-sealed leads.calls leads.start new last leads.sealed cut) where
  by : (o : Option Held) → IfSome o (IsSealed leads.calls leads.start) → IfSome o (LeadsOn held after)
  by None still = tt
  by (Some it) still = record { calls = leads.calls; start = leads.start; sealed = still; leads = leads.leads }

pub stays-undamaged : StaysUndamaged
stays-undamaged held after new damage leads told = never-damaged leads.calls leads.start new damage leads.sealed told
