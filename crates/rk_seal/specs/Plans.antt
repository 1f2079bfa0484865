-- A plan of calls.
use Rattle.std.specs.Prelude.{List, [], Bool, Option, Some, None, option_map, if◌then◌else◌}
use Rattle.rk_base.specs.Canonical.{is_empty}
use Rattle.rk_seal.specs.Ops.{are_calls}
use Rattle.rk_seal.specs.declared.ops.Op.{Op}
use Rattle.rk_seal.specs.declared.plan.Plan.{Plan}

-- the calls of a plan, in their order
abbrev pub ops_of : Option (List Op) → List Op
ops_of None = []
ops_of (Some ops) = ops

abbrev pub calls_in : Plan → List Op
calls_in plan = ops_of plan.calls

abbrev pub with_calls : Bool → Option (List Op) → Plan
with_calls fresh_list calls = record { calls = calls; fresh_list = fresh_list }

-- The plan of these calls: one without calls where there are none; and no plan where they aren't such as a list has, in its
-- order.
abbrev pub plan_of : List Op → Bool → Option Plan
plan_of ops fresh_list =
    if is_empty ops then Some (with_calls fresh_list None)
    else option_map (λ list. with_calls fresh_list (Some list)) (if are_calls ops then Some ops else None)
