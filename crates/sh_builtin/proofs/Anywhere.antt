-- What is done whatever the map is, is done where the map has descriptor 1, and where it lacks it.
use Rattle.std.proofs.Common.{Bool, Result, Ok, Err, IfOk}
use Rattle.sh_vars.specs.declared.env.Env.{Env}
use Rattle.sh_builtin.specs.declared.stage.Move.{Move}
use Rattle.sh_builtin.specs.Action.{Action}
use Rattle.sh_builtin.specs.Stages.{IsDoneBy, IsDoneWhere}

pub done_anywhere : {E : Type 0} (r : Result Move E) (has_output : Bool) (x : Action) (env env' : Env) → IfOk r (λ move. IsDoneBy x env move env') → IfOk r (λ move. IsDoneWhere has_output x env move env')
done_anywhere (Ok move) has_output x env env' h = λ slots k p is. h slots k p
done_anywhere (Err e) has_output x env env' h = tt
