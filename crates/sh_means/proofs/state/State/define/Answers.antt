use Rattle.std.proofs.Common.{ap}
use Rattle.sh_means.specs.State.{Functions}
use Rattle.sh_means.specs.Views.{shell_of}
use Rattle.sh_means.proofs.state.State.define.Goals as goal

pub returns : goal.returns
returns c = ap (λ (functions : Functions). record (shell_of c.args.self.now) { functions = functions }) c.in_ok-put_function.ensures
