-- What a refused redirection ends.
use Rattle.sh_means.specs.declared.control.Made.{Made}
use Rattle.sh_means.specs.declared.control.Made.TheVariants.{Simple, Compound}
use Rattle.sh_means.specs.declared.flow.Flow.{Flow}
use Rattle.sh_means.specs.declared.flow.Flow.TheVariants.{Normal}
use Rattle.sh_means.specs.Simple.{refusal_flow}
use Rattle.sh_means.specs.Stack.{kind_of_code}

abbrev pub made_flow : Made → Flow
made_flow (Simple as' resolved) = refusal_flow (kind_of_code resolved.value.kind)
made_flow (Compound b) = Normal
