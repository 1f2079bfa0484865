use Rattle.std.proofs.Common.{ap}
use Rattle.sh_redirect.specs.declared.descriptors.DescriptorTable.{DescriptorTable}
use Rattle.sh_means.specs.Views.{shell_of}
use Rattle.sh_means.proofs.state.State.set_descriptor.Goals as goal

pub returns : goal.returns
returns c = ap (λ (map : DescriptorTable). record (shell_of c.args.self.now) { descriptors = map }) c.in_ok-set_slot.ensures
