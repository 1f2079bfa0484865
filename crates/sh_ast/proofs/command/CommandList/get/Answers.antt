use Rattle.std.proofs.Common.{◌∙◌, ap, sym, slice_get}
use Rattle.sh_ast.proofs.Folding as folding
use Rattle.sh_ast.proofs.Places as places
use Rattle.sh_ast.specs.Commands as c
use Rattle.sh_ast.specs.Lists as l
use Rattle.sh_ast.proofs.command.CommandList.get.Goals as goal

pub returns : goal.returns
returns c' = places.found (λ x. x.now) c.command c.commands_of l.command_at places.command_at-of c'.args.self.now.items.items c'.args.at _ (c'.item_at.ensures ∙ ap (λ xs. slice_get xs c'.args.at) c'.as_slice.ensures.value) ∙ ap (λ t. l.command_at t c'.args.at) (sym (folding.commands_is c'.args.self.now))
