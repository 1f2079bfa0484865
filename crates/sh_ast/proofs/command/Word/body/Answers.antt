use Rattle.std.proofs.Common.{◌∙◌, ap, sym, slice_get}
use Rattle.sh_ast.specs.declared.command.Word.{out-Word}
use Rattle.sh_ast.proofs.Folding as folding
use Rattle.sh_ast.proofs.Places as places
use Rattle.sh_ast.specs.Commands as c
use Rattle.sh_ast.specs.Lists as l
use Rattle.sh_ast.proofs.command.Word.body.Goals as goal

pub returns : goal.returns
returns c' = places.found (λ x. x.now) (λ r. c.commands r.value) c.bodies_of l.body_in places.body_in-of (out-Word c'.args.self.now).bodies.items c'.args.number _ (c'.item_at.ensures ∙ ap (λ xs. slice_get xs c'.args.number) c'.as_slice.ensures.value) ∙ ap (λ t. l.body_at t c'.args.number) (sym (folding.word_is c'.args.self.now))
