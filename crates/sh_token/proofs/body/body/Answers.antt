use Rattle.std.proofs.Common.{true, false, sym, subst, ◌+◌, ◌∙◌}
use Rattle.sh_token.proofs.Lines.{Searched, body_found, body_newline, body_byte, body_pair}
use Rattle.sh_token.proofs.body.body.Goals as goal

pub returns-then-ends_here-clause-found : goal.returns-then-ends_here-clause-found
returns-then-ends_here-clause-found c = sym (body_found c.args.document.now c.args.text.now c.pieces.fresh c.pieces.rest.now c.pieces.count c.pieces.invariant (sym c.ends_here.ensures ∙ c.if-ends_here.true))

pub pieces-preserved-in-Newline : goal.pieces-preserved-in-Newline
pieces-preserved-in-Newline c =
    subst (λ r. Searched c.args.document.now c.args.text.now true r (c.pieces.count + 1)) (sym c.split_at.ensures.back)
    (body_newline c.args.document.now c.args.text.now c.pieces.fresh c.pieces.rest.now c.pieces.count c.pieces.invariant (sym c.ends_here.ensures ∙ c.if-ends_here.false) (sym c.in-Newline.ensures))

pub pieces-preserved-in-Byte : goal.pieces-preserved-in-Byte
pieces-preserved-in-Byte c =
    subst (λ r. Searched c.args.document.now c.args.text.now false r (c.pieces.count + 1)) (sym c.split_at-in-Byte.ensures.back)
    (body_byte c.args.document.now c.args.text.now c.pieces.fresh c.pieces.rest.now c.pieces.count c.pieces.invariant (sym c.ends_here.ensures ∙ c.if-ends_here.false) (sym c.in-Byte.ensures))

pub pieces-preserved : goal.pieces-preserved
pieces-preserved c =
    subst (λ r. Searched c.args.document.now c.args.text.now false r (c.pieces.count + 2)) (sym c.split_at-in-Pair.ensures.back)
    (body_pair c.args.document.now c.args.text.now c.pieces.fresh c.pieces.rest.now c.pieces.count c.pieces.invariant (sym c.ends_here.ensures ∙ c.if-ends_here.false) (sym c.in-Pair.ensures))
