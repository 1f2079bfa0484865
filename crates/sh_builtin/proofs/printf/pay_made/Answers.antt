use Rattle.std.proofs.Common.{◌≡◌, ℕ, List, length, sym, ap, ◌∙◌}
use Rattle.rk_base.specs.Text.{Text}
use Rattle.rk_calls.specs.Talk.{pay}
use Rattle.sh_operands.specs.declared.format.Piece.{Piece}
use Rattle.sh_operands.specs.Passes.{prints_of}
use Rattle.sh_builtin.specs.Prints.{writes_made}
use Rattle.sh_builtin.proofs.Paying.{made_paid}
use Rattle.sh_builtin.proofs.printf.pay_made.Goals as goal

pub returns-clause-does : goal.returns-clause-does
returns-clause-does c =
    let bytes : c.in_ok-bytes.bytes ≡ length (prints_of c.args.pieces c.args.operands).output =
    c.in_ok-bytes.ensures.bytes
    ∙ ap (λ (ps : List Piece). length (prints_of ps c.as_slice-2.result.now).output) c.as_slice.ensures
    ∙ ap (λ (operands : List Text). length (prints_of c.args.pieces operands).output) c.as_slice-2.ensures in
    λ env slots k p is.
    made_paid c.args.status slots k env p (prints_of c.args.pieces c.args.operands).output c.in_ok-bytes.bytes bytes c.if-bytes-eq0.false (sym c.if-not-has_output.false ∙ is)
    ∙ ap (λ (cost : ℕ). pay cost (writes_made (prints_of c.args.pieces c.args.operands).output c.args.status slots k env) p) (sym c.div_ceil.ensures)
