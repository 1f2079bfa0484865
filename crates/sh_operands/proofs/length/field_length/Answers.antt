use Rattle.std.proofs.Common.{rules, ◌≡◌, sym, ap, ◌∙◌, max, length}
use Rattle.std.specs.Prelude.{option_copied}
use Rattle.sh_operands.proofs.Widths.{widened}
use Rattle.sh_operands.proofs.length.field_length.Goals as goal

pub returns : goal.returns
returns c =
    let bytes : c.len.result ≡ length c.in_ok-field.field.items = search rules in
    c.max.ensures ∙ ap (max c.args.c.width) (bytes ∙ ap length c.in_ok-field.ensures) ∙ sym (widened c.args.c.specifier c.args.c (option_copied c.args.operand))
