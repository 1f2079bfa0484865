use Rattle.std.proofs.Common.{◌+◌, ◌≤◌, drop, length, sym, ap, ◌∙◌, arith}
use Rattle.std.specs.Prelude.{◌++◌, ◌∷◌, []}
use Rattle.rk_base.specs.Text.{Text}
use Rattle.sh_pattern.specs.Sets.{extra}
use Rattle.sh_pattern.specs.Special.{unquoted}
use Rattle.sh_pattern.proofs.SpecialLemmas.{unquoted_goes}
use Rattle.sh_pattern.proofs.special.unquoted.Goals as goal

pub bytes-preserved : goal.bytes-preserved
bytes-preserved c =
    let within : c.bytes.at + (1 + c.extra.result) ≤ length c.args.pattern.now = omega (arith, c.extra.ensures.within, c.in-Some.ensures.length, c.split_at.ensures.back_len, c.bytes.invariant.1) in
    (ap (λ n. c.push.new.self.items ++ unquoted (drop (c.bytes.at + (1 + n)) c.args.pattern.now)) c.extra.ensures.value ∙ (ap (λ (t : Text). t ++ unquoted (drop (c.bytes.at + (1 + extra c.in-Some.b c.in-Some.rest.now)) c.args.pattern.now)) (c.in_ok-push.ensures.items ∙ ap (λ b. c.bytes.text.items ++ b ∷ []) c.value.ensures) ∙ (unquoted_goes c.args.pattern.now c.bytes.at c.in-Some.b c.in-Some.rest.now c.bytes.text.items (sym c.split_at.ensures.back ∙ c.in-Some.ensures.cut) ∙ c.bytes.invariant.0)), within)
