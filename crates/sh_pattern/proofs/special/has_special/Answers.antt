use Rattle.std.proofs.Common.{◌+◌, ◌≤◌, drop, length, sym, ap, ◌∙◌, arith}
use Rattle.sh_pattern.specs.Special.{has_special}
use Rattle.sh_pattern.proofs.SpecialLemmas.{special_goes}
use Rattle.sh_pattern.proofs.CloseLemmas.{close_goes}
use Rattle.sh_pattern.proofs.special.has_special.Goals as goal

pub bytes-preserved : goal.bytes-preserved
bytes-preserved c =
    let within : c.bytes.at + (1 + c.extra.result) ≤ length c.args.pattern.now = omega (arith, c.extra.ensures.within, c.in-Some.ensures.length, c.split_at.ensures.back_len, c.bytes.invariant.1) in
    (c.bytes.invariant.0 ∙ (special_goes c.args.pattern.now c.bytes.at c.in-Some.b c.in-Some.rest.now (sym c.split_at.ensures.back ∙ c.in-Some.ensures.cut) (sym c.is_special.ensures ∙ c.if-is_special.false) ∙ ap (λ n. has_special (drop (c.bytes.at + (1 + n)) c.args.pattern.now)) (sym c.extra.ensures.value)), within, λ f. close_goes c.args.pattern.now c.bytes.at c.in-Some.b c.in-Some.rest.now c.extra.result (sym c.split_at.ensures.back ∙ c.in-Some.ensures.cut) (c.may_close_behind-may_close.ensures f))
