use Rattle.std.proofs.Common.{sym, ap, drop, take, ◌-◌, ◌∷◌, [], ◌∙◌}
use Rattle.sh_token.specs.Folded.{folded}
use Rattle.sh_token.proofs.Folding.{goes_over, take_one}
use Rattle.sh_lex.proofs.telling.first_bytes.Goals as goal

pub bytes-preserved : goal.bytes-preserved
bytes-preserved c =
    let xs = folded c.bytes.left.now in
    let some = sym c.is_none_of.ensures ∙ c.if-is_none_of.false in
    goes_over (take c.args.n (folded c.args.text.now)) c.bytes.out.items c.push_byte.new.out.items (c.first.result ∷ []) (take c.bytes.count xs) c.bytes.invariant c.in_ok-push_byte.ensures
    (take (c.bytes.count - 1) (folded c.rest-left.result.now))
    (take_one c.bytes.count xs some
    ∙ ap (λ b. b ∷ take (c.bytes.count - 1) (drop 1 xs)) (sym c.first.ensures)
    ∙ ap (λ r. c.first.result ∷ take (c.bytes.count - 1) r) (sym c.rest-left.ensures.read))
