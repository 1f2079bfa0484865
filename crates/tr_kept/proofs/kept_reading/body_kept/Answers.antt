use Rattle.std.proofs.Common.{◌^◌, ◌<◌, length, arith}
use Rattle.tr_codec.proofs.ExactLemmas.{are_bytes}
use Rattle.tr_kept.proofs.KeptSealLemmas.{found_of, finds_of, parsed}
use Rattle.tr_kept.proofs.kept_reading.body_kept.Goals as goal

pub returns-clause-found : goal.returns-clause-found
returns-clause-found c = found_of c.args.front.now c.kept_in.result (are_bytes c.args.front.now (λ k. (c.type_inv.front k).fits)) c.kept_in.ensures

pub returns-clause-only : goal.returns-clause-only
returns-clause-only c = λ kept is.
    let small : length c.args.front.now < 2 ^ 64 = omega arith in
    finds_of c.args.front.now c.kept_in.result kept c.kept_in.ensures (parsed c.args.front.now kept small is)
