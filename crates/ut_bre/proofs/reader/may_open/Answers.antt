use Rattle.std.proofs.Common.{◌≡◌, ap, [], length, arith}
use Rattle.std.specs.Prelude.{nat_lt}
use Rattle.ut_bre.specs.ReadsAs.{opened_of}
use Rattle.ut_bre.proofs.ReadLemmas.{opened-count}
use Rattle.ut_bre.proofs.reader.may_open.Goals as goal

pub returns : goal.returns
returns c =
    let e : length c.args.opened.now ≡ length (opened_of c.args.opened.now) = omega (arith, opened-count [] c.args.opened.now) in
    ap (λ n. nat_lt n 64) e
