use Rattle.rk_build.proofs.PushedLemmas.{copied-fit, copied-spelling, latest-spelling, written-fit}
use Rattle.rk_build.proofs.after.same_bytes.Goals as goal

pub returns-then-is_latest-clause-bytes : goal.returns-then-is_latest-clause-bytes
returns-then-is_latest-clause-bytes c =
    let spelt = latest-spelling c.as_slice.result.now c.args.was.now c.args.kept.now c.as_slice.ensures (c.is_latest.ensures.spelling c.if-is_latest.true) c.requires in
    copied-spelling c.copy.result c.args.was.now c.args.kept.now c.copy.ensures spelt.1

pub returns-then-is_latest-clause-fits : goal.returns-then-is_latest-clause-fits
returns-then-is_latest-clause-fits c =
    let spelt = latest-spelling c.as_slice.result.now c.args.was.now c.args.kept.now c.as_slice.ensures (c.is_latest.ensures.spelling c.if-is_latest.true) c.requires in
    copied-fit c.copy.result c.args.kept.now spelt.0

pub returns-clause-fits : goal.returns-clause-fits
returns-clause-fits c = written-fit c.write_kept.result c.args.kept.now c.write_kept.ensures.are c.write_kept.ensures.fits
