use Rattle.std.proofs.Common.{◌∙◌, sym}
use Rattle.tr_kept.proofs.KeptSealLemmas.{latest}
use Rattle.tr_kept.proofs.kept_reading.is_latest.Goals as goal

pub returns-clause-spelling : goal.returns-clause-spelling
returns-clause-spelling c = λ begins kept is. latest c.args.bytes.now kept (sym c.split_at.ensures.front ∙ c.is_same.ensures.0 begins) is
