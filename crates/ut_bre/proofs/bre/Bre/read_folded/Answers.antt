use Rattle.std.proofs.Common.{ap, sym, ◌∙◌, map}
use Rattle.ut_bre.specs.Reading.{reads}
use Rattle.ut_bre.specs.Trees.{tree_of}
use Rattle.ut_bre.proofs.ReadLemmas.{read-good, read-err}
use Rattle.ut_bre.proofs.bre.Bre.read_folded.Goals as goal

pub returns-in_ok-bre-in-Ok : goal.returns-in_ok-bre-in-Ok
returns-in_ok-bre-in-Ok c =
    read-good c.args.folded c.args.text.now c.is_anchored-at_start.result (map tree_of c.in-Ok.ended.items.items) c.in-Ok.ended.at_end c.in-Ok.ended.groups c.is_anchored-at_start.ensures.value c.in-Ok.ensures ∙ ap reads (sym c.in_ok-bre-in-Ok.ensures)

pub returns-in-Err : goal.returns-in-Err
returns-in-Err c = read-err c.args.folded c.args.text.now c.is_anchored-at_start.result c.in-Err.fault c.is_anchored-at_start.ensures.value c.in-Err.ensures
