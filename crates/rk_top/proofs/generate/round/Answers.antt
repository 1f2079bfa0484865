use Rattle.std.proofs.Common.{OnOk, subst}
use Rattle.rk_folder.specs.Memory.{held_by}
use Rattle.rk_top.specs.Generated.{IsBuilt, Stage, stage_of}
use Rattle.rk_top.proofs.GeneratedLemmas.{changed-well, round-stage}
use Rattle.rk_top.proofs.generate.round.Goals as goal

pub build_once-requires-clause-well : goal.build_once-requires-clause-well
build_once-requires-clause-well g c =
    changed-well g.M.Maker.first c.args.workload.now c.in_ok-edit.edit (held_by c.args.session.now.folder) (held_by c.change.new.folder) c.in_ok-edit.ensures.edit c.in_ok-change.ensures.held c.requires.well

pub returns-clause-built : goal.returns-clause-built
returns-clause-built g c =
    subst (λ (before : Stage). OnOk c.build_once.result (IsBuilt g.M.Maker.first before (stage_of c.build_once.new.session)))
    (round-stage c.args.workload.now c.in_ok-edit.edit (held_by c.args.session.now.folder) (held_by c.change.new.folder) c.args.session.now.figures c.in_ok-edit.ensures.edit c.in_ok-change.ensures.held)
    c.build_once.ensures.built
