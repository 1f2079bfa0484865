use Rattle.std.proofs.Common.{ap, ◌∙◌, refl, ℕ}
use Rattle.rk_folder.specs.Memory.{held_by}
use Rattle.rk_gen.specs.Summary.{added}
use Rattle.rk_top.specs.Generated.{Stage}
use Rattle.rk_top.proofs.GeneratedLemmas.{built, ended-keeps, few-turns, no-other, spent-built}
use Rattle.rk_top.proofs.generate.build_once.Goals as goal

pub turns_of-requires : goal.turns_of-requires
turns_of-requires g c =
    few-turns g.M.Maker.first (held_by c.args.session.now.folder) (held_by c.build_in.new.folder) c.in_ok-old.old c.in_ok-kept-in-Ended.kept c.in-Ended.launched c.in-Ended.ran c.args.live.now c.build_in.new.live
    c.requires.well c.in-Ended.ensures.folder c.in-Ended.ensures.tally c.in-Ended.ensures.live c.in_ok-old.ensures c.in_ok-kept-in-Ended.ensures

pub tables_of-requires-in-Ended : goal.tables_of-requires-in-Ended
tables_of-requires-in-Ended g c = ended-keeps g.M.Maker.first (held_by c.args.session.now.folder) (held_by c.build_in.new.folder) c.requires.well c.in-Ended.ensures.folder

pub returns-in-Ended-clause-built : goal.returns-in-Ended-clause-built
returns-in-Ended-clause-built g c =
    let before : Stage = record { held = held_by c.args.session.now.folder; sums = c.args.session.now.figures } in
    let after : Stage = record { held = held_by c.build_in.new.folder; sums = c.add.new.self } in
    (built g.M.Maker.first before after c.in_ok-old.old c.in_ok-kept-in-Ended.kept c.in-Ended.launched c.in-Ended.ran c.args.live.now c.build_in.new.live
    c.requires.well c.in-Ended.ensures.folder c.in-Ended.ensures.tally
    (record { old_is = c.in_ok-old.ensures; kept_is = c.in_ok-kept-in-Ended.ensures; sums_are = c.add.ensures ∙ ap (λ (n : ℕ). added c.in-Ended.launched c.in-Ended.ran n c.args.session.now.figures) c.turns_of.ensures })).built

pub returns-in-Ended-clause-well : goal.returns-in-Ended-clause-well
returns-in-Ended-clause-well g c =
    let before : Stage = record { held = held_by c.args.session.now.folder; sums = c.args.session.now.figures } in
    let after : Stage = record { held = held_by c.build_in.new.folder; sums = c.add.new.self } in
    (built g.M.Maker.first before after c.in_ok-old.old c.in_ok-kept-in-Ended.kept c.in-Ended.launched c.in-Ended.ran c.args.live.now c.build_in.new.live
    c.requires.well c.in-Ended.ensures.folder c.in-Ended.ensures.tally
    (record { old_is = c.in_ok-old.ensures; kept_is = c.in_ok-kept-in-Ended.ensures; sums_are = c.add.ensures ∙ ap (λ (n : ℕ). added c.in-Ended.launched c.in-Ended.ran n c.args.session.now.figures) c.turns_of.ensures })).well

pub returns-in-Ended-clause-paid : goal.returns-in-Ended-clause-paid
returns-in-Ended-clause-paid g c =
    let before : Stage = record { held = held_by c.args.session.now.folder; sums = c.args.session.now.figures } in
    let after : Stage = record { held = held_by c.build_in.new.folder; sums = c.add.new.self } in
    (built g.M.Maker.first before after c.in_ok-old.old c.in_ok-kept-in-Ended.kept c.in-Ended.launched c.in-Ended.ran c.args.live.now c.build_in.new.live
    c.requires.well c.in-Ended.ensures.folder c.in-Ended.ensures.tally
    (record { old_is = c.in_ok-old.ensures; kept_is = c.in_ok-kept-in-Ended.ensures; sums_are = c.add.ensures ∙ ap (λ (n : ℕ). added c.in-Ended.launched c.in-Ended.ran n c.args.session.now.figures) c.turns_of.ensures })).paid

pub returns-in-Spent-clause-built : goal.returns-in-Spent-clause-built
returns-in-Spent-clause-built g c =
    let before : Stage = record { held = held_by c.args.session.now.folder; sums = c.args.session.now.figures } in
    let after : Stage = record { held = held_by c.build_in.new.folder; sums = c.args.session.now.figures } in
    (spent-built g.M.Maker.first before after (record { writes = 0; memory = 0 }) (record { writes = 0; memory = 0 }) c.args.live.now c.build_in.new.live c.requires.well c.in-Spent.ensures.folder refl c.build_in.ensures.rises).built

pub returns-in-Spent-clause-well : goal.returns-in-Spent-clause-well
returns-in-Spent-clause-well g c =
    let before : Stage = record { held = held_by c.args.session.now.folder; sums = c.args.session.now.figures } in
    let after : Stage = record { held = held_by c.build_in.new.folder; sums = c.args.session.now.figures } in
    (spent-built g.M.Maker.first before after (record { writes = 0; memory = 0 }) (record { writes = 0; memory = 0 }) c.args.live.now c.build_in.new.live c.requires.well c.in-Spent.ensures.folder refl c.build_in.ensures.rises).well

pub unreachable-requires : goal.unreachable-requires
unreachable-requires g c =
    no-other g.M.Maker.first (held_by c.args.session.now.folder) _ _ _ c.build_in.result c.requires.well c.build_in.ensures.folder c.build_in.ensures.asked
    (c.build_in.ensures.steady c.requires.steady (rw c.new-out.ensures refl) (rw c.new-err.ensures refl)).1 c.in_default.not-Ended c.in_default.not-Spent c.in_default.not-NoMemory
