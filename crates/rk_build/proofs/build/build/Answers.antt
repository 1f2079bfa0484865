use Rattle.std.proofs.Common.{◌∙◌, ap, option_map, refl}
use Rattle.std.proofs.lemmas.Result.{err_from_is_err_and}
use Rattle.rk_install.specs.Install.{carried}
use Rattle.rk_build.specs.Fresh.{output_of, error_text_of}
use Rattle.rk_build.proofs.BuildLemmas.{put-gains, put-gains-errors, put-order, put-starts, install-starts, install-leaves-now, install-gains, install-gains-errors, end-gains, end-leaves, end-status, end-checked, end-tally, text-told, output-told, error_text-told}
use Rattle.rk_folder.proofs.CallsLemmas.{makes-none}
use Rattle.rk_build.proofs.CallsLemmas.{asks-all, install-asks, prepare-asks, put-asks, end-asks}
use Rattle.rk_build.proofs.build.build.Goals as goal

pub returns-in_err-put_texts-clause-output : goal.returns-in_err-put_texts-clause-output
returns-in_err-put_texts-clause-output g c =
    let p = err_from_is_err_and c.from_residual-in_err-put_texts.result c.from_residual-in_err-put_texts.ensures.1 in
    rw (p.1, p.2) (put-gains g.M.Maker.first c.args.request.now _ c.out.result.now _ _ _ (text-told g.M.Maker.first c.args.request.now output_of _ _ _ c.out.ensures (output-told g.M.Maker.first c.args.request.now _ _ _ c.in_ok-ended.field-0 c.in_ok-ended.ensures.prepares.0)) c.in_err-put_texts.ensures.output)

pub returns-in_err-put_texts-clause-errors : goal.returns-in_err-put_texts-clause-errors
returns-in_err-put_texts-clause-errors g c =
    let p = err_from_is_err_and c.from_residual-in_err-put_texts.result c.from_residual-in_err-put_texts.ensures.1 in
    rw (p.1, p.2) (put-gains-errors g.M.Maker.first c.args.request.now _ c.as_slice.result.now _ _ _ (text-told g.M.Maker.first c.args.request.now error_text_of _ _ _ c.as_slice.ensures (error_text-told g.M.Maker.first c.args.request.now _ _ _ c.in_ok-ended.field-0 c.in_ok-ended.ensures.prepares.0)) c.in_err-put_texts.ensures.errors)

pub returns-in_err-carry_out-clause-folder : goal.returns-in_err-carry_out-clause-folder
returns-in_err-carry_out-clause-folder g c =
    let p = err_from_is_err_and c.from_residual-in_err-carry_out.result c.from_residual-in_err-carry_out.ensures.1 in
    rw (p.1, p.2) (install-leaves-now g.M.Maker.first c.args.request.now _ _ _ _ _ _ _ _ c.in_ok-ended.field-0 _ c.prepare.ensures.held c.prepare.ensures.writes c.in_ok-ended.ensures.memory c.in_ok-ended.ensures.prepares.0 c.in_err-carry_out.ensures.held c.in_err-carry_out.ensures.writes c.in_err-carry_out.ensures.memory)

pub returns-in_err-carry_out-clause-output : goal.returns-in_err-carry_out-clause-output
returns-in_err-carry_out-clause-output g c =
    let p = err_from_is_err_and c.from_residual-in_err-carry_out.result c.from_residual-in_err-carry_out.ensures.1 in
    rw (p.1, p.2) (install-gains g.M.Maker.first c.args.request.now _ (g.F.Folder.told c.prepare.new.folder) (g.F.Folder.told c.carry_out.new.folder) c.in_ok-ended.field-0.plan c.out.result.now _ _ c.in_err-carry_out.field-0.0 (text-told g.M.Maker.first c.args.request.now output_of _ _ _ c.out.ensures (output-told g.M.Maker.first c.args.request.now _ _ _ c.in_ok-ended.field-0 c.in_ok-ended.ensures.prepares.0)) c.in_err-carry_out.ensures.held c.in_ok-put_texts.ensures.output)

pub returns-in_err-carry_out-clause-errors : goal.returns-in_err-carry_out-clause-errors
returns-in_err-carry_out-clause-errors g c =
    let p = err_from_is_err_and c.from_residual-in_err-carry_out.result c.from_residual-in_err-carry_out.ensures.1 in
    rw (p.1, p.2) (install-gains-errors g.M.Maker.first c.args.request.now _ (g.F.Folder.told c.prepare.new.folder) (g.F.Folder.told c.carry_out.new.folder) c.in_ok-ended.field-0.plan c.as_slice.result.now _ _ c.in_err-carry_out.field-0.0 (text-told g.M.Maker.first c.args.request.now error_text_of _ _ _ c.as_slice.ensures (error_text-told g.M.Maker.first c.args.request.now _ _ _ c.in_ok-ended.field-0 c.in_ok-ended.ensures.prepares.0)) c.in_err-carry_out.ensures.held c.in_ok-put_texts.ensures.errors)

pub returns-clause-folder : goal.returns-clause-folder
returns-clause-folder g c = end-leaves g.M.Maker.first c.args.request.now _ _ _ _ (record { writes = 0; memory = 0 }) (record { writes = 0; memory = 0 }) c.in_ok-ended.field-0 0 0 0 c.in_ok-ended.ensures.prepares.0 (c.in_ok-carry_out.ensures.held ∙ ap (option_map (carried c.in_ok-ended.field-0.plan)) c.prepare.ensures.held)

pub returns-clause-status : goal.returns-clause-status
returns-clause-status g c = end-status g.M.Maker.first c.args.request.now _ _ _ c.in_ok-ended.field-0 c.in_ok-ended.ensures.prepares.0

pub returns-clause-checked : goal.returns-clause-checked
returns-clause-checked g c = end-checked g.M.Maker.first c.args.request.now _ _ _ c.in_ok-ended.field-0 c.in_ok-ended.ensures.prepares.0

pub returns-clause-tally : goal.returns-clause-tally
returns-clause-tally g c = end-tally g.M.Maker.first c.args.request.now _ _ _ _ c.in_ok-ended.field-0 c.in_ok-ended.ensures.prepares.0 (c.in_ok-carry_out.ensures.held ∙ ap (option_map (carried c.in_ok-ended.field-0.plan)) c.prepare.ensures.held)

pub returns-clause-output : goal.returns-clause-output
returns-clause-output g c = end-gains g.M.Maker.first c.args.request.now output_of _ c.out.result.now _ _ (text-told g.M.Maker.first c.args.request.now output_of _ _ _ c.out.ensures (output-told g.M.Maker.first c.args.request.now _ _ _ c.in_ok-ended.field-0 c.in_ok-ended.ensures.prepares.0)) c.in_ok-put_texts.ensures.output

pub returns-clause-errors : goal.returns-clause-errors
returns-clause-errors g c = end-gains g.M.Maker.first c.args.request.now error_text_of _ c.as_slice.result.now _ _ (text-told g.M.Maker.first c.args.request.now error_text_of _ _ _ c.as_slice.ensures (error_text-told g.M.Maker.first c.args.request.now _ _ _ c.in_ok-ended.field-0 c.in_ok-ended.ensures.prepares.0)) c.in_ok-put_texts.ensures.errors

pub returns-in_err-put_texts-clause-order : goal.returns-in_err-put_texts-clause-order
returns-in_err-put_texts-clause-order g c = put-order g.M.Maker.first c.args.request.now _ c.out.result.now _ _ _ _ (text-told g.M.Maker.first c.args.request.now output_of _ _ _ c.out.ensures (output-told g.M.Maker.first c.args.request.now _ _ _ c.in_ok-ended.field-0 c.in_ok-ended.ensures.prepares.0)) c.in_err-put_texts.ensures.order

pub returns-in_err-carry_out-clause-order : goal.returns-in_err-carry_out-clause-order
returns-in_err-carry_out-clause-order g c = put-order g.M.Maker.first c.args.request.now _ c.out.result.now _ _ _ _ (text-told g.M.Maker.first c.args.request.now output_of _ _ _ c.out.ensures (output-told g.M.Maker.first c.args.request.now _ _ _ c.in_ok-ended.field-0 c.in_ok-ended.ensures.prepares.0)) c.in_ok-put_texts.ensures.order

pub returns-clause-order : goal.returns-clause-order
returns-clause-order g c = put-order g.M.Maker.first c.args.request.now _ c.out.result.now _ _ _ _ (text-told g.M.Maker.first c.args.request.now output_of _ _ _ c.out.ensures (output-told g.M.Maker.first c.args.request.now _ _ _ c.in_ok-ended.field-0 c.in_ok-ended.ensures.prepares.0)) c.in_ok-put_texts.ensures.order

pub returns-in_err-ended-clause-starts : goal.returns-in_err-ended-clause-starts
returns-in_err-ended-clause-starts g c =
    let p = err_from_is_err_and c.from_residual.result c.from_residual.ensures.1 in
    rw (p.1, p.2) c.in_err-ended.ensures.starts

pub returns-in_err-put_texts-clause-starts : goal.returns-in_err-put_texts-clause-starts
returns-in_err-put_texts-clause-starts g c =
    let p = err_from_is_err_and c.from_residual-in_err-put_texts.result c.from_residual-in_err-put_texts.ensures.1 in
    rw (p.1, p.2) (put-starts g.M.Maker.first c.args.request.now _ _ _ _ _ c.in_ok-ended.field-0 _ _ _ _ c.in_ok-ended.ensures.prepares.0 c.in_err-put_texts.ensures.output c.in_ok-ended.ensures.few c.in_ok-ended.ensures.starts)

pub returns-in_err-carry_out-clause-starts : goal.returns-in_err-carry_out-clause-starts
returns-in_err-carry_out-clause-starts g c =
    let p = err_from_is_err_and c.from_residual-in_err-carry_out.result c.from_residual-in_err-carry_out.ensures.1 in
    rw (p.1, p.2) (install-starts g.M.Maker.first c.args.request.now _ (g.F.Folder.told c.prepare.new.folder) (g.F.Folder.told c.carry_out.new.folder) c.in_ok-ended.field-0.plan _ _ _ _ c.in_ok-ended.field-0 c.in_err-carry_out.field-0.0 c.in_ok-ended.ensures.prepares.0 c.in_err-carry_out.ensures.held c.in_ok-ended.ensures.few c.in_ok-ended.ensures.starts)

pub returns-in_err-ended-clause-calls : goal.returns-in_err-ended-clause-calls
returns-in_err-ended-clause-calls g c =
    let p = err_from_is_err_and c.from_residual.result c.from_residual.ensures.1 in
    rw (p.1, p.2) (prepare-asks g.M.Maker.first c.args.request.now (g.F.Folder.reach c.args.folder.now) (g.F.Folder.told c.args.folder.now) _ _ _ _ _ c.in_err-ended.ensures.prepares c.in_err-ended.ensures.looks)

pub returns-in_err-put_texts-clause-calls : goal.returns-in_err-put_texts-clause-calls
returns-in_err-put_texts-clause-calls g c =
    let p = err_from_is_err_and c.from_residual-in_err-put_texts.result c.from_residual-in_err-put_texts.ensures.1 in
    rw (p.1, p.2) (put-asks g.M.Maker.first c.args.request.now (g.F.Folder.reach c.args.folder.now) (g.F.Folder.told c.args.folder.now) _ _ _ _ _ _ c.in_err-put_texts.ensures.output (asks-all g.M.Maker.first c.args.request.now (g.F.Folder.reach c.args.folder.now) (g.F.Folder.told c.args.folder.now) _ _ c.in_ok-ended.field-0 _ _ _ c.in_ok-ended.ensures.prepares.0 c.in_ok-ended.ensures.looks (makes-none _ _ _ refl)))

pub returns-in_err-carry_out-clause-calls : goal.returns-in_err-carry_out-clause-calls
returns-in_err-carry_out-clause-calls g c =
    let p = err_from_is_err_and c.from_residual-in_err-carry_out.result c.from_residual-in_err-carry_out.ensures.1 in
    rw (p.1, p.2) (install-asks g.M.Maker.first c.args.request.now (g.F.Folder.reach c.args.folder.now) (g.F.Folder.told c.args.folder.now) (g.F.Folder.told c.prepare.new.folder) (g.F.Folder.told c.carry_out.new.folder) c.in_ok-ended.field-0.plan _ _ c.in_err-carry_out.field-0.0 c.in_err-carry_out.ensures.held (asks-all g.M.Maker.first c.args.request.now (g.F.Folder.reach c.args.folder.now) (g.F.Folder.told c.args.folder.now) _ _ c.in_ok-ended.field-0 _ _ _ c.in_ok-ended.ensures.prepares.0 c.in_ok-ended.ensures.looks c.carry_out.ensures.calls))

pub returns-clause-calls : goal.returns-clause-calls
returns-clause-calls g c =
    end-asks g.M.Maker.first c.args.request.now (g.F.Folder.reach c.args.folder.now) (g.F.Folder.told c.args.folder.now) _ _ _ _ _
    (asks-all g.M.Maker.first c.args.request.now (g.F.Folder.reach c.args.folder.now) (g.F.Folder.told c.args.folder.now) _ _ c.in_ok-ended.field-0 _ _ _ c.in_ok-ended.ensures.prepares.0 c.in_ok-ended.ensures.looks c.carry_out.ensures.calls)
