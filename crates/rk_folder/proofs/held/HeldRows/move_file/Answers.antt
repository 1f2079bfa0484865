use Rattle.std.proofs.Common.{◌≡◌, Some, sym, ap, ◌∙◌}
use Rattle.rk_base.specs.Text.{Text}
use Rattle.rk_base.proofs.CanonicalLemmas.{both}
use Rattle.rk_folder.specs.Told.{can_remove_file, renamed, standing, without, is_file}
use Rattle.rk_folder.specs.declared.folder.Standing.TheVariants.{File}
use Rattle.rk_folder.proofs.HeldLemmas.{renamed-same, renamed-apart, file_of, file_with, still_file}
use Rattle.rk_folder.proofs.held.HeldRows.move_file.Goals as goal

pub returns-then-same-clause-ok : goal.returns-then-same-clause-ok
returns-then-same-clause-ok c =
    let same : c.args.from.now ≡ c.args.to.now = c.same.ensures.0 c.if-same.true in
    let file = file_of _ (both (is_file (standing c.args.self.now c.args.from.now)) _ c.requires.allowed).0 in
    sym (renamed-same c.args.from.now (File file.0) c.args.self.now file.1) ∙ ap (λ (t : Text). renamed c.args.from.now t c.args.self.now) same

pub take_file-requires-clause-allowed : goal.take_file-requires-clause-allowed
take_file-requires-clause-allowed c =
    ap (can_remove_file c.args.from.now) c.in_ok-put_file-in-Some.ensures.ok ∙ still_file c.args.from.now c.args.to.now _ c.args.self.now (λ e. let y = c.same.ensures.1 e in let n = c.if-same.false in cc) (both (is_file (standing c.args.self.now c.args.from.now)) _ c.requires.allowed).0

pub returns-in_ok-put_file-in-Some-clause-ok : goal.returns-in_ok-put_file-in-Some-clause-ok
returns-in_ok-put_file-in-Some-clause-ok c =
    c.take_file.ensures.taken ∙ ap (without c.args.from.now) c.in_ok-put_file-in-Some.ensures.ok
    ∙ renamed-apart c.args.from.now c.args.to.now _ c.args.self.now (λ e. let y = c.same.ensures.1 e in let n = c.if-same.false in cc)
    (file_with _ _ (sym c.in_ok-bytes_at.ensures ∙ c.in-Some.is ∙ ap (λ (b : Text). Some b) (sym c.as_slice.ensures)))
