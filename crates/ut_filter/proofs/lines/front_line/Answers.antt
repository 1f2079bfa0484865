use Rattle.std.proofs.Common.{arith, ap, ◌∙◌, take, drop}
use Rattle.ut_filter.proofs.LineLemmas.{lines_cut}
use Rattle.ut_filter.proofs.lines.front_line.Goals as goal

pub returns-clause-cut : goal.returns-clause-cut
returns-clause-cut c =
    lines_cut c.args.text.now _ _ (omega arith)
    (c.split_at.ensures.front ∙ ap (λ n. take n c.args.text.now) c.line_length.ensures.length)
    (c.after_first.ensures ∙ ap (drop 1) (c.split_at.ensures.back ∙ ap (λ n. drop n c.args.text.now) c.line_length.ensures.length))
