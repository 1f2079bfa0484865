use Rattle.std.proofs.Common.{List, ap, ◌∙◌, ◌++◌}
use Rattle.rk_base.specs.Text.{Text}
use Rattle.sh_means.proofs.Delivered.{fields_taken}
use Rattle.sh_words.proofs.words.take_fields.Goals as goal

pub returns-clause-talk : goal.returns-clause-talk
returns-clause-talk c =
    λ place k e p. fields_taken c.args.left place k e c.args.expanded c.push_all.new.fields c.in_ok-more.more p (c.in_ok-push_all.ensures ∙ ap (λ (xs : List Text). c.args.left.fields ++ xs) c.as_slice.ensures) c.in_ok-more.ensures
