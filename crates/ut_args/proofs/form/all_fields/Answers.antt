use Rattle.std.proofs.Common.{rules, tests}
use Rattle.std.specs.Prelude.{◌==◌}
use Rattle.std.proofs.lemmas.Iterator.Search.{all_from_yields_List}
use Rattle.std.proofs.lemmas.Iterator.Splits.{YieldsList-from_slice_split}
use Rattle.ut_args.specs.Forms.{is_field}
use Rattle.ut_args.proofs.form.all_fields.Goals as goal

pub returns : goal.returns
returns c =
    all_from_yields_List is_field _ _ _ c.all.ensures.ran
    (YieldsList-from_slice_split _ (λ b. b == 44) c.args.text.now c.split.ensures.rest c.split.ensures.done c.split.ensures.closure (λ x b q k. search (rules, tests)))
    (λ x b q k. search (rules, tests))
