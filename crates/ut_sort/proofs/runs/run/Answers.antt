use Rattle.std.proofs.Common.{arith, sym, ◌∙◌}
use Rattle.std.proofs.lemmas.List.Sums.{prefix_len_is}
use Rattle.ut_sort.specs.Runs.{is_of}
use Rattle.ut_sort.proofs.runs.run.Goals as goal

pub returns-then-not-is_of-clause-run : goal.returns-then-not-is_of-clause-run
returns-then-not-is_of-clause-run c =
    sym (prefix_len_is (is_of c.args.class) c.args.text.now c.bytes.at 0 (omega arith) c.bytes.invariant.passed (λ h. sym c.is_of.ensures ∙ c.if-not-is_of.true))

pub returns-clause-run : goal.returns-clause-run
returns-clause-run c =
    sym (prefix_len_is (is_of c.args.class) c.args.text.now c.bytes.at 0 (omega arith) c.bytes.invariant.passed (λ h. absurd (omega arith)))
