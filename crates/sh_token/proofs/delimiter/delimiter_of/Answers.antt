use Rattle.std.proofs.Common.{sym, ap, drop, ◌++◌, ◌∙◌}
use Rattle.sh_token.specs.declared.delimiter.Within.TheVariants as w
use Rattle.sh_token.specs.HereDocuments.{delimiter_of, one_left, two_left}
use Rattle.sh_token.proofs.Folding.{goes_over}
use Rattle.sh_token.proofs.Walking.{one_delimiter, two_delimiter}
use Rattle.sh_token.proofs.delimiter.delimiter_of.Goals as goal

pub steps-preserved-in-One : goal.steps-preserved-in-One
steps-preserved-in-One c =
    goes_over (delimiter_of w.Bare c.args.word.now) c.steps.out.items c.push_one.new.out.items (one_left c.steps.within c.raw_byte.result) (delimiter_of c.steps.within c.steps.rest.now)
    c.steps.invariant c.in_ok-push_one-in-One.ensures (delimiter_of c.in-One.next c.split_at.result.1.now)
    (one_delimiter c.steps.within c.in-One.next c.steps.rest.now (sym c.in-One.ensures)
    ∙ ap (λ b. one_left c.steps.within b ++ delimiter_of c.in-One.next (drop 1 c.steps.rest.now)) (sym c.raw_byte.ensures)
    ∙ ap (λ r. one_left c.steps.within c.raw_byte.result ++ delimiter_of c.in-One.next r) (sym c.split_at.ensures.back))

pub steps-preserved : goal.steps-preserved
steps-preserved c =
    goes_over (delimiter_of w.Bare c.args.word.now) c.steps.out.items c.push_two.new.out.items (two_left c.steps.within c.raw_byte-in-Two.result) (delimiter_of c.steps.within c.steps.rest.now)
    c.steps.invariant c.in_ok-push_two-in-Two.ensures (delimiter_of c.in-Two.next c.split_at-in-Two.result.1.now)
    (two_delimiter c.steps.within c.in-Two.next c.steps.rest.now (sym c.in-Two.ensures)
    ∙ ap (λ b. two_left c.steps.within b ++ delimiter_of c.in-Two.next (drop 2 c.steps.rest.now)) (sym c.raw_byte-in-Two.ensures)
    ∙ ap (λ r. two_left c.steps.within c.raw_byte-in-Two.result ++ delimiter_of c.in-Two.next r) (sym c.split_at-in-Two.ensures.back))
