use Rattle.std.proofs.Common.{◌∙◌, map}
use Rattle.ut_grep.specs.Greps.{folded}
use Rattle.ut_grep.specs.Patterns.{pattern_value}
use Rattle.ut_grep.proofs.SoughtLemmas.{sought-instead}
use Rattle.ut_grep.proofs.sought.sought_for.Goals as goal

pub returns-in_ok-automaton-in-Some-clause-instead : goal.returns-in_ok-automaton-in-Some-clause-instead
returns-in_ok-automaton-in-Some-clause-instead c =
    let m = c.args.manner in
    let texts = rw c.in-Some.is at c.in_ok-texts_of.ensures.texts in
    λ line. c.in_ok-automaton-in-Some.ensures m.whole (folded m.folded line) ∙ sought-instead m (map pattern_value c.args.patterns.now) _ line texts
