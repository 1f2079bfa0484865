use Rattle.ut_grep.specs.Values.{grep_value}
use Rattle.ut_grep.proofs.PassingLemmas.{none_left, none_passed}
use Rattle.ut_grep.proofs.grep.Grep.next_line.Goals as goal

pub returns-in-None-clause-cut : goal.returns-in-None-clause-cut
returns-in-None-clause-cut c =
    none_left (grep_value c.args.self.now) c.args.needed c.args.text.now c.split_at.result.1.now c.passed.result c.requires c.passed.ensures.lacks c.passed.ensures.cut c.split_at.ensures.back c.in-None.ensures.cut

pub returns-in-Some-clause-passed : goal.returns-in-Some-clause-passed
returns-in-Some-clause-passed c =
    none_passed (grep_value c.args.self.now) c.args.needed c.args.text.now c.split_at.result.0.now c.passed.result c.requires c.passed.ensures.lacks c.split_at.ensures.front
