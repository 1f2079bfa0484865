use Rattle.std.proofs.Common.{sym, ap, ◌∙◌, arith}
use Rattle.std.specs.Prelude.{Err}
use Rattle.ut_find.specs.declared.tests.Fault.TheVariants as fault
use Rattle.ut_find.specs.declared.tests.Judged.TheVariants.{Goes, BadTest, BadType, Surplus}
use Rattle.rk_base.specs.Text.{Text}
use Rattle.ut_find.specs.Words.{tests_of}
use Rattle.ut_find.proofs.WordLemmas.{judged, told}
use Rattle.ut_find.proofs.tests.tests_of.Goals as goal

pub returns-in-BadTest : goal.returns-in-BadTest
returns-in-BadTest c =
    told _ (tests_of c.args.words.now) c.at_fault.result (ap (λ (w : Text). Err (fault.OfTest w)) c.as_slice.ensures ∙ sym (judged c.words.wants c.words.tests c.judge.new.tests c.args.words.now c.words.word-index c.word-item.result c.in_ok-next.field-0 BadTest _ c.words.invariant (omega arith) c.word-item.is c.in_ok-next.ensures c.in-BadTest.is)) c.at_fault.ensures

pub returns-in-BadType : goal.returns-in-BadType
returns-in-BadType c =
    told _ (tests_of c.args.words.now) c.at_fault-in-BadType.result (sym (judged c.words.wants c.words.tests c.judge.new.tests c.args.words.now c.words.word-index c.word-item.result c.in_ok-next.field-0 BadType _ c.words.invariant (omega arith) c.word-item.is c.in_ok-next.ensures c.in-BadType.is)) c.at_fault-in-BadType.ensures

pub words-preserved : goal.words-preserved
words-preserved c =
    sym (judged c.words.wants c.words.tests c.judge.new.tests c.args.words.now c.words.word-index c.word-item.result c.in_ok-next.field-0 (Goes c.in-Goes.next) _ c.words.invariant (omega arith) c.word-item.is c.in_ok-next.ensures c.in-Goes.is)

pub returns-in-Surplus : goal.returns-in-Surplus
returns-in-Surplus c =
    sym (judged c.words.wants c.words.tests c.judge.new.tests c.args.words.now c.words.word-index c.word-item.result c.in_ok-next.field-0 Surplus _ c.words.invariant (omega arith) c.word-item.is c.in_ok-next.ensures c.in-Surplus.is)
