use Rattle.std.proofs.Common.{◌≡◌, ◌↔◌, IsTrue, subst}
use Rattle.rk_calls.specs.declared.answer.Answer.{Answer}
use Rattle.tr_matching.specs.AnswerLaws.{same_by}
use Rattle.tr_matching.proofs.answer_key.AnswerKeyPartialEq.eq.Goals as goal

pub returns : goal.returns
returns c =
    same_by c.same_answer.result c.args.self.now c.args.other.now
    (subst (λ (x : Answer). IsTrue c.same_answer.result ↔ (x ≡ c.args.other.now)) c.self.view_is
    (subst (λ (y : Answer). IsTrue c.same_answer.result ↔ (c.self.inside.answer ≡ y)) c.other.view_is c.same_answer.ensures))
