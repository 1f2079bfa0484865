use Rattle.rk_feet.proofs.QuestionLemmas as question
use Rattle.rk_feet.proofs.WalkLemmas as walking
use Rattle.rk_feet.proofs.questions.Goals as goal

pub returns : goal.returns
returns c = record { stats = question.stats; lists = question.lists; links = question.reads-links; walks = walking.walks; compares = question.compares }
