use Rattle.rk_feet.proofs.ToldQuestions as told
use Rattle.rk_feet.proofs.tells_questions.Goals as goal

pub returns : goal.returns
returns c = record { tells = told.questions }
