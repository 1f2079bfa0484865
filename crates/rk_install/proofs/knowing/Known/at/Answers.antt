use Rattle.rk_install.proofs.knowing.Known.at.Goals as goal

pub returns-in-None : goal.returns-in-None
returns-in-None c = c.in-None.ensures.value

pub returns-in-Some : goal.returns-in-Some
returns-in-Some c = c.in-Some.ensures.value
