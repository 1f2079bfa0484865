use Rattle.rk_top.proofs.in_memory.started_in_memory.Given as goal

abbrev pub ghosts-started : goal.ghosts-started
ghosts-started a = record { name = a.blank.name; parts = a.blank.parts }
