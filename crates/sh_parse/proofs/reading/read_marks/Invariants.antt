use Rattle.sh_token.specs.Places.{size}
use Rattle.sh_script.specs.TextReader.{text_reader}
use Rattle.sh_script.specs.Owing.{Owes, turns_left}
use Rattle.sh_parse.specs.Finding.{Ahead}
use Rattle.sh_parse.proofs.reading.read_marks.Given as goal

-- what is still to be read is owed
abbrev pub invariant-turns : goal.invariant-turns
invariant-turns g l = Owes text_reader (g.S.Source.place l.fn.s) l.todo l.marks (g.S.Source.place l.s) × Ahead l.ahead (g.S.Source.place l.s)

abbrev pub decreases-turns : goal.decreases-turns
decreases-turns g l = turns_left (size (g.S.Source.place l.s)) l.todo
