use Rattle.std.proofs.Common.{arith, ◌∙◌}
use Rattle.sh_compound.proofs.ByKind.{each_paid, each_over}
use Rattle.sh_compound.proofs.compounds.act_each.Goals as goal

pub returns-then-each-len-clause-talk : goal.returns-then-each-len-clause-talk
returns-then-each-len-clause-talk c = λ k e p. each_paid c.args.each c.args.place k e p (omega arith) ∙ c.paid.ensures.talk k e p

pub returns-else-each-len-clause-talk : goal.returns-else-each-len-clause-talk
returns-else-each-len-clause-talk c = λ k e p. each_over c.args.each c.args.place k e p (omega arith) ∙ c.free.ensures.talk k e p

pub returns-then-each-len-clause-costly : goal.returns-then-each-len-clause-costly
returns-then-each-len-clause-costly c = λ m n h. c.paid.ensures.costly m n

pub returns-else-each-len-clause-costly : goal.returns-else-each-len-clause-costly
returns-else-each-len-clause-costly c = λ m n h. c.free.ensures.costly m n (omega arith)
