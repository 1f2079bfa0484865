use Rattle.tr_codec.specs.Spelling.{var_piece}
use Rattle.tr_codec.proofs.PutsLemmas.{puts_then, puts_none, puts_next, puts_all}
use Rattle.tr_codec.proofs.key_pieces.put_vars.Goals as goal

pub vars-init : goal.vars-init
vars-init c = puts_none var_piece _

pub vars-preserved : goal.vars-preserved
vars-preserved c = puts_next var_piece c.args.vars.now c.vars.var-index _ _ _ _ _ c.vars-test.true c.var-item.is c.vars.invariant c.in_ok-put_var.ensures

pub returns : goal.returns
returns c = puts_then _ _ _ _ _ c.in_ok-put_number.ensures.puts (puts_all var_piece c.args.vars.now c.vars.var-index _ _ c.vars-test.false c.vars.invariant)
