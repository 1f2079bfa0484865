use Rattle.std.proofs.Common.{List, [], length, refl}
use Rattle.rk_base.specs.declared.vars.Var.{Var}
use Rattle.tr_parts.proofs.LoopLemmas.{starts}
use Rattle.tr_codec.specs.Reading.{var_at, many_at}
use Rattle.tr_codec.specs.Used.{var_used}
use Rattle.tr_codec.proofs.RecentLemmas.{stands_next, stand, used_next, used_all}
use Rattle.tr_codec.proofs.recent.past_each_var.Goals as goal

pub vars-init : goal.vars-init
vars-init c = record { stand = starts (λ (front : List Var). var_at c.args.blobs.now) (length c.args.vars.now) c.args.bytes.now; used = refl }

pub vars-preserved : goal.vars-preserved
vars-preserved c =
    let one = λ (front : List Var). var_at c.args.blobs.now in
    record {
      stand = stands_next one c.args.vars.now c.vars.var-index c.vars.rest.now _ _ c.in_ok-rest.rest.now (many_at one (length c.args.vars.now) [] c.args.bytes.now) c.vars-test.true c.var-item.is c.in_ok-rest.ensures.var c.vars.invariant.stand;
      used = used_next (var_used c.args.blobs.now) c.args.vars.now c.vars.var-index _ _ _ _ _ c.vars-test.true c.var-item.is c.vars.invariant.used c.in_ok-rest.ensures.used;
    }

pub returns-clause-vars : goal.returns-clause-vars
returns-clause-vars c =
    let one = λ (front : List Var). var_at c.args.blobs.now in
    stand one c.args.vars.now c.vars.var-index c.vars.rest.now (many_at one (length c.args.vars.now) [] c.args.bytes.now) c.vars-test.false c.vars.invariant.stand

pub returns-clause-used : goal.returns-clause-used
returns-clause-used c = used_all (var_used c.args.blobs.now) c.args.vars.now c.vars.var-index _ _ c.vars-test.false c.vars.invariant.used
