use Rattle.std.proofs.Common.{List, []}
use Rattle.std.proofs.lemmas.Result.{err_from_is_err_and}
use Rattle.rk_base.specs.declared.vars.Var.{Var}
use Rattle.tr_codec.specs.Reading.{var_at, many_at}
use Rattle.tr_parts.proofs.LoopLemmas.{goes_on, ends, is_done}
use Rattle.tr_codec.specs.Used.{var_used}
use Rattle.tr_codec.proofs.UsedLemmas.{more_used}
use Rattle.tr_codec.proofs.keys.so_many_vars.Goals as goal

pub returns-in_err-var-clause-gives : goal.returns-in_err-var-clause-gives
returns-in_err-var-clause-gives c =
    let p = err_from_is_err_and c.from_residual.result c.from_residual.ensures.1 in
    rw (p.1, p.2) (ends (λ (front : List Var). var_at c.args.blobs.now) c.in_err-var.field-0.0 c.vars.vars.items c.args.count c.vars.counter c.vars.rest.now (many_at (λ (front : List Var). var_at c.args.blobs.now) c.args.count [] c.args.bytes.now) c.vars-test.true c.in_err-var.ensures.gives c.vars.invariant.read)

pub vars-preserved : goal.vars-preserved
vars-preserved c = record {
  read =
      rw c.in_ok-push.ensures.items (goes_on (λ (front : List Var). var_at c.args.blobs.now) c.vars.vars.items c.args.count c.vars.counter c.vars.rest.now c.in_ok-var.var c.in_ok-var.after.now (many_at (λ (front : List Var). var_at c.args.blobs.now) c.args.count [] c.args.bytes.now) c.vars-test.true c.in_ok-var.ensures.gives c.vars.invariant.read);
  used = rw c.in_ok-push.ensures.items (more_used (var_used c.args.blobs.now) _ _ _ c.vars.vars.items c.in_ok-var.var c.vars.invariant.used c.in_ok-var.ensures.used);
}

pub returns-clause-gives : goal.returns-clause-gives
returns-clause-gives c = is_done (λ (front : List Var). var_at c.args.blobs.now) c.vars.vars.items c.args.count c.vars.counter c.vars.rest.now (many_at (λ (front : List Var). var_at c.args.blobs.now) c.args.count [] c.args.bytes.now) c.vars-test.false c.vars.invariant.read
