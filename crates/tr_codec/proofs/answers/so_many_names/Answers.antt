use Rattle.std.proofs.Common.{ℕ, List, []}
use Rattle.std.proofs.lemmas.Result.{err_from_is_err_and}
use Rattle.tr_codec.specs.Reading.{name_at, many_at}
use Rattle.tr_parts.proofs.LoopLemmas.{goes_on, ends, is_done}
use Rattle.tr_codec.specs.Used.{used_by}
use Rattle.tr_codec.proofs.UsedLemmas.{more_used}
use Rattle.tr_codec.proofs.answers.so_many_names.Goals as goal

pub returns-in_err-name-clause-gives : goal.returns-in_err-name-clause-gives
returns-in_err-name-clause-gives c =
    let p = err_from_is_err_and c.from_residual.result c.from_residual.ensures.1 in
    rw (p.1, p.2) (ends (λ (front : List (List ℕ)). name_at c.args.blobs.now) c.in_err-name.field-0.0 c.names.names.items c.args.count c.names.counter c.names.rest.now (many_at (λ (front : List (List ℕ)). name_at c.args.blobs.now) c.args.count [] c.args.bytes.now) c.names-test.true c.in_err-name.ensures.gives c.names.invariant.read)

pub names-preserved : goal.names-preserved
names-preserved c = record {
  read =
      rw c.in_ok-push.ensures.items (goes_on (λ (front : List (List ℕ)). name_at c.args.blobs.now) c.names.names.items c.args.count c.names.counter c.names.rest.now c.in_ok-name.name c.in_ok-name.after.now (many_at (λ (front : List (List ℕ)). name_at c.args.blobs.now) c.args.count [] c.args.bytes.now) c.names-test.true c.in_ok-name.ensures.gives c.names.invariant.read);
  used = rw c.in_ok-push.ensures.items (more_used (used_by c.args.blobs.now) _ _ _ c.names.names.items c.in_ok-name.name c.names.invariant.used c.in_ok-name.ensures.used);
}

pub returns-clause-gives : goal.returns-clause-gives
returns-clause-gives c = is_done (λ (front : List (List ℕ)). name_at c.args.blobs.now) c.names.names.items c.args.count c.names.counter c.names.rest.now (many_at (λ (front : List (List ℕ)). name_at c.args.blobs.now) c.args.count [] c.args.bytes.now) c.names-test.false c.names.invariant.read
