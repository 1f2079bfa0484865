use Rattle.std.proofs.Common.{ℕ, List, []}
use Rattle.std.proofs.lemmas.Result.{err_from_is_err_and}
use Rattle.tr_codec.specs.Reading.{blob_at, many_at}
use Rattle.tr_parts.proofs.LoopLemmas.{goes_on, ends, is_done}
use Rattle.tr_codec.specs.Used.{used_by}
use Rattle.tr_codec.proofs.UsedLemmas.{more_used}
use Rattle.tr_codec.proofs.parts.blobs_of.Goals as goal

pub returns-in_err-text-clause-gives : goal.returns-in_err-text-clause-gives
returns-in_err-text-clause-gives c =
    let p = err_from_is_err_and c.from_residual-in_err-text.result c.from_residual-in_err-text.ensures.1 in
    rw (p.1, p.2) (ends (λ (front : List (List ℕ)). blob_at c.args.blobs.now) c.in_err-text.field-0.0 c.texts.texts.items c.args.count c.texts.counter c.texts.rest.now (many_at (λ (front : List (List ℕ)). blob_at c.args.blobs.now) c.args.count [] c.args.bytes.now) c.texts-test.true c.in_err-text.ensures.gives c.texts.invariant.read)

pub texts-preserved : goal.texts-preserved
texts-preserved c = record {
  read =
      rw c.in_ok-push.ensures.items (goes_on (λ (front : List (List ℕ)). blob_at c.args.blobs.now) c.texts.texts.items c.args.count c.texts.counter c.texts.rest.now c.in_ok-text.text c.in_ok-text.after.now (many_at (λ (front : List (List ℕ)). blob_at c.args.blobs.now) c.args.count [] c.args.bytes.now) c.texts-test.true c.in_ok-text.ensures.gives c.texts.invariant.read);
  used = rw c.in_ok-push.ensures.items (more_used (used_by c.args.blobs.now) _ _ _ c.texts.texts.items c.in_ok-text.text c.texts.invariant.used c.in_ok-text.ensures.used);
}

pub returns-clause-gives : goal.returns-clause-gives
returns-clause-gives c = is_done (λ (front : List (List ℕ)). blob_at c.args.blobs.now) c.texts.texts.items c.args.count c.texts.counter c.texts.rest.now (many_at (λ (front : List (List ℕ)). blob_at c.args.blobs.now) c.args.count [] c.args.bytes.now) c.texts-test.false c.texts.invariant.read
