use Rattle.std.proofs.Common.{ℕ, List, []}
use Rattle.std.proofs.Common.{length, refl}
use Rattle.tr_parts.proofs.LoopLemmas.{starts}
use Rattle.tr_codec.specs.Reading.{blob_at, many_at}
use Rattle.tr_codec.specs.Used.{used_by}
use Rattle.tr_codec.proofs.RecentLemmas.{stands_next, stand, used_next, used_all}
use Rattle.tr_codec.proofs.recent.past_texts.Goals as goal

pub texts-init : goal.texts-init
texts-init c = record { stand = starts (λ (front : List (List ℕ)). blob_at c.args.blobs.now) (length c.args.texts.now) c.args.bytes.now; used = refl }

pub texts-preserved : goal.texts-preserved
texts-preserved c =
    let one = λ (front : List (List ℕ)). blob_at c.args.blobs.now in
    record {
      stand = stands_next one c.args.texts.now c.texts.text-index c.texts.rest.now _ _ c.in_ok-rest.rest.now (many_at one (length c.args.texts.now) [] c.args.bytes.now) c.texts-test.true c.text-item.is c.in_ok-rest.ensures.text c.texts.invariant.stand;
      used = used_next (used_by c.args.blobs.now) c.args.texts.now c.texts.text-index _ _ _ _ _ c.texts-test.true c.text-item.is c.texts.invariant.used c.in_ok-rest.ensures.used;
    }

pub returns-clause-texts : goal.returns-clause-texts
returns-clause-texts c =
    let one = λ (front : List (List ℕ)). blob_at c.args.blobs.now in
    stand one c.args.texts.now c.texts.text-index c.texts.rest.now (many_at one (length c.args.texts.now) [] c.args.bytes.now) c.texts-test.false c.texts.invariant.stand

pub returns-clause-used : goal.returns-clause-used
returns-clause-used c = used_all (used_by c.args.blobs.now) c.args.texts.now c.texts.text-index _ _ c.texts-test.false c.texts.invariant.used
