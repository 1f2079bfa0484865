use Rattle.std.proofs.Common.{ℕ, List}
use Rattle.tr_codec.specs.Reading.{blob_at}
use Rattle.tr_codec.proofs.RecentLemmas.{counted}
use Rattle.tr_codec.proofs.recent.past_words.Goals as goal

pub returns-in_ok-rest-in-Ok-clause-words : goal.returns-in_ok-rest-in-Ok-clause-words
returns-in_ok-rest-in-Ok-clause-words c = counted (λ (front : List (List ℕ)). blob_at c.args.blobs.now) c.args.words.now c.args.bytes.now c.in-Ok.rest.now c.in_ok-rest-in-Ok.rest.now c.in-Ok.count c.in-Ok.ensures c.if-count-words.true c.in_ok-rest-in-Ok.ensures.texts
