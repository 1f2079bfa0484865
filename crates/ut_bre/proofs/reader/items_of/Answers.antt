use Rattle.std.proofs.Common.{◌≡◌, ◌+◌, ◌-◌, length, ℕ, subst}
use Rattle.std.specs.Prelude.{Option, Some, Ok}
use Rattle.ut_bre.specs.Reading.{next_of}
use Rattle.ut_bre.specs.ReadsAs.{reading, IsNext}
use Rattle.ut_bre.proofs.ReadLemmas.{token-on}
use Rattle.ut_bre.proofs.reader.items_of.Goals as goal

pub tokens-preserved : goal.tokens-preserved
tokens-preserved c =
    let more : c.in-Ok-Some.field-0 ≡ Some c.in-Ok-Some.more = cc in
    token-on c.args.folded c.args.start c.in-Some.b c.in-Ok-Some.more c.args.text.now c.tokens.left.now c.in-Some.rest.now c.behind-left.result.now (reading c.tokens.reader) (reading c.take.new.self) c.in-Some.ensures (subst (λ (o : Option ℕ). IsNext (next_of (c.args.start + length c.args.text.now - length c.tokens.left.now) c.in-Some.b c.in-Some.rest.now (reading c.tokens.reader)) (reading c.take.new.self) (Ok o)) more c.in-Ok-Some.ensures) c.behind-left.ensures c.tokens.invariant
