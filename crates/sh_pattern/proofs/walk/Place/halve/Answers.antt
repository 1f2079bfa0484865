use Rattle.std.proofs.Common.{arith}
use Rattle.sh_pattern.specs.Parts.{parts}
use Rattle.sh_pattern.proofs.SuffixLemmas.{low_half}
use Rattle.sh_pattern.proofs.walk.Place.halve.Goals as goal

pub returns-else-is_matched_from-clause-between : goal.returns-else-is_matched_from-clause-between
returns-else-is_matched_from-clause-between c =
    low_half (parts c.args.self.now.pattern) c.args.self.now.text.now c.args.span.low c.args.span.high _ c.requires.between (omega arith) (omega arith) (λ m. let f = c.is_matched_from.ensures.1 m in let g = c.if-is_matched_from.false in absurd (cc (f, g)))
