use Rattle.std.proofs.Common.{refl}
use Rattle.ut_bre.specs.Expressions.{expression}
use Rattle.ut_bre.proofs.StartLemmas.{none-behind, none-first}
use Rattle.ut_bre.proofs.bre.Bre.anchored_start.Goals as goal

pub returns-then-at-gt0 : goal.returns-then-at-gt0
returns-then-at-gt0 c = none-behind (expression c.args.self.now) c.args.line.now c.args.at c.requires.anchored c.if-at-gt0.true

pub returns-then-is_out : goal.returns-then-is_out
returns-then-is_out c =
    let bre = c.args.self.now in
    none-first (expression bre) bre.items.items bre.starts c.args.line.now c.args.at c.requires.anchored refl bre.told (c.if-is_out.ensures.within refl) (c.if-is_out.ensures.out refl)
