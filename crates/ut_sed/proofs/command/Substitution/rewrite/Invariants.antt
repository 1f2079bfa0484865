use Rattle.std.proofs.Common.{◌≡◌, ◌++◌}
use Rattle.std.specs.Prelude.{◌||◌, IfSome}
use Rattle.ut_bre.specs.Expressions.{expression}
use Rattle.ut_bre.specs.Found.{found_at}
use Rattle.ut_bre.specs.Matching.{Matches}
use Rattle.ut_sed.specs.Commands.{substitution_of}
use Rattle.ut_sed.specs.Substituting.{matches_from, rewritten, substituted, is_replaced, is_substituted}
use Rattle.ut_sed.proofs.command.Substitution.rewrite.Given as goal

abbrev pub invariant-matches : goal.invariant-matches
invariant-matches l = record {
  made : l.made.items ++ rewritten (substitution_of l.self) l.text l.at l.passed (matches_from l.left (expression l.self.expression) l.text (found_at (expression l.self.expression) l.text l.next)) ≡ l.initial.made.items ++ substituted (substitution_of l.self) l.text;
  replaced : (l.replaced || is_replaced l.passed (matches_from l.left (expression l.self.expression) l.text (found_at (expression l.self.expression) l.text l.next))) ≡ is_substituted (substitution_of l.self) l.text;
  matches : IfSome l.next (λ m. Matches (expression l.self.expression) l.text m.start m.end);
}

abbrev pub decreases-matches : goal.decreases-matches
decreases-matches l = l.left
