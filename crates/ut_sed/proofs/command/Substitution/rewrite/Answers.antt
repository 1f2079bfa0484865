use Rattle.std.proofs.Common.{◌≡◌, ℕ, ◌<◌, ◌+◌, ◌-◌, ◌++◌, length, Option, Some, sym, ◌∙◌, ap, subst, arith}
use Rattle.std.specs.Prelude.{◌||◌, IfSome}
use Rattle.rk_base.specs.Text.{Text}
use Rattle.ut_bre.specs.declared.group.Found.{Found}
use Rattle.ut_bre.specs.declared.group.Span.{Span}
use Rattle.ut_bre.specs.Expressions.{expression}
use Rattle.ut_bre.specs.Found.{with_groups, found_at}
use Rattle.ut_bre.specs.Matching.{Matches}
use Rattle.ut_sed.specs.Commands.{substitution_of}
use Rattle.ut_sed.specs.Substituting.{matches_from, rewritten, substituted, is_replaced, is_substituted}
use Rattle.ut_sed.proofs.SpanLemmas.{found-span, finds-matches}
use Rattle.ut_sed.proofs.SubstituteLemmas.{made_more, made_last, replaced_more}
use Rattle.ut_sed.proofs.command.Substitution.rewrite.Goals as goal

pub matches-init : goal.matches-init
matches-init c =
    let s = substitution_of c.args.self.now in
    let e = expression c.args.self.now.expression in
    let text = c.args.text.now in
    let made = c.args.made.now.items in
    let n : ℕ = length text + 1 in
    let next = c.in_ok-next.next in
    let first = found-span e text 0 next c.in_ok-next.ensures.value in
    let passed = c.saturating_sub-passed.ensures in
    record {
      made = ap (λ (q : ℕ). made ++ rewritten s text 0 q (matches_from n e text (found_at e text next))) passed ∙ ap (λ (o : Option Found). made ++ rewritten s text 0 (s.first - 1) (matches_from n e text o)) first;
      replaced = ap (λ (q : ℕ). is_replaced q (matches_from n e text (found_at e text next))) passed ∙ ap (λ (o : Option Found). is_replaced (s.first - 1) (matches_from n e text o)) first;
      matches = finds-matches e text 0 next c.in_ok-next.ensures.finds;
    }

pub put_match-requires : goal.put_match-requires
put_match-requires c =
    subst (λ (o : Option Span). IfSome o (λ m. Matches (expression c.args.self.now.expression) c.args.text.now m.start m.end)) c.in-Some.is c.matches.invariant.matches

pub returns-then-is_final-clause-made : goal.returns-then-is_final-clause-made
returns-then-is_final-clause-made c =
    let s = substitution_of c.args.self.now in
    let e = expression c.args.self.now.expression in
    let text = c.args.text.now in
    let some : 0 < c.matches.left = omega arith in
    let f : Found = with_groups e text c.in-Some.span in
    let P : Option Span → Type 0 = λ o. c.matches.made.items ++ rewritten s text c.matches.at c.matches.passed (matches_from c.matches.left e text (found_at e text o)) ≡ c.args.made.now.items ++ substituted s text in
    let h : P (Some c.in-Some.span) = subst P c.in-Some.is c.matches.invariant.made in
    c.in_ok-extend-in-Some.ensures ∙ ap (λ (t : Text). c.put_match.new.made.items ++ t) c.behind-then-is_final.ensures
    ∙ made_last s text c.matches.made.items c.put_match.new.made.items _ c.matches.at c.matches.passed c.matches.left f some h c.in_ok-put_match-in-Some.ensures (sym c.is_final.ensures ∙ c.if-is_final.true)

pub matches-preserved : goal.matches-preserved
matches-preserved c =
    let s = substitution_of c.args.self.now in
    let e = expression c.args.self.now.expression in
    let text = c.args.text.now in
    let some : 0 < c.matches.left = omega arith in
    let f : Found = with_groups e text c.in-Some.span in
    let next = c.in_ok-next-in-Some.ensures.next in
    let P : Option Span → Type 0 = λ o. c.matches.made.items ++ rewritten s text c.matches.at c.matches.passed (matches_from c.matches.left e text (found_at e text o)) ≡ c.args.made.now.items ++ substituted s text in
    let h : P (Some c.in-Some.span) = subst P c.in-Some.is c.matches.invariant.made in
    let Q : Option Span → Type 0 = λ o. (c.matches.replaced || is_replaced c.matches.passed (matches_from c.matches.left e text (found_at e text o))) ≡ is_substituted s text in
    let k : Q (Some c.in-Some.span) = subst Q c.in-Some.is c.matches.invariant.replaced in
    record {
      made = made_more s text c.matches.made.items c.put_match.new.made.items _ c.matches.at c.matches.passed c.saturating_sub-passed-in-Some.result c.matches.left f (found_at e text c.in_ok-next-in-Some.next) some h c.in_ok-put_match-in-Some.ensures (sym c.is_final.ensures ∙ c.if-is_final.false) c.saturating_sub-passed-in-Some.ensures next;
      replaced = replaced_more e text c.matches.replaced c.either-replaced.result _ c.matches.passed c.saturating_sub-passed-in-Some.result c.matches.left f (found_at e text c.in_ok-next-in-Some.next) some k c.either-replaced.ensures c.saturating_sub-passed-in-Some.ensures next;
      matches = c.in_ok-next-in-Some.ensures.matches;
    }
