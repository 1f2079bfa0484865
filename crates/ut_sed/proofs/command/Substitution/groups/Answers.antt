use Rattle.std.proofs.Common.{List, refl, sym, ap, ◌∙◌}
use Rattle.std.specs.Prelude.{Option}
use Rattle.ut_bre.specs.declared.group.Found.{Found}
use Rattle.ut_bre.specs.declared.group.Span.{Span}
use Rattle.ut_bre.specs.Expressions.{expression}
use Rattle.ut_bre.specs.Found.{with_groups}
use Rattle.ut_sed.specs.Substituting.{parts_text, name_groups}
use Rattle.ut_sed.proofs.SpanLemmas.{parts-of_span}
use Rattle.ut_sed.proofs.command.Substitution.groups.Goals as goal

pub returns-then-not-name_groups : goal.returns-then-not-name_groups
returns-then-not-name_groups c =
    let a = c.args in
    let f : Found = record { start = a.span.start; end = a.span.end; groups = c.new.result } in
    let none = ap name_groups (sym c.as_slice.ensures.value) ∙ (sym c.name_groups.ensures ∙ c.if-not-name_groups.true) in
    parts-of_span a.text.now f (with_groups (expression a.self.now.expression) a.text.now a.span) a.self.now.parts.items refl refl none

pub returns : goal.returns
returns c =
    let a = c.args in
    ap (λ (g : List (Option Span)). let f : Found = record { start = a.span.start; end = a.span.end; groups = g } in parts_text a.text.now f a.self.now.parts.items) c.in_ok-groups.ensures.value
