use Rattle.std.proofs.Common.{List, subst, sym}
use Rattle.std.specs.Prelude.{Option, replicate, None}
use Rattle.ut_bre.specs.declared.group.Span.{Span}
use Rattle.ut_bre.specs.Expressions.{expression}
use Rattle.ut_bre.specs.Found.{pick_items}
use Rattle.ut_bre.specs.Picking.{PutsItems}
use Rattle.ut_bre.proofs.Existing.{items-picked}
use Rattle.ut_bre.proofs.Turning.{none-put}
use Rattle.ut_bre.proofs.bre.Bre.picked.Goals as goal

pub returns-then-self-eq0 : goal.returns-then-self-eq0
returns-then-self-eq0 c =
    let a = c.args in
    let e = expression a.self.now in
    let all = pick_items a.line.now e.items a.span.start a.span.end in
    let none = none-put a.line.now e.items a.span.start a.span.end e.groups all c.if-self-eq0.true (items-picked a.line.now e.items a.span.start a.span.end c.requires.within c.requires.matches) in
    subst (λ (spans : List (Option Span)). PutsItems a.line.now e.items a.span.start a.span.end (replicate e.groups None) spans) (sym c.in_ok-spans.ensures) none
