use Rattle.std.proofs.Common.{◌≡◌, ◌<◌, ◌+◌, List, Some, None, sym, ap, subst, ◌∙◌, arith, ◌≤◌, ◌*◌, ◌-◌, length}
use Rattle.std.specs.List.{slice_get}
use Rattle.sh_ast.specs.declared.command.Connector.{Connector}
use Rattle.sh_ast.specs.declared.command.Connectors.{Connectors}
use Rattle.sh_means.specs.declared.control.Continuation.TheVariants as continuation
use Rattle.sh_compound.specs.Leaving.{linked}
use Rattle.sh_means.specs.Stack.{commands_from, context, continued}
use Rattle.sh_means.specs.Views.{shell_of}
use Rattle.sh_means.proofs.Bounds.{item_small, found_behind}
use Rattle.sh_compound.proofs.Branching.{links_so, links_over}
use Rattle.sh_means.proofs.Weighing.{connector_less}
use Rattle.sh_compound.proofs.leaving.links.Goals as goal

pub link-requires : goal.link-requires
link-requires c =
    let small : c.args.left.at < 9223372036854775808 = item_small c.deref.result.now.items c.args.left.at c.in-Some.connector.now (subst (λ (os : List Connector). Some c.in-Some.connector.now ≡ slice_get os c.args.left.at) c.as_slice.ensures.value c.in-Some.ensures.item) in
    let next : c.in-Some.next ≡ c.args.left.at + 1 = found_behind _ _ _ c.in-Some.ensures.next in
    omega arith

pub returns-in_ok-put_continuation-in-Some-clause-talk : goal.returns-in_ok-put_continuation-in-Some-clause-talk
returns-in_ok-put_continuation-in-Some-clause-talk c =
    let k = context c.args.shell.now.stack.items in
    let k' = context c.put_continuation.new.stack.items in
    let e = shell_of c.args.shell.now.state in
    let next : c.in-Some.next ≡ c.args.left.at + 1 = found_behind _ _ _ c.in-Some.ensures.next in
    λ p. links_so c.args.left.pipelines c.in_ok-rest.rest c.args.left.connectors c.in_ok-later.later c.in-Some.connector.now c.args.left.at c.takes-taken.result c.args.place k k' e p (subst (λ (os : List Connector). Some c.in-Some.connector.now ≡ slice_get os c.args.left.at) (c.as_slice.ensures.value ∙ ap (λ (o : Connectors). o.items.items) c.deref.ensures) c.in-Some.ensures.item) c.takes-taken.ensures c.in_ok-rest.ensures.cases c.in_ok-later.ensures.cases
    (c.in_ok-put_continuation-in-Some.ensures.talk ∙ ap (λ n. continued (continuation.Links c.args.place (record { pipelines = c.in_ok-rest.rest; at = n; connectors = c.in_ok-later.later })) k) next)
    ∙ ap (λ n. linked c.takes-taken.result (commands_from c.args.left.pipelines.value n) c.args.place k' e p) (sym next)
    ∙ c.link.ensures.talk k' e p

pub returns-in-None-clause-talk : goal.returns-in-None-clause-talk
returns-in-None-clause-talk c =
    λ p. links_over c.args.left.pipelines.value c.args.left.connectors.value.items.items c.args.left.at c.args.place (context c.args.shell.now.stack.items) (shell_of c.args.shell.now.state) p (subst (λ (os : List Connector). None ≡ slice_get os c.args.left.at) (c.as_slice.ensures.value ∙ ap (λ (o : Connectors). o.items.items) c.deref.ensures) c.in-None.ensures.item)

pub returns-in_ok-put_continuation-in-Some-clause-weight : goal.returns-in_ok-put_continuation-in-Some-clause-weight
returns-in_ok-put_continuation-in-Some-clause-weight c =
    let less : 2 * (length c.in_ok-later.later.value.items.items - c.in-Some.next) + 2 ≤ 2 * (length c.args.left.connectors.value.items.items - c.args.left.at) = connector_less c.args.left.connectors.value c.in_ok-later.later.value c.in-Some.connector.now c.args.left.at c.in-Some.next c.in_ok-later.ensures.cases (found_behind _ _ _ c.in-Some.ensures.next) (subst (λ (os : List Connector). Some c.in-Some.connector.now ≡ slice_get os c.args.left.at) (c.as_slice.ensures.value ∙ ap (λ (o : Connectors). o.items.items) c.deref.ensures) c.in-Some.ensures.item) in
    omega (arith, c.in_ok-put_continuation-in-Some.ensures.weight, c.link.ensures.weight)
