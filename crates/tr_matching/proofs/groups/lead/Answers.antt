use Rattle.std.proofs.Common.{◌+◌, ◌<◌, length, refl, ap, arith, rules}
use Rattle.tr_matching.specs.declared.group.Group.{Group}
use Rattle.tr_matching.proofs.LeadLemmas.{lead-at, lead-here, lead-none, lead-some}
use Rattle.tr_matching.proofs.groups.lead.Goals as goal

pub returns-in_default-clause-none : goal.returns-in_default-clause-none
returns-in_default-clause-none c =
    lead-none c.args.earlier.now c.args.groups.now.items c.args.g c.args.answer.now c.in_ok-key.key c.group_of-group.result.now c.group_of-group.ensures c.requires.split c.in_ok-key.ensures c.in_default.ensures

pub overflow_add-group : goal.overflow_add-group
overflow_add-group c =
    let here : c.group_of-group.result.now.from + c.in-Some.c < length c.args.groups.now.items =
    lead-here c.args.earlier.now c.args.groups.now.items c.args.g c.args.answer.now c.in_ok-key.key c.group_of-group.result.now c.group_of-group.ensures c.requires.split c.in_ok-key.ensures c.in-Some.c c.in-Some.ensures in
    first_of (search rules, omega (arith, here, c.args.groups.now.small, c.args.groups.now.ok.0), omega (arith, here, c.len-many.ensures, c.args.groups.now.ok.0))

pub group_of-requires : goal.group_of-requires
group_of-requires c =
    lead-here c.args.earlier.now c.args.groups.now.items c.args.g c.args.answer.now c.in_ok-key.key c.group_of-group.result.now c.group_of-group.ensures c.requires.split c.in_ok-key.ensures c.in-Some.c c.in-Some.ensures

pub returns-clause-at : goal.returns-clause-at
returns-clause-at c = (
  lead-at c.args.earlier.now c.args.groups.now.items c.args.g c.args.answer.now c.in_ok-key.key c.group_of-group.result.now c.group_of-group.ensures c.requires.split c.in_ok-key.ensures c.in-Some.c c.in-Some.ensures c.args.next c.group_of.result.now.start c.requires.next
      (ap (λ (y : Group). y.start) c.group_of.ensures),
  refl,
)

pub returns-clause-some : goal.returns-clause-some
returns-clause-some c =
    lead-some c.args.earlier.now c.args.groups.now.items c.args.g c.args.answer.now c.in_ok-key.key c.group_of-group.result.now c.group_of-group.ensures c.requires.split c.in_ok-key.ensures c.in-Some.c c.in-Some.ensures
