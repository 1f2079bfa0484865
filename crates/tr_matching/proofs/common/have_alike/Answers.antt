use Rattle.std.proofs.Common.{◌≡◌, ◌∙◌, refl, ap, subst}
use Rattle.std.specs.List.{AllByRecursion as Each}
use Rattle.tr_record.specs.Rec.{rec_at}
use Rattle.tr_record.specs.declared.steps.Step.{Step}
use Rattle.tr_matching.specs.declared.member.Member.{Member}
use Rattle.tr_matching.specs.Groups.{HasStep, numbers_in}
use Rattle.tr_matching.specs.Matching.{head_of}
use Rattle.tr_matching.specs.Steps.{step_at}
use Rattle.tr_matching.proofs.EachLemmas.{each-full}
use Rattle.tr_matching.proofs.MemberLemmas.{each-numbers, first-number}
use Rattle.tr_matching.proofs.common.have_alike.Goals as goal

pub returns : goal.returns
returns c =
    let e : c.in-Some.step.now ≡ step_at c.args.at (rec_at (head_of (numbers_in c.args.members.now)) c.args.earlier.now.records).steps =
    c.in-Some.ensures.step ∙ ap (λ i. step_at c.args.at (rec_at i c.args.earlier.now.records).steps) (first-number c.args.members.now _ c.requires.some) in (
      refl,
      subst (λ (s : Step). Each (HasStep c.args.earlier.now.records c.args.at s) (numbers_in c.args.members.now)) e
          (each-numbers (HasStep c.args.earlier.now.records c.args.at c.in-Some.step.now) c.args.members.now
          (each-full (λ (m : Member). HasStep c.args.earlier.now.records c.args.at c.in-Some.step.now m.number) c.args.members.now c.members.k c.members-test.false c.members.invariant)),
    )
