use Rattle.std.proofs.Common.{◌∙◌, ap, arith, below_more, rules, sym}
use Rattle.std.proofs.lemmas.Grind.{common_steps}
use Rattle.tr_record.specs.declared.steps.Step.{Step}
use Rattle.rk_traces.specs.Differences.{AnswerAlike, IsFirstDifference}
use Rattle.rk_traces.specs.CheckLaws.{spoken-differ, spoken-alike}
use Rattle.rk_traces.specs.Walking.{left-next, left-none}
use Rattle.rk_traces.proofs.difference.first_difference.Goals as goal

pub returns-in_default-step-clause-none : goal.returns-in_default-step-clause-none
returns-in_default-step-clause-none c =
    let over = left-none c.args.b.now.steps c.steps.i (sym c.steps.invariant.ys ∙ c.in_default-step.ensures.none) in
    λ i both. c.steps.invariant.alike i (let lt = both.1 in omega arith)

pub returns-in_default-step-clause-spoken : goal.returns-in_default-step-clause-spoken
returns-in_default-step-clause-spoken c first lasts sa sb ek =
    spoken-alike first lasts _ _ sa sb ek (returns-in_default-step-clause-none c)

pub returns-in_default-clause-spoken : goal.returns-in_default-clause-spoken
returns-in_default-clause-spoken c first lasts sa sb ek =
    let over = left-none c.args.a.now.steps c.steps.i (sym c.steps.invariant.xs ∙ c.in_default.ensures.none) in
    let alike : AnswerAlike c.args.a.now.steps c.args.b.now.steps = λ i both. c.steps.invariant.alike i (let lt = both.0 in omega arith) in
    spoken-alike first lasts _ _ sa sb ek alike

pub returns-then-not-same_answer-clause-spoken : goal.returns-then-not-same_answer-clause-spoken
returns-then-not-same_answer-clause-spoken c =
    let xs = left-next c.args.a.now.steps c.steps.i c.in-Some.x.now c.in-Some.more (sym c.steps.invariant.xs ∙ c.in-Some.ensures.some) in
    let ys = left-next c.args.b.now.steps c.steps.i c.in-Some-step.y.now c.in-Some-step.others (sym c.steps.invariant.ys ∙ c.in-Some-step.ensures.some) in
    let found : IsFirstDifference c.args.a.now.steps c.args.b.now.steps c.steps.i =
    record { here = (xs.here, ys.here); differ = rw (sym xs.is, sym ys.is) (search rules); before = c.steps.invariant.alike }
    in
    λ first lasts sa sb ek. spoken-differ first lasts c.args.a.now c.args.b.now sa sb ek c.steps.i found

pub steps-preserved : goal.steps-preserved
steps-preserved c =
    let xs = left-next c.args.a.now.steps c.steps.i c.in-Some.x.now c.in-Some.more (sym c.steps.invariant.xs ∙ c.in-Some.ensures.some) in
    let ys = left-next c.args.b.now.steps c.steps.i c.in-Some-step.y.now c.in-Some-step.others (sym c.steps.invariant.ys ∙ c.in-Some-step.ensures.some) in
    record {
      alike =
          below_more _ _ c.steps.invariant.alike
          (ap (λ (s : Step). s.answer) (sym xs.is) ∙ c.same_answer.ensures.0 (search rules) ∙ ap (λ (s : Step). s.answer) ys.is);
      xs = xs.rest_is;
      ys = ys.rest_is;
    }

pub returns-clause-spoken : goal.returns-clause-spoken
returns-clause-spoken c first lasts sa sb ek =
    spoken-alike first lasts _ _ sa sb ek (λ i both. c.steps.invariant.alike i (grind (arith, common_steps, both.0)))
