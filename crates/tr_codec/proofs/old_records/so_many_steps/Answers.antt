use Rattle.std.proofs.Common.{◌≡◌, ◌∙◌, ◌-◌, ◌+◌, ◌++◌, ◌∷◌, List, [], Option, ℕ, map, refl, sym, ap, subst}
use Rattle.std.specs.Prelude.{fold}
use Rattle.std.proofs.lemmas.List.{map-append}
use Rattle.std.proofs.lemmas.Result.{err_from_is_err_and}
use Rattle.std.specs.List.{AllByRecursion}
use Rattle.tr_record.specs.declared.steps.Step.{Step}
use Rattle.tr_codec.specs.OldReading.{step_at}
use Rattle.tr_codec.specs.OldRows.{IsTold, step_in}
use Rattle.tr_codec.specs.Reading.{many_at}
use Rattle.tr_codec.specs.Used.{step_used}
use Rattle.tr_parts.proofs.LoopLemmas.{starts, goes_on, ends, is_done}
use Rattle.tr_codec.proofs.OldRowLemmas.{all_push}
use Rattle.tr_codec.proofs.UsedLemmas.{more_used}
use Rattle.tr_codec.proofs.old_records.so_many_steps.Goals as goal

pub steps-init : goal.steps-init
steps-init c = record {
  read = rw c.new-steps.ensures.items (starts (λ (before : List Step). step_at c.args.blobs.now) c.args.count c.args.bytes.now);
  told = rw c.new-steps.ensures.items tt;
  used = rw c.new-steps.ensures.items refl;
}

pub returns-in_err-step-clause-gives : goal.returns-in_err-step-clause-gives
returns-in_err-step-clause-gives c =
    let one : List Step → List ℕ → Option (Step × List ℕ) = λ before. step_at c.args.blobs.now in
    let p = err_from_is_err_and c.from_residual.result c.from_residual.ensures.1 in
    rw (p.1, p.2) (ends one c.in_err-step.field-0.0 (map step_in c.steps.steps.items) c.args.count c.steps.counter c.steps.rest.now (many_at one c.args.count [] c.args.bytes.now) c.steps-test.true c.in_err-step.ensures.gives c.steps.invariant.read)

pub steps-preserved : goal.steps-preserved
steps-preserved c =
    let one : List Step → List ℕ → Option (Step × List ℕ) = λ before. step_at c.args.blobs.now in
    let items = c.steps.steps.items in
    let step = c.in_ok-step.step in
    let new : Step × Option ℕ = (step, c.in_ok-step.number) in
    let grown : c.push.new.self.items ≡ items ++ new ∷ [] = c.in_ok-push.ensures.items in
    let front : map step_in items ++ step ∷ [] ≡ map step_in c.push.new.self.items = sym (map-append step_in items (new ∷ [])) ∙ sym (ap (map step_in) grown) in
    record {
      read =
          subst (λ (l : List Step). many_at one (c.args.count - (c.steps.counter + 1)) l c.in_ok-step.after.now ≡ many_at one c.args.count [] c.args.bytes.now) front
          (goes_on one (map step_in items) c.args.count c.steps.counter c.steps.rest.now step c.in_ok-step.after.now (many_at one c.args.count [] c.args.bytes.now) c.steps-test.true c.in_ok-step.ensures.gives c.steps.invariant.read);
      told = subst (AllByRecursion (IsTold c.args.blobs.now)) (sym grown) (all_push (IsTold c.args.blobs.now) items new c.steps.invariant.told c.in_ok-step.ensures.told);
      used =
          more_used (step_used c.args.blobs.now) c.args.used.now c.steps.used c.old_step_of.new.used (map step_in items) step c.steps.invariant.used c.in_ok-step.ensures.used
          ∙ ap (fold (step_used c.args.blobs.now) c.args.used.now) front;
    }

pub returns-clause-gives : goal.returns-clause-gives
returns-clause-gives c =
    let one : List Step → List ℕ → Option (Step × List ℕ) = λ before. step_at c.args.blobs.now in
    is_done one (map step_in c.steps.steps.items) c.args.count c.steps.counter c.steps.rest.now (many_at one c.args.count [] c.args.bytes.now) c.steps-test.false c.steps.invariant.read
