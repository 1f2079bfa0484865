use Rattle.std.proofs.Common.{◌≡◌, ℕ, IfOk, sym, subst}
use Rattle.rk_calls.specs.Talk.{after}
use Rattle.rk_top.specs.declared.command.Running.{Running}
use Rattle.rk_top.specs.declared.command.Running.TheVariants.{Complains, Shells, Builtins, Texts, Plain, Selects, Sorts, Seds, Greps, Files, Copies, Finds}
use Rattle.rk_top.specs.Running.{running_talk}
use Rattle.rk_top.proofs.command.RunningMachine.resume.Goals as goal

pub returns-in-Complains-clause-talk : goal.returns-in-Complains-clause-talk
returns-in-Complains-clause-talk c =
    let P : Running → Type 0 = λ r. IfOk c.resume.result (λ t. (p : ℕ) → running_talk r c.args.answer p ≡ after t (running_talk (Complains c.resume.new.self)) p) in
    subst P (sym c.in-Complains.is) c.resume.ensures.talk

pub returns-in-Shells-clause-talk : goal.returns-in-Shells-clause-talk
returns-in-Shells-clause-talk c =
    let P : Running → Type 0 = λ r. IfOk c.resume-in-Shells.result (λ t. (p : ℕ) → running_talk r c.args.answer p ≡ after t (running_talk (Shells c.resume-in-Shells.new.self)) p) in
    subst P (sym c.in-Shells.is) c.resume-in-Shells.ensures.talk

pub returns-in-Builtins-clause-talk : goal.returns-in-Builtins-clause-talk
returns-in-Builtins-clause-talk c =
    let P : Running → Type 0 = λ r. IfOk c.resume-in-Builtins.result (λ t. (p : ℕ) → running_talk r c.args.answer p ≡ after t (running_talk (Builtins c.resume-in-Builtins.new.self)) p) in
    subst P (sym c.in-Builtins.is) c.resume-in-Builtins.ensures.talk

pub returns-in-Texts-clause-talk : goal.returns-in-Texts-clause-talk
returns-in-Texts-clause-talk c =
    let P : Running → Type 0 = λ r. IfOk c.resume-in-Texts.result (λ t. (p : ℕ) → running_talk r c.args.answer p ≡ after t (running_talk (Texts c.resume-in-Texts.new.self)) p) in
    subst P (sym c.in-Texts.is) c.resume-in-Texts.ensures.talk

pub returns-in-Files-clause-talk : goal.returns-in-Files-clause-talk
returns-in-Files-clause-talk c =
    let P : Running → Type 0 = λ r. IfOk c.resume-in-Files.result (λ t. (p : ℕ) → running_talk r c.args.answer p ≡ after t (running_talk (Files c.resume-in-Files.new.self)) p) in
    subst P (sym c.in-Files.is) c.resume-in-Files.ensures.talk

pub returns-in-Copies-clause-talk : goal.returns-in-Copies-clause-talk
returns-in-Copies-clause-talk c =
    let P : Running → Type 0 = λ r. IfOk c.resume-in-Copies.result (λ t. (p : ℕ) → running_talk r c.args.answer p ≡ after t (running_talk (Copies c.resume-in-Copies.new.self)) p) in
    subst P (sym c.in-Copies.is) c.resume-in-Copies.ensures.talk

pub returns-in-Finds-clause-talk : goal.returns-in-Finds-clause-talk
returns-in-Finds-clause-talk c =
    let P : Running → Type 0 = λ r. IfOk c.resume-in-Finds.result (λ t. (p : ℕ) → running_talk r c.args.answer p ≡ after t (running_talk (Finds c.resume-in-Finds.new.self)) p) in
    subst P (sym c.in-Finds.is) c.resume-in-Finds.ensures.talk

pub returns-in-Plain-clause-talk : goal.returns-in-Plain-clause-talk
returns-in-Plain-clause-talk c =
    let P : Running → Type 0 = λ r. IfOk c.resume-in-Plain.result (λ t. (p : ℕ) → running_talk r c.args.answer p ≡ after t (running_talk (Plain c.resume-in-Plain.new.self)) p) in
    subst P (sym c.in-Plain.is) c.resume-in-Plain.ensures.talk

pub returns-in-Selects-clause-talk : goal.returns-in-Selects-clause-talk
returns-in-Selects-clause-talk c =
    let P : Running → Type 0 = λ r. IfOk c.resume-in-Selects.result (λ t. (p : ℕ) → running_talk r c.args.answer p ≡ after t (running_talk (Selects c.resume-in-Selects.new.self)) p) in
    subst P (sym c.in-Selects.is) c.resume-in-Selects.ensures.talk

pub returns-in-Sorts-clause-talk : goal.returns-in-Sorts-clause-talk
returns-in-Sorts-clause-talk c =
    let P : Running → Type 0 = λ r. IfOk c.resume-in-Sorts.result (λ t. (p : ℕ) → running_talk r c.args.answer p ≡ after t (running_talk (Sorts c.resume-in-Sorts.new.self)) p) in
    subst P (sym c.in-Sorts.is) c.resume-in-Sorts.ensures.talk

pub returns-in-Greps-clause-talk : goal.returns-in-Greps-clause-talk
returns-in-Greps-clause-talk c =
    let P : Running → Type 0 = λ r. IfOk c.resume-in-Greps.result (λ t. (p : ℕ) → running_talk r c.args.answer p ≡ after t (running_talk (Greps c.resume-in-Greps.new.self)) p) in
    subst P (sym c.in-Greps.is) c.resume-in-Greps.ensures.talk

pub returns-in-Seds-clause-talk : goal.returns-in-Seds-clause-talk
returns-in-Seds-clause-talk c =
    let P : Running → Type 0 = λ r. IfOk c.resume-in-Seds.result (λ t. (p : ℕ) → running_talk r c.args.answer p ≡ after t (running_talk (Seds c.resume-in-Seds.new.self)) p) in
    subst P (sym c.in-Seds.is) c.resume-in-Seds.ensures.talk
