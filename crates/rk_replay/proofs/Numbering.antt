-- Contents that are compared by their numbers.
use Rattle.std.proofs.Common.{◌≡◌, ◌∙◌, ◌+◌, ◌<◌, ◌≤◌, ℕ, zero, suc, List, [], ◌∷◌, Bool, Option, Some, None, drop, length, sym, ap, subst, arith}
use Rattle.std.specs.Prelude.{slice_get, IfSome, IsTrue, ◌↔◌}
use Rattle.std.proofs.lemmas.List.{drop_more}
use Rattle.rk_base.specs.Text.{Text}
use Rattle.rk_calls.specs.declared.answer.Answer.{Answer}
use Rattle.rk_calls.specs.declared.answer.Answer.TheVariants as answer
use Rattle.rk_content.specs.Contents.{AreKnown, IsContent, Keeps}
use Rattle.tr_nodes.proofs.GetLemmas.{get_some}
use Rattle.tr_record.specs.Contents.{AreContents, Recorded}
use Rattle.tr_record.specs.Pool.{steps_under, content_by, content_of, AreSteps}
use Rattle.tr_record.specs.Rec.{rec_at}
use Rattle.tr_record.specs.declared.records.Record.{Record}
use Rattle.tr_record.specs.declared.steps.Step.{Step}
use Rattle.rk_traces.specs.Spoken.{no_step, step_at}
use Rattle.tr_matching.specs.Earlier.{IsRest}

content_there : (o : Option (Option ℕ)) (n : ℕ) → content_by o ≡ Some n → o ≡ Some (Some n)
content_there None n e = cc
content_there (Some content) n e = ap (λ (c : Option ℕ). Some c) e

-- a node's number of a content is that of its answer
answer_at : (it : Recorded) (old : List Record) (node n : ℕ) (step : Step) (rest : List Step) → AreContents it old → AreSteps it.nodes → node ≤ length it.nodes → steps_under it.nodes node ≡ step ∷ rest → content_of it.contents node ≡ Some n → IsContent it.texts n step.answer
answer_at it old zero n step rest are behind le e number = absurd (let f : [] ≡ step ∷ rest = e in cc)
answer_at it old (suc k) n step rest are behind le e number =
    let some = get_some it.nodes k (omega arith) in
    let both : step ∷ rest ≡ some.0.step ∷ steps_under it.nodes some.0.next = sym e ∙ behind k some.0 some.1 in
    let is : some.0.step ≡ step = cc in
    subst (λ (s : Step). IsContent it.texts n s.answer) is (are.numbers k n some.0 (content_there (slice_get it.contents k) n number) some.1)

one_text : (a b : Text) → answer.Content a ≡ answer.Content b → a ≡ b
one_text a b e = cc

-- two contents are one exactly where their numbers say so
pub alike : (contents now : List Text) (it : Recorded) (node n id seen : ℕ) (text : Text) (b : Bool) → content_of it.contents node ≡ Some n → AreSteps it.nodes → slice_get it.texts n ≡ Some text → slice_get now id ≡ Some text → Keeps contents now
    → ((t o : Text) → slice_get now id ≡ Some t → slice_get now seen ≡ Some o → IsTrue b ↔ (t ≡ o))
    → (old : List Record) (rec at : ℕ) (a : Answer) → AreContents it old → at < length (rec_at rec old).steps → IsRest (record { records = old; contents = it }) rec at node → IsContent contents seen a → IsTrue b ↔ ((step_at at (rec_at rec old).steps).answer ≡ a)
alike contents now it node n id seen text b number behind is here kept same old rec at a are in_rec left saw =
    let steps = (rec_at rec old).steps in
    let r = answer_at it old node n (step_at at steps) (drop (at + 1) steps) are behind left.within (left.rest ∙ drop_more steps at no_step in_rec) number in
    let e : r.0 ≡ text = let both : Some r.0 ≡ Some text = sym r.2 ∙ is in cc in
    let by = same text saw.0 here (kept seen saw.0 saw.2) in (
      λ t. r.1 ∙ ap (λ (x : Text). answer.Content x) (e ∙ by.0 t) ∙ sym saw.1,
      λ q. by.1 (one_text text saw.0 (ap (λ (x : Text). answer.Content x) (sym e) ∙ sym r.1 ∙ q ∙ saw.1)),
    )

-- nothing is known yet
pub nothing_known : (contents texts : List Text) → AreKnown contents [] texts
nothing_known contents texts n m at = cc

-- what is known stays so as more contents have numbers
pub still_known : (contents now : List Text) (known : List (Option ℕ)) (texts : List Text) → AreKnown contents known texts → Keeps contents now → AreKnown now known texts
still_known contents now known texts are kept n m at = let k = are n m at in (k.0, kept m k.0 k.1, k.2)

pub known_text : (contents : List Text) (known : List (Option ℕ)) (texts : List Text) (n m : ℕ) (text : Text) → AreKnown contents known texts → slice_get known n ≡ Some (Some m) → slice_get texts n ≡ Some text → slice_get contents m ≡ Some text
known_text contents known texts n m text are at is = let k = are n m at in k.1 ∙ sym k.2 ∙ is

-- what is told of a step is told of the command that waits for it
pub alike_waits : (contents : List Text) (it : Recorded) (rec at node id : ℕ) (o : Option Bool)
    → IfSome o (λ b. (old : List Record) (rec at : ℕ) (a : Answer) → AreContents it old → at < length (rec_at rec old).steps → IsRest (record { records = old; contents = it }) rec at node → IsContent contents id a → IsTrue b ↔ ((step_at at (rec_at rec old).steps).answer ≡ a))
    → IfSome o (λ b. (old : List Record) (a : Answer) → AreContents it old → (rec < length old) × (at < length (rec_at rec old).steps) → IsRest (record { records = old; contents = it }) rec at node → IsContent contents id a → IsTrue b ↔ ((step_at at (rec_at rec old).steps).answer ≡ a))
alike_waits contents it rec at node id None h = tt
alike_waits contents it rec at node id (Some b) h = λ old a are waits left saw. h old rec at a are waits.1 left saw
