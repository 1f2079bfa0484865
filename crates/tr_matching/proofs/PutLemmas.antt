-- The next of the records is put to those that were answered alike.
use Rattle.std.proofs.Common.{◌≡◌, ◌∙◌, ℕ, ◌+◌, ◌<◌, cond, List, [], ◌∷◌, ◌++◌, length, get_or, take, Some, None, Result, Ok, Err, OnOk, refl, ap, arith}
use Rattle.std.specs.Prelude.{slice_set}
use Rattle.std.specs.List.{AllByRecursion as Each}
use Rattle.std.proofs.lemmas.List.{get_or_default}
use Rattle.rk_calls.specs.declared.answer.Answer.{Answer}
use Rattle.tr_record.specs.Rec.{rec_at}
use Rattle.tr_record.specs.declared.steps.Step.{Step}
use Rattle.tr_matching.specs.declared.member.Member.{Member}
use Rattle.tr_matching.specs.declared.parting.Parting.{Parting}
use Rattle.tr_matching.specs.Answers.{same_answer}
use Rattle.tr_matching.specs.Earlier.{EarlierRecords, IsRest}
use Rattle.tr_matching.specs.Groups.{GoesOn, IsMember, alone, group_at, with_member}
use Rattle.tr_matching.specs.Index.{part_of}
use Rattle.tr_matching.specs.Parting.{AreParts}
use Rattle.tr_matching.specs.Steps.{answer_at, step_at}
use Rattle.tr_matching.proofs.EachLemmas.{each-at}
use Rattle.tr_matching.proofs.PartingLemmas.{put-more, put-new}

module _ (e : EarlierRecords) (at : ℕ) (ms : List Member) (k : ℕ) (d : Member) (was now : Parting) (p : AreParts e at (take k ms) was) (lt : k < length ms) (all : Each (GoesOn e at) ms) (st : Step) (is : st ≡ step_at at (rec_at (get_or ms k d).number e.records).steps) (rest : ℕ) (r : IsRest e (get_or ms k d).number (at + 1) rest) (key : Answer) (q : key ≡ st.answer) where
  on : GoesOn e at (get_or ms k d)
  on = each-at (GoesOn e at) ms k d all lt

  goes : IsMember e (at + 1) (record { number = (get_or ms k d).number; rest = rest })
  goes = record { here = on.0.here; within = (let l = on.1 in omega arith); rest = r }

  answered : key ≡ answer_at e.records at (get_or ms k d).number
  answered = q ∙ ap (λ (s : Step). s.answer) is

  pub put-some : {T E : Type 0} (x : Result T E) (c : ℕ) → part_of was.index key ≡ Some c → now.index ≡ was.index
      → OnOk x (now.groups.items ≡ slice_set was.groups.items c (with_member (group_at c was.groups.items) (record { number = (get_or ms k d).number; rest = rest })))
      → OnOk x (AreParts e at (take (k + 1) ms) now)
  put-some (Ok x) c found index groups =
      put-more e at ms k was now p (get_or ms k d) (record { number = (get_or ms k d).number; rest = rest }) lt (get_or_default ms k d (get_or ms k d) lt) on refl goes key answered c found index groups
  put-some (Err x) c found index groups = tt

  pub put-none : {T E : Type 0} (x : Result T E) → part_of was.index key ≡ None
      → OnOk x ((a : Answer) → part_of now.index a ≡ cond (same_answer key a) (Some (length was.groups.items)) (part_of was.index a))
      → OnOk x (now.groups.items ≡ was.groups.items ++ alone (at + 1) (record { number = (get_or ms k d).number; rest = rest }) ∷ [])
      → OnOk x (AreParts e at (take (k + 1) ms) now)
  put-none (Ok x) none new groups =
      put-new e at ms k was now p (get_or ms k d) (record { number = (get_or ms k d).number; rest = rest }) lt (get_or_default ms k d (get_or ms k d) lt) on refl goes key answered new none groups
  put-none (Err x) none new groups = tt
