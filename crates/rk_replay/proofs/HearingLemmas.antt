-- What is told of the records that are left with a seat.
use Rattle.std.proofs.Common.{◌≡◌, ℕ, ◌≤◌, ◌<◌, List, ◌∷◌, length, take, subst, ap, ◌∙◌, arith}
use Rattle.rk_calls.specs.declared.call.Call.{Call}
use Rattle.rk_calls.specs.declared.drive.Spoke.TheVariants.{Call as Calls, Exit as Exits, Short}
use Rattle.rk_calls.specs.Heard.{Goes}
use Rattle.rk_calls.specs.Keys.{KeyValue}
use Rattle.rk_calls.specs.Saying.{goes_on, speaks}
use Rattle.rk_calls.specs.Talk.{Says}
use Rattle.tr_record.specs.declared.records.Record.{Record}
use Rattle.tr_record.specs.Rec.{rec_at}
use Rattle.tr_matching.specs.declared.group.Group.{Group}
use Rattle.tr_matching.specs.declared.next.Next.{Next}
use Rattle.tr_matching.specs.declared.next.Next.TheVariants.{Asks, Ends}
use Rattle.tr_matching.specs.Earlier.{EarlierRecords}
use Rattle.tr_matching.specs.Groups.{AreGroups, IsMember, group_at, numbers_of}
use Rattle.tr_matching.specs.Matching.{AllSay}
use Rattle.tr_matching.specs.Places.{IsNext}
use Rattle.tr_matching.proofs.EachLemmas.{each-map}
use Rattle.tr_matching.proofs.FilterLemmas.{of-first}
use Rattle.tr_matching.proofs.MemberLemmas.{each-numbers, some-numbers}
use Rattle.rk_traces.specs.Lasting.{AllLast}
use Rattle.rk_traces.specs.Spoken.{AreSpoken, follow, step_at}
use Rattle.rk_replay.specs.declared.talks.Seat.{Seat}
use Rattle.rk_replay.specs.Seats.{IsFirstSeat, IsSeat, left_with}
use Rattle.rk_replay.proofs.KeyLemmas.{IsOf, places-in}
use Rattle.rk_replay.proofs.SeatLemmas.{all-once}
use Rattle.rk_replay.proofs.SeatedLemmas.{seat-first, seat-here}
use Rattle.rk_replay.proofs.Standing.{Heard-goes, Spoken-call, Spoken-call_short, Spoken-exit, Spoken-exit_short}
use Rattle.std.specs.List.{AllByRecursion as Each}

-- a command says what its key's command says, as it is launched
pub first-says : (first : KeyValue → Says) (old : List Record) (key : KeyValue) (seat : Seat) → IsFirstSeat old key seat → follow (first (rec_at seat.rec old).key) (take seat.place.at (rec_at seat.rec old).steps) ≡ first key
first-says first old key seat f =
    let in_key : Each (IsOf old key) (seat.rec ∷ f.0) = subst (Each (IsOf old key)) f.2 (places-in old key) in
    ap (λ n. follow (first (rec_at seat.rec old).key) (take n (rec_at seat.rec old).steps)) f.1 ∙ ap first in_key.0.1

module _ (e : EarlierRecords) (groups : List Group) (seat : Seat) (all : AreGroups e groups) (s : IsSeat e groups seat) where
  pub seat-within : seat.place.at ≤ length (rec_at seat.rec e.records).steps
  seat-within =
      let c = (all seat.place.group s.at.here).common in
      subst (λ f. seat.place.at ≤ length (rec_at f e.records).steps) s.first
      (of-first (λ i. seat.place.at ≤ length (rec_at i e.records).steps) (numbers_of (group_at seat.place.group groups)) (some-numbers (group_at seat.place.group groups).members c.some)
      (each-numbers (λ i. seat.place.at ≤ length (rec_at i e.records).steps) (group_at seat.place.group groups).members
      (each-map (IsMember e (group_at seat.place.group groups).alike) (λ m. seat.place.at ≤ length (rec_at m.number e.records).steps) (λ m i. let x = i.within in let y = s.at.within in omega arith) (group_at seat.place.group groups).members c.members)))

  pub says-call : (n : Next) (call : Call) (cost : ℕ) → IsNext e.records seat.place.at (numbers_of (group_at seat.place.group groups)) n → n ≡ Asks call cost → AllSay e.records seat.place.at (Calls call cost) (left_with e.records seat.rec seat.place.at)
  says-call n call cost next is =
      all-once e.records seat.place.at (Calls call cost) (left_with e.records seat.rec seat.place.at) (numbers_of (group_at seat.place.group groups)) s.are
      (subst (IsNext e.records seat.place.at (numbers_of (group_at seat.place.group groups))) is next).0

  pub says-exit : (n : Next) (status cost : ℕ) → IsNext e.records seat.place.at (numbers_of (group_at seat.place.group groups)) n → n ≡ Ends status cost → AllSay e.records seat.place.at (Exits status cost) (left_with e.records seat.rec seat.place.at)
  says-exit n status cost next is =
      all-once e.records seat.place.at (Exits status cost) (left_with e.records seat.rec seat.place.at) (numbers_of (group_at seat.place.group groups)) s.are
      (subst (IsNext e.records seat.place.at (numbers_of (group_at seat.place.group groups))) is next).0

  pub goes-call : (x : Says) (n : Next) (call : Call) (cost : ℕ) → IsNext e.records seat.place.at (numbers_of (group_at seat.place.group groups)) n → n ≡ Asks call cost → Goes (Calls call cost) x (goes_on (step_at seat.place.at (rec_at seat.rec e.records).steps).cost x)
  goes-call x n call cost next is = Heard-goes x e.records seat.rec seat.place.at (Calls call cost) (seat-first e groups seat all s) (says-call n call cost next is)

  module _ (first : KeyValue → Says) (lasts : AllLast first) (purse : ℕ) (n : Next) (next : IsNext e.records seat.place.at (numbers_of (group_at seat.place.group groups)) n) where
    pub heard-call_short : (call : Call) (cost : ℕ) → n ≡ Asks call cost → purse < cost → AreSpoken first e.records → Short ≡ speaks purse (follow (first (rec_at seat.rec e.records).key) (take seat.place.at (rec_at seat.rec e.records).steps))
    heard-call_short call cost is lt q =
        Spoken-call_short first lasts e.records seat.rec seat.place.at (seat-here e groups seat all s) seat-within purse q (seat-first e groups seat all s) call cost (says-call n call cost next is) lt

    pub heard-call : (call : Call) (cost : ℕ) → n ≡ Asks call cost → cost ≤ purse → AreSpoken first e.records → Calls call cost ≡ speaks purse (follow (first (rec_at seat.rec e.records).key) (take seat.place.at (rec_at seat.rec e.records).steps))
    heard-call call cost is le q =
        Spoken-call first lasts e.records seat.rec seat.place.at (seat-here e groups seat all s) seat-within purse q (seat-first e groups seat all s) call cost (says-call n call cost next is) le

    pub heard-exit_short : (status cost : ℕ) → n ≡ Ends status cost → purse < cost → AreSpoken first e.records → Short ≡ speaks purse (follow (first (rec_at seat.rec e.records).key) (take seat.place.at (rec_at seat.rec e.records).steps))
    heard-exit_short status cost is lt q =
        Spoken-exit_short first lasts e.records seat.rec seat.place.at (seat-here e groups seat all s) seat-within purse q (seat-first e groups seat all s) status cost (says-exit n status cost next is) lt

    pub heard-exit : (status cost : ℕ) → n ≡ Ends status cost → cost ≤ purse → AreSpoken first e.records → Exits status cost ≡ speaks purse (follow (first (rec_at seat.rec e.records).key) (take seat.place.at (rec_at seat.rec e.records).steps))
    heard-exit status cost is le q =
        Spoken-exit first lasts e.records seat.rec seat.place.at (seat-here e groups seat all s) seat-within purse q (seat-first e groups seat all s) status cost (says-exit n status cost next is) le
