-- Places of the commands under way, as more is known of the kept records.
use Rattle.std.proofs.Common.{◌≡◌, ℕ, ◌<◌, List, [], ◌∷◌, ◌++◌, length, ◌∙◌, sym, subst, ap}
use Rattle.tr_matching.specs.declared.group.Group.{Group}
use Rattle.tr_matching.specs.Earlier.{EarlierRecords}
use Rattle.tr_matching.specs.Groups.{AreGroups, Grows, first_of, group_at, numbers_of}
use Rattle.tr_matching.proofs.GroupLemmas.{first-here}
use Rattle.tr_matching.proofs.MemberLemmas.{some-numbers}
use Rattle.tr_matching.proofs.OnceLemmas.{once-first}
use Rattle.rk_traces.specs.declared.active.Frame.{Frame}
use Rattle.rk_replay.specs.declared.activity.Activity.{Activity}
use Rattle.rk_replay.specs.declared.activity.Activity.TheVariants.{Runs, Replays}
use Rattle.rk_replay.specs.declared.talks.Seat.{Seat}
use Rattle.rk_replay.specs.Activities.{IsAtRest, IsSeated, KnowsNext}
use Rattle.rk_replay.specs.Links.{AllKnow, AreSeated}
use Rattle.rk_replay.specs.Seats.{IsSeat, left_with}
use Rattle.rk_replay.proofs.SeatLemmas.{head-cons, seat-grows}
use Rattle.tr_matching.specs.Earlier.{IsRest}

-- ---- of one command

pub seat-here : (e : EarlierRecords) (groups : List Group) (seat : Seat) → AreGroups e groups → IsSeat e groups seat → seat.rec < length e.records
seat-here e groups seat all s = subst (λ i. i < length e.records) s.first (first-here e (group_at seat.place.group groups) (all seat.place.group s.at.here).common)

-- it is the first of those that are left
pub seat-first : (e : EarlierRecords) (groups : List Group) (seat : Seat) → AreGroups e groups → IsSeat e groups seat → (others : List ℕ) × (left_with e.records seat.rec seat.place.at ≡ seat.rec ∷ others)
seat-first e groups seat all s =
    let some = head-cons (numbers_of (group_at seat.place.group groups)) (some-numbers (group_at seat.place.group groups).members (all seat.place.group s.at.here).common.some) in
    let f = once-first e.records (left_with e.records seat.rec seat.place.at) (numbers_of (group_at seat.place.group groups)) (first_of (group_at seat.place.group groups)) some.0 s.are some.1 in
    (f.0, f.1 ∙ ap (λ i. i ∷ f.0) s.first)

pub seat-rest : (e : EarlierRecords) (groups : List Group) (seat : Seat) → IsSeat e groups seat → IsRest e seat.rec seat.place.at seat.place.rest
seat-rest e groups seat s = subst (λ f. IsRest e f seat.place.at seat.place.rest) s.first s.at.rest

pub knows-rest : {S : Type 0} (e : EarlierRecords) (groups : List Group) (a : Activity S) → KnowsNext e groups a → IsAtRest e a
knows-rest e groups (Runs m) k = tt
knows-rest e groups (Replays seat) k = seat-rest e groups seat k.0

pub seated-grows : {S : Type 0} (e : EarlierRecords) (before now : List Group) (a : Activity S) → Grows before now → IsSeated e before a → IsSeated e now a
seated-grows e before now (Runs m) w k = tt
seated-grows e before now (Replays seat) w s = seat-grows e before now seat w s

pub knows-grows : {S : Type 0} (e : EarlierRecords) (before now : List Group) (a : Activity S) → Grows before now → KnowsNext e before a → KnowsNext e now a
knows-grows e before now (Runs m) w k = tt
knows-grows e before now (Replays seat) w k = (seat-grows e before now seat w k.0, w.known seat.place.group k.0.at.here seat.place.at k.1)

-- ---- of those that wait

pub all-grow : {S : Type 0} (e : EarlierRecords) (before now : List Group) (fs : List (Frame (Activity S))) → Grows before now → AllKnow e before fs → AllKnow e now fs
all-grow e before now [] w all = tt
all-grow e before now (f ∷ fs) w all = (knows-grows e before now f.waiting.machine w all.0, all-grow e before now fs w all.1)

all-push : {S : Type 0} (e : EarlierRecords) (groups : List Group) (fs : List (Frame (Activity S))) (f : Frame (Activity S)) → AllKnow e groups fs → KnowsNext e groups f.waiting.machine → AllKnow e groups (fs ++ f ∷ [])
all-push e groups [] f all k = (k, tt)
all-push e groups (x ∷ fs) f all k = (all.0, all-push e groups fs f all.1 k)

all-pop : {S : Type 0} (e : EarlierRecords) (groups : List Group) (fs : List (Frame (Activity S))) (f : Frame (Activity S)) → AllKnow e groups (fs ++ f ∷ []) → KnowsNext e groups f.waiting.machine × AllKnow e groups fs
all-pop e groups [] f all = (all.0, tt)
all-pop e groups (x ∷ fs) f all = let r = all-pop e groups fs f all.1 in (r.0, (all.0, r.1))

pub seated-start : {S : Type 0} (e : EarlierRecords) (groups : List Group) (m : Activity S) (fs : List (Frame (Activity S))) → fs ≡ [] → IsSeated e groups m → AreSeated e groups m fs
seated-start e groups m fs q s = record { here = s; below = subst (AllKnow e groups) (sym q) tt }

pub seated-launch : {S : Type 0} (e : EarlierRecords) (before now : List Group) (child : Activity S) (fs fs' : List (Frame (Activity S))) (f : Frame (Activity S)) → Grows before now → AllKnow e before fs → KnowsNext e before f.waiting.machine → IsSeated e now child → fs' ≡ fs ++ f ∷ [] → AreSeated e now child fs'
seated-launch e before now child fs fs' f w all k s q = record {
  here = s;
  below = subst (AllKnow e now) (sym q) (all-push e now fs f (all-grow e before now fs w all) (knows-grows e before now f.waiting.machine w k));
}

pub knows-waiting : {S : Type 0} (e : EarlierRecords) (groups : List Group) (fs fs' : List (Frame (Activity S))) (f : Frame (Activity S)) → AllKnow e groups fs → fs ≡ fs' ++ f ∷ [] → KnowsNext e groups f.waiting.machine
knows-waiting e groups fs fs' f all q = (all-pop e groups fs' f (subst (AllKnow e groups) q all)).0

pub seated-join : {S : Type 0} (e : EarlierRecords) (before now : List Group) (m : Activity S) (fs fs' : List (Frame (Activity S))) (f : Frame (Activity S)) → Grows before now → AllKnow e before fs → fs ≡ fs' ++ f ∷ [] → IsSeated e now m → AreSeated e now m fs'
seated-join e before now m fs fs' f w all q s = record { here = s; below = all-grow e before now fs' w (all-pop e before fs' f (subst (AllKnow e before) q all)).1 }
