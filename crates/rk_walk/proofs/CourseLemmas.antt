-- The steps of the walk.
use Rattle.std.proofs.Common.{◌≡◌, ◌<◌, ◌≤◌, ◌^◌, ◌-◌, ℕ, zero, suc, ◌+◌, List, [], ◌∷◌, ◌++◌, length, Bool, true, false, cond, not, ◌||◌, ◌&&◌, Option, Some, None, Ok, Err, MatchOption, lit≤, refl, sym, ap, subst, ◌∙◌, append_assoc, append-nil, arith, length-append}
use Rattle.std.specs.List.{list_all}
use Rattle.rk_base.specs.Text.{Text, is_slash}
use Rattle.rk_tree.specs.Hierarchy.{Hierarchy, top}
use Rattle.rk_base.specs.Canonical.{is_empty}
use Rattle.rk_walk.specs.Course.{is_after, IsFirst, again_by, again_sees, following, is_mark, only_slashes, step_means, step_sees, Course, course_leads, course_sees}
use Rattle.rk_walk.specs.Course.{looks_first, looks_ahead, IsCourse, Follows, IsEnd, Advances, marked}
use Rattle.rk_walk.specs.Walk.{Spot, parts, parts_from, closed, walk, at_part, leads, start, as_spot}
use Rattle.rk_walk.specs.Way.{looks, walk_sees, leads_seeing, ends_seeing}
use Rattle.rk_walk.specs.declared.seen.Seen.{Seen}
use Rattle.rk_walk.specs.declared.place.Here.{Here}
use Rattle.rk_walk.specs.declared.place.Place.{Place}
use Rattle.rk_walk.specs.declared.place.Place.TheVariants.{Found}
use Rattle.rk_walk.specs.declared.step.WalkStep.{WalkStep}
use Rattle.rk_walk.specs.declared.step.WalkStep.TheVariants.{On, Follow, Ends, Fails}
use Rattle.rk_base.specs.declared.errno.Errno.{Errno}
use Rattle.rk_base.specs.declared.errno.Errno.TheVariants.{Loops}
use Rattle.rk_walk.proofs.PartLemmas.{after-append}

following-push : (marks : List Text) (text : Text) → following (marks ++ text ∷ []) ≡ text ++ following marks
following-push [] text = sym (append-nil text)
following-push (m ∷ ms) text = ap (λ (t : Text). t ++ m) (following-push ms text) ∙ append_assoc text (following ms) m

both_left : (a b : Bool) → (a && b) ≡ true → a ≡ true
both_left true b h = refl
both_left false b h = cc

both_right : (a b : Bool) → (a && b) ≡ true → b ≡ true
both_right true b h = h
both_right false b h = cc

and_assoc : (a b c : Bool) → ((a && b) && c) ≡ (a && (b && c))
and_assoc true b c = refl
and_assoc false b c = refl

and_comm : (a b : Bool) → (a && b) ≡ (b && a)
and_comm true true = refl
and_comm true false = refl
and_comm false true = refl
and_comm false false = refl

and_true : (a : Bool) → (a && true) ≡ a
and_true true = refl
and_true false = refl

all-append : {A : Type 0} (p : A → Bool) (xs ys : List A) → list_all p (xs ++ ys) ≡ (list_all p xs && list_all p ys)
all-append p [] ys = refl
all-append p (x ∷ xs) ys = ap (λ (b : Bool). p x && b) (all-append p xs ys) ∙ sym (and_assoc (p x) _ _)

after_following : (marks : List Text) → list_all is_mark marks ≡ true → is_after (following marks) ≡ true
after_following [] h = refl
after_following (m ∷ ms) h = after-append (following ms) m (after_following ms (both_right (is_mark m) (list_all is_mark ms) h)) (both_right (not (is_empty m)) (is_after m) (both_left (is_mark m) (list_all is_mark ms) h))

empty-append : (a b : Text) → is_empty (a ++ b) ≡ (is_empty a && is_empty b)
empty-append [] b = refl
empty-append (x ∷ xs) b = refl

not_not : (a : Bool) → not a ≡ true → a ≡ false
not_not true h = cc
not_not false h = refl

and_false : (a b : Bool) → b ≡ false → (a && b) ≡ false
and_false true b h = h
and_false false b h = refl

empty_following : (marks : List Text) → list_all is_mark marks ≡ true → is_empty (following marks) ≡ is_empty marks
empty_following [] h = refl
empty_following (m ∷ ms) h = empty-append (following ms) m ∙ and_false (is_empty (following ms)) (is_empty m) (not_not (is_empty m) (both_left (not (is_empty m)) (is_after m) (both_left (is_mark m) (list_all is_mark ms) h)))

slashes_following : (marks : List Text) → only_slashes (following marks) ≡ list_all only_slashes marks
slashes_following [] = refl
slashes_following (m ∷ ms) = all-append is_slash (following ms) m ∙ ap (λ (b : Bool). b && only_slashes m) (slashes_following ms) ∙ and_comm (list_all only_slashes ms) (only_slashes m)

begun_part : (b : ℕ) (bs text : Text) → is_empty (parts_from (b ∷ bs) text) ≡ false
begun_part b bs [] = refl
begun_part b bs (t ∷ ts) = elim (is_slash t) as (λ (s : Bool). is_empty (cond s (closed (b ∷ bs) (t ∷ ts) ++ parts_from [] ts) (parts_from ((b ∷ bs) ++ t ∷ []) ts)) ≡ false) [
  | true ↦ refl
  | false ↦ begun_part b (bs ++ t ∷ []) ts
]

empty-parts : (text : Text) → is_empty (parts text) ≡ only_slashes text
unfolding parts
empty-parts [] = refl
empty-parts (t ∷ ts) = elim (is_slash t) as (λ (s : Bool). is_empty (cond s (closed [] (t ∷ ts) ++ parts_from [] ts) (parts_from (t ∷ []) ts)) ≡ (s && only_slashes ts)) [
  | true ↦ empty-parts ts
  | false ↦ begun_part t [] ts
]

-- whether a component is the last
pub is_last : (rest : Text) (marks : List Text) → is_empty (parts (rest ++ following marks)) ≡ (only_slashes rest && list_all only_slashes marks)
is_last rest marks = empty-parts (rest ++ following marks) ∙ all-append is_slash rest (following marks) ∙ ap (λ (b : Bool). only_slashes rest && b) (slashes_following marks)

not_and : (a b : Bool) → not (a && b) ≡ (not a || not b)
not_and true b = refl
not_and false b = refl

-- whether a slash stands after it
pub ends : (rest : Text) (marks : List Text) → list_all is_mark marks ≡ true → not (is_empty (rest ++ following marks)) ≡ (not (is_empty rest) || not (is_empty marks))
ends rest marks h = ap not (empty-append rest (following marks) ∙ ap (λ (b : Bool). is_empty rest && b) (empty_following marks h)) ∙ not_and (is_empty rest) (is_empty marks)

-- where only slashes are ahead, nothing is looked at
pub sees-nothing : (tree : Hierarchy) (course : Course) → ((more : Text) → parts (course.ahead ++ more) ≡ parts more) → looks_ahead tree course ≡ []
unfolding parts
sees-nothing tree course none = ap (looks_first tree course.here.node) (ap parts (sym (append-nil course.ahead)) ∙ none [])

-- nothing is ahead and no mark is left
pub arrived : (tree : Hierarchy) (follow : Bool) (course : Course) → ((more : Text) → parts (course.ahead ++ more) ≡ parts more) → course.marks ≡ [] → IsEnd tree follow course (Ok (Found course.here))
unfolding parts
arrived tree follow course none over = record {
  leads = ap (λ (ms : List Text). walk as_spot tree follow (again_by course.links tree follow) course.here (parts (course.ahead ++ following ms))) over
      ∙ ap (walk as_spot tree follow (again_by course.links tree follow) course.here) (none []);
  sees = ap (λ (ms : List Text). walk_sees tree follow (again_sees course.links tree follow) course.here (parts (course.ahead ++ following ms))) over
      ∙ ap (walk_sees tree follow (again_sees course.links tree follow) course.here) (none [])
      ∙ sym (sees-nothing tree course none);
}

-- nothing is ahead, and the last mark is next
pub popped : (tree : Hierarchy) (follow : Bool) (old new : Course) (ahead : Text) (marks : List Text) → ((more : Text) → parts (old.ahead ++ more) ≡ parts more) → new ≡ record old { ahead = ahead; marks = marks } → old.marks ≡ marks ++ ahead ∷ [] → IsCourse old → Follows tree follow old new
popped tree follow old new ahead marks none is was kept =
    subst (λ (c : Course). Follows tree follow old c) (sym is) (record {
      kept = record {
        marks_are = both_left (list_all is_mark marks) (list_all is_mark (ahead ∷ [])) (sym (all-append is_mark marks (ahead ∷ [])) ∙ ap (list_all is_mark) (sym was) ∙ kept.marks_are);
        room = omega (arith, kept.room, ap length was, length-append marks (ahead ∷ []));
      };
      falls = omega (arith, ap (λ (ms : List Text). length (following ms)) was, ap length (following-push marks ahead), length-append ahead (following marks), ap length was, length-append marks (ahead ∷ []));
      same = ap (walk as_spot tree follow (again_by old.links tree follow) old.here) (none (following old.marks) ∙ ap parts (ap following was ∙ following-push marks ahead));
      sees = ap (walk_sees tree follow (again_sees old.links tree follow) old.here) (none (following old.marks) ∙ ap parts (ap following was ∙ following-push marks ahead))
          ∙ ap (λ (s : List Seen). s ++ walk_sees tree follow (again_sees old.links tree follow) old.here (parts (ahead ++ following marks))) (sym (sees-nothing tree old none));
    })

-- what a component does there, by the step of the code
pub record IsMet (tree : Hierarchy) (follow : Bool) (course : Course) (rest : Text) (step : WalkStep) : Type 0 where
  pub leads :
      course_leads tree follow course
      ≡ step_means (again_by course.links tree follow course.here.node) (λ on. walk as_spot tree follow (again_by course.links tree follow) on (parts (rest ++ following course.marks))) (rest ++ following course.marks) step
  pub sees :
      course_sees tree follow course
      ≡ looks_ahead tree course ++ step_sees (again_sees course.links tree follow course.here.node) (λ on. walk_sees tree follow (again_sees course.links tree follow) on (parts (rest ++ following course.marks))) (rest ++ following course.marks) step

pub looks-first : (tree : Hierarchy) (at : ℕ) (ahead name rest : Text) → IsFirst ahead name rest → looks_first tree at (parts ahead) ≡ looks tree at name
looks-first tree at ahead name rest first = ap (looks_first tree at) (ap parts (sym (append-nil ahead)) ∙ first.parts_are [] refl)

-- what the component means there
pub met : (tree : Hierarchy) (follow : Bool) (course : Course) (name rest : Text) (slash last : Bool) (step : WalkStep) (at : ℕ) → at ≡ course.here.node → IsCourse course → IsFirst course.ahead name rest → slash ≡ (not (is_empty rest) || not (is_empty course.marks)) → last ≡ (only_slashes rest && list_all only_slashes course.marks)
    → ((again : Text → Text → Spot) (on : Here → Spot) (after : Text) → not (is_empty after) ≡ slash → at_part as_spot tree follow again on at (record { name = name; after = after }) last ≡ step_means again on after step)
    → ((again : Text → Text → List Seen) (on : Here → List Seen) (after : Text) → not (is_empty after) ≡ slash → at_part ends_seeing tree follow again on at (record { name = name; after = after }) last ≡ step_sees again on after step)
    → IsMet tree follow course rest step
met tree follow course name rest slash last step at is_at kept first is_slashed is_final does sees = record {
  leads = ap (walk as_spot tree follow (again_by course.links tree follow) course.here) (first.parts_are (following course.marks) (after_following course.marks kept.marks_are))
      ∙ ap (λ (b : Bool). at_part as_spot tree follow (again_by course.links tree follow course.here.node) (λ on. walk as_spot tree follow (again_by course.links tree follow) on (parts (rest ++ following course.marks))) course.here.node (record { name = name; after = rest ++ following course.marks }) b) (is_last rest course.marks ∙ sym is_final)
      ∙ ap (λ (n : ℕ). at_part as_spot tree follow (again_by course.links tree follow course.here.node) (λ on. walk as_spot tree follow (again_by course.links tree follow) on (parts (rest ++ following course.marks))) n (record { name = name; after = rest ++ following course.marks }) last) (sym is_at)
      ∙ does (again_by course.links tree follow course.here.node) (λ on. walk as_spot tree follow (again_by course.links tree follow) on (parts (rest ++ following course.marks))) (rest ++ following course.marks) (ends rest course.marks kept.marks_are ∙ sym is_slashed);
  sees = ap (walk_sees tree follow (again_sees course.links tree follow) course.here) (first.parts_are (following course.marks) (after_following course.marks kept.marks_are))
      ∙ ap (λ (b : Bool). looks tree course.here.node name ++ at_part ends_seeing tree follow (again_sees course.links tree follow course.here.node) (λ on. walk_sees tree follow (again_sees course.links tree follow) on (parts (rest ++ following course.marks))) course.here.node (record { name = name; after = rest ++ following course.marks }) b) (is_last rest course.marks ∙ sym is_final)
      ∙ ap (λ (n : ℕ). looks tree course.here.node name ++ at_part ends_seeing tree follow (again_sees course.links tree follow course.here.node) (λ on. walk_sees tree follow (again_sees course.links tree follow) on (parts (rest ++ following course.marks))) n (record { name = name; after = rest ++ following course.marks }) last) (sym is_at)
      ∙ ap (λ (s : List Seen). looks tree course.here.node name ++ s) (sees (again_sees course.links tree follow course.here.node) (λ on. walk_sees tree follow (again_sees course.links tree follow) on (parts (rest ++ following course.marks))) (rest ++ following course.marks) (ends rest course.marks kept.marks_are ∙ sym is_slashed))
      ∙ ap (λ (s : List Seen). s ++ step_sees (again_sees course.links tree follow course.here.node) (λ on. walk_sees tree follow (again_sees course.links tree follow) on (parts (rest ++ following course.marks))) (rest ++ following course.marks) step) (sym (looks-first tree course.here.node course.ahead name rest first));
}

-- the walk goes on after a component
pub went_on : (tree : Hierarchy) (follow : Bool) (old new : Course) (name rest : Text) (next : Here) → IsCourse old → IsFirst old.ahead name rest → new ≡ record old { here = next; ahead = rest }
    → IsMet tree follow old rest (On next) → Follows tree follow old new
went_on tree follow old new name rest next kept first is met =
    subst (λ (c : Course). Follows tree follow old c) (sym is) (record {
      kept = record { marks_are = kept.marks_are; room = kept.room };
      falls = omega (arith, first.shorter);
      same = met.leads;
      sees = met.sees;
    })

-- it ends at a component

pub stopped : (tree : Hierarchy) (follow : Bool) (course : Course) (rest : Text) (place : Place) → IsMet tree follow course rest (Ends place) → IsEnd tree follow course (Ok place)
stopped tree follow course rest place met = record { leads = met.leads; sees = met.sees ∙ append-nil (looks_ahead tree course) }

pub failed : (tree : Hierarchy) (follow : Bool) (course : Course) (rest : Text) (e : Errno) → IsMet tree follow course rest (Fails e) → IsEnd tree follow course (Err e)
failed tree follow course rest e met = record { leads = met.leads; sees = met.sees ∙ append-nil (looks_ahead tree course) }

leads-walk : (links : ℕ) (tree : Hierarchy) (follow : Bool) (at : ℕ) (text after : Text) → leads as_spot links tree follow at text after ≡ walk as_spot tree follow (again_by links tree follow) (start at text) (parts (text ++ after))
unfolding leads
leads-walk zero tree follow at text after = refl
leads-walk (suc links) tree follow at text after = refl

sees-walk : (links : ℕ) (tree : Hierarchy) (follow : Bool) (at : ℕ) (text after : Text) → leads_seeing links tree follow at text after ≡ walk_sees tree follow (again_sees links tree follow) (start at text) (parts (text ++ after))
unfolding leads_seeing
sees-walk zero tree follow at text after = refl
sees-walk (suc links) tree follow at text after = refl

one_less : (k : ℕ) → k ≡ suc k - 1
one_less k = omega arith

again-leads : (links : ℕ) (tree : Hierarchy) (follow : Bool) (at : ℕ) (text after : Text) → 0 < links → again_by links tree follow at text after ≡ leads as_spot (links - 1) tree follow at text after
again-leads zero tree follow at text after some = absurd (omega arith)
again-leads (suc links) tree follow at text after some = ap (λ (k : ℕ). leads as_spot k tree follow at text after) (one_less links)

again-sees : (links : ℕ) (tree : Hierarchy) (follow : Bool) (at : ℕ) (text after : Text) → 0 < links → again_sees links tree follow at text after ≡ leads_seeing (links - 1) tree follow at text after
again-sees zero tree follow at text after some = absurd (omega arith)
again-sees (suc links) tree follow at text after some = ap (λ (k : ℕ). leads_seeing k tree follow at text after) (one_less links)

following_marked : (marks : List Text) (rest : Text) → following (marked marks rest) ≡ rest ++ following marks
following_marked marks [] = refl
following_marked marks (b ∷ bs) = following-push marks (b ∷ bs)

marked_are : (marks : List Text) (rest : Text) → list_all is_mark marks ≡ true → is_after rest ≡ true → list_all is_mark (marked marks rest) ≡ true
marked_are marks [] h after = h
marked_are marks (b ∷ bs) h after = all-append is_mark marks ((b ∷ bs) ∷ []) ∙ ap (λ (x : Bool). x && (is_slash b && true)) h ∙ and_true (is_slash b) ∙ after

room_marked : (marks : List Text) (rest : Text) → length (marked marks rest) ≤ length marks + 1
room_marked marks [] = omega arith
room_marked marks (b ∷ bs) = omega (arith, length-append marks ((b ∷ bs) ∷ []))

-- a link is followed
pub followed : (tree : Hierarchy) (follow : Bool) (old new : Course) (name rest text : Text) → IsCourse old → IsFirst old.ahead name rest → 0 < old.links → length text < 2 ^ 64
    → new ≡ record { here = start old.here.node text; ahead = text; marks = marked old.marks rest; links = old.links - 1 }
    → IsMet tree follow old rest (Follow text) → Follows tree follow old new
followed tree follow old new name rest text kept first some fits is met =
    subst (λ (c : Course). Follows tree follow old c) (sym is) (record {
      kept = record {
        marks_are = marked_are old.marks rest kept.marks_are first.goes_on;
        room = omega (arith, kept.room, room_marked old.marks rest);
      };
      falls = omega (arith, first.shorter, ap length (following_marked old.marks rest), length-append rest (following old.marks), room_marked old.marks rest);
      same = met.leads ∙ again-leads old.links tree follow old.here.node text _ some ∙ leads-walk (old.links - 1) tree follow old.here.node text (rest ++ following old.marks)
          ∙ ap (λ (t : Text). walk as_spot tree follow (again_by (old.links - 1) tree follow) (start old.here.node text) (parts (text ++ t))) (sym (following_marked old.marks rest));
      sees = met.sees ∙ ap (λ (s : List Seen). looks_ahead tree old ++ s) (
          again-sees old.links tree follow old.here.node text (rest ++ following old.marks) some ∙ sees-walk (old.links - 1) tree follow old.here.node text (rest ++ following old.marks)
          ∙ ap (λ (t : Text). walk_sees tree follow (again_sees (old.links - 1) tree follow) (start old.here.node text) (parts (text ++ t))) (sym (following_marked old.marks rest)));
    })

-- no link more may be followed
pub looped : (tree : Hierarchy) (follow : Bool) (old : Course) (text rest : Text) → old.links ≡ 0 → IsMet tree follow old rest (Follow text) → IsEnd tree follow old (Err Loops)
looped tree follow old text rest none met = record {
  leads = met.leads ∙ ap (λ (k : ℕ). again_by k tree follow old.here.node text (rest ++ following old.marks)) none;
  sees = met.sees ∙ ap (λ (k : ℕ). looks_ahead tree old ++ again_sees k tree follow old.here.node text (rest ++ following old.marks)) none ∙ append-nil (looks_ahead tree old);
}

-- what a step that follows a link comes to
pub linked : (tree : Hierarchy) (follow : Bool) (old new : Course) (name rest text label : Text) (result : Option Spot) → IsCourse old → IsFirst old.ahead name rest → text ≡ label
    → MatchOption result ((0 < old.links) × (length text < 2 ^ 64) × (new ≡ record { here = start old.here.node text; ahead = text; marks = marked old.marks rest; links = old.links - 1 })) (λ spot. (old.links ≡ 0) × (spot ≡ Err Loops))
    → IsMet tree follow old rest (Follow label) → Advances tree follow old new result
linked tree follow old new name rest text label None kept first is does met =
    followed tree follow old new name rest text kept first does.0 does.1 does.2 (subst (λ (t : Text). IsMet tree follow old rest (Follow t)) (sym is) met)
linked tree follow old new name rest text label (Some spot) kept first is does met = subst (IsEnd tree follow old) (sym does.1) (looped tree follow old label rest does.0 met)

-- the walk begins
pub begun : (tree : Hierarchy) (follow : Bool) (path : Text) (course : Course) → course ≡ record { here = start top path; ahead = path; marks = []; links = 32 } → IsCourse course × (leads as_spot 32 tree follow top path [] ≡ course_leads tree follow course)
begun tree follow path course is =
    subst (λ (c : Course). IsCourse c × (leads as_spot 32 tree follow top path [] ≡ course_leads tree follow c)) (sym is) (record { marks_are = refl; room = lit≤ tt }, leads-walk 32 tree follow top path [])

-- and so what is looked at
pub begun-sees : (tree : Hierarchy) (follow : Bool) (path : Text) (course : Course) → course ≡ record { here = start top path; ahead = path; marks = []; links = 32 } → leads_seeing 32 tree follow top path [] ≡ course_sees tree follow course
begun-sees tree follow path course is = sees-walk 32 tree follow top path [] ∙ ap (course_sees tree follow) (sym is)
