-- The matches of a line are taken from left to right, and none is missed.
use Rattle.std.proofs.Common.{◌≡◌, ℕ, zero, suc, ◌+◌, ◌-◌, ◌<◌, ◌≤◌, List, [], ◌∷◌, ◌++◌, take, drop, length, Bool, true, false, Option, Some, None, refl, sym, ap, ◌∙◌, arith, append_assoc, inl, inr, subst, drop-drop, take-add}
use Rattle.std.specs.Prelude.{◌==◌, ◌&&◌, not, if◌then◌else◌}
use Rattle.std.proofs.lemmas.Bool.{cases_lt, eqb-true, eqb-false, ne_eqb}
use Rattle.std.proofs.lemmas.List.{take-append-drop}
use Rattle.rk_base.specs.Text.{Text}
use Rattle.ut_bre.specs.declared.group.Found.{Found}
use Rattle.ut_bre.specs.Found.{found}
use Rattle.ut_bre.specs.Matching.{Matches}
use Rattle.ut_bre.specs.Picking.{FindsGroups}
use Rattle.ut_bre.specs.Trees.{Expression}
use Rattle.ut_bre.proofs.Existing.{found-finds}
use Rattle.ut_bre.proofs.Laws.{sound_items}
use Rattle.ut_sed.specs.declared.command.Part.{Part}
use Rattle.ut_sed.specs.Commands.{SubstitutionValue}
use Rattle.ut_sed.specs.Substituting.{piece, parts_text, not_empty_at, next_found, matches_from, all_matches, rewritten, substituted}
use Rattle.ut_sed.specs.Replacing.{MayBeTaken, IsTaken, AreTaken, first_or_all, replaced, put_in}

ordered : (e : Expression) (text : Text) (i j : ℕ) → Matches e text i j → i ≤ j
ordered e text i j m = (sound_items text e.items).ordered i j m.items

-- what is searched for behind a match: the next one that may be taken, or none
abbrev IsNext : Expression → Text → Option ℕ → Option Found → Type 0
IsNext e text before None = (i j : ℕ) → MayBeTaken before i j → Matches e text i j → ⊥
IsNext e text before (Some f) = IsTaken e text before f

-- each match that may be taken ends here at the least
abbrev least_end : Option ℕ → ℕ
least_end None = 0
least_end (Some end) = end + 1

ends_behind : (before : Option ℕ) (i j : ℕ) → MayBeTaken before i j → least_end before ≤ j
ends_behind None i j b = omega arith
ends_behind (Some end) i j (ei, ej) = omega arith

first-next : (e : Expression) (text : Text) (o : Option Found) → FindsGroups e text 0 o → IsNext e text None o
first-next e text None none = λ i j b m. none i j (omega arith) m
first-next e text (Some f) g = record { may = tt; matches = g.best.matches; best = λ i j b m. g.best.best i j (omega arith) m; groups = g.groups }

-- behind an empty match at a place no other one begins right there
behind_empty : (e : Expression) (text : Text) (at i j : ℕ) (f : Found) → FindsGroups e text at (Some f) → f.end ≡ at → at ≤ i → at < j → Matches e text i j → at + 1 ≤ i
behind_empty e text at i j f g z ai aj m =
    elim (cases_lt at i) as (λ w. at + 1 ≤ i) [
      | inl lt ↦ (let h : at + 1 ≤ i = omega arith in h)
      | inr ge ↦ elim (g.best.best i j ai m) as (λ w. at + 1 ≤ i) [
        | inl early ↦ (let b : at ≤ f.start = g.best.behind in absurd (omega arith))
        | inr (same, le) ↦ absurd (omega arith)
      ]
    ]

over_empty : (e : Expression) (text : Text) (at : ℕ) (f : Found) (o : Option Found) → FindsGroups e text at (Some f) → f.end ≡ at → FindsGroups e text (at + 1) o → IsNext e text (Some at) o
over_empty e text at f None g z none = λ i j (ai, aj) m. none i j (behind_empty e text at i j f g z ai aj m) m
over_empty e text at f (Some h) g z k =
    let b : at + 1 ≤ h.start = k.best.behind in
    let o : h.start ≤ h.end = ordered e text h.start h.end k.best.matches in
    record {
      may = ((let x : at ≤ h.start = omega arith in x), (let x : at < h.end = omega arith in x));
      matches = k.best.matches;
      best = λ i j (ai, aj) m. k.best.best i j (behind_empty e text at i j f g z ai aj m) m;
      groups = k.groups;
    }

not_empty : (e : Expression) (text : Text) (at : ℕ) (f : Found) → FindsGroups e text at (Some f) → (f.end ≡ at → ⊥) → IsTaken e text (Some at) f
not_empty e text at f g z =
    let b : at ≤ f.start = g.best.behind in
    let o : f.start ≤ f.end = ordered e text f.start f.end g.best.matches in
    record {
      may = (b, elim (cases_lt at f.end) as (λ w. at < f.end) [ inl lt ↦ lt | inr ge ↦ absurd (z (omega arith)) ]);
      matches = g.best.matches;
      best = λ i j (ai, aj) m. g.best.best i j ai m;
      groups = g.groups;
    }

next-if : (e : Expression) (text : Text) (at : ℕ) (f : Found) (b : Bool) → (f.end == at) ≡ b → FindsGroups e text at (Some f) → IsNext e text (Some at) (not_empty_at e text at (Some f))
next-if e text at f true eb g =
    subst (λ (x : Bool). IsNext e text (Some at) (if x then found e text (at + 1) else Some f)) (sym eb) (over_empty e text at f (found e text (at + 1)) g (eqb-true f.end at eb) (found-finds e text (at + 1)))
next-if e text at f false eb g =
    subst (λ (x : Bool). IsNext e text (Some at) (if x then found e text (at + 1) else Some f)) (sym eb) (not_empty e text at f g (λ z. eqb-false f.end at eb z))

next-from : (e : Expression) (text : Text) (at : ℕ) (o : Option Found) → FindsGroups e text at o → IsNext e text (Some at) (not_empty_at e text at o)
next-from e text at None none = λ i j (ai, aj) m. none i j ai m
next-from e text at (Some f) g = next-if e text at f (f.end == at) refl g

-- as many searches are made as are needed
taken : (n : ℕ) (e : Expression) (text : Text) (before : Option ℕ) (o : Option Found) → length text + 1 ≤ n + least_end before → IsNext e text before o → AreTaken e text before (matches_from n e text o)
taken zero e text before o h next = λ i j b m. (let l : least_end before ≤ j = ends_behind before i j b in let w : j ≤ length text = m.within in absurd (omega arith))
taken (suc n) e text before None h next = next
taken (suc n) e text before (Some f) h next =
    let l : least_end before ≤ f.end = ends_behind before f.start f.end next.may in
    let k : length text + 1 ≤ n + (f.end + 1) = omega arith in
    (next, taken n e text (Some f.end) (next_found e text f.end) k (next-from e text f.end (found e text f.end) (found-finds e text f.end)))

pub each-match-is-taken : (e : Expression) (text : Text) → AreTaken e text None (all_matches e text)
each-match-is-taken e text =
    let h : length text + 1 ≤ (length text + 1) + 0 = omega arith in
    taken (length text + 1) e text None (found e text 0) h (first-next e text (found e text 0) (found-finds e text 0))

-- They are replaced one by one.

-- the first of these begins at a place or behind it
abbrev Begin : ℕ → List Found → Type 0
Begin at [] = Unit {0}
Begin at (f ∷ fs) = at ≤ f.start

-- matches in their order, from a place on
abbrev Ordered : ℕ → List Found → Type 0
Ordered at [] = Unit {0}
Ordered at (f ∷ fs) = (at ≤ f.start) × (f.start ≤ f.end) × Ordered f.end fs

starts_behind : (before at i j : ℕ) → at ≤ before → MayBeTaken (Some before) i j → at ≤ i
starts_behind before at i j h (ei, ej) = omega arith

taken-ordered : (e : Expression) (text : Text) (at : ℕ) (fs : List Found) → AreTaken e text (Some at) fs → Ordered at fs
taken-ordered e text at [] none = tt
taken-ordered e text at (f ∷ fs) (t, more) = (starts_behind at at f.start f.end (omega arith) t.may, ordered e text f.start f.end t.matches, taken-ordered e text f.end fs more)

first-ordered : (e : Expression) (text : Text) (fs : List Found) → AreTaken e text None fs → Ordered 0 fs
first-ordered e text [] none = tt
first-ordered e text (f ∷ fs) (t, more) = ((let h : 0 ≤ f.start = omega arith in h), ordered e text f.start f.end t.matches, taken-ordered e text f.end fs more)

first-begin : (global : Bool) (at : ℕ) (fs : List Found) → Ordered at fs → Begin at (first_or_all global fs)
first-begin true at [] o = tt
first-begin true at (f ∷ fs) o = o.0
first-begin false at [] o = tt
first-begin false at (f ∷ fs) o = o.0

begin-later : (at to : ℕ) (fs : List Found) → at ≤ to → Begin to fs → Begin at fs
begin-later at to [] h b = tt
begin-later at to (f ∷ fs) h b = (let g : at ≤ f.start = omega arith in g)

replaced-begin : (global : Bool) (passed at : ℕ) (fs : List Found) → Ordered at fs → Begin at (replaced global passed fs)
replaced-begin global zero at fs o = first-begin global at fs o
replaced-begin global (suc passed) at [] o = tt
replaced-begin global (suc passed) at (f ∷ fs) (a, b, o) = begin-later at f.end (replaced global passed fs) (let g : at ≤ f.end = omega arith in g) (replaced-begin global passed f.end fs o)

-- pieces that stand beside each other
piece-join : (text : Text) (a b c : ℕ) → a ≤ b → b ≤ c → piece text a b ++ piece text b c ≡ piece text a c
piece-join text a b c ab bc =
    let n : (b - a) + (c - b) ≡ c - a = omega arith in
    let m : a + (b - a) ≡ b = omega arith in
    let d : drop (b - a) (drop a text) ≡ drop b text = drop-drop (b - a) a text ∙ ap (λ k. drop k text) m in
    sym (ap (λ k. take k (drop a text)) (sym n) ∙ (take-add (b - a) (c - b) (drop a text) ∙ ap (λ z. take (b - a) (drop a text) ++ take (c - b) z) d))

piece-rest : (text : Text) (a b : ℕ) → a ≤ b → piece text a b ++ drop b text ≡ drop a text
piece-rest text a b ab =
    let m : a + (b - a) ≡ b = omega arith in
    let d : drop (b - a) (drop a text) ≡ drop b text = drop-drop (b - a) a text ∙ ap (λ k. drop k text) m in
    ap (λ z. take (b - a) (drop a text) ++ z) (sym d) ∙ take-append-drop (b - a) (drop a text)

put_in-from : (text : Text) (parts : List Part) (at to : ℕ) (fs : List Found) → at ≤ to → Begin to fs → piece text at to ++ put_in text parts to fs ≡ put_in text parts at fs
put_in-from text parts at to [] h b = piece-rest text at to h
put_in-from text parts at to (f ∷ fs) h b =
    let rest = parts_text text f parts ++ put_in text parts f.end fs in
    sym (append_assoc (piece text at to) (piece text to f.start) rest) ∙ ap (λ z. z ++ rest) (piece-join text at to f.start h b)

-- none is passed over any more
put_all : (s : SubstitutionValue) (text : Text) (at : ℕ) (fs : List Found) → s.global ≡ true → rewritten s text at 0 fs ≡ put_in text s.parts at fs
put_all s text at [] g = refl
put_all s text at (f ∷ fs) g =
    let here = piece text at f.start ++ parts_text text f s.parts in
    ap (λ (b : Bool). here ++ (if not b then drop f.end text else rewritten s text f.end 0 fs)) g
    ∙ (ap (λ z. here ++ z) (put_all s text f.end fs g) ∙ append_assoc (piece text at f.start) (parts_text text f s.parts) (put_in text s.parts f.end fs))

put_one : (s : SubstitutionValue) (text : Text) (at : ℕ) (fs : List Found) → s.global ≡ false → rewritten s text at 0 fs ≡ put_in text s.parts at (first_or_all false fs)
put_one s text at [] g = refl
put_one s text at (f ∷ fs) g =
    let here = piece text at f.start ++ parts_text text f s.parts in
    ap (λ (b : Bool). here ++ (if not b then drop f.end text else rewritten s text f.end 0 fs)) g
    ∙ append_assoc (piece text at f.start) (parts_text text f s.parts) (drop f.end text)

put_first : (s : SubstitutionValue) (text : Text) (at : ℕ) (fs : List Found) (global : Bool) → s.global ≡ global → rewritten s text at 0 fs ≡ put_in text s.parts at (first_or_all global fs)
put_first s text at fs true g = put_all s text at fs g
put_first s text at fs false g = put_one s text at fs g

passed_over : (s : SubstitutionValue) (text : Text) (passed at : ℕ) (f : Found) (fs : List Found) → rewritten s text at (suc passed) (f ∷ fs) ≡ piece text at f.end ++ rewritten s text f.end (suc passed - 1) fs
passed_over s text passed at f fs =
    let more : (suc passed ≡ 0 → ⊥) = λ e. omega arith in
    let e : (suc passed == 0) ≡ false = ne_eqb (suc passed) 0 more in
    ap (λ (b : Bool). (if b then piece text at f.start ++ parts_text text f s.parts else piece text at f.end) ++ (if b && not s.global then drop f.end text else rewritten s text f.end (suc passed - 1) fs)) e

put_replaced : (s : SubstitutionValue) (text : Text) (passed at : ℕ) (fs : List Found) → Ordered at fs → rewritten s text at passed fs ≡ put_in text s.parts at (replaced s.global passed fs)
put_replaced s text zero at fs o = put_first s text at fs s.global refl
put_replaced s text (suc passed) at [] o = refl
put_replaced s text (suc passed) at (f ∷ fs) (a, b, o) =
    let less : suc passed - 1 ≡ passed = omega arith in
    let on : rewritten s text f.end (suc passed - 1) fs ≡ put_in text s.parts f.end (replaced s.global passed fs) = ap (λ n. rewritten s text f.end n fs) less ∙ put_replaced s text passed f.end fs o in
    passed_over s text passed at f fs ∙ (ap (λ z. piece text at f.end ++ z) on
    ∙ put_in-from text s.parts at f.end (replaced s.global passed fs) (let h : at ≤ f.end = omega arith in h) (replaced-begin s.global passed f.end fs o))

pub each-is-replaced : (s : SubstitutionValue) (text : Text) → substituted s text ≡ put_in text s.parts 0 (replaced s.global (s.first - 1) (all_matches s.expression text))
each-is-replaced s text =
    put_replaced s text (s.first - 1) 0 (all_matches s.expression text) (first-ordered s.expression text (all_matches s.expression text) (each-match-is-taken s.expression text))
