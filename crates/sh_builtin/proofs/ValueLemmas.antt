-- The variables of `read` have their values by the fields of its line.
use Rattle.std.proofs.Common.{◌≡◌, ◌≢◌, ℕ, zero, suc, ◌-◌, ◌≤◌, ◌<◌, List, [], ◌∷◌, ◌++◌, length, take, drop, reverse, Bool, true, false, not, ◌&&◌, if◌then◌else◌, refl, sym, ap, ◌∙◌, subst, append_assoc, length-append, arith, inl, inr}
use Rattle.std.specs.Prelude.{◌⊎◌}
use Rattle.std.specs.List.{take_while}
use Rattle.std.proofs.Math.Seq.{take-append_seam, drop-append_seam}
use Rattle.std.proofs.lemmas.List.{reverse-append, reverse-reverse, length-reverse}
use Rattle.std.proofs.lemmas.List.Sums.{take_while-cons}
use Rattle.rk_base.specs.Text.{Text}
use Rattle.rk_base.specs.Canonical.{is_empty}
use Rattle.sh_split.specs.declared.mark.MarkKind.{MarkKind}
use Rattle.sh_split.specs.declared.mark.MarkKind.TheVariants.{White, Hard, Matter, Break}
use Rattle.sh_split.specs.Cutting.{IsRun, NotFirst, IsHard, Delimits}
use Rattle.sh_split.specs.Marks.{contains, is_blank}
use Rattle.sh_builtin.specs.declared.marks.Marked.{Marked}
use Rattle.sh_builtin.specs.Fields.{delimits, is_white, belongs, past_white, field, past_hard, rest, trimmed, last_value, value_before, values_from, values}
use Rattle.sh_builtin.specs.ReadValues.{bytes_of, kind_in, Part, whole, AreParts, IsCutInto, IsTrimmed, IsValue, behind_first, HaveValues, AreReadValues}

-- What the tests of a byte say of its kind.

abbrev sort : Bool → Bool → Bool → MarkKind
sort q c b = if q then Matter else (if not c then Matter else (if b then White else Hard))

white_yes : (q c b : Bool) → sort q c b ≡ White → (not q && c) && b ≡ true
white_yes true c b e = absurd (cc)
white_yes false false b e = absurd (cc)
white_yes false true true e = refl
white_yes false true false e = absurd (cc)

white_no : (q c b : Bool) → sort q c b ≢ White → (not q && c) && b ≡ false
white_no true c b n = refl
white_no false false b n = refl
white_no false true true n = absurd (n refl)
white_no false true false n = refl

matter_yes : (q c b : Bool) → sort q c b ≡ Matter → not (not q && c) ≡ true
matter_yes true c b e = refl
matter_yes false false b e = refl
matter_yes false true true e = absurd (cc)
matter_yes false true false e = absurd (cc)

matter_no : (q c b : Bool) → sort q c b ≢ Matter → not (not q && c) ≡ false
matter_no true c b n = absurd (n refl)
matter_no false false b n = absurd (n refl)
matter_no false true b n = refl

hard_yes : (q c b : Bool) → sort q c b ≡ Hard → not q && c ≡ true
hard_yes true c b e = absurd (cc)
hard_yes false false b e = absurd (cc)
hard_yes false true b e = refl

matter_only : (q c b : Bool) → sort q c b ≢ White → sort q c b ≢ Hard → not q && c ≡ false
matter_only true c b w h = refl
matter_only false false b w h = refl
matter_only false true true w h = absurd (w refl)
matter_only false true false w h = absurd (h refl)

no_break : (q c b : Bool) → sort q c b ≡ Break → ⊥
no_break true c b e = absurd (cc)
no_break false false b e = absurd (cc)
no_break false true true e = absurd (cc)
no_break false true false e = absurd (cc)

record Span (ifs : Text) (k : MarkKind) (text : List Marked) : Type 0 where
  front : List Marked
  back : List Marked
  all : text ≡ front ++ back
  run : IsRun (kind_in ifs) k front
  no_more : NotFirst (kind_in ifs) k back

-- How far a test goes by that tells bytes of a kind.
module _ (ifs : Text) (k : MarkKind) (test : Marked → Bool) (yes : (m : Marked) → kind_in ifs m ≡ k → test m ≡ true) (no : (m : Marked) → kind_in ifs m ≢ k → test m ≡ false) where
  run_taken : (front back : List Marked) → IsRun (kind_in ifs) k front → NotFirst (kind_in ifs) k back → take_while test (front ++ back) ≡ front
  run_taken [] [] r n = refl
  run_taken [] (m ∷ ms) r n = take_while-cons test m ms ∙ rw (no m n) refl
  run_taken (m ∷ ms) back r n = take_while-cons test m (ms ++ back) ∙ rw (yes m r.0) (ap (λ (xs : List Marked). m ∷ xs) (run_taken ms back r.1 n))

  front_taken : (front back : List Marked) → IsRun (kind_in ifs) k front → NotFirst (kind_in ifs) k back → take (length (take_while test (front ++ back))) (front ++ back) ≡ front
  front_taken front back r n = ap (λ (xs : List Marked). take (length xs) (front ++ back)) (run_taken front back r n) ∙ take-append_seam front back

  back_left : (front back : List Marked) → IsRun (kind_in ifs) k front → NotFirst (kind_in ifs) k back → drop (length (take_while test (front ++ back))) (front ++ back) ≡ back
  back_left front back r n = ap (λ (xs : List Marked). drop (length xs) (front ++ back)) (run_taken front back r n) ∙ drop-append_seam front back

module _ (ifs : Text) (k : MarkKind) (decided : (a : MarkKind) → (a ≡ k) ⊎ (a ≢ k)) where
  span : (text : List Marked) → Span ifs k text
  span [] = record { front = []; back = []; all = refl; run = tt; no_more = tt }
  span (m ∷ ms) = elim (decided (kind_in ifs m)) [
    | inl e ↦ let s : Span ifs k ms = span ms in record { front = m ∷ s.front; back = s.back; all = ap (λ (xs : List Marked). m ∷ xs) s.all; run = (e, s.run); no_more = s.no_more }
    | inr n ↦ record { front = []; back = m ∷ ms; all = refl; run = tt; no_more = n }
  ]

white_or_not : (a : MarkKind) → (a ≡ White) ⊎ (a ≢ White)
white_or_not White = inl refl
white_or_not Hard = inr (λ e. absurd (cc))
white_or_not Matter = inr (λ e. absurd (cc))
white_or_not Break = inr (λ e. absurd (cc))

matter_or_not : (a : MarkKind) → (a ≡ Matter) ⊎ (a ≢ Matter)
matter_or_not White = inr (λ e. absurd (cc))
matter_or_not Hard = inr (λ e. absurd (cc))
matter_or_not Matter = inl refl
matter_or_not Break = inr (λ e. absurd (cc))

module _ (ifs : Text) where
  abbrev kind : Marked → MarkKind
  kind m = kind_in ifs m

  white_is : (m : Marked) → kind m ≡ White → is_white ifs m ≡ true
  white_is m e = white_yes m.quoted (contains ifs m.byte) (is_blank m.byte) e

  white_isnt : (m : Marked) → kind m ≢ White → is_white ifs m ≡ false
  white_isnt m n = white_no m.quoted (contains ifs m.byte) (is_blank m.byte) n

  matter_is : (m : Marked) → kind m ≡ Matter → belongs ifs m ≡ true
  matter_is m e = matter_yes m.quoted (contains ifs m.byte) (is_blank m.byte) e

  matter_isnt : (m : Marked) → kind m ≢ Matter → belongs ifs m ≡ false
  matter_isnt m n = matter_no m.quoted (contains ifs m.byte) (is_blank m.byte) n

  hard_is : (m : Marked) → kind m ≡ Hard → delimits ifs m ≡ true
  hard_is m e = hard_yes m.quoted (contains ifs m.byte) (is_blank m.byte) e

  breaks_never : (m : Marked) → kind m ≡ Break → ⊥
  breaks_never m e = no_break m.quoted (contains ifs m.byte) (is_blank m.byte) e

  white_past : (ws left : List Marked) → IsRun kind White ws → NotFirst kind White left → past_white ifs (ws ++ left) ≡ left
  white_past ws left r n = back_left ifs White (is_white ifs) white_is white_isnt ws left r n

  -- A field and its delimiter.

  hard_past : (m : Marked) (ms : List Marked) → kind m ≡ Hard → past_hard ifs (m ∷ ms) ≡ past_white ifs ms
  hard_past m ms e = let d : delimits ifs m ≡ true = hard_is m e in rw d refl

  nothing_past : (left : List Marked) → NotFirst kind White left → NotFirst kind Hard left → past_hard ifs left ≡ left
  nothing_past [] w h = refl
  nothing_past (m ∷ ms) w h = let d : delimits ifs m ≡ false = matter_only m.quoted (contains ifs m.byte) (is_blank m.byte) w h in rw d refl

  first_white : (ms left : List Marked) → ms ≢ [] → IsRun kind White ms → NotFirst kind Matter (ms ++ left)
  first_white [] left n r = absurd (n refl)
  first_white (m ∷ ms) left n r = λ e. let f : White ≡ Matter = sym r.0 ∙ e in absurd (cc)

  first_hard : (before : List Marked) (m : Marked) (ms : List Marked) → IsRun kind White before → kind m ≡ Hard → NotFirst kind Matter (before ++ (m ∷ ms))
  first_hard [] m ms r h = λ e. let f : Hard ≡ Matter = sym h ∙ e in absurd (cc)
  first_hard (w ∷ ws) m ms r h = λ e. let f : White ≡ Matter = sym r.0 ∙ e in absurd (cc)

  hard_text : (d left : List Marked) (h : IsHard kind d left) → d ++ left ≡ h.before ++ (h.byte ∷ (h.after ++ left))
  hard_text d left h = ap (λ (x : List Marked). x ++ left) h.whole ∙ append_assoc h.before (h.byte ∷ h.after) left

  not_white : (m : Marked) → kind m ≡ Hard → kind m ≢ White
  not_white m h e = let f : Hard ≡ White = sym h ∙ e in absurd (cc)

  no_matter : (f d left : List Marked) → Delimits kind f d left → NotFirst kind Matter (d ++ left)
  no_matter f d left del = elim del [
    | inl b ↦ first_white d left b.1.some b.1.white
    | inr x ↦ elim x [
      | inl h ↦ subst (NotFirst kind Matter) (sym (hard_text d left h)) (first_hard h.before h.byte (h.after ++ left) h.white_before h.hard)
      | inr l ↦ let e : d ++ left ≡ [] = rw (l.1.0, l.1.1) refl in subst (NotFirst kind Matter) (sym e) tt
    ]
  ]

  delimiter_past : (f d left : List Marked) → Delimits kind f d left → past_hard ifs (past_white ifs (d ++ left)) ≡ left
  delimiter_past f d left del = elim del [
    | inl b ↦ ap (past_hard ifs) (white_past d left b.1.white b.1.no_more) ∙ nothing_past left b.1.no_more b.1.alone
    | inr x ↦ elim x [
      | inl h ↦
          ap (λ (y : List Marked). past_hard ifs (past_white ifs y)) (hard_text d left h)
          ∙ ap (past_hard ifs) (white_past h.before (h.byte ∷ (h.after ++ left)) h.white_before (not_white h.byte h.hard))
          ∙ hard_past h.byte (h.after ++ left) h.hard
          ∙ white_past h.after left h.white_after h.no_more
      | inr l ↦ ap (λ (y : List Marked). past_hard ifs (past_white ifs (y ++ left))) l.1.0 ∙ ap (λ (y : List Marked). past_hard ifs (past_white ifs y)) l.1.1 ∙ sym l.1.1
    ]
  ]

  field_is : (f d left : List Marked) → IsRun kind Matter f → Delimits kind f d left → field ifs (f ++ (d ++ left)) ≡ f
  field_is f d left r del = front_taken ifs Matter (belongs ifs) matter_is matter_isnt f (d ++ left) r (no_matter f d left del)

  rest_is : (f d left : List Marked) → IsRun kind Matter f → Delimits kind f d left → rest ifs (f ++ (d ++ left)) ≡ left
  rest_is f d left r del =
      ap (λ (y : List Marked). past_hard ifs (past_white ifs y)) (back_left ifs Matter (belongs ifs) matter_is matter_isnt f (d ++ left) r (no_matter f d left del)) ∙ delimiter_past f d left del

  -- White space at an end.

  run-append : (k : MarkKind) (xs ys : List Marked) → IsRun kind k xs → IsRun kind k ys → IsRun kind k (xs ++ ys)
  run-append k [] ys a b = b
  run-append k (x ∷ xs) ys a b = (a.0, run-append k xs ys a.1 b)

  run-reverse : (k : MarkKind) (xs : List Marked) → IsRun kind k xs → IsRun kind k (reverse xs)
  run-reverse k [] r = tt
  run-reverse k (x ∷ xs) r = subst (IsRun kind k) (sym (reverse-append (x ∷ []) xs)) (run-append k (reverse xs) (x ∷ []) (run-reverse k xs r.1) (r.0, tt))

  all_but : (a b : List Marked) → length (a ++ b) - length b ≡ length a
  all_but a b = omega (arith, length-append a b)

  trimmed_is : (text value : List Marked) → IsTrimmed ifs text value → trimmed ifs text ≡ value
  trimmed_is text value t =
      let tail : take_while (is_white ifs) (reverse (value ++ t.tail)) ≡ reverse t.tail =
      ap (take_while (is_white ifs)) (reverse-append value t.tail) ∙ run_taken ifs White (is_white ifs) white_is white_isnt (reverse t.tail) (reverse value) (run-reverse White t.tail t.white) t.no_more
      in
      ap (trimmed ifs) t.all
      ∙ ap (λ (xs : List Marked). take (length (value ++ t.tail) - length xs) (value ++ t.tail)) tail
      ∙ ap (λ (n : ℕ). take (length (value ++ t.tail) - n) (value ++ t.tail)) (length-reverse t.tail)
      ∙ ap (λ (n : ℕ). take n (value ++ t.tail)) (all_but value t.tail)
      ∙ take-append_seam value t.tail

  trim : (text : List Marked) → IsTrimmed ifs text (trimmed ifs text)
  trim text =
      let s : Span ifs White (reverse text) = span ifs White white_or_not (reverse text) in
      let there : IsTrimmed ifs text (reverse s.back) = record { tail = reverse s.front; all = sym (reverse-reverse text) ∙ (ap reverse s.all ∙ reverse-append s.front s.back); white = run-reverse White s.front s.run; no_more = subst (NotFirst kind White) (sym (reverse-reverse s.back)) s.no_more } in
      subst (IsTrimmed ifs text) (sym (trimmed_is text (reverse s.back) there)) there

  -- The values that are computed are theirs.

  others_are : (ps : List Part) → AreParts ifs ps → AreParts ifs (behind_first ps)
  others_are [] a = tt
  others_are (p ∷ ps) a = a.2

  rest_others : (ps : List Part) → AreParts ifs ps → rest ifs (whole ps) ≡ whole (behind_first ps)
  rest_others [] a = refl
  rest_others (p ∷ ps) a = rest_is p.field p.delimiter (whole ps) a.0 a.1

  first_field : (p : Part) (ps : List Part) → AreParts ifs (p ∷ ps) → field ifs (whole (p ∷ ps)) ≡ p.field
  first_field p ps a = field_is p.field p.delimiter (whole ps) a.0 a.1

  nonempty : (a b : List Marked) → a ≢ [] → is_empty (a ++ b) ≡ false
  nonempty [] b n = absurd (n refl)
  nonempty (x ∷ xs) b n = refl

  not_empty : (p : Part) (left : List Marked) → Delimits kind p.field p.delimiter left → is_empty (p.field ++ (p.delimiter ++ left)) ≡ false
  not_empty p left del = elim del [
    | inl b ↦ nonempty p.field (p.delimiter ++ left) b.0
    | inr x ↦ elim x [
      | inl h ↦ ap (λ (y : List Marked). is_empty (p.field ++ y)) (hard_text p.delimiter left h) ∙ anywhere p.field h.before h.byte (h.after ++ left)
      | inr l ↦ nonempty p.field (p.delimiter ++ left) l.0
    ]
  ]
    where
      beside : (before : List Marked) (m : Marked) (ms : List Marked) → is_empty (before ++ (m ∷ ms)) ≡ false
      beside [] m ms = refl
      beside (x ∷ xs) m ms = refl

      anywhere : (front before : List Marked) (m : Marked) (ms : List Marked) → is_empty (front ++ (before ++ (m ∷ ms))) ≡ false
      anywhere [] before m ms = beside before m ms
      anywhere (x ∷ xs) before m ms = refl

  alone : (p : Part) → AreParts ifs (p ∷ []) → last_value ifs (whole (p ∷ [])) ≡ bytes_of p.field
  alone p a = let e : rest ifs (whole (p ∷ [])) ≡ [] = rest_others (p ∷ []) a in rw e (ap bytes_of (first_field p [] a))

  among : (p q : Part) (ps : List Part) → AreParts ifs (p ∷ q ∷ ps) → last_value ifs (whole (p ∷ q ∷ ps)) ≡ bytes_of (trimmed ifs (whole (p ∷ q ∷ ps)))
  among p q ps a =
      let e : is_empty (rest ifs (whole (p ∷ q ∷ ps))) ≡ false = ap is_empty (rest_others (p ∷ q ∷ ps) a) ∙ not_empty q (whole ps) a.2.1 in
      rw e refl

  value_is : (xs : List Text) (ps : List Part) (v : Text) → AreParts ifs ps → IsValue ifs xs ps v → v ≡ value_before xs ifs (whole ps)
  value_is [] [] v a h = h
  value_is (x ∷ xs) [] v a h = h
  value_is [] (p ∷ []) v a h = h ∙ sym (alone p a)
  value_is (x ∷ xs) (p ∷ []) v a h = h ∙ ap bytes_of (sym (first_field p [] a))
  value_is [] (p ∷ q ∷ ps) v a h = h.2 ∙ (ap bytes_of (sym (trimmed_is (whole (p ∷ q ∷ ps)) h.0 h.1)) ∙ sym (among p q ps a))
  value_is (x ∷ xs) (p ∷ q ∷ ps) v a h = h ∙ ap bytes_of (sym (first_field p (q ∷ ps) a))

  have : (xs : List Text) (ps : List Part) (vs : List Text) → AreParts ifs ps → HaveValues ifs xs ps vs → vs ≡ values_from ifs xs (whole ps)
  have [] ps vs a h = h
  have (x ∷ xs) ps [] a h = absurd h
  have (x ∷ xs) ps (v ∷ vs) a h =
      ap (λ (y : Text). y ∷ vs) (value_is xs ps v a h.0)
      ∙ ap (λ (ys : List Text). value_before xs ifs (whole ps) ∷ ys) (have xs (behind_first ps) vs (others_are ps a) h.1 ∙ ap (values_from ifs xs) (sym (rest_others ps a)))

  pub values_are : (names : List Text) (line : List Marked) (vs : List Text) → AreReadValues ifs names line vs → vs ≡ values ifs names line
  values_are names line vs h =
      have names h.parts vs h.cut.are h.are ∙ ap (values_from ifs names) (sym (ap (past_white ifs) h.cut.all ∙ white_past h.cut.lead (whole h.parts) h.cut.white h.cut.no_more))

  -- Each line is cut into fields.

  -- what delimits a field that isn't empty
  record Delimited (f text : List Marked) : Type 0 where
    delimiter : List Marked
    left : List Marked
    all : text ≡ delimiter ++ left
    is : Delimits kind f delimiter left
    no_more : NotFirst kind White left

  white_span : (text : List Marked) → Span ifs White text
  white_span text = span ifs White white_or_not text

  spanned : (before : List Marked) (m : Marked) (ms : List Marked) (s : Span ifs White ms) → before ++ (m ∷ ms) ≡ (before ++ m ∷ s.front) ++ s.back
  spanned before m ms s = ap (λ (xs : List Marked). before ++ (m ∷ xs)) s.all ∙ sym (append_assoc before (m ∷ s.front) s.back)

  is_hard : (before : List Marked) (m : Marked) (ms : List Marked) → IsRun kind White before → kind m ≡ Hard → (s : Span ifs White ms) → IsHard kind (before ++ m ∷ s.front) s.back
  is_hard before m ms r h s = record { before = before; byte = m; after = s.front; whole = refl; white_before = r; hard = h; white_after = s.run; no_more = s.no_more }

  -- white space stands behind the field, and then this
  behind_white : (f w : List Marked) (ms : List Marked) → f ≢ [] → w ≢ [] → IsRun kind White w → NotFirst kind White ms → Delimited f (w ++ ms)
  behind_white f w [] n some r apart = record { delimiter = w; left = []; all = refl; is = inl (n, record { some = some; white = r; no_more = tt; alone = tt }); no_more = tt }
  behind_white f w (m ∷ ms) n some r apart = by (kind m) refl
    where
      by : (k : MarkKind) → kind m ≡ k → Delimited f (w ++ (m ∷ ms))
      by White e = absurd (apart e)
      by Hard e =
          let s : Span ifs White ms = white_span ms in
          record { delimiter = w ++ m ∷ s.front; left = s.back; all = spanned w m ms s; is = inr (inl (is_hard w m ms r e s)); no_more = s.no_more }
      by Matter e =
          let alone : kind m ≢ Hard = λ h. let g : Matter ≡ Hard = sym e ∙ h in absurd (cc) in
          record { delimiter = w; left = m ∷ ms; all = refl; is = inl (n, record { some = some; white = r; no_more = apart; alone = alone }); no_more = apart }
      by Break e = absurd (breaks_never m e)

  cons_nil : (m : Marked) (ms : List Marked) → m ∷ ms ≢ []
  cons_nil m ms e = absurd (cc)

  delimited : (f text : List Marked) → f ≢ [] → NotFirst kind Matter text → Delimited f text
  delimited f [] n apart = record { delimiter = []; left = []; all = refl; is = inr (inr (n, (refl, refl))); no_more = tt }
  delimited f (m ∷ ms) n apart = by (kind m) refl
    where
      by : (k : MarkKind) → kind m ≡ k → Delimited f (m ∷ ms)
      by White e =
          let s : Span ifs White ms = white_span ms in
          subst (λ (xs : List Marked). Delimited f (m ∷ xs)) (sym s.all) (behind_white f (m ∷ s.front) s.back n (cons_nil m s.front) (e, s.run) s.no_more)
      by Hard e =
          let s : Span ifs White ms = white_span ms in
          record { delimiter = m ∷ s.front; left = s.back; all = spanned [] m ms s; is = inr (inl (is_hard [] m ms tt e s)); no_more = s.no_more }
      by Matter e = absurd (apart e)
      by Break e = absurd (breaks_never m e)

  record First (text : List Marked) : Type 0 where
    field : List Marked
    delimiter : List Marked
    left : List Marked
    all : text ≡ field ++ (delimiter ++ left)
    run : IsRun kind Matter field
    is : Delimits kind field delimiter left
    no_more : NotFirst kind White left
    shorter : length left < length text

  shorter_by : (a b c text : List Marked) (m : Marked) → text ≡ (m ∷ a) ++ (b ++ c) → length c < length text
  shorter_by a b c text m e = omega (arith, ap length e, length-append a (b ++ c), length-append b c)

  first : (m : Marked) (ms : List Marked) → kind m ≢ White → First (m ∷ ms)
  first m ms apart = by (kind m) refl
    where
      by : (k : MarkKind) → kind m ≡ k → First (m ∷ ms)
      by White e = absurd (apart e)
      by Hard e =
          let s : Span ifs White ms = white_span ms in
          let all : m ∷ ms ≡ (m ∷ s.front) ++ s.back = spanned [] m ms s in
          record { field = []; delimiter = m ∷ s.front; left = s.back; all = all; run = tt; is = inr (inl (is_hard [] m ms tt e s)); no_more = s.no_more; shorter = shorter_by s.front [] s.back (m ∷ ms) m all }
      by Matter e =
          let s : Span ifs Matter ms = span ifs Matter matter_or_not ms in
          let d : Delimited (m ∷ s.front) s.back = delimited (m ∷ s.front) s.back (cons_nil m s.front) s.no_more in
          let all : m ∷ ms ≡ (m ∷ s.front) ++ (d.delimiter ++ d.left) = ap (λ (xs : List Marked). m ∷ xs) s.all ∙ ap (λ (xs : List Marked). (m ∷ s.front) ++ xs) d.all in
          record { field = m ∷ s.front; delimiter = d.delimiter; left = d.left; all = all; run = (e, s.run); is = d.is; no_more = d.no_more; shorter = shorter_by s.front d.delimiter d.left (m ∷ ms) m all }
      by Break e = absurd (breaks_never m e)

  record Parted (text : List Marked) : Type 0 where
    parts : List Part
    all : text ≡ whole parts
    are : AreParts ifs parts

  abbrev part_of : (text : List Marked) → First text → Part
  part_of text f = record { field = f.field; delimiter = f.delimiter }

  with_first : (text : List Marked) (f : First text) → Parted f.left → Parted text
  with_first text f more =
      record {
        parts = part_of text f ∷ more.parts;
        all = f.all ∙ ap (λ (xs : List Marked). f.field ++ (f.delimiter ++ xs)) more.all;
        are = (f.run, subst (Delimits kind f.field f.delimiter) more.all f.is, more.are);
      }

  parted : (n : ℕ) (text : List Marked) → length text ≤ n → NotFirst kind White text → Parted text
  parted n [] le apart = record { parts = []; all = refl; are = tt }
  parted zero (m ∷ ms) le apart = absurd (omega (arith, le))
  parted (suc n) (m ∷ ms) le apart = let f : First (m ∷ ms) = first m ms apart in with_first (m ∷ ms) f (parted n f.left (omega (arith, le, f.shorter)) f.no_more)

  cut : (line : List Marked) → (parts : List Part) × IsCutInto ifs line parts
  cut line =
      let s : Span ifs White line = white_span line in
      let p : Parted s.back = parted (length s.back) s.back (omega arith) s.no_more in
      (p.parts, record { lead = s.front; all = s.all ∙ ap (λ (xs : List Marked). s.front ++ xs) p.all; white = s.run; no_more = subst (NotFirst kind White) p.all s.no_more; are = p.are })

  valued : (xs : List Text) (ps : List Part) → (v : Text) × IsValue ifs xs ps v
  valued [] [] = ([], refl)
  valued (x ∷ xs) [] = ([], refl)
  valued [] (p ∷ []) = (bytes_of p.field, refl)
  valued (x ∷ xs) (p ∷ []) = (bytes_of p.field, refl)
  valued [] (p ∷ q ∷ ps) = (bytes_of (trimmed ifs (whole (p ∷ q ∷ ps))), (trimmed ifs (whole (p ∷ q ∷ ps)), trim (whole (p ∷ q ∷ ps)), refl))
  valued (x ∷ xs) (p ∷ q ∷ ps) = (bytes_of p.field, refl)

  all_valued : (xs : List Text) (ps : List Part) → (vs : List Text) × HaveValues ifs xs ps vs
  all_valued [] ps = ([], refl)
  all_valued (x ∷ xs) ps = ((valued xs ps).0 ∷ (all_valued xs (behind_first ps)).0, ((valued xs ps).1, (all_valued xs (behind_first ps)).1))

  pub are_values : (names : List Text) (line : List Marked) → AreReadValues ifs names line (values ifs names line)
  are_values names line =
      let c = cut line in
      let vs = all_valued names c.0 in
      let there : AreReadValues ifs names line vs.0 = record { parts = c.0; cut = c.1; are = vs.1 } in
      subst (AreReadValues ifs names line) (values_are names line vs.0 there) there
