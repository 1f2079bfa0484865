-- The one pass makes the one cutting.
use Rattle.std.proofs.Common.{◌≡◌, ◌≢◌, List, [], ◌∷◌, ◌++◌, append_assoc, refl, sym, ap, ◌∙◌, subst, inl, inr}
use Rattle.std.proofs.lemmas.List.{append-nil}
use Rattle.std.specs.Prelude.{◌⊎◌}
use Rattle.sh_split.specs.declared.mark.Mark.{Mark}
use Rattle.sh_split.specs.declared.mark.MarkKind.{MarkKind}
use Rattle.sh_split.specs.declared.mark.MarkKind.TheVariants.{White, Hard, Matter, Break}
use Rattle.sh_split.specs.declared.pass.State.{State}
use Rattle.sh_split.specs.declared.pass.State.TheVariants.{Gap, In, After}
use Rattle.sh_split.specs.Cutting.{Marks, IsRun, NotFirst, IsBlank, IsHard, IsLast, Delimits, AreFields, IsCut, AreCut, put, parted, between, IsCutting}
use Rattle.sh_split.specs.Pass.{step, last_of, fields_from}

-- what the pass makes of a text from each state
abbrev G : (Mark → MarkKind) → Marks → List Marks
G kind t = fields_from kind Gap [] t

abbrev I : (Mark → MarkKind) → Marks → Marks → List Marks
I kind f t = fields_from kind In f t

abbrev A : (Mark → MarkKind) → Marks → List Marks
A kind t = fields_from kind After [] t

module _ (kind : Mark → MarkKind) where
  gap-white : (m : Mark) (t : Marks) → kind m ≡ White → G kind (m ∷ t) ≡ G kind t
  gap-white m t e = rw e refl

  gap-hard : (m : Mark) (t : Marks) → kind m ≡ Hard → G kind (m ∷ t) ≡ [] ∷ G kind t
  gap-hard m t e = rw e refl

  gap-matter : (m : Mark) (t : Marks) → kind m ≡ Matter → G kind (m ∷ t) ≡ I kind (m ∷ []) t
  gap-matter m t e = rw e refl

  gap-break : (m : Mark) (t : Marks) → kind m ≡ Break → G kind (m ∷ t) ≡ G kind t
  gap-break m t e = rw e refl

  in-white : (f : Marks) (m : Mark) (t : Marks) → kind m ≡ White → I kind f (m ∷ t) ≡ f ∷ A kind t
  in-white f m t e = rw e refl

  in-hard : (f : Marks) (m : Mark) (t : Marks) → kind m ≡ Hard → I kind f (m ∷ t) ≡ f ∷ G kind t
  in-hard f m t e = rw e refl

  in-matter : (f : Marks) (m : Mark) (t : Marks) → kind m ≡ Matter → I kind f (m ∷ t) ≡ I kind (f ++ m ∷ []) t
  in-matter f m t e = rw e refl

  after-white : (m : Mark) (t : Marks) → kind m ≡ White → A kind (m ∷ t) ≡ A kind t
  after-white m t e = rw e refl

  after-hard : (m : Mark) (t : Marks) → kind m ≡ Hard → A kind (m ∷ t) ≡ G kind t
  after-hard m t e = rw e refl

  after-matter : (m : Mark) (t : Marks) → kind m ≡ Matter → A kind (m ∷ t) ≡ I kind (m ∷ []) t
  after-matter m t e = rw e refl

  after-break : (m : Mark) (t : Marks) → kind m ≡ Break → A kind (m ∷ t) ≡ G kind t
  after-break m t e = rw e refl

  -- Runs.

  gap_run : (ws t : Marks) → IsRun kind White ws → G kind (ws ++ t) ≡ G kind t
  gap_run [] t r = refl
  gap_run (m ∷ ms) t r = gap-white m (ms ++ t) r.0 ∙ gap_run ms t r.1

  after_run : (ws t : Marks) → IsRun kind White ws → A kind (ws ++ t) ≡ A kind t
  after_run [] t r = refl
  after_run (m ∷ ms) t r = after-white m (ms ++ t) r.0 ∙ after_run ms t r.1

  in_run : (f ms t : Marks) → IsRun kind Matter ms → I kind f (ms ++ t) ≡ I kind (f ++ ms) t
  in_run f [] t r = ap (λ x. I kind x t) (sym (append-nil f))
  in_run f (m ∷ ms) t r = in-matter f m (ms ++ t) r.0 ∙ (in_run (f ++ m ∷ []) ms t r.1 ∙ ap (λ x. I kind x t) (append_assoc f (m ∷ []) ms))

  after_is_gap : (rest : Marks) → NotFirst kind White rest → NotFirst kind Hard rest → A kind rest ≡ G kind rest
  after_is_gap [] w h = refl
  after_is_gap (m ∷ ms) w h = by_kind (kind m) refl
    where
      by_kind : (k : MarkKind) → kind m ≡ k → A kind (m ∷ ms) ≡ G kind (m ∷ ms)
      by_kind White e = absurd (w e)
      by_kind Hard e = absurd (h e)
      by_kind Matter e = after-matter m ms e ∙ sym (gap-matter m ms e)
      by_kind Break e = after-break m ms e ∙ sym (gap-break m ms e)

  -- A cutting that keeps the rules is what the pass makes.

  hard_text : (d rest : Marks) (h : IsHard kind d rest) → d ++ rest ≡ h.before ++ (h.byte ∷ (h.after ++ rest))
  hard_text d rest h = ap (λ x. x ++ rest) h.whole ∙ append_assoc h.before (h.byte ∷ h.after) rest

  gap_hard : (d rest : Marks) → IsHard kind d rest → G kind (d ++ rest) ≡ [] ∷ G kind rest
  gap_hard d rest h =
      ap (G kind) (hard_text d rest h) ∙ (gap_run h.before (h.byte ∷ (h.after ++ rest)) h.white_before ∙ (gap-hard h.byte (h.after ++ rest) h.hard ∙ ap (λ x. [] ∷ x) (gap_run h.after rest h.white_after)))

  in_before : (f before : Marks) (b : Mark) (t : Marks) → IsRun kind White before → kind b ≡ Hard → I kind f (before ++ (b ∷ t)) ≡ f ∷ G kind t
  in_before f [] b t r h = in-hard f b t h
  in_before f (w ∷ ws) b t r h = in-white f w (ws ++ (b ∷ t)) r.0 ∙ ap (λ x. f ∷ x) (after_run ws (b ∷ t) r.1 ∙ after-hard b t h)

  in_hard : (f d rest : Marks) → IsHard kind d rest → I kind f (d ++ rest) ≡ f ∷ G kind rest
  in_hard f d rest h = ap (I kind f) (hard_text d rest h) ∙ (in_before f h.before h.byte (h.after ++ rest) h.white_before h.hard ∙ ap (λ x. f ∷ x) (gap_run h.after rest h.white_after))

  in_blank : (f d rest : Marks) → IsBlank kind d rest → I kind f (d ++ rest) ≡ f ∷ G kind rest
  in_blank f [] rest b = absurd (b.some refl)
  in_blank f (w ∷ ws) rest b = in-white f w (ws ++ rest) b.white.0 ∙ ap (λ x. f ∷ x) (after_run ws rest b.white.1 ∙ after_is_gap rest b.no_more b.alone)

  in_last : (f d rest : Marks) → IsLast kind d rest → I kind f (d ++ rest) ≡ f ∷ G kind rest
  in_last f d rest l = ap (λ x. I kind f (x ++ rest)) l.0 ∙ (ap (I kind f) l.1 ∙ ap (λ x. f ∷ G kind x) (sym l.1))

  in_delimits : (f d rest : Marks) → Delimits kind f d rest → I kind f (d ++ rest) ≡ f ∷ G kind rest
  in_delimits f d rest del = elim del [ inl b ↦ in_blank f d rest b.1 | inr x ↦ elim x [ inl h ↦ in_hard f d rest h | inr l ↦ in_last f d rest l.1 ] ]

  field_goes : (f d rest : Marks) → IsRun kind Matter f → Delimits kind f d rest → G kind (f ++ (d ++ rest)) ≡ f ∷ G kind rest
  field_goes [] d rest r del = elim del [ inl b ↦ absurd (b.0 refl) | inr x ↦ elim x [ inl h ↦ gap_hard d rest h | inr l ↦ absurd (l.0 refl) ] ]
  field_goes (m ∷ ms) d rest r del = gap-matter m (ms ++ (d ++ rest)) r.0 ∙ (in_run (m ∷ []) ms (d ++ rest) r.1 ∙ in_delimits (m ∷ ms) d rest del)

  fields_pass : (fields : List Marks) (text : Marks) → AreFields kind fields text → fields ≡ G kind text
  fields_pass [] text e = ap (G kind) (sym e)
  fields_pass (f ∷ fs) text (d, rest, whole, run, del, are) = ap (λ x. f ∷ x) (fields_pass fs rest are) ∙ (sym (field_goes f d rest run del) ∙ ap (G kind) (sym whole))

  cut_pass : (fields : List Marks) (text : Marks) → IsCut kind text fields → fields ≡ G kind text
  cut_pass fields text c = fields_pass fields c.rest c.are ∙ (sym (gap_run c.lead c.rest c.white) ∙ ap (G kind) (sym c.whole))

  -- Texts between breaks.

  abbrev joined : List Marks → List Marks
  joined [] = []
  joined (t ∷ ts) = G kind t ++ joined ts

  abbrev over : State → Marks → List Marks → List Marks
  over s f [] = last_of s f
  over s f (t ∷ ts) = fields_from kind s f t ++ joined ts

  over_gap : (ts : List Marks) → over Gap [] ts ≡ joined ts
  over_gap [] = refl
  over_gap (t ∷ ts) = refl

  over_put : (s : State) (f : Marks) (m : Mark) (ts : List Marks) → over s f (put m ts) ≡ (step (kind m) s f m).ended ++ over (step (kind m) s f m).state (step (kind m) s f m).open_field ts
  over_put s f m [] = append-nil _
  over_put s f m (t ∷ ts) = append_assoc _ (fields_from kind (step (kind m) s f m).state (step (kind m) s f m).open_field t) (joined ts)

  over_break : (s : State) (f : Marks) (m : Mark) → (step Break s f m).ended ≡ last_of s f
  over_break Gap f m = refl
  over_break In f m = refl
  over_break After f m = refl

  break_state : (s : State) (f : Marks) (m : Mark) (t : Marks) → fields_from kind (step Break s f m).state (step Break s f m).open_field t ≡ G kind t
  break_state Gap f m t = refl
  break_state In f m t = refl
  break_state After f m t = refl

  parts_step : (s : State) (f : Marks) (m : Mark) (ms : Marks) → ((s : State) (f : Marks) → fields_from kind s f ms ≡ over s f (between kind ms)) → (k : MarkKind) → kind m ≡ k → fields_from kind s f (m ∷ ms) ≡ over s f (between kind (m ∷ ms))
  parts_step s f m ms again k e = by_kind k e
    where
      same : parted (kind m) m (between kind ms) ≡ put m (between kind ms) → fields_from kind s f (m ∷ ms) ≡ over s f (between kind (m ∷ ms))
      same e = ap (λ x. (step (kind m) s f m).ended ++ x) (again (step (kind m) s f m).state (step (kind m) s f m).open_field) ∙ (sym (over_put s f m (between kind ms)) ∙ ap (over s f) (sym e))

      broken : kind m ≡ Break → fields_from kind s f (m ∷ ms) ≡ over s f (between kind (m ∷ ms))
      broken e =
          rw e
          (ap (λ x. x ++ fields_from kind (step Break s f m).state (step Break s f m).open_field ms) (over_break s f m) ∙ ap (λ x. last_of s f ++ x) (break_state s f m ms ∙ (again Gap [] ∙ over_gap (between kind ms))))

      by_kind : (k : MarkKind) → kind m ≡ k → fields_from kind s f (m ∷ ms) ≡ over s f (between kind (m ∷ ms))
      by_kind White e = same (rw e refl)
      by_kind Hard e = same (rw e refl)
      by_kind Matter e = same (rw e refl)
      by_kind Break e = broken e

  parts_pass : (text : Marks) (s : State) (f : Marks) → fields_from kind s f text ≡ over s f (between kind text)
  parts_pass [] s f = sym (append-nil (last_of s f))
  parts_pass (m ∷ ms) s f = parts_step s f m ms (parts_pass ms) (kind m) refl

  are_pass : (ts fields : List Marks) → AreCut kind ts fields → fields ≡ joined ts
  are_pass [] fields e = e
  are_pass (t ∷ ts) fields (a, b, e, c, more) = e ∙ (ap (λ x. x ++ b) (cut_pass a t c) ∙ ap (λ x. G kind t ++ x) (are_pass ts b more))

  pub cutting_pass : (text : Marks) (fields : List Marks) → IsCutting kind text fields → fields ≡ fields_from kind Gap [] text
  unfolding IsCutting
  cutting_pass text fields c = are_pass (between kind text) fields c ∙ (sym (over_gap (between kind text)) ∙ sym (parts_pass text Gap []))

  -- What the pass makes keeps the rules.

  -- what stands after a field has ended by white space
  record Tail (text : Marks) : Type 0 where
    delimiter : Marks
    rest : Marks
    whole : text ≡ delimiter ++ rest
    is : (IsRun kind White delimiter × NotFirst kind White rest × NotFirst kind Hard rest) ⊎ IsHard kind delimiter rest
    are : AreFields kind (A kind text) rest

  record Made (text : Marks) : Type 0 where
    gap : IsCut kind text (G kind text)
    tail : Tail text
    inside : (f : Marks) → f ≢ [] → IsRun kind Matter f → AreFields kind (I kind f text) (f ++ text)

  made_nil : Made []
  made_nil =
      record {
        gap = record { lead = []; rest = []; whole = refl; white = tt; no_more = tt; are = refl };
        tail = record { delimiter = []; rest = []; whole = refl; is = inl (tt, tt, tt); are = refl };
        inside = λ f h r. ([], [], refl, r, inr (inr (h, (refl, refl))), refl);
      }

  -- a byte of IFS and the white space after it
  hard_first : (m : Mark) (ms : Marks) → kind m ≡ Hard → (c : IsCut kind ms (G kind ms)) → IsHard kind (m ∷ c.lead) c.rest
  hard_first m ms e c = record { before = []; byte = m; after = c.lead; whole = refl; white_before = tt; hard = e; white_after = c.white; no_more = c.no_more }

  hard_more : (m : Mark) (d rest : Marks) → kind m ≡ White → IsHard kind d rest → IsHard kind (m ∷ d) rest
  hard_more m d rest e h = record { before = m ∷ h.before; byte = h.byte; after = h.after; whole = ap (λ x. m ∷ x) h.whole; white_before = (e, h.white_before); hard = h.hard; white_after = h.white_after; no_more = h.no_more }

  cons_nil : (m : Mark) (ms : Marks) → m ∷ ms ≢ []
  cons_nil m ms e = absurd (cc)

  made_white : (m : Mark) (ms : Marks) → kind m ≡ White → Made ms → Made (m ∷ ms)
  made_white m ms e h =
      record {
        gap = record { lead = m ∷ h.gap.lead; rest = h.gap.rest; whole = ap (λ x. m ∷ x) h.gap.whole; white = (e, h.gap.white); no_more = h.gap.no_more; are = subst (λ x. AreFields kind x h.gap.rest) (sym (gap-white m ms e)) h.gap.are };
        tail = record {
          delimiter = m ∷ h.tail.delimiter;
          rest = h.tail.rest;
          whole = ap (λ x. m ∷ x) h.tail.whole;
          is = elim h.tail.is [ inl b ↦ inl ((e, b.0), b.1, b.2) | inr x ↦ inr (hard_more m h.tail.delimiter h.tail.rest e x) ];
          are = subst (λ x. AreFields kind x h.tail.rest) (sym (after-white m ms e)) h.tail.are;
        };
        inside = λ f n r.
            subst (λ x. AreFields kind x (f ++ m ∷ ms)) (sym (in-white f m ms e))
            (m ∷ h.tail.delimiter, h.tail.rest, ap (λ x. f ++ m ∷ x) h.tail.whole, r, white_delimits f n h.tail, h.tail.are);
      }
    where
      white_delimits : (f : Marks) → f ≢ [] → (t : Tail ms) → Delimits kind f (m ∷ t.delimiter) t.rest
      white_delimits f n t =
          elim t.is [
            | inl b ↦ inl (n, record { some = cons_nil m t.delimiter; white = (e, b.0); no_more = b.1; alone = b.2 })
            | inr x ↦ inr (inl (hard_more m t.delimiter t.rest e x))
          ]

  made_hard : (m : Mark) (ms : Marks) → kind m ≡ Hard → Made ms → Made (m ∷ ms)
  made_hard m ms e h =
      record {
        gap = record {
          lead = [];
          rest = m ∷ ms;
          whole = refl;
          white = tt;
          no_more = λ w. absurd (cc);
          are = subst (λ x. AreFields kind x (m ∷ ms)) (sym (gap-hard m ms e)) (m ∷ h.gap.lead, h.gap.rest, ap (λ x. m ∷ x) h.gap.whole, tt, inr (inl (hard_first m ms e h.gap)), h.gap.are);
        };
        tail = record {
          delimiter = m ∷ h.gap.lead;
          rest = h.gap.rest;
          whole = ap (λ x. m ∷ x) h.gap.whole;
          is = inr (hard_first m ms e h.gap);
          are = subst (λ x. AreFields kind x h.gap.rest) (sym (after-hard m ms e)) h.gap.are;
        };
        inside = λ f n r.
            subst (λ x. AreFields kind x (f ++ m ∷ ms)) (sym (in-hard f m ms e))
            (m ∷ h.gap.lead, h.gap.rest, ap (λ x. f ++ m ∷ x) h.gap.whole, r, inr (inl (hard_first m ms e h.gap)), h.gap.are);
      }

  run_push : (f : Marks) (m : Mark) → IsRun kind Matter f → kind m ≡ Matter → IsRun kind Matter (f ++ m ∷ [])
  run_push [] m r e = (e, tt)
  run_push (x ∷ xs) m r e = (r.0, run_push xs m r.1 e)

  push_nil : (f : Marks) (m : Mark) → f ++ m ∷ [] ≢ []
  push_nil [] m e = absurd (cc)
  push_nil (x ∷ xs) m e = absurd (cc)

  made_matter : (m : Mark) (ms : Marks) → kind m ≡ Matter → Made ms → Made (m ∷ ms)
  made_matter m ms e h =
      record {
        gap = record { lead = []; rest = m ∷ ms; whole = refl; white = tt; no_more = λ w. absurd (cc); are = subst (λ x. AreFields kind x (m ∷ ms)) (sym (gap-matter m ms e)) alone };
        tail = record { delimiter = []; rest = m ∷ ms; whole = refl; is = inl (tt, λ w. absurd (cc), λ w. absurd (cc)); are = subst (λ x. AreFields kind x (m ∷ ms)) (sym (after-matter m ms e)) alone };
        inside = λ f n r.
            subst (λ x. AreFields kind x (f ++ m ∷ ms)) (sym (in-matter f m ms e)) (subst (AreFields kind (I kind (f ++ m ∷ []) ms)) (append_assoc f (m ∷ []) ms) (h.inside (f ++ m ∷ []) (push_nil f m) (run_push f m r e)));
      }
    where
      alone : AreFields kind (I kind (m ∷ []) ms) (m ∷ ms)
      alone = h.inside (m ∷ []) (cons_nil m []) (e, tt)

  -- no break
  abbrev Free : Marks → Type 0
  Free [] = Unit {0}
  Free (m ∷ ms) = (kind m ≢ Break) × Free ms

  made_by : (k : MarkKind) (m : Mark) (ms : Marks) → kind m ≡ k → kind m ≢ Break → Made ms → Made (m ∷ ms)
  made_by White m ms e n h = made_white m ms e h
  made_by Hard m ms e n h = made_hard m ms e h
  made_by Matter m ms e n h = made_matter m ms e h
  made_by Break m ms e n h = absurd (n e)

  made : (text : Marks) → Free text → Made text
  made [] n = made_nil
  made (m ∷ ms) n = made_by (kind m) m ms refl n.0 (made ms n.1)

  abbrev AllFree : List Marks → Type 0
  AllFree [] = Unit {0}
  AllFree (t ∷ ts) = Free t × AllFree ts

  put_free : (m : Mark) (ts : List Marks) → kind m ≢ Break → AllFree ts → AllFree (put m ts)
  put_free m [] n h = ((n, tt), tt)
  put_free m (t ∷ ts) n h = ((n, h.0), h.1)

  parted_free : (k : MarkKind) (m : Mark) (ts : List Marks) → kind m ≡ k → AllFree ts → AllFree (parted k m ts)
  parted_free White m ts e h = put_free m ts (λ b. absurd (cc)) h
  parted_free Hard m ts e h = put_free m ts (λ b. absurd (cc)) h
  parted_free Matter m ts e h = put_free m ts (λ b. absurd (cc)) h
  parted_free Break m ts e h = (tt, h)

  between_free : (text : Marks) → AllFree (between kind text)
  between_free [] = (tt, tt)
  between_free (m ∷ ms) = parted_free (kind m) m (between kind ms) refl (between_free ms)

  joined_cut : (ts : List Marks) → AllFree ts → AreCut kind ts (joined ts)
  joined_cut [] h = refl
  joined_cut (t ∷ ts) h = (G kind t, joined ts, refl, (made t h.0).gap, joined_cut ts h.1)

  pub pass_cutting : (text : Marks) → IsCutting kind text (fields_from kind Gap [] text)
  unfolding IsCutting
  pass_cutting text = subst (AreCut kind (between kind text)) (sym (over_gap (between kind text)) ∙ sym (parts_pass text Gap [])) (joined_cut (between kind text) (between_free text))
