-- States that are added.
use Rattle.std.proofs.Common.{◌≡◌, ℕ, suc, ◌+◌, ◌≤◌, ◌<◌, List, [], ◌∷◌, ◌++◌, length, get_or, take, drop, Bool, true, false, refl, sym, ap, ◌∙◌, subst, inl, inr, arith, eq-eqb, eqb-true, length-append}
use Rattle.std.proofs.Math.Seq.{take-length, get_or-append_seam}
use Rattle.std.proofs.Math.ListN.{get_or-append}
use Rattle.std.proofs.lemmas.Bool.{cases_lt}
use Rattle.std.proofs.lemmas.List.Folds.{list_any_at}
use Rattle.std.proofs.lemmas.Option.{same_Some}
use Rattle.std.specs.Prelude.{◌⊎◌, ◌&&◌, ◌||◌, ◌==◌, Some, None}
use Rattle.std.specs.Cmp.Lexicographic.{bytes_decides}
use Rattle.std.specs.List.{list_any, slice_get}
use Rattle.rk_base.specs.Text.{Text, begins_with, same_text}
use Rattle.ut_grep.specs.declared.trie.State.{State}
use Rattle.ut_grep.specs.declared.trie.Trie.{Trie}
use Rattle.ut_grep.specs.Growing.{IsRun, IsNewState, IsKept, IsAdded, IsExpanded}
use Rattle.ut_grep.specs.Ordered.{AreOrdered}
use Rattle.ut_grep.specs.Reading.{begins_any, longest, ends_any, is_any}
use Rattle.ut_grep.specs.Tries.{texts_of, count, text_at, no_state, state_at, byte_at, start_at, front_of, front_at, IsGroup, IsState, AreNext, IsTrie}
use Rattle.ut_grep.proofs.OrderLemmas.{begins-among, same-first}
use Rattle.ut_grep.proofs.ReadingLemmas.{never_true, begins-is, is-begins, begins-shorter, ends-linked}

-- the byte behind a front

both : (a b : Bool) → a && b ≡ true → (a ≡ true) × (b ≡ true)
both true b h = (refl, h)
both false b h = absurd (cc)

pub begins-byte : (text f : Text) (b : ℕ) → begins_with text (f ++ b ∷ []) ≡ true → slice_get text (length f) ≡ Some b
begins-byte [] [] b h = absurd (cc)
begins-byte [] (g ∷ gs) b h = absurd (cc)
begins-byte (c ∷ cs) [] b h = ap Some (eqb-true c b (both (c == b) _ h).0)
begins-byte (c ∷ cs) (g ∷ gs) b h = begins-byte cs gs b (both (c == g) _ h).1

pub byte-begins : (text f : Text) (b : ℕ) → begins_with text f ≡ true → slice_get text (length f) ≡ Some b → begins_with text (f ++ b ∷ []) ≡ true
byte-begins [] [] b h e = absurd (cc)
byte-begins [] (g ∷ gs) b h e = absurd (cc)
byte-begins (c ∷ cs) [] b h e = rw (eq-eqb c b (same_Some c b e)) refl
byte-begins (c ∷ cs) (g ∷ gs) b h e =
    let parts = both (c == g) (begins_with cs gs) h in
    ap (λ z. z && begins_with cs (gs ++ b ∷ [])) parts.0 ∙ byte-begins cs gs b parts.1 e

any-index : (f : Text → Bool) (xs : List Text) → list_any f xs ≡ true → (k : ℕ) × (k < length xs) × (f (get_or xs k []) ≡ true)
any-index f [] h = absurd (cc)
any-index f (x ∷ xs) h = by (f x) refl h (any-index f xs)
  where
    by : (v : Bool) → f x ≡ v → v || list_any f xs ≡ true → (list_any f xs ≡ true → (k : ℕ) × (k < length xs) × (f (get_or xs k []) ≡ true)) → (k : ℕ) × (k < length (x ∷ xs)) × (f (get_or (x ∷ xs) k []) ≡ true)
    by true e h more = (0, omega arith, e)
    by false e h more = let found = more h in (suc found.0, omega arith, found.2)

same-true : (a b : Bool) → (a ≡ true → b ≡ true) → (b ≡ true → a ≡ true) → a ≡ b
same-true true b h k = sym (h refl)
same-true false true h k = absurd (let e = k refl in cc)
same-true false false h k = refl

-- the first text of a group is the front, where any text is
first-text : (ts : List Text) (f : Text) (low high : ℕ) → AreOrdered ts → low < high → IsGroup ts f low high → (length (get_or ts low []) == length f) ≡ is_any ts f
first-text ts f low high o lt group =
    let front = begins-is (get_or ts low []) f (group.within low (omega arith) lt) in
    let fits = group.fits in
    same-true _ _
    (λ e.
    let whole : get_or ts low [] ≡ f = sym (take-length (get_or ts low [])) ∙ (ap (λ z. take z (get_or ts low [])) (eqb-true _ _ e) ∙ front) in
    list_any_at (same_text f) ts low [] (omega arith) ((bytes_decides f (get_or ts low [])).1 (sym whole)))
    (λ e.
    let found = any-index (same_text f) ts e in
    let is : get_or ts found.0 [] ≡ f = sym ((bytes_decides f (get_or ts found.0 [])).0 found.2) in
    let begun : begins_with (get_or ts found.0 []) f ≡ true = is-begins (get_or ts found.0 []) f (ap (λ z. take (length z) (get_or ts found.0 [])) (sym is) ∙ (take-length (get_or ts found.0 []) ∙ is)) in
    let first = same-first ts f low found.0 o (group.all found.0 found.1 begun).0 found.1 (group.within low (omega arith) lt) is in
    eq-eqb _ _ (ap length first))

-- a new state

module _ (t : Trie) (trie : IsTrie t) (at b low high link : ℕ) (s : State) (lt : at < count t) (some : low < high) (group : IsGroup (texts_of t) (front_at t at ++ b ∷ []) low high) (within : link < count t) (linked : front_at t link ≡ longest (texts_of t) (drop 1 (front_at t at ++ b ∷ []))) (e-low : s.low ≡ low) (e-high : s.high ≡ high) (e-length : s.length ≡ (state_at t at).length + 1) (e-link : s.link ≡ link) (e-text : s.is_text ≡ (length (text_at t low) == s.length)) (e-holds : s.holds ≡ s.is_text || (state_at t link).holds) where
  abbrev grown : Text
  grown = front_at t at ++ b ∷ []

  grown-size : length grown ≡ s.length
  grown-size = let l = length-append (front_at t at) (b ∷ []) in let m = (trie.states at lt).size in omega arith

  grown-front : front_of (texts_of t) s ≡ grown
  grown-front =
      ap (λ z. take s.length (get_or (texts_of t) z [])) e-low ∙ (ap (λ z. take z (get_or (texts_of t) low [])) (sym grown-size) ∙ begins-is (get_or (texts_of t) low []) grown (group.within low (omega arith) some))

  grown-text : s.is_text ≡ is_any (texts_of t) grown
  grown-text = e-text ∙ (ap (λ z. length (text_at t low) == z) (sym grown-size) ∙ first-text (texts_of t) grown low high trie.ordered some group)

  grown-ends : s.holds ≡ ends_any (texts_of t) grown
  grown-ends =
      let l = grown-size in
      e-holds ∙ (ap (λ z. z || (state_at t link).holds) grown-text ∙ (ap (λ z. is_any (texts_of t) grown || z) ((trie.states link within).ends ∙ ap (ends_any (texts_of t)) linked) ∙ sym (ends-linked (texts_of t) grown (omega arith))))

  grown-group : IsGroup (texts_of t) (front_of (texts_of t) s) s.low s.high
  grown-group = rw (grown-front, e-low, e-high) group

  pub new-state : IsNewState t at b s
  new-state =
      let size : length (front_of (texts_of t) s) ≡ s.length = ap length grown-front ∙ grown-size in
      record {
        state = record {
          size = size;
          group = grown-group;
          text = grown-text ∙ ap (is_any (texts_of t)) (sym grown-front);
          ends = grown-ends ∙ ap (ends_any (texts_of t)) (sym grown-front);
          linked = λ h. record {
            some = omega arith;
            begun = ap (begins_any (texts_of t)) grown-front ∙ list_any_at (λ text. begins_with text grown) (texts_of t) low [] (let n = group.fits in omega arith) (group.within low (omega arith) some);
            before = omega arith;
            front = ap (front_at t) e-link ∙ (linked ∙ ap (λ z. longest (texts_of t) (drop 1 z)) (sym grown-front));
          };
        };
        front = grown-front;
      }

-- what stands there still

module _ (old new : Trie) (kept : IsKept old new) where
  pub kept-text : (k : ℕ) → text_at new k ≡ text_at old k
  kept-text k = ap (λ z. get_or z k []) kept.texts

  pub kept-front : (k : ℕ) → k < count old → front_at new k ≡ front_at old k
  kept-front k h = ap (λ z. front_of z (state_at new k)) kept.texts ∙ ap (front_of (texts_of old)) (kept.states k h)

  kept-state : (k : ℕ) (s : State) → k ≤ count old → IsState old k s → IsState new k s
  kept-state k s le st =
      record {
        size = rw kept.texts st.size;
        group = rw kept.texts st.group;
        text = rw kept.texts st.text;
        ends = rw kept.texts st.ends;
        linked = λ h.
            let linked = st.linked h in
            record {
              some = rw kept.texts linked.some;
              begun = rw kept.texts linked.begun;
              before = linked.before;
              front = kept-front s.link (let l = linked.before in omega arith) ∙ rw kept.texts linked.front;
            };
      }

  kept-state_at : IsTrie old → (k : ℕ) → k < count old → IsState new k (state_at new k)
  kept-state_at trie k h = rw (kept.states k h) (kept-state k (state_at old k) (omega arith) (trie.states k h))

  kept-next : (f : Text) (start end : ℕ) → length old.bytes.items ≡ count old → AreNext old f start end → AreNext new f start end
  kept-next f start end all next =
      let fits = next.fits in
      let more = kept.grows in
      record {
        rises = next.rises;
        fits = omega arith;
        fronts = λ c le lt. kept-front c (omega arith) ∙ (next.fronts c le lt ∙ ap (λ z. f ++ z ∷ []) (sym (kept.bytes c (omega arith))));
        every = λ b none. rw kept.texts (next.every b (λ c le lt e. none c le lt (kept.bytes c (omega arith) ∙ e)));
      }

-- an added state

module _ (old new : Trie) (trie : IsTrie old) (at b : ℕ) (s : State) (lt : at < count old) (state : IsNewState old at b s) (et : new.texts.items ≡ old.texts.items) (es : new.states.items ≡ old.states.items ++ s ∷ []) (eb : new.bytes.items ≡ old.bytes.items ++ b ∷ []) (ei : new.starts.items ≡ old.starts.items) where
  added-one : count new ≡ count old + 1
  added-one = ap length es ∙ length-append old.states.items (s ∷ [])

  added-kept : IsKept old new
  added-kept =
      record {
        texts = et;
        grows = let l = added-one in omega arith;
        states = λ k h. ap (λ z. get_or z k no_state) es ∙ get_or-append old.states.items (s ∷ []) no_state k h;
        bytes = λ k h. ap (λ z. get_or z k 0) eb ∙ get_or-append old.bytes.items (b ∷ []) 0 k h;
      }

  added-last : state_at new (count old) ≡ s
  added-last = ap (λ z. get_or z (count old) no_state) es ∙ get_or-append_seam old.states.items s [] no_state

  added-states : (k : ℕ) → k < count new → IsState new k (state_at new k)
  added-states k h = by (cases_lt k (count old))
    where
      by : (k < count old) ⊎ (count old ≤ k) → IsState new k (state_at new k)
      by (inl below) = kept-state_at old new added-kept trie k below
      by (inr last) =
          let P : ℕ → Type 0 = λ z. IsState new z (state_at new z) in
          let e : count old ≡ k = let l = added-one in omega arith in
          subst P e (rw added-last (kept-state old new added-kept (count old) s (omega arith) state.state))

  added-next : (k : ℕ) → k + 1 < length new.starts.items → AreNext new (front_at new k) (start_at new k) (start_at new (k + 1))
  added-next k h =
      let l = ap length ei in
      let m = trie.starts in
      let same : (j : ℕ) → start_at new j ≡ start_at old j = λ j. ap (λ z. get_or z j 0) ei in
      rw (kept-front old new added-kept k (omega arith), same k, same (k + 1)) (kept-next old new added-kept (front_at old k) (start_at old k) (start_at old (k + 1)) trie.bytes (trie.next k (omega arith)))

  added-trie : IsTrie new
  added-trie =
      let one = added-one in
      let some = trie.some in
      let starts = trie.starts in
      let bytes = trie.bytes in
      let l = ap length ei in
      let m = ap length eb ∙ length-append old.bytes.items (b ∷ []) in
      record {
        ordered = rw et trie.ordered;
        some = omega arith;
        root = kept-front old new added-kept 0 some ∙ trie.root;
        bytes = omega arith;
        starts = omega arith;
        states = added-states;
        next = added-next;
      }

  pub is-added : IsAdded old new at b
  is-added =
      record {
        kept = added-kept;
        trie = added-trie;
        starts = ei;
        one = added-one;
        front = ap (front_of (texts_of new)) added-last ∙ (ap (λ z. front_of z s) et ∙ state.front);
        byte = ap (λ z. get_or z (count old) 0) eb ∙ (ap (λ z. get_or (old.bytes.items ++ b ∷ []) z 0) (sym trie.bytes) ∙ get_or-append_seam old.bytes.items b [] 0);
      }

-- runs of texts in a group

-- no text from here on begins, with one byte more, as an earlier one does
abbrev IsCut : List Text → Text → ℕ → Type 0
IsCut ts f low = (i j b : ℕ) → i < low → low ≤ j → j < length ts → begins_with (get_or ts i []) (f ++ b ∷ []) ≡ true → begins_with (get_or ts j []) (f ++ b ∷ []) ≡ true → ⊥

module _ (ts : List Text) (ordered : AreOrdered ts) (f : Text) (first high : ℕ) (group : IsGroup ts f first high) where
  cut-first : IsCut ts f first
  cut-first i j b lt le lt' h k =
      let inside = group.all i (omega arith) (begins-shorter (get_or ts i []) f (b ∷ []) h) in omega arith

  cut-skip : (low : ℕ) → slice_get (get_or ts low []) (length f) ≡ None → IsCut ts f low → IsCut ts f (low + 1)
  cut-skip low none cut i j b lt le lt' h k = by (cases_lt i low)
    where
      by : (i < low) ⊎ (low ≤ i) → ⊥
      by (inl before) = cut i j b before (omega arith) lt' h k
      by (inr here) =
          let P : ℕ → Type 0 = λ z. slice_get (get_or ts z []) (length f) ≡ Some b in
          let some = subst P (let e : i ≡ low = omega arith in e) (begins-byte (get_or ts i []) f b h) in
          cc

  module _ (t : Trie) (b low end : ℕ) (same : texts_of t ≡ ts) (le : first ≤ low) (byte : slice_get (text_at t low) (length f) ≡ Some b) (run : IsRun t (length f) b low high end) (cut : IsCut ts f low) where
    run-within : (k : ℕ) → low ≤ k → k < end → begins_with (get_or ts k []) (f ++ b ∷ []) ≡ true
    run-within k from to = byte-begins (get_or ts k []) f b (group.within k (omega arith) (let l = run.fits in omega arith)) (by (cases_lt low k))
      where
        by : (low < k) ⊎ (k ≤ low) → slice_get (get_or ts k []) (length f) ≡ Some b
        by (inl behind) = ap (λ z. slice_get (get_or z k []) (length f)) (sym same) ∙ run.run k behind to
        by (inr here) =
            let e : k ≡ low = omega arith in
            ap (λ z. slice_get (get_or z k []) (length f)) (sym same) ∙ (ap (λ z. slice_get (text_at t z) (length f)) e ∙ byte)

    run-all : (k : ℕ) → k < length ts → begins_with (get_or ts k []) (f ++ b ∷ []) ≡ true → (low ≤ k) × (k < end)
    run-all k lt h = (from (cases_lt k low), to (cases_lt k end))
      where
        here : begins_with (get_or ts low []) (f ++ b ∷ []) ≡ true
        here = run-within low (omega arith) run.some

        from : (k < low) ⊎ (low ≤ k) → low ≤ k
        from (inl before) = absurd (cut k low b before (omega arith) (let l = run.some in let m = run.fits in let n = group.fits in omega arith) h here)
        from (inr behind) = behind

        to : (k < end) ⊎ (end ≤ k) → k < end
        to (inl before) = before
        to (inr behind) =
            let l = run.some in
            let begun = begins-among ts (f ++ b ∷ []) low end k ordered (omega arith) behind lt here h in
            let inside = (group.all end (omega arith) (begins-shorter (get_or ts end []) f (b ∷ []) begun)).1 in
            absurd (run.over inside (ap (λ z. slice_get (get_or z end []) (length f)) same ∙ begins-byte (get_or ts end []) f b begun))

    run-group : IsGroup ts (f ++ b ∷ []) low end
    run-group = record { within = run-within; all = run-all; fits = let l = run.fits in let m = group.fits in omega arith }

    cut-run : IsCut ts f end
    cut-run i j b' lt le' lt' h k = by (cases_lt i low)
      where
        by : (i < low) ⊎ (low ≤ i) → ⊥
        by (inl before) = cut i j b' before (let l = run.some in omega arith) lt' h k
        by (inr here) =
            let e : b' ≡ b = same_Some b' b (sym (begins-byte (get_or ts i []) f b' h) ∙ begins-byte (get_or ts i []) f b (run-within i here lt)) in
            let P : ℕ → Type 0 = λ z. begins_with (get_or ts j []) (f ++ z ∷ []) ≡ true in
            let before = (run-all j lt' (subst P e k)).1 in
            omega arith

-- the next states of one, as far as its texts are looked at

pub record IsPart (old now : Trie) (at low : ℕ) : Type 0 where
  pub kept : IsKept old now
  pub trie : IsTrie now
  pub starts : now.starts.items ≡ old.starts.items
  pub first : (state_at old at).low ≤ low
  pub fronts : (c : ℕ) → count old ≤ c → c < count now → front_at now c ≡ front_at old at ++ byte_at now c ∷ []
  pub every : (i b : ℕ) → i < low → i < length (texts_of old) → begins_with (text_at old i) (front_at old at ++ b ∷ []) ≡ true → ((c : ℕ) → count old ≤ c → c < count now → byte_at now c ≡ b → ⊥) → ⊥
  pub cut : IsCut (texts_of old) (front_at old at) low

module _ (old : Trie) (trie : IsTrie old) (at : ℕ) (lt : at < count old) where
  abbrev parent : State
  parent = state_at old at

  parent-group : IsGroup (texts_of old) (front_at old at) parent.low parent.high
  parent-group = (trie.states at lt).group

  pub part-first : IsPart old old at parent.low
  part-first =
      record {
        kept = record { texts = refl; grows = omega arith; states = λ k h. refl; bytes = λ k h. refl };
        trie = trie;
        starts = refl;
        first = omega arith;
        fronts = λ c from to. absurd (omega arith);
        every = λ i b before within h none. let inside = parent-group.all i within (begins-shorter (text_at old i) (front_at old at) (b ∷ []) h) in omega arith;
        cut = cut-first (texts_of old) trie.ordered (front_at old at) parent.low parent.high parent-group;
      }

  module _ (now : Trie) (low : ℕ) (part : IsPart old now at low) where
    place-size : parent.length ≡ length (front_at old at)
    place-size = sym (trie.states at lt).size

    pub part-skip : slice_get (text_at now low) parent.length ≡ None → IsPart old now at (low + 1)
    part-skip none =
        let nothing : slice_get (text_at old low) (length (front_at old at)) ≡ None = ap (slice_get (text_at old low)) (sym place-size) ∙ (ap (λ z. slice_get z parent.length) (sym (kept-text old now part.kept low)) ∙ none) in
        record {
          kept = part.kept;
          trie = part.trie;
          starts = part.starts;
          first = let l = part.first in omega arith;
          fronts = part.fronts;
          every = λ i b before within h missing. every nothing i b within h missing (cases_lt i low) before;
          cut = cut-skip (texts_of old) trie.ordered (front_at old at) parent.low parent.high parent-group low nothing part.cut;
        }
      where
        every : slice_get (text_at old low) (length (front_at old at)) ≡ None → (i b : ℕ) → i < length (texts_of old) → begins_with (text_at old i) (front_at old at ++ b ∷ []) ≡ true → ((c : ℕ) → count old ≤ c → c < count now → byte_at now c ≡ b → ⊥) → (i < low) ⊎ (low ≤ i) → i < low + 1 → ⊥
        every nothing i b within h missing (inl before) last = part.every i b before within h missing
        every nothing i b within h missing (inr here) last =
            let P : ℕ → Type 0 = λ z. slice_get (text_at old z) (length (front_at old at)) ≡ Some b in
            let some = subst P (let e : i ≡ low = omega arith in e) (begins-byte (text_at old i) (front_at old at) b h) in
            cc

    module _ (b end : ℕ) (byte : slice_get (text_at now low) parent.length ≡ Some b) (run : IsRun now parent.length b low parent.high end) where
      abbrev place-run : IsRun now (length (front_at old at)) b low parent.high end
      place-run = rw (← place-size) run

      place-byte : slice_get (text_at now low) (length (front_at old at)) ≡ Some b
      place-byte = ap (slice_get (text_at now low)) (sym place-size) ∙ byte

      old-group : IsGroup (texts_of old) (front_at old at ++ b ∷ []) low end
      old-group = run-group (texts_of old) trie.ordered (front_at old at) parent.low parent.high parent-group now b low end part.kept.texts part.first place-byte place-run part.cut

      pub part-group : IsGroup (texts_of now) (front_at now at ++ b ∷ []) low end
      part-group = rw (kept-front old now part.kept at lt, part.kept.texts) old-group

      module _ (new : Trie) (added : IsAdded now new at b) where
        part-kept : IsKept old new
        part-kept =
            let more = part.kept.grows in
            let first = added.kept.grows in
            let old-bytes = trie.bytes in
            let now-bytes = part.trie.bytes in
            record {
              texts = added.kept.texts ∙ part.kept.texts;
              grows = omega arith;
              states = λ k h. added.kept.states k (omega arith) ∙ part.kept.states k h;
              bytes = λ k h. added.kept.bytes k (omega arith) ∙ part.kept.bytes k h;
            }

        earlier-byte : (c : ℕ) → c < count now → byte_at new c ≡ byte_at now c
        earlier-byte c h = added.kept.bytes c (let l = part.trie.bytes in omega arith)

        part-fronts : (c : ℕ) → count old ≤ c → c < count new → front_at new c ≡ front_at old at ++ byte_at new c ∷ []
        part-fronts c from to = by (cases_lt c (count now))
          where
            by : (c < count now) ⊎ (count now ≤ c) → front_at new c ≡ front_at old at ++ byte_at new c ∷ []
            by (inl before) = kept-front now new added.kept c before ∙ (part.fronts c from before ∙ ap (λ z. front_at old at ++ z ∷ []) (sym (earlier-byte c before)))
            by (inr here) =
                let e : count now ≡ c = let l = added.one in omega arith in
                let P : ℕ → Type 0 = λ z. front_at new z ≡ front_at old at ++ byte_at new z ∷ [] in
                subst P e (added.front ∙ (ap (λ z. z ++ b ∷ []) (kept-front old now part.kept at lt) ∙ ap (λ z. front_at old at ++ z ∷ []) (sym added.byte)))

        part-every : (i b' : ℕ) → i < end → i < length (texts_of old) → begins_with (text_at old i) (front_at old at ++ b' ∷ []) ≡ true → ((c : ℕ) → count old ≤ c → c < count new → byte_at new c ≡ b' → ⊥) → ⊥
        part-every i b' before within h missing = by (cases_lt i low)
          where
            by : (i < low) ⊎ (low ≤ i) → ⊥
            by (inl earlier) = part.every i b' earlier within h (λ c from to e. missing c from (let l = added.one in omega arith) (earlier-byte c to ∙ e))
            by (inr here) =
                let e : b ≡ b' = same_Some b b' (sym (begins-byte (text_at old i) (front_at old at) b (old-group.within i here before)) ∙ begins-byte (text_at old i) (front_at old at) b' h) in
                missing (count now) part.kept.grows (let l = added.one in omega arith) (added.byte ∙ e)

        pub part-added : IsPart old new at end
        part-added =
            record {
              kept = part-kept;
              trie = added.trie;
              starts = added.starts ∙ part.starts;
              first = let l = part.first in let m = run.some in omega arith;
              fronts = part-fronts;
              every = part-every;
              cut = cut-run (texts_of old) trie.ordered (front_at old at) parent.low parent.high parent-group now b low end part.kept.texts part.first place-byte place-run part.cut;
            }

-- all of its texts were looked at

module _ (old now new : Trie) (trie : IsTrie old) (at low : ℕ) (lt : at < count old) (last : at + 1 ≡ length old.starts.items) (start : start_at old at ≡ count old) (part : IsPart old now at low) (over : (state_at old at).high ≤ low) (et : new.texts.items ≡ now.texts.items) (es : new.states.items ≡ now.states.items) (eb : new.bytes.items ≡ now.bytes.items) (ei : new.starts.items ≡ now.starts.items ++ count now ∷ []) where
  whole-kept : IsKept now new
  whole-kept =
      record {
        texts = et;
        grows = let l = ap length es in omega arith;
        states = λ k h. ap (λ z. get_or z k no_state) es;
        bytes = λ k h. ap (λ z. get_or z k 0) eb;
      }

  whole-count : count new ≡ count now
  whole-count = ap length es

  starts-one : length new.starts.items ≡ length old.starts.items + 1
  starts-one = ap length ei ∙ (length-append now.starts.items (count now ∷ []) ∙ ap (λ z. length z + 1) part.starts)

  earlier-start : (k : ℕ) → k < length old.starts.items → start_at new k ≡ start_at now k
  earlier-start k h = ap (λ z. get_or z k 0) ei ∙ get_or-append now.starts.items (count now ∷ []) 0 k (let l = ap length part.starts in omega arith)

  last-start : start_at new (at + 1) ≡ count now
  last-start =
      let e : length now.starts.items ≡ at + 1 = let l = ap length part.starts in omega arith in
      ap (λ z. get_or z (at + 1) 0) ei ∙ (ap (λ z. get_or (now.starts.items ++ count now ∷ []) z 0) (sym e) ∙ get_or-append_seam now.starts.items (count now) [] 0)

  whole-every : (b : ℕ) → ((c : ℕ) → count old ≤ c → c < count now → byte_at now c ≡ b → ⊥) → begins_any (texts_of old) (front_at old at ++ b ∷ []) ≡ false
  whole-every b none =
      never_true _ (λ h.
      let found = any-index (λ text. begins_with text (front_at old at ++ b ∷ [])) (texts_of old) h in
      let inside = (trie.states at lt).group.all found.0 found.1 (begins-shorter (text_at old found.0) (front_at old at) (b ∷ []) found.2) in
      part.every found.0 b (omega arith) found.1 found.2 none)

  now-next : AreNext now (front_at now at) (count old) (count now)
  now-next =
      rw (kept-front old now part.kept at lt) record {
        rises = part.kept.grows;
        fits = omega arith;
        fronts = part.fronts;
        every = λ b none. rw part.kept.texts (whole-every b none);
      }

  earlier-next : (k : ℕ) → k + 1 < length new.starts.items → AreNext now (front_at now k) (start_at new k) (start_at new (k + 1))
  earlier-next k h = by (cases_lt (k + 1) (length old.starts.items))
    where
      by : (k + 1 < length old.starts.items) ⊎ (length old.starts.items ≤ k + 1) → AreNext now (front_at now k) (start_at new k) (start_at new (k + 1))
      by (inl before) = rw (earlier-start k (omega arith), earlier-start (k + 1) before) (part.trie.next k (let l = ap length part.starts in omega arith))
      by (inr here) =
          let e : at ≡ k = let l = starts-one in omega arith in
          let R : ℕ → Type 0 = λ z. AreNext now (front_at now z) (start_at new z) (start_at new (z + 1)) in
          let first : start_at new at ≡ count old = earlier-start at (omega arith) ∙ (ap (λ z. get_or z at 0) part.starts ∙ start) in
          subst R e (rw (first, last-start) now-next)

  whole-next : (k : ℕ) → k + 1 < length new.starts.items → AreNext new (front_at new k) (start_at new k) (start_at new (k + 1))
  whole-next k h =
      let below : k < count now = let l = starts-one in let m = trie.starts in let n = part.kept.grows in omega arith in
      rw (kept-front now new whole-kept k below) (kept-next now new whole-kept (front_at now k) (start_at new k) (start_at new (k + 1)) part.trie.bytes (earlier-next k h))

  whole-trie : IsTrie new
  whole-trie =
      let some = part.trie.some in
      let same = whole-count in
      record {
        ordered = rw et part.trie.ordered;
        some = omega arith;
        root = kept-front now new whole-kept 0 some ∙ part.trie.root;
        bytes = let l = ap length eb in let m = part.trie.bytes in omega arith;
        starts = let l = starts-one in let m = part.kept.grows in omega arith;
        states = λ k h.
            let P : State → Type 0 = λ z. IsState new k z in
            subst P (sym (whole-kept.states k (omega arith))) (kept-state now new whole-kept k (state_at now k) (omega arith) (part.trie.states k (omega arith)));
        next = whole-next;
      }

  pub is-expanded : IsExpanded old new at
  is-expanded = record { trie = whole-trie; texts = et ∙ part.kept.texts; starts = starts-one; last = last-start ∙ sym whole-count }

-- the state of no bytes

module _ (t : Trie) (s : State) (ordered : AreOrdered (texts_of t)) (es : t.states.items ≡ s ∷ []) (eb : t.bytes.items ≡ 0 ∷ []) (ei : t.starts.items ≡ 1 ∷ []) (e-low : s.low ≡ 0) (e-high : s.high ≡ length (texts_of t)) (e-length : s.length ≡ 0) (e-text : s.is_text ≡ is_any (texts_of t) []) (e-holds : s.holds ≡ s.is_text) where
  root-state : state_at t 0 ≡ s
  root-state = ap (λ z. get_or z 0 no_state) es

  root-front : front_of (texts_of t) s ≡ []
  root-front = ap (λ z. take z (get_or (texts_of t) s.low [])) e-length

  root-group : IsGroup (texts_of t) (front_of (texts_of t) s) s.low s.high
  root-group =
      rw root-front record { within = λ k from to. refl; all = λ k within h. (omega arith, omega arith); fits = omega arith }

  root-is : IsState t 0 s
  root-is =
      record {
        size = ap length root-front ∙ sym e-length;
        group = root-group;
        text = e-text ∙ ap (is_any (texts_of t)) (sym root-front);
        ends = e-holds ∙ (e-text ∙ ap (ends_any (texts_of t)) (sym root-front));
        linked = λ h. absurd (omega arith);
      }

  pub root-trie : IsTrie t
  root-trie =
      let one = ap length es in
      let bytes = ap length eb in
      let starts = ap length ei in
      record {
        ordered = ordered;
        some = omega arith;
        root = ap (front_of (texts_of t)) root-state ∙ root-front;
        bytes = omega arith;
        starts = omega arith;
        states = λ k h.
            let e : 0 ≡ k = omega arith in
            let P : ℕ → Type 0 = λ z. IsState t z (state_at t z) in
            subst P e (rw root-state root-is);
        next = λ k h. absurd (omega arith);
      }

pub run-by : (t : Trie) (place other b low high bound end : ℕ) → place ≡ other → high ≡ bound → IsRun t place b low high end → IsRun t other b low bound end
run-by t place other b low high bound end e f run = rw (← e, ← f) run
