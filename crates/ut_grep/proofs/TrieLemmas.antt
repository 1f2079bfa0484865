-- The states that come next, and those that links lead to.
use Rattle.std.proofs.Common.{◌≡◌, ℕ, ◌+◌, ◌-◌, ◌≤◌, ◌<◌, List, [], ◌∷◌, ◌++◌, length, get_or, take, drop, true, false, sym, ap, ◌∙◌, subst, arith, eq-eqb, eqb-true, length-append, length-drop}
use Rattle.std.proofs.lemmas.List.{length-take, get_or-take, get_or-drop, get_or_default, take_more, take-append-drop}
use Rattle.std.specs.Prelude.{◌==◌, ◌||◌}
use Rattle.rk_base.specs.Text.{Text}
use Rattle.ut_grep.specs.declared.trie.State.{State}
use Rattle.ut_grep.specs.declared.trie.Trie.{Trie}
use Rattle.ut_grep.specs.Reading.{begins_any, longest, ends_any, is_any}
use Rattle.ut_grep.specs.Standing.{stands_any}
use Rattle.ut_grep.specs.Tries.{texts_of, count, no_state, state_at, byte_at, start_at, front_at, IsTrie, IsNext}
use Rattle.ut_grep.proofs.ReadingLemmas.{longest-begun, longest-missed, longest-none, longest-linked, longest-step, ends-longest, stands-one, stands-none, stands-more, is_any-none}

pub length-part : (bs : Text) (start end : ℕ) → start ≤ end → end ≤ length bs → length (take (end - start) (drop start bs)) ≡ end - start
length-part bs start end le fits =
    let l = length-take (end - start) (drop start bs) in
    let m = length-drop start bs in
    omega (arith, l, m)

part-at : (bs : Text) (start end c : ℕ) → start ≤ c → c < end → get_or (take (end - start) (drop start bs)) (c - start) 0 ≡ get_or bs c 0
part-at bs start end c le lt =
    get_or-take (end - start) (drop start bs) (c - start) 0 (omega arith) ∙ (get_or-drop start bs (c - start) 0 ∙ ap (λ z. get_or bs z 0) (omega arith))

module _ (t : Trie) (trie : IsTrie t) (at b start end : ℕ) (bs : Text) (lt : at + 1 < length t.starts.items) (s : start ≡ start_at t at) (e : end ≡ start_at t (at + 1)) (same : bs ≡ t.bytes.items) where
  pub next-none : ((k : ℕ) → k < length (take (end - start) (drop start bs)) → (get_or (take (end - start) (drop start bs)) k 0 == b) ≡ true → ⊥) → begins_any (texts_of t) (front_at t at ++ b ∷ []) ≡ false
  next-none none =
      let next = trie.next at lt in
      let fits : end ≤ length bs = let l = ap length same in let m = trie.bytes in let n = next.fits in omega arith in
      next.every b (λ c le lt' is.
      none (c - start) (let l = length-part bs start end (let r = next.rises in omega arith) fits in omega arith)
      (eq-eqb _ b (part-at bs start end c (omega arith) (omega arith) ∙ (ap (λ z. get_or z c 0) same ∙ is))))

  pub next-some : (k : ℕ) → k < length (take (end - start) (drop start bs)) → (get_or (take (end - start) (drop start bs)) k 0 == b) ≡ true → IsNext t at b (start + k)
  next-some k lt' is =
      let next = trie.next at lt in
      let fits : end ≤ length bs = let l = ap length same in let m = trie.bytes in let n = next.fits in omega arith in
      let below : start + k < end = let l = length-part bs start end (let r = next.rises in omega arith) fits in omega arith in
      let here : get_or (take (end - start) (drop start bs)) (start + k - start) 0 ≡ byte_at t (start + k) = part-at bs start end (start + k) (omega arith) below ∙ ap (λ z. get_or z (start + k) 0) same in
      let byte : byte_at t (start + k) ≡ b = sym here ∙ (ap (λ z. get_or (take (end - start) (drop start bs)) z 0) (omega arith) ∙ eqb-true _ b is) in
      let low : start_at t at ≤ start + k = omega arith in
      let high : start + k < start_at t (at + 1) = omega arith in
      let front : front_at t (start + k) ≡ front_at t at ++ b ∷ [] = next.fronts (start + k) low high ∙ ap (λ z. front_at t at ++ z ∷ []) byte in
      let some : start + k ≡ 0 → ⊥ = λ e.
      let none : length (front_at t (start + k)) ≡ 0 = ap length (ap (front_at t) e ∙ trie.root) in
      let one = ap length front ∙ length-append (front_at t at) (b ∷ []) in
      omega arith in
      let within : start + k < count t = let n = next.fits in omega arith in
      record { within = within; front = front; begun = ((trie.states (start + k) within).linked (omega arith)).begun }

pub link-missed : (t : Trie) (at b : ℕ) (s : State) → IsTrie t → at < count t → (at ≡ 0 → ⊥) → s ≡ get_or t.states.items at s → begins_any (texts_of t) (front_at t at ++ b ∷ []) ≡ false → (s.link < at) × (longest (texts_of t) (front_at t s.link ++ b ∷ []) ≡ longest (texts_of t) (front_at t at ++ b ∷ []))
link-missed t at b s trie lt some is none =
    let same : state_at t at ≡ s = sym (is ∙ get_or_default t.states.items at s no_state lt) in
    let linked = (trie.states at lt).linked (omega arith) in
    let P : State → Type 0 = λ z. (z.link < at) × (longest (texts_of t) (front_at t z.link ++ b ∷ []) ≡ longest (texts_of t) (front_at t at ++ b ∷ [])) in
    subst P same (linked.before, ap (λ z. longest (texts_of t) (z ++ b ∷ [])) linked.front ∙ sym (longest-missed (texts_of t) (front_at t at) b none))

pub root-missed : (t : Trie) (at b : ℕ) → IsTrie t → at ≡ 0 → begins_any (texts_of t) (front_at t at ++ b ∷ []) ≡ false → front_at t 0 ≡ longest (texts_of t) (front_at t at ++ b ∷ [])
root-missed t at b trie e none =
    let front : front_at t at ≡ [] = ap (front_at t) e ∙ trie.root in
    let P : Text → Type 0 = λ z. begins_any (texts_of t) (z ++ b ∷ []) ≡ false in
    trie.root ∙ sym (ap (λ z. longest (texts_of t) (z ++ b ∷ [])) front ∙ longest-none (texts_of t) b (subst P front none))

pub next-longest : (t : Trie) (at b c : ℕ) → IsNext t at b c → front_at t c ≡ longest (texts_of t) (front_at t at ++ b ∷ [])
next-longest t at b c next = sym (longest-begun (texts_of t) (front_at t c) next.begun) ∙ ap (longest (texts_of t)) next.front

-- the link of what is one byte longer

pub root-linked : (t : Trie) (at b : ℕ) → IsTrie t → at ≡ 0 → front_at t 0 ≡ longest (texts_of t) (drop 1 (front_at t at ++ b ∷ []))
root-linked t at b trie e = trie.root ∙ sym (ap (λ z. longest (texts_of t) (drop 1 (z ++ b ∷ []))) (ap (front_at t) e ∙ trie.root))

pub link-linked : (t : Trie) (at b : ℕ) (s : State) → IsTrie t → at < count t → (at ≡ 0 → ⊥) → s ≡ get_or t.states.items at s → (s.link < at) × (longest (texts_of t) (front_at t s.link ++ b ∷ []) ≡ longest (texts_of t) (drop 1 (front_at t at ++ b ∷ [])))
link-linked t at b s trie lt some is =
    let same : state_at t at ≡ s = sym (is ∙ get_or_default t.states.items at s no_state lt) in
    let linked = (trie.states at lt).linked (omega arith) in
    let P : State → Type 0 = λ z. (z.link < at) × (longest (texts_of t) (front_at t z.link ++ b ∷ []) ≡ longest (texts_of t) (drop 1 (front_at t at ++ b ∷ []))) in
    subst P same (linked.before, ap (λ z. longest (texts_of t) (z ++ b ∷ [])) linked.front ∙ sym (longest-linked (texts_of t) (front_at t at) b linked.some))

-- a line is read

module _ (t : Trie) (trie : IsTrie t) (line : Text) (i at : ℕ) (lt : i < length line) where
  pub read-front : (from : ℕ) → front_at t from ≡ longest (texts_of t) (take i line) → front_at t at ≡ longest (texts_of t) (front_at t from ++ get_or line i 0 ∷ []) → front_at t at ≡ longest (texts_of t) (take (i + 1) line)
  read-front from e step =
      step ∙ (ap (λ z. longest (texts_of t) (z ++ get_or line i 0 ∷ [])) e ∙ (sym (longest-step (texts_of t) (take i line) (get_or line i 0)) ∙ ap (longest (texts_of t)) (sym (take_more line i 0 lt))))

  pub read-stands : (s : State) → at < count t → s ≡ get_or t.states.items at s → front_at t at ≡ longest (texts_of t) (take (i + 1) line) → stands_any false (texts_of t) (take i line) ≡ false → stands_any false (texts_of t) (take (i + 1) line) ≡ s.holds
  read-stands s within is front none =
      let read : take (i + 1) line ≡ take i line ++ get_or line i 0 ∷ [] = take_more line i 0 lt in
      let ends : (state_at t at).holds ≡ ends_any (texts_of t) (take (i + 1) line) = (trie.states at within).ends ∙ (ap (ends_any (texts_of t)) front ∙ sym (ends-longest (texts_of t) (take (i + 1) line))) in
      ap (stands_any false (texts_of t)) read
      ∙ (stands-one (texts_of t) (take i line) (get_or line i 0)
      ∙ (ap (λ z. z || ends_any (texts_of t) (take i line ++ get_or line i 0 ∷ [])) none
      ∙ (ap (ends_any (texts_of t)) (sym read) ∙ (sym ends ∙ ap (λ z. z.holds) (sym (is ∙ get_or_default t.states.items at s no_state within))))))

pub root-stands : (t : Trie) (s : State) → IsTrie t → s ≡ get_or t.states.items 0 s → stands_any false (texts_of t) [] ≡ s.holds
root-stands t s trie is =
    stands-none (texts_of t)
    ∙ (ap (ends_any (texts_of t)) (sym trie.root) ∙ (sym (trie.states 0 trie.some).ends ∙ ap (λ z. z.holds) (sym (is ∙ get_or_default t.states.items 0 s no_state trie.some))))

pub stands-front : (ts : List Text) (line : Text) (i : ℕ) → stands_any false ts (take i line) ≡ true → true ≡ stands_any false ts line
stands-front ts line i h = sym (stands-more ts (take i line) (drop i line) h) ∙ ap (stands_any false ts) (take-append-drop i line)

pub front-none : (ts : List Text) (line : Text) (i : ℕ) → begins_any ts (take i line) ≡ false → false ≡ is_any ts line
front-none ts line i h = sym (is_any-none ts (take i line) (drop i line) h) ∙ ap (is_any ts) (take-append-drop i line)
