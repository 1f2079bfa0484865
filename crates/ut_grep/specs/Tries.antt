-- The states of an automaton, one for each front of its texts.
use Rattle.std.specs.Prelude.{◌≡◌, ℕ, ◌+◌, ◌<◌, ◌≤◌, List, [], ◌∷◌, ◌++◌, length, take, drop, slice_index_or, true, false}
use Rattle.rk_base.specs.Text.{Text, begins_with}
use Rattle.ut_grep.specs.declared.trie.State.{State}
use Rattle.ut_grep.specs.declared.trie.Trie.{Trie}
use Rattle.ut_grep.specs.Ordered.{AreOrdered}
use Rattle.ut_grep.specs.Reading.{begins_any, longest, ends_any, is_any}

abbrev pub texts_of : Trie → List Text
texts_of t = t.texts.items

-- how many states there are
abbrev pub count : Trie → ℕ
count t = length t.states.items

abbrev pub text_at : Trie → ℕ → Text
text_at t k = slice_index_or t.texts.items k []

abbrev pub no_state : State
no_state = record { low = 0; high = 0; length = 0; link = 0; is_text = false; holds = false }

abbrev pub state_at : Trie → ℕ → State
state_at t at = slice_index_or t.states.items at no_state

-- the last byte of what a state stands for
abbrev pub byte_at : Trie → ℕ → ℕ
byte_at t at = slice_index_or t.bytes.items at 0

-- where the states begin that are one byte longer than this one
abbrev pub start_at : Trie → ℕ → ℕ
start_at t at = slice_index_or t.starts.items at 0

-- what a state stands for: the front of its first text
abbrev pub front_of : List Text → State → Text
front_of texts s = take s.length (slice_index_or texts s.low [])

abbrev pub front_at : Trie → ℕ → Text
front_at t at = front_of (texts_of t) (state_at t at)

-- the texts from one on, and up to another, are those that begin so
pub record IsGroup (texts : List Text) (front : Text) (low high : ℕ) : Type 0 where
  pub within : (k : ℕ) → low ≤ k → k < high → begins_with (slice_index_or texts k []) front ≡ true
  pub all : (k : ℕ) → k < length texts → begins_with (slice_index_or texts k []) front ≡ true → (low ≤ k) × (k < high)
  pub fits : high ≤ length texts

-- what a state stands for begins a text, and its link leads to the longest other front that ends it
pub record IsLinked (t : Trie) (at : ℕ) (s : State) : Type 0 where
  pub some : 0 < length (front_of (texts_of t) s)
  pub begun : begins_any (texts_of t) (front_of (texts_of t) s) ≡ true
  pub before : s.link < at
  pub front : front_at t s.link ≡ longest (texts_of t) (drop 1 (front_of (texts_of t) s))

-- what holds of the state with this number
pub record IsState (t : Trie) (at : ℕ) (s : State) : Type 0 where
  pub size : length (front_of (texts_of t) s) ≡ s.length
  pub group : IsGroup (texts_of t) (front_of (texts_of t) s) s.low s.high
  pub text : s.is_text ≡ is_any (texts_of t) (front_of (texts_of t) s)
  pub ends : s.holds ≡ ends_any (texts_of t) (front_of (texts_of t) s)
  pub linked : 0 < at → IsLinked t at s

-- these states are all that are one byte longer than a front
pub record AreNext (t : Trie) (front : Text) (start end : ℕ) : Type 0 where
  pub rises : start ≤ end
  pub fits : end ≤ count t
  pub fronts : (c : ℕ) → start ≤ c → c < end → front_at t c ≡ front ++ byte_at t c ∷ []
  pub every : (b : ℕ) → ((c : ℕ) → start ≤ c → c < end → byte_at t c ≡ b → ⊥) → begins_any (texts_of t) (front ++ b ∷ []) ≡ false

-- The first states have their next ones: as many as there are starts, less one.
pub record IsTrie (t : Trie) : Type 0 where
  pub ordered : AreOrdered (texts_of t)
  pub some : 0 < count t
  pub root : front_at t 0 ≡ []
  pub bytes : length t.bytes.items ≡ count t
  pub starts : length t.starts.items ≤ count t + 1
  pub states : (at : ℕ) → at < count t → IsState t at (state_at t at)
  pub next : (at : ℕ) → at + 1 < length t.starts.items → AreNext t (front_at t at) (start_at t at) (start_at t (at + 1))

-- each of its states has them
pub record IsWhole (t : Trie) : Type 0 where
  pub trie : IsTrie t
  pub starts : length t.starts.items ≡ count t + 1

-- a state that stands for one byte more
pub record IsNext (t : Trie) (at b c : ℕ) : Type 0 where
  pub within : c < count t
  pub front : front_at t c ≡ front_at t at ++ b ∷ []
  pub begun : begins_any (texts_of t) (front_at t c) ≡ true
