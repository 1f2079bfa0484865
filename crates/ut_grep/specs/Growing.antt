-- States that are added.
use Rattle.std.specs.Prelude.{◌≡◌, ℕ, ◌+◌, ◌<◌, ◌≤◌, [], ◌∷◌, ◌++◌, length, Some, slice_get}
use Rattle.ut_grep.specs.declared.trie.State.{State}
use Rattle.ut_grep.specs.declared.trie.Trie.{Trie}
use Rattle.ut_grep.specs.Tries.{texts_of, count, text_at, state_at, byte_at, start_at, front_of, front_at, IsState, IsTrie}

-- the texts behind this one, and up to the end, have a byte at a place, and the one there hasn't
pub record IsRun (t : Trie) (place b low high end : ℕ) : Type 0 where
  pub some : low < end
  pub fits : end ≤ high
  pub run : (k : ℕ) → low < k → k < end → slice_get (text_at t k) place ≡ Some b
  pub over : end < high → slice_get (text_at t end) place ≡ Some b → ⊥

-- it may be the last state, and stands for one byte more than another one
pub record IsNewState (t : Trie) (at b : ℕ) (s : State) : Type 0 where
  pub state : IsState t (count t) s
  pub front : front_of (texts_of t) s ≡ front_at t at ++ b ∷ []

-- what stood there stands there still
pub record IsKept (old new : Trie) : Type 0 where
  pub texts : texts_of new ≡ texts_of old
  pub grows : count old ≤ count new
  pub states : (at : ℕ) → at < count old → state_at new at ≡ state_at old at
  pub bytes : (at : ℕ) → at < length old.bytes.items → byte_at new at ≡ byte_at old at

-- a state was added that stands for one byte more than another one
pub record IsAdded (old new : Trie) (at b : ℕ) : Type 0 where
  pub kept : IsKept old new
  pub trie : IsTrie new
  pub starts : new.starts.items ≡ old.starts.items
  pub one : count new ≡ count old + 1
  pub front : front_at new (count old) ≡ front_at old at ++ b ∷ []
  pub byte : byte_at new (count old) ≡ b

-- one more state has its next ones
pub record IsExpanded (old new : Trie) (at : ℕ) : Type 0 where
  pub trie : IsTrie new
  pub texts : texts_of new ≡ texts_of old
  pub starts : length new.starts.items ≡ length old.starts.items + 1
  pub last : start_at new (at + 1) ≡ count new
