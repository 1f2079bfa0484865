use Rattle.std.proofs.Common.{◌≡◌, ◌+◌, length}
use Rattle.ut_grep.specs.Tries.{texts_of, count, start_at, IsTrie}
use Rattle.ut_grep.proofs.trie.Trie.new.Given as goal

abbrev pub invariant-loop-number : goal.invariant-loop-number
invariant-loop-number l =
    IsTrie l.trie × (texts_of l.trie ≡ l.fn.texts.items) × (length l.trie.starts.items ≡ l.number + 1) × (start_at l.trie l.number ≡ count l.trie)
