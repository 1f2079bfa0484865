use Rattle.std.proofs.Common.{arith}
use Rattle.ut_grep.proofs.trie.Trie.run_end.Goals as goal

pub returns-then-not-has_byte : goal.returns-then-not-has_byte
returns-then-not-has_byte c =
    record {
      some = omega arith;
      fits = omega arith;
      run = c.loop-text.invariant;
      over = λ lt is. let has = c.if-not-has_byte.ensures.1 is in cc;
    }
