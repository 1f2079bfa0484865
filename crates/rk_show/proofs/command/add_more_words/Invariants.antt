use Rattle.std.proofs.Common.{◌≡◌, ◌++◌, drop}
use Rattle.std.specs.List.{flat_map}
use Rattle.rk_show.specs.Commands.{blank_word}
use Rattle.rk_show.proofs.command.add_more_words.Given as goal

abbrev pub invariant-loop-word : goal.invariant-loop-word
invariant-loop-word l = l.out.items ++ flat_map blank_word (drop l.word-index l.words) ≡ l.fn.out.items ++ flat_map blank_word l.words
