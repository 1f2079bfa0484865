-- Many patterns, of which one is sought in a line.
use Rattle.std.specs.Prelude.{◌≡◌, Bool, true, false, List, length, map, nat_le, ◌&&◌}
use Rattle.std.specs.List.{list_all}
use Rattle.rk_base.specs.Text.{Text}
use Rattle.ut_grep.specs.declared.grep.Manner.{Manner}
use Rattle.ut_grep.specs.declared.pattern.Pattern.{Pattern}
use Rattle.ut_grep.specs.declared.pattern.Pattern.TheVariants.{Fixed, Basic}
use Rattle.ut_grep.specs.declared.sought.Sought.{Sought}
use Rattle.ut_grep.specs.Chosen.{grep_of}
use Rattle.ut_grep.specs.Greps.{folded, matches}
use Rattle.ut_grep.specs.Standing.{stands_any}
use Rattle.ut_grep.specs.Tries.{texts_of}
use Rattle.ut_grep.specs.Patterns.{pattern_value}

-- whether one of them stands in a line, or is the whole of it
abbrev pub sought_in : Sought → Text → Bool
sought_in s line = stands_any s.whole (texts_of s.automaton.trie) line

abbrev pub is_text : Pattern → Bool
is_text (Fixed text) = true
is_text (Basic bre) = false

-- whether patterns are sought together: where they are many, and each is a text
abbrev pub are_many : List Pattern → Bool
are_many patterns = nat_le 16 (length patterns) && list_all is_text patterns

-- one of them is sought in a line, in place of these patterns
abbrev pub IsSoughtInstead : Sought → Manner → List Pattern → Type 0
IsSoughtInstead s m patterns = (line : Text) → sought_in s (folded m.folded line) ≡ matches (grep_of m (map pattern_value patterns)) line
