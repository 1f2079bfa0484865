-- What options and operands choose.
use Rattle.std.specs.Prelude.{ℕ, List, [], ◌∷◌, ◌++◌, codes, nat_lt, Result, Ok, Err, if◌then◌else◌}
use Rattle.rk_base.specs.Text.{Text}
use Rattle.ut_args.specs.Opts.{ArgsValue, gives}
use Rattle.ut_bre.specs.Reading.{Read, reads, bad_at, read_folded}
use Rattle.ut_filter.specs.Lines.{lines_of}
use Rattle.ut_grep.specs.declared.grep.Manner.{Manner}
use Rattle.ut_grep.specs.Greps.{PatternValue, fixed, basic, GrepValue, folded}

-- with so many operands
abbrev pub manner_of : ArgsValue → ℕ → Manner
manner_of args operands =
    record {
      fixed = gives args (codes "F");
      folded = gives args (codes "i");
      inverted = gives args (codes "v");
      whole = gives args (codes "x");
      numbered = gives args (codes "n");
      counted = gives args (codes "c");
      listed = gives args (codes "l");
      quiet = gives args (codes "q");
      many = nat_lt 1 operands;
    }

-- a text's parts between newlines: its lines, where one more newline ends the last
abbrev pub patterns_in : Text → List Text
patterns_in text = lines_of (text ++ 10 ∷ [])

abbrev pub all_patterns : List Text → List Text
all_patterns [] = []
all_patterns (text ∷ texts) = patterns_in text ++ all_patterns texts

-- a text as a pattern; where it is none, itself
abbrev pub basic_of : Text → Read → Result PatternValue Text
basic_of text (reads e) = Ok (basic e)
basic_of text (bad_at at) = Err text

abbrev pub pattern_of : Manner → Text → Result PatternValue Text
pattern_of m text = if m.fixed then Ok (fixed (folded m.folded text)) else basic_of text (read_folded m.folded text)

abbrev pub and_pattern : Result PatternValue Text → Result (List PatternValue) Text → Result (List PatternValue) Text
and_pattern (Err text) r = Err text
and_pattern (Ok p) (Err text) = Err text
and_pattern (Ok p) (Ok ps) = Ok (p ∷ ps)

-- texts as patterns, or the first that is none
abbrev pub patterns_of : Manner → List Text → Result (List PatternValue) Text
patterns_of m [] = Ok []
patterns_of m (text ∷ texts) = and_pattern (pattern_of m text) (patterns_of m texts)

abbrev pub grep_of : Manner → List PatternValue → GrepValue
grep_of m patterns =
    record {
      patterns = patterns;
      folded = m.folded;
      inverted = m.inverted;
      whole = m.whole;
      numbered = m.numbered;
      counted = m.counted;
      listed = m.listed;
      quiet = m.quiet;
      many = m.many;
    }
