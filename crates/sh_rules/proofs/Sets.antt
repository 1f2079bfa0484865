-- What follows each part, and what belongs to a mode, by numbers of kinds: computed from the rules, and checked in Tables.antt.
use Rattle.std.specs.Prelude.{ℕ, List, [], ◌∷◌}
use Rattle.sh_rules.specs.declared.token_kind.TokenKind.{TokenKind}
use Rattle.sh_rules.specs.declared.token_kind.Mode.{Mode}
use Rattle.sh_rules.specs.declared.token_kind.Mode.TheVariants as m
use Rattle.sh_rules.specs.Parts as p
use Rattle.sh_rules.specs.Parts.{Part}
use Rattle.sh_rules.proofs.Checked.{Sets}
use Rattle.sh_rules.specs.Kinds.{number}
use Rattle.sh_rules.specs.Choosing.{begins, may_be_empty}
use Rattle.sh_rules.proofs.Enumerated.{member}

abbrev pub follow_of : Part → List ℕ
follow_of p.opt_list = 19 ∷ 21 ∷ 23 ∷ 25 ∷ 26 ∷ 31 ∷ 32 ∷ 33 ∷ 36 ∷ 41 ∷ 73 ∷ []
follow_of p.list = 19 ∷ 21 ∷ 23 ∷ 25 ∷ 26 ∷ 31 ∷ 32 ∷ 33 ∷ []
follow_of p.list_rest = 19 ∷ 21 ∷ 23 ∷ 25 ∷ 26 ∷ 31 ∷ 32 ∷ 33 ∷ 36 ∷ 41 ∷ 73 ∷ []
follow_of p.newline = 1 ∷ 11 ∷ 13 ∷ 16 ∷ 17 ∷ 18 ∷ 19 ∷ 20 ∷ 21 ∷ 22 ∷ 23 ∷ 24 ∷ 25 ∷ 26 ∷ 27 ∷ 28 ∷ 30 ∷ 31 ∷ 32 ∷ 33 ∷ 34 ∷ 35 ∷ 36 ∷ 37 ∷ 38 ∷ 41 ∷ 42 ∷ 43 ∷ 50 ∷ 51 ∷ 52 ∷ 53 ∷ 54 ∷ 55 ∷ 56 ∷ 57 ∷ 58 ∷ 67 ∷ 73 ∷ []
follow_of p.bodies = 1 ∷ 11 ∷ 13 ∷ 16 ∷ 17 ∷ 18 ∷ 19 ∷ 20 ∷ 21 ∷ 22 ∷ 23 ∷ 24 ∷ 25 ∷ 26 ∷ 27 ∷ 28 ∷ 30 ∷ 31 ∷ 32 ∷ 33 ∷ 34 ∷ 35 ∷ 36 ∷ 37 ∷ 38 ∷ 41 ∷ 42 ∷ 43 ∷ 50 ∷ 51 ∷ 52 ∷ 53 ∷ 54 ∷ 55 ∷ 56 ∷ 57 ∷ 58 ∷ 67 ∷ 73 ∷ []
follow_of p.body_parts = 2 ∷ 3 ∷ 4 ∷ []
follow_of p.and_or = 0 ∷ 1 ∷ 19 ∷ 21 ∷ 23 ∷ 25 ∷ 26 ∷ 31 ∷ 32 ∷ 33 ∷ 36 ∷ 41 ∷ 73 ∷ []
follow_of p.and_or_rest = 0 ∷ 1 ∷ 19 ∷ 21 ∷ 23 ∷ 25 ∷ 26 ∷ 31 ∷ 32 ∷ 33 ∷ 36 ∷ 41 ∷ 73 ∷ []
follow_of p.linebreak = 11 ∷ 13 ∷ 16 ∷ 17 ∷ 18 ∷ 20 ∷ 22 ∷ 24 ∷ 25 ∷ 27 ∷ 28 ∷ 30 ∷ 42 ∷ 43 ∷ 50 ∷ 51 ∷ 52 ∷ 53 ∷ 54 ∷ 55 ∷ 56 ∷ 57 ∷ 58 ∷ 67 ∷ []
follow_of p.pipeline = 0 ∷ 1 ∷ 9 ∷ 10 ∷ 19 ∷ 21 ∷ 23 ∷ 25 ∷ 26 ∷ 31 ∷ 32 ∷ 33 ∷ 36 ∷ 41 ∷ 73 ∷ []
follow_of p.pipe_rest = 0 ∷ 1 ∷ 9 ∷ 10 ∷ 19 ∷ 21 ∷ 23 ∷ 25 ∷ 26 ∷ 31 ∷ 32 ∷ 33 ∷ 36 ∷ 41 ∷ 73 ∷ []
follow_of p.command = 0 ∷ 1 ∷ 9 ∷ 10 ∷ 12 ∷ 19 ∷ 21 ∷ 23 ∷ 25 ∷ 26 ∷ 31 ∷ 32 ∷ 33 ∷ 36 ∷ 41 ∷ 73 ∷ []
follow_of p.compound = 0 ∷ 1 ∷ 9 ∷ 10 ∷ 12 ∷ 19 ∷ 21 ∷ 23 ∷ 25 ∷ 26 ∷ 31 ∷ 32 ∷ 33 ∷ 36 ∷ 41 ∷ 42 ∷ 43 ∷ 73 ∷ []
follow_of p.if_rest = 0 ∷ 1 ∷ 9 ∷ 10 ∷ 12 ∷ 19 ∷ 21 ∷ 23 ∷ 25 ∷ 26 ∷ 31 ∷ 32 ∷ 33 ∷ 36 ∷ 41 ∷ 42 ∷ 43 ∷ 73 ∷ []
follow_of p.for_in = 25 ∷ []
follow_of p.for_in_later = 25 ∷ []
follow_of p.for_words = 25 ∷ []
follow_of p.case_in = 1 ∷ 36 ∷ 37 ∷ 38 ∷ 50 ∷ 51 ∷ 52 ∷ 53 ∷ 54 ∷ 55 ∷ 56 ∷ 57 ∷ 58 ∷ 67 ∷ []
follow_of p.items = 0 ∷ 1 ∷ 9 ∷ 10 ∷ 12 ∷ 19 ∷ 21 ∷ 23 ∷ 25 ∷ 26 ∷ 31 ∷ 32 ∷ 33 ∷ 36 ∷ 41 ∷ 42 ∷ 43 ∷ 73 ∷ []
follow_of p.pattern_rest = 1 ∷ 11 ∷ 13 ∷ 16 ∷ 17 ∷ 18 ∷ 20 ∷ 22 ∷ 24 ∷ 27 ∷ 28 ∷ 30 ∷ 36 ∷ 41 ∷ 42 ∷ 43 ∷ 50 ∷ 51 ∷ 52 ∷ 53 ∷ 54 ∷ 55 ∷ 56 ∷ 57 ∷ 58 ∷ 67 ∷ []
follow_of p.item_end = 0 ∷ 1 ∷ 9 ∷ 10 ∷ 12 ∷ 19 ∷ 21 ∷ 23 ∷ 25 ∷ 26 ∷ 31 ∷ 32 ∷ 33 ∷ 36 ∷ 41 ∷ 42 ∷ 43 ∷ 73 ∷ []
follow_of p.redirects = 0 ∷ 1 ∷ 9 ∷ 10 ∷ 12 ∷ 19 ∷ 21 ∷ 23 ∷ 25 ∷ 26 ∷ 31 ∷ 32 ∷ 33 ∷ 36 ∷ 41 ∷ 73 ∷ []
follow_of p.redirect = 0 ∷ 1 ∷ 9 ∷ 10 ∷ 12 ∷ 16 ∷ 19 ∷ 21 ∷ 23 ∷ 25 ∷ 26 ∷ 31 ∷ 32 ∷ 33 ∷ 36 ∷ 41 ∷ 42 ∷ 43 ∷ 45 ∷ 46 ∷ 50 ∷ 51 ∷ 52 ∷ 53 ∷ 54 ∷ 55 ∷ 56 ∷ 57 ∷ 58 ∷ 67 ∷ 73 ∷ []
follow_of p.prefix = 0 ∷ 1 ∷ 9 ∷ 10 ∷ 12 ∷ 19 ∷ 21 ∷ 23 ∷ 25 ∷ 26 ∷ 31 ∷ 32 ∷ 33 ∷ 36 ∷ 41 ∷ 73 ∷ []
follow_of p.arguments = 0 ∷ 1 ∷ 9 ∷ 10 ∷ 12 ∷ 19 ∷ 21 ∷ 23 ∷ 25 ∷ 26 ∷ 31 ∷ 32 ∷ 33 ∷ 36 ∷ 41 ∷ 73 ∷ []
follow_of p.word = 0 ∷ 1 ∷ 9 ∷ 10 ∷ 12 ∷ 16 ∷ 19 ∷ 21 ∷ 23 ∷ 25 ∷ 26 ∷ 31 ∷ 32 ∷ 33 ∷ 35 ∷ 36 ∷ 39 ∷ 40 ∷ 41 ∷ 42 ∷ 43 ∷ 45 ∷ 46 ∷ 50 ∷ 51 ∷ 52 ∷ 53 ∷ 54 ∷ 55 ∷ 56 ∷ 57 ∷ 58 ∷ 67 ∷ 73 ∷ []
follow_of p.value = 0 ∷ 1 ∷ 9 ∷ 10 ∷ 12 ∷ 16 ∷ 19 ∷ 21 ∷ 23 ∷ 25 ∷ 26 ∷ 31 ∷ 32 ∷ 33 ∷ 36 ∷ 41 ∷ 42 ∷ 43 ∷ 45 ∷ 50 ∷ 51 ∷ 52 ∷ 53 ∷ 54 ∷ 55 ∷ 56 ∷ 57 ∷ 58 ∷ 67 ∷ 73 ∷ []
follow_of p.parts = 0 ∷ 1 ∷ 9 ∷ 10 ∷ 12 ∷ 16 ∷ 19 ∷ 21 ∷ 23 ∷ 25 ∷ 26 ∷ 31 ∷ 32 ∷ 33 ∷ 35 ∷ 36 ∷ 39 ∷ 40 ∷ 41 ∷ 42 ∷ 43 ∷ 45 ∷ 46 ∷ 50 ∷ 51 ∷ 52 ∷ 53 ∷ 54 ∷ 55 ∷ 56 ∷ 57 ∷ 58 ∷ 67 ∷ 73 ∷ []
follow_of p.quoted = 47 ∷ 49 ∷ 50 ∷ 51 ∷ 52 ∷ 53 ∷ 54 ∷ 55 ∷ 56 ∷ 57 ∷ 58 ∷ 62 ∷ 64 ∷ 67 ∷ []
follow_of p.expansion = 5 ∷ 6 ∷ 7 ∷ 8 ∷ 47 ∷ 49 ∷ 50 ∷ 51 ∷ 52 ∷ 53 ∷ 54 ∷ 55 ∷ 56 ∷ 57 ∷ 58 ∷ 59 ∷ 60 ∷ 61 ∷ 62 ∷ 64 ∷ 65 ∷ 66 ∷ 67 ∷ 68 ∷ 69 ∷ 70 ∷ 71 ∷ 72 ∷ []
follow_of p.quoted_parts = 8 ∷ 47 ∷ 49 ∷ 50 ∷ 51 ∷ 52 ∷ 53 ∷ 54 ∷ 55 ∷ 56 ∷ 57 ∷ 58 ∷ 62 ∷ 64 ∷ 65 ∷ 66 ∷ 67 ∷ []
follow_of p.brace_start = 5 ∷ 6 ∷ 7 ∷ 8 ∷ 47 ∷ 49 ∷ 50 ∷ 51 ∷ 52 ∷ 53 ∷ 54 ∷ 55 ∷ 56 ∷ 57 ∷ 58 ∷ 59 ∷ 60 ∷ 61 ∷ 62 ∷ 64 ∷ 65 ∷ 66 ∷ 67 ∷ 68 ∷ 69 ∷ 70 ∷ 71 ∷ 72 ∷ []
follow_of p.brace_parts = 5 ∷ 6 ∷ 7 ∷ 8 ∷ 47 ∷ 49 ∷ 50 ∷ 51 ∷ 52 ∷ 53 ∷ 54 ∷ 55 ∷ 56 ∷ 57 ∷ 58 ∷ 59 ∷ 60 ∷ 61 ∷ 62 ∷ 64 ∷ 65 ∷ 66 ∷ 67 ∷ 68 ∷ 69 ∷ 70 ∷ 71 ∷ 72 ∷ []
follow_of p.quoted_brace_parts = 5 ∷ 6 ∷ 7 ∷ 8 ∷ 52 ∷ 54 ∷ 55 ∷ 56 ∷ 57 ∷ 58 ∷ 59 ∷ 60 ∷ 61 ∷ 62 ∷ 65 ∷ 66 ∷ 67 ∷ 68 ∷ 69 ∷ 70 ∷ 71 ∷ 72 ∷ []
follow_of p.arithmetic = 5 ∷ 6 ∷ 7 ∷ 8 ∷ 47 ∷ 49 ∷ 50 ∷ 51 ∷ 52 ∷ 53 ∷ 54 ∷ 55 ∷ 56 ∷ 57 ∷ 58 ∷ 59 ∷ 60 ∷ 61 ∷ 62 ∷ 64 ∷ 65 ∷ 66 ∷ 67 ∷ 68 ∷ 69 ∷ 70 ∷ 71 ∷ 72 ∷ []

-- the kinds that belong to a mode
abbrev pub kinds_of : Mode → List ℕ
kinds_of m.CommandStart = 1 ∷ 11 ∷ 13 ∷ 16 ∷ 17 ∷ 18 ∷ 19 ∷ 20 ∷ 21 ∷ 22 ∷ 23 ∷ 24 ∷ 25 ∷ 26 ∷ 27 ∷ 28 ∷ 30 ∷ 31 ∷ 32 ∷ 33 ∷ 36 ∷ 41 ∷ 42 ∷ 43 ∷ 50 ∷ 51 ∷ 52 ∷ 53 ∷ 54 ∷ 55 ∷ 56 ∷ 57 ∷ 58 ∷ 67 ∷ 73 ∷ []
kinds_of m.Prefix = 0 ∷ 1 ∷ 9 ∷ 10 ∷ 12 ∷ 16 ∷ 19 ∷ 21 ∷ 23 ∷ 25 ∷ 26 ∷ 31 ∷ 32 ∷ 33 ∷ 36 ∷ 41 ∷ 42 ∷ 43 ∷ 45 ∷ 50 ∷ 51 ∷ 52 ∷ 53 ∷ 54 ∷ 55 ∷ 56 ∷ 57 ∷ 58 ∷ 67 ∷ 73 ∷ []
kinds_of m.Argument = 0 ∷ 1 ∷ 9 ∷ 10 ∷ 12 ∷ 19 ∷ 21 ∷ 23 ∷ 25 ∷ 26 ∷ 31 ∷ 32 ∷ 33 ∷ 34 ∷ 36 ∷ 41 ∷ 42 ∷ 43 ∷ 46 ∷ 50 ∷ 51 ∷ 52 ∷ 53 ∷ 54 ∷ 55 ∷ 56 ∷ 57 ∷ 58 ∷ 67 ∷ 73 ∷ []
kinds_of m.PatternStart = 1 ∷ 36 ∷ 37 ∷ 38 ∷ 50 ∷ 51 ∷ 52 ∷ 53 ∷ 54 ∷ 55 ∷ 56 ∷ 57 ∷ 58 ∷ 67 ∷ []
kinds_of m.CaseIn = 1 ∷ 35 ∷ []
kinds_of m.PatternRest = 39 ∷ 40 ∷ []
kinds_of m.Bodies = 2 ∷ 3 ∷ 4 ∷ []
kinds_of m.BodyText = 5 ∷ 6 ∷ 7 ∷ 8 ∷ 54 ∷ 55 ∷ 56 ∷ 57 ∷ 58 ∷ 67 ∷ []
kinds_of m.Value = 47 ∷ 48 ∷ 50 ∷ 51 ∷ 52 ∷ 53 ∷ 54 ∷ 55 ∷ 56 ∷ 57 ∷ 58 ∷ 67 ∷ []
kinds_of m.InWord = 47 ∷ 49 ∷ 50 ∷ 51 ∷ 52 ∷ 53 ∷ 54 ∷ 55 ∷ 56 ∷ 57 ∷ 58 ∷ 67 ∷ []
kinds_of m.InQuotes = 8 ∷ 54 ∷ 55 ∷ 56 ∷ 57 ∷ 58 ∷ 59 ∷ 60 ∷ 61 ∷ 67 ∷ []
kinds_of m.BraceStart = 50 ∷ 51 ∷ 52 ∷ 53 ∷ 54 ∷ 55 ∷ 56 ∷ 57 ∷ 58 ∷ 62 ∷ 63 ∷ 67 ∷ []
kinds_of m.InBraces = 50 ∷ 51 ∷ 52 ∷ 53 ∷ 54 ∷ 55 ∷ 56 ∷ 57 ∷ 58 ∷ 62 ∷ 64 ∷ 67 ∷ []
kinds_of m.InQuotedBraces = 8 ∷ 52 ∷ 54 ∷ 55 ∷ 56 ∷ 57 ∷ 58 ∷ 62 ∷ 65 ∷ 66 ∷ 67 ∷ []
kinds_of m.InArithmetic = 8 ∷ 54 ∷ 55 ∷ 56 ∷ 57 ∷ 58 ∷ 67 ∷ 68 ∷ 69 ∷ 70 ∷ 71 ∷ 72 ∷ []
kinds_of m.ForName = 29 ∷ []
kinds_of m.FunctionOpen = 14 ∷ []
kinds_of m.FunctionClose = 15 ∷ []
kinds_of m.HereDelimiter = 44 ∷ []

abbrev pub sets : Sets TokenKind Part Mode
sets = record {
  first = begins;
  nullable = may_be_empty;
  follow = λ n k. member (number k) (follow_of n);
  belongs = λ m k. member (number k) (kinds_of m);
}
