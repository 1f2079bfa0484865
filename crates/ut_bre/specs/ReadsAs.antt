-- What the reader has of a text, as a reading of it.
use Rattle.std.specs.Prelude.{◌≡◌, ℕ, List, [], ◌∷◌, map, Option, Some, None, Result, Ok, Err, true}
use Rattle.rk_base.specs.Text.{Text}
use Rattle.ut_bre.specs.declared.bre.Bre.{Bre}
use Rattle.ut_bre.specs.declared.error.BreErr.{BreErr}
use Rattle.ut_bre.specs.declared.error.BreErr.TheVariants.{Bad, NoMemory}
use Rattle.ut_bre.specs.declared.reader.Ended.{Ended}
use Rattle.ut_bre.specs.declared.reader.Opened.{Opened}
use Rattle.ut_bre.specs.declared.reader.Reader.{Reader}
use Rattle.ut_bre.specs.Expressions.{expression}
use Rattle.ut_bre.specs.Reading.{Open, Reading, Next, goes_on, stops, Outcome, good, bad, Read, reads, bad_at, read}
use Rattle.ut_bre.specs.Trees.{tree_of}

-- what this is, as an expression, or the place of what is wrong
abbrev pub IsRead : Read → Result Bre BreErr → Type 0
IsRead read (Ok b) = read ≡ reads (expression b)
IsRead read (Err (Bad at)) = read ≡ bad_at at
IsRead read (Err NoMemory) = Unit {0}

-- the expression of the text, or the place of what is wrong in it
abbrev pub ReadsAs : Text → Result Bre BreErr → Type 0
ReadsAs text = IsRead (read text)

abbrev pub open_of : Opened → Open
open_of o = record { at = o.at; number = o.number; before = map tree_of o.before.items }

-- the groups that are open, of which the list has the innermost last
abbrev pub opened_onto : List Open → List Opened → List Open
opened_onto inner [] = inner
opened_onto inner (o ∷ os) = opened_onto (open_of o ∷ inner) os

abbrev pub opened_of : List Opened → List Open
opened_of = opened_onto []

abbrev pub reading : Reader → Reading
reading r = record { opened = opened_of r.opened.items; items = map tree_of r.items.items; last = r.last; groups = r.groups; folded = r.folded }

-- how a token is taken: it goes on behind so many more bytes, or the `$` that was taken ends it
abbrev pub IsNext : Next → Reading → Result (Option ℕ) BreErr → Type 0
IsNext next r (Ok (Some more)) = next ≡ goes_on r more
IsNext next r (Ok None) = next ≡ stops (good r.items true r.groups)
IsNext next r (Err (Bad at)) = next ≡ stops (bad at)
IsNext next r (Err NoMemory) = Unit {0}

abbrev pub IsOutcome : Outcome → Result Ended BreErr → Type 0
IsOutcome outcome (Ok e) = outcome ≡ good (map tree_of e.items.items) e.at_end e.groups
IsOutcome outcome (Err (Bad at)) = outcome ≡ bad at
IsOutcome outcome (Err NoMemory) = Unit {0}
