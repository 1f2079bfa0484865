-- What options and operands choose.
use Rattle.std.specs.Prelude.{ℕ, List, [], ◌∷◌, codes, Option, Some, None, Bool, ◌==◌, ◌||◌, if◌then◌else◌}
use Rattle.rk_base.specs.Text.{Text}
use Rattle.rk_base.specs.Canonical.{is_empty}
use Rattle.ut_args.specs.declared.opts.Given.{Given}
use Rattle.ut_args.specs.Opts.{ArgsValue, gives, argument}
use Rattle.ut_select.specs.Cuts.{CutValue, ranges_of}
use Rattle.ut_select.specs.Sets.{set_of, misnamed, complement}
use Rattle.ut_select.specs.Trs.{TrValue}

-- `cut`

-- `-b`, `-c` or `-f`
abbrev pub is_list : Given → Bool
is_list g = g.letter == 98 || g.letter == 99 || g.letter == 102

abbrev pub or_text : Option Text → Text → Text
or_text None text = text
or_text (Some argument) text = argument

-- the argument of the one that is given
abbrev pub list_text : ArgsValue → Text
list_text args = or_text (argument args (codes "b")) (or_text (argument args (codes "c")) (or_text (argument args (codes "f")) []))

-- a tab where none is given
abbrev pub first_or_tab : Text → ℕ
first_or_tab [] = 9
first_or_tab (b ∷ bs) = b

abbrev pub delimiter_of : Option Text → ℕ
delimiter_of None = 9
delimiter_of (Some text) = first_or_tab text

abbrev pub cut_of : ArgsValue → CutValue
cut_of args =
    record {
      ranges = ranges_of (list_text args);
      fields = gives args (codes "f");
      delimiter = delimiter_of (argument args (codes "d"));
      only = gives args (codes "s");
    }

-- `tr`

-- with `-c` the other bytes
abbrev pub first_set : ArgsValue → Text → List ℕ
first_set args a = if gives args (codes "c") then complement (set_of a) else set_of a

abbrev pub deletes : List ℕ → List ℕ → TrValue
deletes a squeezed = record { deleted = a; from = []; to = []; squeezed = squeezed }

abbrev pub translates : List ℕ → List ℕ → List ℕ → TrValue
translates a b squeezed = record { deleted = []; from = a; to = b; squeezed = squeezed }

-- `-d A` deletes, and `-s A` squeezes
abbrev pub tr_of_one : ArgsValue → List ℕ → Option TrValue
tr_of_one args a =
    if gives args (codes "d")
    then (if gives args (codes "s") then None else Some (deletes a []))
    else (if gives args (codes "s") then Some (translates [] [] a) else None)

-- what is squeezed with `-s`
abbrev pub also : ArgsValue → List ℕ → List ℕ
also args b = if gives args (codes "s") then b else []

-- `-ds A B` deletes A and squeezes B, `A B` translates, and `-s A B` squeezes B too
abbrev pub tr_of_two : ArgsValue → List ℕ → List ℕ → Option TrValue
tr_of_two args a b =
    if gives args (codes "d")
    then (if gives args (codes "s") then Some (deletes a b) else None)
    else (if is_empty b then None else Some (translates a b (also args b)))

abbrev pub tr_by_one : ArgsValue → Text → Option TrValue
tr_by_one args a = if misnamed a then None else tr_of_one args (first_set args a)

abbrev pub tr_by_two : ArgsValue → Text → Text → Option TrValue
tr_by_two args a b = if misnamed a || misnamed b then None else tr_of_two args (first_set args a) (set_of b)

-- none where the operands are too few or too many, where a set names a class that there isn't, or where B is empty
abbrev pub tr_of : ArgsValue → List Text → Option TrValue
tr_of args [] = None
tr_of args (a ∷ []) = tr_by_one args a
tr_of args (a ∷ b ∷ []) = tr_by_two args a b
tr_of args (a ∷ b ∷ surplus ∷ more) = None
