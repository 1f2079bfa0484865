-- How options are read.
use Rattle.std.specs.Prelude.{◌≡◌, ℕ, List, [], ◌∷◌, ◌++◌, find, codes, Option, Some, None, Result, Ok, Err, ◌==◌, if◌then◌else◌}
use Rattle.rk_base.specs.Text.{Text, same_text}
use Rattle.ut_args.specs.declared.form.Form.{Form}
use Rattle.ut_args.specs.declared.form.Form.TheVariants as forms
use Rattle.ut_args.specs.declared.form.Opt.{Opt}
use Rattle.ut_args.specs.declared.opts.Given.{Given}
use Rattle.ut_args.specs.declared.letters.Letters.{Letters}
use Rattle.ut_args.specs.declared.letters.Letters.TheVariants.{Done, Wants, Bad}
use Rattle.ut_args.specs.declared.args.UsageOr.{UsageOr}
use Rattle.ut_args.specs.declared.args.UsageOr.TheVariants.{Usage, NoMemory}
use Rattle.ut_args.specs.declared.words.Judged.{Judged}
use Rattle.ut_args.specs.declared.words.Judged.TheVariants.{Goes, Ends, Operand, Bad as Fault}
use Rattle.ut_args.specs.Forms.{is_form, is_of}
use Rattle.ut_args.specs.Opts.{ArgsValue}

-- the options so far, and how a word of them ends: it is done, its last one wants the next word, or a letter is
-- bad
pub record Lettered : Type 0 where
  pub given : List Given
  pub end : Letters

abbrev pub plain : ℕ → Given
plain letter = record { letter = letter; argument = None }

abbrev pub with : ℕ → Text → Given
with letter text = record { letter = letter; argument = Some text }

-- an option with an argument, which is the rest of the word, or else the next word
abbrev pub argued : Opt → List Given → Text → Lettered
argued o given [] = record { given = given; end = Wants o }
argued o given (b ∷ bs) = if is_form o.form (b ∷ bs) then record { given = given ++ with o.letter (b ∷ bs) ∷ []; end = Done } else record { given = given; end = Bad o.letter }

-- by what the table has for a letter
abbrev pub by_form : Form → Opt → List Given → Text → Lettered → Lettered
by_form forms.Alone o given rest more = more
by_form forms.Text o given rest more = argued o given rest
by_form forms.Number o given rest more = argued o given rest
by_form forms.Ranges o given rest more = argued o given rest
by_form forms.Byte o given rest more = argued o given rest
by_form forms.Mode o given rest more = argued o given rest
by_form forms.Signed o given rest more = argued o given rest
by_form forms.Key o given rest more = argued o given rest

abbrev pub by_letter : ℕ → Option Opt → List Given → Text → Lettered → Lettered
by_letter letter None given rest more = record { given = given; end = Bad letter }
by_letter letter (Some o) given rest more = by_form o.form o given rest more

-- the letters of a word, after the options so far
abbrev pub letters : List Opt → List Given → Text → Lettered
letters table given [] = record { given = given; end = Done }
letters table given (c ∷ cs) = by_letter c (find (is_of c) table) given cs (letters table (given ++ plain c ∷ []) cs)

-- what the code did with the letters of a word
abbrev pub LettersAre : Lettered → List Given → Letters → Type 0
LettersAre l new end = (new ≡ l.given) × (end ≡ l.end)

-- an option as an error text has it
abbrev pub dashed : ℕ → Text
dashed letter = 45 ∷ letter ∷ []

-- what stands after the `-` of a word of options
abbrev pub letters_of : Text → Option Text
letters_of [] = None
letters_of (b ∷ []) = None
letters_of (b ∷ c ∷ cs) = if b == 45 then Some (c ∷ cs) else None

-- how it goes on after a word of options
abbrev pub by_end : Letters → Result ArgsValue Text → (Opt → Result ArgsValue Text) → Result ArgsValue Text
by_end Done here wanting = here
by_end (Wants o) here wanting = wanting o
by_end (Bad letter) here wanting = Err (dashed letter)

abbrev pub by_word : Option Text → Result ArgsValue Text → (Text → Result ArgsValue Text) → Result ArgsValue Text
by_word None here on = here
by_word (Some ls) here on = on ls

-- The options and the operands of some words, after the options so far, of which the last one may want the first
-- word; or the first letter that is at fault.
abbrev pub options_from : List Opt → Option Opt → List Given → List Text → Result ArgsValue Text
options_from table None given [] = Ok (record { given = given; operands = [] })
options_from table (Some o) given [] = Err (dashed o.letter)
options_from table (Some o) given (word ∷ words) = if is_form o.form word then options_from table None (given ++ with o.letter word ∷ []) words else Err (dashed o.letter)
options_from table None given (word ∷ words) =
    if same_text word (codes "--")
    then Ok (record { given = given; operands = words })
    else by_word (letters_of word) (Ok (record { given = given; operands = word ∷ words }))
    (λ ls. by_end (letters table given ls).end (options_from table None (letters table given ls).given words) (λ o. options_from table (Some o) (letters table given ls).given words))

-- once the letters of a word were read
abbrev pub letters_read : List Opt → List Given → Text → Lettered
letters_read = letters

abbrev pub options_by : List Opt → List Text → Lettered → Result ArgsValue Text
options_by table words l = by_end l.end (options_from table None l.given words) (λ o. options_from table (Some o) l.given words)

-- how it goes on by what a word was judged to be
abbrev pub judged_on : List Opt → Judged → List Given → Text → List Text → Result ArgsValue Text
judged_on table (Goes wants) given word words = options_from table wants given words
judged_on table Ends given word words = Ok (record { given = given; operands = words })
judged_on table Operand given word words = Ok (record { given = given; operands = word ∷ words })
judged_on table (Fault letter) given word words = Err (dashed letter)

abbrev pub JudgesTo : List Opt → Option Opt → List Given → Text → Judged → List Given → Type 0
JudgesTo table wants old word j new = (words : List Text) → options_from table wants old (word ∷ words) ≡ judged_on table j new word words

-- the options and the operands of the words after the name
abbrev pub options_in : List Opt → List Text → Result ArgsValue Text
options_in table words = options_from table None [] words

-- the options and the operands of a utility's words, of which the first is its name
abbrev pub options : List Opt → List Text → Result ArgsValue Text
options table [] = options_in table []
options table (name ∷ words) = options_in table words

-- what the code tells
abbrev pub OptionsAre : Result ArgsValue Text → Result ArgsValue UsageOr → Type 0
OptionsAre r (Ok args) = r ≡ Ok args
OptionsAre r (Err (Usage word)) = r ≡ Err word
OptionsAre r (Err NoMemory) = Unit {0}
