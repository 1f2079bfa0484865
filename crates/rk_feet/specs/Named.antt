-- The cells of a world, by the names of what runs make.
use Rattle.std.specs.Prelude.{ℕ, List, [], Bool, false, Option, None}
use Rattle.rk_base.specs.Text.{Text, root}
use Rattle.rk_calls.specs.declared.answer.Answer.{Answer}
use Rattle.rk_waves.specs.Programs.{Program, Update}

-- a node, a description or a pipe. What stands at the start is named by its path, so that two folders name it alike; a pipe's step makes two descriptions
pub data Name : Type 0 where
  Start : (path : Text) → Name
  -- the empty input, the output and the error text
  Given : (number : ℕ) → Name
  -- what a step of a command makes; its mode, if it is a node, is fixed by the call
  Made : (command step part mode : ℕ) → Name

-- fixed by the name
pub data What : Type 0 where
  File : What
  Dir : What
  Link : (text : Text) → What

pub record Node : Type 0 where
  pub name : Name
  pub what : What

pub data Source : Type 0 where
  Of : (file : Name) → Source
  Pipe : (pipe : Name) → Source
  Output : Source
  Error : Source
  Nothing : Source

-- the offset is 0 where it appends: nobody sees it
pub record Description : Type 0 where
  pub source : Source
  pub offset : ℕ
  pub read : Bool
  pub write : Bool
  pub append : Bool

pub data Plain : Type 0 where
  EntryOf : (dir : Name) (name : Text) → Plain
  AboveOf : (dir : Name) → Plain
  ModeOf : (node : Name) → Plain
  BytesOf : (file : Name) → Plain
  OpenOf : (description : Name) → Plain
  PipeOf : (pipe : Name) → Plain
  OutputText : Plain
  ErrorText : Plain
  -- whether a step has made something: read and written by that step alone
  Used : (command step : ℕ) → Plain

-- a group is a directory: all entries of it
pub data Value : Type 0 where
  Entry : Option Node → Value
  Above : Option (Name × Text) → Value
  Mode : ℕ → Value
  Bytes : Text → Value
  Opened : Option Description → Value
  Names : List Text → Value
  Flag : Bool → Value

abbrev pub node : Value → Option Node
node (Entry x) = x
node _ = None

abbrev pub above : Value → Option (Name × Text)
above (Above x) = x
above _ = None

abbrev pub mode : Value → ℕ
mode (Mode x) = x
mode _ = 0

abbrev pub bytes : Value → Text
bytes (Bytes x) = x
bytes _ = []

abbrev pub opened : Value → Option Description
opened (Opened x) = x
opened _ = None

abbrev pub names : Value → List Text
names (Names x) = x
names _ = []

abbrev pub flag : Value → Bool
flag (Flag x) = x
flag _ = false

-- the mode of a node that nothing has made yet
abbrev pub given_mode : Name → ℕ
given_mode (Start path) = 0
given_mode (Given number) = 0
given_mode (Made command step part mode) = mode

abbrev pub Writes : Type 0
Writes = List (Plain × Update Value)

abbrev pub Does : Type 0
Does = Program Plain Name Value Answer

abbrev pub top : Name
top = Start root
