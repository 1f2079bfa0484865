-- What the code tells of a call, in the numbers of its world, and what its program reads and writes, by names.
use Rattle.std.specs.Prelude.{◌≡◌, ◌⊎◌, ℕ, ◌+◌, List, [], ◌∷◌, length, Bool, Option, Some, None}
use Rattle.rk_base.specs.Text.{Text}
use Rattle.rk_calls.specs.Keys.{KeyValue}
use Rattle.rk_calls.specs.Refs.{RefsHeld, ref_at}
use Rattle.rk_calls.specs.declared.call.Call.{Call}
use Rattle.rk_calls.specs.declared.call.Call.TheVariants as call
use Rattle.rk_calls.specs.declared.answer.Answer.{Answer}
use Rattle.rk_calls.specs.declared.answer.Answer.TheVariants as answer
use Rattle.rk_calls.specs.declared.call.How.{How}
use Rattle.rk_kernel.specs.Feet.{foot_by}
use Rattle.rk_kernel.specs.declared.cell.Cell.{Cell as Numbered}
use Rattle.rk_kernel.specs.declared.cell.Cell.TheVariants as told
use Rattle.rk_kernel.specs.declared.foot.Foot.{Foot}
use Rattle.rk_waves.specs.Programs.{Cell, One, All, reads_of, end_of, written_cells}
use Rattle.rk_waves.specs.Waves.{Each}
use Rattle.rk_feet.specs.Asking.{does_walk, does_stat, does_list, does_read_link, does_same}
use Rattle.rk_feet.specs.CellLemmas.{cells}
use Rattle.rk_feet.specs.Changing.{does_chmod, does_mkdir, does_symlink, does_unlink, does_rmdir, does_link}
use Rattle.rk_feet.specs.Named.{Name, Made, Plain, EntryOf, AboveOf, ModeOf, BytesOf, OpenOf, PipeOf, OutputText, ErrorText, Used, Does}
use Rattle.rk_feet.specs.Naming.{Naming}
use Rattle.rk_feet.specs.Opening.{does_pipe, does_open}
use Rattle.rk_feet.specs.Renaming.{does_rename}
use Rattle.rk_feet.specs.Steps.{Ask, Open, Read, ReadLine, Write, Stat, List as ListOf, ReadLink, Walk, Same, Mkdir, Rmdir, Unlink, Rename, Symlink, Link}
use Rattle.rk_feet.specs.Steps.{Chmod, Pipe, Launch, asks}
use Rattle.rk_feet.specs.Transfers.{does_read, does_read_line, does_write}
use Rattle.rk_feet.specs.Simulates.{Lasts, ends_in}
use Rattle.rk_feet.specs.World.{World, at}

-- What has a number keeps it, so a cell has one number in all worlds that come after: it is told by that one.

-- a step of a command in a world, and a world that comes after that step
pub record Later (w : World) : Type 0 where
  pub command : ℕ
  pub number : ℕ
  pub world : World
  pub lasts : Lasts w world

abbrev pub or_zero : Option ℕ → ℕ
or_zero None = 0
or_zero (Some n) = n

abbrev pub number_in : Naming → Name → ℕ
number_in it name = or_zero (it.number_of name)

-- how a cell is told: by numbers; or, where it says whether a step has made something, by none: that step alone touches it
pub data Telling : Type 0 where
  By : (cell : Numbered) → Telling
  Its : (command number : ℕ) → Telling

module _ (later : World) where
  abbrev pub node_in : Name → ℕ
  node_in = number_in later.nodes

  abbrev pub open_in : Name → ℕ
  open_in = number_in later.opens

  abbrev pub pipe_in : Name → ℕ
  pipe_in = number_in later.pipes

  abbrev pub numbered : Cell Plain Name → Telling
  numbered (One (EntryOf dir name)) = By (told.Entry (node_in dir) name)
  numbered (One (AboveOf dir)) = By (told.Above (node_in dir))
  numbered (One (ModeOf n)) = By (told.Mode (node_in n))
  numbered (One (BytesOf file)) = By (told.Bytes (node_in file))
  numbered (One (OpenOf k)) = By (told.Opened (open_in k))
  numbered (One (PipeOf p)) = By (told.Pipe (pipe_in p))
  numbered (One OutputText) = By told.Output
  numbered (One ErrorText) = By told.ErrorText
  numbered (One (Used r s)) = Its r s
  numbered (All dir) = By (told.Names (node_in dir))

-- What is told.

abbrev pub Among : List Numbered → Numbered → Type 0
Among [] c = ⊥
Among (d ∷ ds) c = (d ≡ c) ⊎ Among ds c

module _ (w : World) (later : Later w) where
  -- a cell is told, or the step's own
  abbrev pub IsTold : List Numbered → Telling → Type 0
  IsTold all (By c) = Among all c
  IsTold all (Its r s) = (r ≡ later.command) × (s ≡ later.number)

  abbrev pub AreTold : List Numbered → List (Cell Plain Name) → Type 0
  AreTold all = Each (λ c. IsTold all (numbered later.world c))

  -- all that a program reads and writes in the world is told
  pub record Tells (foot : Foot) (x : Does) : Type 0 where
    pub reads : AreTold foot.reads (reads_of (at w) x)
    pub writes : AreTold foot.writes (written_cells cells (end_of (at w) x).1)

  -- what is told of a call tells the program
  abbrev pub TellsCall : RefsHeld → Call → Does → Type 0
  TellsCall refs c x = Tells (foot_by w.held refs c) x

  -- what the step makes, by the answer that it has: it gets the next number, and the second of its kind the one behind it
  abbrev pub GetsNumbers : Ask → Answer → Type 0
  GetsNumbers (Open path h) it = it ≡ answer.Opened → later.world.opens.number_of (Made later.command later.number 0 420) ≡ Some (length w.held.opens)
  GetsNumbers (Mkdir path mode) it =
      it ≡ answer.Done → later.world.nodes.number_of (Made later.command later.number 0 mode) ≡ Some (length w.held.tree.nodes)
  GetsNumbers Pipe it =
      it ≡ answer.Piped
      → (later.world.opens.number_of (Made later.command later.number 0 0) ≡ Some (length w.held.opens))
      × (later.world.opens.number_of (Made later.command later.number 1 0) ≡ Some (length w.held.opens + 1))
  GetsNumbers _ it = Unit {0}

  -- the same of the answer of a program
  abbrev pub GetsNumbersOf : Ask → Does → Type 0
  GetsNumbersOf ask x = GetsNumbers ask (ends_in w x).0

-- a number of the command stands for the description of this name
abbrev pub StandsFor : World → RefsHeld → ℕ → Option Name → Type 0
StandsFor w refs r None = ref_at refs r ≡ None
StandsFor w refs r (Some k) = (n : ℕ) × (ref_at refs r ≡ Some n) × (w.opens.number_of k ≡ Some n)

-- Of each call, and its program: the calls that change nothing ..
pub record TellsQuestions : Type 0 where
  pub stats : (w : World) (later : Later w) (refs : RefsHeld) (path : Text) (follow : Bool)
      → TellsCall w later refs (call.Stat path follow) (does_stat path follow)
  pub lists : (w : World) (later : Later w) (refs : RefsHeld) (path : Text) → TellsCall w later refs (call.List path) (does_list path)
  pub links : (w : World) (later : Later w) (refs : RefsHeld) (path : Text) → TellsCall w later refs (call.ReadLink path) (does_read_link path)
  pub walks : (w : World) (later : Later w) (refs : RefsHeld) (path : Text) → TellsCall w later refs (call.Walk path) (does_walk path)
  pub compares : (w : World) (later : Later w) (refs : RefsHeld) (a b : Text) → TellsCall w later refs (call.Same a b) (does_same a b)

-- .. those of descriptions ..
pub record TellsDescriptions : Type 0 where
  pub reads : (w : World) (later : Later w) (refs : RefsHeld) (r : ℕ) (on : Option Name) → StandsFor w refs r on
      → TellsCall w later refs (call.Read r) (does_read on)
  pub lines : (w : World) (later : Later w) (refs : RefsHeld) (r : ℕ) (on : Option Name) → StandsFor w refs r on
      → TellsCall w later refs (call.ReadLine r) (does_read_line on)
  pub writes : (w : World) (later : Later w) (refs : RefsHeld) (r : ℕ) (text : Text) (on : Option Name) → StandsFor w refs r on
      → TellsCall w later refs (call.Write r text) (does_write on text)
  pub pipes : (w : World) (later : Later w) (refs : RefsHeld) → GetsNumbersOf w later Pipe (does_pipe later.command later.number)
      → TellsCall w later refs call.Pipe (does_pipe later.command later.number)
  pub opens : (w : World) (later : Later w) (refs : RefsHeld) (path : Text) (h : How)
      → GetsNumbersOf w later (Open path h) (does_open later.command later.number path h)
      → TellsCall w later refs (call.Open path h) (does_open later.command later.number path h)

-- .. and those that change the tree
pub record TellsChanges : Type 0 where
  pub dirs : (w : World) (later : Later w) (refs : RefsHeld) (path : Text) (m : ℕ)
      → GetsNumbersOf w later (Mkdir path m) (does_mkdir later.command later.number path m)
      → TellsCall w later refs (call.Mkdir path m) (does_mkdir later.command later.number path m)
  pub links : (w : World) (later : Later w) (refs : RefsHeld) (text path : Text)
      → TellsCall w later refs (call.Symlink text path) (does_symlink later.command later.number text path)
  pub names : (w : World) (later : Later w) (refs : RefsHeld) (a b : Text) → TellsCall w later refs (call.Link a b) (does_link a b)
  pub unlinks : (w : World) (later : Later w) (refs : RefsHeld) (path : Text) → TellsCall w later refs (call.Unlink path) (does_unlink path)
  pub removes : (w : World) (later : Later w) (refs : RefsHeld) (path : Text) → TellsCall w later refs (call.Rmdir path) (does_rmdir path)
  pub renames : (w : World) (later : Later w) (refs : RefsHeld) (a b : Text) → TellsCall w later refs (call.Rename a b) (does_rename a b)
  pub modes : (w : World) (later : Later w) (refs : RefsHeld) (path : Text) (m : ℕ) → TellsCall w later refs (call.Chmod path m) (does_chmod path m)

-- Of each step, and a call that it may be.

-- a call of a command with these descriptors is what a step asks, by the names of this world
abbrev pub IsCall : World → RefsHeld → Ask → Call → Type 0
IsCall w refs (Open path h) c = c ≡ call.Open path h
IsCall w refs (Read on) c = (r : ℕ) × (c ≡ call.Read r) × StandsFor w refs r on
IsCall w refs (ReadLine on) c = (r : ℕ) × (c ≡ call.ReadLine r) × StandsFor w refs r on
IsCall w refs (Write on text) c = (r : ℕ) × (c ≡ call.Write r text) × StandsFor w refs r on
IsCall w refs (Stat path follow) c = c ≡ call.Stat path follow
IsCall w refs (ListOf path) c = c ≡ call.List path
IsCall w refs (ReadLink path) c = c ≡ call.ReadLink path
IsCall w refs (Walk path) c = c ≡ call.Walk path
IsCall w refs (Same a b) c = c ≡ call.Same a b
IsCall w refs (Mkdir path mode) c = c ≡ call.Mkdir path mode
IsCall w refs (Rmdir path) c = c ≡ call.Rmdir path
IsCall w refs (Unlink path) c = c ≡ call.Unlink path
IsCall w refs (Rename a b) c = c ≡ call.Rename a b
IsCall w refs (Symlink text path) c = c ≡ call.Symlink text path
IsCall w refs (Link a b) c = c ≡ call.Link a b
IsCall w refs (Chmod path mode) c = c ≡ call.Chmod path mode
IsCall w refs Pipe c = c ≡ call.Pipe
IsCall w refs (Launch answer) c = (key : KeyValue) × (map : List (ℕ × ℕ)) × (c ≡ call.Launch key map)

-- what is told of the call has all that the step reads and writes
abbrev pub TellsFeet : Type 0
TellsFeet =
    (w : World) (later : Later w) (refs : RefsHeld) (ask : Ask) (c : Call) → IsCall w refs ask c
    → GetsNumbersOf w later ask (asks later.command later.number ask)
    → Tells w later (foot_by w.held refs c) (asks later.command later.number ask)
