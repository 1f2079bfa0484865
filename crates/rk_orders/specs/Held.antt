-- The descriptors of a command by names: each stands for what was given at the start, or for what a step has opened.
use Rattle.std.specs.Prelude.{ℕ, ◌-◌, List, [], ◌∷◌, ◌++◌, map, nat_lt, if◌then◌else◌, Option, Some, None, slice_get}
use Rattle.rk_calls.specs.RefMaps.{number_of}
use Rattle.rk_calls.specs.Refs.{ten}
use Rattle.rk_calls.specs.declared.answer.Answer.{Answer}
use Rattle.rk_calls.specs.declared.answer.Answer.TheVariants as answer
use Rattle.rk_calls.specs.declared.call.Call.{Call}
use Rattle.rk_calls.specs.declared.call.Call.TheVariants as call
use Rattle.rk_feet.specs.Named.{Name, Given, Made}
use Rattle.rk_feet.specs.Steps.{Ask, Open, Read, ReadLine, Write, Stat, List as ListOf, ReadLink, Walk, Same, Mkdir, Rmdir, Unlink, Rename, Symlink, Link}
use Rattle.rk_feet.specs.Steps.{Chmod, Pipe, Launch}

-- 0 to 9 as they were passed, and from 10 on those that the command opened
pub record Held : Type 0 where
  pub passed : List (Option Name)
  pub opened : List Name

abbrev pub flat : Option (Option Name) → Option Name
flat None = None
flat (Some o) = o

-- the description that a number of the command stands for
abbrev pub named_at : Held → ℕ → Option Name
named_at held r = if nat_lt r 10 then flat (slice_get held.passed r) else slice_get held.opened (r - 10)

-- the empty input, the output and the error text
abbrev pub top_held : Held
top_held = record { passed = Some (Given 0) ∷ Some (Given 1) ∷ Some (Given 2) ∷ []; opened = [] }

abbrev pub at_number : Held → Option ℕ → Option Name
at_number held None = None
at_number held (Some r) = named_at held r

-- those of a command that is launched with this map
abbrev pub passed_held : Held → List (ℕ × ℕ) → Held
passed_held held pairs = record { passed = map (λ d. at_number held (number_of d pairs)) ten; opened = [] }

-- what a step opens, by its answer

abbrev pub if_opened : Answer → List Name → List Name
if_opened answer.Opened names = names
if_opened _ names = []

abbrev pub opens : ℕ → ℕ → Call → Answer → List Name
opens command number (call.Open path how) it = if_opened it (Made command number 0 420 ∷ [])
opens command number call.Pipe it = Made command number 0 0 ∷ Made command number 1 0 ∷ []
opens command number _ it = []

abbrev pub with_opens : Held → List Name → Held
with_opens held names = record held { opened = held.opened ++ names }

-- what a call asks of the world, by names; a launch asks nothing, and has the answer that its record has
abbrev pub ask_of : Held → Call → Answer → Ask
ask_of held (call.Open path how) it = Open path how
ask_of held (call.Read r) it = Read (named_at held r)
ask_of held (call.ReadLine r) it = ReadLine (named_at held r)
ask_of held (call.Write r text) it = Write (named_at held r) text
ask_of held (call.Stat path follow) it = Stat path follow
ask_of held (call.List path) it = ListOf path
ask_of held (call.ReadLink path) it = ReadLink path
ask_of held (call.Walk path) it = Walk path
ask_of held (call.Same a b) it = Same a b
ask_of held (call.Mkdir path mode) it = Mkdir path mode
ask_of held (call.Rmdir path) it = Rmdir path
ask_of held (call.Unlink path) it = Unlink path
ask_of held (call.Rename a b) it = Rename a b
ask_of held (call.Symlink text path) it = Symlink text path
ask_of held (call.Link a b) it = Link a b
ask_of held (call.Chmod path mode) it = Chmod path mode
ask_of held call.Pipe it = Pipe
ask_of held (call.Launch key map) it = Launch it
