-- Steps of commands: a call with the description that it asks, by the name that the trace gives.
use Rattle.std.specs.Prelude.{ℕ, [], Bool, Option}
use Rattle.rk_base.specs.Text.{Text}
use Rattle.rk_calls.specs.declared.answer.Answer.{Answer}
use Rattle.rk_calls.specs.declared.call.How.{How}
use Rattle.rk_waves.specs.Programs.{Ends}
use Rattle.rk_feet.specs.Named.{Name, Does}
use Rattle.rk_feet.specs.Opening.{does_open, does_pipe}
use Rattle.rk_feet.specs.Transfers.{does_read, does_read_line, does_write}
use Rattle.rk_feet.specs.Renaming.{does_rename}
use Rattle.rk_feet.specs.Asking.{does_walk, does_stat, does_list, does_read_link, does_same}
use Rattle.rk_feet.specs.Changing.{does_mkdir, does_rmdir, does_unlink, does_symlink, does_link, does_chmod}

pub data Ask : Type 0 where
  Open : (path : Text) (h : How) → Ask
  Read : (on : Option Name) → Ask
  ReadLine : (on : Option Name) → Ask
  Write : (on : Option Name) (text : Text) → Ask
  Stat : (path : Text) (follow : Bool) → Ask
  List : (path : Text) → Ask
  ReadLink : (path : Text) → Ask
  Walk : (path : Text) → Ask
  Same : (a b : Text) → Ask
  Mkdir : (path : Text) (mode : ℕ) → Ask
  Rmdir : (path : Text) → Ask
  Unlink : (path : Text) → Ask
  Rename : (a b : Text) → Ask
  Symlink : (text path : Text) → Ask
  Link : (a b : Text) → Ask
  Chmod : (path : Text) (mode : ℕ) → Ask
  Pipe : Ask
  -- a launch reads and writes nothing: its answer is what the command came to, as it is told
  Launch : (told : Answer) → Ask

pub record Step : Type 0 where
  pub command : ℕ
  pub number : ℕ
  pub ask : Ask

abbrev pub asks : ℕ → ℕ → Ask → Does
asks r s (Open path h) = does_open r s path h
asks r s (Read on) = does_read on
asks r s (ReadLine on) = does_read_line on
asks r s (Write on text) = does_write on text
asks r s (Stat path follow) = does_stat path follow
asks r s (List path) = does_list path
asks r s (ReadLink path) = does_read_link path
asks r s (Walk path) = does_walk path
asks r s (Same a b) = does_same a b
asks r s (Mkdir path mode) = does_mkdir r s path mode
asks r s (Rmdir path) = does_rmdir path
asks r s (Unlink path) = does_unlink path
asks r s (Rename a b) = does_rename a b
asks r s (Symlink text path) = does_symlink r s text path
asks r s (Link a b) = does_link a b
asks r s (Chmod path mode) = does_chmod path mode
asks r s Pipe = does_pipe r s
asks r s (Launch told) = Ends told []

abbrev pub program : Step → Does
program s = asks s.command s.number s.ask
