-- A made folder and its edits are outside `.rkr`, and nothing of them is special.
use Rattle.std.specs.Prelude.{◌≡◌, ℕ, true, None}
use Rattle.rk_base.specs.Text.{Text, is_within}
use Rattle.rk_folder.specs.Hidden.{hidden_dir}
use Rattle.rk_folder.specs.Specials.{first_special}
use Rattle.rk_folder.specs.Told.{Held, root_alone, standing}
use Rattle.rk_gen.specs.Edits.{edited}
use Rattle.rk_gen.specs.Start.{Made, files_of}
use Rattle.rk_gen.specs.Changed.{changed, with_files}

-- `.rkr` stays as it was, and what had nothing special has nothing special
pub record LeavesPlain (held to : Held) : Type 0 where
  pub hidden : (path : Text) → is_within hidden_dir path ≡ true → standing to path ≡ standing held path
  pub plain : first_special held ≡ None → first_special to ≡ None

-- each edit of a made workload does so
abbrev pub EditsPlainly : Type 0
EditsPlainly = (made : Made) (held : Held) → LeavesPlain held (changed (edited made).edit held)

-- a seed's folder has nothing special, and nothing in `.rkr`
pub record IsPlainStart (held : Held) : Type 0 where
  pub hidden : (path : Text) → is_within hidden_dir path ≡ true → standing held path ≡ None
  pub plain : first_special held ≡ None

abbrev pub StartsPlainly : Type 0
StartsPlainly = (seed : ℕ) → IsPlainStart (with_files (files_of seed) root_alone)
