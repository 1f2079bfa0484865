-- What a node is, by its name and by the tree.
use Rattle.std.proofs.Common.{◌≡◌, true, false, Option, Some, None, refl}
use Rattle.rk_tree.specs.Entries.{is_dir}
use Rattle.rk_tree.specs.Node.{Node as TreeNode, File as AFile, Dir as ADir, Link as ALink}
use Rattle.rk_tree.specs.Refusals.{is_there}
use Rattle.rk_feet.specs.Changing.{is_dir as is_dir_what}
use Rattle.rk_feet.specs.Course.{what_of}
use Rattle.rk_feet.specs.NamingLemmas.{clash}

pub dirs-agree : (o : Option TreeNode) → is_there o ≡ true → is_dir_what (what_of o) ≡ is_dir o
dirs-agree None h = absurd (clash false h refl)
dirs-agree (Some (AFile mode content)) h = refl
dirs-agree (Some (ADir mode)) h = refl
dirs-agree (Some (ALink text)) h = refl
