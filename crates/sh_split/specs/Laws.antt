-- Laws of the cutting.
use Rattle.std.specs.Prelude.{◌≡◌, List}
use Rattle.sh_split.specs.declared.mark.Mark.{Mark}
use Rattle.sh_split.specs.declared.mark.MarkKind.{MarkKind}
use Rattle.sh_split.specs.Cutting.{Marks, IsCutting}
use Rattle.sh_split.specs.Pass.{cut_fields}

-- the fields that a word means are its cutting, and there is no other
abbrev pub OneCutting : Type 0
OneCutting = (kind : Mark → MarkKind) (text : Marks) → IsCutting kind text (cut_fields kind text) × ((others : List Marks) → IsCutting kind text others → others ≡ cut_fields kind text)
