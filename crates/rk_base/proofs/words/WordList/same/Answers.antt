use Rattle.std.proofs.Common.{arith}
use Rattle.std.proofs.lemmas.Grind.{common_steps}
use Rattle.std.proofs.lemmas.Slice.Eq.{slice_eq-Decides}
use Rattle.std.specs.Cmp.Lexicographic.{bytes_decides}
use Rattle.rk_base.proofs.words.WordList.same.Goals as goal

pub returns : goal.returns
returns c =
    let d = slice_eq-Decides bytes_decides c.as_slice.result.now c.as_slice-2.result.now c.eq.result c.eq.ensures in
    grind (arith, common_steps, d)
