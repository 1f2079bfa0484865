use Rattle.std.proofs.Common.{◌∙◌, inl, sym}
use Rattle.rk_build.proofs.TellLemmas.{puts-same}
use Rattle.rk_build.proofs.lines.tell.Goals as goal

pub returns-in-Ok-forged_line-clause-tells : goal.returns-in-Ok-forged_line-clause-tells
returns-in-Ok-forged_line-clause-tells g c =
    (inl (sym c.in-Forged.is), puts-same _ _ _ _ (c.as_slice-in-Ok-forged_line.ensures ∙ c.in-Ok-forged_line.ensures) c.put_line-in-Ok-forged_line.ensures.puts)
