use Rattle.std.proofs.Common.{rules}
use Rattle.std.proofs.lemmas.List.{take_rest}
use Rattle.rk_base.proofs.PathLemmas.{cut_at_last, alone_at_last}
use Rattle.rk_base.proofs.text.last_component.Goals as goal

pub returns-in-Some : goal.returns-in-Some
returns-in-Some c =
    let found = cut_at_last c.args.text.now c.in-Some.i (search rules) (search rules) (search rules) in
    record { found = rw (found, take_rest); alone = tt }

pub returns-in-None : goal.returns-in-None
returns-in-None c = record { found = tt; alone = alone_at_last c.args.text.now (search rules) }
