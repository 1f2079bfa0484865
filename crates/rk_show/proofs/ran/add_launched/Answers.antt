use Rattle.rk_show.specs.Ran.{launched_line}
use Rattle.rk_show.proofs.PartLemmas.{in-turn}
use Rattle.rk_show.proofs.ran.add_launched.Goals as goal

pub returns : goal.returns
unfolding launched_line
returns c = in-turn c.args.out.now.items _ _ _ _ _ _ _ _ c.in_ok-extend_from_slice.ensures.items c.in_ok-add_number.ensures c.in_ok-extend_from_slice-2.ensures.items c.in_ok-end_with.ensures
