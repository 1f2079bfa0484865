use Rattle.std.proofs.Common.{rules, arith}
use Rattle.rk_waves.proofs.ListedLemmas.{put-so}
use Rattle.rk_waves.proofs.listed.put.Goals as goal

pub returns-in_ok-insert : goal.returns-in_ok-insert
returns-in_ok-insert c =
    put-so (λ s. s.keys) c.args.wave c.args.owner c.in-Some.k c.args.waves.now.items c.make_room.new.waves.items c.in-Some-get_mut.list.now c.insert.new.self
    (search rules) (omega arith) c.in-Some-get_mut.ensures.value (search rules) c.in_ok-insert.ensures.keys
