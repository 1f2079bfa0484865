use Rattle.rk_walk.specs.declared.step.WalkStep.TheVariants.{On, Follow, Ends, Fails}
use Rattle.rk_walk.proofs.CourseLemmas.{met, went_on, linked, stopped, failed}
use Rattle.rk_walk.proofs.walker.Walker.meets.Goals as goal

pub returns-in-On : goal.returns-in-On
returns-in-On c =
    went_on c.args.tree.now c.args.follow c.args.self.now c.goes_on.new.self c.args.name.now c.args.rest.now c.in-On.next c.requires.kept c.requires.first c.goes_on.ensures
    (met c.args.tree.now c.args.follow c.args.self.now c.args.name.now c.args.rest.now c.ends-slash.result c.is_last-last.result (On c.in-On.next) c.node.result c.node.ensures c.requires.kept c.requires.first c.ends-slash.ensures c.is_last-last.ensures c.in-On.ensures.leads c.in-On.ensures.sees)

pub returns-in-Follow : goal.returns-in-Follow
returns-in-Follow c =
    linked c.args.tree.now c.args.follow c.args.self.now c.links_to.new.self c.args.name.now c.args.rest.now c.bytes.result.now c.in-Follow.text c.links_to.result c.requires.kept c.requires.first c.bytes.ensures c.links_to.ensures
    (met c.args.tree.now c.args.follow c.args.self.now c.args.name.now c.args.rest.now c.ends-slash.result c.is_last-last.result (Follow c.in-Follow.text) c.node.result c.node.ensures c.requires.kept c.requires.first c.ends-slash.ensures c.is_last-last.ensures c.in-Follow.ensures.leads c.in-Follow.ensures.sees)

pub returns-in-Ends : goal.returns-in-Ends
returns-in-Ends c =
    stopped c.args.tree.now c.args.follow c.args.self.now c.args.rest.now c.in-Ends.place
    (met c.args.tree.now c.args.follow c.args.self.now c.args.name.now c.args.rest.now c.ends-slash.result c.is_last-last.result (Ends c.in-Ends.place) c.node.result c.node.ensures c.requires.kept c.requires.first c.ends-slash.ensures c.is_last-last.ensures c.in-Ends.ensures.leads c.in-Ends.ensures.sees)

pub returns-in-Fails : goal.returns-in-Fails
returns-in-Fails c =
    failed c.args.tree.now c.args.follow c.args.self.now c.args.rest.now c.in-Fails.e
    (met c.args.tree.now c.args.follow c.args.self.now c.args.name.now c.args.rest.now c.ends-slash.result c.is_last-last.result (Fails c.in-Fails.e) c.node.result c.node.ensures c.requires.kept c.requires.first c.ends-slash.ensures c.is_last-last.ensures c.in-Fails.ensures.leads c.in-Fails.ensures.sees)
