use Rattle.std.proofs.Common.{◌≡◌, ℕ, [], ap, ◌∙◌}
use Rattle.rk_walk.specs.Walk.{start}
use Rattle.rk_walk.proofs.CourseLemmas.{begun}
use Rattle.rk_walk.proofs.walker.leads.Goals as goal

pub loop-end-init : goal.loop-end-init
loop-end-init c =
    let at : c.new-walker.result ≡ _ = c.new-walker.ensures ∙ ap (λ (root : ℕ). record { here = start root c.args.path.now; ahead = c.args.path.now; marks = []; links = 32 }) c.root.ensures.root in
    let b = begun c.args.tree.now c.args.follow c.args.path.now c.new-walker.result at in record { kept = b.0; same = b.1 }
