use Rattle.std.proofs.Common.{◌≡◌, ℕ, [], ◌++◌, List, ap, sym, ◌∙◌}
use Rattle.rk_walk.specs.Walk.{start}
use Rattle.rk_walk.specs.Course.{course_sees}
use Rattle.rk_walk.specs.declared.seen.Seen.{Seen}
use Rattle.rk_walk.proofs.CourseLemmas.{begun, begun-sees}
use Rattle.rk_walk.proofs.walker.leads_seeing.Goals as goal

pub walk-init : goal.walk-init
walk-init c =
    let at : c.new-walker.result ≡ _ = c.new-walker.ensures ∙ ap (λ (root : ℕ). record { here = start root c.args.path.now; ahead = c.args.path.now; marks = []; links = 32 }) c.root.ensures.root in
    let b = begun c.args.tree.now c.args.follow c.args.path.now c.new-walker.result at in
    record {
      kept = b.0;
      same = b.1;
      sees = begun-sees c.args.tree.now c.args.follow c.args.path.now c.new-walker.result at
          ∙ ap (λ (s : List Seen). s ++ course_sees c.args.tree.now c.args.follow c.new-walker.result) (sym c.new-seen.ensures.items);
    }
