use Rattle.std.proofs.Common.{ℕ, ◌-◌, List, rules, subst, arith}
use Rattle.rk_base.specs.Text.{depth}
use Rattle.rk_folder.specs.Looks.{LooksInOrder, item_looks, looks_within}
use Rattle.rk_folder.specs.Told.{Held}
use Rattle.rk_folder.specs.declared.folder.FolderCall.{FolderCall}
use Rattle.rk_folder.specs.declared.folder.Item.{Item}
use Rattle.rk_folder.proofs.LooksLemmas.{looks-last, looks-next}
use Rattle.std.proofs.lemmas.Grind.{common_steps}
use Rattle.rk_folder.proofs.RootLemmas.{listed-next, moved-listed}
use Rattle.rk_folder.proofs.entries.take_root.Goals as goal

pub returns-in_err-it-clause-looks : goal.returns-in_err-it-clause-looks
returns-in_err-it-clause-looks g c =
    let cost : ℕ → Held → Item → List FolderCall = λ r held. item_looks (looks_within (r - depth c.args.root.now) held) c.args.root.now in
    let calls = subst (λ (r : ℕ). LooksInOrder (g.F.Folder.told c.loop-item.folder) (λ held. cost r held c.item-item.result) (g.F.Folder.schedule c.loop-item.folder) (g.F.Folder.schedule c.take_top.new.folder)) c.loop-item.invariant.reach c.take_top.ensures.looks in
    looks-last (g.F.Folder.told c.args.folder.now) (cost (g.F.Folder.reach c.args.folder.now)) _ c.args.items.now _ _
    (looks-next (g.F.Folder.told c.args.folder.now) (g.F.Folder.told c.loop-item.folder) (cost (g.F.Folder.reach c.args.folder.now)) c.args.items.now c.loop-item.item-index c.item-item.result _ _ _ c.loop-item.invariant.held c.loop-item-test.true c.item-item.is c.loop-item.invariant.looks calls)

pub loop-item-preserved : goal.loop-item-preserved
loop-item-preserved g c =
    let cost : ℕ → Held → Item → List FolderCall = λ r held. item_looks (looks_within (r - depth c.args.root.now) held) c.args.root.now in
    let calls = subst (λ (r : ℕ). LooksInOrder (g.F.Folder.told c.loop-item.folder) (λ held. cost r held c.item-item.result) (g.F.Folder.schedule c.loop-item.folder) (g.F.Folder.schedule c.take_top.new.folder)) c.loop-item.invariant.reach c.take_top.ensures.looks in
    record {
      held = search rules;
      reads = search rules;
      memory = search rules;
      steady = search rules;
      writes = search rules;
      reach = search rules;
      agree = grind (arith, common_steps);
      fault = grind (arith, common_steps);
      whole = search rules;
      placed = search rules;
      looks = looks-next (g.F.Folder.told c.args.folder.now) (g.F.Folder.told c.loop-item.folder) (cost (g.F.Folder.reach c.args.folder.now)) c.args.items.now c.loop-item.item-index c.item-item.result _ _ _ c.loop-item.invariant.held c.loop-item-test.true c.item-item.is c.loop-item.invariant.looks calls;
      same = grind (arith, common_steps);
      found = listed-next (g.F.Folder.told c.args.folder.now) c.args.items.now c.loop-item.item-index c.item-item.result c.loop-item.listed c.in_ok-it.it c.newer-listed.result c.loop-item-test.true c.item-item.is c.loop-item.invariant.found (moved-listed _ _ c.item-item.result c.in_ok-it.it c.loop-item.invariant.held c.in_ok-it.ensures.listed) c.newer-listed.ensures;
    }
