use Rattle.std.proofs.Common.{◌≡◌, ℕ, ◌+◌, ◌-◌, suc, List, rules, refl, ap, subst, ◌∙◌, arith}
use Rattle.rk_base.specs.Text.{depth}
use Rattle.rk_folder.specs.Looks.{LooksInOrder, item_looks, looks_within}
use Rattle.rk_folder.specs.Told.{Held}
use Rattle.rk_folder.proofs.LooksLemmas.{all-listed, all-taken, looks-last, looks-next, looks-none}
use Rattle.std.proofs.lemmas.Grind.{common_steps}
use Rattle.std.specs.List.{list_any}
use Rattle.rk_folder.specs.Steps.{is_odd_item}
use Rattle.rk_folder.specs.declared.folder.FolderCall.{FolderCall}
use Rattle.rk_folder.specs.declared.folder.Item.{Item}
use Rattle.rk_folder.proofs.ReadingLemmas.{told-same, told-agree-now}
use Rattle.rk_folder.proofs.TakenLemmas.{not_hidden, entered-canonical, entered-seen, with_dir-whole, with_dir-stands, told-lists, told-special_item, told-odd, told-items, told-state_taken, told-dir, placed-on}
use Rattle.rk_folder.proofs.importing.+descent.Goals as goal

pub take_item-returns-in_ok-join-in-Special-clause-taken :
    goal.take_item-returns-in_ok-join-in-Special-clause-taken
take_item-returns-in_ok-join-in-Special-clause-taken g t c =
    told-special_item _ c.args.dir.now c.args.item.now c.in-Special.name c.in_ok-join-in-Special.field-0 c.requires.agrees c.in-Special.is c.in_ok-join-in-Special.ensures.dir c.requires.seen c.in_ok-join-in-Special.ensures.path

pub take_all-returns-then-has_odd-clause-taken : goal.take_all-returns-then-has_odd-clause-taken
take_all-returns-then-has_odd-clause-taken g t c =
    told-odd _ c.args.dir.now c.in_ok-copy.field-0 c.in_ok-items.items.items _ c.requires.lists c.requires.seen c.in_ok-items.ensures.items (c.has_odd.ensures ∙ ap (λ (xs : List Item). list_any is_odd_item xs) c.deref.ensures.value) c.if-has_odd.true c.in_ok-copy.ensures.copy

pub take_all-take_items-requires : goal.take_all-take_items-requires
take_all-take_items-requires g t c κs within = (
  search rules,
  (
    search rules,
    (
      told-agree-now _ _ c.args.dir.now c.deref-2.result.now c.in_ok-items.ensures.held (g.met.F.Folder.whole c.args.folder.now)
          (told-same _ c.args.dir.now c.args.dir.now c.in_ok-items.items.items c.deref-2.result.now c.in_ok-items.ensures.items refl c.deref-2.ensures.value),
      (search rules, (search rules, (search rules, search rules))),
    ),
  ),
)

pub take_all-returns-clause-taken : goal.take_all-returns-clause-taken
take_all-returns-clause-taken g t c =
    told-items _ _ c.args.dir.now c.in_ok-items.items.items c.deref-2.result.now _ c.args.snapshot.now c.take_items.new.snapshot c.take_items.result c.in_ok-items.ensures.held c.deref-2.ensures.value (g.met.F.Folder.whole c.args.folder.now) c.requires.canonical c.requires.lists c.requires.seen c.requires.placed c.in_ok-items.ensures.items
    (c.has_odd.ensures ∙ ap (λ (xs : List Item). list_any is_odd_item xs) c.deref.ensures.value) c.if-has_odd.false c.take_items.ensures.taken

pub take_dir-returns-then-is_hidden-clause-taken :
    goal.take_dir-returns-then-is_hidden-clause-taken
take_dir-returns-then-is_hidden-clause-taken g t c =
    told-state_taken _ c.args.dir.now c.args.name.now c.in_ok-path.path _ _ c.look_at_state.result (g.met.F.Folder.whole c.args.folder.now) c.requires.agrees c.in_ok-path.ensures.path c.is_hidden.ensures c.if-is_hidden.true c.look_at_state.ensures.look

pub take_dir-take_all-requires : goal.take_dir-take_all-requires
take_dir-take_all-requires g t c κs within =
    let other = not_hidden c.in_ok-path.path c.args.dir.now c.args.name.now _ c.in_ok-path.ensures.path c.is_hidden.ensures c.if-is_hidden.false in (
      search rules,
      (
        search rules,
        (
          told-lists _ _ c.args.dir.now c.args.name.now c.in_ok-path.path refl c.requires.agrees c.in_ok-path.ensures.path,
          (
            entered-canonical c.in_ok-path.path c.args.dir.now c.args.name.now c.in_ok-path.ensures.path c.in_ok-path.ensures.dir c.in_ok-path.ensures.name,
            (
              entered-seen c.in_ok-path.path c.args.dir.now c.args.name.now c.in_ok-path.ensures.path c.in_ok-path.ensures.dir c.in_ok-path.ensures.name c.requires.seen other,
              (
                with_dir-whole c.args.snapshot.now c.lay.new.snapshot c.in_ok-copy.field-0 c.args.dir.now c.args.name.now c.requires.whole c.requires.placed c.in_ok-path.ensures.dir c.in_ok-path.ensures.name c.requires.seen other (c.in_ok-copy.ensures.copy ∙ c.in_ok-path.ensures.path) c.in_ok-lay.ensures,
                with_dir-stands c.args.snapshot.now c.lay.new.snapshot c.in_ok-copy.field-0 c.in_ok-path.path c.in_ok-copy.ensures.copy c.in_ok-lay.ensures,
              ),
            ),
          ),
        ),
      ),
    )

pub take_dir-returns-clause-placed : goal.take_dir-returns-clause-placed
take_dir-returns-clause-placed g t c =
    placed-on c.take_all.new.snapshot c.args.dir.now c.args.name.now c.in_ok-path.path c.take_all.result c.in_ok-path.ensures.dir c.in_ok-path.ensures.name c.in_ok-path.ensures.path c.take_all.ensures.whole c.take_all.ensures.placed

pub take_dir-returns-clause-taken : goal.take_dir-returns-clause-taken
take_dir-returns-clause-taken g t c =
    told-dir _ _ c.args.dir.now c.args.name.now c.in_ok-path.path c.in_ok-copy.field-0 c.args.snapshot.now c.lay.new.snapshot c.take_all.new.snapshot c.take_all.result refl c.requires.seen c.in_ok-path.ensures.dir c.in_ok-path.ensures.name c.requires.agrees c.in_ok-path.ensures.path c.in_ok-copy.ensures.copy
    (not_hidden c.in_ok-path.path c.args.dir.now c.args.name.now _ c.in_ok-path.ensures.path c.is_hidden.ensures c.if-is_hidden.false) c.in_ok-lay.ensures c.take_all.ensures.taken

pub take_all-returns-in_err-items-clause-looks : goal.take_all-returns-in_err-items-clause-looks
take_all-returns-in_err-items-clause-looks g t c =
    all-listed (g.F.Folder.told c.args.folder.now) (g.F.Folder.reach c.args.folder.now + 1 - depth c.args.dir.now) c.args.dir.now _ _ c.list.ensures.calls

pub take_all-returns-in_err-copy-clause-looks : goal.take_all-returns-in_err-copy-clause-looks
take_all-returns-in_err-copy-clause-looks g t c =
    all-listed (g.F.Folder.told c.args.folder.now) (g.F.Folder.reach c.args.folder.now + 1 - depth c.args.dir.now) c.args.dir.now _ _ c.list.ensures.calls

pub take_all-returns-then-has_odd-clause-looks : goal.take_all-returns-then-has_odd-clause-looks
take_all-returns-then-has_odd-clause-looks g t c =
    all-listed (g.F.Folder.told c.args.folder.now) (g.F.Folder.reach c.args.folder.now + 1 - depth c.args.dir.now) c.args.dir.now _ _ c.list.ensures.calls

pub take_all-returns-clause-looks : goal.take_all-returns-clause-looks
take_all-returns-clause-looks g t c =
    let deep : (g.F.Folder.reach c.args.folder.now + 1) - depth c.args.dir.now ≡ suc (g.F.Folder.reach c.list.new.folder - depth c.args.dir.now) = omega (arith, c.in_ok-items.ensures.within, c.in_ok-items.ensures.reach) in
    all-taken (g.F.Folder.told c.args.folder.now) (g.F.Folder.told c.list.new.folder) _ _ c.args.dir.now c.in_ok-items.items.items c.deref-2.result.now _ _ _ c.in_ok-items.ensures.held c.in_ok-items.ensures.items c.deref-2.ensures.value deep c.in_ok-items.ensures.calls c.take_items.ensures.looks

pub take_items-returns-in_err-take_item-clause-looks :
    goal.take_items-returns-in_err-take_item-clause-looks
take_items-returns-in_err-take_item-clause-looks g t c =
    let cost : ℕ → Held → Item → List FolderCall = λ r held. item_looks (looks_within (r - depth c.args.dir.now) held) c.args.dir.now in
    let calls = subst (λ (r : ℕ). LooksInOrder (g.F.Folder.told c.loop-item.folder) (λ held. cost r held c.item-item.result) (g.F.Folder.schedule c.loop-item.folder) (g.F.Folder.schedule c.take_item.new.folder)) c.loop-item.invariant.reach c.take_item.ensures.looks in
    looks-last (g.F.Folder.told c.args.folder.now) (cost (g.F.Folder.reach c.args.folder.now)) _ c.args.items.now _ _
    (looks-next (g.F.Folder.told c.args.folder.now) (g.F.Folder.told c.loop-item.folder) (cost (g.F.Folder.reach c.args.folder.now)) c.args.items.now c.loop-item.item-index c.item-item.result _ _ _ c.loop-item.invariant.held c.loop-item-test.true c.item-item.is c.loop-item.invariant.looks calls)

pub take_items-loop-item-preserved : goal.take_items-loop-item-preserved
take_items-loop-item-preserved g t c =
    let cost : ℕ → Held → Item → List FolderCall = λ r held. item_looks (looks_within (r - depth c.args.dir.now) held) c.args.dir.now in
    let calls = subst (λ (r : ℕ). LooksInOrder (g.F.Folder.told c.loop-item.folder) (λ held. cost r held c.item-item.result) (g.F.Folder.schedule c.loop-item.folder) (g.F.Folder.schedule c.take_item.new.folder)) c.loop-item.invariant.reach c.take_item.ensures.looks in
    record {
      held = search rules;
      reads = search rules;
      memory = search rules;
      steady = search rules;
      writes = search rules;
      reach = search rules;
      agree = grind (arith, common_steps);
      fault = grind (arith, common_steps);
      whole = search rules;
      placed = search rules;
      looks = looks-next (g.F.Folder.told c.args.folder.now) (g.F.Folder.told c.loop-item.folder) (cost (g.F.Folder.reach c.args.folder.now)) c.args.items.now c.loop-item.item-index c.item-item.result _ _ _ c.loop-item.invariant.held c.loop-item-test.true c.item-item.is c.loop-item.invariant.looks calls;
      same = grind (arith, common_steps);
    }

pub take_dir-returns-in_err-path-clause-looks : goal.take_dir-returns-in_err-path-clause-looks
take_dir-returns-in_err-path-clause-looks g t c = looks-none (g.F.Folder.told c.args.folder.now) _ (g.F.Folder.schedule c.args.folder.now)

pub take_dir-returns-in_err-copy-clause-looks : goal.take_dir-returns-in_err-copy-clause-looks
take_dir-returns-in_err-copy-clause-looks g t c = looks-none (g.F.Folder.told c.args.folder.now) _ (g.F.Folder.schedule c.args.folder.now)

pub take_dir-returns-in_err-lay-clause-looks : goal.take_dir-returns-in_err-lay-clause-looks
take_dir-returns-in_err-lay-clause-looks g t c = looks-none (g.F.Folder.told c.args.folder.now) _ (g.F.Folder.schedule c.args.folder.now)
