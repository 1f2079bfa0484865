use Rattle.std.proofs.Common.{◌≡◌, refl, sym, subst, ◌∙◌}
use Rattle.std.specs.FinMap.{entries, get}
use Rattle.rk_base.specs.Text.{Text}
use Rattle.rk_tree.specs.Node.{Node as Entry}
use Rattle.rk_changes.proofs.WritingLemmas.{RowsFrom, fulls-first, fulls-more, lead-first, lead-last, lead-more, op-full, rows-from, rows-later}
use Rattle.rk_changes.proofs.writing.writings.Goals as goal

pub files-init : goal.files-init
files-init g c =
    let told = g.G.Fetch.told c.args.fetch.now in
    let gives : c.into_iter-path-iterator.result ≡ c.rows-path-items.result.now.entries = c.into_iter-path-iterator.ensures.into_iter_gives.0 in
    let same : c.into_iter-path-iterator.result ≡ entries c.args.after.now = gives ∙ c.rows-path-items.ensures in
    record {
      cursor = c.new-cursor.ensures;
      from = subst (RowsFrom told) (sym same) (rows-from told c.args.after.now c.requires.after);
      ops = fulls-first told c.args.before.now (entries c.args.after.now) c.into_iter-path-iterator.result c.new-ops.result.items c.new-ops.ensures.items same;
      at = lead-first (entries c.args.after.now) c.into_iter-path-iterator.result c.new-ops.result.items c.new-ops.ensures.items same;
      told = refl;
      keeps = g.met.G.Fetch.keeps_itself _;
      stays = g.met.G.Fetch.stays_itself _;
      steady = refl;
      counted = refl;
    }

pub returns-in_err-op-clause-keeps : goal.returns-in_err-op-clause-keeps
returns-in_err-op-clause-keeps g c = g.met.G.Fetch.keeps_on _ _ _ c.files.invariant.keeps c.in_err-op.ensures.keeps

pub files-preserved : goal.files-preserved
files-preserved g c =
    let told = g.G.Fetch.told c.args.fetch.now in
    let all = entries c.args.after.now in
    let row : Text × Entry = (c.in-Some.path.now, c.in-Some.it.now) in
    record {
      cursor = c.get.ensures.same ∙ c.files.invariant.cursor;
      from = (rows-later told c.files.path-iterator c.next.new.self row c.in-Some.ensures.steps c.files.invariant.from).1;
      ops = fulls-more told c.args.before.now all c.files.path-iterator c.next.new.self row c.files.ops.items c.add.new.ops.items c.in_ok-op.op c.in-Some.ensures.steps c.in_ok-add.ensures
          (op-full (g.G.Fetch.told c.files.fetch) told c.args.before.now row.0 row.1 c.in_ok-op.op _ c.files.invariant.told (c.get.ensures.found ∙ λ i. get (c.files.invariant.cursor i) c.in-Some.path.now) c.in_ok-op.ensures.op) c.files.invariant.ops;
      at = lead-more all c.files.path-iterator c.next.new.self row c.files.ops.items c.add.new.ops.items c.in_ok-op.op c.in-Some.ensures.steps c.in_ok-add.ensures c.in_ok-op.ensures.at c.files.invariant.at;
      told = c.in_ok-op.ensures.told ∙ c.files.invariant.told;
      keeps = g.met.G.Fetch.keeps_on _ _ _ c.files.invariant.keeps c.in_ok-op.ensures.keeps;
      stays = g.met.G.Fetch.stays_on _ _ _ c.files.invariant.stays c.in_ok-op.ensures.stays;
      steady = c.in_ok-op.ensures.steady.0 ∙ c.files.invariant.steady;
      counted = c.in_ok-op.ensures.counted ∙ c.files.invariant.counted;
    }

pub returns-clause-at : goal.returns-clause-at
returns-clause-at g c = lead-last (entries c.args.after.now) c.files.path-iterator c.files.ops.items c.in-None.ensures.steps.0 c.files.invariant.at
