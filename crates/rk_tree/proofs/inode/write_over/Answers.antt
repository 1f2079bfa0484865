use Rattle.std.proofs.Common.{◌≡◌, ◌∙◌, ℕ, List, [], Result, Ok, Err, Some, None, refl, sym, ap}
use Rattle.std.proofs.lemmas.Option.{slice_get_past, slice_get_read}
use Rattle.std.specs.Prelude.{slice_get, slice_set, OnOk}
use Rattle.rk_tree.specs.Content.{Own}
use Rattle.rk_tree.specs.Node.{Node}
use Rattle.rk_tree.specs.declared.inode.Inode.{Inode}
use Rattle.rk_tree.specs.Hierarchy as hierarchy
use Rattle.rk_tree.specs.Inodes.{change, changed_at, as_node}
use Rattle.rk_tree.proofs.inode.write_over.Goals as goal

on_ok : {A E : Type 0} (r : Result A E) (P Q : Type 0) → (P → Q) → OnOk r P → OnOk r Q
on_ok (Ok x) P Q f p = f p
on_ok (Err e) P Q f p = p

change_none : (f : Inode → Inode) (nodes : List Inode) (n k : ℕ) → k ≡ n → slice_get nodes k ≡ None → nodes ≡ change f nodes n
change_none f nodes n k same none = sym (ap (changed_at f nodes n) (ap (slice_get nodes) (sym same) ∙ none))

change_some : (g : Node → Node) (nodes : List Inode) (n k : ℕ) (it : Inode) (new : Node) → k ≡ n → slice_get nodes k ≡ Some it → new ≡ g it.node → slice_set nodes k (record it { node = new }) ≡ change (as_node g) nodes n
change_some g nodes n k it new same at is =
    ap (λ (j : ℕ). slice_set nodes j (record it { node = new })) same
    ∙ ap (λ (x : Node). slice_set nodes n (record it { node = x })) is
    ∙ sym (ap (changed_at (as_node g) nodes n) (ap (slice_get nodes) (sym same) ∙ at))

pub returns-in-None : goal.returns-in-None
returns-in-None c =
    let none = slice_get_past c.args.nodes.now.items c.number.result c.in-None.ensures.item.3 in record {
      ok = change_none (as_node (hierarchy.over_written c.args.at c.args.bytes.now)) c.args.nodes.now.items c.args.n c.number.result c.number.ensures none;
      any = (Own [], change_none (as_node (hierarchy.with_content (Own []))) c.args.nodes.now.items c.args.n c.number.result c.number.ensures none);
    }

pub returns-in-Some : goal.returns-in-Some
returns-in-Some c =
    let at = slice_get_read c.args.nodes.now.items _ c.number.result c.in-Some.inode.now refl c.in-Some.ensures.item.3.0 c.in-Some.ensures.item.1 in record {
      ok = on_ok c.write.result _ _ (change_some (hierarchy.over_written c.args.at c.args.bytes.now) c.args.nodes.now.items c.args.n c.number.result c.in-Some.inode.now c.write.new.self c.number.ensures at) c.write.ensures.ok;
      any = (c.write.ensures.any.0, change_some (hierarchy.with_content c.write.ensures.any.0) c.args.nodes.now.items c.args.n c.number.result c.in-Some.inode.now c.write.new.self c.number.ensures at c.write.ensures.any.1);
    }
