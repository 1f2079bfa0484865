use Rattle.std.proofs.Common.{◌≡◌, ◌++◌, ◌∙◌, sym, ap}
use Rattle.rk_base.specs.Canonical.{is_canonical}
use Rattle.rk_base.specs.Text.{Text, or_root, stem}
use Rattle.rk_base.proofs.CanonicalLemmas.{join-canonical, root-canonical}
use Rattle.rk_tree.specs.Names.{path_by}
use Rattle.rk_tree.proofs.ClimbingLemmas.{joined-last, stem_on, text_on}
use Rattle.rk_tree.proofs.tree.climbing.text_by.Goals as goal

pub names-init : goal.names-init
names-init c = record {
  names = ap (λ (t : Text). path_by (or_root t) c.args.names.items) c.new-text.ensures.items;
  as_stem = ap (λ (t : Text). stem (or_root t)) c.new-text.ensures.items ∙ sym c.new-text.ensures.items;
  canonical = ap (λ (t : Text). is_canonical (or_root t)) c.new-text.ensures.items ∙ root-canonical;
}

pub names-preserved : goal.names-preserved
names-preserved c =
    let put : c.extend_from_slice.new.self.items ≡ c.push.new.self.items ++ c.in-Some.name = c.in_ok-extend_from_slice.ensures.items ∙ ap (λ (t : Text). c.push.new.self.items ++ t) c.as_slice.ensures.value in
    let joined = text_on c.names.text.items c.push.new.self.items c.extend_from_slice.new.self.items c.in-Some.name c.names.invariant.as_stem c.in_ok-push.ensures.items put in
    record {
      names =
          ap (λ (path : Text). path_by path c.pop.new.self.items) joined
          ∙ sym (joined-last (or_root c.names.text.items) c.pop.new.self.items c.in-Some.name)
          ∙ ap (path_by (or_root c.names.text.items)) (sym c.in-Some.ensures.items)
          ∙ c.names.invariant.names;
      as_stem = stem_on c.names.text.items c.push.new.self.items c.extend_from_slice.new.self.items c.in-Some.name c.names.invariant.as_stem c.in_ok-push.ensures.items put c.as_slice.ensures.name;
      canonical = ap is_canonical joined ∙ join-canonical (or_root c.names.text.items) c.in-Some.name c.names.invariant.canonical c.as_slice.ensures.name;
    }
