use Rattle.std.proofs.Common.{sym, subst, ap, ◌∙◌}
use Rattle.rk_base.specs.Canonical.{is_name}
use Rattle.rk_tree.specs.Ascending.{names_by}
use Rattle.rk_tree.specs.Names.{named}
use Rattle.rk_tree.specs.Rows.{map_of}
use Rattle.rk_tree.specs.declared.names.Rows.{Rows}
use Rattle.rk_tree.proofs.NamesLemmas.{AreNames, Key, handed_back, names-insert, names-put, none_back}
use Rattle.rk_tree.proofs.names.Names.put.Goals as goal

pub invariant_of-self : goal.invariant_of-self
invariant_of-self c =
    names-put c.put_into.result (map_of (named c.in-Searched.names.entries)) _ c.args.name.items c.args.n c.put_into.ensures.ok c.put_into.ensures.err
    (subst (λ (rows : Rows). AreNames (names_by rows)) c.in-Searched.is c.self.invariant) c.requires

pub invariant_of-self-in_default : goal.invariant_of-self-in_default
invariant_of-self-in_default c =
    subst AreNames (sym (none_back c.in_ok-name-in-InOrder.field-0 _ _ c.in_default.not-Some c.in_ok-name-in-InOrder.ensures.ok))
    (names-insert c.in-InOrder.names c.args.name.items c.args.n (subst (λ (rows : Rows). AreNames (names_by rows)) c.in-InOrder.is c.self.invariant) c.requires)

pub invariant_of-self-in-InOrder : goal.invariant_of-self-in-InOrder
invariant_of-self-in-InOrder c =
    let back = handed_back c.in_ok-name-in-InOrder.field-0 c.in-Some.name _ _ c.in-Some.is c.in_ok-name-in-InOrder.ensures.ok in
    subst AreNames (sym c.in_ok-put_into-in-InOrder.ensures.ok)
    (names-insert (map_of (named c.in_ok-searched-in-InOrder.searched.entries)) c.in-Some.name.items c.args.n
    (subst AreNames (sym (c.in_ok-searched-in-InOrder.ensures ∙ back.1)) (subst (λ (rows : Rows). AreNames (names_by rows)) c.in-InOrder.is c.self.invariant))
    (ap (λ (key : Key). is_name key.items) back.0 ∙ c.requires))
