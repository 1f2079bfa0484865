use Rattle.std.proofs.Common.{List, sym, ap, ◌∙◌}
use Rattle.rk_folder.specs.Hidden.{hidden_dir}
use Rattle.rk_folder.specs.Steps.{listed_among}
use Rattle.rk_folder.specs.declared.folder.Item.{Item}
use Rattle.rk_folder.proofs.ReadingLemmas.{told-same, told-state, told-no_state}
use Rattle.rk_folder.proofs.hidden_listing.hidden_listed.Goals as goal

pub returns-in-None-clause-listed : goal.returns-in-None-clause-listed
returns-in-None-clause-listed g c =
    told-no_state _ c.deref.result.now c.special_state.result c.listed_among.result (g.met.F.Folder.whole c.args.folder.now)
    (told-same _ c.in_ok-hidden_dir.field-0 hidden_dir c.in_ok-items.items.items c.deref.result.now c.in_ok-items.ensures.items c.in_ok-hidden_dir.ensures c.deref.ensures.value)
    c.special_state.ensures c.in-None.is (c.listed_among.ensures ∙ ap (λ (items : List Item). listed_among items) (c.deref-in-None.ensures.value ∙ sym c.deref.ensures.value))

pub returns-clause-listed : goal.returns-clause-listed
returns-clause-listed g c =
    told-state _ c.deref.result.now c.special_state.result c.in-Some.file c.in_ok-path_of-in-Some.field-0 (g.met.F.Folder.whole c.args.folder.now)
    (told-same _ c.in_ok-hidden_dir.field-0 hidden_dir c.in_ok-items.items.items c.deref.result.now c.in_ok-items.ensures.items c.in_ok-hidden_dir.ensures c.deref.ensures.value)
    c.special_state.ensures c.in-Some.is c.in_ok-path_of-in-Some.ensures
