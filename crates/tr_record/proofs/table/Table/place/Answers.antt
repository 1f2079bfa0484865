use Rattle.std.proofs.Common.{◌≡◌, ◌≢◌, ◌∙◌, ℕ, ◌<◌, length, List, ap, subst, slice_get, IfSome, IfNone}
use Rattle.tr_record.specs.declared.records.Record.{Record}
use Rattle.tr_record.specs.Rec.{rec_at}
use Rattle.tr_record.proofs.PlacesLemmas.{place_some, place_first, place_none}
use Rattle.tr_record.proofs.table.Table.place.Goals as goal

pub returns-clause-some : goal.returns-clause-some
returns-clause-some c =
    let found = c.nth.ensures ∙ ap (λ l. slice_get l c.args.ordinal) (c.places.ensures ∙ c.self.invariant.places c.args.key.now) in
    subst (λ (t : List Record). IfSome c.nth.result (λ i. (i < length t) × ((rec_at i t).key ≡ c.args.key.now) × ((rec_at i t).ordinal ≡ c.args.ordinal))) c.self.view_is
    (place_some c.nth.result c.args.key.now c.self.inside.records.items c.args.ordinal c.self.invariant.numbered found)

pub returns-clause-none : goal.returns-clause-none
returns-clause-none c =
    let found = c.nth.ensures ∙ ap (λ l. slice_get l c.args.ordinal) (c.places.ensures ∙ c.self.invariant.places c.args.key.now) in
    subst (λ (t : List Record). IfNone c.nth.result ((i : ℕ) → i < length t → (rec_at i t).key ≡ c.args.key.now → (rec_at i t).ordinal ≢ c.args.ordinal)) c.self.view_is
    (place_none c.nth.result c.args.key.now c.self.inside.records.items c.args.ordinal c.self.invariant.numbered found)

pub returns-clause-first : goal.returns-clause-first
returns-clause-first c =
    let found = c.nth.ensures ∙ ap (λ l. slice_get l c.args.ordinal) (c.places.ensures ∙ c.self.invariant.places c.args.key.now) in
    subst (λ (t : List Record). IfSome c.nth.result (λ i. (k : ℕ) → k < i → (rec_at k t).key ≡ c.args.key.now → (rec_at k t).ordinal ≢ c.args.ordinal)) c.self.view_is
    (place_first c.nth.result c.args.key.now c.self.inside.records.items c.args.ordinal c.self.invariant.numbered found)
