use Rattle.std.proofs.Common.{◌≡◌, ◌∙◌, ap, sym, subst, ℕ, List, [], ◌∷◌, ◌++◌, length, arith}
use Rattle.rk_calls.specs.Keys.{KeyValue}
use Rattle.tr_record.specs.declared.steps.Step.{Step}
use Rattle.tr_record.specs.declared.records.Record.{Record}
use Rattle.tr_record.specs.Places.{pushed, Adds, IsIndexed}
use Rattle.tr_record.proofs.PlacesLemmas.{length-places_of, indexed_push}
use Rattle.tr_record.proofs.table.Table.push.Goals as goal

abbrev made : KeyValue → ℕ → List Step → ℕ → ℕ → Record
made key ordinal steps exit exit_cost = record { key = key; ordinal = ordinal; steps = steps; exit = exit; exit_cost = exit_cost }

pub returns-clause-ok : goal.returns-clause-ok
returns-clause-ok c =
    let t = c.self.inside.records.items in
    let key = c.args.key in
    let ordinal = c.in_ok-before.ensures.before ∙ ap length (c.self.invariant.places key) ∙ length-places_of key t in
    c.in_ok-push.ensures.items ∙ ap (λ (l : List Record). l ++ made key c.in_ok-before.before c.args.steps c.args.exit c.args.exit_cost ∷ []) c.in_ok-reserve.ensures.items
    ∙ ap (λ (n : ℕ). t ++ made key n c.args.steps c.args.exit c.args.exit_cost ∷ []) ordinal
    ∙ ap (pushed key c.args.steps c.args.exit c.args.exit_cost) c.self.view_is

pub invariant_of-self-2 : goal.invariant_of-self-2
invariant_of-self-2 c =
    let t = c.self.inside.records.items in
    let key = c.args.key in
    let ordinal = c.in_ok-before.ensures.before ∙ ap length (c.self.invariant.places key) ∙ length-places_of key t in
    let items = c.in_ok-push.ensures.items ∙ ap (λ (l : List Record). l ++ made key c.in_ok-before.before c.args.steps c.args.exit c.args.exit_cost ∷ []) c.in_ok-reserve.ensures.items in
    let place : c.len-i.result ≡ length t = omega arith in
    let adds = subst (λ (n : ℕ). Adds c.self.inside.index.entries c.note.new.index.entries key n) place c.in_ok-before.ensures.ok in
    subst (λ (l : List Record). IsIndexed c.note.new.index.entries l) (sym items)
    (indexed_push c.self.inside.index.entries c.note.new.index.entries t (made key c.in_ok-before.before c.args.steps c.args.exit c.args.exit_cost) c.self.invariant adds ordinal)
