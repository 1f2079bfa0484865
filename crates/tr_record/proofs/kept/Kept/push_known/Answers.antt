use Rattle.std.proofs.Common.{◌≡◌, ◌∙◌, ℕ, suc, ◌+◌, ◌<◌, List, ◌∷◌, length, take, sym, ap, subst, arith, inl, inr}
use Rattle.std.specs.Prelude.{remove}
use Rattle.tr_record.proofs.KeepingLemmas.{kept_moved, kept_first, tables_remove, tables_take}
use Rattle.tr_record.specs.Generations.{table_at, IsNew}
use Rattle.tr_record.specs.Keeping.{tables_in, IsKept}
use Rattle.tr_record.specs.declared.kept.Generation.{Generation}
use Rattle.tr_record.specs.declared.records.Record.{Record}
use Rattle.tr_record.proofs.kept.Kept.push_known.Goals as goal

pub invariant_of-self-in-Some : goal.invariant_of-self-in-Some
invariant_of-self-in-Some c =
    let i = c.in-Some.i in
    let all = c.self.inside.generations.items in
    let it : Generation = record { table = c.args.table; known = c.args.known } in
    let next : i + 1 ≡ suc i = omega arith in
    let is = c.remove-equal.ensures.items ∙ ap (λ (l : List Generation). remove l (i + 1)) c.in_ok-insert.ensures.items ∙ ap (λ (n : ℕ). remove (it ∷ all) n) next in
    let view = sym c.self.view_is in
    subst IsKept (sym is)
    (kept_moved all i it c.self.invariant c.requires.known c.requires.full
    (subst (λ (l : List (List Record)). i < length l) view c.in-Some.ensures.some.0)
    (subst (λ (l : List (List Record)). table_at i l ≡ c.args.table) view c.in-Some.ensures.some.1))

pub invariant_of-self-in-None : goal.invariant_of-self-in-None
invariant_of-self-in-None c =
    let all = c.self.inside.generations.items in
    let it : Generation = record { table = c.args.table; known = c.args.known } in
    let is = c.truncate.ensures.items ∙ ap (λ (l : List Generation). take 8 l) c.in_ok-insert.ensures.items in
    subst IsKept (sym is)
    (kept_first all it c.self.invariant c.requires.known c.requires.full (subst (λ (l : List (List Record)). IsNew c.args.table l) (sym c.self.view_is) c.in-None.ensures.none))

pub returns-in-Some-clause-ok : goal.returns-in-Some-clause-ok
returns-in-Some-clause-ok c =
    let i = c.in-Some.i in
    let all = c.self.inside.generations.items in
    let it : Generation = record { table = c.args.table; known = c.args.known } in
    let next : i + 1 ≡ suc i = omega arith in
    let is = c.remove-equal.ensures.items ∙ ap (λ (l : List Generation). remove l (i + 1)) c.in_ok-insert.ensures.items ∙ ap (λ (n : ℕ). remove (it ∷ all) n) next in
    inl (
      i,
      c.in-Some.ensures.some.0,
      c.in-Some.ensures.some.1,
      ap tables_in is ∙ ap (λ l. c.args.table ∷ l) (tables_remove all i ∙ ap (λ (l : List (List Record)). remove l i) c.self.view_is),
    )

pub returns-in-None-clause-ok : goal.returns-in-None-clause-ok
returns-in-None-clause-ok c =
    let all = c.self.inside.generations.items in
    let it : Generation = record { table = c.args.table; known = c.args.known } in
    let is = c.truncate.ensures.items ∙ ap (λ (l : List Generation). take 8 l) c.in_ok-insert.ensures.items in
    inr (c.in-None.ensures.none, ap tables_in is ∙ tables_take 8 (it ∷ all) ∙ ap (λ (l : List (List Record)). take 8 (c.args.table ∷ l)) c.self.view_is)
