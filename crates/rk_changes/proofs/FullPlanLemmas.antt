-- The plan in full.
use Rattle.std.proofs.Common.{◌≡◌, List, [], ◌∷◌, ◌++◌, map, reverse, Option, Some, None, IfSome, refl, sym, ap, ◌∙◌, append_assoc}
use Rattle.std.specs.List.{cons_option, filter_map}
use Rattle.std.specs.FinMap.{entries, get}
use Rattle.rk_base.specs.Text.{Text}
use Rattle.rk_tree.specs.Entries.{Entries}
use Rattle.rk_tree.specs.Full.{Told, full_entries, full_node, full_row, in_full}
use Rattle.rk_tree.specs.Node.{Node as Entry, File, Dir, Link}
use Rattle.rk_tree.proofs.EntriesLemmas.{get-full, rows-full}
use Rattle.rk_seal.specs.Plans.{plan_of}
use Rattle.rk_seal.specs.declared.ops.Op.{Op}
use Rattle.rk_seal.specs.declared.plan.Plan.{Plan}
use Rattle.rk_changes.specs.Fetched.{IsFullPlan, full_writing}
use Rattle.rk_changes.specs.Holdings.{full_holding, placed}
use Rattle.rk_changes.specs.Planned.{attrs_calls, back_calls, db_calls, front_calls, hidden_making, making, making_of, planned, removal, removal_of, writing, writing_of}
use Rattle.rk_changes.specs.declared.holding.Holding.{Holding}

-- what is made of rows that are changed first
mapped : (make new : Text × Entry → Option Op) (change : Text × Entry → Text × Entry) → ((row : Text × Entry) → new (change row) ≡ make row) → (rows : List (Text × Entry)) → filter_map new (map change rows) ≡ filter_map make rows
mapped make new change same [] = refl
mapped make new change same (row ∷ rows) = λ i. cons_option (same row i) (mapped make new change same rows i)

module _ (told : Told) where
  -- whether a file or a directory stands there is the same in full

  removal-full : (path : Text) (it : Entry) (after : Option Entry) → removal path (full_node told it) (placed (in_full told after)) ≡ removal path it (placed after)
  removal-full path (File mode content) None = refl
  removal-full path (File mode content) (Some (File m c)) = refl
  removal-full path (File mode content) (Some (Dir m)) = refl
  removal-full path (File mode content) (Some (Link t)) = refl
  removal-full path (Dir mode) None = refl
  removal-full path (Dir mode) (Some (File m c)) = refl
  removal-full path (Dir mode) (Some (Dir m)) = refl
  removal-full path (Dir mode) (Some (Link t)) = refl
  removal-full path (Link text) after = refl

  making-full : (path : Text) (it : Entry) (before : Option Entry) → making path (full_node told it) (placed (in_full told before)) ≡ making path it (placed before)
  making-full path (File mode content) before = refl
  making-full path (Dir mode) None = refl
  making-full path (Dir mode) (Some (File m c)) = refl
  making-full path (Dir mode) (Some (Dir m)) = refl
  making-full path (Dir mode) (Some (Link t)) = refl
  making-full path (Link text) before = refl

  module _ (before after : Entries) where
    removals-full : filter_map (removal_of (full_entries told after)) (entries (full_entries told before)) ≡ filter_map (removal_of after) (entries before)
    removals-full =
        ap (filter_map (removal_of (full_entries told after))) (rows-full told before)
        ∙ mapped (removal_of after) (removal_of (full_entries told after)) (full_row told)
        (λ row. ap (λ (o : Option Entry). removal row.0 (full_node told row.1) (placed o)) (get-full told after row.0) ∙ removal-full row.0 row.1 (get after row.0)) (entries before)

    makings-full : filter_map (making_of (full_entries told before)) (entries (full_entries told after)) ≡ filter_map (making_of before) (entries after)
    makings-full =
        ap (filter_map (making_of (full_entries told before))) (rows-full told after)
        ∙ mapped (making_of before) (making_of (full_entries told before)) (full_row told)
        (λ row. ap (λ (o : Option Entry). making row.0 (full_node told row.1) (placed o)) (get-full told before row.0) ∙ making-full row.0 row.1 (get before row.0)) (entries after)

    writings-full : filter_map (writing_of (full_entries told before)) (entries (full_entries told after)) ≡ filter_map (full_writing told before) (entries after)
    writings-full =
        ap (filter_map (writing_of (full_entries told before))) (rows-full told after)
        ∙ mapped (full_writing told before) (writing_of (full_entries told before)) (full_row told)
        (λ row. ap (λ (o : Option Entry). writing row.0 (full_node told row.1) (placed o)) (get-full told before row.0)) (entries after)

  shape : (a b c d e f : List Op) → a ++ b ++ c ++ d ++ e ++ f ≡ (a ++ b) ++ (c ++ (d ++ e ++ f))
  shape a b c d e f =
      append_assoc (a ++ b ++ c ++ d) e f
      ∙ append_assoc (a ++ b ++ c) d (e ++ f)
      ∙ ap (λ (l : List Op). (a ++ b ++ c) ++ l) (sym (append_assoc d e f))
      ∙ append_assoc (a ++ b) c (d ++ e ++ f)

  pub planned-full : (before after : Holding) → planned (full_holding told before) (full_holding told after) ≡ front_calls before after ++ (filter_map (full_writing told before.entries) (entries after.entries) ++ back_calls before after)
  planned-full before after =
      let hidden : List Op = hidden_making before.rkr after.rkr in
      let attrs : List Op = attrs_calls before.state.attrs after.state.attrs in
      let db : List Op = db_calls before.state.db after.state.db in
      (λ i. reverse (removals-full before.entries after.entries i) ++ makings-full before.entries after.entries i ++ writings-full before.entries after.entries i ++ hidden ++ attrs ++ db)
      ∙ shape (reverse (filter_map (removal_of after.entries) (entries before.entries))) (filter_map (making_of before.entries) (entries after.entries)) (filter_map (full_writing told before.entries) (entries after.entries)) hidden attrs db

-- the plan of the calls, where the files that are written are those in full
pub plan-in-full : (o : Option Told) (before after : Holding) (found : Option Plan) (ops writings : List Op) → found ≡ plan_of ops before.state.fresh_list → ops ≡ front_calls before after ++ (writings ++ back_calls before after)
    → IfSome o (λ told. writings ≡ filter_map (full_writing told before.entries) (entries after.entries)) → IfSome o (λ told. IsFullPlan told before after found)
plan-in-full None before after found ops writings is adds full = tt
plan-in-full (Some told) before after found ops writings is adds full =
    is
    ∙ ap (λ (l : List Op). plan_of l before.state.fresh_list) (
    adds
    ∙ ap (λ (w : List Op). front_calls before after ++ (w ++ back_calls before after)) full
    ∙ sym (planned-full told before after))
