-- A folder that holds what a run leaves: the next build finds the very entries that the run left, and its records.
use Rattle.std.proofs.Common.{◌≡◌, inl, inr, List, [], ◌∷◌, Bool, true, false, ◌&&◌, ◌||◌, Option, Some, None, option_map, cond, refl, sym, ap, subst, ◌∙◌}
use Rattle.std.specs.FinMap.{get}
use Rattle.std.specs.List.{list_all}
use Rattle.rk_base.specs.Text.{Text, is_within, same_text}
use Rattle.rk_base.proofs.CanonicalLemmas.{both, either}
use Rattle.rk_base.proofs.WithinLemmas.{same_is}
use Rattle.tr_record.specs.declared.records.Record.{Record}
use Rattle.rk_attrs.specs.Rows.{are_rows}
use Rattle.tr_kept.specs.KeptSpelling.{FitsKept, kept_spelling}
use Rattle.rk_attrs.specs.declared.rows.AttrRow.{AttrRow}
use Rattle.tr_attrs.proofs.RowLemmas.{one_attrs}
use Rattle.tr_kept.proofs.KeptSealLemmas.{one_kept}
use Rattle.rk_tree.specs.Copies.{snapshot_of as entries_of}
use Rattle.rk_tree.specs.Entries.{IsWholeSnapshot}
use Rattle.rk_tree.specs.Node.{Node}
use Rattle.rk_tree.specs.Node as entry
use Rattle.rk_kernel.specs.World.{World}
use Rattle.rk_kernel.specs.Full.{full_world}
use Rattle.rk_tree.specs.Full.{Told}
use Rattle.rk_build.proofs.FullLemmas.{entries-own}
use Rattle.rk_folder.specs.Hidden.{install_file, fresh_list_file}
use Rattle.rk_folder.specs.Listing.{IsFirst}
use Rattle.rk_folder.specs.Told.{Held, standing, bytes_in, is_dir, is_odd}
use Rattle.rk_folder.specs.Specials.{first_special, is_fault, is_hidden_fault, is_special, is_state_file, is_other_than_dir, is_other_than_file}
use Rattle.rk_folder.specs.Whole.{IsWhole}
use Rattle.rk_folder.specs.declared.folder.Standing.TheVariants.{File}
use Rattle.rk_folder.proofs.FirstLemmas.{first_special-is}
use Rattle.rk_changes.specs.Attributes.{attrs_of}
use Rattle.rk_changes.specs.Holdings.{IsAfter, dir_where, placed, hidden_dir, attrs_file, db_file}
use Rattle.rk_changes.specs.declared.holding.Holding.{Holding}
use Rattle.rk_changes.proofs.AttributesLemmas.{attrs_are, built-held}
use Rattle.rk_changes.proofs.HiddenLemmas.{install_hidden, install_state}
use Rattle.rk_changes.proofs.SeenLemmas.{odd-within}
use Rattle.rk_build.specs.Fresh.{AreInMemory, IsInMemory, attrs_bytes, held_after}
use Rattle.rk_build.specs.Kept.{AreRows, AreTables, state_in}
use Rattle.rk_build.specs.Laws.{KeepsLeft}
use Rattle.rk_build.specs.Outcomes.{IsNext}

-- Nothing of it is special.

clash : (b : Bool) → b ≡ true → b ≡ false → ⊥
clash b t f = cc

never_both : (x a : Bool) → (x ≡ true → a ≡ false) → (x && a) ≡ false
never_both true a h = h refl
never_both false a h = refl

never_any : (x y z w a : Bool) → (x ≡ true → a ≡ false) → (y ≡ true → a ≡ false) → (z ≡ true → a ≡ false) → (w ≡ true → a ≡ false) → ((x || (y || (z || w))) && a) ≡ false
never_any true y z w a h g i j = h refl
never_any false true z w a h g i j = g refl
never_any false false true w a h g i j = i refl
never_any false false false w a h g i j = never_both w a j

neither : (x y : Bool) → x ≡ false → y ≡ false → (x || y) ≡ false
neither x y h g = cc

placed_plain : (o : Option Node) → is_special (placed o) ≡ false
placed_plain None = refl
placed_plain (Some (entry.File mode bytes)) = refl
placed_plain (Some (entry.Dir mode)) = refl
placed_plain (Some (entry.Link text)) = refl

file_plain : (o : Option Text) → is_other_than_file (option_map File o) ≡ false
file_plain None = refl
file_plain (Some bytes) = refl

none_odd : (q : Text) (odd : List Text) → list_all (λ dir. is_within hidden_dir dir) odd ≡ true → is_within hidden_dir q ≡ false → is_odd q odd ≡ false
none_odd q [] all out = refl
none_odd q (dir ∷ odd) all out =
    let a = both (is_within hidden_dir dir) (list_all (λ d. is_within hidden_dir d) odd) all in
    neither (same_text dir q) (is_odd q odd)
    (elim (same_text dir q) as (λ (b : Bool). same_text dir q ≡ b → b ≡ false) [
      | true ↦ λ e. absurd (clash (is_within hidden_dir dir) a.0 (ap (is_within hidden_dir) (same_is dir q e) ∙ out))
      | false ↦ λ e. refl
    ] refl)
    (none_odd q odd a.1 out)

none_first : (test : Text → Bool) (o : Option Text) → ((q : Text) → test q ≡ false) → IsFirst test o → o ≡ None
none_first test None none first = refl
none_first test (Some p) none first = absurd (clash (test p) first.0 (none p))

module _ (held after : Held) (holding : Holding) (whole : IsWhole held) (plain : first_special held ≡ None) (is : IsAfter held after holding) (rkr : holding.rkr ≡ true) where
  no_fault_outside : (q : Text) → is_within hidden_dir q ≡ false → is_fault after q ≡ false
  unfolding is_fault
  no_fault_outside q out =
      ap (λ (b : Bool). cond b (is_hidden_fault q (standing after q)) (is_special (standing after q) || (is_dir (standing after q) && is_odd q after.odd))) out
      ∙ neither (is_special (standing after q)) (is_dir (standing after q) && is_odd q after.odd)
      (ap is_special (is.holds.outside q out) ∙ placed_plain (get holding.entries q))
      (never_both (is_dir (standing after q)) (is_odd q after.odd) (λ d. ap (is_odd q) is.same_else.odd ∙ none_odd q held.odd (odd-within held whole plain) out))

  dir_there : is_other_than_dir (standing after hidden_dir) ≡ false
  dir_there = ap is_other_than_dir (is.holds.rkr ∙ ap dir_where rkr)

  -- a sealed list of calls is as before, or gone
  nowhere : (q : Text) → is_fault held q ≡ false
  nowhere = subst (IsFirst (is_fault held)) plain (first_special-is held)

  was_well : (q : Text) → is_within hidden_dir q ≡ true → is_state_file q ≡ true → is_other_than_file (standing held q) ≡ false
  unfolding is_fault
  was_well q inside state =
      ap (λ (b : Bool). b && is_other_than_file (standing held q)) (sym state)
      ∙ (either (same_text q hidden_dir && is_other_than_dir (standing held q)) (is_state_file q && is_other_than_file (standing held q))
      (sym (ap (λ (b : Bool). cond b (is_hidden_fault q (standing held q)) (is_special (standing held q) || (is_dir (standing held q) && is_odd q held.odd))) inside) ∙ nowhere q)).1

  list_well : is_other_than_file (standing after install_file) ≡ false
  list_well = elim is.list [
    | inl gone ↦ ap is_other_than_file gone
    | inr same ↦ ap is_other_than_file same ∙ was_well install_file install_hidden install_state
  ]

  hidden_well : (q : Text) → is_hidden_fault q (standing after q) ≡ false
  hidden_well q =
      neither (same_text q hidden_dir && is_other_than_dir (standing after q)) (is_state_file q && is_other_than_file (standing after q))
      (never_both (same_text q hidden_dir) (is_other_than_dir (standing after q)) (λ e. ap (λ (t : Text). is_other_than_dir (standing after t)) (same_is q hidden_dir e) ∙ dir_there))
      (never_any (same_text q attrs_file) (same_text q db_file) (same_text q install_file) (same_text q fresh_list_file) (is_other_than_file (standing after q))
      (λ e. ap (λ (t : Text). is_other_than_file (standing after t)) (same_is q attrs_file e) ∙ ap is_other_than_file is.holds.attrs ∙ file_plain holding.state.attrs)
      (λ e. ap (λ (t : Text). is_other_than_file (standing after t)) (same_is q db_file e) ∙ ap is_other_than_file is.holds.db ∙ file_plain holding.state.db)
      (λ e. ap (λ (t : Text). is_other_than_file (standing after t)) (same_is q install_file e) ∙ list_well)
      (λ e. ap (λ (t : Text). is_other_than_file (standing after t)) (same_is q fresh_list_file e) ∙ ap is_other_than_file is.draft))

  no_fault_inside : (q : Text) → is_within hidden_dir q ≡ true → is_fault after q ≡ false
  unfolding is_fault
  no_fault_inside q inside =
      ap (λ (b : Bool). cond b (is_hidden_fault q (standing after q)) (is_special (standing after q) || (is_dir (standing after q) && is_odd q after.odd))) inside
      ∙ hidden_well q

  no_fault : (q : Text) → is_fault after q ≡ false
  no_fault q = (elim (is_within hidden_dir q) as (λ (b : Bool). is_within hidden_dir q ≡ b → is_fault after q ≡ false) [
    | true ↦ λ e. no_fault_inside q e
    | false ↦ λ e. no_fault_outside q e
  ]) refl

  pub after-plain : first_special after ≡ None
  after-plain = none_first (is_fault after) (first_special after) no_fault (first_special-is after)

-- Its state files are well.

bytes_held : (o : Option Text) → bytes_in (option_map File o) ≡ o
bytes_held None = refl
bytes_held (Some bytes) = refl

rows-kept : (rows : List (Text × AttrRow)) → are_rows rows ≡ true → IsInMemory (attrs_bytes rows) → AreRows (attrs_bytes rows) rows
rows-kept [] are small = (refl, λ other spells. sym spells)
rows-kept (row ∷ rows) are small = ((are, refl), λ other spells. one_attrs (row ∷ rows) other are spells.0 small spells.1)

tables-kept : (kept : List (List Record)) → FitsKept kept → IsInMemory (Some (kept_spelling kept)) → AreTables (Some (kept_spelling kept)) kept
tables-kept kept fits small = (inl (fits, refl), λ other spells. one_kept (kept_spelling kept) kept other small (inl (fits, refl)) spells)

pub finds-next : (held after : Held) (world : World) (kept : List (List Record)) → IsWhole held → first_special held ≡ None → IsAfter held after (held_after world kept) → IsWholeSnapshot (entries_of world.tree) → FitsKept kept → AreInMemory world kept → KeepsLeft world kept after
finds-next held after world kept whole plain is entries fits small =
    let rows = attrs_of (entries_of world.tree) in
    let attrs : (state_in after).attrs ≡ attrs_bytes rows = ap bytes_in is.holds.attrs ∙ bytes_held (attrs_bytes rows) in
    let db : (state_in after).db ≡ Some (kept_spelling kept) = ap bytes_in is.holds.db ∙ bytes_held (Some (kept_spelling kept)) in
    record {
      plain = after-plain held after (held_after world kept) whole plain is refl;
      rows = rows;
      old = kept;
      kept = (subst (λ (o : Option Text). AreRows o rows) (sym attrs) (rows-kept rows (attrs_are (entries_of world.tree) entries) small.0), subst (λ (o : Option Text). AreTables o kept) (sym db) (tables-kept kept fits small.1));
      so = (built-held after (held_after world kept) is.holds entries, refl);
    }

-- of a world in full it is the very tree
pub next-in-full : (told : Told) (world : World) (kept : List (List Record)) (after : Held) → KeepsLeft (full_world told world) kept after → IsNext (full_world told world) kept after
next-in-full told world kept after left = record { plain = left.plain; rows = left.rows; old = left.old; kept = left.kept; so = (left.so.0 ∙ entries-own told world, left.so.1) }
