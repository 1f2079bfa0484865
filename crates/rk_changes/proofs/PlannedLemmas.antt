-- The planned calls, one after another, lead to what is to stand.
use Rattle.std.proofs.Common.{◌≡◌, List, [], ◌++◌, Bool, true, false, cond, inl, inr, Option, Some, None, option_map, refl, sym, ap, subst, ◌∙◌}
use Rattle.std.specs.List.{filter_map}
use Rattle.std.specs.Ordering.{eq_by_cmp}
use Rattle.std.specs.FinMap.{entries, get-entries, entries_sorted}
use Rattle.rk_base.specs.Text.{Text, text_cmp, root, is_within}
use Rattle.rk_folder.specs.Told.{Held, standing, is_dir}
use Rattle.rk_folder.specs.declared.folder.Standing.{Standing}
use Rattle.rk_folder.specs.declared.folder.Standing.TheVariants as standing
use Rattle.rk_tree.specs.Content.{bytes_of}
use Rattle.rk_tree.specs.Node.{Node as Entry, File, Dir, Link}
use Rattle.rk_tree.proofs.TextLemmas.{told_apart, root_seen, same_itself}
use Rattle.rk_seal.specs.declared.ops.Op.{Op}
use Rattle.rk_seal.specs.declared.ops.Op.TheVariants.{Write}
use Rattle.rk_changes.specs.declared.holding.Holding.{Holding}
use Rattle.rk_seal.specs.Effects.{after_all, AllowsAll}
use Rattle.rk_changes.specs.Holdings.{placed, hidden_dir, attrs_file, db_file, dir_where, MayBecome, Holds, IsLed, Agree}
use Rattle.rk_changes.specs.Planned.{planned, removal, making, writing, removal_of, making_of, writing_of, hidden_making, attrs_calls, db_calls}
use Rattle.rk_changes.proofs.HiddenLemmas.{attrs_parent, db_parent, dir_not_attrs, dir_not_db, attrs_not_dir, attrs_not_db, db_not_dir, db_not_attrs, dir_hidden, attrs_hidden, db_hidden}
use Rattle.rk_changes.proofs.OrderLemmas.{clash, none_made}
use Rattle.rk_changes.proofs.ReachLemmas.{at_end, standing-after, odd-after, after_all-append, AllowsAll-append}
use Rattle.rk_changes.proofs.EffectLemmas.{placed_dir}
use Rattle.rk_changes.proofs.PhaseLemmas.{removals, makings, writings, held_removed, held_made, held_written, removals_allowed, makings_allowed, writings_allowed, entries_stand, hidden_stays}
use Rattle.rk_changes.proofs.StateLemmas.{elsewhere, hidden_making_at, hidden_making_end, hidden_making_allowed, attrs_calls_at, attrs_calls_end, attrs_calls_allowed, db_calls_at, db_calls_end, db_calls_allowed, same_hidden, same_attrs, same_db}

-- calls that a folder allows lead from one state to another
record Leads (ops : List Op) (old new : Held) : Type 0 where
  allowed : AllowsAll ops old
  reached : after_all ops old ≡ new

leads-append : (xs ys : List Op) (old mid new : Held) → Leads xs old mid → Leads ys mid new → Leads (xs ++ ys) old new
leads-append xs ys old mid new h k = record {
  allowed = AllowsAll-append xs ys old h.allowed (subst (AllowsAll ys) (sym h.reached) k.allowed);
  reached = after_all-append xs ys old ∙ ap (after_all ys) h.reached ∙ k.reached;
}

-- what isn't hidden is at no other path
apart : (path q : Text) → is_within hidden_dir path ≡ true → is_within hidden_dir q ≡ false → eq_by_cmp text_cmp q path ≡ false
apart path q within out = elim (told_apart q path) [
  | inl same ↦ absurd (clash _ within (ap (is_within hidden_dir) (sym same.0) ∙ out))
  | inr other ↦ other.1
]

differs : (q path : Text) → (q ≡ path → ⊥) → eq_by_cmp text_cmp q path ≡ false
differs q path not = elim (told_apart q path) [
  | inl same ↦ absurd (not same.0)
  | inr other ↦ other.1
]

module _ (held : Held) (before after : Holding) (ready : MayBecome held before after) where
  entries_held : Held
  entries_held = held_written held before after ready

  hidden_calls : List Op
  hidden_calls = hidden_making before.rkr after.rkr

  with_hidden : Held
  with_hidden = after_all hidden_calls entries_held

  attrs : List Op
  attrs = attrs_calls before.state.attrs after.state.attrs

  with_attrs : Held
  with_attrs = after_all attrs with_hidden

  db : List Op
  db = db_calls before.state.db after.state.db

  with_db : Held
  with_db = after_all db with_attrs

  -- the hidden directory

  hidden_leads : Leads hidden_calls entries_held with_hidden
  unfolding hidden_calls with_hidden entries_held
  hidden_leads = record {
    allowed = subst (λ (b : Bool). AllowsAll (hidden_making before.rkr b) (held_written held before after ready)) (sym ready.built.rkr) (
        hidden_making_allowed before.rkr (held_written held before after ready)
        (hidden_stays held before after ready hidden_dir dir_hidden ∙ ready.holds.rkr)
        (ap is_dir (entries_stand held before after ready root root_seen) ∙ placed_dir _ ready.built.entries.root_dir));
    reached = refl;
  }

  hidden_other : (q : Text) → eq_by_cmp text_cmp q hidden_dir ≡ false → standing with_hidden q ≡ standing entries_held q
  unfolding with_hidden hidden_calls
  hidden_other q e = standing-after (hidden_making before.rkr after.rkr) entries_held q ∙ elsewhere hidden_dir (hidden_making before.rkr after.rkr) (hidden_making_at before.rkr after.rkr) q _ e

  hidden_stands : standing with_hidden hidden_dir ≡ Some standing.Dir
  unfolding with_hidden hidden_calls entries_held
  hidden_stands =
      standing-after (hidden_making before.rkr after.rkr) entries_held hidden_dir
      ∙ ap (at_end (hidden_making before.rkr after.rkr) hidden_dir) (hidden_stays held before after ready hidden_dir dir_hidden ∙ ready.holds.rkr)
      ∙ ap (λ (b : Bool). at_end (hidden_making before.rkr b) hidden_dir (dir_where before.rkr)) ready.built.rkr
      ∙ hidden_making_end before.rkr

  -- attrs

  old_attrs : standing with_hidden attrs_file ≡ option_map standing.File before.state.attrs
  unfolding entries_held
  old_attrs = hidden_other attrs_file attrs_not_dir ∙ hidden_stays held before after ready attrs_file attrs_hidden ∙ ready.holds.attrs

  attrs_leads : Leads attrs with_hidden with_attrs
  unfolding attrs with_attrs
  attrs_leads = record {
    allowed = attrs_calls_allowed before.state.attrs after.state.attrs with_hidden old_attrs (ap (λ (p : Text). is_dir (standing with_hidden p)) attrs_parent ∙ ap is_dir hidden_stands);
    reached = refl;
  }

  attrs_other : (q : Text) → eq_by_cmp text_cmp q attrs_file ≡ false → standing with_attrs q ≡ standing with_hidden q
  unfolding with_attrs attrs
  attrs_other q e = standing-after (attrs_calls before.state.attrs after.state.attrs) with_hidden q ∙ elsewhere attrs_file (attrs_calls before.state.attrs after.state.attrs) (attrs_calls_at before.state.attrs after.state.attrs) q _ e

  attrs_stands : standing with_attrs attrs_file ≡ option_map standing.File after.state.attrs
  unfolding with_attrs attrs
  attrs_stands =
      standing-after (attrs_calls before.state.attrs after.state.attrs) with_hidden attrs_file
      ∙ ap (at_end (attrs_calls before.state.attrs after.state.attrs) attrs_file) old_attrs
      ∙ attrs_calls_end before.state.attrs after.state.attrs

  -- db

  old_db : standing with_attrs db_file ≡ option_map standing.File ready.db
  unfolding entries_held
  old_db = attrs_other db_file db_not_attrs ∙ hidden_other db_file db_not_dir ∙ hidden_stays held before after ready db_file db_hidden ∙ ready.holds.db

  db_leads : Leads db with_attrs with_db
  unfolding db with_db
  db_leads = record {
    allowed = db_calls_allowed before.state.db ready.db after.state.db with_attrs ready.read old_db (ap (λ (p : Text). is_dir (standing with_attrs p)) db_parent ∙ ap is_dir (attrs_other hidden_dir dir_not_attrs ∙ hidden_stands));
    reached = refl;
  }

  db_other : (q : Text) → eq_by_cmp text_cmp q db_file ≡ false → standing with_db q ≡ standing with_attrs q
  unfolding with_db db
  db_other q e = standing-after (db_calls before.state.db after.state.db) with_attrs q ∙ elsewhere db_file (db_calls before.state.db after.state.db) (db_calls_at before.state.db after.state.db) q _ e

  db_stands : standing with_db db_file ≡ option_map standing.File after.state.db
  unfolding with_db db
  db_stands =
      standing-after (db_calls before.state.db after.state.db) with_attrs db_file
      ∙ ap (at_end (db_calls before.state.db after.state.db) db_file) old_db
      ∙ db_calls_end before.state.db ready.db after.state.db ready.read ready.built.db

  -- all of them

  all_other : (q : Text) → eq_by_cmp text_cmp q hidden_dir ≡ false → eq_by_cmp text_cmp q attrs_file ≡ false → eq_by_cmp text_cmp q db_file ≡ false → standing with_db q ≡ standing entries_held q
  all_other q h a d = db_other q d ∙ attrs_other q a ∙ hidden_other q h

  planned_leads : Leads (planned before after) held with_db
  unfolding removals makings writings hidden_calls attrs db entries_held
  planned_leads =
      leads-append _ _ held with_attrs with_db (
      leads-append _ _ held with_hidden with_attrs (
      leads-append _ _ held (held_written held before after ready) with_hidden (
      leads-append _ _ held (held_made held before after ready) (held_written held before after ready) (
      leads-append _ _ held (held_removed held before after ready) (held_made held before after ready)
      (record { allowed = removals_allowed held before after ready; reached = refl })
      (record { allowed = makings_allowed held before after ready; reached = refl }))
      (record { allowed = writings_allowed held before after ready; reached = refl }))
      hidden_leads) attrs_leads) db_leads

  pub planned_allowed : AllowsAll (planned before after) held
  planned_allowed = planned_leads.allowed

  now_holds : Holds with_db after
  unfolding entries_held
  now_holds = record {
    unseen = ready.built.entries.unseen;
    outside = λ q out. all_other q (apart hidden_dir q dir_hidden out) (apart attrs_file q attrs_hidden out) (apart db_file q db_hidden out) ∙ entries_stand held before after ready q out;
    rkr = db_other hidden_dir dir_not_db ∙ attrs_other hidden_dir dir_not_attrs ∙ hidden_stands ∙ sym (ap dir_where ready.built.rkr);
    db = db_stands;
    attrs = db_other attrs_file attrs_not_db ∙ attrs_stands;
  }

  same_below : (q : Text) → is_within hidden_dir q ≡ true → (q ≡ hidden_dir → ⊥) → (q ≡ db_file → ⊥) → (q ≡ attrs_file → ⊥) → standing with_db q ≡ standing held q
  unfolding entries_held
  same_below q within h d a = all_other q (differs q hidden_dir h) (differs q attrs_file a) (differs q db_file d) ∙ hidden_stays held before after ready q within

  pub planned_after : IsLed held (after_all (planned before after) held) after
  planned_after = record {
    holds = subst (λ (h : Held). Holds h after) (sym planned_leads.reached) now_holds;
    below = λ q within h d a. ap (λ (now : Held). standing now q) planned_leads.reached ∙ same_below q within h d a;
    odd = odd-after (planned before after) held;
  }

-- Nothing is planned where both hold the same.

no_removal : (path : Text) (entry : Entry) (after : Option Standing) → placed (Some entry) ≡ after → removal path entry after ≡ None
no_removal path (File mode content) after e = ap (λ (it : Option Standing). removal path (File mode content) it) (sym e)
no_removal path (Dir mode) after e = ap (λ (it : Option Standing). removal path (Dir mode) it) (sym e)
no_removal path (Link text) after e = refl

no_making : (path : Text) (entry : Entry) (before : Option Standing) → before ≡ placed (Some entry) → making path entry before ≡ None
no_making path (File mode content) before e = refl
no_making path (Dir mode) before e = ap (λ (it : Option Standing). making path (Dir mode) it) e
no_making path (Link text) before e = refl

no_writing : (path : Text) (entry : Entry) (before : Option Standing) → before ≡ placed (Some entry) → writing path entry before ≡ None
no_writing path (File mode content) before e = ap (λ (it : Option Standing). writing path (File mode content) it) e ∙ ap (λ (b : Bool). cond b None (Some (Write path (bytes_of content)))) (same_itself (bytes_of content))
no_writing path (Dir mode) before e = refl
no_writing path (Link text) before e = refl

module _ (before after : Holding) (same : Agree before after) where
  none_removed : filter_map (removal_of after.entries) (entries before.entries) ≡ []
  none_removed = none_made (removal_of after.entries) (entries before.entries) (entries_sorted before.entries)
      (λ row found. no_removal row.0 row.1 _ (sym (ap placed (get-entries before.entries row.0 ∙ found)) ∙ same.entries row.0))

  no_dirs : filter_map (making_of before.entries) (entries after.entries) ≡ []
  no_dirs = none_made (making_of before.entries) (entries after.entries) (entries_sorted after.entries)
      (λ row found. no_making row.0 row.1 _ (same.entries row.0 ∙ ap placed (get-entries after.entries row.0 ∙ found)))

  no_files : filter_map (writing_of before.entries) (entries after.entries) ≡ []
  no_files = none_made (writing_of before.entries) (entries after.entries) (entries_sorted after.entries)
      (λ row found. no_writing row.0 row.1 _ (same.entries row.0 ∙ ap placed (get-entries after.entries row.0 ∙ found)))

  pub nothing_planned : planned before after ≡ []
  nothing_planned =
      simp (none_removed, no_dirs, no_files)
      (ap (λ (b : Bool). hidden_making before.rkr b ++ attrs_calls before.state.attrs after.state.attrs ++ db_calls before.state.db after.state.db) (sym same.rkr)
      ∙ ap (λ (t : Option Text). hidden_making before.rkr before.rkr ++ attrs_calls before.state.attrs t ++ db_calls before.state.db after.state.db) (sym same.attrs)
      ∙ ap (λ (t : Option Text). hidden_making before.rkr before.rkr ++ attrs_calls before.state.attrs before.state.attrs ++ db_calls before.state.db t) (sym same.db)
      ∙ ap (λ (ops : List Op). ops ++ attrs_calls before.state.attrs before.state.attrs ++ db_calls before.state.db before.state.db) (same_hidden before.rkr)
      ∙ ap (λ (ops : List Op). ops ++ db_calls before.state.db before.state.db) (same_attrs before.state.attrs)
      ∙ same_db before.state.db)
