-- The install of a plan: the folder allows it, and it leads to what the folder is to hold.
use Rattle.std.proofs.Common.{◌≡◌, ◌≢◌, inl, inr, List, [], ◌∷◌, ◌++◌, Bool, true, false, cond, ◌||◌, reverse, Option, Some, None, refl, sym, ap, subst, ◌∙◌}
use Rattle.std.specs.List.{filter_map, list_any}
use Rattle.std.specs.FinMap.{entries}
use Rattle.rk_base.specs.Text.{Text, join, same_text}
use Rattle.rk_base.proofs.CanonicalLemmas.{either}
use Rattle.rk_base.proofs.WithinLemmas.{same_itself, ties_itself}
use Rattle.rk_folder.specs.Hidden.{hidden_dir, install_file, fresh_list_file}
use Rattle.rk_folder.specs.Told.{Held, is_dir, is_file, is_file_or_nothing, standing, without}
use Rattle.rk_folder.specs.declared.folder.Standing.{Standing}
use Rattle.rk_folder.specs.declared.folder.Standing.TheVariants.{File, Dir, Special}
use Rattle.rk_folder.proofs.HeldLemmas.{one_path, same_path, standing-without}
use Rattle.rk_seal.specs.Effects.{after_all}
use Rattle.rk_seal.specs.Ops.{are_calls}
use Rattle.rk_seal.specs.declared.ops.Op.{Op}
use Rattle.rk_seal.specs.declared.plan.Plan.{Plan}
use Rattle.rk_install.specs.Install.{AllowsCalls, AllowsInstall, AllowsPlan, MayInstall, carried, carried_out, cleared, installed, makes_hidden}
use Rattle.rk_install.proofs.AllowLemmas.{allows-install, leaves-so}
use Rattle.rk_changes.specs.Holdings.{HasPlaces, IsAfter, IsLed, MayBecome, dir_where}
use Rattle.rk_changes.specs.Planned.{IsPlan, attrs_calls, db_calls, hidden_making, making_of, planned, removal_of, writing_of}
use Rattle.rk_changes.specs.declared.holding.Holding.{Holding}
use Rattle.rk_changes.proofs.HoldingLemmas.{goes-on}
use Rattle.rk_changes.proofs.PlanLemmas.{IsListed, plan-calls, plan-list}
use Rattle.rk_changes.proofs.PlannedLemmas.{planned_after, planned_allowed}
use Rattle.rk_changes.proofs.ReachLemmas.{odd-after}

clash : (b : Bool) → b ≡ true → b ≡ false → ⊥
clash b t f = cc

-- Whether a plan makes the hidden directory.

none-behind : (f : Op → Bool) (xs ys : List Op) → list_any f (xs ++ ys) ≡ false → list_any f ys ≡ false
none-behind f [] ys h = h
none-behind f (x ∷ xs) ys h = none-behind f xs ys (either (f x) (list_any f (xs ++ ys)) h).1

none-before : (f : Op → Bool) (xs ys : List Op) → list_any f (xs ++ ys) ≡ false → list_any f xs ≡ false
none-before f [] ys h = refl
none-before f (x ∷ xs) ys h =
    let e = either (f x) (list_any f (xs ++ ys)) h in
    ap (λ (b : Bool). b || list_any f xs) e.0 ∙ none-before f xs ys e.1

stands-by : (before : Bool) → list_any makes_hidden (hidden_making before true) ≡ false → before ≡ true
stands-by true h = refl
stands-by false h = absurd (clash (same_text hidden_dir hidden_dir) (same_itself hidden_dir) (either (same_text hidden_dir hidden_dir) false h).0)

-- where it is not among the calls, it stood
stood : (before after : Holding) → after.rkr ≡ true → list_any makes_hidden (planned before after) ≡ false → before.rkr ≡ true
stood before after rkr none =
    let removals : List Op = reverse (filter_map (removal_of after.entries) (entries before.entries)) in
    let makings : List Op = filter_map (making_of before.entries) (entries after.entries) in
    let writings : List Op = filter_map (writing_of before.entries) (entries after.entries) in
    let attrs : List Op = attrs_calls before.state.attrs after.state.attrs in
    let db : List Op = db_calls before.state.db after.state.db in
    let hidden : List Op = hidden_making before.rkr after.rkr in
    let one = none-before makes_hidden (removals ++ makings ++ writings ++ hidden ++ attrs) db none in
    let two = none-before makes_hidden (removals ++ makings ++ writings ++ hidden) attrs one in
    let three = none-behind makes_hidden (removals ++ makings ++ writings) hidden two in
    stands-by before.rkr (subst (λ (b : Bool). list_any makes_hidden (hidden_making before.rkr b) ≡ false) rkr three)

nothing-stands : (o : Option Standing) → is_file_or_nothing o ≡ true → is_file o ≡ false → o ≡ None
nothing-stands None h k = refl
nothing-stands (Some (File bytes)) h k = cc
nothing-stands (Some Dir) h k = cc
nothing-stands (Some Special) h k = cc

not_same : (q path : Text) → q ≢ path → same_path q path ≡ false
not_same q path other = by (same_path q path) refl where
  by : (b : Bool) → same_path q path ≡ b → same_path q path ≡ false
  by true e = absurd (other (one_path q path e))
  by false e = e

install_not_fresh : same_path install_file fresh_list_file ≡ false
unfolding join
install_not_fresh = refl

module _ (held : Held) (before after : Holding) (ready : MayBecome held before after) (places : HasPlaces held before) where
  may-install : are_calls (planned before after) ≡ true → MayInstall (planned before after) held
  may-install are = record {
    whole = ready.whole;
    are = are;
    calls = planned_allowed held before after ready;
    list = places.list;
    draft = places.draft;
    hidden = λ none. ap is_dir (ready.holds.rkr ∙ ap dir_where (stood before after ready.built.rkr none));
  }

  is_fresh : (plan : Plan) → IsPlan before after plan → plan.fresh_list ≡ is_file (standing held fresh_list_file)
  is_fresh plan is = (plan-calls (planned before after) before.state.fresh_list plan is).1 ∙ places.fresh_list

  allows-by : (fresh : Bool) (calls : Option (List Op)) → fresh ≡ is_file (standing held fresh_list_file) → IsListed calls (planned before after) → AllowsCalls calls fresh held
  allows-by fresh None stands none = λ on. sym stands ∙ on
  allows-by fresh (Some list) stands listed = subst (λ (l : List Op). AllowsInstall l held) (sym listed.0) (allows-install (planned before after) held (may-install listed.1))

  -- the folder allows the plan
  pub plan-allows : (plan : Plan) → IsPlan before after plan → AllowsPlan plan held
  plan-allows plan is = allows-by plan.fresh_list plan.calls (is_fresh plan is) (plan-list (planned before after) before.state.fresh_list plan is)

  cleared-leads : (fresh : Bool) → fresh ≡ is_file (standing held fresh_list_file) → IsLed held held after → IsAfter held (cleared fresh held) after
  cleared-leads true stands led =
      goes-on held held (without fresh_list_file held) after led
      (λ q i f. standing-without fresh_list_file held q ∙ ap (λ (b : Bool). cond b None (standing held q)) (not_same q fresh_list_file f))
      refl
      (standing-without fresh_list_file held fresh_list_file ∙ ap (λ (b : Bool). cond b None (standing held fresh_list_file)) (ties_itself fresh_list_file))
      (inr (standing-without fresh_list_file held install_file ∙ ap (λ (b : Bool). cond b None (standing held install_file)) install_not_fresh))
  cleared-leads false stands led =
      goes-on held held held after led (λ q i f. refl) refl (nothing-stands (standing held fresh_list_file) places.draft (sym stands)) (inr refl)

  leads-by : (fresh : Bool) (calls : Option (List Op)) → fresh ≡ is_file (standing held fresh_list_file) → IsListed calls (planned before after) → IsAfter held (carried_out calls fresh held) after
  leads-by fresh None stands none = cleared-leads fresh stands (subst (λ (ops : List Op). IsLed held (after_all ops held) after) none (planned_after held before after ready))
  leads-by fresh (Some list) stands listed =
      let ops = planned before after in
      let left = leaves-so ops held (may-install listed.1) in
      subst (λ (l : List Op). IsAfter held (installed l held) after) (sym listed.0)
      (goes-on held (after_all ops held) (installed ops held) after (planned_after held before after ready) left.same (left.odd ∙ sym (odd-after ops held)) left.draft (inl left.list))

  -- and it leads to what the folder is to hold
  pub plan-leads : (plan : Plan) → IsPlan before after plan → IsAfter held (carried plan held) after
  plan-leads plan is = leads-by plan.fresh_list plan.calls (is_fresh plan is) (plan-list (planned before after) before.state.fresh_list plan is)
