-- The pass over words, redirections and assignments.
use Rattle.std.proofs.Common.{◌≡◌, ℕ, zero, suc, ◌≤◌, List, [], ◌∷◌, ◌++◌, Bool, codes, refl, ap, subst, ◌∙◌, arith}
use Rattle.rk_base.specs.Text.{Text}
use Rattle.rk_calls.specs.Lines.{error_line}
use Rattle.rk_calls.specs.Views.{View, Alike, alike-if}
use Rattle.sh_ast.specs.Words.{PartsTree}
use Rattle.sh_vars.specs.Held.{Held, is_readonly}
use Rattle.sh_expand.specs.declared.mode.Mode.{Mode}
use Rattle.sh_expand.specs.declared.mode.Mode.TheVariants as mode
use Rattle.sh_expand.specs.declared.mode.Expanded.{Expanded}
use Rattle.sh_expand.proofs.AlikeLemmas as expansion
use Rattle.sh_expand.specs.Means.{expand_in}
use Rattle.sh_redirect.specs.declared.descriptors.DescriptorTable.{DescriptorTable}
use Rattle.sh_redirect.specs.declared.kind.Redirect.{Redirect}
use Rattle.sh_redirect.specs.DescriptorTable.{put_back}
use Rattle.sh_redirect.proofs.LawLemmas.{alike-redirects}
use Rattle.sh_redirect.specs.Redirects.{After}
use Rattle.sh_means.specs.declared.flow.Flow.TheVariants.{Normal, Exits}
use Rattle.sh_means.specs.declared.flow.Place.{Place}
use Rattle.sh_means.specs.State.{Shell, with_env, with_status, with_held, back_env, set_variable, put_back_variables}
use Rattle.sh_means.specs.Flows.{Next, Go_on, Means, sh, ends}
use Rattle.sh_means.specs.Words.{WordMeant, nothing, body_at, bodies_at, faults, expand_word, fields_of, value_of, expand_words, RedirectMeant, named, moved, redirect_to, redirect_all, unredirected, AssignMeant, names, assigns, assign_all, unassigned}
use Rattle.sh_means.proofs.AlikeFlows.{Each, Below, Goes, SameMeans, all-down, tells-alike, ends-alike}

module _ (v : View) where
  abbrev pub SameWord : ℕ → WordMeant → WordMeant → Type 0
  SameWord P w w' = (w.parts ≡ w'.parts) × Each (SameMeans v P) w.bodies w'.bodies

  abbrev pub SameRedirect : ℕ → RedirectMeant → RedirectMeant → Type 0
  SameRedirect P r r' = (r.descriptor ≡ r'.descriptor) × (r.kind ≡ r'.kind) × SameWord P r.operand r'.operand

  abbrev pub SameAssign : ℕ → AssignMeant → AssignMeant → Type 0
  SameAssign P a a' = (a.name ≡ a'.name) × SameWord P a.value a'.value

  -- what comes after a word
  abbrev pub SameUse : ℕ → (Expanded → Go_on) → (Expanded → Go_on) → Type 0
  SameUse P u u' = (x : Expanded) → Goes v P (u x) (u' x)

  -- Words.

  nothing-alike : (P : ℕ) → SameMeans v P nothing nothing
  nothing-alike P pl e p k k' le h = h Normal (with_status 0 e) p (omega arith)

  body_at-alike : (P : ℕ) (ms ms' : List Means) (i : ℕ) → Each (SameMeans v P) ms ms' → SameMeans v P (body_at ms i) (body_at ms' i)
  body_at-alike P [] [] i s = nothing-alike P
  body_at-alike P [] (m ∷ ms) i s = absurd s
  body_at-alike P (m ∷ ms) [] i s = absurd s
  body_at-alike P (m ∷ ms) (m' ∷ ms') zero s = s.0
  body_at-alike P (m ∷ ms) (m' ∷ ms') (suc i) s = body_at-alike P ms ms' i s.1

  bodies_at-alike : (P : ℕ) (ms ms' : List Means) (pl : Place) (e : Shell) (i : ℕ) → Each (SameMeans v P) ms ms' → expansion.SameBody v P (bodies_at ms pl e i) (bodies_at ms' pl e i)
  bodies_at-alike P ms ms' pl e i s env p k k' le hk =
      body_at-alike P ms ms' i s pl _ p (λ f e'. k (back_env env e'.env)) (λ f e'. k' (back_env env e'.env)) le (λ f e' p' le'. hk (back_env env e'.env) p' le')

  faults-alike : (P : ℕ) (parameter message : Text) (k k' : Next) → Below v P k k' → Goes v P (faults parameter message k) (faults parameter message k')
  faults-alike P parameter message k k' h = tells-alike v P (error_line sh parameter message) (ends Exits 1 k) (ends Exits 1 k') (ends-alike v P Exits 1 k k' h)

  pub expand_word-alike : (P : ℕ) (m : Mode) (w w' : WordMeant) (pl : Place) (u u' : Expanded → Go_on) (k k' : Next) → SameWord P w w' → SameUse P u u' → Below v P k k' → Goes v P (expand_word m w pl u k) (expand_word m w' pl u' k')
  expand_word-alike P m w w' pl u u' k k' s hu hk e p le =
      subst (λ (parts : PartsTree). Alike v p (expand_word m w pl u k e) (expand_in m (bodies_at w'.bodies pl e) parts (λ x env. u' x (with_env env e)) (λ parameter message env. faults parameter message k' (with_env env e)) e.env)) s.0
      (expansion.expand_in-alike v P m (bodies_at w.bodies pl e) (bodies_at w'.bodies pl e) w.parts (λ x env. u x (with_env env e)) (λ x env. u' x (with_env env e)) (λ parameter message env. faults parameter message k (with_env env e)) (λ parameter message env. faults parameter message k' (with_env env e))
      (λ i. bodies_at-alike P w.bodies w'.bodies pl e i s.1) (λ x env q lq. hu x (with_env env e) q lq) (λ parameter message env q lq. faults-alike P parameter message k k' hk (with_env env e) q lq) e.env p le)

  pub expand_words-alike : (P : ℕ) (ws ws' : List WordMeant) (fields : List Text) (pl : Place) (go go' : List Text → Go_on) (k k' : Next) → Each (SameWord P) ws ws' → ((fs : List Text) → Goes v P (go fs) (go' fs)) → Below v P k k' → Goes v P (expand_words ws fields pl go k) (expand_words ws' fields pl go' k')
  expand_words-alike P [] [] fields pl go go' k k' s h hk e p le = h fields e p le
  expand_words-alike P [] (w ∷ ws) fields pl go go' k k' s h hk e p le = absurd s
  expand_words-alike P (w ∷ ws) [] fields pl go go' k k' s h hk e p le = absurd s
  expand_words-alike P (w ∷ ws) (w' ∷ ws') fields pl go go' k k' s h hk e p le =
      let on : Expanded → Go_on = λ x. expand_words ws (fields ++ fields_of x) pl go k in
      let on' : Expanded → Go_on = λ x. expand_words ws' (fields ++ fields_of x) pl go' k' in
      expand_word-alike P mode.Fields w w' pl on on' k k' s.0 (λ x. expand_words-alike P ws ws' (fields ++ fields_of x) pl go go' k k' s.1 h hk) hk e p le

  -- Redirections.

  redirect_to-alike : (P : ℕ) (r : Redirect) (d : ℕ) (text : Text) (g g' h h' : Go_on) → Goes v P g g' → Goes v P h h' → Goes v P (redirect_to r d text g h) (redirect_to r d text g' h')
  redirect_to-alike P r d text g g' h h' hg hh e p le =
      let k : After = record { made = λ ds env. g (moved ds env e); refused = λ ds env. h (moved ds env e) } in
      let k' : After = record { made = λ ds env. g' (moved ds env e); refused = λ ds env. h' (moved ds env e) } in
      alike-redirects r d text v p k k' e.descriptors e.env (λ ds env q lq. hg (moved ds env e) q (omega arith), λ ds env q lq. hh (moved ds env e) q (omega arith))

  pub redirect_all-alike : (P : ℕ) (rs rs' : List RedirectMeant) (pl : Place) (g g' h h' : Go_on) (k k' : Next) → Each (SameRedirect P) rs rs' → Goes v P g g' → Goes v P h h' → Below v P k k' → Goes v P (redirect_all rs pl g h k) (redirect_all rs' pl g' h' k')
  redirect_all-alike P [] [] pl g g' h h' k k' s hg hh hk e p le = hg e p le
  redirect_all-alike P [] (r ∷ rs) pl g g' h h' k k' s hg hh hk e p le = absurd s
  redirect_all-alike P (r ∷ rs) [] pl g g' h h' k k' s hg hh hk e p le = absurd s
  redirect_all-alike P (r ∷ rs) (r' ∷ rs') pl g g' h h' k k' s hg hh hk e p le =
      let x : Go_on = redirect_all rs pl g h k in
      let x' : Go_on = redirect_all rs' pl g' h' k' in
      let to : Expanded → Go_on = λ t e'. redirect_to r.kind r.descriptor (value_of t) x h e' in
      let to' : Expanded → Go_on = λ t e'. redirect_to r'.kind r'.descriptor (value_of t) x' h' e' in
      let onward : SameUse P to to' =
      λ t e' q lq. subst (λ (kd : Redirect). Alike v q (to t e') (redirect_to kd r'.descriptor (value_of t) x' h' e')) s.0.1
      (subst (λ (d : ℕ). Alike v q (to t e') (redirect_to r.kind d (value_of t) x' h' e')) s.0.0
      (redirect_to-alike P r.kind r.descriptor (value_of t) x x' h h' (redirect_all-alike P rs rs' pl g g' h h' k k' s.1 hg hh hk) hh e' q lq)) in
      expand_word-alike P mode.Value r.operand r'.operand pl to to' k k' s.0.2 onward hk e p le

  pub unredirected-alike : (P : ℕ) (ds : List ℕ) (before : DescriptorTable) (k k' : Next) → Below v P k k' → Below v P (unredirected ds before k) (unredirected ds before k')
  unredirected-alike P ds before k k' h f e p le = h f (record e { descriptors = put_back ds before e.descriptors }) p le

  pub named-same : (P : ℕ) (rs rs' : List RedirectMeant) → Each (SameRedirect P) rs rs' → named rs ≡ named rs'
  named-same P [] [] s = refl
  named-same P [] (r ∷ rs) s = absurd s
  named-same P (r ∷ rs) [] s = absurd s
  named-same P (r ∷ rs) (r' ∷ rs') s = ap (λ d. d ∷ named rs) s.0.0 ∙ ap (λ ds. r'.descriptor ∷ ds) (named-same P rs rs' s.1)

  -- Assignments.

  pub assigns-alike : (P : ℕ) (exported : Bool) (name value : Text) (g g' : Go_on) (k k' : Next) → Goes v P g g' → Below v P k k' → Goes v P (assigns exported name value g k) (assigns exported name value g' k')
  assigns-alike P exported name value g g' k k' hg hk e p le =
      alike-if v p (is_readonly e.env.vars name) _ _ _ _ (tells-alike v P (error_line sh name (codes "readonly")) (ends Exits 1 k) (ends Exits 1 k') (ends-alike v P Exits 1 k k' hk) e p le) (hg (with_held (set_variable exported name value e.env.vars) e) p le)

  pub assign_all-alike : (P : ℕ) (as' bs : List AssignMeant) (exported : Bool) (pl : Place) (g g' : Go_on) (k k' : Next) → Each (SameAssign P) as' bs → Goes v P g g' → Below v P k k' → Goes v P (assign_all as' exported pl g k) (assign_all bs exported pl g' k')
  assign_all-alike P [] [] exported pl g g' k k' s hg hk e p le = hg e p le
  assign_all-alike P [] (b ∷ bs) exported pl g g' k k' s hg hk e p le = absurd s
  assign_all-alike P (a ∷ as') [] exported pl g g' k k' s hg hk e p le = absurd s
  assign_all-alike P (a ∷ as') (b ∷ bs) exported pl g g' k k' s hg hk e p le =
      let x : Go_on = assign_all as' exported pl g k in
      let x' : Go_on = assign_all bs exported pl g' k' in
      let to : Expanded → Go_on = λ t e'. assigns exported a.name (value_of t) x k e' in
      let to' : Expanded → Go_on = λ t e'. assigns exported b.name (value_of t) x' k' e' in
      let onward : SameUse P to to' =
      λ t e' q lq. subst (λ (name : Text). Alike v q (to t e') (assigns exported name (value_of t) x' k' e')) s.0.0
      (assigns-alike P exported a.name (value_of t) x x' k k' (assign_all-alike P as' bs exported pl g g' k k' s.1 hg hk) hk e' q lq) in
      expand_word-alike P mode.Value a.value b.value pl to to' k k' s.0.1 onward hk e p le

  pub unassigned-alike : (P : ℕ) (ns : List Text) (before : Held) (k k' : Next) → Below v P k k' → Below v P (unassigned ns before k) (unassigned ns before k')
  unassigned-alike P ns before k k' h f e p le = h f (with_held (put_back_variables ns before e.env.vars) e) p le

  pub names-same : (P : ℕ) (as' bs : List AssignMeant) → Each (SameAssign P) as' bs → names as' ≡ names bs
  names-same P [] [] s = refl
  names-same P [] (b ∷ bs) s = absurd s
  names-same P (a ∷ as') [] s = absurd s
  names-same P (a ∷ as') (b ∷ bs) s = ap (λ n. n ∷ names as') s.0.0 ∙ ap (λ ns. b.name ∷ ns) (names-same P as' bs s.1)

  -- What is alike wherever at most P turns are left is so where at most p are.

  pub word-down : (P p : ℕ) (w w' : WordMeant) → p ≤ P → SameWord P w w' → SameWord p w w'
  word-down P p w w' le s = (s.0, all-down v P p w.bodies w'.bodies le s.1)

  pub words-down : (P p : ℕ) (ws ws' : List WordMeant) → p ≤ P → Each (SameWord P) ws ws' → Each (SameWord p) ws ws'
  words-down P p [] [] le s = tt
  words-down P p [] (w ∷ ws) le s = absurd s
  words-down P p (w ∷ ws) [] le s = absurd s
  words-down P p (w ∷ ws) (w' ∷ ws') le s = (word-down P p w w' le s.0, words-down P p ws ws' le s.1)

  pub redirects-down : (P p : ℕ) (rs rs' : List RedirectMeant) → p ≤ P → Each (SameRedirect P) rs rs' → Each (SameRedirect p) rs rs'
  redirects-down P p [] [] le s = tt
  redirects-down P p [] (r ∷ rs) le s = absurd s
  redirects-down P p (r ∷ rs) [] le s = absurd s
  redirects-down P p (r ∷ rs) (r' ∷ rs') le s = ((s.0.0, s.0.1, word-down P p r.operand r'.operand le s.0.2), redirects-down P p rs rs' le s.1)

  pub assigns-down : (P p : ℕ) (as' bs : List AssignMeant) → p ≤ P → Each (SameAssign P) as' bs → Each (SameAssign p) as' bs
  assigns-down P p [] [] le s = tt
  assigns-down P p [] (b ∷ bs) le s = absurd s
  assigns-down P p (a ∷ as') [] le s = absurd s
  assigns-down P p (a ∷ as') (b ∷ bs) le s = ((s.0.0, word-down P p a.value b.value le s.0.1), assigns-down P p as' bs le s.1)
