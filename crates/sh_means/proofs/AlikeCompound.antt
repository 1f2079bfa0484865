-- The pass over compound commands, pipelines, lists and definitions of functions.
use Rattle.std.proofs.Common.{◌≡◌, ℕ, ◌-◌, ◌<◌, ◌≤◌, List, [], ◌∷◌, Option, Some, None, Bool, true, false, if◌then◌else◌, refl, subst, arith}
use Rattle.rk_base.specs.Text.{Text}
use Rattle.rk_calls.specs.Talk.{pay}
use Rattle.rk_calls.specs.Views.{View, Alike, alike-if, alike-pay, alike-ask}
use Rattle.sh_ast.specs.declared.command.Connector.{Connector}
use Rattle.sh_pattern.specs.Decided.{is_matched}
use Rattle.sh_expand.specs.declared.mode.Mode.TheVariants as mode
use Rattle.sh_expand.specs.declared.mode.Expanded.{Expanded}
use Rattle.sh_means.specs.declared.flow.Flow.TheVariants.{Normal}
use Rattle.sh_means.specs.declared.flow.Place.{Place}
use Rattle.sh_means.specs.State.{FunctionTree, Shell, with_status, heard, back, past_stage, define}
use Rattle.sh_means.specs.Flows.{Next, Go_on, Means, ends, and_then, by_status, in_loop, watched, inverted, ignoring, deeper}
use Rattle.sh_means.specs.Words.{WordMeant, RedirectMeant, value_of, named, redirect_all, unredirected}
use Rattle.sh_means.specs.Compound.{seq_all, whole_of, place_before, takes, links_mean, and_or_means, stages_mean, piped_means, pipeline_means, define_means, subshell_means, BranchMeant, if_means, LoopMeant, turns_round, next_round, after_body, after_condition, round_means, for_each, for_fields, ForMeant, Parameters, Among, for_means, CaseMeant, case_patterns, case_items, case_means, made_compound, refused_compound, compound_means}
use Rattle.sh_means.proofs.AlikeFlows.{Each, Below, Goes, SameMeans, lower, means-down, all-down, ends-alike, and_then-alike, by_status-alike, in_loop-alike, watched-alike, inverted-alike}
use Rattle.sh_means.proofs.AlikeWords.{SameWord, SameRedirect, expand_word-alike, expand_words-alike, redirect_all-alike, unredirected-alike, named-same, assigns-alike, word-down, words-down, redirects-down}

module _ (v : View) where
  -- Lists.

  seq_all-alike : (Q : ℕ) (ms ns : List Means) → Each (SameMeans v Q) ms ns → SameMeans v Q (seq_all ms) (seq_all ns)
  seq_all-alike Q [] [] s pl e p k k' le hk = hk Normal e p (omega arith)
  seq_all-alike Q [] (n ∷ ns) s pl e p k k' le hk = absurd s
  seq_all-alike Q (m ∷ ms) [] s pl e p k k' le hk = absurd s
  seq_all-alike Q (m ∷ ms) (n ∷ ns) s pl e p k k' le hk =
      s.0 pl e p (and_then (λ e. seq_all ms pl e k) k) (and_then (λ e. seq_all ns pl e k') k') le
      (and_then-alike v p (λ e. seq_all ms pl e k) (λ e. seq_all ns pl e k') k k' (λ e' p' le'. seq_all-alike Q ms ns s.1 pl e' p' k k' (omega arith) (lower v p p' k k' le' hk)) hk)

  pub whole_of-alike : (Q : ℕ) (ms ns : List Means) → Each (SameMeans v Q) ms ns → SameMeans v Q (whole_of ms) (whole_of ns)
  whole_of-alike Q [] [] s pl e p k k' le hk = hk Normal (with_status 0 e) p (omega arith)
  whole_of-alike Q [] (n ∷ ns) s pl e p k k' le hk = absurd s
  whole_of-alike Q (m ∷ ms) [] s pl e p k k' le hk = absurd s
  whole_of-alike Q (m ∷ ms) (n ∷ ns) s pl e p k k' le hk = seq_all-alike Q (m ∷ ms) (n ∷ ns) s pl e p k k' le hk

  place-same : (Q : ℕ) (ms ns : List Means) (pl : Place) → Each (SameMeans v Q) ms ns → place_before ms pl ≡ place_before ns pl
  place-same Q [] [] pl s = refl
  place-same Q [] (n ∷ ns) pl s = absurd s
  place-same Q (m ∷ ms) [] pl s = absurd s
  place-same Q (m ∷ ms) (n ∷ ns) pl s = refl

  links-alike : (Q : ℕ) (ms ns : List Means) (cs : List Connector) (pl : Place) (k k' : Next) → Each (SameMeans v Q) ms ns → Below v Q k k' → Goes v Q (links_mean ms cs pl k) (links_mean ns cs pl k')
  links-alike Q [] [] cs pl k k' s hk e p le = hk Normal e p le
  links-alike Q [] (n ∷ ns) cs pl k k' s hk e p le = absurd s
  links-alike Q (m ∷ ms) [] cs pl k k' s hk e p le = absurd s
  links-alike Q (m ∷ ms) (n ∷ ns) [] pl k k' s hk e p le = hk Normal e p le
  links-alike Q (m ∷ ms) (n ∷ ns) (c ∷ cs) pl k k' s hk e p le =
      let x : Go_on = links_mean ms cs pl k in
      let x' : Go_on = links_mean ns cs pl k' in
      let on : Goes v Q x x' = links-alike Q ms ns cs pl k k' s.1 hk in
      alike-if v p (takes c e.env.status) _ _ _ _
      (subst (λ (place : Place). Alike v p (m (place_before ms pl) e (and_then x k)) (n place e (and_then x' k'))) (place-same Q ms ns pl s.1)
      (s.0 (place_before ms pl) e p (and_then x k) (and_then x' k') le (lower v Q p (and_then x k) (and_then x' k') le (and_then-alike v Q x x' k k' on hk)))) (on e p le)

  pub and_or-alike : (Q : ℕ) (ms ns : List Means) (cs : List Connector) → Each (SameMeans v Q) ms ns → SameMeans v Q (and_or_means ms cs) (and_or_means ns cs)
  and_or-alike Q [] [] cs s pl e p k k' le hk = alike-pay v p 1 _ _ (λ lt. hk Normal e (p - 1) (omega arith))
  and_or-alike Q [] (n ∷ ns) cs s pl e p k k' le hk = absurd s
  and_or-alike Q (m ∷ ms) [] cs s pl e p k k' le hk = absurd s
  and_or-alike Q (m ∷ ms) (n ∷ ns) cs s pl e p k k' le hk =
      let x : Go_on = links_mean ms cs pl k in
      let x' : Go_on = links_mean ns cs pl k' in
      alike-pay v p 1 _ _ (λ lt.
      let hk' : Below v (p - 1) k k' = lower v p (p - 1) k k' (omega arith) hk in
      subst (λ (place : Place). Alike v (p - 1) (m (place_before ms pl) e (and_then x k)) (n place e (and_then x' k'))) (place-same Q ms ns pl s.1)
      (s.0 (place_before ms pl) e (p - 1) (and_then x k) (and_then x' k') (omega arith) (and_then-alike v (p - 1) x x' k k' (links-alike (p - 1) ms ns cs pl k k' (all-down v Q (p - 1) ms ns (omega arith) s.1) hk') hk')))

  -- Pipelines.

  stages-alike : (Q : ℕ) (input : Option ℕ) (ms ns : List Means) (pl : Place) (k k' : Next) → Each (SameMeans v Q) ms ns → Below v Q k k' → Goes v Q (stages_mean input ms pl k) (stages_mean input ns pl k')
  stages-alike Q input [] [] pl k k' s hk e p le = hk Normal e p le
  stages-alike Q input [] (n ∷ ns) pl k k' s hk e p le = absurd s
  stages-alike Q input (m ∷ ms) [] pl k k' s hk e p le = absurd s
  stages-alike Q input (m ∷ []) (n ∷ []) pl k k' s hk e p le =
      s.0 pl _ p (λ f e'. k Normal (back e e')) (λ f e'. k' Normal (back e e')) le (λ f e' p' le'. hk Normal (back e e') p' (omega arith))
  stages-alike Q input (m ∷ []) (n ∷ o ∷ ns) pl k k' s hk e p le = absurd s.1
  stages-alike Q input (m ∷ l ∷ ms) (n ∷ []) pl k k' s hk e p le = absurd s.1
  stages-alike Q input (m ∷ l ∷ ms) (n ∷ o ∷ ns) pl k k' s hk e p le =
      let x : Shell → Next = λ e' f e''. stages_mean (Some e.env.next) (l ∷ ms) pl k (past_stage e' e'') in
      let x' : Shell → Next = λ e' f e''. stages_mean (Some e.env.next) (o ∷ ns) pl k' (past_stage e' e'') in
      alike-ask v p _ 1 _ _ tt (λ lt a. s.0 pl _ (p - 1) (x (heard a e)) (x' (heard a e)) (omega arith) (λ f e'' p' le'. stages-alike Q (Some e.env.next) (l ∷ ms) (o ∷ ns) pl k k' s.1 hk (past_stage (heard a e) e'') p' (omega arith)))

  piped-alike : (Q : ℕ) (ms ns : List Means) (pl : Place) (k k' : Next) → Each (SameMeans v Q) ms ns → Below v Q k k' → Goes v Q (piped_means ms pl k) (piped_means ns pl k')
  piped-alike Q [] [] pl k k' s hk e p le = hk Normal e p le
  piped-alike Q [] (n ∷ ns) pl k k' s hk e p le = absurd s
  piped-alike Q (m ∷ ms) [] pl k k' s hk e p le = absurd s
  piped-alike Q (m ∷ []) (n ∷ []) pl k k' s hk e p le = s.0 pl e p k k' le (lower v Q p k k' le hk)
  piped-alike Q (m ∷ []) (n ∷ o ∷ ns) pl k k' s hk e p le = absurd s.1
  piped-alike Q (m ∷ l ∷ ms) (n ∷ []) pl k k' s hk e p le = absurd s.1
  piped-alike Q (m ∷ l ∷ ms) (n ∷ o ∷ ns) pl k k' s hk e p le = stages-alike Q None (m ∷ l ∷ ms) (n ∷ o ∷ ns) pl k k' s hk e p le

  pub pipeline-alike : (Q : ℕ) (negated : Bool) (ms ns : List Means) → Each (SameMeans v Q) ms ns → SameMeans v Q (pipeline_means negated ms) (pipeline_means negated ns)
  pipeline-alike Q true ms ns s pl e p k k' le hk =
      alike-pay v p 1 _ _ (λ lt. piped-alike (p - 1) ms ns (ignoring pl) (inverted k) (inverted k') (all-down v Q (p - 1) ms ns (omega arith) s) (inverted-alike v (p - 1) k k' (lower v p (p - 1) k k' (omega arith) hk)) e (p - 1) (omega arith))
  pipeline-alike Q false ms ns s pl e p k k' le hk =
      alike-pay v p 1 _ _ (λ lt. piped-alike (p - 1) ms ns pl (watched pl k) (watched pl k') (all-down v Q (p - 1) ms ns (omega arith) s) (watched-alike v (p - 1) pl k k' (lower v p (p - 1) k k' (omega arith) hk)) e (p - 1) (omega arith))

  -- Definitions, subshells, `if`.

  pub define-alike : (Q : ℕ) (name : Text) (f : FunctionTree) → SameMeans v Q (define_means name f) (define_means name f)
  define-alike Q name f pl e p k k' le hk = alike-pay v p 1 _ _ (λ lt. hk Normal (with_status 0 (define name f e)) (p - 1) (omega arith))

  pub subshell-alike : (Q : ℕ) (m n : Means) → SameMeans v Q m n → SameMeans v Q (subshell_means m) (subshell_means n)
  subshell-alike Q m n s pl e p k k' le hk =
      s pl e p (λ f e'. watched pl k Normal (back e e')) (λ f e'. watched pl k' Normal (back e e')) le (λ f e' p' le'. watched-alike v p pl k k' hk Normal (back e e') p' le')

  abbrev pub SameBranch : ℕ → BranchMeant → BranchMeant → Type 0
  SameBranch Q b c = SameMeans v Q b.condition c.condition × SameMeans v Q b.body c.body

  pub branches-down : (Q q : ℕ) (bs cs : List BranchMeant) → q ≤ Q → Each (SameBranch Q) bs cs → Each (SameBranch q) bs cs
  branches-down Q q [] [] le s = tt
  branches-down Q q [] (c ∷ cs) le s = absurd s
  branches-down Q q (b ∷ bs) [] le s = absurd s
  branches-down Q q (b ∷ bs) (c ∷ cs) le s = ((means-down v Q q b.condition c.condition le s.0.0, means-down v Q q b.body c.body le s.0.1), branches-down Q q bs cs le s.1)

  pub if_means-alike : (Q : ℕ) (bs cs : List BranchMeant) (m n : Means) → Each (SameBranch Q) bs cs → SameMeans v Q m n → SameMeans v Q (if_means bs m) (if_means cs n)
  if_means-alike Q [] [] m n sb s pl e p k k' le hk = s pl e p k k' le hk
  if_means-alike Q [] (c ∷ cs) m n sb s pl e p k k' le hk = absurd sb
  if_means-alike Q (b ∷ bs) [] m n sb s pl e p k k' le hk = absurd sb
  if_means-alike Q (b ∷ bs) (c ∷ cs) m n sb s pl e p k k' le hk =
      let x : Go_on = λ e. by_status e.env.status (λ e. b.body pl e k) (λ e. if_means bs m pl e k) e in
      let x' : Go_on = λ e. by_status e.env.status (λ e. c.body pl e k') (λ e. if_means cs n pl e k') e in
      sb.0.0 (ignoring pl) e p (and_then x k) (and_then x' k') le
      (and_then-alike v p x x' k k' (λ e' p' le'. by_status-alike v p e'.env.status (λ e. b.body pl e k) (λ e. c.body pl e k') (λ e. if_means bs m pl e k) (λ e. if_means cs n pl e k')
      (λ e'' p'' le''. sb.0.1 pl e'' p'' k k' (omega arith) (lower v p p'' k k' le'' hk)) (λ e'' p'' le''. if_means-alike Q bs cs m n sb.1 s pl e'' p'' k k' (omega arith) (lower v p p'' k k' le'' hk)) e' p' le') hk)

  -- `for` and `case`.

  for_each-alike : (Q : ℕ) (name : Text) (fields : List Text) (m n : Means) (pl : Place) (k k' : Next) → SameMeans v Q m n → Below v Q k k' → Goes v Q (for_each name fields m pl k) (for_each name fields n pl k')
  for_each-alike Q name [] m n pl k k' s hk e p le = hk Normal e p le
  for_each-alike Q name (field ∷ fields) m n pl k k' s hk e p le =
      let x : Go_on = for_each name fields m pl k in
      let x' : Go_on = for_each name fields n pl k' in
      let on : Goes v Q x x' = for_each-alike Q name fields m n pl k k' s hk in
      alike-pay v p 1 _ _ (λ lt. assigns-alike v Q false name field (λ e. m (deeper pl) e (in_loop x x k)) (λ e. n (deeper pl) e (in_loop x' x' k')) k k'
      (λ e' p' le'. s (deeper pl) e' p' (in_loop x x k) (in_loop x' x' k') le' (lower v Q p' (in_loop x x k) (in_loop x' x' k') le' (in_loop-alike v Q x x' x x' k k' on on hk))) hk e (p - 1) (omega arith))

  for_fields-alike : (Q : ℕ) (name : Text) (fields : List Text) (m n : Means) (pl : Place) (k k' : Next) → SameMeans v Q m n → Below v Q k k' → Goes v Q (for_fields name fields m pl k) (for_fields name fields n pl k')
  for_fields-alike Q name [] m n pl k k' s hk e p le = hk Normal (with_status 0 e) p le
  for_fields-alike Q name (field ∷ fields) m n pl k k' s hk e p le = for_each-alike Q name (field ∷ fields) m n pl k k' s hk e p le

  abbrev pub SameFor : ℕ → ForMeant → ForMeant → Type 0
  SameFor Q Parameters Parameters = Unit {0}
  SameFor Q Parameters (Among ws) = ⊥
  SameFor Q (Among ws) Parameters = ⊥
  SameFor Q (Among ws) (Among ws') = Each (SameWord v Q) ws ws'

  pub for_means-alike : (Q : ℕ) (name : Text) (f f' : ForMeant) (m n : Means) → SameFor Q f f' → SameMeans v Q m n → SameMeans v Q (for_means name f m) (for_means name f' n)
  for_means-alike Q name Parameters Parameters m n sf s pl e p k k' le hk = for_fields-alike p name e.env.vars.positional m n pl k k' (means-down v Q p m n le s) hk e p (omega arith)
  for_means-alike Q name Parameters (Among ws) m n sf s pl e p k k' le hk = absurd sf
  for_means-alike Q name (Among ws) Parameters m n sf s pl e p k k' le hk = absurd sf
  for_means-alike Q name (Among ws) (Among ws') m n sf s pl e p k k' le hk =
      expand_words-alike v p ws ws' [] pl (λ fields. for_fields name fields m pl k) (λ fields. for_fields name fields n pl k') k k' (words-down v Q p ws ws' le sf)
      (λ fs. for_fields-alike p name fs m n pl k k' (means-down v Q p m n le s) hk) hk e p (omega arith)

  abbrev pub SameCase : ℕ → CaseMeant → CaseMeant → Type 0
  SameCase Q c d = Each (SameWord v Q) c.patterns d.patterns × SameMeans v Q c.body d.body

  case_patterns-alike : (Q : ℕ) (ws ws' : List WordMeant) (m n : Means) (x x' : Go_on) (value : Text) (pl : Place) (k k' : Next) → Each (SameWord v Q) ws ws' → SameMeans v Q m n → Goes v Q x x' → Below v Q k k' → Goes v Q (case_patterns ws m x value pl k) (case_patterns ws' n x' value pl k')
  case_patterns-alike Q [] [] m n x x' value pl k k' sw s hx hk e p le = hx e p le
  case_patterns-alike Q [] (w ∷ ws) m n x x' value pl k k' sw s hx hk e p le = absurd sw
  case_patterns-alike Q (w ∷ ws) [] m n x x' value pl k k' sw s hx hk e p le = absurd sw
  case_patterns-alike Q (w ∷ ws) (w' ∷ ws') m n x x' value pl k k' sw s hx hk e p le =
      let to : Expanded → Go_on = λ t e. if is_matched (value_of t) value then m pl e k else case_patterns ws m x value pl k e in
      let to' : Expanded → Go_on = λ t e. if is_matched (value_of t) value then n pl e k' else case_patterns ws' n x' value pl k' e in
      expand_word-alike v Q mode.Pattern w w' pl to to' k k' sw.0
      (λ t e' p' le'. alike-if v p' (is_matched (value_of t) value) _ _ _ _ (s pl e' p' k k' le' (lower v Q p' k k' le' hk)) (case_patterns-alike Q ws ws' m n x x' value pl k k' sw.1 s hx hk e' p' le')) hk e p le

  case_items-alike : (Q : ℕ) (cs ds : List CaseMeant) (value : Text) (pl : Place) (k k' : Next) → Each (SameCase Q) cs ds → Below v Q k k' → Goes v Q (case_items cs value pl k) (case_items ds value pl k')
  case_items-alike Q [] [] value pl k k' s hk e p le = hk Normal (with_status 0 e) p le
  case_items-alike Q [] (d ∷ ds) value pl k k' s hk e p le = absurd s
  case_items-alike Q (c ∷ cs) [] value pl k k' s hk e p le = absurd s
  case_items-alike Q (c ∷ cs) (d ∷ ds) value pl k k' s hk e p le =
      case_patterns-alike Q c.patterns d.patterns c.body d.body (case_items cs value pl k) (case_items ds value pl k') value pl k k' s.0.0 s.0.1 (case_items-alike Q cs ds value pl k k' s.1 hk) hk e p le

  pub cases-down : (Q q : ℕ) (cs ds : List CaseMeant) → q ≤ Q → Each (SameCase Q) cs ds → Each (SameCase q) cs ds
  cases-down Q q [] [] le s = tt
  cases-down Q q [] (d ∷ ds) le s = absurd s
  cases-down Q q (c ∷ cs) [] le s = absurd s
  cases-down Q q (c ∷ cs) (d ∷ ds) le s = ((words-down v Q q c.patterns d.patterns le s.0.0, means-down v Q q c.body d.body le s.0.1), cases-down Q q cs ds le s.1)

  pub case_means-alike : (Q : ℕ) (w w' : WordMeant) (cs ds : List CaseMeant) → SameWord v Q w w' → Each (SameCase Q) cs ds → SameMeans v Q (case_means w cs) (case_means w' ds)
  case_means-alike Q w w' cs ds sw sc pl e p k k' le hk =
      let to : Expanded → Go_on = λ t. case_items cs (value_of t) pl k in
      let to' : Expanded → Go_on = λ t. case_items ds (value_of t) pl k' in
      expand_word-alike v p mode.Value w w' pl to to' k k' (word-down v Q p w w' le sw) (λ t. case_items-alike p cs ds (value_of t) pl k k' (cases-down Q p cs ds le sc) hk) hk e p (omega arith)

  pub compound_means-alike : (Q : ℕ) (rs rs' : List RedirectMeant) (m n : Means) → Each (SameRedirect v Q) rs rs' → ((q : ℕ) → q < Q → SameMeans v q m n) → SameMeans v Q (compound_means rs m) (compound_means rs' n)
  compound_means-alike Q rs rs' m n sr s pl e p k k' le hk =
      subst (λ (ds : List ℕ). Alike v p (compound_means rs m pl e k) (pay 1 (redirect_all rs' pl (made_compound n ds e.descriptors pl k') (refused_compound ds e.descriptors pl k') k' e))) (named-same v Q rs rs' sr)
      (alike-pay v p 1 _ _ (λ lt.
      let hk' : Below v (p - 1) k k' = lower v p (p - 1) k k' (omega arith) hk in
      redirect_all-alike v (p - 1) rs rs' pl (made_compound m (named rs) e.descriptors pl k) (made_compound n (named rs) e.descriptors pl k') (refused_compound (named rs) e.descriptors pl k) (refused_compound (named rs) e.descriptors pl k') k k' (redirects-down v Q (p - 1) rs rs' (omega arith) sr)
      (λ e' p' le'. s p' (omega arith) pl e' p' (unredirected (named rs) e.descriptors k) (unredirected (named rs) e.descriptors k') (omega arith) (lower v (p - 1) p' (unredirected (named rs) e.descriptors k) (unredirected (named rs) e.descriptors k') le' (unredirected-alike v (p - 1) (named rs) e.descriptors k k' hk')))
      (ends-alike v (p - 1) Normal 1 (unredirected (named rs) e.descriptors (watched pl k)) (unredirected (named rs) e.descriptors (watched pl k')) (unredirected-alike v (p - 1) (named rs) e.descriptors (watched pl k) (watched pl k') (watched-alike v (p - 1) pl k k' hk'))) hk' e (p - 1) (omega arith)))

  -- Loops, whose rounds are alike with fewer than P turns left.
  abbrev pub SameRounds : ℕ → (ℕ → Means) → (ℕ → Means) → Type 0
  SameRounds P g h = (last : ℕ) (pl : Place) (e : Shell) (p : ℕ) (k k' : Next) → p < P → Below v p k k' → Alike v p (g last pl e k) (h last pl e k')

  module _ (P : ℕ) (l m : LoopMeant) (same : SameRounds P l.again m.again) where
    next_round-alike : (Q : ℕ) (pl : Place) (k k' : Next) → Q < P → Below v Q k k' → Goes v Q (next_round l pl k) (next_round m pl k')
    next_round-alike Q pl k k' lt hk e p le = same e.env.status pl e p k k' (omega arith) (lower v Q p k k' le hk)

    after_body-alike : (Q : ℕ) (pl : Place) (k k' : Next) → Q < P → Below v Q k k' → Below v Q (after_body l pl k) (after_body m pl k')
    after_body-alike Q pl k k' lt hk =
        let x : Go_on = next_round l pl k in
        let x' : Go_on = next_round m pl k' in
        let s : Goes v Q x x' = next_round-alike Q pl k k' lt hk in
        in_loop-alike v Q x x' x x' k k' s s hk

    turns_round-alike : (Q : ℕ) (until : Bool) (x x' y y' : Go_on) → Goes v Q x x' → Goes v Q y y' → Goes v Q (turns_round until x y) (turns_round until x' y')
    turns_round-alike Q true x x' y y' hx hy e p le = by_status-alike v Q e.env.status y y' x x' hy hx e p le
    turns_round-alike Q false x x' y y' hx hy e p le = by_status-alike v Q e.env.status x x' y y' hx hy e p le

    pub round-alike : (Q last : ℕ) → Q ≤ P → l.until ≡ m.until → SameMeans v Q l.condition m.condition → SameMeans v Q l.body m.body → SameMeans v Q (round_means l last) (round_means m last)
    round-alike Q last leQ su st sb pl e p k k' le hk =
        let x : Go_on = λ e. l.body (deeper pl) e (after_body l pl k) in
        let x' : Go_on = λ e. m.body (deeper pl) e (after_body m pl k') in
        let y : Go_on = λ e. ends Normal last k e in
        let y' : Go_on = λ e. ends Normal last k' e in
        alike-pay v p 1 _ _ (λ lt.
        let hk' : Below v (p - 1) k k' = lower v p (p - 1) k k' (omega arith) hk in
        let goes : Goes v (p - 1) (turns_round l.until x y) (turns_round l.until x' y') =
        turns_round-alike (p - 1) l.until x x' y y' (λ e' p' le'. sb (deeper pl) e' p' (after_body l pl k) (after_body m pl k') (omega arith) (after_body-alike p' pl k k' (omega arith) (lower v (p - 1) p' k k' le' hk'))) (λ e' p' le'. hk' Normal (with_status last e') p' le') in
        st (ignoring (deeper pl)) e (p - 1) (after_condition l last pl k) (after_condition m last pl k') (omega arith)
        (in_loop-alike v (p - 1) (turns_round l.until x y) (turns_round m.until x' y') (next_round l pl k) (next_round m pl k') k k'
        (subst (λ (u : Bool). Goes v (p - 1) (turns_round l.until x y) (turns_round u x' y')) su goes)
        (next_round-alike (p - 1) pl k k' (omega arith) hk') hk'))
