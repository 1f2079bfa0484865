-- What a word says is alike, in any view, where what its bodies say and what comes after it are. As it is this gives its
-- unfolding, cut that fewer turns only cut it, and properly that its calls are proper.
use Rattle.std.proofs.Common.{ℕ, ◌-◌, ◌≤◌, List, [], ◌∷◌, ◌++◌, Bool, true, false, arith}
use Rattle.std.specs.Prelude.{Option, Some, None, Ok, Err, codes, length, ◌&&◌, not}
use Rattle.std.specs.Fmt.{decimal, signed_decimal}
use Rattle.rk_base.specs.Text.{Text}
use Rattle.rk_base.specs.Sorted.{sorted}
use Rattle.rk_base.specs.Canonical.{is_empty}
use Rattle.rk_calls.specs.declared.call.Call.TheVariants.{Pipe, Read, List as Lists, Stat as Stats}
use Rattle.rk_calls.specs.Talk.{ask}
use Rattle.rk_calls.specs.Brought.{brought}
use Rattle.rk_calls.specs.Places.{absolute}
use Rattle.rk_calls.specs.Turns.{turns}
use Rattle.rk_calls.specs.Views.{View, Alike, alike-ask, alike-pay}
use Rattle.sh_ast.specs.declared.parameter.Parameter.{Parameter}
use Rattle.sh_ast.specs.declared.parameter.Parameter.TheVariants as pm
use Rattle.sh_ast.specs.declared.word.Removal.{Removal}
use Rattle.sh_ast.specs.Parameters.{spelling}
use Rattle.sh_ast.specs.Words.{PartTree, literal, value_of, length_of, substitute, without, output_of, arithmetic, OperatorWord, no_word, the_word, PartsTree, no_parts, part_and}
use Rattle.sh_vars.specs.declared.env.Env.{Env}
use Rattle.sh_vars.specs.Held.{Held, assigned, is_readonly}
use Rattle.sh_split.specs.Marks.{kind}
use Rattle.sh_split.specs.Cutting.{Marks}
use Rattle.sh_split.specs.Pass.{cut_fields}
use Rattle.sh_pattern.specs.Pathnames.{matching, put_all}
use Rattle.sh_split.specs.Joining.{joined}
use Rattle.sh_split.specs.Marked.{given, text_of, pattern_of, captured}
use Rattle.sh_arith.specs.Meaning.{Ends}
use Rattle.sh_arith.specs.Operators.{Worth}
use Rattle.sh_arith.proofs.Worths.{worth_of}
use Rattle.sh_expand.specs.Arithmetic.{variables_in, told_of, words_of}
use Rattle.sh_expand.specs.declared.glob.Component.{Component}
use Rattle.sh_expand.specs.declared.glob.Component.TheVariants as component
use Rattle.sh_expand.specs.Globbing.{Numbered, Found, listed, kept, lists, stats, checked, globs}
use Rattle.sh_expand.specs.Told.{names_of, stands, numbered}
use Rattle.sh_expand.specs.Operators as outcome
use Rattle.sh_expand.specs.Operators.{Outcome, table, cell}
use Rattle.sh_expand.specs.Values.{value, values, separator, all_removed}
use Rattle.sh_expand.specs.declared.mode.Mode.{Mode}
use Rattle.sh_expand.specs.declared.mode.Mode.TheVariants as mode
use Rattle.sh_expand.specs.declared.mode.Expanded.{Expanded}
use Rattle.sh_expand.specs.declared.mode.Expanded.TheVariants as expanded
use Rattle.sh_expand.specs.Expands.{Go_on, Body, Ended, Failed, With_text, counted, performed, read_of, not_set, not_valid, readonly, is_quoted, literal_marks, unset, Use, use_of, shown_of, with_values, got, unmeasured, measured, put_by, assigning, WordMeans, carried_out, taken, worth_put, computed, substituted, manner_of, expand, expand_part, expand_word, expand_text}
use Rattle.sh_expand.specs.Fields.{With_fields, ifs, components, has_pattern, or_as_was, named, all_names}
use Rattle.sh_expand.specs.Means.{With_expanded, all_bytes, pay_fields, splits, finished, expand_in}

module _ (v : View) where
  -- from each state on, with no more turns than these
  abbrev pub Goes : ℕ → Go_on → Go_on → Type 0
  Goes P g g' = (e : Env) (p : ℕ) → p ≤ P → Alike v p (g e) (g' e)

  abbrev pub SameBody : ℕ → Body → Body → Type 0
  SameBody P b b' = (e : Env) (p : ℕ) (k k' : Go_on) → p ≤ P → Goes p k k' → Alike v p (b e k) (b' e k')

  abbrev pub SameEnded : ℕ → Ended → Ended → Type 0
  SameEnded P k k' = (ms : Marks) → Goes P (k ms) (k' ms)

  abbrev pub SameFailed : ℕ → Failed → Failed → Type 0
  SameFailed P f f' = (parameter message : Text) → Goes P (f parameter message) (f' parameter message)

  abbrev pub SameText : ℕ → With_text → With_text → Type 0
  SameText P k k' = (t : Text) → Goes P (k t) (k' t)

  abbrev pub SameFields : ℕ → With_fields → With_fields → Type 0
  SameFields P k k' = (ts : List Text) → Goes P (k ts) (k' ts)

  abbrev pub SameExpanded : ℕ → With_expanded → With_expanded → Type 0
  SameExpanded P k k' = (x : Expanded) → Goes P (k x) (k' x)

  -- Parameters.

  unset-alike : (P : ℕ) (strict quoted : Bool) (parameter : Parameter) (ms : Marks) (k k' : Ended) (f f' : Failed) → SameEnded P k k' → SameFailed P f f' → Goes P (unset strict quoted parameter ms k f) (unset strict quoted parameter ms k' f')
  unset-alike P true quoted parameter ms k k' f f' hk hf e p le = hf (spelling parameter) not_set e p le
  unset-alike P false quoted parameter ms k k' f f' hk hf e p le = hk (ms ++ given quoted []) e p le

  with_values-alike : (P : ℕ) (u : Use) (o : Option (List Text)) (ms : Marks) (g g' : List Text → Go_on) (k k' : Ended) (f f' : Failed) → ((words : List Text) → Goes P (g words) (g' words)) → SameEnded P k k' → SameFailed P f f' → Goes P (with_values u o ms g k f) (with_values u o ms g' k' f')
  with_values-alike P u (Some words) ms g g' k k' f f' hg hk hf e p le = hg words e p le
  with_values-alike P u None ms g g' k k' f f' hg hk hf e p le = unset-alike P e.nounset u.quoted u.parameter ms k k' f f' hk hf e p le

  got-alike : (P : ℕ) (u : Use) (o : Option (List Text)) (ms : Marks) (k k' : Ended) (f f' : Failed) → SameEnded P k k' → SameFailed P f f' → Goes P (got u o ms k f) (got u o ms k' f')
  got-alike P u o ms k k' f f' hk hf e p le =
      with_values-alike P u o ms (λ words e'. k (ms ++ shown_of u words e') e') (λ words e'. k' (ms ++ shown_of u words e') e') k k' f f' (λ words e' q lq. hk (ms ++ shown_of u words e') e' q lq) hk hf e p le

  unmeasured-alike : (P : ℕ) (strict quoted : Bool) (parameter : Parameter) (ms : Marks) (k k' : Ended) (f f' : Failed) → SameEnded P k k' → SameFailed P f f' → Goes P (unmeasured strict quoted parameter ms k f) (unmeasured strict quoted parameter ms k' f')
  unmeasured-alike P true quoted parameter ms k k' f f' hk hf e p le = hf (spelling parameter) not_set e p le
  unmeasured-alike P false quoted parameter ms k k' f f' hk hf e p le = hk (ms ++ given quoted (codes "0")) e p le

  measured-alike : (P : ℕ) (quoted : Bool) (parameter : Parameter) (o : Option (List Text)) (ms : Marks) (k k' : Ended) (f f' : Failed) → SameEnded P k k' → SameFailed P f f' → Goes P (measured quoted parameter o ms k f) (measured quoted parameter o ms k' f')
  measured-alike P quoted parameter (Some words) ms k k' f f' hk hf e p le = hk (ms ++ given quoted (decimal (length (joined (separator e) words)))) e p le
  measured-alike P quoted parameter None ms k k' f f' hk hf e p le = unmeasured-alike P e.nounset quoted parameter ms k k' f f' hk hf e p le

  put_by-alike : (P : ℕ) (kept : Bool) (name text : Text) (ms : Marks) (k k' : Ended) (f f' : Failed) → SameEnded P k k' → SameFailed P f f' → Goes P (put_by kept name text ms k f) (put_by kept name text ms k' f')
  put_by-alike P true name text ms k k' f f' hk hf e p le = hf name readonly e p le
  put_by-alike P false name text ms k k' f f' hk hf e p le = hk ms (record e { vars = assigned name text e.vars }) p le

  abbrev SameWord : ℕ → (With_text → Go_on) → (With_text → Go_on) → Type 0
  SameWord P w w' = (k k' : With_text) → SameText P k k' → Goes P (w k) (w' k')

  assigning-alike : (P : ℕ) (quoted : Bool) (parameter : Parameter) (ms : Marks) (w w' : With_text → Go_on) (k k' : Ended) (f f' : Failed) → SameWord P w w' → SameEnded P k k' → SameFailed P f f' → Goes P (assigning quoted parameter ms w k f) (assigning quoted parameter ms w' k' f')
  assigning-alike P quoted (pm.Variable name) ms w w' k k' f f' hw hk hf e p le =
      hw (λ t e'. put_by (is_readonly e'.vars name) name t (ms ++ given quoted t) k f e') (λ t e'. put_by (is_readonly e'.vars name) name t (ms ++ given quoted t) k' f' e') (λ t e' q lq. put_by-alike P (is_readonly e'.vars name) name t (ms ++ given quoted t) k k' f f' hk hf e' q lq) e p le
  assigning-alike P quoted (pm.Positional digits) ms w w' k k' f f' hw hk hf e p le = hf digits not_valid e p le
  assigning-alike P quoted pm.At ms w w' k k' f f' hw hk hf e p le = hf (spelling pm.At) not_valid e p le
  assigning-alike P quoted pm.Asterisk ms w w' k k' f f' hw hk hf e p le = hf (spelling pm.Asterisk) not_valid e p le
  assigning-alike P quoted pm.Count ms w w' k k' f f' hw hk hf e p le = hf (spelling pm.Count) not_valid e p le
  assigning-alike P quoted pm.Status ms w w' k k' f f' hw hk hf e p le = hf (spelling pm.Status) not_valid e p le
  assigning-alike P quoted pm.Zero ms w w' k k' f f' hw hk hf e p le = hf (spelling pm.Zero) not_valid e p le

  abbrev SameHere : ℕ → (Marks → Ended → Go_on) → (Marks → Ended → Go_on) → Type 0
  SameHere P h h' = (ms : Marks) (k k' : Ended) → SameEnded P k k' → Goes P (h ms k) (h' ms k')

  carried-alike : (P : ℕ) (it : Outcome) (u : Use) (ms : Marks) (w w' : WordMeans) (k k' : Ended) (f f' : Failed) → SameHere P w.here w'.here → ((t : Text) → SameWord P (w.text t) (w'.text t)) → SameEnded P k k' → SameFailed P f f' → Goes P (carried_out it u w ms k f) (carried_out it u w' ms k' f')
  carried-alike P outcome.Value u ms w w' k k' f f' hh ht hk hf e p le = got-alike P u (values e u.parameter) ms k k' f f' hk hf e p le
  carried-alike P outcome.Word u ms w w' k k' f f' hh ht hk hf e p le = hh ms k k' hk e p le
  carried-alike P outcome.Null u ms w w' k k' f f' hh ht hk hf e p le = hk (ms ++ given u.quoted []) e p le
  carried-alike P outcome.Assigns u ms w w' k k' f f' hh ht hk hf e p le = assigning-alike P u.quoted u.parameter ms (w.text []) (w'.text []) k k' f f' (ht []) hk hf e p le
  carried-alike P outcome.Error u ms w w' k k' f f' hh ht hk hf e p le =
      ht not_set (λ x e'. f (spelling u.parameter) x e') (λ x e'. f' (spelling u.parameter) x e') (λ x. hf (spelling u.parameter) x) e p le

  taken-alike : (P : ℕ) (removal : Removal) (u : Use) (words : List Text) (ms : Marks) (k k' : Ended) → SameEnded P k k' → SameEnded P (taken removal u words ms k) (taken removal u words ms k')
  taken-alike P removal u words ms k k' hk xs e p le = hk (ms ++ shown_of u (all_removed removal (pattern_of xs) words) e) e p le

  -- Arithmetic.

  worth-alike : (P : ℕ) (quoted : Bool) (text : Text) (worth : Worth) (ms : Marks) (k k' : Ended) (f f' : Failed) → SameEnded P k k' → SameFailed P f f' → Goes P (worth_put quoted text worth ms k f) (worth_put quoted text worth ms k' f')
  worth-alike P quoted text (Ok number) ms k k' f f' hk hf e p le = hk (ms ++ given quoted (signed_decimal number)) e p le
  worth-alike P quoted text (Err fault) ms k k' f f' hk hf e p le = hf (told_of text fault) (words_of fault) e p le

  computed-alike : (P : ℕ) (quoted : Bool) (text : Text) (ms : Marks) (k k' : Ended) (f f' : Failed) → SameEnded P k k' → SameFailed P f f' → Goes P (computed quoted text ms k f) (computed quoted text ms k' f')
  computed-alike P quoted text ms k k' f f' hk hf e p le =
      let ends : Ends Held = worth_of e.nounset text (variables_in e.vars) in
      worth-alike P quoted text ends.worth ms k k' f f' hk hf (record e { vars = ends.leaves.state }) p le

  -- Substitutions.

  substituted-alike : (P : ℕ) (b b' : Body) (quoted : Bool) (ms : Marks) (k k' : Ended) → SameBody P b b' → SameEnded P k k' → Goes P (substituted b quoted ms k) (substituted b' quoted ms k')
  substituted-alike P b b' quoted ms k k' hb hk e p le =
      alike-ask v p Pipe 2 (λ a. b (counted a e) (λ e'. ask (Read e.next) 1 (λ x. k (ms ++ given quoted (captured (read_of (brought x)))) (performed (counted x e'))))) (λ a. b' (counted a e) (λ e'. ask (Read e.next) 1 (λ x. k' (ms ++ given quoted (captured (read_of (brought x)))) (performed (counted x e'))))) tt
      (λ lt a. hb (counted a e) (p - 2) (λ e'. ask (Read e.next) 1 (λ x. k (ms ++ given quoted (captured (read_of (brought x)))) (performed (counted x e')))) (λ e'. ask (Read e.next) 1 (λ x. k' (ms ++ given quoted (captured (read_of (brought x)))) (performed (counted x e')))) (omega arith)
      (λ e' q lq. alike-ask v q (Read e.next) 1 (λ x. k (ms ++ given quoted (captured (read_of (brought x)))) (performed (counted x e'))) (λ x. k' (ms ++ given quoted (captured (read_of (brought x)))) (performed (counted x e'))) tt (λ lu x. hk (ms ++ given quoted (captured (read_of (brought x)))) (performed (counted x e')) (q - 1) (omega arith))))

  -- The parts.

  mutual
    pub expand-alike : (P : ℕ) (b b' : ℕ → Body) (inner cuts : Bool) (ps : PartsTree) (ms : Marks) (k k' : Ended) (f f' : Failed) → ((n : ℕ) → SameBody P (b n) (b' n)) → SameEnded P k k' → SameFailed P f f' → Goes P (expand (manner_of b inner cuts) ps ms k f) (expand (manner_of b' inner cuts) ps ms k' f')
    expand-alike P b b' inner cuts no_parts ms k k' f f' hb hk hf e p le = hk ms e p le
    expand-alike P b b' inner cuts (part_and q qs) ms k k' f f' hb hk hf e p le =
        part-alike P b b' inner cuts q ms (λ xs e'. expand (manner_of b inner cuts) qs xs k f e') (λ xs e'. expand (manner_of b' inner cuts) qs xs k' f' e') f f' hb (λ xs. expand-alike P b b' inner cuts qs xs k k' f f' hb hk hf) hf e p le

    pub part-alike : (P : ℕ) (b b' : ℕ → Body) (inner cuts : Bool) (q : PartTree) (ms : Marks) (k k' : Ended) (f f' : Failed) → ((n : ℕ) → SameBody P (b n) (b' n)) → SameEnded P k k' → SameFailed P f f' → Goes P (expand_part (manner_of b inner cuts) q ms k f) (expand_part (manner_of b' inner cuts) q ms k' f')
    part-alike P b b' inner cuts (literal quoting text) ms k k' f f' hb hk hf e p le = hk (ms ++ literal_marks inner quoting text) e p le
    part-alike P b b' inner cuts (value_of quoting parameter) ms k k' f f' hb hk hf e p le = got-alike P (use_of cuts (is_quoted quoting) parameter) (values e parameter) ms k k' f f' hk hf e p le
    part-alike P b b' inner cuts (length_of quoting parameter) ms k k' f f' hb hk hf e p le = measured-alike P (is_quoted quoting) parameter (values e parameter) ms k k' f f' hk hf e p le
    part-alike P b b' inner cuts (substitute quoting parameter condition by word) ms k k' f f' hb hk hf e p le =
        carried-alike P (cell (table by condition) (value e parameter)) (use_of cuts (is_quoted quoting) parameter) ms
        (record { here = λ xs j e'. expand_word (manner_of b true cuts) (is_quoted quoting) word xs j f e'; text = λ t j e'. expand_text b t word j f e' })
        (record { here = λ xs j e'. expand_word (manner_of b' true cuts) (is_quoted quoting) word xs j f' e'; text = λ t j e'. expand_text b' t word j f' e' })
        k k' f f'
        (λ xs j j' hj. word-alike P b b' cuts (is_quoted quoting) word xs j j' f f' hb hj hf)
        (λ t j j' hj. text-alike P b b' t word j j' f f' hb hj hf)
        hk hf e p le
    part-alike P b b' inner cuts (without quoting parameter removal pattern) ms k k' f f' hb hk hf e p le =
        let u : Use = use_of cuts (is_quoted quoting) parameter in
        with_values-alike P u (values e parameter) ms (λ words e'. expand (manner_of b true false) pattern [] (taken removal u words ms k) f e') (λ words e'. expand (manner_of b' true false) pattern [] (taken removal u words ms k') f' e') k k' f f'
        (λ words. expand-alike P b b' true false pattern [] (taken removal u words ms k) (taken removal u words ms k') f f' hb (taken-alike P removal u words ms k k' hk) hf) hk hf e p le
    part-alike P b b' inner cuts (output_of quoting n) ms k k' f f' hb hk hf e p le = substituted-alike P (b n) (b' n) (is_quoted quoting) ms k k' (hb n) hk e p le
    part-alike P b b' inner cuts (arithmetic quoting expression) ms k k' f f' hb hk hf e p le =
        expand-alike P b b' true false expression [] (λ xs e'. computed (is_quoted quoting) (text_of xs) ms k f e') (λ xs e'. computed (is_quoted quoting) (text_of xs) ms k' f' e') f f' hb (λ xs. computed-alike P (is_quoted quoting) (text_of xs) ms k k' f f' hk hf) hf e p le

    word-alike : (P : ℕ) (b b' : ℕ → Body) (cuts quoted : Bool) (w : OperatorWord) (ms : Marks) (k k' : Ended) (f f' : Failed) → ((n : ℕ) → SameBody P (b n) (b' n)) → SameEnded P k k' → SameFailed P f f' → Goes P (expand_word (manner_of b true cuts) quoted w ms k f) (expand_word (manner_of b' true cuts) quoted w ms k' f')
    word-alike P b b' cuts quoted no_word ms k k' f f' hb hk hf e p le = hk (ms ++ given quoted []) e p le
    word-alike P b b' cuts quoted (the_word ps) ms k k' f f' hb hk hf e p le = expand-alike P b b' true cuts ps ms k k' f f' hb hk hf e p le

    text-alike : (P : ℕ) (b b' : ℕ → Body) (otherwise : Text) (w : OperatorWord) (k k' : With_text) (f f' : Failed) → ((n : ℕ) → SameBody P (b n) (b' n)) → SameText P k k' → SameFailed P f f' → Goes P (expand_text b otherwise w k f) (expand_text b' otherwise w k' f')
    text-alike P b b' otherwise no_word k k' f f' hb hk hf e p le = hk otherwise e p le
    text-alike P b b' otherwise (the_word ps) k k' f f' hb hk hf e p le = expand-alike P b b' true false ps [] (λ xs e'. k (text_of xs) e') (λ xs e'. k' (text_of xs) e') f f' hb (λ xs. hk (text_of xs)) hf e p le

  -- Pathnames.

  abbrev Counts_on : ℕ → Numbered → Numbered → Type 0
  Counts_on P g g' = (n p : ℕ) → p ≤ P → Alike v p (g n) (g' n)

  abbrev SameFound : ℕ → Found → Found → Type 0
  SameFound P k k' = (ts : List Text) → Counts_on P (k ts) (k' ts)

  lists-alike : (P : ℕ) (wd : Text) (last : Bool) (pattern : Text) (prefixes done : List Text) (k k' : Found) → SameFound P k k' → Counts_on P (lists wd last pattern prefixes done k) (lists wd last pattern prefixes done k')
  lists-alike P wd last pattern [] done k k' hk n p le = hk done n p le
  lists-alike P wd last pattern (prefix ∷ more) done k k' hk n p le =
      alike-ask v p (Lists (listed wd prefix)) 1 (λ a. lists wd last pattern more (done ++ matching last pattern prefix (names_of a)) k (numbered a n)) (λ a. lists wd last pattern more (done ++ matching last pattern prefix (names_of a)) k' (numbered a n)) tt (λ lt a. lists-alike P wd last pattern more (done ++ matching last pattern prefix (names_of a)) k k' hk (numbered a n) (p - 1) (omega arith))

  stats-alike : (P : ℕ) (wd : Text) (paths done : List Text) (k k' : Found) → SameFound P k k' → Counts_on P (stats wd paths done k) (stats wd paths done k')
  stats-alike P wd [] done k k' hk n p le = hk done n p le
  stats-alike P wd (path ∷ more) done k k' hk n p le =
      alike-ask v p (Stats (absolute wd path) false) 1 (λ a. stats wd more (kept done path (stands a)) k (numbered a n)) (λ a. stats wd more (kept done path (stands a)) k' (numbered a n)) tt (λ lt a. stats-alike P wd more (kept done path (stands a)) k k' hk (numbered a n) (p - 1) (omega arith))

  checked-alike : (P : ℕ) (b : Bool) (wd : Text) (paths : List Text) (on on' k k' : Found) → SameFound P on on' → SameFound P k k' → Counts_on P (checked b wd paths on k) (checked b wd paths on' k')
  checked-alike P true wd paths on on' k k' ho hk n p le = stats-alike P wd paths [] k k' hk n p le
  checked-alike P false wd paths on on' k k' ho hk n p le = ho paths n p le

  globs-alike : (P : ℕ) (wd : Text) (globbed : Bool) (cs : List Component) (prefixes : List Text) (k k' : Found) → SameFound P k k' → Counts_on P (globs wd globbed cs prefixes k) (globs wd globbed cs prefixes k')
  globs-alike P wd globbed [] prefixes k k' hk n p le = hk prefixes n p le
  globs-alike P wd globbed (component.Literal text ∷ cs) prefixes k k' hk n p le =
      checked-alike P (is_empty cs && globbed) wd (put_all (is_empty cs) text prefixes) (λ paths. globs wd globbed cs paths k) (λ paths. globs wd globbed cs paths k') k k' (λ paths. globs-alike P wd globbed cs paths k k' hk) hk n p le
  globs-alike P wd globbed (component.Pattern pattern ∷ cs) prefixes k k' hk n p le =
      lists-alike P wd (is_empty cs) pattern prefixes [] (λ done. globs wd true cs done k) (λ done. globs wd true cs done k') (λ done. globs-alike P wd true cs done k k' hk) n p le

  named-alike : (P : ℕ) (b : Bool) (text : Text) (cs : List Component) (k k' : With_fields) → SameFields P k k' → Goes P (named b text cs k) (named b text cs k')
  named-alike P true text cs k k' hk e p le =
      globs-alike P e.wd false cs ([] ∷ []) (λ found n. k (or_as_was text (sorted found)) (record e { next = n })) (λ found n. k' (or_as_was text (sorted found)) (record e { next = n })) (λ found n q lq. hk (or_as_was text (sorted found)) (record e { next = n }) q lq) e.next p le
  named-alike P false text cs k k' hk e p le = hk (text ∷ []) e p le

  all_names-alike : (P : ℕ) (fields : List Marks) (done : List Text) (k k' : With_fields) → SameFields P k k' → Goes P (all_names fields done k) (all_names fields done k')
  all_names-alike P [] done k k' hk e p le = hk done e p le
  all_names-alike P (field ∷ fields) done k k' hk e p le =
      named-alike P (has_pattern (components field) && not e.noglob) (text_of field) (components field) (λ found e'. all_names fields (done ++ found) k e') (λ found e'. all_names fields (done ++ found) k' e') (λ found. all_names-alike P fields (done ++ found) k k' hk) e p le

  -- A whole word.

  finished-alike : (P : ℕ) (m : Mode) (ms : Marks) (k k' : With_expanded) → SameExpanded P k k' → Goes P (finished m ms k) (finished m ms k')
  finished-alike P mode.Fields ms k k' hk e p le =
      all_names-alike P (cut_fields (kind (ifs e)) ms) [] (pay_fields k) (pay_fields k') (λ fields e' p le. alike-pay v p (turns (all_bytes fields)) (k (expanded.Fields fields) e') (k' (expanded.Fields fields) e') (λ lt. hk (expanded.Fields fields) e' (p - turns (all_bytes fields)) (omega arith))) e p le
  finished-alike P mode.Value ms k k' hk e p le = alike-pay v p (turns (text_of ms)) (k (expanded.Value (text_of ms)) e) (k' (expanded.Value (text_of ms)) e) (λ lt. hk (expanded.Value (text_of ms)) e (p - turns (text_of ms)) (omega arith))
  finished-alike P mode.Pattern ms k k' hk e p le = alike-pay v p (turns (text_of ms)) (k (expanded.Value (pattern_of ms)) e) (k' (expanded.Value (pattern_of ms)) e) (λ lt. hk (expanded.Value (pattern_of ms)) e (p - turns (text_of ms)) (omega arith))

  pub expand_in-alike : (P : ℕ) (m : Mode) (b b' : ℕ → Body) (ps : PartsTree) (k k' : With_expanded) (f f' : Failed) → ((n : ℕ) → SameBody P (b n) (b' n)) → SameExpanded P k k' → SameFailed P f f' → Goes P (expand_in m b ps k f) (expand_in m b' ps k' f')
  expand_in-alike P m b b' ps k k' f f' hb hk hf e p le =
      expand-alike P b b' false (splits m) ps [] (λ ms e'. finished m ms k e') (λ ms e'. finished m ms k' e') f f' hb (λ ms. finished-alike P m ms k k' hk) hf e p le
