-- What is said with a smaller purse, and that what follows a call lasts.
use Rattle.std.proofs.Common.{◌≡◌, ℕ, ◌+◌, ◌-◌, ◌≤◌, ◌<◌, Bool, true, false, cond, leb, List, [], ◌∷◌, refl, sym, ◌∙◌, ap, subst, arith, inl, inr}
use Rattle.std.proofs.lemmas.Bool.{le-leb, lt-leb}
use Rattle.std.proofs.lemmas.Bool.Decides.{leb_tells}
use Rattle.rk_calls.specs.declared.call.Call.{Call}
use Rattle.rk_calls.specs.declared.answer.Answer.{Answer}
use Rattle.tr_record.specs.declared.steps.Step.{Step}
use Rattle.rk_calls.specs.declared.drive.Spoke.{Spoke}
use Rattle.rk_calls.specs.declared.drive.Spoke.TheVariants.{Call as Calls, Exit as Exits, Short}
use Rattle.rk_calls.specs.Talk.{Talk, Says, Cut, Exited, Asked, cut, Lasts}
use Rattle.rk_calls.specs.Saying.{node, speaks, rest_of, goes_on}
use Rattle.rk_calls.specs.Keys.{KeyValue}
use Rattle.rk_calls.specs.Views.{IsCommandTalk, talk-lasts}
use Rattle.rk_traces.specs.Spoken.{follow, Follows}
use Rattle.rk_traces.specs.Running.{paid}
use Rattle.rk_calls.specs.Heard.{IsPaid}

-- where this purse meets it
abbrev pub within : ℕ → Spoke → Spoke
within p (Calls call c) = cond (leb c p) (Calls call c) Short
within p (Exits status c) = cond (leb c p) (Exits status c) Short
within p Short = Short

node-cut_exit : (p more status c : ℕ) → node p (cut p (Exited status c)) ≡ within p (node (p + more) (Exited status c))
node-cut_exit p more status c =
    elim (leb_tells c p) [
      | inl e ↦ let h : c ≤ p = e.1 in rw (e.0, le-leb c (p + more) (omega arith), e.0) refl
      | inr e ↦
          elim (leb_tells c (p + more)) [
            | inl f ↦ rw (e.0, f.0, e.0) refl
            | inr f ↦ rw (e.0, f.0) refl
          ]
    ]

node-cut_ask : (p more c : ℕ) (call : Call) (rest : Answer → Talk) → node p (cut p (Asked call c rest)) ≡ within p (node (p + more) (Asked call c rest))
node-cut_ask p more c call rest =
    elim (leb_tells 1 c) [
      | inl d ↦
          elim (leb_tells c p) [
            | inl e ↦ let h : c ≤ p = e.1 in rw (e.0, d.0, le-leb c (p + more) (omega arith), e.0) refl
            | inr e ↦
                elim (leb_tells c (p + more)) [
                  | inl f ↦ rw (e.0, d.0, f.0, e.0) refl
                  | inr f ↦ rw (e.0, d.0, f.0) refl
                ]
          ]
      | inr d ↦
          elim (leb_tells c p) [
            | inl e ↦ rw (e.0, d.0) refl
            | inr e ↦ rw (e.0, d.0) refl
          ]
    ]

node-cut : (p more : ℕ) (t : Talk) → node p (cut p t) ≡ within p (node (p + more) t)
node-cut p more Cut = refl
node-cut p more (Exited status c) = node-cut_exit p more status c
node-cut p more (Asked call c rest) = node-cut_ask p more c call rest

pub speaks-within : (x : Says) → Lasts x → (p more : ℕ) → speaks p x ≡ within p (speaks (p + more) x)
unfolding speaks
speaks-within x l p more = ap (node p) (sym (l p more)) ∙ node-cut p more (x (p + more))

cond_calls : (b : Bool) (s : Spoke) (call : Call) (k : ℕ) → cond b s Short ≡ Calls call k → s ≡ Calls call k
cond_calls true s call k e = e
cond_calls false s call k e = cc

within-calls : (p : ℕ) (s : Spoke) (call : Call) (k : ℕ) → within p s ≡ Calls call k → s ≡ Calls call k
within-calls p (Calls call' k') call k e = cond_calls (leb k' p) (Calls call' k') call k e
within-calls p (Exits status k') call k e = cond_calls (leb k' p) (Exits status k') call k e
within-calls p Short call k e = e

cond_exits : (b : Bool) (s : Spoke) (status k : ℕ) → cond b s Short ≡ Exits status k → s ≡ Exits status k
cond_exits true s status k e = e
cond_exits false s status k e = cc

within-exits : (p : ℕ) (s : Spoke) (status k : ℕ) → within p s ≡ Exits status k → s ≡ Exits status k
within-exits p (Calls call' k') status k e = cond_exits (leb k' p) (Calls call' k') status k e
within-exits p (Exits status' k') status k e = cond_exits (leb k' p) (Exits status' k') status k e
within-exits p Short status k e = e

module _ (x : Says) (l : Lasts x) (c p : ℕ) where
  upto : c ≤ p → speaks c x ≡ within c (speaks p x)
  upto h = let m : c + (p - c) ≡ p = omega arith in subst (λ q. speaks c x ≡ within c (speaks q x)) m (speaks-within x l c (p - c))

  downto : p ≤ c → speaks p x ≡ within p (speaks c x)
  downto h = let m : p + (c - p) ≡ c = omega arith in subst (λ q. speaks p x ≡ within p (speaks q x)) m (speaks-within x l p (c - p))

  pub asks-enough : (call : Call) → speaks c x ≡ Calls call c → c ≤ p → speaks p x ≡ Calls call c
  asks-enough call e h = within-calls c (speaks p x) call c (sym (upto h) ∙ e)

  pub asks-short : (call : Call) → speaks c x ≡ Calls call c → p < c → speaks p x ≡ Short
  asks-short call e h = downto (omega arith) ∙ ap (within p) e ∙ rw (lt-leb c p h) refl

  pub ends-enough : (status : ℕ) → speaks c x ≡ Exits status c → c ≤ p → speaks p x ≡ Exits status c
  ends-enough status e h = within-exits c (speaks p x) status c (sym (upto h) ∙ e)

  pub ends-short : (status : ℕ) → speaks c x ≡ Exits status c → p < c → speaks p x ≡ Short
  ends-short status e h = downto (omega arith) ∙ ap (within p) e ∙ rw (lt-leb c p h) refl

  -- with just what it costs
  pub asks-exact : (call : Call) → speaks p x ≡ Calls call c → speaks c x ≡ Calls call c
  asks-exact call e =
      let d = subst (IsPaid p) e (paid p x) in
      let h : c ≤ p = d.1 in
      upto h ∙ ap (within c) e ∙ rw (le-leb c c (omega arith)) refl

  pub ends-exact : (status : ℕ) → speaks p x ≡ Exits status c → speaks c x ≡ Exits status c
  ends-exact status e =
      let h : c ≤ p = subst (IsPaid p) e (paid p x) in
      upto h ∙ ap (within c) e ∙ rw (le-leb c c (omega arith)) refl

-- what follows a call lasts
rest_of-cond : (b : Bool) (status d : ℕ) (a : Answer) → rest_of (cond b (Exited status d) Cut) a ≡ Cut
rest_of-cond true status d a = refl
rest_of-cond false status d a = refl

cond_same : (b b' : Bool) (call call' : Call) (d c : ℕ) → cond b (cond b' (Calls call' d) Short) Short ≡ Calls call c → d ≡ c
cond_same true true call call' d c e = cc
cond_same true false call call' d c e = cc
cond_same false b' call call' d c e = cc

cut-rest_ask : (p d c : ℕ) (call : Call) (rest : Answer → Talk) (a : Answer) → d ≡ c → cut p (rest a) ≡ rest_of (cut (p + c) (Asked call d rest)) a
cut-rest_ask p d c call rest a e =
    let m : (p + c) - c ≡ p = omega arith in
    rw (e, le-leb c (p + c) (omega arith), m) refl

cut-rest : (p q c : ℕ) (call : Call) (t : Talk) (a : Answer) → node q t ≡ Calls call c → cut p (rest_of t a) ≡ rest_of (cut (p + c) t) a
cut-rest p q c call Cut a e = refl
cut-rest p q c call (Exited status d) a e = sym (rest_of-cond (leb d (p + c)) status d a)
cut-rest p q c call (Asked call' d rest) a e = cut-rest_ask p d c call' rest a (cond_same (leb 1 d) (leb d q) call call' d c e)

pub Lasts-goes : (x : Says) → Lasts x → (call : Call) (c : ℕ) → speaks c x ≡ Calls call c → (a : Answer) → Lasts (goes_on c x a)
unfolding goes_on speaks
Lasts-goes x l call c e a p more =
    let m : (p + c) + more ≡ (p + more) + c = omega arith in
    cut-rest p ((p + more) + c) c call (x ((p + more) + c)) a (asks-enough x l c ((p + more) + c) call e (omega arith))
    ∙ ap (λ t. rest_of t a) (subst (λ q. cut (p + c) (x q) ≡ x (p + c)) m (l (p + c) more))

-- what every key's command says lasts
abbrev pub AllLast : (KeyValue → Says) → Type 0
AllLast first = (key : KeyValue) → Lasts (first key)

pub all-last : (first : KeyValue → Says) → ((key : KeyValue) → IsCommandTalk (first key)) → AllLast first
all-last first commands key = talk-lasts (first key) (commands key)

pub Lasts-follow : (x : Says) → Lasts x → (steps : List Step) → Follows x steps → Lasts (follow x steps)
Lasts-follow x l [] f = l
Lasts-follow x l (st ∷ sts) f = Lasts-follow (goes_on st.cost x st.answer) (Lasts-goes x l st.call st.cost f.0.0 st.answer) sts f.1
