-- A node that is read, and added where its key is new.
use Rattle.std.proofs.Common.{◌≡◌, ◌∙◌, refl, sym, ap, subst, ℕ, ◌+◌, ◌-◌, ◌<◌, ◌≤◌, ◌^◌, inl, inr, Bool, true, false, not, ◌&&◌, cond, nat_le, nat_lt, List, [], ◌∷◌, ◌++◌, Option, Some, None, length, map, take, arith}
use Rattle.std.specs.Prelude.{IfSome}
use Rattle.std.specs.Int.{w64}
use Rattle.std.specs.List.{AllByRecursion, IsDistinct, list_any}
use Rattle.std.proofs.lemmas.Bool.{le-leb, lt-ltb, le-ltb}
use Rattle.std.proofs.lemmas.List.{length-append, map-append, take_at}
use Rattle.std.proofs.lemmas.List.Sums.{sum_by-cons}
use Rattle.rk_base.specs.Text.{Text, same_text}
use Rattle.tr_nodes.specs.Nodes.{Node, same_node}
use Rattle.tr_nodes.specs.Tails.{Tail, has as has_tail, AreNodes, tail_after, tails_of}
use Rattle.tr_nodes.proofs.GetLemmas.{by_cases, get_push, get_below}
use Rattle.tr_nodes.proofs.PutLemmas.{put, tails_more, tails_none, no_nodes}
use Rattle.tr_nodes.proofs.ReadLemmas.{tails_long}
use Rattle.tr_record.specs.Contents.{IsContent}
use Rattle.tr_record.specs.Costs.{steps_cost}
use Rattle.tr_record.specs.Pool.{Pool, no_nodes as no_pool, with_node as with_step, steps_under}
use Rattle.tr_record.specs.declared.steps.Step.{Step}
use Rattle.tr_parts.specs.Piece.{number, has}
use Rattle.tr_parts.specs.Reads.{Fails}
use Rattle.tr_parts.specs.declared.fault.PartErr.{PartErr}
use Rattle.tr_parts.specs.declared.fault.PartErr.TheVariants.{Form, NoMemory}
use Rattle.tr_codec.specs.declared.nodes.ReadNodes.{ReadNodes}
use Rattle.tr_codec.specs.NodeKeys.{own_piece, key_of, IsKeyed}
use Rattle.tr_codec.specs.NodesRead.{AreTold, AreRead, NodeRead, Adds, Refuses, tails_in}
use Rattle.tr_codec.specs.Reading.{◌>>=◌, given, number_at, step_at, tail_of, tail_paid, is_new, node_at}
use Rattle.tr_codec.specs.Same.{same_step}
use Rattle.tr_codec.specs.Spelling.{step_piece}
use Rattle.tr_codec.specs.Used.{step_used}
use Rattle.tr_codec.proofs.ExactLemmas.{AreBytes, Took, took_then, took_number}
use Rattle.tr_codec.proofs.KeyLemmas.{by_bytes}
use Rattle.tr_codec.proofs.NodesExact.{took_step}
use Rattle.tr_codec.proofs.NodesPutLemmas.{cond_all}
use Rattle.tr_codec.proofs.PayLemmas.{above}
use Rattle.tr_codec.proofs.SameLemmas.{step_decides}
use Rattle.tr_codec.proofs.SoundLemmas.{step_typed}

-- ---- tests

last_false : (a b : Bool) → b ≡ false → (a && b) ≡ false
last_false true b e = e
last_false false b e = refl

told_is : (told : Option ℕ) (n : ℕ) (P : ℕ → Type 0) → told ≡ Some n → IfSome told P → P n
told_is None n P e h = absurd cc
told_is (Some m) n P e h = let same : m ≡ n = cc in subst P same h

-- ---- none

pub told_none : (texts : List Text) (pool : Pool) → pool ≡ no_pool → AreTold texts pool
told_none texts pool e = subst (AreTold texts) (sym e) (record { many = refl; numbers = λ k n node at is. absurd (let f : None ≡ Some (Some n) = at in cc) })

pub read_none : (blobs : List Text) (nodes : ReadNodes) → nodes.pool ≡ no_pool → nodes.keys ≡ [] → AreRead blobs nodes
read_none blobs nodes e f =
    let none : nodes.pool.nodes ≡ [] = ap (λ (p : Pool). p.nodes) e in
    record {
      are = subst (λ (l : List (Node Step)). AreNodes l) (sym none) no_nodes;
      keys = f ∙ sym (ap (map (key_of blobs)) none);
      keyed = subst (λ (l : List (Node Step)). AllByRecursion (IsKeyed blobs) l) (sym none) tt;
      told = told_none blobs nodes.pool e;
    }

pub tails_in_none : (nodes : ReadNodes) → nodes.pool ≡ no_pool → tails_in nodes ≡ []
tails_in_none nodes e = ap (λ (p : Pool). tails_of p.nodes) e ∙ tails_none

-- ---- one more

-- what is told of a pool's answers stays, and so with one more
pub told_more : (texts : List Text) (pool : Pool) (next : ℕ) (step : Step) (told : Option ℕ) → AreTold texts pool → IfSome told (λ n. IsContent texts n step.answer) → AreTold texts (with_step pool next step told)
told_more texts pool next step told h is =
    let many = h.many in
    let node : Node Step = record { next = next; step = step } in
    record {
      many = (let e = h.many in omega (arith, length-append pool.contents (told ∷ []), length-append pool.nodes (node ∷ [])));
      numbers = λ k n other at stands.
          elim (get_push pool.contents told k (Some n) at) [
            | inl before ↦
                elim (get_push pool.nodes node k other stands) [
                  | inl there ↦ h.numbers k n other before there
                  | inr last ↦ let low = get_below pool.contents k (Some n) before in let place = last.0 in absurd (omega arith)
                ]
            | inr now ↦
                elim (get_push pool.nodes node k other stands) [
                  | inl there ↦ let low = get_below pool.nodes k other there in let place = now.0 in absurd (omega arith)
                  | inr last ↦
                      subst (λ (s : Step). IsContent texts n s.answer) (ap (λ (x : Node Step). x.step) last.1)
                      (told_is told n (λ m. IsContent texts m step.answer) now.1 is)
                ]
          ];
    }

-- ---- a node and its tail

module _ (nodes : List (Node Step)) (node : Node Step) (are : AreNodes nodes) (le : node.next ≤ length nodes) where
  abbrev tails : List (Tail Step)
  tails = tails_of nodes

  abbrev tail : Tail Step
  tail = tail_after tails node

  grows : tails_of (cond (list_any (same_node same_step node) nodes) nodes (nodes ++ node ∷ [])) ≡ cond (has_tail same_step tails tail) tails (tails ++ tail ∷ [])
  grows = (put same_step step_decides nodes node are le).tails

  -- the node is there where the tail is
  pub same_known : has_tail same_step tails tail ≡ list_any (same_node same_step node) nodes
  same_known =
      let here = has_tail same_step tails tail in
      let there = list_any (same_node same_step node) nodes in
      let long = length-append tails (tail ∷ []) in
      by_cases there (here ≡ there)
      (λ t. by_cases here (here ≡ there) (λ h. h ∙ sym t) (λ h.
      let e : tails ≡ tails ++ tail ∷ [] = sym (ap (λ b. tails_of (cond b nodes (nodes ++ node ∷ []))) t) ∙ grows ∙ ap (λ b. cond b tails (tails ++ tail ∷ [])) h in
      let f : length tails ≡ length (tails ++ tail ∷ []) = ap (λ (l : List (Tail Step)). length l) e in
      absurd (omega arith)))
      (λ t. by_cases here (here ≡ there) (λ h.
      let e : tails ++ tail ∷ [] ≡ tails = sym (tails_more nodes node) ∙ sym (ap (λ b. tails_of (cond b nodes (nodes ++ node ∷ []))) t) ∙ grows ∙ ap (λ b. cond b tails (tails ++ tail ∷ [])) h in
      let f : length (tails ++ tail ∷ []) ≡ length tails = ap (λ (l : List (Tail Step)). length l) e in
      absurd (omega arith)) (λ h. h ∙ sym t))

-- ---- a node that is read

none_given : {X Y : Type 0} (o : Option (X × List ℕ)) (test : X → Bool) (make : X × List ℕ → Y) → ((x : X) → test x ≡ false) → (o >>= λ x. given (test x.0) (make x)) ≡ None
none_given None test make e = refl
none_given (Some x) test make e = ap (λ b. given b (make x)) (e x.0)

-- a number of no rest
pub too_large : (blobs : List Text) (old : ReadNodes) (bytes : List ℕ) (next : ℕ) (rest : List ℕ) → number_at w64 bytes ≡ Some (next, rest) → length old.pool.nodes < next → node_at blobs (tails_in old) bytes ≡ None
unfolding node_at
too_large blobs old bytes next rest e lt =
    let front = tails_in old in
    let long = tails_long old.pool.nodes in
    let high = above next (length front) (omega arith) in
    ap (λ (o : Option (ℕ × List ℕ)). o >>= λ next. step_at blobs next.1 >>= λ step. given (is_new front next.0 (tail_of front next.0 step.0)) (tail_of front next.0 step.0, step.1)) e
    ∙ none_given (step_at blobs rest) (λ step. is_new front next (tail_of front next step)) (λ s. let r : Tail Step × List ℕ = (tail_of front next s.0, s.1) in r)
    (λ step. ap (λ b. b && (not (has_tail same_step front (tail_of front next step)) && nat_lt (tail_paid (tail_of front next step)) (2 ^ 64))) high)

-- what stands there
pub record NodeStands (blobs : List Text) (bytes : List ℕ) (next : ℕ) (step : Step) (end : List ℕ) : Type 0 where
  pub once : IsDistinct same_text blobs
  pub few : length blobs < 2 ^ 64
  pub small : AreBytes bytes
  pub rest : List ℕ
  pub number_is : number_at w64 bytes ≡ Some (next, rest)
  pub step_is : step_at blobs rest ≡ Some (step, end)

module _ (blobs : List Text) (old : ReadNodes) (h : AreRead blobs old) (bytes : List ℕ) (many : length bytes < 2 ^ 64) (next : ℕ) (step : Step) (end : List ℕ) (n : NodeStands blobs bytes next step end) where
  abbrev node : Node Step
  node = record { next = next; step = step }

  abbrev front : List (Tail Step)
  front = tails_in old

  read : node_at blobs front bytes ≡ given (is_new front next (tail_of front next step)) (tail_of front next step, end)
  unfolding node_at
  read =
      let after : Option (Step × List ℕ) → Option (Tail Step × List ℕ) = λ o. o >>= λ step. given (is_new front next (tail_of front next step.0)) (tail_of front next step.0, step.1) in
      ap (λ (o : Option (ℕ × List ℕ)). o >>= λ next. step_at blobs next.1 >>= λ step. given (is_new front next.0 (tail_of front next.0 step.0)) (tail_of front next.0 step.0, step.1)) n.number_is
      ∙ ap after n.step_is

  stands : Took blobs (own_piece node) bytes end
  stands =
      let first = took_number blobs bytes (next, n.rest) n.small n.number_is in
      let second = took_step blobs n.once n.rest (step, end) first.1.left n.step_is in
      took_then blobs (number next) (step_piece step) bytes n.rest end first.1 second.1

  itself_keyed : IsKeyed blobs node
  itself_keyed =
      let first = took_number blobs bytes (next, n.rest) n.small n.number_is in
      let second = took_step blobs n.once n.rest (step, end) first.1.left n.step_is in
      record { typed = step_typed step second.0; next = first.0; covered = stands.covers; few = omega (arith, ap length stands.spelt, length-append (key_of blobs node) end) }

  pub fewer : length end ≤ length bytes
  fewer = omega (arith, ap length stands.spelt, length-append (key_of blobs node) end)

  -- its bytes are its key
  key_is : take (length bytes - length end) bytes ≡ key_of blobs node
  key_is =
      let long : length bytes - length end ≡ length (key_of blobs node) = omega (arith, ap length stands.spelt, length-append (key_of blobs node) end) in
      ap (λ (k : ℕ). take k bytes) long ∙ ap (take (length (key_of blobs node))) stands.spelt ∙ take_at (key_of blobs node) end (length (key_of blobs node)) refl

  known : (key : Text) → key ≡ take (length bytes - length end) bytes → next ≤ length old.pool.nodes → has_tail same_step front (tail_of front next step) ≡ has old.keys key
  known key e le =
      same_known old.pool.nodes node h.are le
      ∙ sym (by_bytes blobs n.few node old.pool.nodes itself_keyed h.keyed).0
      ∙ ap (list_any (same_text (key_of blobs node))) (sym h.keys)
      ∙ ap (λ k. list_any (same_text k) old.keys) (sym key_is ∙ sym e)

  cost_is : tail_paid (tail_of front next step) ≡ step.cost + steps_cost (steps_under old.pool.nodes next)
  cost_is = let sum = sum_by-cons (λ (s : Step). s.cost) step (steps_under old.pool.nodes next) in omega arith

  unread : is_new front next (tail_of front next step) ≡ false → node_at blobs front bytes ≡ None
  unread e = read ∙ ap (λ b. given b (tail_of front next step, end)) e

  pub refused : (key : Text) (e : PartErr) → key ≡ take (length bytes - length end) bytes → next ≤ length old.pool.nodes → Refuses old key next step e → Fails e (node_at blobs front bytes)
  refused key NoMemory is le why = tt
  refused key Form is le why =
      let tail = tail_of front next step in
      elim why [
        | inl there ↦ unread (last_false (nat_le next (length front)) (not (has_tail same_step front tail) && nat_lt (tail_paid tail) (2 ^ 64)) (ap (λ b. not b && nat_lt (tail_paid tail) (2 ^ 64)) (known key is le ∙ there)))
        | inr dear ↦
            let e = cost_is in
            let test : nat_lt (tail_paid tail) (2 ^ 64) ≡ false = le-ltb (tail_paid tail) (2 ^ 64) (omega arith) in
            unread (last_false (nat_le next (length front)) (not (has_tail same_step front tail) && nat_lt (tail_paid tail) (2 ^ 64)) (last_false (not (has_tail same_step front tail)) (nat_lt (tail_paid tail) (2 ^ 64)) test))
      ]

  pub is_read : (key : Text) (new : ReadNodes) (told used now : Option ℕ) → key ≡ take (length bytes - length end) bytes → next ≤ length old.pool.nodes → Adds old new key next step told → IfSome told (λ n. IsContent blobs n step.answer) → now ≡ step_used blobs used step
      → NodeRead blobs old new bytes end used now
  is_read key new told used now is le adds content uses =
      let tail = tail_of front next step in
      let long = tails_long old.pool.nodes in
      let cost = cost_is in
      let fits = adds.fits in
      let new_key : list_any (same_node same_step node) old.pool.nodes ≡ false = sym (same_known old.pool.nodes node h.are le) ∙ known key is le ∙ adds.fresh in
      let test : is_new front next tail ≡ true =
      ap (λ b. b && (not (has_tail same_step front tail) && nat_lt (tail_paid tail) (2 ^ 64))) (le-leb next (length front) (omega arith))
      ∙ ap (λ b. not b && nat_lt (tail_paid tail) (2 ^ 64)) (known key is le ∙ adds.fresh)
      ∙ lt-ltb (tail_paid tail) (2 ^ 64) (omega arith)
      in
      let nodes_are : new.pool.nodes ≡ old.pool.nodes ++ node ∷ [] = ap (λ (p : Pool). p.nodes) adds.pool in
      let p = put same_step step_decides old.pool.nodes node h.are le in
      record {
        tail = tail;
        read = read ∙ ap (λ b. given b (tail, end)) test;
        adds = ap (λ (l : List (Node Step)). tails_of l) nodes_are ∙ tails_more old.pool.nodes node;
        are = record {
          are = subst (λ (l : List (Node Step)). AreNodes l) (ap (λ b. cond b old.pool.nodes (old.pool.nodes ++ node ∷ [])) new_key ∙ sym nodes_are) p.are;
          keys = adds.keys ∙ ap (λ l. l ++ key ∷ []) h.keys ∙ ap (λ (k : Text). map (key_of blobs) old.pool.nodes ++ k ∷ []) (is ∙ key_is) ∙ sym (map-append (key_of blobs) old.pool.nodes (node ∷ [])) ∙ sym (ap (map (key_of blobs)) nodes_are);
          keyed = subst (λ (l : List (Node Step)). AllByRecursion (IsKeyed blobs) l) (sym nodes_are) (cond_all false (IsKeyed blobs) old.pool.nodes node h.keyed itself_keyed);
          told = subst (AreTold blobs) (sym adds.pool) (told_more blobs old.pool next step told h.told content);
        };
        uses = uses;
      }
