-- A node that is put, by its bytes.
use Rattle.std.proofs.Common.{◌≡◌, ◌∙◌, refl, sym, ap, subst, ℕ, zero, suc, ◌+◌, ◌<◌, ◌≤◌, ◌^◌, Bool, true, false, cond, List, [], ◌∷◌, ◌++◌, Some, None, length, map, slice_get, append_assoc, arith}
use Rattle.std.specs.List.{AllByRecursion, flat_map, list_any, position_or_len}
use Rattle.std.proofs.lemmas.List.{append-nil, length-map, map-append}
use Rattle.std.proofs.lemmas.Grind.{flat_map-append}
use Rattle.rk_base.specs.Text.{Text, same_text}
use Rattle.tr_nodes.specs.Nodes.{Node, same_node}
use Rattle.tr_nodes.specs.Tails.{Tail, head_in, steps_at}
use Rattle.tr_nodes.proofs.GetLemmas.{found}
use Rattle.tr_nodes.proofs.PutLemmas.{node_decides, added, tails_none, no_nodes}
use Rattle.tr_record.specs.declared.steps.Step.{Step}
use Rattle.tr_parts.specs.Piece.{each, with_uses}
use Rattle.tr_codec.specs.declared.node_pieces.NodeWriter.{NodeWriter}
use Rattle.tr_codec.specs.NodeKeys.{own_piece, key_of, IsKeyed}
use Rattle.tr_codec.specs.NodesPut.{Holds, IsPut}
use Rattle.tr_codec.specs.Puts.{Written, Puts}
use Rattle.tr_codec.specs.Same.{same_step}
use Rattle.tr_codec.specs.Sound.{IsTyped}
use Rattle.tr_codec.proofs.KeyLemmas.{by_bytes, adds_none}
use Rattle.tr_codec.proofs.PutsLemmas.{with_uses_adds, with_uses-append}
use Rattle.tr_codec.proofs.SameLemmas.{step_decides}
use Rattle.tr_codec.proofs.TableAgain.{Covers, has_more, uses_there}

pub all_at : {X : Type 0} (P : X → Type 0) (xs : List X) (n : ℕ) (x : X) → AllByRecursion P xs → slice_get xs n ≡ Some x → P x
all_at P [] n x h at = absurd (let e : None ≡ Some x = at in cc)
all_at P (y ∷ ys) zero x h at = let e : y ≡ x = cc in subst P e h.0
all_at P (y ∷ ys) (suc n) x h at = all_at P ys n x h.1 at

pub covers_more : (blobs more texts : List Text) → Covers blobs texts → Covers (blobs ++ more) texts
covers_more blobs more [] h = tt
covers_more blobs more (text ∷ texts) h = (has_more blobs more text h.0, covers_more blobs more texts h.1)

-- ---- one more, where it is new

cond_map : {X Y : Type 0} (b : Bool) (f : X → Y) (xs : List X) (x : X) (ys : List Y) (y : Y) → ys ≡ map f xs → y ≡ f x → cond b ys (ys ++ y ∷ []) ≡ map f (cond b xs (xs ++ x ∷ []))
cond_map true f xs x ys y e i = e
cond_map false f xs x ys y e i = ap (λ l. l ++ y ∷ []) e ∙ ap (λ z. map f xs ++ z ∷ []) i ∙ sym (map-append f xs (x ∷ []))

pub cond_all : {X : Type 0} (b : Bool) (P : X → Type 0) (xs : List X) (x : X) → AllByRecursion P xs → P x → AllByRecursion P (cond b xs (xs ++ x ∷ []))
cond_all true P xs x h p = h
cond_all false P [] x h p = (p, tt)
cond_all false P (y ∷ ys) x h p = (h.0, cond_all false P ys x h.1 p)

each_more : (nodes : List (Node Step)) (node : Node Step) → (each own_piece (nodes ++ node ∷ [])).uses ≡ (each own_piece nodes).uses ++ (own_piece node).uses
unfolding each
each_more nodes node = flat_map-append (λ n. (own_piece n).uses) nodes (node ∷ []) ∙ ap (λ l. flat_map (λ n. (own_piece n).uses) nodes ++ l) (append-nil (own_piece node).uses)

pub holds_none : (w : NodeWriter) → w.writer ≡ record { blobs = []; bytes = [] } → w.nodes.keys ≡ [] → Holds [] w
unfolding each
holds_none w e f = record {
  nodes = [];
  tails_are = tails_none;
  are = no_nodes;
  keys = λ more. f;
  keyed = λ more. tt;
  blobs = ap (λ (v : Written). v.blobs) e;
  bytes = ap (λ (v : Written). v.bytes) e;
}

-- ---- a node that is put

-- what was put of it, and where its bytes stand then
pub record NodePut (w new : NodeWriter) (mid : Written) (node : Node Step) (key : Text) (place : ℕ) : Type 0 where
  pub puts : Puts (own_piece node) w.writer mid
  pub key_is : key ≡ mid.bytes
  pub writer_is : new.writer ≡ record { blobs = mid.blobs; bytes = [] }
  pub keys_are : new.nodes.keys ≡ cond (list_any (same_text key) w.nodes.keys) w.nodes.keys (w.nodes.keys ++ key ∷ [])
  pub place_is : place ≡ position_or_len (same_text key) w.nodes.keys
  pub inside : place < length new.nodes.keys
  pub few_key : length key < 2 ^ 64
  pub few : length mid.blobs < 2 ^ 64
  pub next : node.next < 2 ^ 64
  pub typed : IsTyped node.step

module _ (tails : List (Tail Step)) (w new : NodeWriter) (mid : Written) (node : Node Step) (key : Text) (place : ℕ) (h : Holds tails w) (le : node.next ≤ length tails) (n : NodePut w new mid node key place) where
  abbrev uses : List Text
  uses = (own_piece node).uses

  grown : (more : List Text) × (mid.blobs ≡ w.writer.blobs ++ more)
  grown = let g = with_uses_adds w.writer.blobs uses in (g.0, n.puts.blobs ∙ g.1)

  -- its bytes, and those of the others, whatever blobs come later
  key_spelt : (more : List Text) → key ≡ key_of (mid.blobs ++ more) node
  key_spelt more = n.key_is ∙ n.puts.bytes more ∙ ap (λ l. l ++ key_of (mid.blobs ++ more) node) h.bytes

  later : (more : List Text) → w.writer.blobs ++ (grown.0 ++ more) ≡ mid.blobs ++ more
  later more = sym (append_assoc w.writer.blobs grown.0 more) ∙ ap (λ l. l ++ more) (sym grown.1)

  keys_spelt : (more : List Text) → w.nodes.keys ≡ map (key_of (mid.blobs ++ more)) h.nodes
  keys_spelt more = h.keys (grown.0 ++ more) ∙ ap (λ l. map (key_of l) h.nodes) (later more)

  keyed : (more : List Text) → AllByRecursion (IsKeyed (mid.blobs ++ more)) h.nodes
  keyed more = subst (λ l. AllByRecursion (IsKeyed l) h.nodes) (later more) (h.keyed (grown.0 ++ more))

  itself_keyed : (more : List Text) → IsKeyed (mid.blobs ++ more) node
  itself_keyed more =
      let there : Covers mid.blobs uses = subst (λ l. Covers l uses) (sym n.puts.blobs) (uses_there w.writer.blobs uses) in
      record { typed = n.typed; next = n.next; covered = covers_more mid.blobs more uses there; few = subst (λ (l : List ℕ). length l < 2 ^ 64) (key_spelt more) n.few_key }

  abbrev known : Bool
  known = list_any (same_node same_step node) h.nodes

  agrees : (list_any (same_text key) w.nodes.keys ≡ known) × (position_or_len (same_text key) w.nodes.keys ≡ position_or_len (same_node same_step node) h.nodes)
  agrees =
      let all = append-nil mid.blobs in
      let mine : key ≡ key_of mid.blobs node = key_spelt [] ∙ ap (λ l. key_of l node) all in
      let others : w.nodes.keys ≡ map (key_of mid.blobs) h.nodes = keys_spelt [] ∙ ap (λ l. map (key_of l) h.nodes) all in
      let by = by_bytes mid.blobs n.few node h.nodes (subst (λ l. IsKeyed l node) all (itself_keyed [])) (subst (λ l. AllByRecursion (IsKeyed l) h.nodes) all (keyed [])) in (
        ap (λ k. list_any (same_text k) w.nodes.keys) mine ∙ ap (list_any (same_text (key_of mid.blobs node))) others ∙ by.0,
        ap (λ k. position_or_len (same_text k) w.nodes.keys) mine ∙ ap (position_or_len (same_text (key_of mid.blobs node))) others ∙ by.1,
      )

  abbrev nodes : List (Node Step)
  nodes = cond known h.nodes (h.nodes ++ node ∷ [])

  keys_new : (more : List Text) → new.nodes.keys ≡ map (key_of (mid.blobs ++ more)) nodes
  keys_new more =
      n.keys_are ∙ ap (λ b. cond b w.nodes.keys (w.nodes.keys ++ key ∷ [])) agrees.0 ∙ cond_map known (key_of (mid.blobs ++ more)) h.nodes node w.nodes.keys key (keys_spelt more) (key_spelt more)

  -- a node that was there brings no new blob
  blobs_known : known ≡ true → with_uses w.writer.blobs uses ≡ w.writer.blobs
  blobs_known is =
      let at = found (same_node same_step) (node_decides same_step step_decides) h.nodes node is in
      let one : IsKeyed (w.writer.blobs ++ []) node = all_at (IsKeyed (w.writer.blobs ++ [])) h.nodes (position_or_len (same_node same_step node) h.nodes) node (h.keyed []) at in
      adds_none w.writer.blobs uses (subst (λ l. Covers l uses) (append-nil w.writer.blobs) one.covered)

  blobs_new : mid.blobs ≡ with_uses [] (each own_piece nodes).uses
  blobs_new =
      let start = (each own_piece h.nodes).uses in
      elim known as (λ b. known ≡ b → mid.blobs ≡ with_uses [] (each own_piece (cond b h.nodes (h.nodes ++ node ∷ []))).uses) [
        | true ↦ λ is. n.puts.blobs ∙ blobs_known is ∙ h.blobs
        | false ↦ λ is. n.puts.blobs ∙ ap (λ l. with_uses l uses) h.blobs ∙ sym (with_uses-append [] start uses) ∙ ap (with_uses []) (sym (each_more h.nodes node))
      ] refl

  pub put : IsPut tails node.next node.step (place + 1) new
  put =
      let blobs : new.writer.blobs ≡ mid.blobs = ap (λ (v : Written). v.blobs) n.writer_is in
      let many : length new.nodes.keys ≡ length nodes = ap (λ (l : List Text). length l) (keys_new []) ∙ length-map nodes (key_of (mid.blobs ++ [])) in
      let inside : place < length nodes = let lt = n.inside in omega arith in
      let a = added same_step step_decides h.nodes nodes node tails node.next node.step place h.are h.tails_are le refl refl (n.place_is ∙ agrees.1) inside in
      let more_long = ap (λ (l : List (Tail Step)). length l) a.tails_are in
      let within = a.within in
      record {
        holds = record {
          nodes = nodes;
          tails_are = a.tails_are;
          are = a.are;
          keys = λ more. keys_new more ∙ ap (λ l. map (key_of (l ++ more)) nodes) (sym blobs);
          keyed = λ more. subst (λ l. AllByRecursion (IsKeyed (l ++ more)) nodes) (sym blobs) (cond_all known (IsKeyed (mid.blobs ++ more)) h.nodes node (keyed more) (itself_keyed more));
          blobs = blobs ∙ blobs_new;
          bytes = ap (λ (v : Written). v.bytes) n.writer_is;
        };
        is = a.number ∙ ap (λ l. head_in same_step l (node.step ∷ steps_at tails node.next)) a.tails_are;
        within = omega arith;
      }
