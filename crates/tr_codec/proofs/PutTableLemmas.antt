-- What nodes and records that were put come to.
use Rattle.std.proofs.Common.{◌≡◌, ◌∙◌, refl, sym, ap, ℕ, List, [], ◌∷◌, ◌++◌, length, map, append_assoc}
use Rattle.std.specs.List.{flat_map}
use Rattle.std.proofs.lemmas.List.{append-nil, length-map}
use Rattle.rk_base.specs.Text.{Text}
use Rattle.tr_nodes.specs.Nodes.{Node}
use Rattle.tr_nodes.specs.Tails.{Tail, node_in}
use Rattle.tr_nodes.proofs.ReadLemmas.{nodes_again}
use Rattle.tr_record.specs.declared.steps.Step.{Step}
use Rattle.tr_parts.specs.Piece.{Piece, plain, ◌⊕◌, each, counted, num, string, with_uses}
use Rattle.tr_codec.specs.declared.node_pieces.NodeWriter.{NodeWriter}
use Rattle.tr_codec.specs.NodeKeys.{own_piece, key_of}
use Rattle.tr_codec.specs.NodesPut.{Holds}
use Rattle.tr_codec.specs.Puts.{Written, Puts, spelt_body}
use Rattle.tr_codec.specs.Same.{same_step}
use Rattle.tr_codec.specs.Spelling.{node_piece, body}
use Rattle.tr_codec.proofs.PutsLemmas.{with_uses_adds, with_uses-append}
use Rattle.tr_codec.proofs.SameLemmas.{step_decides}

-- what comes of each, of what each was made of
pub flat_map-map : {X Y A : Type 0} (f : Y → List A) (g : X → Y) (xs : List X) → flat_map f (map g xs) ≡ flat_map (λ x. f (g x)) xs
flat_map-map f g [] = refl
flat_map-map f g (x ∷ xs) = ap (λ l. f (g x) ++ l) (flat_map-map f g xs)

map-map : {X Y Z : Type 0} (f : Y → Z) (g : X → Y) (xs : List X) → map f (map g xs) ≡ map (λ x. f (g x)) xs
map-map f g [] = refl
map-map f g (x ∷ xs) = ap (λ l. f (g x) ∷ l) (map-map f g xs)

module _ (tails : List (Tail Step)) (w : NodeWriter) (h : Holds tails w) where
  -- the nodes are those of the tails
  nodes_are : h.nodes ≡ map (node_in same_step tails) tails
  nodes_are = nodes_again same_step step_decides h.nodes h.are ∙ ap (λ (l : List (Tail Step)). map (node_in same_step l) l) h.tails_are

  uses_are : w.writer.blobs ≡ with_uses [] (counted (node_piece tails) tails).uses
  unfolding each ◌⊕◌ plain
  uses_are =
      h.blobs ∙ ap (λ (l : List (Node Step)). with_uses [] (flat_map (λ n. (own_piece n).uses) l)) nodes_are
      ∙ ap (with_uses []) (flat_map-map (λ n. (own_piece n).uses) (node_in same_step tails) tails)

  keys_are : (more : List Text) → w.nodes.keys ≡ map (λ tail. (node_piece tails tail).spelt (w.writer.blobs ++ more)) tails
  keys_are more =
      let blobs = w.writer.blobs ++ more in
      h.keys more ∙ ap (map (key_of blobs)) nodes_are ∙ map-map (key_of blobs) (node_in same_step tails) tails

  many : length w.nodes.keys ≡ length tails
  many = ap (λ (l : List Text). length l) (keys_are []) ∙ length-map tails (λ tail. (node_piece tails tail).spelt (w.writer.blobs ++ []))

  bytes_are : (more : List Text) → flat_map (λ node. node) w.nodes.keys ≡ flat_map (λ tail. (node_piece tails tail).spelt (w.writer.blobs ++ more)) tails
  bytes_are more = ap (flat_map (λ node. node)) (keys_are more) ∙ flat_map-map (λ (node : Text). node) (λ tail. (node_piece tails tail).spelt (w.writer.blobs ++ more)) tails

  -- and what is put behind them
  module _ (version : List ℕ) (new : Written) (last : Piece) (p : Puts last w.writer new) where
    blobs_are : new.blobs ≡ with_uses [] (counted (node_piece tails) tails ⊕ last).uses
    unfolding ◌⊕◌
    blobs_are =
        let nodes = (counted (node_piece tails) tails).uses in
        p.blobs ∙ ap (λ l. with_uses l last.uses) uses_are ∙ sym (with_uses-append [] nodes last.uses)

    spelt_are : num (length w.nodes.keys) ++ (flat_map (λ node. node) w.nodes.keys ++ new.bytes) ≡ (counted (node_piece tails) tails ⊕ last).spelt new.blobs
    unfolding each ◌⊕◌ plain
    spelt_are =
        let grown = with_uses_adds w.writer.blobs last.uses in
        let later : w.writer.blobs ++ grown.0 ≡ new.blobs = sym (p.blobs ∙ grown.1) in
        let nodes : List Text → List ℕ = λ blobs. flat_map (λ tail. (node_piece tails tail).spelt blobs) tails in
        let records = last.spelt new.blobs in
        let bytes : new.bytes ≡ records = p.bytes [] ∙ ap (λ l. l ++ last.spelt (new.blobs ++ [])) h.bytes ∙ ap last.spelt (append-nil new.blobs) in
        ap (λ n. num n ++ (flat_map (λ node. node) w.nodes.keys ++ new.bytes)) many
        ∙ ap (λ l. num (length tails) ++ (l ++ new.bytes)) (bytes_are grown.0 ∙ ap nodes later)
        ∙ ap (λ l. num (length tails) ++ (nodes new.blobs ++ l)) bytes
        ∙ sym (append_assoc (num (length tails)) (nodes new.blobs) records)

    pub body_are : spelt_body version new w.nodes.keys ≡ body version (counted (node_piece tails) tails ⊕ last)
    unfolding body
    body_are =
        let rest : List Text → List ℕ = λ blobs. version ++ (num (length blobs) ++ (flat_map string blobs ++ (counted (node_piece tails) tails ⊕ last).spelt blobs)) in
        ap (λ l. version ++ (num (length new.blobs) ++ (flat_map string new.blobs ++ l))) spelt_are ∙ ap rest blobs_are
