-- A node of a tree: a file with its mode and what it holds, a directory with its mode, or a symbolic link with its text.
use Rattle.std.proofs.Common.{◌≡◌, ℕ, List, ◌⊎◌, inl, inr, refl}
use Rattle.std.specs.Coded.{Coded, code_by, coded×, coded⊎, coded_ℕ, coded_list}
use Rattle.rk_tree.specs.Content.{Content, content_code}

pub data Node : Type 0 where
  File : (mode : ℕ) (content : Content) → Node
  Dir : (mode : ℕ) → Node
  Link : (text : List ℕ) → Node

abbrev pub Stored : Type 0
Stored = (ℕ × Content) ⊎ (ℕ ⊎ List ℕ)

abbrev pub stored : Node → Stored
stored (File mode content) = inl (mode, content)
stored (Dir mode) = inr (inl mode)
stored (Link text) = inr (inr text)

abbrev pub node_in : Stored → Node
node_in (inl file) = File file.0 file.1
node_in (inr (inl mode)) = Dir mode
node_in (inr (inr text)) = Link text

pub node_back : (it : Node) → node_in (stored it) ≡ it
node_back (File mode content) = refl
node_back (Dir mode) = refl
node_back (Link text) = refl

-- by which a proof tells two of them apart
abbrev pub node_code : Coded Node
node_code = code_by Stored (coded⊎ (coded× coded_ℕ content_code) (coded⊎ coded_ℕ (coded_list coded_ℕ))) stored node_in node_back
