-- Bytes that are known now change nothing in full.
use Rattle.std.proofs.Common.{◌≡◌, ℕ, zero, suc, List, [], ◌∷◌, map, true, Option, Some, None, refl, sym, ap, subst, ◌∙◌}
use Rattle.std.proofs.lemmas.Option.{same_Some}
use Rattle.std.specs.Prelude.{slice_get, slice_set, IfSome}
use Rattle.std.specs.FinMap.{get}
use Rattle.rk_base.specs.Text.{Text}
use Rattle.rk_tree.specs.Content.{Content, Own, Unread, Read, with_known, import_path}
use Rattle.rk_tree.specs.Fetched.{Gives}
use Rattle.rk_tree.specs.Full.{Told, From, AreFrom, bytes_at, full, full_content, full_node, in_full, is_known, is_read}
use Rattle.rk_tree.specs.Hierarchy.{Hierarchy, changed_at, held_in, know, knowing, node, path_in}
use Rattle.rk_tree.specs.Node.{Node, File, Dir, Link}
use Rattle.rk_tree.proofs.FullLemmas.{nodes-full, set-full}

-- one file

content-known : (told : Told) (bytes path : Text) (it : Content) → import_path it ≡ Some path → get told path ≡ Some bytes → full_content told (with_known bytes it) ≡ full_content told it
content-known told bytes path (Own own) is gives = refl
content-known told bytes path (Unread p) is gives = ap (λ (o : Option Text). Own (bytes_at o)) (sym gives ∙ ap (get told) (sym (same_Some _ _ is)))
content-known told bytes path (Read p own) is gives = refl

node-known : (told : Told) (bytes path : Text) (it : Node) → path_in (Some it) ≡ Some path → get told path ≡ Some bytes → full_node told (knowing bytes it) ≡ full_node told it
node-known told bytes path (File mode content) is gives = ap (λ (c : Content). File mode c) (content-known told bytes path content is gives)
node-known told bytes path (Dir mode) is gives = refl
node-known told bytes path (Link text) is gives = refl

fits-known : (told : Told) (bytes path : Text) (it : Content) → import_path it ≡ Some path → get told path ≡ Some bytes → From told it → From told (with_known bytes it)
fits-known told bytes path (Own own) is gives fits = tt
fits-known told bytes path (Unread p) is gives fits = ap (get told) (same_Some _ _ is) ∙ gives
fits-known told bytes path (Read p own) is gives fits = fits

held-known : (told : Told) (bytes path : Text) (it : Node) → path_in (Some it) ≡ Some path → get told path ≡ Some bytes → From told (held_in (Some it)) → From told (held_in (Some (knowing bytes it)))
held-known told bytes path (File mode content) is gives fits = fits-known told bytes path content is gives fits
held-known told bytes path (Dir mode) is gives fits = fits
held-known told bytes path (Link text) is gives fits = fits

read-known : (bytes : Text) (it : Content) → is_read (with_known bytes it) ≡ true
read-known bytes (Own own) = refl
read-known bytes (Unread path) = refl
read-known bytes (Read path own) = refl

is-known : (bytes : Text) (it : Node) → is_known (Some (knowing bytes it)) ≡ true
is-known bytes (File mode content) = read-known bytes content
is-known bytes (Dir mode) = refl
is-known bytes (Link text) = refl

-- the nodes

same-set : (nodes : List Node) (n : ℕ) (it : Node) → slice_get nodes n ≡ Some it → slice_set nodes n it ≡ nodes
same-set [] n it is = refl
same-set (x ∷ nodes) zero it is = ap (λ (y : Node). y ∷ nodes) (sym (same_Some _ _ is))
same-set (x ∷ nodes) (suc n) it is = ap (λ (more : List Node). x ∷ more) (same-set nodes n it is)

changed-known : (told : Told) (bytes path : Text) (nodes : List Node) (n : ℕ) (o : Option Node) → slice_get nodes n ≡ o → path_in o ≡ Some path → get told path ≡ Some bytes → map (full_node told) (changed_at (knowing bytes) nodes n o) ≡ map (full_node told) nodes
changed-known told bytes path nodes n None at is gives = refl
changed-known told bytes path nodes n (Some it) at is gives =
    set-full told nodes n (knowing bytes it)
    ∙ ap (slice_set (map (full_node told) nodes) n) (node-known told bytes path it is gives)
    ∙ same-set (map (full_node told) nodes) n (full_node told it) (nodes-full told nodes n ∙ ap (in_full told) at)

tree-known : (told : Told) (tree : Hierarchy) (n : ℕ) (bytes path : Text) → path_in (node tree n) ≡ Some path → get told path ≡ Some bytes → full told (know tree n bytes) ≡ full told tree
unfolding full
tree-known told tree n bytes path is gives = ap (λ (nodes : List Node). record tree { nodes = nodes }) (changed-known told bytes path tree.nodes n (node tree n) refl is gives)

pub know-full : (o : Option Told) (tree now : Hierarchy) (n : ℕ) (bytes path : Text) → path_in (node tree n) ≡ Some path → Gives o path bytes → now ≡ know tree n bytes → IfSome o (λ told. full told now ≡ full told tree)
know-full None tree now n bytes path is gives known = tt
know-full (Some told) tree now n bytes path is gives known = ap (full told) known ∙ tree-known told tree n bytes path is gives

-- a change of one node keeps what holds of what every node holds

pub held-set : (P : Content → Type 0) (nodes : List Node) (n : ℕ) (it : Node) → P (held_in (Some it)) → ((k : ℕ) → P (held_in (slice_get nodes k))) → (k : ℕ) → P (held_in (slice_get (slice_set nodes n it) k))
held-set P [] n it fits all k = all k
held-set P (x ∷ nodes) zero it fits all zero = fits
held-set P (x ∷ nodes) zero it fits all (suc k) = all (suc k)
held-set P (x ∷ nodes) (suc n) it fits all zero = all zero
held-set P (x ∷ nodes) (suc n) it fits all (suc k) = held-set P nodes n it fits (λ j. all (suc j)) k

pub held-changed : (P : Content → Type 0) (f : Node → Node) (nodes : List Node) (n : ℕ) (o : Option Node) → slice_get nodes n ≡ o → ((it : Node) → slice_get nodes n ≡ Some it → P (held_in (Some it)) → P (held_in (Some (f it)))) → ((k : ℕ) → P (held_in (slice_get nodes k))) → (k : ℕ) → P (held_in (slice_get (changed_at f nodes n o) k))
held-changed P f nodes n None at fits all = all
held-changed P f nodes n (Some it) at fits all = held-set P nodes n (f it) (fits it at (subst (λ (o : Option Node). P (held_in o)) at (all n))) all

pub know-from : (o : Option Told) (tree now : Hierarchy) (n : ℕ) (bytes path : Text) → path_in (node tree n) ≡ Some path → Gives o path bytes → now ≡ know tree n bytes → AreFrom o tree → AreFrom o now
know-from None tree now n bytes path is gives known all = tt
know-from (Some told) tree now n bytes path is gives known all =
    subst (AreFrom (Some told)) (sym known)
    (held-changed (From told) (knowing bytes) tree.nodes n (node tree n) refl (λ it at fits. held-known told bytes path it (ap path_in (sym at) ∙ is) gives fits) all)

known-set : (nodes : List Node) (n : ℕ) (it was : Node) → slice_get nodes n ≡ Some was → slice_get (slice_set nodes n it) n ≡ Some it
known-set [] n it was at = cc
known-set (x ∷ nodes) zero it was at = refl
known-set (x ∷ nodes) (suc n) it was at = known-set nodes n it was at

known-changed : (bytes : Text) (nodes : List Node) (n : ℕ) (o : Option Node) → slice_get nodes n ≡ o → is_known (slice_get (changed_at (knowing bytes) nodes n o) n) ≡ true
known-changed bytes nodes n None at = ap is_known at
known-changed bytes nodes n (Some it) at = ap is_known (known-set nodes n (knowing bytes it) it at) ∙ is-known bytes it

-- and then they are known
pub know-known : (tree now : Hierarchy) (n : ℕ) (bytes : Text) → now ≡ know tree n bytes → is_known (node now n) ≡ true
know-known tree now n bytes known = ap (λ (t : Hierarchy). is_known (node t n)) known ∙ known-changed bytes tree.nodes n (node tree n) refl
