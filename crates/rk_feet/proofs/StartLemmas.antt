-- The world of a tree in which nothing has run, where its nodes have names.
use Rattle.std.proofs.Common.{◌≡◌, ℕ, zero, suc, ◌≤◌, ◌<◌, List, [], ◌∷◌, length, Bool, true, false, Option, Some, None, refl, sym, ap, subst, arith}
use Rattle.std.specs.Prelude.{if◌then◌else◌, nat_lt, slice_get}
use Rattle.rk_tree.specs.declared.inode.Inode.{Inode}
use Rattle.rk_tree.specs.Copies.{tree_of}
use Rattle.rk_tree.specs.Entries.{Entries}
use Rattle.rk_tree.specs.Hierarchy.{Hierarchy, path_of}
use Rattle.rk_tree.specs.Whole.{IsWhole}
use Rattle.rk_tree.proofs.ClimbingLemmas.{root_path}
use Rattle.rk_tree.specs.Hierarchy as tree
use Rattle.rk_tree.proofs.TreeLemmas.{IsTree}
use Rattle.rk_kernel.specs.World.{fresh, empty_input, output, error_text}
use Rattle.rk_kernel.specs.declared.description.Description as opening
use Rattle.rk_feet.specs.Named.{Name, Start, Given, Made, top}
use Rattle.rk_feet.specs.Naming.{Naming, AreNamed}
use Rattle.rk_feet.specs.Snapshots.{named_by, by_paths, StartsByPaths}
use Rattle.rk_feet.specs.World.{World, IsOpen}
use Rattle.rk_feet.proofs.PlantingLemmas.{all-planted, paths-named}
use Rattle.rk_feet.proofs.OptionLemmas.{same-some, none-some}

three : (n : ℕ) → nat_lt n 3 ≡ false → 3 ≤ n
three n h = grind arith

fewer : (n : ℕ) → nat_lt n 3 ≡ true → n < 3
fewer n h = grind arith

too-many : (n : ℕ) → 3 ≤ n → n < 3 → ⊥
too-many n h k = omega arith

abbrev given_number : Name → Option ℕ
given_number (Start path) = None
given_number (Given k) = if nat_lt k 3 then Some k else None
given_number (Made r s p m) = None

-- the empty input, the output and the error text
abbrev given : Naming
given = record { name_of = Given; number_of = given_number }

given-named : AreNamed 3 given
given-named = record { back = back; there = there }
  where
    back : (n : ℕ) → n < 3 → given_number (Given n) ≡ Some n
    back n h = go (nat_lt n 3) refl
      where
        go : (b : Bool) → nat_lt n 3 ≡ b → (if b then Some n else None) ≡ Some n
        go true e = refl
        go false e = absurd (too-many n (three n e) h)

    there : (x : Name) (n : ℕ) → given_number x ≡ Some n → (n < 3) × (Given n ≡ x)
    there (Start path) n e = absurd (none-some n e)
    there (Made r s p m) n e = absurd (none-some n e)
    there (Given k) n e = go (nat_lt k 3) refl e
      where
        go : (b : Bool) → nat_lt k 3 ≡ b → (if b then Some k else None) ≡ Some n → (n < 3) × (Given n ≡ Given k)
        go true f e = (subst (λ j. j < 3) (same-some k n e) (fewer k f), ap Given (sym (same-some k n e)))
        go false f e = absurd (none-some n e)

abbrev no_pipes : Naming
no_pipes = record { name_of = Given; number_of = λ x. None }

no-pipes-named : AreNamed 0 no_pipes
no-pipes-named = record { back = λ n h. absurd (never n h); there = λ x n e. absurd (none-some n e) }
  where
    never : (n : ℕ) → n < 0 → ⊥
    never n h = omega arith

first-open : (held : Hierarchy) (k : ℕ) (d : opening.Description) → slice_get (empty_input ∷ output ∷ error_text ∷ []) k ≡ Some d → IsOpen held [] d
first-open held zero d e = subst (IsOpen held []) (same-some empty_input d e) (record { stands = tt; plain = λ r. refl })
first-open held (suc zero) d e = subst (IsOpen held []) (same-some output d e) (record { stands = tt; plain = λ r. refl })
first-open held (suc (suc zero)) d e = subst (IsOpen held []) (same-some error_text d e) (record { stands = tt; plain = λ r. refl })
first-open held (suc (suc (suc k))) d e = absurd (none-some d e)

-- where its nodes have names, of which none is of what steps make, a tree's world is a named one
abbrev start :
    (held : Hierarchy) (inodes : List Inode) → IsTree inodes held → (nodes : Naming) → AreNamed (length inodes) nodes → nodes.name_of tree.top ≡ top
    → ((r s p m : ℕ) → nodes.number_of (Made r s p m) ≡ None) → World
start held inodes is nodes named root others = record {
  held = fresh held;
  inodes = inodes;
  tree = is;
  nodes = nodes;
  opens = given;
  pipes = no_pipes;
  used = λ r s. false;
  nodes_named = named;
  opens_named = given-named;
  pipes_named = no-pipes-named;
  top_is = root;
  are_open = first-open held;
  unused = λ r s p m e. (others r s p m, refl, refl);
}

top-named : (snapshot : Entries) → IsWhole (tree_of snapshot) → named_by (path_of (tree_of snapshot) tree.top) ≡ top
top-named snapshot whole = ap named_by (root_path (tree_of snapshot) whole)

-- the world of a whole snapshot, whose nodes are named by their paths
pub starts : StartsByPaths
starts snapshot whole =
    let all = all-planted snapshot whole in (
      start (tree_of snapshot) all.0 all.1 (by_paths (tree_of snapshot)) (paths-named snapshot whole all.0 all.1)
          (top-named snapshot (subst IsWhole all.1.is all.1.kept.0)) (λ r s p m. refl),
      record { fresh = refl; named = refl; given = given-named.back; nothing_made = λ r s. refl },
    )
