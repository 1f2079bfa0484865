-- The names in a directory are told by its entries.
use Rattle.std.proofs.Common.{◌≡◌, ◌⊎◌, inl, inr, ℕ, List, [], ◌∷◌, map, Bool, true, false, cond, ◌&&◌, Option, Some, None, refl, sym, ◌∙◌, ap, ap₂, subst}
use lib.Dec.{T}
use Rattle.std.specs.Prelude.{slice_get}
use Rattle.std.specs.Ordering.{eq_by_cmp, is_lt}
use Rattle.std.specs.Cmp.Lexicographic.{nat_list_cmp_total}
use Rattle.std.specs.FinMap.{empty, entries, entries_sorted, find, get, get-empty, get-entries, is_sorted, keys}
use Rattle.std.specs.FinMap.Entries.{below_all, same_entries}
use Rattle.rk_base.specs.Text.{Text, text_cmp}
use Rattle.rk_tree.specs.Hierarchy.{Paths}
use Rattle.rk_tree.specs.Inodes.{under, names_in}
use Rattle.rk_tree.proofs.NamesLemmas.{no_entries}
use Rattle.rk_tree.proofs.TextLemmas.{exact_texts}
use Rattle.rk_waves.specs.Programs.{One, All}
use Rattle.rk_feet.specs.Named.{Name, Plain, EntryOf, Names, node, names}
use Rattle.rk_feet.specs.World.{World, at, group_of, entry_named, entry_in, names_under}

abbrev bit : {X : Type 0} → Option X → Option (Unit {0})
bit None = None
bit (Some x) = Some tt

abbrev bare : Text × ℕ → Text × Unit {0}
bare row = (row.0, tt)

abbrev alone : Text → Text × Unit {0}
alone key = (key, tt)

below-bare : (x : Text) (rows : List (Text × ℕ)) → below_all text_cmp x (map bare rows) ≡ below_all text_cmp x rows
below-bare x [] = refl
below-bare x (row ∷ rows) = ap (λ b. is_lt (text_cmp x row.0) && b) (below-bare x rows)

sorted-bare : (rows : List (Text × ℕ)) → is_sorted text_cmp (map bare rows) ≡ is_sorted text_cmp rows
sorted-bare [] = refl
sorted-bare (row ∷ rows) = ap₂ ◌&&◌ (below-bare row.0 rows) (sorted-bare rows)

find-bare : (q : Text) (rows : List (Text × ℕ)) → find text_cmp q (map bare rows) ≡ bit (find text_cmp q rows)
find-bare q [] = refl
find-bare q (row ∷ rows) = go (eq_by_cmp text_cmp q row.0) (find-bare q rows)
  where
    go : (b : Bool) → find text_cmp q (map bare rows) ≡ bit (find text_cmp q rows)
        → cond b (Some tt) (find text_cmp q (map bare rows)) ≡ bit (cond b (Some row.1) (find text_cmp q rows))
    go true h = refl
    go false h = h

bare-keys : (rows : List (Text × ℕ)) → map alone (map (λ (row : Text × ℕ). row.0) rows) ≡ map bare rows
bare-keys [] = refl
bare-keys (row ∷ rows) = ap (λ l. bare row ∷ l) (bare-keys rows)

keys-bare : (rows : List (Text × ℕ)) → map (λ (row : Text × ℕ). row.0) rows ≡ map (λ (row : Text × Unit {0}). row.0) (map bare rows)
keys-bare [] = refl
keys-bare (row ∷ rows) = ap (λ l. row.0 ∷ l) (keys-bare rows)

get-bare : (m : Paths) (q : Text) → bit (get m q) ≡ find text_cmp q (map bare (entries m))
get-bare m q = ap bit (get-entries m q) ∙ sym (find-bare q (entries m))

keys-same : (m n : Paths) → ((q : Text) → bit (get m q) ≡ bit (get n q)) → keys m ≡ keys n
keys-same m n h =
    let rows : map bare (entries m) ≡ map bare (entries n) =
    same_entries text_cmp nat_list_cmp_total exact_texts (map bare (entries m)) (map bare (entries n))
    (subst T (sym (sorted-bare (entries m))) (entries_sorted m)) (subst T (sym (sorted-bare (entries n))) (entries_sorted n))
    (λ q. sym (get-bare m q) ∙ h q ∙ get-bare n q) in
    keys-bare (entries m) ∙ ap (map (λ (row : Text × Unit {0}). row.0)) rows ∙ sym (keys-bare (entries n))

keys-told : (m n : Paths) → keys m ≡ keys n → (q : Text) → bit (get m q) ≡ bit (get n q)
keys-told m n e q =
    get-bare m q ∙ ap (find text_cmp q) (sym (bare-keys (entries m))) ∙ ap (λ l. find text_cmp q (map alone l)) e
    ∙ ap (find text_cmp q) (bare-keys (entries n)) ∙ sym (get-bare n q)

-- in a world

abbrev map_under : World → Option ℕ → Paths
map_under w None = empty
map_under w (Some d) = names_in (slice_get w.inodes d)

names-keys : (w : World) (o : Option ℕ) → names_under w o ≡ keys (map_under w o)
names-keys w None = sym (ap (map (λ (row : Text × ℕ). row.0)) no_entries)
names-keys w (Some d) = refl

bit-named : (w : World) (o : Option ℕ) → bit (entry_named w o) ≡ bit o
bit-named w None = refl
bit-named w (Some n) = refl

bit-entry : (w : World) (q : Text) (o : Option ℕ) → bit (entry_in w q o) ≡ bit (get (map_under w o) q)
bit-entry w q None = ap bit (sym (get-empty text_cmp q))
bit-entry w q (Some d) = bit-named w (under w.inodes d q)

pub groups :
    (d : Name) (w v w' v' : World) → at w (All d) ≡ at v (All d)
    → ((p : Plain) → group_of p ≡ Some d → (at w' (One p) ≡ at w (One p)) × (at v' (One p) ≡ at v (One p)) ⊎ at w' (One p) ≡ at v' (One p))
    → at w' (All d) ≡ at v' (All d)
groups d w v w' v' e h =
    ap Names
    (names-keys w' (w'.nodes.number_of d)
    ∙ keys-same (map_under w' (w'.nodes.number_of d)) (map_under v' (v'.nodes.number_of d))
    (λ q. sym (bit-entry w' q (w'.nodes.number_of d)) ∙ go q (h (EntryOf d q) refl) ∙ bit-entry v' q (v'.nodes.number_of d))
    ∙ sym (names-keys v' (v'.nodes.number_of d)))
  where
    go : (q : Text) → (at w' (One (EntryOf d q)) ≡ at w (One (EntryOf d q)))
        × (at v' (One (EntryOf d q)) ≡ at v (One (EntryOf d q))) ⊎ at w' (One (EntryOf d q)) ≡ at v' (One (EntryOf d q))
        → bit (entry_in w' q (w'.nodes.number_of d)) ≡ bit (entry_in v' q (v'.nodes.number_of d))
    go q (inl k) =
        ap (λ x. bit (node x)) k.0 ∙ bit-entry w q (w.nodes.number_of d)
        ∙ keys-told (map_under w (w.nodes.number_of d)) (map_under v (v.nodes.number_of d))
        (sym (names-keys w (w.nodes.number_of d)) ∙ ap names e ∙ names-keys v (v.nodes.number_of d)) q
        ∙ sym (bit-entry v q (v.nodes.number_of d)) ∙ sym (ap (λ x. bit (node x)) k.1)
    go q (inr k) = ap (λ x. bit (node x)) k
