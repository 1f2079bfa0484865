-- Tables that are read, with the numbers of their records' steps.
use Rattle.std.proofs.Common.{◌≡◌, ◌∙◌, refl, sym, ap, subst, ℕ, zero, suc, ◌<◌, ◌≤◌, Bool, true, false, List, [], ◌∷◌, ◌++◌, Option, Some, None, length, map, take, get_or, slice_get, append_assoc, arith}
use Rattle.std.specs.Prelude.{◌↔◌, IsTrue}
use Rattle.std.specs.List.{flat_map}
use Rattle.std.proofs.Math.Seq.{get_or-append_seam}
use Rattle.std.proofs.lemmas.Grind.{flat_map-append, fold-append}
use Rattle.std.proofs.lemmas.List.{append-nil, length-append, map-append, take_at}
use Rattle.rk_base.specs.Text.{Text}
use Rattle.rk_calls.specs.Keys.{KeyValue}
use Rattle.tr_nodes.specs.Nodes.{Node}
use Rattle.tr_nodes.specs.Tails.{AreNodes, head_in, tails_of}
use Rattle.tr_nodes.proofs.GetLemmas.{get_map, get_read}
use Rattle.tr_nodes.proofs.ReadLemmas.{tails_long, tails_built}
use Rattle.tr_nodes.proofs.TailLemmas.{head_steps}
use Rattle.tr_record.specs.Generations.{records}
use Rattle.tr_record.specs.Pool.{steps_under}
use Rattle.tr_record.specs.Rec.{count_of, fresh_rec, no_key, rec_at, AreNumbered}
use Rattle.tr_record.specs.declared.records.Record.{Record}
use Rattle.tr_record.specs.declared.steps.Step.{Step}
use Rattle.tr_kept.specs.Generations.{ends_of, AreAllHeads}
use Rattle.tr_codec.specs.Rows.{AreHeads}
use Rattle.tr_codec.specs.Same.{same_step}
use Rattle.tr_codec.specs.Spelling.{talks}
use Rattle.tr_codec.specs.Used.{key_used, keys_used}
use Rattle.tr_codec.proofs.RecordLemmas.{heads_none}
use Rattle.tr_codec.proofs.SameLemmas.{step_decides}

-- ---- two tables, told by the numbers of their steps

heads_back : (nodes : List (Node Step)) (heads : List ℕ) → AreNodes nodes → ((i head : ℕ) → slice_get heads i ≡ Some head → head ≤ length nodes) → heads ≡ map (head_in same_step (tails_of nodes)) (map (steps_under nodes) heads)
heads_back nodes [] are within = refl
heads_back nodes (head ∷ heads) are within =
    let built = tails_built same_step step_decides nodes are in
    let long = tails_long nodes in
    let low = within 0 head refl in
    let is : head_in same_step (tails_of nodes) (steps_under nodes head) ≡ head = head_steps same_step step_decides (tails_of nodes) head built.apart (omega arith) in
    ap (λ n. n ∷ heads) (sym is) ∙ ap (λ l. head_in same_step (tails_of nodes) (steps_under nodes head) ∷ l) (heads_back nodes heads are (λ i h at. within (suc i) h at))

-- the ordinal that a record behind these has
ordinal_is : (front table : List Record) (rec : Record) → AreNumbered (front ++ rec ∷ table) → rec.ordinal ≡ count_of rec.key front
ordinal_is front table rec numbered =
    let all : List Record = front ++ rec ∷ table in
    let at : rec_at (length front) all ≡ rec = get_or-append_seam front rec table (fresh_rec no_key 0) in
    let before : take (length front) all ≡ front = take_at front (rec ∷ table) (length front) refl in
    let inside : length front < length all = omega (arith, length-append front (rec ∷ table)) in
    sym (ap (λ (r : Record). r.ordinal) at) ∙ numbered (length front) inside ∙ ap (λ (r : Record). count_of r.key (take (length front) all)) at ∙ ap (count_of rec.key) before

joined : (a b : Record) → ends_of a ≡ ends_of b → a.ordinal ≡ b.ordinal → a.steps ≡ b.steps → a ≡ b
joined a b ends ordinal steps =
    ap (λ (k : KeyValue). record a { key = k }) (ap (λ (e : KeyValue × ℕ × ℕ). e.0) ends)
    ∙ ap (λ n. let r : Record = record { key = b.key; ordinal = n; steps = a.steps; exit = a.exit; exit_cost = a.exit_cost } in r) ordinal
    ∙ ap (λ (s : List Step). let r : Record = record { key = b.key; ordinal = b.ordinal; steps = s; exit = a.exit; exit_cost = a.exit_cost } in r) steps
    ∙ ap (λ n. let r : Record = record { key = b.key; ordinal = b.ordinal; steps = b.steps; exit = n; exit_cost = a.exit_cost } in r) (ap (λ (e : KeyValue × ℕ × ℕ). e.1) ends)
    ∙ ap (λ n. let r : Record = record { key = b.key; ordinal = b.ordinal; steps = b.steps; exit = b.exit; exit_cost = n } in r) (ap (λ (e : KeyValue × ℕ × ℕ). e.2) ends)

first_same : {X : Type 0} (x y : X) (xs ys : List X) → x ∷ xs ≡ y ∷ ys → (x ≡ y) × (xs ≡ ys)
first_same x y xs ys e = (cc, cc)

same_from : (front a b : List Record) → map ends_of a ≡ map ends_of b → talks a ≡ talks b → AreNumbered (front ++ a) → AreNumbered (front ++ b) → a ≡ b
same_from front [] [] ends steps na nb = refl
same_from front [] (rec ∷ b) ends steps na nb = absurd cc
same_from front (rec ∷ a) [] ends steps na nb = absurd cc
same_from front (rec ∷ a) (other ∷ b) ends steps na nb =
    let e = first_same (ends_of rec) (ends_of other) (map ends_of a) (map ends_of b) ends in
    let s = first_same rec.steps other.steps (talks a) (talks b) steps in
    let key : rec.key ≡ other.key = ap (λ (x : KeyValue × ℕ × ℕ). x.0) e.0 in
    let ordinal : rec.ordinal ≡ other.ordinal = ordinal_is front a rec na ∙ ap (λ k. count_of k front) key ∙ sym (ordinal_is front b other nb) in
    let same : rec ≡ other = joined rec other e.0 ordinal s.0 in
    let mine : AreNumbered ((front ++ rec ∷ []) ++ a) = subst AreNumbered (sym (append_assoc front (rec ∷ []) a)) na in
    let others : AreNumbered ((front ++ rec ∷ []) ++ b) = subst AreNumbered (sym (append_assoc front (rec ∷ []) b)) (subst (λ (r : Record). AreNumbered (front ++ r ∷ b)) (sym same) nb) in
    ap (λ (r : Record). r ∷ a) same ∙ ap (λ l. other ∷ l) (same_from (front ++ rec ∷ []) a b e.1 s.1 mine others)

pub ends_at : (a b : List Record) (i : ℕ) (x y : Record) → i < length a → i < length b → x ≡ get_or a i x → y ≡ get_or b i y → map ends_of a ≡ map ends_of b → ends_of x ≡ ends_of y
ends_at a b i x y lt less is so e =
    let one = get_map ends_of a i x (get_read a i x x lt is) in
    let other = get_map ends_of b i y (get_read b i y y less so) in
    let same : Some (ends_of x) ≡ Some (ends_of y) = sym one ∙ ap (λ l. slice_get l i) e ∙ other in
    cc

pub all_ends : (a b : List Record) → length a ≡ length b → ((k : ℕ) (d : Record) → k < length a → ends_of (get_or a k d) ≡ ends_of (get_or b k d)) → map ends_of a ≡ map ends_of b
all_ends [] [] n h = refl
all_ends [] (rec ∷ b) n h = absurd (omega arith)
all_ends (rec ∷ a) [] n h = absurd (omega arith)
all_ends (rec ∷ a) (other ∷ b) n h =
    ap (λ e. e ∷ map ends_of a) (h 0 rec (omega arith)) ∙ ap (λ l. ends_of other ∷ l) (all_ends a b (omega arith) (λ k d lt. h (suc k) d (omega arith)))

module _ (nodes : List (Node Step)) (are : AreNodes nodes) where
  pub same_tables : (hs ks : List ℕ) (a b : List Record) → AreHeads nodes hs a → AreHeads nodes ks b → AreNumbered a → AreNumbered b → hs ≡ ks → map ends_of a ≡ map ends_of b → a ≡ b
  same_tables hs ks a b h k na nb same ends = same_from [] a b ends (h.talks ∙ ap (map (steps_under nodes)) same ∙ sym k.talks) na nb

  pub same_heads : (hs ks : List ℕ) (a b : List Record) → AreHeads nodes hs a → AreHeads nodes ks b → a ≡ b → hs ≡ ks
  same_heads hs ks a b h k same =
      heads_back nodes hs are h.within
      ∙ ap (map (head_in same_step (tails_of nodes))) (sym h.talks ∙ ap talks same ∙ k.talks)
      ∙ sym (heads_back nodes ks are k.within)

-- and as it is told
pub told_same : (nodes : List (Node Step)) → AreNodes nodes → (hs ks : List ℕ) (a b : List Record) → AreHeads nodes hs a → AreHeads nodes ks b → AreNumbered a → AreNumbered b → hs ≡ ks → (r : Bool) → IsTrue r ↔ (map ends_of a ≡ map ends_of b) → IsTrue r ↔ (a ≡ b)
told_same nodes are hs ks a b h k na nb same r told = (λ t. same_tables nodes are hs ks a b h k na nb same (told.0 t), λ e. told.1 (ap (map ends_of) e))

pub told_other : (nodes : List (Node Step)) → AreNodes nodes → (hs ks : List ℕ) (a b : List Record) → AreHeads nodes hs a → AreHeads nodes ks b → (hs ≡ ks → ⊥) → IsTrue false ↔ (a ≡ b)
told_other nodes are hs ks a b h k other = (λ t. absurd (let f : false ≡ true = t in cc), λ e. absurd (other (same_heads nodes are hs ks a b h k e)))

-- ---- the numbers of all

pub all_heads_long : (nodes : List (Node Step)) (hs : List (List ℕ)) (kept : List (List Record)) → AreAllHeads nodes hs kept → length hs ≡ length kept
all_heads_long nodes [] [] h = refl
all_heads_long nodes [] (table ∷ kept) h = absurd h
all_heads_long nodes (heads ∷ hs) [] h = absurd h
all_heads_long nodes (heads ∷ hs) (table ∷ kept) h = ap suc (all_heads_long nodes hs kept h.1)

pub all_heads_at : (nodes : List (Node Step)) (hs : List (List ℕ)) (kept : List (List Record)) (k : ℕ) (heads : List ℕ) (table : List Record) → AreAllHeads nodes hs kept → slice_get hs k ≡ Some heads → slice_get kept k ≡ Some table → AreHeads nodes heads table
all_heads_at nodes [] kept k heads table h at bt = absurd (let e : None ≡ Some heads = at in cc)
all_heads_at nodes (first ∷ hs) [] k heads table h at bt = absurd h
all_heads_at nodes (first ∷ hs) (other ∷ kept) zero heads table h at bt =
    let e : first ≡ heads = cc in
    let f : other ≡ table = cc in
    subst (λ (l : List ℕ). AreHeads nodes l table) e (subst (λ (t : List Record). AreHeads nodes first t) f h.0)
all_heads_at nodes (first ∷ hs) (other ∷ kept) (suc k) heads table h at bt = all_heads_at nodes hs kept k heads table h.1 at bt

pub all_heads_push : (nodes : List (Node Step)) (hs : List (List ℕ)) (kept : List (List Record)) (heads : List ℕ) (table : List Record) → AreAllHeads nodes hs kept → AreHeads nodes heads table → AreAllHeads nodes (hs ++ heads ∷ []) (kept ++ table ∷ [])
all_heads_push nodes [] [] heads table h p = (p, tt)
all_heads_push nodes [] (other ∷ kept) heads table h p = absurd h
all_heads_push nodes (more ∷ hs) [] heads table h p = absurd h
all_heads_push nodes (more ∷ hs) (other ∷ kept) heads table h p = (h.0, all_heads_push nodes hs kept heads table h.1 p)

within_join : (limit : ℕ) (hs ks : List ℕ) → ((i head : ℕ) → slice_get hs i ≡ Some head → head ≤ limit) → ((i head : ℕ) → slice_get ks i ≡ Some head → head ≤ limit) → (i head : ℕ) → slice_get (hs ++ ks) i ≡ Some head → head ≤ limit
within_join limit [] ks h k i head at = k i head at
within_join limit (x ∷ hs) ks h k zero head at = h zero head at
within_join limit (x ∷ hs) ks h k (suc i) head at = within_join limit hs ks (λ j other bt. h (suc j) other bt) k i head at

pub all_heads_flat : (nodes : List (Node Step)) (hs : List (List ℕ)) (kept : List (List Record)) → AreAllHeads nodes hs kept → AreHeads nodes (flat_map (λ (heads : List ℕ). heads) hs) (records kept)
all_heads_flat nodes [] [] h = heads_none nodes
all_heads_flat nodes [] (table ∷ kept) h = absurd h
all_heads_flat nodes (heads ∷ hs) [] h = absurd h
all_heads_flat nodes (heads ∷ hs) (table ∷ kept) h =
    let first = h.0 in
    let rest = all_heads_flat nodes hs kept h.1 in
    let more = flat_map (λ (heads : List ℕ). heads) hs in
    record {
      talks =
          map-append (λ (r : Record). r.steps) table (records kept)
          ∙ ap (λ l. l ++ talks (records kept)) first.talks
          ∙ ap (λ l. map (steps_under nodes) heads ++ l) rest.talks
          ∙ sym (map-append (steps_under nodes) heads more);
      within = within_join (length nodes) heads more first.within rest.within;
    }

-- ---- one more

pub flat_push : (hs : List (List ℕ)) (heads : List ℕ) → flat_map (λ (l : List ℕ). l) (hs ++ heads ∷ []) ≡ flat_map (λ (l : List ℕ). l) hs ++ heads
flat_push hs heads = flat_map-append (λ (l : List ℕ). l) hs (heads ∷ []) ∙ ap (λ l. flat_map (λ (l : List ℕ). l) hs ++ l) (append-nil heads)

pub records_push : (kept : List (List Record)) (table : List Record) → records (kept ++ table ∷ []) ≡ records kept ++ table
records_push [] table = append-nil table
records_push (other ∷ kept) table = ap (λ l. other ++ l) (records_push kept table) ∙ sym (append_assoc other (records kept) table)

pub keys_push : (blobs : List Text) (first before now : Option ℕ) (kept : List (List Record)) (table : List Record) → before ≡ keys_used blobs first (records kept) → now ≡ keys_used blobs before table → now ≡ keys_used blobs first (records (kept ++ table ∷ []))
keys_push blobs first before now kept table is then =
    then ∙ ap (λ u. keys_used blobs u table) is
    ∙ sym (fold-append (λ used (rec : Record). key_used blobs used rec.key) first (records kept) table)
    ∙ ap (keys_used blobs first) (sym (records_push kept table))
