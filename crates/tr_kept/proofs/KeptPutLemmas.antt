-- What is kept, as it is put.
use Rattle.std.proofs.Common.{◌≡◌, ◌∙◌, refl, sym, ap, subst, ℕ, zero, suc, ◌+◌, ◌<◌, ◌≤◌, List, [], ◌∷◌, ◌++◌, Some, None, length, map, take, drop, get_or, slice_get, append_assoc, arith}
use Rattle.std.specs.Prelude.{replicate}
use Rattle.std.specs.List.{AllByRecursion}
use Rattle.std.proofs.lemmas.Grind.{fold-append}
use Rattle.std.proofs.lemmas.List.{append-nil, length-map, map-append, take_more, take_all, take_at, drop_at}
use Rattle.tr_nodes.specs.Nodes.{Node}
use Rattle.tr_nodes.specs.Tails.{Tail, needing, needed, head_in}
use Rattle.tr_nodes.proofs.TailLemmas.{built_none, grows, head_stays}
use Rattle.tr_parts.specs.Piece.{counted}
use Rattle.tr_record.specs.Generations.{records}
use Rattle.tr_record.specs.Rec.{AreNumbered}
use Rattle.tr_record.specs.declared.records.Record.{Record}
use Rattle.tr_record.specs.declared.steps.Step.{Step}
use Rattle.tr_codec.specs.Fits.{Fits}
use Rattle.tr_kept.specs.KeptSpelling.{magic, kept_piece}
use Rattle.tr_kept.specs.KnownPut.{AreRenumbered, StepsPut, RecordsPut}
use Rattle.tr_codec.specs.NodesPut.{Holds}
use Rattle.tr_codec.specs.Same.{same_step}
use Rattle.tr_codec.specs.Sound.{IsSound, TypedSteps, TypedEnds}
use Rattle.tr_codec.specs.Puts.{Written, Puts, spelt_body}
use Rattle.tr_codec.specs.Spelling.{talks, record_piece, body}
use Rattle.tr_codec.specs.declared.node_pieces.NodeWriter.{NodeWriter}
use Rattle.tr_kept.proofs.GenerationLemmas.{all_split}
use Rattle.tr_kept.proofs.KnownPutLemmas.{holds_built, renumbered_none, steps_typed}
use Rattle.tr_codec.proofs.NodesAgain.{IsIn, needed_in}
use Rattle.tr_codec.proofs.PutTableLemmas.{body_are}
use Rattle.tr_codec.proofs.SameLemmas.{step_decides}
use Rattle.tr_codec.proofs.SoundLemmas.{table_fits}

abbrev needs : List Record → List (Tail Step)
needs table = needed same_step (talks table)

-- ---- records that are put, one after the other

pub records_none : (w : NodeWriter) (heads : List ℕ) → Holds [] w → heads ≡ [] → RecordsPut [] heads w
records_none w heads h e = record { holds = h; heads_are = e }

needs_push : (table : List Record) (rec : Record) → needs (table ++ rec ∷ []) ≡ needing same_step (needs table) rec.steps
needs_push table rec = ap (needed same_step) (map-append (λ (r : Record). r.steps) table (rec ∷ [])) ∙ fold-append (needing same_step) [] (talks table) (rec.steps ∷ [])

heads_stay : (tails more : List (Tail Step)) (table : List Record) → AllByRecursion (IsIn tails) table → map (head_in same_step (tails ++ more)) (talks table) ≡ map (head_in same_step tails) (talks table)
heads_stay tails more [] h = refl
heads_stay tails more (rec ∷ table) h =
    ap (λ n. n ∷ map (head_in same_step (tails ++ more)) (talks table)) (head_stays same_step step_decides tails more rec.steps h.0)
    ∙ ap (λ l. head_in same_step tails rec.steps ∷ l) (heads_stay tails more table h.1)

pub records_next : (table : List Record) (rec : Record) (heads : List ℕ) (number : ℕ) (nodes : List (Node Step)) (numbers : List ℕ) (w new : NodeWriter) → RecordsPut table heads w → StepsPut (needs table) nodes rec.steps number numbers new → RecordsPut (table ++ rec ∷ []) (heads ++ number ∷ []) new
records_next table rec heads number nodes numbers w new h p =
    let tails = needs table in
    let built = holds_built tails w h.holds in
    let g = grows same_step step_decides tails built rec.steps in
    let all : needs (table ++ rec ∷ []) ≡ needing same_step tails rec.steps = needs_push table rec in
    let within = needed_in [] (built_none same_step step_decides) table tails refl in
    let longer : map (head_in same_step (needing same_step tails rec.steps)) (talks table) ≡ map (head_in same_step tails) (talks table) =
    ap (λ l. map (head_in same_step l) (talks table)) g.adds ∙ heads_stay tails g.more table within
    in
    record {
      holds = subst (λ (l : List (Tail Step)). Holds l new) (sym all) p.holds;
      heads_are =
          ap (λ l. l ++ number ∷ []) (h.heads_are ∙ sym longer)
          ∙ ap (λ (n : ℕ). map (head_in same_step (needing same_step tails rec.steps)) (talks table) ++ n ∷ []) p.is
          ∙ sym (map-append (head_in same_step (needing same_step tails rec.steps)) (talks table) (rec.steps ∷ []))
          ∙ ap (map (head_in same_step (needing same_step tails rec.steps))) (sym (map-append (λ (r : Record). r.steps) table (rec ∷ [])))
          ∙ ap (λ l. map (head_in same_step l) (talks (table ++ rec ∷ []))) (sym all);
    }

-- as far as the records of a table have come behind others, where these are the nodes of its pool, and this is what is noted of them
pub record PutSoFar (before table : List Record) (i : ℕ) (heads : List ℕ) (nodes : List (Node Step)) (numbers : List ℕ) (w : NodeWriter) : Type 0 where
  pub put : RecordsPut (before ++ take i table) heads w
  pub renumbered : AreRenumbered (needs (before ++ take i table)) nodes numbers

pub so_far_none : (before table : List Record) (heads : List ℕ) (nodes : List (Node Step)) (numbers : List ℕ) (w : NodeWriter) (n : ℕ) → numbers ≡ replicate n 0 → RecordsPut before heads w → PutSoFar before table 0 heads nodes numbers w
so_far_none before table heads nodes numbers w n e h =
    let none : before ++ take 0 table ≡ before = append-nil before in
    record {
      put = subst (λ (l : List Record). RecordsPut l heads w) (sym none) h;
      renumbered = renumbered_none (needs (before ++ take 0 table)) nodes numbers n e;
    }

pub so_far_next : (before table : List Record) (i : ℕ) (d rec : Record) (heads : List ℕ) (number : ℕ) (nodes : List (Node Step)) (numbers now : List ℕ) (w new : NodeWriter) → i < length table → rec ≡ get_or table i d → PutSoFar before table i heads nodes numbers w
    → ((tails : List (Tail Step)) → Holds tails w → AreRenumbered tails nodes numbers → StepsPut tails nodes rec.steps number now new) → PutSoFar before table (i + 1) (heads ++ number ∷ []) nodes now new
so_far_next before table i d rec heads number nodes numbers now w new lt e h put =
    let front = before ++ take i table in
    let p = put (needs front) (let r = h.put in r.holds) h.renumbered in
    let all : front ++ rec ∷ [] ≡ before ++ take (i + 1) table =
    append_assoc before (take i table) (rec ∷ []) ∙ ap (λ (r : Record). before ++ (take i table ++ r ∷ [])) e ∙ ap (λ l. before ++ l) (sym (take_more table i d lt))
    in
    record {
      put = subst (λ (l : List Record). RecordsPut l (heads ++ number ∷ []) new) all (records_next front rec heads number nodes now w new h.put p);
      renumbered =
          subst (λ (l : List Record). AreRenumbered (needs l) nodes now) all (subst (λ (l : List (Tail Step)). AreRenumbered l nodes now) (sym (needs_push front rec)) p.renumbered);
    }

pub so_far_all : (before table : List Record) (i : ℕ) (heads : List ℕ) (nodes : List (Node Step)) (numbers : List ℕ) (w : NodeWriter) → length table ≤ i → PutSoFar before table i heads nodes numbers w → RecordsPut (before ++ table) heads w
so_far_all before table i heads nodes numbers w le h = subst (λ (l : List Record). RecordsPut (before ++ l) heads w) (take_all i table le) h.put

-- ---- tables, one after the other

pub records_take : (kept : List (List Record)) (k : ℕ) (table : List Record) → slice_get kept k ≡ Some table → records (take (k + 1) kept) ≡ records (take k kept) ++ table
records_take [] k table at = absurd (let e : None ≡ Some table = at in cc)
records_take (x ∷ kept) zero table at = let e : x ≡ table = cc in append-nil x ∙ e
records_take (x ∷ kept) (suc k) table at =
    let more : suc k + 1 ≡ suc (k + 1) = omega arith in
    ap (λ n. records (take n (x ∷ kept))) more ∙ ap (λ l. x ++ l) (records_take kept k table at) ∙ sym (append_assoc x (records (take k kept)) table)

pub records_drop : (kept : List (List Record)) (k : ℕ) (table : List Record) → slice_get kept k ≡ Some table → records (drop k kept) ≡ table ++ records (drop (k + 1) kept)
records_drop [] k table at = absurd (let e : None ≡ Some table = at in cc)
records_drop (x ∷ kept) zero table at = let e : x ≡ table = cc in ap (λ l. l ++ records kept) e
records_drop (x ∷ kept) (suc k) table at =
    let more : suc k + 1 ≡ suc (k + 1) = omega arith in
    records_drop kept k table at ∙ ap (λ n. table ++ records (drop n (x ∷ kept))) (sym more)

-- the numbers of a table's records, and those of the others
pub heads_split : (tails : List (Tail Step)) (table rest : List Record) (heads : List ℕ) (n : ℕ) → n ≡ length table → heads ≡ map (head_in same_step tails) (talks (table ++ rest))
    → (take n heads ≡ map (head_in same_step tails) (talks table)) × (drop n heads ≡ map (head_in same_step tails) (talks rest))
heads_split tails table rest heads n many e =
    let mine = map (head_in same_step tails) (talks table) in
    let others = map (head_in same_step tails) (talks rest) in
    let long : length mine ≡ n = length-map (talks table) (head_in same_step tails) ∙ length-map table (λ (r : Record). r.steps) ∙ sym many in
    let all : heads ≡ mine ++ others = e ∙ ap (map (head_in same_step tails)) (map-append (λ (r : Record). r.steps) table rest) ∙ map-append (head_in same_step tails) (talks table) (talks rest) in
    (ap (take n) all ∙ take_at mine others n long, ap (drop n) all ∙ drop_at mine others n long)

-- ---- what fits

steps_all : (tails : List (Tail Step)) (w : NodeWriter) (table : List Record) → Holds tails w → AllByRecursion (IsIn tails) table → AllByRecursion TypedSteps table
steps_all tails w [] h within = tt
steps_all tails w (rec ∷ table) h within = (steps_typed tails w rec.steps h within.0, steps_all tails w table h within.1)

abbrev FitsSound : List Record → Type 0
FitsSound table = AllByRecursion IsSound table → Fits table

tables_fit : (tails : List (Tail Step)) (w : NodeWriter) (kept : List (List Record)) → Holds tails w → AllByRecursion (IsIn tails) (records kept) → AllByRecursion (AllByRecursion TypedEnds) kept → AllByRecursion AreNumbered kept → AllByRecursion FitsSound kept
tables_fit tails w [] h within ends numbered = tt
tables_fit tails w (table ∷ kept) h within ends numbered =
    let parts = all_split (IsIn tails) table (records kept) within in
    (λ sound. table_fits table (steps_all tails w table h parts.0) ends.0 numbered.0 sound, tables_fit tails w kept h parts.1 ends.1 numbered.1)

pub kept_fits : (w : NodeWriter) (kept : List (List Record)) → Holds (needs (records kept)) w → AllByRecursion (AllByRecursion TypedEnds) kept → AllByRecursion AreNumbered kept → AllByRecursion (λ table. AllByRecursion IsSound table → Fits table) kept
kept_fits w kept h ends numbered =
    let within = needed_in [] (built_none same_step step_decides) (records kept) (needs (records kept)) refl in
    tables_fit (needs (records kept)) w kept h within ends numbered

-- ---- what nodes and records that were put come to

pub kept_put : (w : NodeWriter) (new : Written) (kept : List (List Record)) → Holds (needed same_step (talks (records kept))) w → Puts (counted (counted (record_piece (needed same_step (talks (records kept))))) kept) w.writer new → spelt_body magic new w.nodes.keys ≡ body magic (kept_piece kept)
kept_put w new kept h p = let tails = needed same_step (talks (records kept)) in body_are tails w h magic new (counted (counted (record_piece tails)) kept) p
