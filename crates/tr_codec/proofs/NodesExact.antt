-- Nodes and records that are read have a spelling, and stand there as they are spelt.
use Rattle.std.proofs.Common.{◌≡◌, ℕ, zero, suc, ◌^◌, ◌<◌, ◌≤◌, not, ◌&&◌, nat_lt, nat_le, List, [], ◌∷◌, ◌++◌, length, Some, None, slice_get, refl, sym, ap, subst, ◌∙◌, append_assoc, arith}
use Rattle.std.specs.Int.{w64}
use Rattle.std.specs.List.{flat_map, AllByRecursion, IsDistinct}
use Rattle.std.proofs.lemmas.Bool.{ltb-true, leb-true, not-true}
use Rattle.std.proofs.lemmas.List.{append-nil}
use Rattle.rk_base.specs.Text.{Text, same_text}
use Rattle.tr_nodes.specs.Tails.{Tail, has, head_in, steps_at}
use Rattle.tr_nodes.proofs.TailLemmas.{IsBuilt, built_none, built_more, head_steps, head_stays, at_head}
use Rattle.tr_record.specs.declared.steps.Step.{Step}
use Rattle.tr_record.specs.declared.records.Record.{Record}
use Rattle.tr_record.proofs.PlacesLemmas.{numbered_push}
use Rattle.tr_parts.specs.Piece.{◌⊕◌, each, byte, number, counted}
use Rattle.tr_codec.specs.Pieces.{key_piece, call_piece, answer_piece}
use Rattle.tr_codec.specs.Same.{same_step}
use Rattle.tr_codec.specs.Spelling.{step_piece, node_piece, record_piece}
use Rattle.tr_codec.specs.Fits.{FitsStep, FitsRecord, Fits, paid}
use Rattle.tr_codec.specs.Reading.{number_at, byte_at, count_at, many_at, counted_at, key_at, call_at, answer_at, Row, next_rec, step_at, tail_of, tail_paid, is_new, node_at, row_at, record_at}
use Rattle.tr_codec.proofs.SameLemmas.{step_decides}
use Rattle.tr_codec.proofs.TableAgain.{covers-join}
use Rattle.tr_codec.proofs.ExactLemmas.{AreBytes, bind_inv, given_inv, if_inv, some_is, both, all_push, Took, took_then, took_number, took_byte, took_key, took_call, took_answer, took_counted}

abbrev pub Built : List (Tail Step) → Type 0
Built = IsBuilt same_step step_decides

-- its step has a spelling, and its steps together cost less than 2^64
pub record FitsTail (tail : Tail Step) : Type 0 where
  pub step : FitsStep tail.first
  pub paid : tail_paid tail < 2 ^ 64

module _ (blobs : List Text) (once : IsDistinct same_text blobs) where
  pub took_step : (bytes : List ℕ) (p : Step × List ℕ) → AreBytes bytes → step_at blobs bytes ≡ Some p → FitsStep p.0 × Took blobs (step_piece p.0) bytes p.1
  unfolding step_at
  took_step bytes p small h =
      let a = bind_inv (number_at w64 bytes) _ p h in
      let b = bind_inv (call_at blobs a.0.1) _ p a.2 in
      let c = bind_inv (answer_at blobs b.0.1) _ p b.2 in
      let n = took_number blobs bytes a.0 small a.1 in
      let asked = took_call blobs once a.0.1 b.0 n.1.left b.1 in
      let told = took_answer blobs once b.0.1 c.0 asked.1.left c.1 in
      let step : Step = record { cost = a.0.0; call = b.0.0; answer = c.0.0 } in
      subst (λ (q : Step × List ℕ). FitsStep q.0 × Took blobs (step_piece q.0) bytes q.1) (some_is (step, c.0.1) p c.2) (
        record { cost = n.0; call = asked.0; answer = told.0 },
        took_then blobs (number a.0.0) (call_piece b.0.0 ⊕ answer_piece c.0.0) bytes a.0.1 c.0.1 n.1 (took_then blobs (call_piece b.0.0) (answer_piece c.0.0) a.0.1 b.0.1 c.0.1 asked.1 told.1),
      )

  -- ---- nodes

  record NodeRead (front : List (Tail Step)) (bytes : List ℕ) (p : Tail Step × List ℕ) : Type 0 where
    fits : FitsTail p.0
    built : Built (front ++ p.0 ∷ [])
    within : head_in same_step front p.0.rest ≤ length front
    stands : Took blobs (node_piece front p.0) bytes p.1

  took_node : (front : List (Tail Step)) (bytes : List ℕ) (p : Tail Step × List ℕ) → Built front → AreBytes bytes → node_at blobs front bytes ≡ Some p → NodeRead front bytes p
  unfolding node_at
  took_node front bytes p built small h =
      let a = bind_inv (number_at w64 bytes) _ p h in
      let b = bind_inv (step_at blobs a.0.1) _ p a.2 in
      let next = a.0.0 in
      let tail = tail_of front next b.0.0 in
      let g = given_inv (is_new front next tail) (tail, b.0.1) p b.2 in
      let tests = both (nat_le next (length front)) (not (has same_step front tail) && nat_lt (tail_paid tail) (2 ^ 64)) g.0 in
      let later = both (not (has same_step front tail)) (nat_lt (tail_paid tail) (2 ^ 64)) tests.1 in
      let le = leb-true next (length front) tests.0 in
      let is : head_in same_step front tail.rest ≡ next = head_steps same_step step_decides front next built.apart le in
      let n = took_number blobs bytes a.0 small a.1 in
      let step = took_step a.0.1 b.0 n.1.left b.1 in
      let low : head_in same_step front tail.rest ≤ length front = omega arith in
      subst (NodeRead front bytes) g.1 (record {
        fits = record { step = step.0; paid = ltb-true (tail_paid tail) (2 ^ 64) later.1 };
        built = built_more same_step step_decides front tail built (not-true (has same_step front tail) later.0) low;
        within = low;
        stands = took_then blobs (number (head_in same_step front tail.rest)) (step_piece b.0.0) bytes a.0.1 b.0.1 (subst (λ k. Took blobs (number k) bytes a.0.1) (sym is) n.1) step.1;
      })

  record NodesRead (front : List (Tail Step)) (bytes : List ℕ) (p : List (Tail Step) × List ℕ) (count : ℕ) : Type 0 where
    more : List (Tail Step)
    adds : p.0 ≡ front ++ more
    many : length more ≡ count
    built : Built p.0
    fits : AllByRecursion FitsTail p.0
    stands : Took blobs (each (node_piece p.0) more) bytes p.1

  took_many_nodes : (count : ℕ) (front : List (Tail Step)) (bytes : List ℕ) (p : List (Tail Step) × List ℕ) → Built front → AllByRecursion FitsTail front → AreBytes bytes → many_at (node_at blobs) count front bytes ≡ Some p → NodesRead front bytes p count
  unfolding many_at each
  took_many_nodes zero front bytes p built fits small h =
      subst (λ (q : List (Tail Step) × List ℕ). NodesRead front bytes q 0) (some_is (front, bytes) p h) (record { more = []; adds = sym (append-nil front); many = refl; built = built; fits = fits; stands = record { spelt = refl; covers = tt; left = small } })
  took_many_nodes (suc count) front bytes p built fits small h =
      let a = bind_inv (node_at blobs front bytes) _ p h in
      let x = a.0.0 in
      let one = took_node front bytes a.0 built small a.1 in
      let rest = took_many_nodes count (front ++ x ∷ []) a.0.1 p one.built (all_push blobs FitsTail front x fits one.fits) one.stands.left a.2 in
      let adds : p.0 ≡ front ++ (x ∷ rest.more) = rest.adds ∙ append_assoc front (x ∷ []) rest.more in
      let stays : head_in same_step p.0 x.rest ≡ head_in same_step front x.rest = ap (λ l. head_in same_step l x.rest) adds ∙ head_stays same_step step_decides front (x ∷ rest.more) x.rest one.within in
      let here : Took blobs (node_piece p.0 x) bytes a.0.1 = subst (λ k. Took blobs (number k ⊕ step_piece x.first) bytes a.0.1) (sym stays) one.stands in
      let all : bytes ≡ flat_map (λ y. (node_piece p.0 y).spelt blobs) (x ∷ rest.more) ++ p.1 =
      here.spelt ∙ ap (λ l. (node_piece p.0 x).spelt blobs ++ l) rest.stands.spelt ∙ sym (append_assoc ((node_piece p.0 x).spelt blobs) (flat_map (λ y. (node_piece p.0 y).spelt blobs) rest.more) p.1)
      in
      record { more = x ∷ rest.more; adds = adds; many = ap (λ k. suc k) rest.many; built = rest.built; fits = rest.fits; stands = record { spelt = all; covers = covers-join blobs (node_piece p.0 x).uses (flat_map (λ y. (node_piece p.0 y).uses) rest.more) here.covers rest.stands.covers; left = rest.stands.left } }

  pub record NodesAre (bytes : List ℕ) (p : List (Tail Step) × List ℕ) : Type 0 where
    pub built : Built p.0
    pub fits : AllByRecursion FitsTail p.0
    pub stands : Took blobs (counted (node_piece p.0) p.0) bytes p.1

  pub took_nodes : (bytes : List ℕ) (p : List (Tail Step) × List ℕ) → AreBytes bytes → counted_at (node_at blobs) bytes ≡ Some p → NodesAre bytes p
  unfolding count_at
  took_nodes bytes p small h =
      let a = bind_inv (count_at bytes) _ p h in
      let b = bind_inv (number_at w64 bytes) _ a.0 a.1 in
      let same : b.0 ≡ a.0 = if_inv (nat_lt (length b.0.1) b.0.0) None (Some b.0) a.0 (b.0 ≡ a.0) (λ t e. absurd cc) (λ t e. some_is b.0 a.0 e) b.2 in
      let n = took_number blobs bytes a.0 small (b.1 ∙ ap (λ (r : ℕ × List ℕ). Some r) same) in
      let all = took_many_nodes a.0.0 [] a.0.1 p (built_none same_step step_decides) tt n.1.left a.2 in
      let is : all.more ≡ p.0 = sym all.adds in
      record {
        built = all.built;
        fits = all.fits;
        stands = took_then blobs (number (length p.0)) (each (node_piece p.0) p.0) bytes a.0.1 p.1
            (subst (λ k. Took blobs (number k) bytes a.0.1) (sym all.many ∙ ap (λ (l : List (Tail Step)). length l) is) n.1)
            (subst (λ xs. Took blobs (each (node_piece p.0) xs) a.0.1 p.1) is all.stands);
      }

  -- ---- records

  module _ (tails : List (Tail Step)) (built : Built tails) (fit : AllByRecursion FitsTail tails) where
    fit_at : (all : List (Tail Step)) (n : ℕ) (tail : Tail Step) → AllByRecursion FitsTail all → slice_get all n ≡ Some tail → FitsTail tail
    fit_at [] n tail h at = absurd (let e : None ≡ Some tail = at in cc)
    fit_at (x ∷ xs) zero tail h at = let e : x ≡ tail = cc in subst FitsTail e h.0
    fit_at (x ∷ xs) (suc n) tail h at = fit_at xs n tail h.1 at

    -- the steps of a number fit, as those of the nodes do
    steps_fit : (steps : List Step) → head_in same_step tails steps ≤ length tails → AllByRecursion FitsStep steps
    steps_fit [] le = tt
    steps_fit (step ∷ steps) le =
        let at = at_head same_step step_decides tails step steps _ le refl in
        let low = built.below _ (record { first = step; rest = steps }) at in
        ((fit_at tails _ (record { first = step; rest = steps }) fit at).step, steps_fit steps (omega arith))

    took_record : (front : List Record) (bytes : List ℕ) (p : Record × List ℕ) → Fits front → AreBytes bytes → record_at blobs tails front bytes ≡ Some p → Fits (front ++ p.0 ∷ []) × Took blobs (record_piece tails p.0) bytes p.1
    unfolding record_at row_at
    took_record front bytes p good small h =
        let row = bind_inv (row_at blobs tails bytes) _ p h in
        let a = bind_inv (key_at blobs bytes) _ row.0 row.1 in
        let b = bind_inv (number_at w64 a.0.1) _ row.0 a.2 in
        let c = bind_inv (byte_at b.0.1) _ row.0 b.2 in
        let d = bind_inv (number_at w64 c.0.1) _ row.0 c.2 in
        let steps = steps_at tails b.0.0 in
        let made : Row = record { key = a.0.0; steps = steps; exit = c.0.0; exit_cost = d.0.0 } in
        let rec = next_rec front made in
        let g = given_inv (nat_le b.0.0 (length tails) && nat_lt (paid steps d.0.0) (2 ^ 64)) (made, d.0.1) row.0 d.2 in
        let same : (rec, d.0.1) ≡ p = ap (λ (q : Row × List ℕ). let r : Record × List ℕ = (next_rec front q.0, q.1) in r) g.1 ∙ some_is (next_rec front row.0.0, row.0.1) p row.2 in
        let tests = both (nat_le b.0.0 (length tails)) (nat_lt (paid steps d.0.0) (2 ^ 64)) g.0 in
        let le = leb-true b.0.0 (length tails) tests.0 in
        let is : head_in same_step tails steps ≡ b.0.0 = head_steps same_step step_decides tails b.0.0 built.apart le in
        let key = took_key blobs once bytes a.0 small a.1 in
        let head = took_number blobs a.0.1 b.0 key.1.left b.1 in
        let exit = took_byte blobs b.0.1 c.0 head.1.left c.1 in
        let last = took_number blobs c.0.1 d.0 exit.1.left d.1 in
        let ending = byte c.0.0 ⊕ number d.0.0 in
        let fits : FitsRecord rec = record { key = key.0; steps = steps_fit steps (omega arith); exit = exit.0; paid = ltb-true (paid steps d.0.0) (2 ^ 64) tests.1 } in
        subst (λ (q : Record × List ℕ). Fits (front ++ q.0 ∷ []) × Took blobs (record_piece tails q.0) bytes q.1) same (
          record { records = all_push blobs FitsRecord front rec good.records fits; numbered = numbered_push front rec good.numbered refl },
          took_then blobs (key_piece a.0.0) (number (head_in same_step tails steps) ⊕ ending) bytes a.0.1 d.0.1 key.1
              (took_then blobs (number (head_in same_step tails steps)) ending a.0.1 b.0.1 d.0.1 (subst (λ k. Took blobs (number k) a.0.1 b.0.1) (sym is) head.1)
              (took_then blobs (byte c.0.0) (number d.0.0) b.0.1 c.0.1 d.0.1 exit.1 last.1)),
        )

    pub took_records : (bytes : List ℕ) (p : List Record × List ℕ) → AreBytes bytes → counted_at (record_at blobs tails) bytes ≡ Some p → Fits p.0 × Took blobs (counted (record_piece tails) p.0) bytes p.1
    took_records bytes p small h = took_counted blobs (record_at blobs tails) (record_piece tails) Fits took_record bytes p (record { records = tt; numbered = λ i lt. absurd (omega arith) }) small h
