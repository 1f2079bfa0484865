-- Records told apart by numbers.
use Rattle.std.proofs.Common.{◌≡◌, ◌≢◌, ◌+◌, ◌≤◌, ◌<◌, ℕ, Bool, true, false, cond, ◌||◌, ◌&&◌, List, [], ◌∷◌, ◌++◌, length, take, get_or, refl, sym, ◌∙◌, ap, subst, arith, inl, inr}
use Rattle.std.specs.Prelude.{map, nat_eq, not}
use Rattle.std.specs.List.{AllByRecursion as Each, list_any}
use Rattle.std.proofs.lemmas.Bool.{and_parts, eqb-true}
use Rattle.std.proofs.lemmas.List.{map-append, take_all, take_more}
use Rattle.indexmap.specs.IndexSet.{insert_key}
use Rattle.tr_record.specs.Pool.{steps_under}
use Rattle.tr_record.specs.Rec.{rec_at}
use Rattle.tr_matching.specs.declared.distinct.TalkId.{TalkId}
use Rattle.tr_matching.specs.Earlier.{EarlierRecords, IsRest}
use Rattle.tr_matching.specs.Left.{AreTalkAlike}
use Rattle.tr_matching.specs.Once.{AreApart, Did, IsOnce, talk_of}
use Rattle.tr_matching.proofs.OnceLemmas.{once-kept, once-left_out}

-- whether two are one, by numbers
abbrev pub same_talk : TalkId → TalkId → Bool
same_talk a b = nat_eq a.head b.head && (nat_eq a.exit b.exit && nat_eq a.cost b.cost)

same-parts : (a b : TalkId) → same_talk a b ≡ true → a ≡ b
same-parts a b t =
    let x = and_parts (nat_eq a.head b.head) (nat_eq a.exit b.exit && nat_eq a.cost b.cost) t in
    let y = and_parts (nat_eq a.exit b.exit) (nat_eq a.cost b.cost) x.1 in
    let one : TalkId = record { head = b.head; exit = a.exit; cost = a.cost } in
    let two : TalkId = record { head = b.head; exit = b.exit; cost = a.cost } in
    let first : a ≡ one = ap (λ h. record { head = h; exit = a.exit; cost = a.cost }) (eqb-true a.head b.head x.0) in
    let second : one ≡ two = ap (λ h. record { head = b.head; exit = h; cost = a.cost }) (eqb-true a.exit b.exit y.0) in
    first ∙ second ∙ ap (λ h. record { head = b.head; exit = b.exit; cost = h }) (eqb-true a.cost b.cost y.1)

itself : (n : ℕ) → nat_eq n n ≡ true
itself n = grind arith

same-itself : (a b : TalkId) → a ≡ b → same_talk a b ≡ true
same-itself a b q = ap (same_talk a) (sym q) ∙ rw (itself a.head, itself a.exit) (itself a.cost)

neither : (a b : Bool) → (a || b) ≡ false → (a ≡ false) × (b ≡ false)
neither true b h = absurd (let f : true ≡ false = h in cc)
neither false b h = (refl, h)

each-snoc : (P : ℕ → Type 0) (xs : List ℕ) (i : ℕ) → Each P xs → P i → Each P (xs ++ i ∷ [])
each-snoc P [] i e p = (p, tt)
each-snoc P (x ∷ xs) i e p = (e.0, each-snoc P xs i e.1 p)

module _ (e : EarlierRecords) where
  -- the number that is told of its steps is theirs
  abbrev pub HasHead : ℕ → Type 0
  HasHead i = IsRest e i 0 (talk_of e i).head

  -- both did the same where they have one talk by numbers
  alike : (j i : ℕ) → HasHead j → HasHead i → talk_of e i ≡ talk_of e j → AreTalkAlike (rec_at j e.records) (rec_at i e.records)
  alike j i hj hi q = (
    sym hj.rest ∙ ap (λ (t : TalkId). steps_under e.contents.nodes t.head) (sym q) ∙ hi.rest,
    ap (λ (t : TalkId). t.exit) (sym q),
    ap (λ (t : TalkId). t.cost) (sym q),
  )

  did-by : (j i : ℕ) (kept : List ℕ) (more : Bool) (b : Bool) → HasHead j → HasHead i → same_talk (talk_of e i) (talk_of e j) ≡ b → (more ≡ true → Did e.records kept i) → (b || more) ≡ true → Did e.records (j ∷ kept) i
  did-by j i kept more true hj hi q rest f = inl (alike j i hj hi (same-parts (talk_of e i) (talk_of e j) q))
  did-by j i kept more false hj hi q rest f = inr (rest f)

  -- one that is kept has its talk
  did-noted : (kept : List ℕ) (i : ℕ) → Each HasHead kept → HasHead i → list_any (same_talk (talk_of e i)) (map (talk_of e) kept) ≡ true → Did e.records kept i
  did-noted [] i h hi f = absurd (let z : false ≡ true = f in cc)
  did-noted (j ∷ kept) i h hi f =
      did-by j i kept (list_any (same_talk (talk_of e i)) (map (talk_of e) kept)) (same_talk (talk_of e i) (talk_of e j)) h.0 hi refl (did-noted kept i h.1 hi) f

  -- none has
  apart-more : (kept : List ℕ) (i : ℕ) → AreApart e kept → list_any (same_talk (talk_of e i)) (map (talk_of e) kept) ≡ false → AreApart e (kept ++ i ∷ [])
  apart-more [] i a f = (tt, tt)
  apart-more (j ∷ kept) i a f =
      let n = neither (same_talk (talk_of e i) (talk_of e j)) (list_any (same_talk (talk_of e i)) (map (talk_of e) kept)) f in (
        each-snoc (λ m. talk_of e j ≢ talk_of e m) kept i a.0 (λ q. let z : false ≡ true = sym n.0 ∙ same-itself (talk_of e i) (talk_of e j) (sym q) in absurd cc),
        apart-more kept i a.1 n.1,
      )

  -- of so many of these records those are kept, and these are the talks that were met
  pub record AreDistinct (numbers : List ℕ) (k : ℕ) (kept : List ℕ) (talks : List TalkId) : Type 0 where
    pub once : IsOnce e.records [] (take k numbers) kept
    pub apart : AreApart e kept
    pub heads : Each HasHead kept
    pub talks_are : talks ≡ map (talk_of e) kept

  -- of all of them
  pub distinct-whole : (numbers : List ℕ) (k : ℕ) (kept : List ℕ) (talks : List TalkId) → AreDistinct numbers k kept talks → length numbers ≤ k → IsOnce e.records [] numbers kept
  distinct-whole numbers k kept talks d le = subst (λ l. IsOnce e.records [] l kept) (take_all k numbers le) d.once

  module _ (numbers : List ℕ) (k : ℕ) (kept : List ℕ) (talks : List TalkId) (d : AreDistinct numbers k kept talks) (lt : k < length numbers) (t : TalkId) (is : t ≡ talk_of e (get_or numbers k 0)) (head : IsRest e (get_or numbers k 0) 0 t.head) (now : List TalkId) (puts : now ≡ insert_key same_talk talks t) where
    i : ℕ
    i = get_or numbers k 0

    here : HasHead (get_or numbers k 0)
    here = subst (λ (x : TalkId). IsRest e (get_or numbers k 0) 0 x.head) is head

    seen : list_any (same_talk t) talks ≡ list_any (same_talk (talk_of e (get_or numbers k 0))) (map (talk_of e) kept)
    seen = ap (λ x. list_any (same_talk x) talks) is ∙ ap (list_any (same_talk (talk_of e (get_or numbers k 0)))) d.talks_are

    pub distinct-kept : (new : Bool) → new ≡ not (list_any (same_talk t) talks) → new ≡ true → AreDistinct numbers (k + 1) (kept ++ get_or numbers k 0 ∷ []) now
    distinct-kept new en is_new =
        let none : list_any (same_talk t) talks ≡ false = not-true (list_any (same_talk t) talks) (sym en ∙ is_new) in
        record {
          once = subst (λ l. IsOnce e.records [] l (kept ++ get_or numbers k 0 ∷ [])) (sym (take_more numbers k 0 lt)) (once-kept e.records (take k numbers) [] kept (get_or numbers k 0) d.once);
          apart = apart-more kept (get_or numbers k 0) d.apart (sym seen ∙ none);
          heads = each-snoc HasHead kept (get_or numbers k 0) d.heads here;
          talks_are =
              puts ∙ ap (λ b. cond b talks (talks ++ t ∷ [])) none ∙ ap (λ l. l ++ t ∷ []) d.talks_are ∙ ap (λ x. map (talk_of e) kept ++ x ∷ []) is
              ∙ sym (map-append (talk_of e) kept (get_or numbers k 0 ∷ []));
        }
      where
        not-true : (b : Bool) → not b ≡ true → b ≡ false
        not-true true h = absurd (let f : false ≡ true = h in cc)
        not-true false h = refl

    pub distinct-left_out : (new : Bool) → new ≡ not (list_any (same_talk t) talks) → new ≡ false → AreDistinct numbers (k + 1) kept now
    distinct-left_out new en is_old =
        let one : list_any (same_talk t) talks ≡ true = not-false (list_any (same_talk t) talks) (sym en ∙ is_old) in
        record {
          once =
              subst (λ l. IsOnce e.records [] l kept) (sym (take_more numbers k 0 lt))
              (once-left_out e.records (take k numbers) [] kept (get_or numbers k 0) d.once (inl (did-noted kept (get_or numbers k 0) d.heads here (sym seen ∙ one))));
          apart = d.apart;
          heads = d.heads;
          talks_are = puts ∙ ap (λ b. cond b talks (talks ++ t ∷ [])) one ∙ d.talks_are;
        }
      where
        not-false : (b : Bool) → not b ≡ false → b ≡ true
        not-false true h = refl
        not-false false h = absurd (let f : true ≡ false = h in cc)
