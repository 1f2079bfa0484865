-- Steps that are lent, from the last to the first, and records, from the first to the last.
use Rattle.std.proofs.Common.{◌≡◌, ◌∙◌, sym, ap, subst, ℕ, ◌+◌, ◌-◌, ◌<◌, List, length, map, get_or, drop, Bor, arith}
use Rattle.std.specs.List.{AllByRecursion}
use Rattle.std.proofs.lemmas.List.{drop_more, get_or-map, length-map}
use Rattle.tr_record.specs.declared.records.Record.{Record}
use Rattle.tr_record.specs.declared.steps.Step.{Step}
use Rattle.tr_nodes.specs.Tails.{Tail, head_in}
use Rattle.tr_codec.specs.Same.{same_step}
use Rattle.tr_codec.specs.Spelling.{talks}

pub lent_read : (items : List (Bor Step)) (n : ℕ) (b d : Bor Step) → n < length items → b ≡ get_or items n d → b.now ≡ get_or (map (λ (b : Bor Step). b.now) items) n b.now
lent_read items n b d lt e = ap (λ (x : Bor Step). x.now) e ∙ sym (get_or-map (λ (x : Bor Step). x.now) items n d b.now lt)

pub talk_read : (records : List Record) (i : ℕ) (rec d : Record) → i < length records → rec ≡ get_or records i d → rec.steps ≡ get_or (talks records) i rec.steps
talk_read records i rec d lt e = ap (λ (r : Record). r.steps) e ∙ sym (get_or-map (λ (r : Record). r.steps) records i d rec.steps lt)

-- one more in front
pub all_front : (P : Step → Type 0) (steps : List Step) (i n : ℕ) (step d : Step) → i < length steps → n ≡ length steps - 1 - i → step ≡ get_or steps n d → P step → AllByRecursion P (drop (length steps - i) steps) → AllByRecursion P (drop (length steps - (i + 1)) steps)
all_front P steps i n step d lt place read p h =
    let before : n + 1 ≡ length steps - i = omega arith in
    let at : length steps - (i + 1) ≡ n = omega arith in
    let longer = ap (λ k. drop k steps) at ∙ drop_more steps n d (omega arith) in
    let rest : AllByRecursion P (drop (n + 1) steps) = subst (λ (k : ℕ). AllByRecursion P (drop k steps)) (sym before) h in
    let first : P (get_or steps n d) = subst P read p in
    subst (AllByRecursion P) (sym longer) (first, rest)

-- the number at a place is that of the record there
pub head_read : (tails : List (Tail Step)) (records : List Record) (heads : List ℕ) (i : ℕ) (rec d : Record) → i < length records → rec ≡ get_or records i d → heads ≡ map (head_in same_step tails) (talks records) → get_or heads i 0 ≡ head_in same_step tails rec.steps
head_read tails records heads i rec d lt e is =
    let long = length-map records (λ (r : Record). r.steps) in
    let here : i < length (talks records) = omega arith in
    ap (λ l. get_or l i 0) is ∙ get_or-map (head_in same_step tails) (talks records) i rec.steps 0 here ∙ ap (head_in same_step tails) (sym (talk_read records i rec d lt e))
