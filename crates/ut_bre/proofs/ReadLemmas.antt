-- Readings step by step.
use Rattle.std.proofs.Common.{◌≡◌, ℕ, zero, suc, ◌+◌, ◌-◌, ◌≤◌, List, [], ◌∷◌, ◌++◌, Bool, true, false, drop, take, length, subst, map, refl, sym, ap, ◌∙◌, arith, slice_get}
use Rattle.std.specs.Prelude.{Some, None, Ok, Err, if◌then◌else◌}
use Rattle.rk_base.specs.Text.{Text}
use Rattle.ut_bre.specs.declared.reader.Opened.{Opened}
use Rattle.ut_bre.specs.declared.set.Listed.{Listed}
use Rattle.ut_bre.specs.declared.tree.Item.{Item}
use Rattle.ut_bre.specs.declared.error.BreErr.{BreErr}
use Rattle.ut_bre.specs.declared.error.BreErr.TheVariants.{Bad, NoMemory}
use Rattle.ut_bre.specs.declared.fault.Fault.{Fault}
use Rattle.ut_bre.specs.declared.fault.Fault.TheVariants.{Unclosed}
use Rattle.ut_bre.specs.Brackets.{Listing}
use Rattle.ut_bre.specs.Reading.{Open, Reading, Outcome, good, bad, reads, bad_at, read_folded, read_of, is_anchored, reads_behind, reads_from, Next, goes_on, stops, next_of, fresh, ended, leftmost, outermost, with_times, repeat_last}
use Rattle.ut_bre.specs.ReadsAs.{open_of, opened_onto, opened_of, IsOutcome, IsRead}
use Rattle.ut_bre.specs.Sets.{Part, listing, closes, listed_part, bracket_from}
use Rattle.ut_bre.specs.Trees.{ItemTree, items_of, tree_of}
use Rattle.ut_bre.specs.declared.tree.Times.{Times}

-- behind the bytes that belong to the token before
pub skips : (r : Reading) (k at end : ℕ) (text : Text) → at + length text ≡ end → reads_from r at k text ≡ reads_from r (end - length (drop k text)) 0 (drop k text)
skips r zero at end [] e = refl
skips r (suc k) at end [] e = refl
skips r zero at end (b ∷ rest) e = ap (λ n. reads_from r n 0 (b ∷ rest)) (let g : at ≡ end - length (b ∷ rest) = omega arith in g)
skips r (suc k) at end (b ∷ rest) e = skips r k (at + 1) end rest (let g : at + 1 + length rest ≡ end = omega arith in g)

pub skips_listed : (negated : Bool) (start from k at end : ℕ) (listed : List Listed) (text : Text) → at + length text ≡ end → bracket_from negated start from at listed k text ≡ bracket_from negated start from (end - length (drop k text)) listed 0 (drop k text)
skips_listed negated start from zero at end listed [] e = refl
skips_listed negated start from (suc k) at end listed [] e = refl
skips_listed negated start from zero at end listed (b ∷ rest) e = ap (λ n. bracket_from negated start from n listed 0 (b ∷ rest)) (let g : at ≡ end - length (b ∷ rest) = omega arith in g)
skips_listed negated start from (suc k) at end listed (b ∷ rest) e = skips_listed negated start from k (at + 1) end listed rest (let g : at + 1 + length rest ≡ end = omega arith in g)

-- the group that is opened last is the innermost
pub opened-last : (inner : List Open) (os : List Opened) (o : Opened) → opened_onto inner (os ++ o ∷ []) ≡ open_of o ∷ opened_onto inner os
opened-last inner [] o = refl
opened-last inner (p ∷ os) o = opened-last (open_of p ∷ inner) os o

pub opened-count : (inner : List Open) (os : List Opened) → length (opened_onto inner os) ≡ length inner + length os
opened-count inner [] = omega arith
opened-count inner (p ∷ os) = let e = opened-count (open_of p ∷ inner) os in omega arith

outermost-onto : (o : Open) (inner : List Open) (os : List Opened) → outermost (opened_onto (o ∷ inner) os) ≡ Some (leftmost inner o.at)
outermost-onto o inner [] = refl
outermost-onto o inner (p ∷ os) = outermost-onto (open_of p) (o ∷ inner) os

pub outermost-some : (os : List Opened) (o : Opened) → slice_get os 0 ≡ Some o → outermost (opened_of os) ≡ Some o.at
outermost-some [] o e = absurd (cc)
outermost-some (p ∷ ps) o e = let same : p ≡ o = cc in outermost-onto (open_of p) [] ps ∙ ap (λ (q : Opened). Some q.at) same

pub outermost-none : (os : List Opened) → slice_get os 0 ≡ None → outermost (opened_of os) ≡ None
outermost-none [] e = refl
outermost-none (p ∷ ps) e = absurd (cc)

pub popped : (all os : List Opened) (o : Opened) → all ≡ os ++ o ∷ [] → opened_of all ≡ open_of o ∷ opened_of os
popped all os o e = ap opened_of e ∙ opened-last [] os o

pub popped-none : (all os : List Opened) (n : ℕ) → n ≡ 0 → os ≡ take (n - 1) all → all ≡ os ++ [] → opened_of all ≡ []
popped-none all os n z t e =
    let none : os ≡ [] = t ∙ ap (λ k. take (k - 1) all) z in
    ap opened_of (e ∙ ap (λ xs. xs ++ []) none)

pub map-last : {A B : Type 0} (f : A → B) (xs : List A) (x : A) → map f (xs ++ x ∷ []) ≡ map f xs ++ f x ∷ []
map-last f [] x = refl
map-last f (y ∷ ys) x = ap (λ zs. f y ∷ zs) (map-last f ys x)

pub repeats-last : (times : Times) (xs : List ItemTree) (x : ItemTree) → repeat_last times (xs ++ x ∷ []) ≡ xs ++ with_times times x ∷ []
repeats-last times [] x = refl
repeats-last times (y ∷ []) x = refl
repeats-last times (y ∷ z ∷ zs) x = ap (λ ws. y ∷ ws) (repeats-last times (z ∷ zs) x)

pub repeats : (times : Times) (old mid new : List Item) (x y : Item) → old ≡ mid ++ x ∷ [] → tree_of y ≡ with_times times (tree_of x) → new ≡ mid ++ y ∷ [] → map tree_of new ≡ repeat_last times (map tree_of old)
repeats times old mid new x y eo ey en =
    ap (map tree_of) en ∙ (map-last tree_of mid y ∙ (ap (λ t. map tree_of mid ++ t ∷ []) ey ∙ (sym (repeats-last times (map tree_of mid) (tree_of x)) ∙ ap (repeat_last times) (sym (map-last tree_of mid x) ∙ sym (ap (map tree_of) eo)))))

-- one token

abbrev after_token : ℕ → Text → Next → Outcome
after_token at rest n = elim n as (λ _. Outcome) [ goes_on new more ↦ reads_from new (at + 1) more rest | stops outcome ↦ outcome ]

drop-shorter : (k : ℕ) (xs : Text) → length (drop k xs) ≤ length xs
drop-shorter zero [] = omega arith
drop-shorter zero (x ∷ xs) = omega arith
drop-shorter (suc k) [] = omega arith
drop-shorter (suc k) (x ∷ xs) = let h : length (drop k xs) ≤ length xs = drop-shorter k xs in omega arith

pub record TokensLeft (folded : Bool) (start : ℕ) (text left : Text) (r : Reading) : Type 0 where
  pub within : length left ≤ length text
  pub same : reads_from r (start + length text - length left) 0 left ≡ reads_from (fresh folded) start 0 text

pub token-on : (folded : Bool) (start b more : ℕ) (text left rest after : Text) (r new : Reading) → left ≡ b ∷ rest → next_of (start + length text - length left) b rest r ≡ goes_on new more → after ≡ drop more rest → TokensLeft folded start text left r → TokensLeft folded start text after new
token-on folded start b more text left rest after r new el en ea t =
    let end : ℕ = start + length text in
    let at : ℕ = end - length left in
    let size : length left ≡ length rest + 1 = ap (λ (xs : Text). length xs) el ∙ (let g : length (b ∷ rest) ≡ length rest + 1 = omega arith in g) in
    let whole : length left ≤ length text = t.within in
    let here : at + 1 + length rest ≡ end = omega arith in
    let short : length (drop more rest) ≤ length rest = drop-shorter more rest in
    let one : reads_from r at 0 left ≡ reads_from new (at + 1) more rest = ap (λ xs. reads_from r at 0 xs) el ∙ ap (after_token at rest) en in
    let two : reads_from new (at + 1) more rest ≡ reads_from new (end - length (drop more rest)) 0 (drop more rest) = skips new more (at + 1) end rest here in
    let three : reads_from new (end - length (drop more rest)) 0 (drop more rest) ≡ reads_from new (end - length after) 0 after = ap (λ (xs : Text). reads_from new (end - length xs) 0 xs) (sym ea) in
    record {
      within = (let g : length after ≤ length text = subst (λ (xs : Text). length xs ≤ length text) (sym ea) (omega arith) in g);
      same = sym (one ∙ (two ∙ three)) ∙ t.same;
    }

pub token-stops : (folded : Bool) (start b : ℕ) (text left rest : Text) (r : Reading) (o : Outcome) → left ≡ b ∷ rest → next_of (start + length text - length left) b rest r ≡ stops o → TokensLeft folded start text left r → reads_from (fresh folded) start 0 text ≡ o
token-stops folded start b text left rest r o el en t =
    sym t.same ∙ (ap (λ xs. reads_from r (start + length text - length left) 0 xs) el ∙ ap (after_token (start + length text - length left) rest) en)

pub tokens-end : (folded : Bool) (start : ℕ) (text left : Text) (r : Reading) → left ≡ [] → TokensLeft folded start text left r → reads_from (fresh folded) start 0 text ≡ ended r
tokens-end folded start text left r el t = sym t.same ∙ ap (λ xs. reads_from r (start + length text - length left) 0 xs) el

-- one thing more that a bracket expression lists

abbrev after_listed : Bool → ℕ → ℕ → ℕ → List Listed → Text → Part Listed → Part Listing
after_listed negated start from at listed rest p = elim p as (λ _. Part Listing) [ Ok part ↦ bracket_from negated start from (at + 1) (listed ++ part.0 ∷ []) (part.1 - 1) rest | Err fault ↦ Err fault ]

pub record ListedLeft (negated : Bool) (start from : ℕ) (text left : Text) (listed : List Listed) : Type 0 where
  pub within : length left ≤ length text
  pub same : bracket_from negated start start (from + length text - length left) listed 0 left ≡ bracket_from negated start start from [] 0 text

unlisted : (negated : Bool) (start from at b : ℕ) (listed : List Listed) (rest : Text) → closes b listed ≡ false → bracket_from negated start from at listed 0 (b ∷ rest) ≡ after_listed negated start from at listed rest (listed_part start at b rest)
unlisted negated start from at b listed rest e = ap (λ c. if c then Ok (listing negated listed, at + 1 - from) else after_listed negated start from at listed rest (listed_part start at b rest)) e

pub listed-on : (negated : Bool) (start from b size : ℕ) (text left rest after : Text) (listed new : List Listed) (part : Listed) → left ≡ b ∷ rest → closes b listed ≡ false → listed_part start (from + length text - length left) b rest ≡ Ok (part, size) → new ≡ listed ++ part ∷ [] → after ≡ drop (size - 1) rest → ListedLeft negated start from text left listed → ListedLeft negated start from text after new
listed-on negated start from b size text left rest after listed new part el ec ep en ea t =
    let end : ℕ = from + length text in
    let at : ℕ = end - length left in
    let size_ : length left ≡ length rest + 1 = ap (λ (xs : Text). length xs) el ∙ (let g : length (b ∷ rest) ≡ length rest + 1 = omega arith in g) in
    let whole : length left ≤ length text = t.within in
    let here : at + 1 + length rest ≡ end = omega arith in
    let short : length (drop (size - 1) rest) ≤ length rest = drop-shorter (size - 1) rest in
    let one : bracket_from negated start start at listed 0 left ≡ bracket_from negated start start (at + 1) (listed ++ part ∷ []) (size - 1) rest = ap (λ xs. bracket_from negated start start at listed 0 xs) el ∙ (unlisted negated start start at b listed rest ec ∙ ap (after_listed negated start start at listed rest) ep) in
    let two : bracket_from negated start start (at + 1) (listed ++ part ∷ []) (size - 1) rest ≡ bracket_from negated start start (end - length (drop (size - 1) rest)) (listed ++ part ∷ []) 0 (drop (size - 1) rest) = skips_listed negated start start (size - 1) (at + 1) end (listed ++ part ∷ []) rest here in
    let three : bracket_from negated start start (end - length (drop (size - 1) rest)) (listed ++ part ∷ []) 0 (drop (size - 1) rest) ≡ bracket_from negated start start (end - length after) (listed ++ part ∷ []) 0 after = ap (λ (xs : Text). bracket_from negated start start (end - length xs) (listed ++ part ∷ []) 0 xs) (sym ea) in
    let four : bracket_from negated start start (end - length after) (listed ++ part ∷ []) 0 after ≡ bracket_from negated start start (end - length after) new 0 after = ap (λ ls. bracket_from negated start start (end - length after) ls 0 after) (sym en) in
    record {
      within = (let g : length after ≤ length text = subst (λ (xs : Text). length xs ≤ length text) (sym ea) (omega arith) in g);
      same = sym (one ∙ (two ∙ (three ∙ four))) ∙ t.same;
    }

pub listed-wrong : (negated : Bool) (start from b : ℕ) (text left rest : Text) (listed : List Listed) (fault : Fault) → left ≡ b ∷ rest → closes b listed ≡ false → listed_part start (from + length text - length left) b rest ≡ Err fault → ListedLeft negated start from text left listed → bracket_from negated start start from [] 0 text ≡ Err fault
listed-wrong negated start from b text left rest listed fault el ec ep t =
    let at : ℕ = from + length text - length left in
    sym t.same ∙ (ap (λ xs. bracket_from negated start start at listed 0 xs) el ∙ (unlisted negated start start at b listed rest ec ∙ ap (after_listed negated start start at listed rest) ep))

pub listed-closed : (negated : Bool) (start from b : ℕ) (text left rest : Text) (listed : List Listed) → left ≡ b ∷ rest → closes b listed ≡ true → ListedLeft negated start from text left listed → bracket_from negated start start from [] 0 text ≡ Ok (listing negated listed, from + length text - length left + 1 - start)
listed-closed negated start from b text left rest listed el ec t =
    let at : ℕ = from + length text - length left in
    sym t.same ∙ (ap (λ xs. bracket_from negated start start at listed 0 xs) el ∙ ap (λ c. if c then Ok (listing negated listed, at + 1 - start) else after_listed negated start start at listed rest (listed_part start at b rest)) ec)

pub listed-end : (negated : Bool) (start from : ℕ) (text left : Text) (listed : List Listed) → left ≡ [] → ListedLeft negated start from text left listed → bracket_from negated start start from [] 0 text ≡ Err (Unclosed start)
listed-end negated start from text left listed el t = sym t.same ∙ ap (λ xs. bracket_from negated start start (from + length text - length left) listed 0 xs) el

-- at the end
pub read-good : (folded : Bool) (text : Text) (a : Bool) (items : List ItemTree) (at_end : Bool) (groups : ℕ) → a ≡ is_anchored text → reads_behind folded a text ≡ good items at_end groups → read_folded folded text ≡ reads (record { at_start = a; items = items_of items; at_end = at_end; groups = groups })
unfolding read_folded
read-good folded text a items at_end groups e f = ap (λ b. read_of b (reads_behind folded b text)) (sym e) ∙ ap (read_of a) f

pub read-bad : (folded : Bool) (text : Text) (a : Bool) (at : ℕ) → a ≡ is_anchored text → reads_behind folded a text ≡ bad at → read_folded folded text ≡ bad_at at
unfolding read_folded
read-bad folded text a at e f = ap (λ b. read_of b (reads_behind folded b text)) (sym e) ∙ ap (read_of a) f

pub read-err : (folded : Bool) (text : Text) (a : Bool) (fault : BreErr) → a ≡ is_anchored text → IsOutcome (reads_behind folded a text) (Err fault) → IsRead (read_folded folded text) (Err fault)
read-err folded text a (Bad at) e f = read-bad folded text a at e f
read-err folded text a NoMemory e f = tt
