-- Ranges of bytes, and sets, step by step.
use Rattle.std.proofs.Common.{◌≡◌, ℕ, zero, suc, ◌+◌, ◌-◌, ◌<◌, ◌≤◌, List, [], ◌∷◌, ◌++◌, length, map, Bool, true, false, refl, sym, ap, ◌∙◌, append_assoc, arith, zero-add}
use Rattle.std.specs.Prelude.{not, slice_index, ◌==◌, if◌then◌else◌}
use Rattle.std.specs.List.{filter, range_with_len}
use Rattle.std.proofs.lemmas.List.{append-nil}
use Rattle.std.proofs.lemmas.List.Elements.{filter-append}
use Rattle.std.proofs.lemmas.List.FromFn.{map-range_with_len_more, get_or-map-range_with_len, length-map-range_with_len}
use Rattle.ut_select.specs.Sets.{class_in, part, set_within, is_unknown, misnamed_within, is_member, all_bytes}
use Rattle.ut_select.specs.Tables.{IsTable, flag}

range_first : (b n : ℕ) → n ≡ suc (n - 1) → range_with_len b n ≡ b ∷ range_with_len (b + 1) (n - 1)
range_first b n e = ap (range_with_len b) e

-- one byte more of a range
pub range_step : (b end v : ℕ) (set set' total : List ℕ) → set' ≡ set ++ v ∷ [] → set ++ range_with_len b (end - b) ≡ total → v ≡ b → b < end → set' ++ range_with_len (b + 1) (end - (b + 1)) ≡ total
range_step b end v set set' total e h g lt =
    let k : end - b ≡ suc ((end - b) - 1) = omega arith in
    let m : (end - b) - 1 ≡ end - (b + 1) = omega arith in
    let f : range_with_len b (end - b) ≡ b ∷ range_with_len (b + 1) (end - (b + 1)) = range_first b (end - b) k ∙ ap (λ n. b ∷ range_with_len (b + 1) n) m in
    ap (λ z. z ++ range_with_len (b + 1) (end - (b + 1))) (e ∙ ap (λ w. set ++ w ∷ []) g)
    ∙ (append_assoc set (b ∷ []) (range_with_len (b + 1) (end - (b + 1))) ∙ (ap (λ z. set ++ z) (sym f) ∙ h))

-- its end
pub range_over : (b end : ℕ) (set total : List ℕ) → end ≤ b → set ++ range_with_len b (end - b) ≡ total → set ≡ total
range_over b end set total le h =
    let k : end - b ≡ 0 = omega arith in
    sym (ap (λ n. set ++ range_with_len b n) k ∙ append-nil set) ∙ h

pub nothing_within : (n : ℕ) → set_within n [] ≡ []
nothing_within zero = refl
nothing_within (suc n) = refl

pub nothing_misnamed : (n : ℕ) → misnamed_within n [] ≡ false
nothing_misnamed zero = refl
nothing_misnamed (suc n) = refl

-- one part more
pub misnamed_step : (left left' b : ℕ) (after text rest : List ℕ) (total : Bool) → text ≡ b ∷ after → is_unknown (class_in b after) b after ≡ false → rest ≡ (part b after).rest → misnamed_within left text ≡ total → left ≡ suc left' → misnamed_within left' rest ≡ total
misnamed_step left left' b after text rest total cut known is h e =
    let f : misnamed_within (suc left') (b ∷ after) ≡ misnamed_within left' (part b after).rest = rw known refl in
    ap (misnamed_within left') is ∙ (sym f ∙ (ap (misnamed_within (suc left')) (sym cut) ∙ (ap (λ n. misnamed_within n text) (sym e) ∙ h)))

-- one item more
pub set_step : (left left' : ℕ) (set set' text rest total : List ℕ) → ((n : ℕ) → set' ++ set_within n rest ≡ set ++ set_within (suc n) text) → set ++ set_within left text ≡ total → left ≡ suc left' → set' ++ set_within left' rest ≡ total
set_step left left' set set' text rest total h k e = h left' ∙ (ap (λ n. set ++ set_within n text) (sym e) ∙ k)

range-more : (a n : ℕ) → range_with_len a (suc n) ≡ range_with_len a n ++ (a + n) ∷ []
range-more a zero = let k : a ≡ a + 0 = omega arith in ap (λ m. m ∷ []) k
range-more a (suc n) = let k : (a + 1) + n ≡ a + suc n = omega arith in ap (λ z. a ∷ z) (range-more (a + 1) n ∙ ap (λ m. range_with_len (a + 1) n ++ m ∷ []) k)

-- the bytes below a number that pass, and the next one
filtered_more : (p : ℕ → Bool) (n : ℕ) → filter p (range_with_len 0 (n + 1)) ≡ filter p (range_with_len 0 n) ++ filter p (n ∷ [])
filtered_more p n =
    let k : n + 1 ≡ suc n = omega arith in
    let m : 0 + n ≡ n = zero-add n in
    ap (λ z. filter p (range_with_len 0 z)) k ∙ (ap (filter p) (range-more 0 n ∙ ap (λ z. range_with_len 0 n ++ z ∷ []) m) ∙ filter-append p (range_with_len 0 n) (n ∷ []))

pub others_step : (p : ℕ → Bool) (n b : ℕ) (set set' : List ℕ) → set' ≡ set ++ filter p (b ∷ []) → set ≡ filter p (range_with_len 0 n) → b ≡ n → set' ≡ filter p (range_with_len 0 (n + 1))
others_step p n b set set' f h e =
    f ∙ (ap (λ z. z ++ filter p (b ∷ [])) h ∙ (ap (λ z. filter p (range_with_len 0 n) ++ filter p (z ∷ [])) e ∙ sym (filtered_more p n)))

-- all bytes were passed
pub others_whole : (p : ℕ → Bool) (others : List ℕ) (n : ℕ) → n ≡ 256 → others ≡ filter p (range_with_len 0 n) → others ≡ filter p all_bytes
unfolding all_bytes
others_whole p others n e h = h ∙ ap (λ m. filter p (range_with_len 0 m)) e

-- one entry more of a table
pub table_step : (f : ℕ → ℕ) (n b v : ℕ) (t t' : List ℕ) → v ≡ f b → t' ≡ t ++ v ∷ [] → t ≡ map f (range_with_len 0 n) → b ≡ n → t' ≡ map f (range_with_len 0 (n + 1))
table_step f n b v t t' k g h e =
    g ∙ (ap (λ z. z ++ v ∷ []) h ∙ (ap (λ z. map f (range_with_len 0 n) ++ z ∷ []) (k ∙ ap f e) ∙ sym (map-range_with_len_more f 0 n n (zero-add n))))

pub table_whole : (f : ℕ → ℕ) (t : List ℕ) (n : ℕ) → n ≡ 256 → t ≡ map f (range_with_len 0 n) → IsTable f t
table_whole f t n k e = λ c lt. ap (λ z. slice_index z c) e ∙ get_or-map-range_with_len f 0 n c c 0 (omega arith) (zero-add c)

pub table_length : (f : ℕ → ℕ) (t : List ℕ) (n : ℕ) → n ≡ 256 → t ≡ map f (range_with_len 0 n) → length t ≡ 256
table_length f t n k e = ap length e ∙ (length-map-range_with_len f 0 n ∙ k)

flag_member : (set : List ℕ) (c : ℕ) → (flag set c == 1) ≡ is_member set c
flag_member set c = elim (is_member set c) as (λ v. ((if v then 1 else 0) == 1) ≡ v) [ true ↦ refl | false ↦ refl ]

pub flag_is : (set table : List ℕ) (c : ℕ) → IsTable (flag set) table → c < 256 → (slice_index table c == 1) ≡ is_member set c
flag_is set table c h lt = ap (λ v. v == 1) (h c lt) ∙ flag_member set c

pub not_flag_is : (set table : List ℕ) (c : ℕ) → IsTable (flag set) table → c < 256 → not (slice_index table c == 1) ≡ not (is_member set c)
not_flag_is set table c h lt = ap not (flag_is set table c h lt)

pub entry_is : (f : ℕ → ℕ) (table : List ℕ) (c : ℕ) → IsTable f table → c < 256 → slice_index table c ≡ f c
entry_is f table c h lt = h c lt
