-- Items that stand one after the other as these do, as a loop goes past them.
use Rattle.std.proofs.Common.{◌≡◌, ◌∙◌, sym, ap, subst, ℕ, ◌+◌, ◌-◌, ◌<◌, ◌≤◌, List, [], ◌∷◌, ◌++◌, Option, Some, length, take, get_or}
use Rattle.std.specs.Prelude.{fold}
use Rattle.std.proofs.lemmas.List.{take_more, take_all}
use Rattle.tr_parts.specs.Reading.{◌>>=◌, many_at, count_at, counted_at}
use Rattle.tr_parts.proofs.LoopLemmas.{goes_on, is_done}
use Rattle.tr_codec.proofs.UsedLemmas.{more_used}

taken_more : {A : Type 0} (items : List A) (i : ℕ) (x d : A) → i < length items → x ≡ get_or items i d → take i items ++ x ∷ [] ≡ take (i + 1) items
taken_more items i x d lt is = ap (λ y. take i items ++ y ∷ []) is ∙ sym (take_more items i d lt)

module _ {A : Type 0} (one : List A → List ℕ → Option (A × List ℕ)) where
  -- one more of them stands there
  pub stands_next : (items : List A) (i : ℕ) (bytes : List ℕ) (x d : A) (after : List ℕ) (total : Option (List A × List ℕ)) → i < length items → x ≡ get_or items i d → one (take i items) bytes ≡ Some (x, after)
      → many_at one (length items - i) (take i items) bytes ≡ total → many_at one (length items - (i + 1)) (take (i + 1) items) after ≡ total
  stands_next items i bytes x d after total lt is h so_far =
      subst (λ (l : List A). many_at one (length items - (i + 1)) l after ≡ total) (taken_more items i x d lt is) (goes_on one (take i items) (length items) i bytes x after total lt h so_far)

  -- all of them stand there
  pub stand : (items : List A) (i : ℕ) (bytes : List ℕ) (total : Option (List A × List ℕ)) → length items ≤ i → many_at one (length items - i) (take i items) bytes ≡ total → total ≡ Some (items, bytes)
  stand items i bytes total le so_far = is_done one (take i items) (length items) i bytes total le so_far ∙ ap (λ (l : List A). Some (l, bytes)) (take_all i items le)

  -- with their count in front of them
  pub counted : (items : List A) (bytes rest end : List ℕ) (count : ℕ) → count_at bytes ≡ Some (count, rest) → count ≡ length items → many_at one (length items) [] rest ≡ Some (items, end) → counted_at one bytes ≡ Some (items, end)
  counted items bytes rest end count h n all = ap (λ (o : Option (ℕ × List ℕ)). o >>= λ x. many_at one x.0 [] x.1) h ∙ ap (λ (k : ℕ). many_at one k [] rest) n ∙ all

-- what is in use after one more of them
pub used_next : {A : Type 0} (g : Option ℕ → A → Option ℕ) (items : List A) (i : ℕ) (first before now : Option ℕ) (x d : A) → i < length items → x ≡ get_or items i d → before ≡ fold g first (take i items) → now ≡ g before x → now ≡ fold g first (take (i + 1) items)
used_next g items i first before now x d lt is so e = more_used g first before now (take i items) x so e ∙ ap (fold g first) (taken_more items i x d lt is)

-- what is in use after all of them
pub used_all : {A : Type 0} (g : Option ℕ → A → Option ℕ) (items : List A) (i : ℕ) (first now : Option ℕ) → length items ≤ i → now ≡ fold g first (take i items) → now ≡ fold g first items
used_all g items i first now le so = so ∙ ap (fold g first) (take_all i items le)
