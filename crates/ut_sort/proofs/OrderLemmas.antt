-- The order of lines is a total one.
use Rattle.std.proofs.Common.{List, [], ◌∷◌}
use Rattle.std.specs.Prelude.{ℕ, Option, Bool, true, false, length}
use Rattle.std.specs.Cmp.{IsTotalOrder, IsStrictWeakOrder}
use Rattle.std.specs.Cmp.Derive.{point_total}
use Rattle.std.specs.Ordering.{is_lt, nat_cmp, on, flip_args, then_cmp}
use Rattle.std.proofs.lemmas.Cmp.{then_total, on_total, back_total, nat_cmp_total, nat_list_cmp_total}
use Rattle.std.proofs.lemmas.List.Sorted.{ranks_by}
use Rattle.rk_base.specs.Text.{Text, text_cmp}
use Rattle.ut_sort.specs.declared.key.Key.{Key}
use Rattle.ut_sort.specs.declared.line.Line.{Line}
use Rattle.ut_sort.specs.Fields.{key_text}
use Rattle.ut_sort.specs.Numbers.{SizeValue, number_of, size_cmp, above, below, number_cmp, value_cmp}
use Rattle.ut_sort.specs.Orders.{SortValue, LineValue, valued, turned, key_cmp, keys_cmp, last_cmp, line_cmp, found_cmp}
use Rattle.ut_sort.specs.Sorts.{view}

text_total : IsTotalOrder text_cmp
text_total = nat_list_cmp_total

size_total : IsTotalOrder size_cmp
size_total = then_total (on_total (λ (s : SizeValue). length s.whole) nat_cmp_total) (then_total (on_total (λ (s : SizeValue). s.whole) text_total) (on_total (λ (s : SizeValue). s.fraction) text_total))

number_total : IsTotalOrder number_cmp
number_total = then_total (on_total above size_total) (on_total below (back_total size_total))

value_total : IsTotalOrder value_cmp
value_total = on_total number_of number_total

valued_total : (numeric : Bool) → IsTotalOrder (valued numeric)
valued_total false = text_total
valued_total true = value_total

turned_total : (reversed : Bool) (order : Text → Text → Rattle.std.specs.declared.cmp.Ordering.Ordering) → IsTotalOrder order → IsTotalOrder (turned reversed order)
turned_total false order o = o
turned_total true order o = back_total o

key_total : (k : Key) → IsTotalOrder (key_cmp k)
key_total k = turned_total k.reversed (valued k.numeric) (valued_total k.numeric)

keys_total : (delimiter : Option ℕ) (keys : List Key) → IsTotalOrder (keys_cmp delimiter keys)
keys_total delimiter [] = point_total
keys_total delimiter (k ∷ ks) = then_total (on_total (key_text delimiter k) (key_total k)) (keys_total delimiter ks)

last_total : (unique reversed : Bool) → IsTotalOrder (last_cmp unique reversed)
last_total true reversed = point_total
last_total false reversed = turned_total reversed text_cmp text_total

pub line_total : (s : SortValue) → IsTotalOrder (line_cmp s)
line_total s = then_total (on_total (key_text s.delimiter s.first) (key_total s.first)) (then_total (keys_total s.delimiter s.more) (last_total s.unique s.reversed))

found_total : (s : SortValue) → IsTotalOrder (found_cmp s)
found_total s = then_total (on_total (λ (l : LineValue). l.key) (key_total s.first)) (on_total (λ (l : LineValue). l.text) (then_total (keys_total s.delimiter s.more) (last_total s.unique s.reversed)))

pub line_order : (s : SortValue) → IsStrictWeakOrder (λ (a b : Text). is_lt (line_cmp s a b))
line_order s = ranks_by (line_total s) (λ (a : Text). a)

pub found_order : (s : SortValue) → IsStrictWeakOrder (λ (a b : Line). is_lt (found_cmp s (view a) (view b)))
found_order s = ranks_by (found_total s) view
