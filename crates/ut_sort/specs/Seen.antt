-- Numbers that stand in a text.
use Rattle.ut_sort.specs.declared.numbers.Number.{Number}
use Rattle.ut_sort.specs.declared.numbers.Size.{Size}
use Rattle.ut_sort.specs.Numbers.{SizeValue, NumberValue}

abbrev pub size_seen : Size → SizeValue
size_seen s = record { whole = s.whole.now; fraction = s.fraction.now }

abbrev pub number_seen : Number → NumberValue
number_seen n = record { negative = n.negative; size = size_seen n.size }
