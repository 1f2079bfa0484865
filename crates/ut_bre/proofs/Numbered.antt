-- The numbers of the groups that are read.
use Rattle.std.proofs.Common.{◌≡◌, ℕ, zero, suc, ◌+◌, ◌<◌, List, [], ◌∷◌, ◌++◌, Bool, true, false, drop, length, subst, arith}
use Rattle.std.specs.Prelude.{Option, Some, None, Ok, Err, ◌-◌, ◌==◌, ◌&&◌, not, nat_lt, if◌then◌else◌}
use Rattle.rk_base.specs.Text.{Text}
use Rattle.ut_bre.specs.declared.set.One.{One}
use Rattle.ut_bre.specs.declared.set.One.TheVariants.{Byte, Any, Bracket}
use Rattle.ut_bre.specs.declared.tree.Times.{Times}
use Rattle.ut_bre.specs.Brackets.{Listing}
use Rattle.ut_bre.specs.Intervals.{interval_at}
use Rattle.ut_bre.specs.Numbers.{IsBelow, AreBelow, EachGroupHasItsPlace}
use Rattle.ut_bre.specs.Reading.{Open, Reading, Outcome, good, bad, Next, goes_on, stops, reads, read_of, read_folded, is_anchored, reads_behind, reads_from, fresh, next_of, quoted_next, interval_next, times_next, open_next, close_next, bracket_next, with_one, with_times, with_repeated, with_open, repeat_last, star, is_single, is_nothing, is_quotable, is_last, ended_by, outermost}
use Rattle.ut_bre.specs.Sets.{Part, bracket_at}
use Rattle.ut_bre.specs.Times.{once}
use Rattle.ut_bre.specs.Trees.{ItemTree, one, group, ItemsTree, no_items, item_and, items_of, folded_if, Expression}

abbrev AllBelow : ℕ → List ItemTree → Type 0
AllBelow n [] = Unit {0}
AllBelow n (x ∷ xs) = IsBelow n x × AllBelow n xs

mutual
  one_more : (n : ℕ) (x : ItemTree) → IsBelow n x → IsBelow (n + 1) x
  one_more n (one times what) h = tt
  one_more n (group times number body) (h, b) = ((let g : number < n + 1 = omega arith in g), all_more n body b)

  all_more : (n : ℕ) (xs : ItemsTree) → AreBelow n xs → AreBelow (n + 1) xs
  all_more n no_items h = tt
  all_more n (item_and x xs) (h, hs) = (one_more n x h, all_more n xs hs)

list_more : (n : ℕ) (xs : List ItemTree) → AllBelow n xs → AllBelow (n + 1) xs
list_more n [] h = tt
list_more n (x ∷ xs) (h, hs) = (one_more n x h, list_more n xs hs)

as_items : (n : ℕ) (xs : List ItemTree) → AllBelow n xs → AreBelow n (items_of xs)
as_items n [] h = tt
as_items n (x ∷ xs) (h, hs) = (h, as_items n xs hs)

and_last : (n : ℕ) (xs : List ItemTree) (x : ItemTree) → AllBelow n xs → IsBelow n x → AllBelow n (xs ++ x ∷ [])
and_last n [] x hs h = (h, tt)
and_last n (y ∷ ys) x (k, ks) h = (k, and_last n ys x ks h)

with-times : (n : ℕ) (times : Times) (x : ItemTree) → IsBelow n x → IsBelow n (with_times times x)
with-times n times (one t what) h = tt
with-times n times (group t number body) h = h

repeated : (n : ℕ) (times : Times) (xs : List ItemTree) → AllBelow n xs → AllBelow n (repeat_last times xs)
repeated n times [] h = tt
repeated n times (x ∷ []) (h, hs) = (with-times n times x h, tt)
repeated n times (x ∷ y ∷ ys) (h, hs) = (h, repeated n times (y ∷ ys) hs)

-- so are the groups that are open, and what stood before them
abbrev OpenBelow : ℕ → List Open → Type 0
OpenBelow n [] = Unit {0}
OpenBelow n (o ∷ os) = (o.number < n) × AllBelow n o.before × OpenBelow n os

open_more : (n : ℕ) (os : List Open) → OpenBelow n os → OpenBelow (n + 1) os
open_more n [] h = tt
open_more n (o ∷ os) (h, b, hs) = ((let g : o.number < n + 1 = omega arith in g), list_more n o.before b, open_more n os hs)

record Numbered (r : Reading) : Type 0 where
  pub opened : OpenBelow r.groups r.opened
  pub items : AllBelow r.groups r.items

abbrev Ends : Outcome → Type 0
Ends (good items at_end groups) = AllBelow groups items
Ends (bad at) = Unit {0}

abbrev Goes : Next → Type 0
Goes (goes_on new more) = Numbered new
Goes (stops outcome) = Ends outcome

either : (b : Bool) (x y : Next) → Goes x → Goes y → Goes (if b then x else y)
either true x y h k = h
either false x y h k = k

one-goes : (what : One) (more : ℕ) (r : Reading) → Numbered r → Goes (goes_on (with_one what r) more)
one-goes what more r h = record { opened = h.opened; items = and_last r.groups r.items (one once (folded_if r.folded what)) h.items tt }

times-goes : (times : Times) (more at : ℕ) (r : Reading) → Numbered r → Goes (times_next times more at r)
times-goes times more at r h =
    let on : Goes (goes_on (with_repeated times r) more) = record { opened = h.opened; items = repeated r.groups times r.items h.items } in
    either (is_single r.last) (goes_on (with_repeated times r) more) (stops (bad at)) on tt

interval-goes : (at : ℕ) (r : Reading) (t : Option (Times × ℕ)) → Numbered r → Goes (interval_next at r t)
interval-goes at r None h = tt
interval-goes at r (Some t) h = times-goes t.0 (t.1 + 1) at r h

open-goes : (at : ℕ) (r : Reading) → Numbered r → Goes (open_next at r)
open-goes at r h =
    let low : r.groups < r.groups + 1 = omega arith in
    let on : Goes (goes_on (with_open at r) 1) = record { opened = (low, list_more r.groups r.items h.items, open_more r.groups r.opened h.opened); items = tt } in
    either (nat_lt (length r.opened) 64) (goes_on (with_open at r) 1) (stops (bad at)) on tt

close-goes : (at : ℕ) (r : Reading) (os : List Open) → OpenBelow r.groups os → AllBelow r.groups r.items → Goes (close_next at r os)
close-goes at r [] h b = tt
close-goes at r (o ∷ os) (h, k, hs) b = record { opened = hs; items = and_last r.groups o.before (group once o.number (items_of r.items)) k (h, as_items r.groups r.items b) }

quoted-goes : (at : ℕ) (r : Reading) (rest : Text) → Numbered r → Goes (quoted_next at r rest)
quoted-goes at r [] h = tt
quoted-goes at r (c ∷ rest) h =
    let byte : Next = goes_on (with_one (Byte c) r) 1 in
    let wrong : Next = stops (bad at) in
    let times : Next = interval_next at r (interval_at rest) in
    let close : Next = close_next at r r.opened in
    let from_byte : Next = if is_quotable c then byte else wrong in
    let from_times : Next = if c == 123 then times else from_byte in
    let from_close : Next = if c == 41 then close else from_times in
    either (c == 40) (open_next at r) from_close (open-goes at r h) (either (c == 41) close from_times (close-goes at r r.opened h.opened h.items) (either (c == 123) times from_byte (interval-goes at r (interval_at rest) h) (either (is_quotable c) byte wrong (one-goes (Byte c) 1 r h) tt)))

bracket-goes : (r : Reading) (p : Part Listing) → Numbered r → Goes (bracket_next r p)
bracket-goes r (Ok part) h = one-goes (Bracket part.0) (part.1 - 1) r h
bracket-goes r (Err fault) h = tt

next-goes : (at b : ℕ) (rest : Text) (r : Reading) → Numbered r → Goes (next_of at b rest r)
next-goes at b rest r h =
    let byte : Next = goes_on (with_one (Byte b) r) 0 in
    let any : Next = goes_on (with_one Any r) 0 in
    let set : Next = bracket_next r (bracket_at at rest) in
    let times : Next = times_next star 0 at r in
    let last : Next = stops (good r.items true r.groups) in
    let from_set : Next = if b == 91 then set else byte in
    let from_any : Next = if b == 46 then any else from_set in
    let from_times : Next = if (b == 42) && not (is_nothing r.last) then times else from_any in
    let from_last : Next = if (b == 36) && is_last r.opened rest then last else from_times in
    either (b == 92) (quoted_next at r rest) from_last (quoted-goes at r rest h) (either ((b == 36) && is_last r.opened rest) last from_times h.items (either ((b == 42) && not (is_nothing r.last)) times from_any (times-goes star 0 at r h) (either (b == 46) any from_set (one-goes Any 0 r h) (either (b == 91) set byte (bracket-goes r (bracket_at at rest) h) (one-goes (Byte b) 0 r h)))))

ended-below : (o : Option ℕ) (r : Reading) → Numbered r → Ends (ended_by o r)
ended-below None r h = h.items
ended-below (Some at) r h = tt

abbrev after : ℕ → Text → Next → Outcome
after at rest n = elim n as (λ _. Outcome) [ goes_on new more ↦ reads_from new (at + 1) more rest | stops outcome ↦ outcome ]

after-below : (at : ℕ) (rest : Text) → ((new : Reading) (more : ℕ) → Numbered new → Ends (reads_from new (at + 1) more rest)) → (n : Next) → Goes n → Ends (after at rest n)
after-below at rest on (goes_on new more) h = on new more h
after-below at rest on (stops outcome) h = h

reads-below : (r : Reading) (at skip : ℕ) (text : Text) → Numbered r → Ends (reads_from r at skip text)
reads-below r at skip [] h = ended-below (outermost r.opened) r h
reads-below r at (suc skip) (b ∷ rest) h = reads-below r (at + 1) skip rest h
reads-below r at zero (b ∷ rest) h = after-below at rest (λ new more k. reads-below new (at + 1) more rest k) (next_of at b rest r) (next-goes at b rest r h)

behind-below : (folded at_start : Bool) (text : Text) → Ends (reads_behind folded at_start text)
behind-below folded true text = reads-below (fresh folded) 1 0 (drop 1 text) (record { opened = tt; items = tt })
behind-below folded false text = reads-below (fresh folded) 0 0 text (record { opened = tt; items = tt })

of-read : (at_start : Bool) (o : Outcome) (e : Expression) → Ends o → read_of at_start o ≡ reads e → AreBelow e.groups e.items
of-read at_start (bad at) e h z = absurd (cc)
of-read at_start (good items at_end groups) e h z =
    let it : Expression = record { at_start = at_start; items = items_of items; at_end = at_end; groups = groups } in
    let same : it ≡ e = cc in
    subst (λ (x : Expression). AreBelow x.groups x.items) same (as_items groups items h)

pub each-group-has-its-place : EachGroupHasItsPlace
unfolding read_folded
each-group-has-its-place folded text e z = of-read (is_anchored text) (reads_behind folded (is_anchored text) text) e (behind-below folded (is_anchored text) text) z
