-- Parts that are fitted to the piece of a line in which they are sought lead where the parts do.
use Rattle.std.proofs.Common.{◌≡◌, ℕ, ◌+◌, ◌-◌, ◌≤◌, List, sym, subst, arith, length, get_or}
use Rattle.std.specs.Prelude.{Option, ◌↔◌}
use Rattle.rk_base.specs.Text.{Text}
use Rattle.ut_bre.specs.declared.tree.Times.{Times}
use Rattle.ut_bre.specs.Trees.{ItemTree, group, ItemsTree, times_of}
use Rattle.ut_bre.specs.Times.{star, less_one}
use Rattle.ut_bre.specs.Matching.{Repeated, MatchesItems}
use Rattle.ut_bre.specs.Picking.{MatchesTurn, RestTree, rest_items, rest_turns, ReachesEnd, IsLatest, IsWorth, IsNextTurn}
use Rattle.ut_bre.specs.Rows.{Row, LeadsOn, IsRow, ReachesOpen}
use Rattle.ut_bre.specs.Ends.{AreEnds}
use Rattle.ut_bre.specs.Fitting.{AreAlike, AreFitted, IsFittedPart, IsFittedRest}
use Rattle.ut_bre.proofs.Standing.{Rel}
use Rattle.ut_bre.proofs.Laws.{sound_items}
use Rattle.ut_bre.proofs.Latest.{sound_front, sound_rest}
use Rattle.ut_bre.proofs.Reached.{latest-as}
use Rattle.ut_bre.proofs.Turning.{Ordered, item-turns, turns-item}
use Rattle.ut_bre.proofs.Alike.{alike-repeated}

-- the turns of a fitted part
part-turns : (line : Text) (x y : ItemTree) (times : Times) (room : ℕ) → IsFittedPart room x times y → AreAlike room (Repeated (MatchesTurn line x) times) (Repeated (MatchesTurn line y) (times_of y))
part-turns line x y times room f i j h = (λ r. item-turns line y i j ((f line i j h).0 r), λ r. (f line i j h).1 (turns-item line y i j r))

-- what stands behind a part
pub fitted_rest-items : (room : ℕ) (xs ys : ItemsTree) → AreFitted room xs ys → IsFittedRest room (rest_items xs) (rest_items ys)
fitted_rest-items room xs ys f line = f line

pub fitted_rest-turns : (room : ℕ) (x y : ItemTree) (times left : Times) → left ≡ times_of y → IsFittedPart room x times y → IsFittedRest room (rest_turns x times) (rest_turns y left)
fitted_rest-turns room x y times left e f line =
    (let a = part-turns line x y times room f in λ i j h. subst (λ (t : Times). Repeated (MatchesTurn line x) times i j ↔ Repeated (MatchesTurn line y) t i j) (sym e) (a i j h))

-- where a part and the rest lead

reach-between : (line : Text) (x : ItemTree) (times : Times) (rest : RestTree) (i j m : ℕ) → ReachesEnd line x times rest i j m → (i ≤ m) × (m ≤ j)
reach-between line x times rest i j m (a, b) = ((sound_front line x times).ordered i m a, (sound_rest line rest).ordered m j b)

reach-to : (line : Text) (x y : ItemTree) (times : Times) (rest new : RestTree) (i j room : ℕ) → j ≤ i + room → IsFittedPart room x times y → IsFittedRest room rest new → (m : ℕ) → ReachesEnd line x times rest i j m → ReachesEnd line y (times_of y) new i j m
reach-to line x y times rest new i j room h f g m r =
    let o = reach-between line x times rest i j m r in
    let low : i ≤ m = o.0 in
    let high : m ≤ j = o.1 in
    let a : m ≤ i + room = omega arith in
    let b : j ≤ m + room = omega arith in
    ((part-turns line x y times room f i m a).0 r.0, (g line m j b).0 r.1)

reach-from : (line : Text) (x y : ItemTree) (times : Times) (rest new : RestTree) (i j room : ℕ) → j ≤ i + room → IsFittedPart room x times y → IsFittedRest room rest new → (m : ℕ) → ReachesEnd line y (times_of y) new i j m → ReachesEnd line x times rest i j m
reach-from line x y times rest new i j room h f g m r =
    let o = reach-between line y (times_of y) new i j m r in
    let low : i ≤ m = o.0 in
    let high : m ≤ j = o.1 in
    let a : m ≤ i + room = omega arith in
    let b : j ≤ m + room = omega arith in
    ((part-turns line x y times room f i m a).1 r.0, (g line m j b).1 r.1)

pub latest-fitted : (line : Text) (x y : ItemTree) (times own : Times) (rest new : RestTree) (i j room : ℕ) (o : Option ℕ) → own ≡ times_of y → j ≤ i + room → IsFittedPart room x times y → IsFittedRest room rest new → IsLatest (ReachesEnd line y own new i j) o → IsLatest (ReachesEnd line x times rest i j) o
latest-fitted line x y times own rest new i j room o e h f g l =
    latest-as (ReachesEnd line y (times_of y) new i j) (ReachesEnd line x times rest i j) o (reach-from line x y times rest new i j room h f g) (reach-to line x y times rest new i j room h f g) (subst (λ (t : Times). IsLatest (ReachesEnd line y t new i j) o) e l)

-- where a row leads on

lead-from : (line : Text) (x y : ItemTree) (times own : Times) (behind : Row) (end room i : ℕ) → own ≡ times_of y → end ≤ i + room → IsFittedPart room x times y → LeadsOn (Repeated (MatchesTurn line y) own) behind end i → LeadsOn (Repeated (MatchesTurn line x) times) behind end i
lead-from line x y times own behind end room i e h f (p, r, (le, o')) =
    let a : p ≤ i + room = omega arith in
    (p, (part-turns line x y times room f i p a).1 (subst (λ (t : Times). Repeated (MatchesTurn line y) t i p) e r), (le, o'))

lead-to : (line : Text) (x y : ItemTree) (times own : Times) (behind : Row) (end room i : ℕ) → own ≡ times_of y → end ≤ i + room → IsFittedPart room x times y → LeadsOn (Repeated (MatchesTurn line x) times) behind end i → LeadsOn (Repeated (MatchesTurn line y) own) behind end i
lead-to line x y times own behind end room i e h f (p, r, (le, o')) =
    let a : p ≤ i + room = omega arith in
    (p, subst (λ (t : Times). Repeated (MatchesTurn line y) t i p) (sym e) ((part-turns line x y times room f i p a).0 r), (le, o'))

pub row-fitted : (line : Text) (x y : ItemTree) (times own : Times) (behind row : Row) (start end room : ℕ) → own ≡ times_of y → end ≤ start + room → IsFittedPart room x times y → IsRow (Repeated (MatchesTurn line y) own) behind start end row → IsRow (Repeated (MatchesTurn line x) times) behind start end row
row-fitted line x y times own behind row start end room e h f tells p low high =
    let a : end ≤ p + room = omega arith in
    (λ w. lead-from line x y times own behind end room p e a f ((tells p low high).0 w), λ l. (tells p low high).1 (lead-to line x y times own behind end room p e a f l))

pub open-fitted : (line : Text) (x y : ItemTree) (times own : Times) (behind : Row) (start end room : ℕ) (o : Option ℕ) → own ≡ times_of y → end ≤ start + room → IsFittedPart room x times y → IsLatest (ReachesOpen line y own behind start end) o → IsLatest (ReachesOpen line x times behind start end) o
open-fitted line x y times own behind start end room o e h f l =
    latest-as (ReachesOpen line y own behind start end) (ReachesOpen line x times behind start end) o from to l
  where
    from : (m : ℕ) → ReachesOpen line y own behind start end m → ReachesOpen line x times behind start end m
    from m (r, (le, o')) = (let a : m ≤ start + room = omega arith in ((part-turns line x y times room f start m a).1 (subst (λ (t : Times). Repeated (MatchesTurn line y) t start m) e r), (le, o')))

    to : (m : ℕ) → ReachesOpen line x times behind start end m → ReachesOpen line y own behind start end m
    to m (r, (le, o')) = (let a : m ≤ start + room = omega arith in (subst (λ (t : Times). Repeated (MatchesTurn line y) t start m) (sym e) ((part-turns line x y times room f start m a).0 r), (le, o')))

-- where the turns of a star end

next-fitted : (R S : Rel) (room : ℕ) → Ordered R → Ordered S → ((t : Times) → Ordered (Repeated R t)) → ((t : Times) → Ordered (Repeated S t)) → AreAlike room R S → (i j m : ℕ) → j ≤ i + room → IsNextTurn S star i j m → IsNextTurn R star i j m
next-fitted R S room o p q s a i j m h g = record {
  holds = from m g.holds;
  greatest = λ n w. g.greatest n (to n w);
}
  where
    turns : AreAlike room (Repeated R (less_one star)) (Repeated S (less_one star))
    turns = alike-repeated R S room o p a (less_one star)

    from : (n : ℕ) → IsWorth star i n × S i n × Repeated S (less_one star) n j → IsWorth star i n × R i n × Repeated R (less_one star) n j
    from n (w, x, y) = (
        let low : i ≤ n = p i n x in
        let high : n ≤ j = s (less_one star) n j y in
        let b : n ≤ i + room = omega arith in
        let c : j ≤ n + room = omega arith in
        (w, (a i n b).1 x, (turns n j c).1 y)
        )

    to : (n : ℕ) → IsWorth star i n × R i n × Repeated R (less_one star) n j → IsWorth star i n × S i n × Repeated S (less_one star) n j
    to n (w, x, y) = (
        let low : i ≤ n = o i n x in
        let high : n ≤ j = q (less_one star) n j y in
        let b : n ≤ i + room = omega arith in
        let c : j ≤ n + room = omega arith in
        (w, (a i n b).0 x, (turns n j c).0 y)
        )

items-turns : (line : Text) (xs : ItemsTree) (t : Times) → Ordered (Repeated (MatchesItems line xs) t)
items-turns line xs t = (sound_front line (group t 0 xs) t).ordered

pub ends-fitted : (line : Text) (xs ys : ItemsTree) (end room : ℕ) (ends : List ℕ) → length ends ≡ room → AreFitted room xs ys → AreEnds (MatchesItems line ys) end ends → AreEnds (MatchesItems line xs) end ends
ends-fitted line xs ys end room ends size f all k lt r =
    let R : Rel = MatchesItems line xs in
    let S : Rel = MatchesItems line ys in
    let o = (sound_items line xs).ordered in
    let p = (sound_items line ys).ordered in
    let h : end ≤ end - (k + 1) + room = omega arith in
    let it = all k lt ((alike-repeated R S room o p (f line) star (end - (k + 1)) end h).0 r) in
    (it.0, next-fitted R S room o p (items-turns line xs) (items-turns line ys) (f line) (end - (k + 1)) end (end - get_or ends k 0) h it.1)

-- what isn't fitted is as it was

pub part-same : (room : ℕ) (x : ItemTree) → IsFittedPart room x (times_of x) x
part-same room x line i j h = (turns-item line x i j, item-turns line x i j)

pub rest-same : (room : ℕ) (rest : RestTree) → IsFittedRest room rest rest
rest-same room rest line i j h = (λ m. m, λ m. m)
