-- Numbers of nodes, and what their steps cost with an exit.
use Rattle.std.proofs.Common.{◌≡◌, ◌∙◌, sym, ap, ℕ, ◌+◌, ◌<◌, ◌≤◌, ◌^◌, Bool, true, false, ◌&&◌, nat_le, nat_lt, List, Option, Some, None, length, arith}
use Rattle.std.specs.Prelude.{SomeIff, is_some}
use Rattle.std.proofs.lemmas.Bool.{le-leb, leb-true, ltb-true, lt-ltb}
use Rattle.tr_nodes.specs.Nodes.{Node}
use Rattle.tr_nodes.specs.Tails.{steps_at, tails_of}
use Rattle.tr_nodes.proofs.GetLemmas.{by_cases}
use Rattle.tr_nodes.proofs.ReadLemmas.{tails_long}
use Rattle.tr_record.specs.Costs.{steps_cost}
use Rattle.tr_record.specs.Pool.{steps_under}
use Rattle.tr_record.specs.declared.steps.Step.{Step}
use Rattle.tr_codec.specs.Fits.{paid}
use Rattle.tr_codec.proofs.ExactLemmas.{both}

pub above : (n limit : ℕ) → limit < n → nat_le n limit ≡ false
above n limit lt = by_cases (nat_le n limit) (nat_le n limit ≡ false) (λ h. let low = leb-true n limit h in absurd (omega arith)) (λ h. h)

pub no_such : (nodes : List (Node Step)) (head exit_cost : ℕ) → length nodes < head → false ≡ (nat_le head (length (tails_of nodes)) && nat_lt (paid (steps_at (tails_of nodes) head) exit_cost) (2 ^ 64))
no_such nodes head exit_cost lt =
    let long = tails_long nodes in
    sym (ap (λ b. b && nat_lt (paid (steps_at (tails_of nodes) head) exit_cost) (2 ^ 64)) (above head (length (tails_of nodes)) (omega arith)))

sums : (a b : ℕ) (sum : Option ℕ) → SomeIff sum (a + b < 2 ^ 64) (a + b) → is_some sum ≡ nat_lt (a + b) (2 ^ 64)
sums a b None h = by_cases (nat_lt (a + b) (2 ^ 64)) (false ≡ nat_lt (a + b) (2 ^ 64)) (λ t. absurd (h (ltb-true (a + b) (2 ^ 64) t))) (λ f. sym f)
sums a b (Some n) h = sym (lt-ltb (a + b) (2 ^ 64) h.0)

pub payable : (nodes : List (Node Step)) (head exit_cost cost : ℕ) (sum : Option ℕ) (result : Bool) → head ≤ length nodes → cost ≡ steps_cost (steps_under nodes head) → SomeIff sum (cost + exit_cost < 2 ^ 64) (cost + exit_cost) → result ≡ is_some sum
    → result ≡ (nat_le head (length (tails_of nodes)) && nat_lt (paid (steps_at (tails_of nodes) head) exit_cost) (2 ^ 64))
payable nodes head exit_cost cost sum result le is added some =
    let long = tails_long nodes in
    some ∙ sums cost exit_cost sum added ∙ ap (λ n. nat_lt (n + exit_cost) (2 ^ 64)) is
    ∙ sym (ap (λ b. b && nat_lt (paid (steps_at (tails_of nodes) head) exit_cost) (2 ^ 64)) (le-leb head (length (tails_of nodes)) (omega arith)))

-- a number that can be paid is one of these
pub such : (nodes : List (Node Step)) (head exit_cost : ℕ) → (nat_le head (length (tails_of nodes)) && nat_lt (paid (steps_at (tails_of nodes) head) exit_cost) (2 ^ 64)) ≡ true → head ≤ length nodes
such nodes head exit_cost h =
    let long = tails_long nodes in
    let low = leb-true head (length (tails_of nodes)) (both (nat_le head (length (tails_of nodes))) (nat_lt (paid (steps_at (tails_of nodes) head) exit_cost) (2 ^ 64)) h).0 in
    omega arith
