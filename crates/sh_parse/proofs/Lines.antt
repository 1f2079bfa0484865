-- Counting newlines.
use Rattle.std.proofs.Common.{◌≡◌, ℕ, suc, ◌+◌, ◌==◌, ◌<◌, ◌≤◌, Bool, true, false, drop, get_or, length, ap, refl, ◌∙◌, arith, if◌then◌else◌}
use Rattle.std.proofs.Math.Seq.{drop-cons}
use Rattle.std.proofs.lemmas.List.{drop_all}
use Rattle.rk_base.specs.Text.{Text}
use Rattle.sh_script.specs.Reads.{newlines}

moved : (here : Bool) (n m : ℕ) → (if here then n + 1 else n) + m ≡ n + (if here then m + 1 else m)
moved true n m = omega arith
moved false n m = refl

-- one byte more
lines_on : (n more : ℕ) (text : Text) (i j : ℕ) → j ≡ suc i → i < length text → more ≡ (if get_or text i 0 == 10 then n + 1 else n) → n + newlines (drop i text) ≡ newlines text → more + newlines (drop j text) ≡ newlines text
lines_on n more text i j is lt e inv =
    let next : n + (if get_or text i 0 == 10 then newlines (drop (suc i) text) + 1 else newlines (drop (suc i) text)) ≡ newlines text = rw (drop-cons text i 0) at inv in
    rw is (ap (λ (m : ℕ). m + newlines (drop (suc i) text)) e ∙ moved (get_or text i 0 == 10) n (newlines (drop (suc i) text)) ∙ next)

pub lines_next : (n more : ℕ) (text : Text) (i : ℕ) → i < length text → more ≡ (if get_or text i 0 == 10 then n + 1 else n) → n + newlines (drop i text) ≡ newlines text → more + newlines (drop (i + 1) text) ≡ newlines text
lines_next n more text i lt e inv = lines_on n more text i (i + 1) (omega arith) lt e inv

-- after the last
pub lines_done : (n : ℕ) (text : Text) (i : ℕ) → length text ≤ i → n + newlines (drop i text) ≡ newlines text → n ≡ newlines text
lines_done n text i le inv =
    let all : n + 0 ≡ newlines text = rw (drop_all i text) at inv in
    omega (arith, all)

-- there are no more of them than bytes
more_by_one : (here : Bool) (n : ℕ) → (if here then n + 1 else n) ≤ n + 1
more_by_one true n = omega arith
more_by_one false n = omega arith

pub counted_within : (n more b i : ℕ) → more ≡ (if b == 10 then n + 1 else n) → n ≤ i → more ≤ i + 1
counted_within n more b i is le =
    let one : (if b == 10 then n + 1 else n) ≤ n + 1 = more_by_one (b == 10) n in
    omega (arith, is, one)
