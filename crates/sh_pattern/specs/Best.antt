-- The longest or the shortest part that is matched, as a function.
use Rattle.std.specs.Prelude.{ℕ, zero, suc, ◌-◌, take, drop, length, Bool, true, false, Option, Some, None, if◌then◌else◌}
use Rattle.rk_base.specs.Text.{Text}
use Rattle.sh_pattern.specs.Decided.{is_matched}

-- the greatest number, not above this one, that passes
abbrev pub greatest : (ℕ → Bool) → ℕ → Option ℕ
greatest f zero = if f 0 then Some 0 else None
greatest f (suc n) = if f (suc n) then Some (suc n) else greatest f n

abbrev pub or_last : (ℕ → Bool) → ℕ → Option ℕ → Option ℕ
or_last f n (Some k) = Some k
or_last f n None = if f n then Some n else None

-- the least number, not above this one, that passes
abbrev pub least : (ℕ → Bool) → ℕ → Option ℕ
least f zero = if f 0 then Some 0 else None
least f (suc n) = or_last f (suc n) (least f n)

abbrev pub best : Bool → (ℕ → Bool) → ℕ → Option ℕ
best true f n = greatest f n
best false f n = least f n

-- the length of the longest or the shortest prefix that is matched
unfoldable pub best_prefix : Text → Text → Bool → Option ℕ
best_prefix pattern text longest = best longest (λ k. is_matched pattern (take k text)) (length text)

-- the length of the longest or the shortest suffix that is matched
unfoldable pub best_suffix : Text → Text → Bool → Option ℕ
best_suffix pattern text longest = best longest (λ k. is_matched pattern (drop (length text - k) text)) (length text)
