-- The faults that a place may have, one by one.
use Rattle.std.proofs.Common.{◌≡◌, ℕ, suc, ◌+◌, [], ◌∷◌, Option, Some, None, Bool, true, false, refl, length, take, drop, slice_index}
use Rattle.std.specs.Prelude.{◌==◌, nat_lt, if◌then◌else◌}
use Rattle.std.proofs.lemmas.Bool.{eqb-true}
use Rattle.sh_token.specs.declared.fault.Why.TheVariants as y
use Rattle.sh_token.specs.declared.fault.ScriptFault.{ScriptFault}
use Rattle.sh_token.specs.declared.delimiter.Within.TheVariants as w
use Rattle.sh_token.specs.Bytes.{◌also◌, not_so}
use Rattle.sh_token.specs.Folded.{folded, run}
use Rattle.sh_token.specs.Quoting.{not_quote}
use Rattle.sh_token.specs.HereDocuments.{walk}
use Rattle.sh_token.specs.Places.{Place, is_none, is_closed}
use Rattle.sh_token.specs.Steps.{next}
use Rattle.sh_token.specs.Faults.{fault, left_out, breaks_off, is_bracket_out, unclosed, end_fault, not_nul, bodies_fault, delimiter_fault, single_fault, out_fault, bracket_fault, text_fault, due_fault, blocked_fault, told}

-- what holds of each of them holds of the place's
module _ (P : ScriptFault → Type 0) (p : Place) (syntax : (at : ℕ) → P (fault at y.Syntax)) (still_open : P (unclosed p)) (deep : P (fault p.at y.Deep)) (backquote : (n : ℕ) → slice_index p.text n ≡ 96 → P (fault (p.at + n) (y.NotInProfile (96 ∷ [])))) (out : (n : ℕ) → P (fault p.at (y.NotInProfile (take n (folded p.text))))) (bracketed : P (bracket_fault p)) where
  by_test : (b : Bool) (f g : ScriptFault) → (b ≡ true → P f) → P g → P (if b then f else g)
  by_test true f g h k = h refl
  by_test false f g h k = k

  at_end : P (end_fault p)
  at_end = by_test (is_closed p also not_so p.due) (fault p.at y.Syntax) (unclosed p) (λ _. syntax p.at) still_open

  at_delimiter : (n : ℕ) → P (delimiter_fault n p)
  at_delimiter n =
      by_test (nat_lt n (length p.text)) (if slice_index p.text n == 96 then fault (p.at + n) (y.NotInProfile (96 ∷ [])) else fault (p.at + n) y.Syntax) (unclosed p)
      (λ _. by_test (slice_index p.text n == 96) (fault (p.at + n) (y.NotInProfile (96 ∷ []))) (fault (p.at + n) y.Syntax)
      (λ e. backquote n (eqb-true (slice_index p.text n) 96 e)) (syntax (p.at + n)))
      still_open

  at_single : (n : ℕ) → P (single_fault n p)
  at_single n =
      by_test (nat_lt n (length p.text)) (if slice_index p.text n == 39 then fault p.at y.Syntax else fault (p.at + n) y.Syntax) (unclosed p)
      (λ _. by_test (slice_index p.text n == 39) (fault p.at y.Syntax) (fault (p.at + n) y.Syntax) (λ _. syntax p.at) (syntax (p.at + n)))
      still_open

  at_out : (n : ℕ) → P (out_fault n p.at p.text)
  at_out n = by_test (n == 0) (fault p.at y.Syntax) (fault p.at (y.NotInProfile (take n (folded p.text)))) (λ _. syntax p.at) (out n)

  at_text : P (text_fault p)
  unfolding text_fault
  at_text =
      let left = left_out (folded p.text) in
      let n = suc (run not_quote (drop 1 p.text)) in
      let f2 = if is_bracket_out p.in_word (folded p.text) then bracket_fault p else out_fault left p.at p.text in
      let f3 = if breaks_off (folded p.text) then unclosed p else f2 in
      let f4 = if slice_index p.text 0 == 39 then single_fault n p else f3 in
      by_test (is_none p.text) (end_fault p) f4 (λ _. at_end)
      (by_test (slice_index p.text 0 == 39) (single_fault n p) f3 (λ _. at_single n)
      (by_test (breaks_off (folded p.text)) (unclosed p) f2 (λ _. still_open)
      (by_test (is_bracket_out p.in_word (folded p.text)) (bracket_fault p) (out_fault left p.at p.text) (λ _. bracketed) (at_out left))))

  at_due : P (due_fault p)
  at_due =
      let x = walk w.Bare p.text in
      by_test x.ends (text_fault p) (delimiter_fault x.count p) (λ _. at_text) (at_delimiter x.count)

  at_bodies : (o : Option (Bool × ℕ × Bool)) → P (bodies_fault o p)
  at_bodies None = syntax p.at
  at_bodies (Some d) =
      let n = run not_nul p.text in
      by_test (nat_lt n (length p.text)) (fault (p.at + n) y.Syntax) (unclosed p) (λ _. syntax (p.at + n)) still_open

  at_blocked : P (blocked_fault p)
  unfolding blocked_fault
  at_blocked =
      by_test p.in_bodies (bodies_fault (next p.awaited) p) (if p.due then due_fault p else text_fault p) (λ _. at_bodies (next p.awaited))
      (by_test p.due (due_fault p) (text_fault p) (λ _. at_due) at_text)

  pub each_fault : (b : Bool) → P (told b p)
  each_fault true = deep
  each_fault false = at_blocked
