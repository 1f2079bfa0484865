-- One command of a script.
use Rattle.std.proofs.Common.{◌≡◌, ℕ, zero, suc, ◌-◌, ◌<◌, List, Option, Some, None, sym, ◌∙◌, ap, arith}
use Rattle.rk_base.specs.Text.{Text}
use Rattle.ut_sed.specs.Commands.{CommandValue}
use Rattle.ut_sed.specs.Scripts.{ReadStep, wrong, ends, goes, step, commands_from}

pub commands_more : (n : ℕ) (commands : List CommandValue) (text : Text) (more : List CommandValue) (rest : Text) → 0 < n → step commands text ≡ goes more rest → commands_from n commands text ≡ commands_from (n - 1) more rest
commands_more zero commands text more rest lt h = absurd (omega arith)
commands_more (suc n) commands text more rest lt h =
    let e : suc n - 1 ≡ n = omega arith in
    ap (λ (s : ReadStep). elim s as (λ s. Option (List CommandValue)) [ wrong ↦ None | ends all ↦ Some all | goes more rest ↦ commands_from n more rest ]) h ∙ ap (λ m. commands_from m more rest) (sym e)

pub commands_end : (n : ℕ) (commands : List CommandValue) (text : Text) (all : List CommandValue) → 0 < n → step commands text ≡ ends all → commands_from n commands text ≡ Some all
commands_end zero commands text all lt h = absurd (omega arith)
commands_end (suc n) commands text all lt h = ap (λ (s : ReadStep). elim s as (λ s. Option (List CommandValue)) [ wrong ↦ None | ends all ↦ Some all | goes more rest ↦ commands_from n more rest ]) h

pub commands_wrong : (n : ℕ) (commands : List CommandValue) (text : Text) → 0 < n → step commands text ≡ wrong → commands_from n commands text ≡ None
commands_wrong zero commands text lt h = absurd (omega arith)
commands_wrong (suc n) commands text lt h = ap (λ (s : ReadStep). elim s as (λ s. Option (List CommandValue)) [ wrong ↦ None | ends all ↦ Some all | goes more rest ↦ commands_from n more rest ]) h
