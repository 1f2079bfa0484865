-- An exit without cost.
use Rattle.std.proofs.Common.{◌≡◌, ℕ, sym}
use Rattle.rk_calls.specs.Talk.{Says, pay}
use Rattle.rk_calls.specs.Views.{pay-nothing}
use Rattle.sh_builtin.proofs.ReadLemmas.{reads-is}

pub over : (x : Says) (p : ℕ) → x p ≡ pay 0 x p
over x p = sym (pay-nothing x p)

-- `read` asks for a line
pub ruleset reads_by = reads-is
