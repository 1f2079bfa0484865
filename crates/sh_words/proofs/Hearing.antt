-- What a redirection hears, the owner counts.
use Rattle.std.proofs.Common.{◌≡◌, ℕ, refl, sym, ap}
use Rattle.rk_calls.specs.declared.answer.Answer.{Answer}
use Rattle.rk_calls.specs.declared.answer.Answer.TheVariants as answer
use Rattle.sh_vars.specs.declared.env.Env.{Env}
use Rattle.sh_expand.specs.Told.{numbered}
use Rattle.sh_expand.specs.Expands.{counted}
use Rattle.sh_redirect.specs.Answers as redirection

numbered_redirection : (a : Answer) (n : ℕ) → numbered a n ≡ redirection.numbered a n
numbered_redirection answer.Go n = refl
numbered_redirection answer.Done n = refl
numbered_redirection answer.Opened n = refl
numbered_redirection answer.Piped n = refl
numbered_redirection (answer.Content bytes) n = refl
numbered_redirection (answer.Stat kind mode empty) n = refl
numbered_redirection (answer.Names names) n = refl
numbered_redirection (answer.Text text) n = refl
numbered_redirection (answer.Place path) n = refl
numbered_redirection (answer.Same same) n = refl
numbered_redirection (answer.Joined status) n = refl
numbered_redirection (answer.No errno) n = refl

pub redirection_heard : (a : Answer) (env : Env) → redirection.heard a env ≡ counted a env
redirection_heard a env = ap (λ (n : ℕ). record env { next = n }) (sym (numbered_redirection a env.next))
