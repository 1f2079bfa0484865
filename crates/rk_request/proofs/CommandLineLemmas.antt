-- The command line is of those of which clap's own words say all.
use Rattle.std.proofs.Common.{◌≡◌, [], ◌∷◌, Option, None, true, refl, subst, inl, inr}
use Rattle.clap.specs.Words.{Kinds, HasKind, IsAmong, kind_of, is_simple, is_simple_and_free}
use Rattle.clap.specs.declared.Error.{Error}
use Rattle.clap.specs.declared.error.ErrorKind.TheVariants as kind
use Rattle.clap.proofs.OnLiterals.{clap_on_literals}
use Rattle.rk_request.specs.CommandLine.{build_app, command_line, folder_line, gen_app, trace_app}
use Rattle.rk_request.specs.Asked.{if_no_fault}
use Rattle.rk_request.specs.declared.requests.Request.{Request}

pub command_line_is_simple : is_simple command_line ≡ true
unfolding clap_on_literals command_line build_app trace_app gen_app folder_line
command_line_is_simple = refl

pub command_line_is_free : is_simple_and_free command_line ≡ true
unfolding clap_on_literals command_line build_app trace_app gen_app folder_line
command_line_is_free = refl

-- an error that isn't want of memory has a kind
pub not_memory : (e : Error) (kinds : Kinds) → HasKind kinds e → kinds ≡ [] → (kind_of e ≡ kind.OutOfMemory → ⊥) → ⊥
not_memory e kinds (inl memory) none other = other memory
not_memory e kinds (inr among) none other = subst (λ (ks : Kinds). IsAmong (kind_of e) ks) none among

-- words that the command line refuses are no request
pub no_request : (kinds : Kinds) (found : Option Request) → (kinds ≡ [] → ⊥) → if_no_fault kinds found ≡ None
no_request [] found fault = absurd (fault refl)
no_request (k ∷ ks) found fault = refl
