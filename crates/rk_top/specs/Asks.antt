-- What is asked of a build.
use Rattle.std.specs.Prelude.{List, IfSome}
use Rattle.rk_base.specs.Text.{Text}
use Rattle.rk_request.specs.Asked.{IfBuild, IfQuery, request_of}
pub use Rattle.rk_request.specs.Asked.{turns}
use Rattle.rk_request.specs.declared.requests.Request.{Request}

-- this is so of the request that the words are, if they are one
abbrev pub Asks : List Text → (Request → Type 0) → Type 0
Asks words P = IfSome (request_of words) P

-- the same of a build alone, and of a request of the database alone
abbrev pub AsksBuild : List Text → (Request → Type 0) → Type 0
AsksBuild words P = Asks words (λ request. IfBuild request (P request))

abbrev pub AsksQuery : List Text → (Request → Type 0) → Type 0
AsksQuery words P = Asks words (λ request. IfQuery request (P request))
