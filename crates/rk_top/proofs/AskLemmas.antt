-- What is so of the request that words are.
use Rattle.std.proofs.Common.{◌≡◌, ℕ, List, Option, Some, None, IfSome, sym, subst}
use Rattle.rk_base.specs.Text.{Text}
use Rattle.rk_request.specs.Asked.{IfBuild, IfGen, IfQuery, request_of}
use Rattle.rk_request.specs.declared.requests.Request.TheVariants.{Build, Check, Trace, Forget, Gen}
use Rattle.rk_request.specs.declared.requests.Request.{Request}
use Rattle.rk_top.specs.Asks.{Asks, AsksBuild, AsksQuery}

pub asks : (words : List Text) (P : Request → Type 0) (request : Request) → request_of words ≡ Some request → P request → Asks words P
asks words P request asked h = subst (λ (o : Option Request). IfSome o P) (sym asked) h

-- nothing where they are none
pub unasked : (words : List Text) (P : Request → Type 0) → request_of words ≡ None → Asks words P
unasked words P none = subst (λ (o : Option Request). IfSome o P) (sym none) tt

any : (o : Option Request) (P : Request → Type 0) → ((request : Request) → P request) → IfSome o P
any None P h = tt
any (Some request) P h = h request

-- whatever they are
pub asks-any : (words : List Text) (P : Request → Type 0) → ((request : Request) → P request) → Asks words P
asks-any words P h = any (request_of words) P h

-- Of a build alone, and of a request of the database alone.

pub if-build : (request : Request) (P : Type 0) → P → IfBuild request P
if-build (Build steps explain fresh check) P p = p
if-build Check P p = tt
if-build (Trace json) P p = tt
if-build Forget P p = tt
if-build (Gen seed) P p = tt

if-query : (request : Request) (P : Type 0) → P → IfQuery request P
if-query (Build steps explain fresh check) P p = tt
if-query Check P p = p
if-query (Trace json) P p = p
if-query Forget P p = p
if-query (Gen seed) P p = tt

pub build-then : (request : Request) (P Q : Type 0) → (P → Q) → IfBuild request P → IfBuild request Q
build-then (Build steps explain fresh check) P Q f h = f h
build-then Check P Q f h = tt
build-then (Trace json) P Q f h = tt
build-then Forget P Q f h = tt
build-then (Gen seed) P Q f h = tt

pub query-then : (request : Request) (P Q : Type 0) → (P → Q) → IfQuery request P → IfQuery request Q
query-then (Build steps explain fresh check) P Q f h = tt
query-then Check P Q f h = f h
query-then (Trace json) P Q f h = f h
query-then Forget P Q f h = f h
query-then (Gen seed) P Q f h = tt

if-gen : (request : Request) (P : ℕ → Type 0) → ((seed : ℕ) → P seed) → IfGen request P
if-gen (Build steps explain fresh check) P p = tt
if-gen Check P p = tt
if-gen (Trace json) P p = tt
if-gen Forget P p = tt
if-gen (Gen seed) P p = p seed

pub gen-then : (request : Request) (P Q : ℕ → Type 0) → ((seed : ℕ) → P seed → Q seed) → IfGen request P → IfGen request Q
gen-then (Build steps explain fresh check) P Q f h = tt
gen-then Check P Q f h = tt
gen-then (Trace json) P Q f h = tt
gen-then Forget P Q f h = tt
gen-then (Gen seed) P Q f h = f seed h

pub gens-any : (words : List Text) (P : ℕ → Type 0) → ((seed : ℕ) → P seed) → Asks words (λ r. IfGen r P)
gens-any words P h = asks-any words (λ r. IfGen r P) (λ r. if-gen r P h)

-- whatever the request is
pub builds-any : (words : List Text) (P : Request → Type 0) → ((request : Request) → P request) → AsksBuild words P
builds-any words P h = asks-any words (λ r. IfBuild r (P r)) (λ r. if-build r (P r) (h r))

pub queries-any : (words : List Text) (P : Request → Type 0) → ((request : Request) → P request) → AsksQuery words P
queries-any words P h = asks-any words (λ r. IfQuery r (P r)) (λ r. if-query r (P r) (h r))

pub a-query : (request it : Request) (P : Type 0) → request ≡ it → IfQuery it P → IfQuery request P
a-query request it P same h = subst (λ (r : Request). IfQuery r P) (sym same) h

pub a-gen : (request it : Request) (P : ℕ → Type 0) → request ≡ it → IfGen it P → IfGen request P
a-gen request it P same h = subst (λ (r : Request). IfGen r P) (sym same) h
