-- Contents that are read, by the numbers that stand there.
use Rattle.std.proofs.Common.{◌≡◌, ◌∙◌, ℕ, List, Option, Some, None, slice_get, sym, ap}
use Rattle.std.specs.Prelude.{IfSome}
use Rattle.std.specs.Int.{w64}
use Rattle.rk_base.specs.Text.{Text}
use Rattle.rk_calls.specs.declared.answer.Answer.{Answer}
use Rattle.rk_calls.specs.declared.answer.Answer.TheVariants as answer
use Rattle.tr_record.specs.Contents.{IsContent}
use Rattle.tr_codec.specs.Reading.{IsNumberAt, ◌>>=◌, number_at, byte_at, blob_at, text_answer_at, answer_of, answer_at}
use Rattle.tr_codec.proofs.ExactLemmas.{bind_inv}

some_first : {A B : Type 0} (p q : A × B) → Some p ≡ Some q → p.0 ≡ q.0
some_first {A} {B} p q e = let one : p ≡ q = cc in ap (λ (r : A × B). r.0) one

-- a blob is read by the number that stands there
blob_number : (blobs : List Text) (bytes : List ℕ) (p : Text × List ℕ) (n : ℕ) → IsNumberAt bytes n → blob_at blobs bytes ≡ Some p → slice_get blobs n ≡ Some p.0
unfolding blob_at
blob_number blobs bytes p n at h =
    let a = bind_inv (number_at w64 bytes) _ p h in
    let b = bind_inv (slice_get blobs a.0.0) _ p a.2 in
    let one : a.0 ≡ (n, at.0) = let e = sym a.1 ∙ at.1 in cc in
    let text : b.0 ≡ p.0 = some_first (b.0, a.0.1) p b.2 in
    ap (λ (q : ℕ × List ℕ). slice_get blobs q.0) (sym one) ∙ b.1 ∙ ap (λ (t : Text). Some t) text

pub told_at : (blobs : List Text) (bytes text end : List ℕ) (n : ℕ) (it : Answer) → answer_at blobs bytes ≡ Some (it, end) → byte_at bytes ≡ Some (4, text) → IsNumberAt text n → IsContent blobs n it
unfolding answer_at text_answer_at
told_at blobs bytes text end n it h kind at =
    let whole : text_answer_at answer.Content blobs text ≡ Some (it, end) = sym (ap (λ (o : Option (ℕ × List ℕ)). o >>= λ kind. answer_of blobs kind.0 kind.1) kind) ∙ h in
    let a = bind_inv (blob_at blobs text) _ (it, end) whole in
    let is : it ≡ answer.Content a.0.0 = sym (some_first (answer.Content a.0.0, a.0.1) (it, end) a.2) in
    (a.0.0, is, blob_number blobs text a.0 n at a.1)

-- what follows of a value that may be there
pub if_some_weaker : {T : Type 0} (o : Option T) (P Q : T → Type 0) → ((x : T) → P x → Q x) → IfSome o P → IfSome o Q
if_some_weaker None P Q f h = tt
if_some_weaker (Some x) P Q f h = f x h
