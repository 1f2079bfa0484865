use Rattle.std.proofs.Common.{◌≡◌, ◌∙◌, ℕ, zero, suc, ◌<◌, List, [], ◌∷◌, length, get_or, Some, slice_get, sym, ap, arith}
use Rattle.rk_base.specs.Text.{Text}
use Rattle.tr_codec.specs.Used.{used_with}
use Rattle.tr_codec.proofs.PutsLemmas.{numbered}
use Rattle.tr_codec.proofs.parts.blob_of.Goals as goal

-- the text at a place
stands : (texts : List Text) (n : ℕ) (text other : Text) → n < length texts → text ≡ get_or texts n other → slice_get texts n ≡ Some text
stands [] n text other lt e = absurd (omega arith)
stands (x ∷ xs) zero text other lt e = ap (λ (t : Text). Some t) (sym e)
stands (x ∷ xs) (suc n) text other lt e = stands xs n text other (omega arith) e

pub returns-in_ok-text-in-Some-clause-used : goal.returns-in_ok-text-in-Some-clause-used
returns-in_ok-text-in-Some-clause-used c =
    let found = c.in-Some.ensures.lookup in
    let there : slice_get c.as_slice.result.now c.in_ok-n.n ≡ Some c.in-Some.blob.now = stands _ _ _ c.in-Some.blob.now found.3.0 found.1 in
    let at : slice_get c.args.blobs.now c.in_ok-n.n ≡ Some c.in_ok-text-in-Some.text =
    ap (λ (l : List Text). slice_get l c.in_ok-n.n) (sym c.as_slice.ensures.value) ∙ there ∙ ap (λ (t : Text). Some t) (sym c.in_ok-text-in-Some.ensures)
    in
    c.used_with.ensures ∙ ap (used_with c.args.used.now) (numbered _ _ _ c.as_slice.ensures.apart at).1
