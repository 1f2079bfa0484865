-- Texts that are lent, each once.
use Rattle.std.proofs.Common.{◌≡◌, ◌∙◌, ap, refl, ℕ, Bool, true, false, cond, List, [], ◌∷◌, ◌++◌, ◌||◌, Bor}
use Rattle.std.specs.List.{list_any}
use Rattle.std.proofs.lemmas.List.{map-append}
use Rattle.rk_base.specs.Text.{same_text}
use Rattle.tr_parts.specs.Piece.{has, with_use}
use Rattle.tr_codec.specs.LentKeys.{texts_of}

pub has_lent : (keys : List (Bor (List ℕ))) (key : Bor (List ℕ)) → list_any (λ (k : Bor (List ℕ)). same_text key.now k.now) keys ≡ has (texts_of keys) key.now
has_lent [] key = refl
has_lent (k ∷ keys) key = ap (λ b. same_text key.now k.now || b) (has_lent keys key)

pub with_lent : (keys : List (Bor (List ℕ))) (key : Bor (List ℕ)) (b : Bool) → texts_of (cond b keys (keys ++ key ∷ [])) ≡ cond b (texts_of keys) (texts_of keys ++ key.now ∷ [])
with_lent keys key true = refl
with_lent keys key false = map-append (λ (k : Bor (List ℕ)). k.now) keys (key ∷ [])

pub lent_more : (keys new : List (Bor (List ℕ))) (key : Bor (List ℕ)) → new ≡ cond (list_any (λ (k : Bor (List ℕ)). same_text key.now k.now) keys) keys (keys ++ key ∷ []) → texts_of new ≡ with_use (texts_of keys) key.now
lent_more keys new key e =
    ap texts_of e ∙ with_lent keys key (list_any (λ (k : Bor (List ℕ)). same_text key.now k.now) keys) ∙ ap (λ b. cond b (texts_of keys) (texts_of keys ++ key.now ∷ [])) (has_lent keys key)
