-- A token without a backslash, of which no tab is dropped, is read as it stands.
use Rattle.std.proofs.Common.{◌≡◌, ℕ, List, [], ◌∷◌, Bool, true, false, refl, sym, ap, ◌∙◌}
use Rattle.std.specs.Prelude.{◌==◌, ◌&&◌}
use Rattle.std.specs.List.{list_all}
use Rattle.sh_token.specs.Bytes.{◌also◌, not_so}
use Rattle.sh_token.specs.Folded.{folded, without}
use Rattle.sh_token.specs.Steps.{as_read, untabbed}
use Rattle.sh_lex.specs.Takes.{stays}

both : (a b : Bool) → (a && b) ≡ true → (a ≡ true) × (b ≡ true)
both true b h = (refl, h)
both false b h = absurd cc

joins_not : (backslash newline : Bool) → not_so backslash ≡ true → (backslash also newline) ≡ false
joins_not true newline h = absurd cc
joins_not false newline h = refl

folded_plain : (text : List ℕ) → list_all stays text ≡ true → folded text ≡ text
folded_plain [] h = refl
folded_plain (c ∷ []) h = refl
folded_plain (c ∷ (d ∷ cs)) h =
    let k = both (stays c) (list_all stays (d ∷ cs)) h in
    ap (λ j. without j c (folded (d ∷ cs)) (folded cs)) (joins_not (c == 92) (d == 10) k.0) ∙ ap (λ l. c ∷ l) (folded_plain (d ∷ cs) k.1)

untabbed_plain : (begins : Bool) (text : List ℕ) → untabbed false begins text ≡ text
untabbed_plain begins [] = refl
untabbed_plain begins (c ∷ cs) = ap (λ l. c ∷ l) (untabbed_plain (c == 10) cs)

pub read_plain : (raw tabs begins : Bool) (text : List ℕ) → tabs ≡ false → list_all stays text ≡ true → text ≡ as_read raw tabs begins text
read_plain true false begins text t h = sym (untabbed_plain begins text)
read_plain false false begins text t h = sym (ap (untabbed false begins) (folded_plain text h) ∙ untabbed_plain begins text)
read_plain raw true begins text t h = absurd cc
