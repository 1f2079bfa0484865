-- No reserved word stands where a byte does with which none begins.
use Rattle.std.proofs.Common.{◌≡◌, ℕ, List, [], ◌∷◌, Bool, true, false, None, refl, sym, ap, ◌∙◌, drop}
use Rattle.std.specs.Prelude.{◌==◌, if◌then◌else◌, slice_index, codes}
use Rattle.sh_token.specs.Bytes.{◌or◌, ◌also◌}
use Rattle.sh_token.specs.Tokens.{Look}
use Rattle.sh_token.specs.Reserved.{is_word, opener, closer, may_open, may_close}

neither : (a b : Bool) → (a or b) ≡ false → (a ≡ false) × (b ≡ false)
neither true b h = absurd cc
neither false b h = (refl, h)

no_word : (w : ℕ) (ws text : List ℕ) → (slice_index text 0 == w) ≡ false → is_word (w ∷ ws) text ≡ false
no_word w ws text h = ap (λ b. b also is_word ws (drop 1 text)) h

if_not : (b : Bool) (x y : Look) → b ≡ false → (if b then x else y) ≡ y
if_not true x y h = absurd cc
if_not false x y h = refl

opens_none : (text : List ℕ) → may_open (slice_index text 0) ≡ false → opener text ≡ None
unfolding opener
opens_none text h =
    let a = neither _ _ h in
    let b = neither _ _ a.1 in
    let c = neither _ _ b.1 in
    let d = neither _ _ c.1 in
    let e = neither _ _ d.1 in
    let f = neither _ _ e.1 in
    if_not (is_word (33 ∷ []) text) _ _ (no_word 33 [] text a.0)
    ∙ if_not (is_word (123 ∷ []) text) _ _ (no_word 123 [] text b.0)
    ∙ if_not (is_word (codes "if") text) _ _ (no_word 105 (codes "f") text c.0)
    ∙ if_not (is_word (codes "for") text) _ _ (no_word 102 (codes "or") text d.0)
    ∙ if_not (is_word (codes "case") text) _ _ (no_word 99 (codes "ase") text e.0)
    ∙ if_not (is_word (codes "while") text) _ _ (no_word 119 (codes "hile") text f.0)
    ∙ if_not (is_word (codes "until") text) _ _ (no_word 117 (codes "ntil") text f.1)

pub none_opens : (text : List ℕ) (c : ℕ) (may : Bool) → c ≡ slice_index text 0 → may ≡ may_open c → may ≡ false → None ≡ opener text
none_opens text c may e f g = sym (opens_none text (sym (f ∙ ap may_open e) ∙ g))

closes_none : (text : List ℕ) → may_close (slice_index text 0) ≡ false → closer text ≡ None
unfolding closer
closes_none text h =
    let a = neither _ _ h in
    let b = neither _ _ a.1 in
    let c = neither _ _ b.1 in
    let d = neither _ _ c.1 in
    if_not (is_word (125 ∷ []) text) _ _ (no_word 125 [] text a.0)
    ∙ if_not (is_word (codes "then") text) _ _ (no_word 116 (codes "hen") text b.0)
    ∙ if_not (is_word (codes "else") text) _ _ (no_word 101 (codes "lse") text c.0)
    ∙ if_not (is_word (codes "elif") text) _ _ (no_word 101 (codes "lif") text c.0)
    ∙ if_not (is_word (codes "fi") text) _ _ (no_word 102 (codes "i") text d.0)
    ∙ if_not (is_word (codes "do") text) _ _ (no_word 100 (codes "o") text d.1)
    ∙ if_not (is_word (codes "done") text) _ _ (no_word 100 (codes "one") text d.1)

pub none_closes : (text : List ℕ) (c : ℕ) (may : Bool) → c ≡ slice_index text 0 → may ≡ may_close c → may ≡ false → None ≡ closer text
none_closes text c may e f g = sym (closes_none text (sym (f ∙ ap may_close e) ∙ g))
