-- A set is read item by item.
use Rattle.std.proofs.Common.{◌≡◌, ℕ, zero, suc, ◌+◌, ◌-◌, ◌≤◌, List, [], ◌∷◌, ◌++◌, drop, drop-drop, refl, sym, ap, ◌∙◌, arith, add-zero, subst, Bool, true, false, ◌||◌}
use Rattle.std.specs.Prelude.{Some, None}
use Rattle.std.proofs.lemmas.List.Folds.{list_any-append}
use Rattle.rk_base.specs.Text.{Text}
use Rattle.sh_pattern.specs.declared.set.Item.{Item}
use Rattle.sh_pattern.specs.Sets.{set_of, set_from, item_at, closes, in_items, in_item, ScansTo, Scanned}

pub set-skip : (items : List Item) (at skip : ℕ) (text : Text) → set_from items at skip text ≡ set_from items (at + skip) 0 (drop skip text)
set-skip items at zero text = ap (λ n. set_from items n 0 text) (sym (add-zero at))
set-skip items at (suc skip) [] = refl
set-skip items at (suc skip) (b ∷ bs) = set-skip items (at + 1) skip bs ∙ ap (λ n. set_from items n 0 (drop skip bs)) (let e : (at + 1) + skip ≡ at + suc skip = omega arith in e)

drop_step : (at : ℕ) (text : Text) (b : ℕ) (bs : Text) (size : ℕ) → drop at text ≡ b ∷ bs → 1 ≤ size → drop (size - 1) bs ≡ drop (at + size) text
drop_step at text b bs zero e h = absurd (omega arith)
drop_step at text b bs (suc n) e h =
    let f : suc n - 1 ≡ n = omega arith in
    ap (λ k. drop k bs) f ∙ (ap (drop (suc n)) (sym e) ∙ drop-drop (suc n) at text)

pub set-step : (items : List Item) (at : ℕ) (text : Text) (b : ℕ) (bs : Text) (item : Item) (size : ℕ) → drop at text ≡ b ∷ bs → closes at b ≡ false → item_at b bs ≡ (item, size) → 1 ≤ size → set_from items at 0 (drop at text) ≡ set_from (items ++ item ∷ []) (at + size) 0 (drop (at + size) text)
set-step items at text b bs item size e c i h =
    ap (set_from items at 0) e ∙ (stepped ∙ (set-skip (items ++ item ∷ []) (at + 1) (size - 1) bs ∙ (ap (λ n. set_from (items ++ item ∷ []) n 0 (drop (size - 1) bs)) (let f : (at + 1) + (size - 1) ≡ at + size = omega arith in f) ∙ ap (set_from (items ++ item ∷ []) (at + size) 0) (drop_step at text b bs size e h))))
  where
    stepped : set_from items at 0 (b ∷ bs) ≡ set_from (items ++ item ∷ []) (at + 1) (size - 1) bs
    stepped = rw (c, i) refl

or_false : (b : Bool) → (b || false) ≡ b
or_false true = refl
or_false false = refl

pub in_items-push : (items : List Item) (item : Item) (b : ℕ) → in_items (items ++ item ∷ []) b ≡ (in_items items b || in_item item b)
in_items-push items item b = list_any-append (λ x. in_item x b) items (item ∷ []) ∙ ap (λ y. in_items items b || y) (or_false (in_item item b))

pub items-step : (text : Text) (at : ℕ) (b : ℕ) (bs : Text) (item : Item) (size x : ℕ) (held now : Bool) → drop at text ≡ b ∷ bs → closes at b ≡ false → item_at b bs ≡ (item, size) → 1 ≤ size → now ≡ (held || in_item item x) → Scanned text x held at → Scanned text x now (at + size)
items-step text at b bs item size x held now e c i h n (items, s, is) =
    (items ++ item ∷ [], s ∙ set-step items at text b bs item size e c i h, n ∙ (ap (λ y. y || in_item item x) is ∙ sym (in_items-push items item x)))

pub closed : (text : Text) (at : ℕ) (b : ℕ) (bs : Text) (x : ℕ) (held : Bool) → drop at text ≡ b ∷ bs → closes at b ≡ true → Scanned text x held at → ScansTo x (set_of text) (Some (held, at))
closed text at b bs x held e c (items, s, is) =
    subst (λ r. ScansTo x r (Some (held, at))) (sym (s ∙ (ap (set_from items at 0) e ∙ ended))) (ap (λ y. Some (y, at)) is)
  where
    ended : set_from items at 0 (b ∷ bs) ≡ Some (record { items = items; close = at })
    ended = rw c refl

pub unclosed : (text : Text) (at : ℕ) (x : ℕ) (held : Bool) → drop at text ≡ [] → Scanned text x held at → ScansTo x (set_of text) None
unclosed text at x held e (items, s, is) = subst (λ r. ScansTo x r None) (sym (s ∙ ap (set_from items at 0) e)) refl
