-- Lines that stand in other texts, in order.
use Rattle.std.proofs.Common.{◌≡◌, List, [], ◌∷◌, map, refl, sym, ap, ◌∙◌}
use Rattle.std.specs.Ordering.{is_lt}
use Rattle.rk_base.specs.Text.{Text}
use Rattle.ut_sort.specs.declared.line.Line.{Line}
use Rattle.ut_sort.specs.Ordered.{ordered}
use Rattle.ut_sort.specs.Orders.{SortValue, LineValue, line_of, found_cmp}
use Rattle.ut_sort.specs.Sorts.{view, views, texts, in_order}
use Rattle.ut_sort.proofs.OrderedLemmas.{map-ordered}

texts-views : (lines : List Line) → texts lines ≡ map (λ (l : LineValue). l.text) (views lines)
texts-views [] = refl
texts-views (x ∷ xs) = ap (λ l. x.text.now ∷ l) (texts-views xs)

texts-lines : (s : SortValue) (lines : List Text) → map (λ (l : LineValue). l.text) (map (line_of s) lines) ≡ lines
texts-lines s [] = refl
texts-lines s (x ∷ xs) = ap (λ l. x ∷ l) (texts-lines s xs)

pub texts_in_order : (s : SortValue) (old new : List Line) (lines : List Text) → views old ≡ map (line_of s) lines → new ≡ ordered (λ a b. is_lt (found_cmp s (view a) (view b))) old → texts new ≡ in_order s lines
texts_in_order s old new lines e is =
    let before : LineValue → LineValue → Rattle.std.specs.Prelude.Bool = λ a b. is_lt (found_cmp s a b) in
    ap texts is ∙ (texts-views (ordered (λ a b. is_lt (found_cmp s (view a) (view b))) old)
    ∙ (ap (map (λ (l : LineValue). l.text)) (map-ordered view before old ∙ (ap (ordered before) e ∙ sym (map-ordered (line_of s) before lines)))
    ∙ texts-lines s (in_order s lines)))
