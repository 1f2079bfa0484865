-- The values of a trace.
use Rattle.std.proofs.Common.{◌≡◌, ℕ, ◌+◌, ◌<◌, List, [], ◌∷◌, ◌++◌, false, length, map, get_or, drop, codes, refl, sym, ap, ◌∙◌, add-one, append_assoc, drop-cons}
use Rattle.serde_json.specs.Data.{Data, Members, array, number, member, no_members, put}
use Rattle.serde_json.specs.View.{items_of}
use Rattle.serde_json.specs.Written.{has_float, items_have_float}
use Rattle.rk_base.specs.Text.{Text}
use Rattle.tr_record.specs.declared.records.Record.{Record}
use Rattle.rk_show.specs.Json.{record_data, records_data, text_data, words_data}

-- six members, put one after another by name
pub six : (argv exit ordinal steps turns wd : Data) (a b c d e f g : Members) → a ≡ no_members → b ≡ put (codes "argv") argv a → c ≡ put (codes "exit") exit b → d ≡ put (codes "ordinal") ordinal c → e ≡ put (codes "steps") steps d → f ≡ put (codes "turns") turns e → g ≡ put (codes "wd") wd f
    → g ≡ member (codes "argv") argv (member (codes "exit") exit (member (codes "ordinal") ordinal (member (codes "steps") steps (member (codes "turns") turns (member (codes "wd") wd no_members)))))
six argv exit ordinal steps turns wd a b c d e f g is_a is_b is_c is_d is_e is_f is_g = rw (is_g, is_f, is_e, is_d, is_c, is_b, is_a) refl

-- No value has a float.

words-no_float : (words : List Text) → items_have_float (words_data words) ≡ false
words-no_float [] = refl
words-no_float (word ∷ words) = words-no_float words

record-no_float : (rec : Record) → has_float (record_data rec) ≡ false
record-no_float rec = rw (words-no_float rec.key.argv) refl

pub records-no_float : (table : List Record) → has_float (array (records_data table)) ≡ false
records-no_float [] = refl
records-no_float (rec ∷ table) = rw (record-no_float rec) (records-no_float table)

map-last : {A B : Type 0} (f : A → B) (xs : List A) (x : A) → map f (xs ++ x ∷ []) ≡ map f xs ++ f x ∷ []
map-last f [] x = refl
map-last f (y ∷ ys) x = ap (λ t. f y ∷ t) (map-last f ys x)

-- one more value stands for one more thing
pub pushed : {A V : Type 0} (see : V → Data) (of : A → Data) (xs : List A) (i : ℕ) (x : A) (before after : List V) (v : V) → i < length xs → x ≡ get_or xs i x → after ≡ before ++ v ∷ [] → see v ≡ of x → map see before ++ map of (drop i xs) ≡ map of xs → map see after ++ map of (drop (i + 1) xs) ≡ map of xs
pushed see of xs i x before after v h at is seen so_far =
    let split : get_or xs i x ∷ drop (i + 1) xs ≡ drop i xs = rw add-one (sym (drop-cons xs i x h)) in
    ap (λ vs. map see vs ++ map of (drop (i + 1) xs)) is
    ∙ ap (λ ds. ds ++ map of (drop (i + 1) xs)) (map-last see before v)
    ∙ append_assoc (map see before) (see v ∷ []) (map of (drop (i + 1) xs))
    ∙ ap (λ d. map see before ++ (d ∷ map of (drop (i + 1) xs))) (seen ∙ ap of at)
    ∙ ap (λ t. map see before ++ map of t) split
    ∙ so_far
