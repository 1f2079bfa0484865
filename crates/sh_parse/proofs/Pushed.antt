-- Symbols put on top, the last of them first, and the first by itself.
use Rattle.std.proofs.Common.{◌≡◌, List, [], ◌∷◌, ◌++◌, Option, map, reverse, sym, ap, ◌∙◌}
use Rattle.std.specs.Prelude.{option_to_list}
use Rattle.std.proofs.lemmas.List.{map-append, reverse-append, append_assoc}

pub last_pushed : {A : Type 0} (left front : List A) (last : A) (under under' : List A) → left ≡ front ++ last ∷ [] → under' ≡ under ++ last ∷ [] → front ++ reverse under' ≡ left ++ reverse under
last_pushed left front last under under' e h =
    ap (λ u. front ++ reverse u) h
    ∙ ap (λ t. front ++ t) (reverse-append under (last ∷ []))
    ∙ sym (append_assoc front (last ∷ []) (reverse under))
    ∙ sym (ap (λ l. l ++ reverse under) e)

pub all_pushed : {A B : Type 0} (f : A → B) (symbols behind : List A) (first : A) (next : Option A) (under with_next with_all : List A) → symbols ≡ first ∷ behind → reverse with_next ≡ option_to_list next ++ reverse under → reverse with_all ≡ behind ++ reverse with_next → map f (first ∷ reverse with_all) ≡ map f symbols ++ map f (option_to_list next ++ reverse under)
all_pushed f symbols behind first next under with_next with_all e n a =
    ap (λ t. map f (first ∷ t)) (a ∙ ap (λ t. behind ++ t) n)
    ∙ map-append f (first ∷ behind) (option_to_list next ++ reverse under)
    ∙ sym (ap (λ l. map f l ++ map f (option_to_list next ++ reverse under)) e)
