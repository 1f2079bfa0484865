-- The list of the commands that ran.
use Rattle.std.proofs.Common.{◌≡◌, ℕ, ◌+◌, ◌<◌, List, [], ◌∷◌, ◌++◌, length, take, refl, sym, ◌∙◌, ap, Option, Some, None, get_or}
use Rattle.std.specs.Prelude.{filter_map}
use Rattle.std.specs.List.{cons_option}
use Rattle.std.proofs.lemmas.List.{take_more}
use Rattle.tr_record.specs.declared.records.Record.{Record}
use Rattle.rk_replay.specs.declared.ran.Ran.{Ran}
use Rattle.rk_replay.specs.Ran.{cause_of, ran_for, ran_of}

mapped-more : {X Y : Type 0} (f : X → Option Y) (xs : List X) (x : X) → filter_map f (xs ++ x ∷ []) ≡ filter_map f xs ++ cons_option (f x) []
mapped-more f [] x = refl
mapped-more {X} {Y} f (y ∷ xs) x =
    elim (f y) as (λ o. cons_option o (filter_map f (xs ++ x ∷ [])) ≡ cons_option o (filter_map f xs) ++ cons_option (f x) []) [ None ↦ mapped-more f xs x | Some z ↦ ap (λ l. z ∷ l) (mapped-more f xs x) ]

-- one record more
pub ran-more : (old xs : List Record) (i : ℕ) (x : Record) (ran ran' : List Ran) → i < length xs → x ≡ get_or xs i x → ran ≡ ran_of old (take i xs) → ran' ≡ ran ++ cons_option (ran_for x (cause_of old x)) [] → ran' ≡ ran_of old (take (i + 1) xs)
unfolding ran_of
ran-more old xs i x ran ran' h ex e e' =
    let more : take (i + 1) xs ≡ take i xs ++ x ∷ [] = take_more xs i x h ∙ ap (λ y. take i xs ++ y ∷ []) (sym ex) in
    e' ∙ ap (λ l. l ++ cons_option (ran_for x (cause_of old x)) []) e
    ∙ sym (ap (filter_map (λ rec. ran_for rec (cause_of old rec))) more ∙ mapped-more (λ rec. ran_for rec (cause_of old rec)) (take i xs) x)
