use Rattle.std.proofs.Common.{◌≡◌, ◌+◌, ℕ, zero, suc, List, [], ◌∷◌, drop, refl, sym, ap, arith, ◌∙◌}
use Rattle.sh_lex.proofs.queue.next_of.Goals as goal

one_more : {A : Type 0} (n : ℕ) (xs : List A) → drop 1 (drop n xs) ≡ drop (suc n) xs
one_more zero xs = refl
one_more (suc n) [] = refl
one_more (suc n) (x ∷ xs) = one_more n xs

pub returns-then-done-len-clause-rest : goal.returns-then-done-len-clause-rest
returns-then-done-len-clause-rest c =
    let e : suc c.args.done ≡ c.args.done + 1 = omega arith in
    sym (one_more c.args.done c.args.documents.now.items ∙ ap (λ k. drop k c.args.documents.now.items) e)
