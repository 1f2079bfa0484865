-- Outputs grow by one text after another.
use Rattle.std.proofs.Common.{◌≡◌, ℕ, ◌+◌, ◌-◌, [], ◌++◌, length, leb, Bool, true, false, refl, ap, ◌∙◌, arith, append_assoc, length-append}
use Rattle.std.proofs.lemmas.List.{append-nil}
use Rattle.std.proofs.lemmas.Bool.{leb-true, leb-false, le-leb}
use Rattle.rk_base.specs.Text.{Text}
use Rattle.ut_filter.specs.Outputs.{Growing, Holds, Counts, held, put, grown_of, HasGrown}

pub put_nothing : (o : Growing) → put o [] ≡ o
unfolding put
put_nothing (Holds room text) =
    let e : leb 0 room ≡ true = le-leb 0 room (omega arith) in
    let r : room - 0 ≡ room = omega arith in
    ap (λ (b : Bool). held b room text []) e ∙ ap (λ (n : ℕ). Holds n (text ++ [])) r ∙ ap (Holds room) (append-nil text)
put_nothing (Counts n) = let e : n + 0 ≡ n = omega arith in ap Counts e

held-more : (room : ℕ) (text a b : Text) (t u w : Bool) → leb (length a) room ≡ t → leb (length b) (room - length a) ≡ u → leb (length (a ++ b)) room ≡ w → put (held t room text a) b ≡ held w room text (a ++ b)
unfolding put
held-more room text a b true true true ha hb hw =
    let e : (room - length a) - length b ≡ room - length (a ++ b) = omega (arith, length-append a b) in
    ap (λ (v : Bool). held v (room - length a) (text ++ a) b) hb ∙ ap (λ (n : ℕ). Holds n ((text ++ a) ++ b)) e ∙ ap (Holds (room - length (a ++ b))) (append_assoc text a b)
held-more room text a b true true false ha hb hw =
    let x = leb-true (length a) room ha in
    let y = leb-true (length b) (room - length a) hb in
    let z = leb-false (length (a ++ b)) room hw in
    absurd (omega (arith, length-append a b))
held-more room text a b true false true ha hb hw =
    let x = leb-true (length a) room ha in
    let y = leb-false (length b) (room - length a) hb in
    let z = leb-true (length (a ++ b)) room hw in
    absurd (omega (arith, length-append a b))
held-more room text a b true false false ha hb hw =
    let e : length (text ++ a) + length b ≡ length text + length (a ++ b) = omega (arith, length-append text a, length-append a b) in
    ap (λ (v : Bool). held v (room - length a) (text ++ a) b) hb ∙ ap Counts e
held-more room text a b false u true ha hb hw =
    let x = leb-false (length a) room ha in
    let z = leb-true (length (a ++ b)) room hw in
    absurd (omega (arith, length-append a b))
held-more room text a b false u false ha hb hw =
    let e : (length text + length a) + length b ≡ length text + length (a ++ b) = omega (arith, length-append a b) in
    ap Counts e

-- bytes, and others behind them
pub put_more : (o : Growing) (a b : Text) → put (put o a) b ≡ put o (a ++ b)
unfolding put
put_more (Holds room text) a b = held-more room text a b (leb (length a) room) (leb (length b) (room - length a)) (leb (length (a ++ b)) room) refl refl refl
put_more (Counts n) a b = let e : (n + length a) + length b ≡ n + length (a ++ b) = omega (arith, length-append a b) in ap Counts e

held-whole : (room : ℕ) (whole : Text) (t : Bool) → leb (length whole) room ≡ t → HasGrown whole (grown_of (held t room [] whole))
held-whole room whole true h = refl
held-whole room whole false h = let x = leb-false (length whole) room h in (omega arith, omega arith)

-- what comes of a text that is put into nothing
pub grown_whole : (room : ℕ) (whole : Text) → HasGrown whole (grown_of (put (Holds room []) whole))
unfolding put
grown_whole room whole = held-whole room whole (leb (length whole) room) refl
