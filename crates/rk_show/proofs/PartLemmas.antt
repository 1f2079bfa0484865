-- Texts that are put one after another.
use Rattle.std.proofs.Common.{◌≡◌, ◌++◌, ap, ◌∙◌, append_assoc}
use Rattle.rk_base.specs.Text.{Text}

-- four texts, each after what stands before it, are one text after the first
pub in-turn : (old a b c d one two three four : Text) → one ≡ old ++ a → two ≡ one ++ b → three ≡ two ++ c → four ≡ three ++ d → four ≡ old ++ (a ++ (b ++ (c ++ d)))
in-turn old a b c d one two three four is_a is_b is_c is_d =
    is_d ∙ ap (λ (t : Text). t ++ d) (is_c ∙ ap (λ (t : Text). t ++ c) (is_b ∙ ap (λ (t : Text). t ++ b) is_a))
    ∙ append_assoc ((old ++ a) ++ b) c d ∙ append_assoc (old ++ a) b (c ++ d) ∙ append_assoc old a (b ++ (c ++ d))
