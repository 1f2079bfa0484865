-- Records that are counted, one after another.
use Rattle.std.proofs.Common.{◌≡◌, ℕ, ◌+◌, ◌<◌, ◌++◌, ◌∙◌, List, length, ap, append_assoc, get_or, drop, sym, subst, add-one, drop-cons}
use Rattle.std.specs.List.{AllByRecursion}
use Rattle.rk_base.specs.Text.{Text}
use Rattle.tr_record.specs.declared.records.Record.{Record}
use Rattle.rk_show.specs.Traces.{IsCounted}

-- of those that are left the first is counted, and so are the others
pub counted-at : (table : List Record) (i : ℕ) (rec : Record) → i < length table → rec ≡ get_or table i rec → AllByRecursion IsCounted (drop i table) → IsCounted rec × AllByRecursion IsCounted (drop (i + 1) table)
counted-at table i rec h is all =
    let split = rw (drop-cons table i rec h) at all in
    (subst IsCounted (sym is) split.0, rw add-one split.1)

-- the counts of a record, put in turn
pub counts-in-turn : (old steps a turns b exit one two three : Text) → one ≡ old ++ (steps ++ a) → two ≡ one ++ (turns ++ b) → three ≡ two ++ exit → three ≡ old ++ (steps ++ (a ++ (turns ++ (b ++ exit))))
counts-in-turn old steps a turns b exit one two three is_one is_two is_three =
    is_three ∙ ap (λ (t : Text). t ++ exit) (is_two ∙ ap (λ (t : Text). t ++ (turns ++ b)) is_one)
    ∙ append_assoc (old ++ (steps ++ a)) (turns ++ b) exit
    ∙ append_assoc old (steps ++ a) ((turns ++ b) ++ exit)
    ∙ ap (λ (t : Text). old ++ t) (append_assoc steps a ((turns ++ b) ++ exit))
    ∙ ap (λ (t : Text). old ++ (steps ++ (a ++ t))) (append_assoc turns b exit)
