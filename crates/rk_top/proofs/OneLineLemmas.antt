-- A session has one line: no two stages are reached.
use Rattle.std.proofs.Common.{◌≡◌, ℕ, zero, suc, List, None, sym, ap, subst, ◌∙◌}
use Rattle.rk_calls.specs.Keys.{KeyValue}
use Rattle.rk_calls.specs.Talk.{Says}
use Rattle.tr_record.specs.declared.records.Record.{Record}
use Rattle.rk_folder.specs.Attributes.{with_rows}
use Rattle.rk_folder.specs.Hidden.{install_file}
use Rattle.rk_folder.specs.Import.{snapshot_of}
use Rattle.rk_folder.specs.Told.{standing}
use Rattle.rk_gen.proofs.PlainLemmas.{edits-plainly, starts-plainly}
use Rattle.rk_build.specs.Fresh.{held_after}
use Rattle.rk_build.specs.Kept.{state_in}
use Rattle.rk_build.specs.Run.{fresh_run}
use Rattle.rk_build.proofs.PushedLemmas.{pushed-one, spelt-are}
use Rattle.rk_changes.specs.Holdings.{IsAfter}
use Rattle.tr_record.specs.Generations.{AreGenerations}
use Rattle.rk_changes.proofs.HiddenLemmas.{install_hidden}
use Rattle.rk_changes.proofs.HoldingLemmas.{after-one, none-after}
use Rattle.rk_kernel.specs.World.{World}
use Rattle.rk_traces.specs.Run.{Outcome as Run, Done, Spent}
use Rattle.rk_top.specs.Generated.{ComesTo, HaveOneLine, IsBuilt, Reaches, Stage, edit_after, edited_stage, line_of_stage, plain_build, start_of, workload_after}
use Rattle.rk_top.proofs.GeneratedLemmas.{one-kept, same-stage}

-- No list of calls stands, from the start on.

comes-none : (r : Run World) (old : List (List Record)) (before after : Stage) → standing before.held install_file ≡ None → ComesTo r old before after → standing after.held install_file ≡ None
comes-none (Done world status left table) old before after none c = none-after before.held after.held (held_after world c.kept) c.is_after none
comes-none Spent old before after none same = ap (λ (s : Stage). standing s.held install_file) same ∙ none

built-none : (first : KeyValue → Says) (before after : Stage) → standing before.held install_file ≡ None → IsBuilt first before after → standing after.held install_file ≡ None
built-none first before after none x = comes-none (fresh_run first plain_build (with_rows (snapshot_of before.held) x.rows)) x.old before after none x.so

start-none : (seed : ℕ) → standing (start_of seed).held install_file ≡ None
start-none seed = (starts-plainly seed).hidden install_file install_hidden

edited-none : (seed n : ℕ) (before : Stage) → standing before.held install_file ≡ None → standing (edited_stage (edit_after seed n) before).held install_file ≡ None
edited-none seed n before none = (edits-plainly (workload_after seed n) before.held).hidden install_file install_hidden ∙ none

none-reached : (first : KeyValue → Says) (seed n : ℕ) (stage : Stage) → Reaches first seed n stage → standing stage.held install_file ≡ None
unfolding Reaches
none-reached first seed zero stage x = built-none first (start_of seed) stage (start-none seed) x
none-reached first seed (suc n) stage x = built-none first (edited_stage (edit_after seed n) x.0) stage (edited-none seed n x.0 (none-reached first seed n x.0 x.1.0)) x.1.1

-- So a build comes to one stage.

comes-one : (r : Run World) (old : List (List Record)) (before a b : Stage) → AreGenerations old → standing before.held install_file ≡ None → ComesTo r old before a → ComesTo r old before b → a ≡ b
comes-one (Done world status left table) old before a b are none x y =
    let same : y.kept ≡ x.kept = pushed-one table old y.kept x.kept are y.pushed x.pushed in
    let goes : IsAfter before.held b.held (held_after world x.kept) = subst (λ (k : List (List Record)). IsAfter before.held b.held (held_after world k)) same y.is_after in
    same-stage a b (after-one before.held a.held b.held (held_after world x.kept) none x.is_after goes) (x.sums ∙ sym y.sums)
comes-one Spent old before a b are none x y = x ∙ sym y

built-one : (first : KeyValue → Says) (before a b : Stage) → standing before.held install_file ≡ None → IsBuilt first before a → IsBuilt first before b → a ≡ b
built-one first before a b none x y =
    comes-one (fresh_run first plain_build (with_rows (snapshot_of before.held) x.rows)) x.old before a b (spelt-are (state_in before.held).db x.old x.kept.1.0) none x.so
    (one-kept before.held _ (λ entries old. ComesTo (fresh_run first plain_build entries) old before b) x y)

reaches-one : (first : KeyValue → Says) (seed n : ℕ) (a b : Stage) → Reaches first seed n a → Reaches first seed n b → a ≡ b
unfolding Reaches
reaches-one first seed zero a b x y = built-one first (start_of seed) a b (start-none seed) x y
reaches-one first seed (suc n) a b x y =
    built-one first (edited_stage (edit_after seed n) x.0) a b (edited-none seed n x.0 (none-reached first seed n x.0 x.1.0)) x.1.1
    (subst (λ (s : Stage). IsBuilt first (edited_stage (edit_after seed n) s) b) (sym (reaches-one first seed n x.0 y.0 x.1.0 y.1.0)) y.1.1)

pub one-line : HaveOneLine
one-line first seed before now line before' now' line' x y =
    x.told ∙ ap (line_of_stage seed) (reaches-one first seed 20 x.stage y.stage x.session y.session) ∙ sym y.told
