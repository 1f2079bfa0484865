use Rattle.std.proofs.Common.{◌≡◌, ℕ, List, ◌∷◌, ◌++◌, Bool, false, sym, ap, ◌∙◌, subst}
use Rattle.rk_base.specs.Canonical.{is_empty}
use Rattle.rk_base.specs.Text.{Text}
use Rattle.ut_filter.specs.Lines.{lines_of}
use Rattle.ut_filter.specs.Outputs.{put}
use Rattle.ut_filter.specs.Parts.{all_lines}
use Rattle.ut_sed.specs.Editing.{SedValue, cycle, shown, edited_lines, is_quit, sed_of}
use Rattle.ut_sed.proofs.EditLemmas.{lines_more, lines_quit}
use Rattle.ut_sed.proofs.sed.Sed.edit_text.Goals as goal

pub returns-then-is_quit : goal.returns-then-is_quit
returns-then-is_quit c =
    let s : SedValue = sed_of c.args.self.now in
    let opened : List Bool = c.lines.progress.opened.items in
    let n : ℕ = c.lines.progress.number in
    let line : Text = c.in-Some.line.now in
    let lines : List Text = lines_of c.in-Some.after.now ++ all_lines c.args.later.now in
    let Out : Bool → Type 0 = λ b. c.edit_line.new.output ≡ put c.lines.output ((cycle s.commands opened n b line).out ++ shown s.quiet (cycle s.commands opened n b line).ends (cycle s.commands opened n b line).text) in
    let Quit : Bool → Type 0 = λ b. is_quit c.in_ok-ends.ends ≡ is_quit (cycle s.commands opened n b line).ends in
    let all = ap (λ (ls : List Text). put c.lines.output (edited_lines s opened n (ls ++ all_lines c.args.later.now))) (sym c.in-Some.ensures.cut) ∙ c.lines.invariant in
    let quit = subst Quit c.is_last-is_last.ensures (ap is_quit c.in_ok-ends.ensures.ends) in
    lines_quit s opened n line lines c.lines.output c.edit_line.new.output _ all (subst Out c.is_last-is_last.ensures c.in_ok-ends.ensures.out) (sym quit ∙ sym c.is_quit.ensures ∙ c.if-is_quit.true)

pub lines-preserved : goal.lines-preserved
lines-preserved c =
    let s : SedValue = sed_of c.args.self.now in
    let opened : List Bool = c.lines.progress.opened.items in
    let next : List Bool = c.edit_line.new.progress.opened.items in
    let n : ℕ = c.lines.progress.number in
    let line : Text = c.in-Some.line.now in
    let lines : List Text = lines_of c.in-Some.after.now ++ all_lines c.args.later.now in
    let Out : Bool → Type 0 = λ b. c.edit_line.new.output ≡ put c.lines.output ((cycle s.commands opened n b line).out ++ shown s.quiet (cycle s.commands opened n b line).ends (cycle s.commands opened n b line).text) in
    let Opened : Bool → Type 0 = λ b. next ≡ (cycle s.commands opened n b line).opened in
    let Quit : Bool → Type 0 = λ b. is_quit c.in_ok-ends.ends ≡ is_quit (cycle s.commands opened n b line).ends in
    let all = ap (λ (ls : List Text). put c.lines.output (edited_lines s opened n (ls ++ all_lines c.args.later.now))) (sym c.in-Some.ensures.cut) ∙ c.lines.invariant in
    let quit = subst Quit c.is_last-is_last.ensures (ap is_quit c.in_ok-ends.ensures.ends) in
    ap (λ (k : ℕ). put c.edit_line.new.output (edited_lines s next k lines)) c.in_ok-ends.ensures.number
    ∙ lines_more s opened next n line lines c.lines.output c.edit_line.new.output _ all (subst Out c.is_last-is_last.ensures c.in_ok-ends.ensures.out) (subst Opened c.is_last-is_last.ensures c.in_ok-ends.ensures.opened) (sym quit ∙ sym c.is_quit.ensures ∙ c.if-is_quit.false)
