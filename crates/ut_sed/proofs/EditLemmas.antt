-- One command of a cycle, and one line of many.
use Rattle.std.proofs.Common.{◌≡◌, ℕ, ◌+◌, ◌<◌, List, [], ◌∷◌, ◌++◌, length, Bool, true, false, cond, ap, sym, ◌∙◌, arith, append_assoc}
use Rattle.std.specs.Prelude.{if◌then◌else◌}
use Rattle.rk_base.specs.Canonical.{is_empty}
use Rattle.rk_base.specs.Text.{Text}
use Rattle.ut_filter.proofs.OutputLemmas.{put_nothing, put_more}
use Rattle.ut_filter.specs.declared.made.Input.{Input}
use Rattle.ut_filter.specs.Outputs.{Growing, put}
use Rattle.ut_filter.specs.Parts.{all_lines}
use Rattle.ut_sed.specs.declared.command.Command.{Command}
use Rattle.ut_sed.specs.declared.edit.Ends.{Ends}
use Rattle.ut_sed.specs.declared.select.Selected.{Selected}
use Rattle.ut_sed.specs.Commands.{CommandValue, commands_of}
use Rattle.ut_sed.specs.Selecting.{selected}
use Rattle.ut_sed.specs.Editing.{SedValue, Cycle, edited_by, first_opened, rest_opened, is_over, is_quit, behind, cycle, shown, edited_lines}

pub cycle_more : (c : CommandValue) (cs : List CommandValue) (opened : List Bool) (n : ℕ) (is_last : Bool) (text : Text) → is_over (edited_by c (selected c (first_opened opened) n is_last text) n text).ends ≡ false → cycle (c ∷ cs) opened n is_last text ≡ behind (selected c (first_opened opened) n is_last text).opened (edited_by c (selected c (first_opened opened) n is_last text) n text).out (cycle cs (rest_opened opened) n is_last (edited_by c (selected c (first_opened opened) n is_last text) n text).text)
cycle_more c cs opened n is_last text h =
    let s = selected c (first_opened opened) n is_last text in
    let e = edited_by c s n text in
    ap (λ b. behind s.opened e.out (cond b (record { opened = rest_opened opened; text = e.text; out = []; ends = e.ends }) (cycle cs (rest_opened opened) n is_last e.text))) h

pub cycle_over : (c : CommandValue) (cs : List CommandValue) (opened : List Bool) (n : ℕ) (is_last : Bool) (text : Text) → is_over (edited_by c (selected c (first_opened opened) n is_last text) n text).ends ≡ true → cycle (c ∷ cs) opened n is_last text ≡ behind (selected c (first_opened opened) n is_last text).opened (edited_by c (selected c (first_opened opened) n is_last text) n text).out (record { opened = rest_opened opened; text = (edited_by c (selected c (first_opened opened) n is_last text) n text).text; out = []; ends = (edited_by c (selected c (first_opened opened) n is_last text) n text).ends })
cycle_over c cs opened n is_last text h =
    let s = selected c (first_opened opened) n is_last text in
    let e = edited_by c s n text in
    ap (λ b. behind s.opened e.out (cond b (record { opened = rest_opened opened; text = e.text; out = []; ends = e.ends }) (cycle cs (rest_opened opened) n is_last e.text))) h

-- one line, behind which others come, or not
pub lines_more : (s : SedValue) (opened opened' : List Bool) (n : ℕ) (line : Text) (lines : List Text) (out out' whole : Growing) → put out (edited_lines s opened n (line ∷ lines)) ≡ whole → out' ≡ put out ((cycle s.commands opened n (is_empty lines) line).out ++ shown s.quiet (cycle s.commands opened n (is_empty lines) line).ends (cycle s.commands opened n (is_empty lines) line).text) → opened' ≡ (cycle s.commands opened n (is_empty lines) line).opened → is_quit (cycle s.commands opened n (is_empty lines) line).ends ≡ false → put out' (edited_lines s opened' (n + 1) lines) ≡ whole
lines_more s opened opened' n line lines out out' whole h o p q =
    let c = cycle s.commands opened n (is_empty lines) line in
    let w = c.out ++ shown s.quiet c.ends c.text in
    let k : cond (is_quit c.ends) [] (edited_lines s c.opened (n + 1) lines) ≡ edited_lines s c.opened (n + 1) lines = ap (λ b. cond b [] (edited_lines s c.opened (n + 1) lines)) q in
    let a : put out' (edited_lines s opened' (n + 1) lines) ≡ put (put out w) (edited_lines s opened' (n + 1) lines) = ap (λ (g : Growing). put g (edited_lines s opened' (n + 1) lines)) o in
    let b : put (put out w) (edited_lines s opened' (n + 1) lines) ≡ put (put out w) (edited_lines s c.opened (n + 1) lines) = ap (λ (l : List Bool). put (put out w) (edited_lines s l (n + 1) lines)) p in
    let g : put (put out w) (edited_lines s c.opened (n + 1) lines) ≡ put out (w ++ edited_lines s c.opened (n + 1) lines) = put_more out w (edited_lines s c.opened (n + 1) lines) in
    let i : put out (w ++ edited_lines s c.opened (n + 1) lines) ≡ put out (edited_lines s opened n (line ∷ lines)) = ap (λ (t : Text). put out (w ++ t)) (sym k) in
    a ∙ b ∙ g ∙ i ∙ h

pub lines_quit : (s : SedValue) (opened : List Bool) (n : ℕ) (line : Text) (lines : List Text) (out out' whole : Growing) → put out (edited_lines s opened n (line ∷ lines)) ≡ whole → out' ≡ put out ((cycle s.commands opened n (is_empty lines) line).out ++ shown s.quiet (cycle s.commands opened n (is_empty lines) line).ends (cycle s.commands opened n (is_empty lines) line).text) → is_quit (cycle s.commands opened n (is_empty lines) line).ends ≡ true → put out' [] ≡ whole
lines_quit s opened n line lines out out' whole h o q =
    let c = cycle s.commands opened n (is_empty lines) line in
    let w = c.out ++ shown s.quiet c.ends c.text in
    let k : cond (is_quit c.ends) [] (edited_lines s c.opened (n + 1) lines) ≡ [] = ap (λ b. cond b [] (edited_lines s c.opened (n + 1) lines)) q in
    let a : put out' [] ≡ put (put out w) [] = ap (λ (g : Growing). put g []) o in
    let g : put (put out w) [] ≡ put out (w ++ []) = put_more out w [] in
    let i : put out (w ++ []) ≡ put out (edited_lines s opened n (line ∷ lines)) = ap (λ (t : Text). put out (w ++ t)) (sym k) in
    a ∙ g ∙ i ∙ h

-- the output behind the last command, behind a line that ends all, and behind the last input

pub commands_end : (out : Growing) (rest : List Command) (ranges : List Bool) (n : ℕ) (is_last : Bool) (text : Text) → length rest < 1 → put out (cycle (commands_of rest) ranges n is_last text).out ≡ out
commands_end out [] ranges n is_last text lt = put_nothing out
commands_end out (c ∷ cs) ranges n is_last text lt = absurd (omega arith)

-- behind a command that doesn't end the cycle
module _ (c : CommandValue) (cs all : List CommandValue) (opened opened' : List Bool) (n : ℕ) (is_last : Bool) (text text' : Text) (s : Selected) (at : all ≡ c ∷ cs) (is : s ≡ selected c (first_opened opened) n is_last text) (t : text' ≡ (edited_by c s n text).text) (r : opened' ≡ rest_opened opened) (over : is_over (edited_by c s n text).ends ≡ false) where
  cycle-step : cycle all opened n is_last text ≡ behind s.opened (edited_by c s n text).out (cycle cs opened' n is_last text')
  cycle-step =
      let z : Selected = selected c (first_opened opened) n is_last text in
      let over' : is_over (edited_by c z n text).ends ≡ false = ap (λ (x : Selected). is_over (edited_by c x n text).ends) (sym is) ∙ over in
      ap (λ (x : List CommandValue). cycle x opened n is_last text) at
      ∙ cycle_more c cs opened n is_last text over'
      ∙ ap (λ (x : Selected). behind x.opened (edited_by c x n text).out (cycle cs (rest_opened opened) n is_last (edited_by c x n text).text)) (sym is)
      ∙ ap (λ (x : Text). behind s.opened (edited_by c s n text).out (cycle cs (rest_opened opened) n is_last x)) (sym t)
      ∙ ap (λ (x : List Bool). behind s.opened (edited_by c s n text).out (cycle cs x n is_last text')) (sym r)

  pub opened_on : (next next' whole : List Bool) → next ++ (cycle all opened n is_last text).opened ≡ whole → next' ≡ next ++ s.opened ∷ [] → next' ++ (cycle cs opened' n is_last text').opened ≡ whole
  opened_on next next' whole h o =
      let more : List Bool = (cycle cs opened' n is_last text').opened in
      ap (λ (x : List Bool). x ++ more) o ∙ append_assoc next (s.opened ∷ []) more ∙ ap (λ (k : Cycle). next ++ k.opened) (sym cycle-step) ∙ h

  pub text_on : (whole : Text) → (cycle all opened n is_last text).text ≡ whole → (cycle cs opened' n is_last text').text ≡ whole
  text_on whole h = ap (λ (k : Cycle). k.text) (sym cycle-step) ∙ h

  pub ends_on : (whole : Ends) → (cycle all opened n is_last text).ends ≡ whole → (cycle cs opened' n is_last text').ends ≡ whole
  ends_on whole h = ap (λ (k : Cycle). k.ends) (sym cycle-step) ∙ h

  pub out_on : (out out' whole : Growing) → put out (cycle all opened n is_last text).out ≡ whole → out' ≡ put out (edited_by c s n text).out → put out' (cycle cs opened' n is_last text').out ≡ whole
  out_on out out' whole h o =
      let more : Text = (cycle cs opened' n is_last text').out in
      ap (λ (g : Growing). put g more) o ∙ put_more out (edited_by c s n text).out more ∙ ap (λ (k : Cycle). put out k.out) (sym cycle-step) ∙ h

-- an input behind which nothing comes, and the last one
pub quit_end : (out : Growing) (quits : Bool) (more : Text) → quits ≡ true → put out (if quits then [] else more) ≡ out
quit_end out quits more e = ap (λ (b : Bool). put out (if b then [] else more)) e ∙ put_nothing out

pub inputs_end : (out : Growing) (s : SedValue) (opened : List Bool) (n : ℕ) (rest : List Input) → length rest < 1 → put out (edited_lines s opened n (all_lines rest)) ≡ out
inputs_end out s opened n [] lt = put_nothing out
inputs_end out s opened n (input ∷ inputs) lt = absurd (omega arith)

pub inputs_quit : (out out' whole : Growing) (s : SedValue) (opened : List Bool) (n : ℕ) (quits : Bool) (more : Text) (lines all : List Text) → put out' (if quits then [] else more) ≡ put out (edited_lines s opened n lines) → quits ≡ true → lines ≡ all → put out (edited_lines s opened n all) ≡ whole → out' ≡ whole
inputs_quit out out' whole s opened n quits more lines all h q e w =
    sym (quit_end out' quits more q) ∙ h ∙ ap (λ (ls : List Text). put out (edited_lines s opened n ls)) e ∙ w
