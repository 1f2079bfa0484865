use Rattle.std.proofs.Common.{◌≡◌, ℕ, ◌-◌, List, ◌∷◌, length, take, drop, Bool, rules, arith, ap, ◌∙◌}
use Rattle.std.proofs.lemmas.Grind.{common_steps}
use Rattle.rk_base.specs.Text.{Text}
use Rattle.ut_sed.specs.declared.command.Command.{Command}
use Rattle.ut_sed.specs.Commands.{CommandValue, command_of, commands_of}
use Rattle.ut_sed.specs.Editing.{first_opened}
use Rattle.ut_sed.specs.Selecting.{selected}
use Rattle.ut_sed.proofs.EditLemmas.{opened_on, text_on, ends_on, out_on}
use Rattle.ut_sed.proofs.edit.Space.cycle.Goals as goal

pub commands-preserved : goal.commands-preserved
commands-preserved c =
    let command : CommandValue = command_of c.command-item.result in
    let n : ℕ = c.args.number in
    let is : c.in_ok-selected.selected ≡ selected command c.first_opened.result n c.args.is_last c.as_slice.result.now = c.in_ok-selected.ensures in
    let text : c.as_slice.result.now ≡ c.commands.self = c.as_slice.ensures.value ∙ c.self.view_is in
    let is' : c.in_ok-selected.selected ≡ selected command (first_opened c.commands.ranges.now) n c.args.is_last c.commands.self =
    is ∙ ap (λ (b : Bool). selected command b n c.args.is_last c.as_slice.result.now) c.first_opened.ensures ∙ ap (λ (t : Text). selected command (first_opened c.commands.ranges.now) n c.args.is_last t) text in
    let more : List Command = take (length c.commands.rest.now - 1) (drop 1 c.commands.rest.now) in
    let at : commands_of c.commands.rest.now ≡ command ∷ commands_of more = grind (arith, common_steps) in
    record {
      opened = opened_on command (commands_of more) _ c.commands.ranges.now _ n c.args.is_last c.commands.self _ c.in_ok-selected.selected at is' (search (rules, c.in_ok-ends.ensures.text, c.self.view_is)) c.rest_opened-ranges.ensures (search (rules, c.in_ok-ends.ensures.ends, c.is_over.ensures, c.if-is_over.false)) c.commands.next.items c.push.new.self.items _ c.commands.invariant.opened (search (rules, c.in_ok-push.ensures.items));
      text = text_on command (commands_of more) _ c.commands.ranges.now _ n c.args.is_last c.commands.self _ c.in_ok-selected.selected at is' (search (rules, c.in_ok-ends.ensures.text, c.self.view_is)) c.rest_opened-ranges.ensures (search (rules, c.in_ok-ends.ensures.ends, c.is_over.ensures, c.if-is_over.false)) _ c.commands.invariant.text;
      out = out_on command (commands_of more) _ c.commands.ranges.now _ n c.args.is_last c.commands.self _ c.in_ok-selected.selected at is' (search (rules, c.in_ok-ends.ensures.text, c.self.view_is)) c.rest_opened-ranges.ensures (search (rules, c.in_ok-ends.ensures.ends, c.is_over.ensures, c.if-is_over.false)) c.commands.output c.edit_by.new.output _ c.commands.invariant.out (search (rules, c.in_ok-ends.ensures.out, c.self.view_is));
      ends = ends_on command (commands_of more) _ c.commands.ranges.now _ n c.args.is_last c.commands.self _ c.in_ok-selected.selected at is' (search (rules, c.in_ok-ends.ensures.text, c.self.view_is)) c.rest_opened-ranges.ensures (search (rules, c.in_ok-ends.ensures.ends, c.is_over.ensures, c.if-is_over.false)) _ c.commands.invariant.ends;
    }
