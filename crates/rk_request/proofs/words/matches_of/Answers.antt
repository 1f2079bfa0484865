use Rattle.std.proofs.Common.{◌≡◌, ap, sym, ◌∙◌, map, string_bytes, true, false}
use Rattle.clap.specs.Words.{App, fault_of, is_simple, is_simple_and_free, subcommand_of}
use Rattle.rk_request.proofs.CommandLineLemmas.{command_line_is_simple, command_line_is_free, not_memory}
use Rattle.rk_request.proofs.words.matches_of.Goals as goal

pub returns-in-Ok-clause-taken : goal.returns-in-Ok-clause-taken
returns-in-Ok-clause-taken c =
    let is = c.in_ok-command.ensures.app in
    let texts = map string_bytes c.args.words.now in
    sym (ap (λ (a : App). fault_of a texts) is) ∙ c.in-Ok.ensures.kinds (ap is_simple_and_free is ∙ command_line_is_free)

pub returns-in-Ok-clause-named : goal.returns-in-Ok-clause-named
returns-in-Ok-clause-named c =
    let is = c.in_ok-command.ensures.app in
    let texts = map string_bytes c.args.words.now in
    (c.in-Ok.ensures.matches (ap is_simple is ∙ command_line_is_simple)).1 ∙ ap (λ (a : App). subcommand_of a texts) is

pub returns-clause-usage : goal.returns-clause-usage
returns-clause-usage c =
    let is = c.in_ok-command.ensures.app in
    let texts = map string_bytes c.args.words.now in
    λ _ none. not_memory c.in-Err.e _ (c.in-Err.ensures.kinds (ap is_simple_and_free is ∙ command_line_is_free)) (ap (λ (a : App). fault_of a texts) is ∙ none) (λ m. let bad : false ≡ true = c.if-is_memory.ensures.1 m in cc)
