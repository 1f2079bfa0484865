use Rattle.std.proofs.Common.{sym, ap, ◌∙◌}
use Rattle.std.specs.Prelude.{option_copied}
use Rattle.sh_lex.proofs.Popping.{last_is}
use Rattle.sh_lex.proofs.place.last_paren.Goals as goal

pub returns-in-Some : goal.returns-in-Some
returns-in-Some c = last_is c.args.parens.now _ (sym c.last.ensures.value ∙ ap option_copied c.in-Some.is)
