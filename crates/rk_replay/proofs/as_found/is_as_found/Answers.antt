use Rattle.std.proofs.Common.{◌∙◌, ap, sym, rules}
use Rattle.std.proofs.lemmas.Bool.{eqb-true}
use Rattle.std.specs.Option.{option_copied}
use Rattle.rk_replay.proofs.FoundLemmas.{as-found}
use Rattle.rk_replay.proofs.as_found.is_as_found.Goals as goal

pub returns-in-Some-clause-found : goal.returns-in-Some-clause-found
returns-in-Some-clause-found c =
    λ t. as-found c.args.kept.now c.args.table.now c.in-Some.newest.now (ap option_copied (sym c.in-Some.is) ∙ c.table.ensures) (c.requires (search rules)) (sym c.len.ensures ∙ eqb-true c.len.result c.len-in-Some.result t ∙ c.len-in-Some.ensures)
