use Rattle.std.proofs.Common.{sym, ◌∙◌, arith}
use Rattle.ut_sort.proofs.FieldLemmas.{after_none}
use Rattle.ut_sort.proofs.fields.after_fields.Goals as goal

pub returns-else-rest-gt0-clause-rest : goal.returns-else-rest-gt0-clause-rest
returns-else-rest-gt0-clause-rest c = sym (after_none c.args.delimiter c.fields.left c.fields.rest.now (omega arith)) ∙ c.fields.invariant.0
