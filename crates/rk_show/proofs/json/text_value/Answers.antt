use Rattle.std.proofs.Common.{sym, subst}
use Rattle.std.specs.Prelude.{IsAscii}
use Rattle.std.proofs.lemmas.Str.{IsUtf8-from_ascii}
use Rattle.rk_show.proofs.json.text_value.Goals as goal

pub unreachable-requires : goal.unreachable-requires
unreachable-requires c = c.in_default.ensures.cases.0 (IsUtf8-from_ascii c.as_slice.result.now (subst IsAscii (sym c.as_slice.ensures) c.in_ok-shown.ensures.ascii))
