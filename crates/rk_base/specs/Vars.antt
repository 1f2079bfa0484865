-- Variables compared and hashed.
use Rattle.std.specs.Ordering.{on, eq_of_both}
use Rattle.std.specs.Str.{bytes_eq}
use Rattle.std.specs.Prelude.{Bool, ◌++◌}
use Rattle.std.specs.Cmp.{IsEquivalence, unsigned_Decides}
use Rattle.std.specs.Cmp.Lexicographic.{nat_list_eq_equiv}
use Rattle.std.specs.Hash as fed
use Rattle.std.specs.Cmp.Rules.{comparing}
use Rattle.std.proofs.Common.{rules}
use Rattle.rk_base.specs.declared.vars.Var.{Var}

-- the same name and the same value
abbrev pub var_eq : Var → Var → Bool
var_eq = eq_of_both (on (λ v. v.name) bytes_eq) (on (λ v. v.value) bytes_eq)

pub var_eq_equiv : IsEquivalence var_eq
var_eq_equiv = search (comparing, nat_list_eq_equiv, rules)

-- the writes for the name and then those for the value
abbrev pub var_writes : Var → fed.HashWrites
var_writes v = fed.slice fed.u8 v.name ++ fed.slice fed.u8 v.value

texts_alike : fed.Alike bytes_eq (fed.slice fed.u8)
texts_alike = fed.items_Alike (fed.same_Alike fed.u8 unsigned_Decides)

-- equal variables are hashed alike
pub var_alike : fed.Alike var_eq var_writes
var_alike = fed.and-Alike (fed.on_Alike (λ (v : Var). v.name) texts_alike) (fed.on_Alike (λ (v : Var). v.value) texts_alike)
