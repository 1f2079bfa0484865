-- An assignment by an expression, in a map of names.
use Rattle.std.proofs.Common.{◌≡◌, refl, subst, sym}
use Rattle.std.specs.FinMap.{insert}
use Rattle.rk_base.specs.Text.{Text}
use Rattle.sh_arith.specs.Environment.{ChangesOne}
use Rattle.sh_vars.proofs.NameMap.{at_name, at_other}
use Rattle.rk_rows.specs.NameTable.{NameValues, known_of}

inserted_one : (old : NameValues) (x text : Text) → ChangesOne (known_of old) (known_of (insert old x text)) x text
inserted_one old x text = record {
  named = at_name old x text;
  others = λ y other. at_other old x text y other;
  flags = λ y. refl;
}

pub changes_one : (old new : NameValues) (x text value : Text) → new ≡ insert old x text → text ≡ value → ChangesOne (known_of old) (known_of new) x value
changes_one old new x text value is told =
    subst (λ (t : Text). ChangesOne (known_of old) (known_of new) x t) told
    (subst (λ (m : NameValues). ChangesOne (known_of old) (known_of m) x text) (sym is) (inserted_one old x text))
