use Rattle.std.proofs.Common.{◌≡◌, ◌++◌, take}
use Rattle.std.specs.List.{flat_map}
use Rattle.tr_attrs.specs.Attrs.{row_spelling}
use Rattle.tr_attrs.proofs.attrs.push_rows.Given as goal

abbrev pub invariant-rows : goal.invariant-rows
invariant-rows l = l.out.items ≡ l.fn.out.items ++ flat_map row_spelling (take l.path-index l.rows)
