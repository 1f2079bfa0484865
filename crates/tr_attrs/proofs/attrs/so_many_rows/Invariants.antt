use Rattle.std.proofs.Common.{◌≡◌, ◌-◌, List, []}
use Rattle.rk_base.specs.Text.{Text}
use Rattle.rk_attrs.specs.declared.rows.AttrRow.{AttrRow}
use Rattle.tr_parts.specs.Reading.{many_at}
use Rattle.tr_attrs.specs.RowReading.{attr_row_at}
use Rattle.tr_attrs.proofs.attrs.so_many_rows.Given as goal

abbrev pub invariant-rows : goal.invariant-rows
invariant-rows l = many_at (λ (front : List (Text × AttrRow)). attr_row_at) (l.count - l.counter) l.rows.items l.rest ≡ many_at (λ (front : List (Text × AttrRow)). attr_row_at) l.count [] l.bytes
