use Rattle.std.proofs.Common.{◌≡◌, ◌++◌, drop}
use Rattle.std.specs.Prelude.{IsAscii}
use Rattle.rk_show.specs.Shown.{shown_bytes}
use Rattle.rk_show.proofs.showing.add_bytes.Given as goal

abbrev pub invariant-loop-b : goal.invariant-loop-b
invariant-loop-b l = record {
  shown : l.out.items ++ shown_bytes (drop l.b-index l.text) ≡ l.fn.out.items ++ shown_bytes l.text;
  ascii : IsAscii l.fn.out.items → IsAscii l.out.items;
}
