use Rattle.std.proofs.Common.{◌≡◌, ◌++◌, drop}
use Rattle.sh_builtin.specs.Lines.{scanned, line_of}
use Rattle.sh_builtin.proofs.line.scan_line.Given as goal

abbrev pub invariant-bytes : goal.invariant-bytes
invariant-bytes l =
    (l.marks ++ (scanned l.raw l.scan (drop l.b-index l.text)).marks ≡ l.initial.marks ++ (line_of l.raw l.text).marks)
    × ((scanned l.raw l.scan (drop l.b-index l.text)).end ≡ (line_of l.raw l.text).end)
