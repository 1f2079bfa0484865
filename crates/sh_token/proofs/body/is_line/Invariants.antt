use Rattle.std.proofs.Common.{◌≡◌, drop}
use Rattle.sh_token.specs.HereDocuments.{is_line, lines}
use Rattle.sh_token.proofs.body.is_line.Given as goal

-- the line stands there exactly where its rest stands behind what went by
abbrev pub invariant-loop-at : goal.invariant-loop-at
invariant-loop-at l = is_line l.line (lines l.literal l.text) ≡ is_line (drop l.at l.line) (lines l.literal l.left)
