use Rattle.std.specs.Cmp.Lexicographic.{bytes_decides}
use Rattle.rk_base.specs.Text.{same_text}
use Rattle.tr_nodes.proofs.ReadLemmas.{is_spelling}
use Rattle.tr_nodes.proofs.laws.known_by_numbers.Goals as goal

pub returns : goal.returns
returns c = is_spelling same_text bytes_decides
