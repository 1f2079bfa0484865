use Rattle.std.proofs.Common.{◌++◌}
use Rattle.sh_vars.specs.Held.{is_readonly}
use Rattle.sh_split.specs.Marked.{given}
use Rattle.sh_expand.specs.Expands.{put_by}
use Rattle.sh_expand.specs.Acting.{word_of}
use Rattle.sh_expand.proofs.PartLemmas.{text_of_word}
use Rattle.sh_expand.proofs.parts.ParameterUse.assign_word.Goals as goal

pub returns-in_ok-inner-in-Variable-clause-does : goal.returns-in_ok-inner-in-Variable-clause-does
returns-in_ok-inner-in-Variable-clause-does c =
    λ e body k fail p.
    rw (c.in-Variable.is, c.take.ensures.left, c.take.ensures.taken, c.in_ok-name-in-Variable.ensures, c.in_ok-inner-in-Variable.ensures) (text_of_word body (word_of c.args.word.now) (λ text e'. put_by (is_readonly e'.vars c.in-Variable.name) c.in-Variable.name text (c.args.marks.now.items ++ given c.args.self.now.quoted text) k fail e') fail e p)
