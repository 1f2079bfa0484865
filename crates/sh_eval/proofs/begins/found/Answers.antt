use Rattle.std.proofs.Common.{sym, ◌∙◌}
use Rattle.sh_means.specs.Views.{shell_of}
use Rattle.sh_eval.proofs.Found.{directory_refused}
use Rattle.sh_eval.proofs.begins.found.Goals as goal

pub returns-then-is_directory-clause-talk : goal.returns-then-is_directory-clause-talk
returns-then-is_directory-clause-talk c =
    directory_refused c.fail.result c.args.file c.args.kind c.args.mode (shell_of c.args.state.now) (shell_of c.fail.new.state) (sym c.is_directory.ensures ∙ c.if-is_directory.true) c.fail.ensures.talk
