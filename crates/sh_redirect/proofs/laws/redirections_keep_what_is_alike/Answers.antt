use Rattle.sh_redirect.proofs.LawLemmas.{alike-redirects}
use Rattle.sh_redirect.proofs.laws.redirections_keep_what_is_alike.Goals as goal

pub returns : goal.returns
returns c = alike-redirects
