use Rattle.std.proofs.Common.{map, string_bytes, rules}
use Rattle.rk_request.specs.Asked.{request_of}
use Rattle.rk_request.proofs.CommandLineLemmas.{no_request}
use Rattle.rk_request.proofs.FormsLemmas.{forms}
use Rattle.rk_request.proofs.TurnsLemmas.{some-read}
use Rattle.rk_request.proofs.words.request.Goals as goal

pub returns-in-Ok-clause-forms : goal.returns-in-Ok-clause-forms
unfolding request_of
returns-in-Ok-clause-forms c = forms (map string_bytes c.args.words.now) _ (search rules) (search rules)

pub returns-in-Err-Usage-clause-usage : goal.returns-in-Err-Usage-clause-usage
unfolding request_of
returns-in-Err-Usage-clause-usage c = λ _. no_request _ _ (c.in-Err-Usage.ensures.usage (search rules))

pub returns-in-Err-Usage-clause-forms : goal.returns-in-Err-Usage-clause-forms
unfolding request_of
returns-in-Err-Usage-clause-forms c =
    forms (map string_bytes c.args.words.now) _ tt (λ _. no_request _ _ (c.in-Err-Usage.ensures.usage (search rules)))

pub returns-in-Ok-clause-some : goal.returns-in-Ok-clause-some
unfolding request_of
returns-in-Ok-clause-some c = some-read (map string_bytes c.args.words.now) _ (search rules)
