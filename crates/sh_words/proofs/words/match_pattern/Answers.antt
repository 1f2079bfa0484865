use Rattle.std.proofs.Common.{◌≡◌, Bool, if◌then◌else◌, sym, ap, ◌∙◌}
use Rattle.rk_base.specs.Text.{Text}
use Rattle.sh_pattern.specs.Decided.{is_matched}
use Rattle.sh_means.specs.Stack.{items_from, case_body, casing}
use Rattle.sh_means.proofs.Cases.{body_matched, none_matched}
use Rattle.sh_words.proofs.words.match_pattern.Goals as goal

decided : (pattern text pattern' text' : Text) (b : Bool) → b ≡ is_matched pattern' text' → pattern' ≡ pattern → text' ≡ text → is_matched pattern text ≡ b
decided pattern text pattern' text' b h hp ht = sym (h ∙ ap (λ (t : Text). is_matched t text') hp ∙ ap (is_matched pattern) ht)

pub returns-in-Some-clause-talk : goal.returns-in-Some-clause-talk
returns-in-Some-clause-talk c =
    λ k e p. ap (λ (b : Bool). (if b then case_body (items_from c.args.casing.items.value c.args.casing.at) c.args.place e k else casing c.args.casing c.args.casing.pattern c.args.place k e) p) (decided c.args.pattern.now c.args.casing.value c.as_slice.result.now c.as_slice-2.result.now c.matches.result c.matches.ensures.decided c.as_slice.ensures c.as_slice-2.ensures ∙ c.if-matches.true)
    ∙ body_matched c.args.casing c.deref.result.now c.in-Some.item.now c.in_ok-body-in-Some.body c.args.place k e p (c.deref.ensures ∙ c.in_ok-items.ensures.cases) c.in-Some.ensures c.in_ok-body-in-Some.ensures.cases

pub returns-in-None-clause-talk : goal.returns-in-None-clause-talk
returns-in-None-clause-talk c =
    λ k e p. ap (λ (b : Bool). (if b then case_body (items_from c.args.casing.items.value c.args.casing.at) c.args.place e k else casing c.args.casing c.args.casing.pattern c.args.place k e) p) (decided c.args.pattern.now c.args.casing.value c.as_slice.result.now c.as_slice-2.result.now c.matches.result c.matches.ensures.decided c.as_slice.ensures c.as_slice-2.ensures ∙ c.if-matches.true)
    ∙ none_matched c.args.casing c.deref.result.now c.args.place k e p (c.deref.ensures ∙ c.in_ok-items.ensures.cases) c.in-None.ensures
