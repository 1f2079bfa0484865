use Rattle.std.proofs.Common.{◌≡◌, ◌∙◌, ap, cond, Some, [], List, ℕ, Option, length, unwrap_or}
use Rattle.std.specs.Map.{lookup}
use Rattle.std.proofs.lemmas.Result.{on_err_weaker}
use Rattle.rk_calls.specs.Keys.{same_key}
use Rattle.tr_record.proofs.PlacesLemmas.{stays_written, adds_new}
use Rattle.tr_record.proofs.index.note.Goals as goal

pub returns-in-Some-clause-err : goal.returns-in-Some-clause-err
returns-in-Some-clause-err c =
    on_err_weaker c.push.result
    (λ (e : c.push.new.self ≡ c.in-Some.places.now). stays_written c.args.index.now.entries (c.get_mut.follows.lender c.push.new.self).entries c.args.key.now _ _ (c.get_mut.follows.holds c.push.new.self).0 e c.in-Some.ensures.value)
    c.push.ensures.err

pub returns-in_ok-insert-in-None-clause-before : goal.returns-in_ok-insert-in-None-clause-before
returns-in_ok-insert-in-None-clause-before c = ap (λ (o : Option (List ℕ)). length (unwrap_or o [])) c.in-None.ensures.value

pub returns-in_ok-insert-in-None-clause-ok : goal.returns-in_ok-insert-in-None-clause-ok
returns-in_ok-insert-in-None-clause-ok c =
    λ q.
    adds_new c.args.index.now.entries c.insert.new.self.entries c.in_ok-copy-in-None.copy c.args.key.now q c.args.place c.of-places.result
    (c.in_ok-insert-in-None.ensures.updates.0 q ∙ ap (λ m. cond (same_key c.in_ok-copy-in-None.copy q) (Some c.of-places.result) (lookup (same_key q) m.entries)) c.get_mut.follows.holds-at-none)
    c.in_ok-copy-in-None.ensures
    c.of-places.ensures
    c.in-None.ensures.value
