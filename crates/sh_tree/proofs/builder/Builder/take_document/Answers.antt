use Rattle.std.proofs.Common.{◌≡◌, ℕ, ◌+◌, ◌-◌, List, [], take, None, ap, sym, ◌∙◌}
use Rattle.std.proofs.lemmas.Option.{MatchOption-at_none}
use Rattle.std.specs.VecDeque.{deque_len}
use Rattle.sh_ast.specs.Commands as t
use Rattle.sh_nodes.specs.Nodes.{words_seen}
use Rattle.sh_tree.specs.Seen.{state}
use Rattle.sh_script.specs.States.{State, last, but_last, without_document}
use Rattle.sh_tree.proofs.BuilderLemmas.{last_seen, but_last_seen, front_seen, taken_seen}
use Rattle.sh_tree.proofs.builder.Builder.take_document.Goals as goal

-- where none is taken there was none
none_left : (c : goal.In_ok-push-in-Some) → c.pop_back-last.result ≡ None → c.pop_back-last.new.self.items ≡ []
none_left c e =
    let old = c.in-Some.documents in
    let new = c.pop_back-last.new.self in
    let both : (deque_len old ≡ 0) × (deque_len new ≡ 0) = MatchOption-at_none ((deque_len old ≡ 0) × (deque_len new ≡ 0)) (λ _. deque_len new + 1 ≡ deque_len old) e c.pop_back-last.ensures.cases in
    c.pop_back-last.ensures.rest ∙ ap (λ (n : ℕ). take (n - 1) old.items) both.0

pub returns-in_ok-push-in-Some-clause-body : goal.returns-in_ok-push-in-Some-clause-body
unfolding state
returns-in_ok-push-in-Some-clause-body c =
    last_seen (λ r. t.word r.value) c.in-Some.documents.items c.pop_back-last.new.self.items c.pop_back-last.result c.pop_back-last.ensures.items (none_left c)
    ∙ sym (ap last (front_seen (λ ds. words_seen ds.items) c.args.self.now.documents.items c.pop.new.self.items c.in-Some.documents c.in-Some.ensures.items))

pub returns-in_ok-push-in-Some-clause-left : goal.returns-in_ok-push-in-Some-clause-left
unfolding state without_document
returns-in_ok-push-in-Some-clause-left c =
    let all_but : words_seen c.pop_back-last.new.self.items ≡ but_last (words_seen c.in-Some.documents.items) = but_last_seen (λ r. t.word r.value) c.in-Some.documents.items c.pop_back-last.new.self.items c.pop_back-last.result c.pop_back-last.ensures.items (none_left c) in
    ap (λ (d : List (List t.WordTree)). let s : State = record (state c.args.self.now) { documents = d } in s)
    (taken_seen (λ ds. words_seen ds.items) c.args.self.now.documents.items c.push.new.self.items c.pop.new.self.items c.in-Some.documents c.pop_back-last.new.self c.in-Some.ensures.items c.in_ok-push-in-Some.ensures.items all_but)
