-- One visit more, or the end.
use Rattle.std.proofs.Common.{◌≡◌, ℕ, sym, ap, ◌∙◌, IfOk}
use Rattle.std.specs.Prelude.{None, Some, Result, Ok, Err}
use Rattle.rk_base.specs.declared.memory.NoMemory.{NoMemory}
use Rattle.rk_calls.specs.declared.answer.Answer.{Answer}
use Rattle.rk_calls.specs.declared.turn.Turn.{Turn}
use Rattle.rk_calls.specs.Talk.{after}
use Rattle.ut_find.specs.declared.utility.Moved.{Moved}
use Rattle.ut_find.specs.declared.walk.Walk.{Walk}
use Rattle.ut_find.specs.Finds.{FindValue, Work, visits, writes, finds_from, finds-is}
use Rattle.ut_find.specs.Moved.{IsSaidBy}
use Rattle.ut_find.specs.Walking.{work_of, settled, walk_talk, Stays, IsNext}

one_visit : (w m : Walk) (a : Answer) → Stays w m (settled w.find.tests w.asked a (work_of w)) → (p : ℕ) → walk_talk w a p ≡ visits m.find (finds_from m.find) (work_of m) m.left.items p
one_visit w m a s p =
    ap (λ (f : FindValue). finds_from f (settled w.find.tests w.asked a (work_of w)) p) (sym s.0)
    ∙ (ap (λ (x : Work). finds_from m.find x p) (sym s.1) ∙ finds-is m.find (work_of m) p)

pub walk_asks : (w m n : Walk) (a : Answer) (turn : Turn) → Stays w m (settled w.find.tests w.asked a (work_of w)) → IsNext m n (Some turn) → (p : ℕ) → walk_talk w a p ≡ after turn (walk_talk n) p
walk_asks w m n a turn s x p =
    one_visit w m a s p ∙ (x.1 p ∙ ap (λ (f : FindValue). after turn (λ b. finds_from f (settled f.tests n.asked b (work_of n))) p) (sym x.0))

walk_ends : (w m n : Walk) (a : Answer) → Stays w m (settled w.find.tests w.asked a (work_of w)) → IsNext m n None → (p : ℕ) → walk_talk w a p ≡ writes n.find.wd (work_of n) p
walk_ends w m n a s x p =
    one_visit w m a s p
    ∙ (ap (λ l. visits m.find (finds_from m.find) (work_of m) l p) x.2
    ∙ (ap (λ (f : FindValue). writes f.wd (work_of m) p) (sym x.0) ∙ ap (λ (k : Work). writes n.find.wd k p) (sym x.1)))

pub walk_written : (w m n : Walk) (a : Answer) (result : Result Moved NoMemory) → Stays w m (settled w.find.tests w.asked a (work_of w)) → IsNext m n None → IfOk result (IsSaidBy (writes n.find.wd (work_of n))) → IfOk result (IsSaidBy (walk_talk w a))
walk_written w m n a (Ok moved) s x h = λ p. walk_ends w m n a s x p ∙ h p
walk_written w m n a (Err e) s x h = h
