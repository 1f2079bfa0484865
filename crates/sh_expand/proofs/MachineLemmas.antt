-- Words within words, one frame after another.
use Rattle.std.proofs.Common.{◌≡◌, ℕ, ◌+◌, ◌<◌, List, [], ◌∷◌, ◌++◌, refl, sym, ap, ◌∙◌, arith, Bool, true}
use Rattle.std.specs.Prelude.{Option, Some, None}
use Rattle.std.specs.declared.rc.Rc.{Rc}
use Rattle.std.specs.declared.alloc.Global.{Global}
use Rattle.rk_base.specs.Text.{Text}
use Rattle.sh_ast.specs.declared.word.Parts.{Parts}
use Rattle.sh_ast.specs.Words.{PartTree, PartsTree, no_parts, part_and, parts}
use Rattle.sh_vars.specs.declared.env.Env.{Env}
use Rattle.sh_split.specs.Cutting.{Marks}
use Rattle.sh_expand.specs.declared.acts.Then.{Then}
use Rattle.sh_expand.specs.declared.acts.Acted.{Acted}
use Rattle.sh_expand.specs.declared.acts.Acted.TheVariants.{Enter, Subst}
use Rattle.sh_expand.specs.declared.machine.Level.{Level}
use Rattle.sh_expand.specs.declared.machine.Frame.{Frame}
use Rattle.sh_expand.specs.declared.machine.Stage.TheVariants.{Piped}
use Rattle.sh_expand.specs.declared.machine.Machine.{Machine}
use Rattle.sh_expand.specs.declared.machine.Wants.{Wants}
use Rattle.sh_expand.specs.declared.machine.Wants.TheVariants.{Pipe, Fault}
use Rattle.sh_expand.specs.Expands.{Body, Ended, Failed, manner_of, expand, expand_part}
use Rattle.sh_expand.specs.Acting.{then_over, acted_on, Does, LeavesAs, acted_size, size, size_part}
use Rattle.sh_expand.specs.Machine.{left_of, goes, context, stack_size, size_of, IsSmaller, ActedOn, EndsAs, Advances}

context-push : (body : ℕ → Body) (fs : List Frame) (f : Frame) (k : Ended) (fail : Failed) → context body (fs ++ f ∷ []) k fail ≡ then_over f.then (goes body f.level (context body fs k fail) fail) fail
context-push body [] f k fail = refl
context-push body (g ∷ gs) f k fail = context-push body gs f (then_over g.then (goes body g.level k fail) fail) fail

stack_size-push : (fs : List Frame) (f : Frame) → stack_size (fs ++ f ∷ []) ≡ stack_size fs + (size (left_of f.level) + 1)
stack_size-push [] f = omega arith
stack_size-push (g ∷ gs) f = let h : stack_size (gs ++ f ∷ []) ≡ stack_size gs + (size (left_of f.level) + 1) = stack_size-push gs f in omega arith

-- a word within a word ends, and the outer one goes on
pub end_goes : (old new : Machine) (f : Frame) (before_e e : Env) → old.stack.items ≡ new.stack.items ++ f ∷ [] → new.level ≡ f.level → LeavesAs f.then old.marks.items before_e new.marks.items e None → EndsAs old before_e new e None
end_goes old new f before_e e s l h =
    record {
      smaller = (
          let a : stack_size old.stack.items ≡ stack_size new.stack.items + (size (left_of f.level) + 1) = ap stack_size s ∙ stack_size-push new.stack.items f in
          let b : size (left_of new.level) ≡ size (left_of f.level) = ap (λ x. size (left_of x)) l in
          omega arith
          );
      talk = λ body k fail p.
          ap (λ (fs : List Frame). context body fs k fail old.marks.items before_e p) s ∙ (ap (λ (c : Ended). c old.marks.items before_e p) (context-push body new.stack.items f k fail) ∙ (h (goes body f.level (context body new.stack.items k fail) fail) fail p ∙ ap (λ (x : Level). goes body x (context body new.stack.items k fail) fail new.marks.items e p) (sym l)));
    }

-- a word within a word ends in a fault
pub end_fails : (old new : Machine) (f : Frame) (before_e e : Env) (parameter message : Text) → old.stack.items ≡ new.stack.items ++ f ∷ [] → LeavesAs f.then old.marks.items before_e new.marks.items e (Some (parameter, message)) → EndsAs old before_e new e (Some (Fault parameter message))
end_fails old new f before_e e parameter message s h =
    record {
      smaller = tt;
      talk = λ body k fail p.
          ap (λ (fs : List Frame). context body fs k fail old.marks.items before_e p) s ∙ (ap (λ (c : Ended). c old.marks.items before_e p) (context-push body new.stack.items f k fail) ∙ h (goes body f.level (context body new.stack.items k fail) fail) fail p);
    }

-- a word within a word is entered
pub entered : (old new : Machine) (inner : Rc Parts Global) (splits : Bool) (then : Then) (e : Env) → new.level ≡ record { parts = inner; place = 0; inner = true; splits = splits } → new.marks.items ≡ old.marks.items → new.stack.items ≡ old.stack.items ++ (record { level = old.level; then = then }) ∷ [] → ActedOn old (Enter inner splits then) e new None
entered old new inner splits then e l m s =
    record {
      smaller = (
          let a : stack_size new.stack.items ≡ stack_size old.stack.items + (size (left_of old.level) + 1) = ap stack_size s ∙ stack_size-push old.stack.items frame in
          let b : size (left_of new.level) ≡ size (parts inner.value) = ap (λ (x : Level). size (left_of x)) l in
          omega arith
          );
      talk = λ body k fail p.
          ap (λ (c : Ended). expand (manner_of body true splits) (parts inner.value) old.marks.items c fail e p) (sym (ap (λ (fs : List Frame). context body fs k fail) s ∙ context-push body old.stack.items frame k fail)) ∙ (ap (λ (ms : Marks). expand (manner_of body true splits) (parts inner.value) ms (context body new.stack.items k fail) fail e p) (sym m) ∙ ap (λ (x : Level). goes body x (context body new.stack.items k fail) fail new.marks.items e p) (sym l));
    }
  where
    frame : Frame
    frame = record { level = old.level; then = then }

-- a pipe is asked
pub asked : (old : Machine) (n : ℕ) (quoted : Bool) (e : Env) → ActedOn old (Subst quoted n) e (record old { stage = Piped n quoted e.next }) (Some Pipe)
asked old n quoted e = record { smaller = tt; talk = λ body k fail p. refl }

-- one part, and what comes after it
pub part_goes : (old mid new : Machine) (part : PartTree) (acted : Acted) (e : Env) (r : Option Wants) → left_of old.level ≡ part_and part (left_of mid.level) → mid.level.inner ≡ old.level.inner → mid.level.splits ≡ old.level.splits → mid.stack.items ≡ old.stack.items → Does (λ body ms k fail e. expand_part (manner_of body old.level.inner old.level.splits) part ms k fail e) e old.marks.items mid.marks.items acted → acted_size acted < size_part part → ActedOn mid acted e new r → Advances old e new e r
part_goes old mid new part acted e r l i b s does less h =
    record {
      smaller = smaller r h.smaller;
      talk = λ body k fail p.
          ap (λ (ps : PartsTree). expand (manner_of body old.level.inner old.level.splits) ps old.marks.items (context body old.stack.items k fail) fail e p) l ∙ (does body (λ ms e'. expand (manner_of body old.level.inner old.level.splits) (left_of mid.level) ms (context body old.stack.items k fail) fail e') fail p ∙ (ap (λ (x : Bool). acted_on body acted mid.marks.items (λ ms e'. expand (manner_of body x old.level.splits) (left_of mid.level) ms (context body old.stack.items k fail) fail e') fail e p) (sym i) ∙ (ap (λ (x : Bool). acted_on body acted mid.marks.items (λ ms e'. expand (manner_of body mid.level.inner x) (left_of mid.level) ms (context body old.stack.items k fail) fail e') fail e p) (sym b) ∙ (ap (λ (fs : List Frame). acted_on body acted mid.marks.items (goes body mid.level (context body fs k fail) fail) fail e p) (sym s) ∙ h.talk body k fail p))));
    }
  where
    total : size_of old ≡ size_part part + size_of mid
    total =
        let a : size (left_of old.level) ≡ size_part part + size (left_of mid.level) = ap size l in
        let b : stack_size mid.stack.items ≡ stack_size old.stack.items = ap stack_size s in
        omega arith

    smaller : (r : Option Wants) → IsSmaller r (size_of mid + acted_size acted + 1) new → IsSmaller r (size_of old) new
    smaller None h = let t = total in omega arith
    smaller (Some t) h = h

-- past the last part
pub word_ends : (old new : Machine) (before_e e : Env) (r : Option Wants) → left_of old.level ≡ no_parts → EndsAs old before_e new e r → Advances old before_e new e r
word_ends old new before_e e r l h =
    record {
      smaller = smaller r h.smaller;
      talk = λ body k fail p. ap (λ (ps : PartsTree). expand (manner_of body old.level.inner old.level.splits) ps old.marks.items (context body old.stack.items k fail) fail before_e p) l ∙ h.talk body k fail p;
    }
  where
    smaller : (r : Option Wants) → IsSmaller r (stack_size old.stack.items) new → IsSmaller r (size_of old) new
    smaller None h = omega arith
    smaller (Some t) h = h
