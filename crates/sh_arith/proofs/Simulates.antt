-- The reader does with steps what is done with trees.
use Rattle.std.proofs.Common.{◌≡◌, ℕ, zero, suc, List, [], ◌∷◌, ◌++◌, refl, sym, ap, ◌∙◌}
use Rattle.std.specs.Prelude.{Bool, true, false, Option, Some, None}
use Rattle.std.proofs.lemmas.List.{append_assoc, append-nil}
use Rattle.rk_base.specs.Text.{Text}
use Rattle.sh_arith.specs.declared.operator.Operator.{Operator}
use Rattle.sh_arith.specs.declared.operator.Operator.TheVariants as operator
use Rattle.sh_arith.specs.declared.token.Token.{Token}
use Rattle.sh_arith.specs.declared.token.Token.TheVariants as token
use Rattle.sh_arith.specs.declared.frame.Frame.{Frame}
use Rattle.sh_arith.specs.declared.frame.Reader.{Reader}
use Rattle.sh_arith.specs.declared.frame.Reader.TheVariants as reader
use Rattle.sh_arith.specs.declared.step.Instruction.{Instruction}
use Rattle.sh_arith.specs.declared.step.Instruction.TheVariants as step
use Rattle.sh_arith.specs.Expression.{Expression, Constant, Name, Group, Signed, Applied, Both, Either, Choice, Assignment}
use Rattle.sh_arith.specs.Grammar.{operator_level}
use Rattle.sh_arith.specs.Steps.{steps}
use Rattle.sh_arith.specs.Reading.{ending, ended, left, loads, may_assign, begins, assigned_loads, assigns, shuts, goes, otherwise, closes, finishes, joins, turn, Turn, State}
use Rattle.sh_arith.proofs.Trees.{Wait, InParentheses, WithSign, WithLeft, WithBoth, WithEither, WithQuestion, WithColon, WithName, Place, Wanted, Stands, Bare, frame_of, frames_of, reader_of, made, is_ended, folded, kept, groups, tree_of, begin, assign, shut, go, colon, close, finish, turned, opening, openings, standing, state_of, read_state}

-- where a turn leads
abbrev pub turned_state : List Instruction → Option Turn → Option State
turned_state given None = None
turned_state given (Some t) = Some (record { given = given ++ t.gives; frames = t.frames; reader = t.reader })

steps_append : (x : Expression) (after more : List Instruction) → steps x after ++ more ≡ steps x (after ++ more)
unfolding steps
steps_append (Constant n) after more = refl
steps_append (Name x) after more = refl
steps_append (Group a) after more = steps_append a after more
steps_append (Signed s a) after more = steps_append a (step.Signed s ∷ after) more
steps_append (Applied o a b) after more = steps_append a (steps b (step.Applied o ∷ after)) more ∙ ap (steps a) (steps_append b (step.Applied o ∷ after) more)
steps_append (Both a b) after more =
    steps_append a (step.And ∷ steps b (step.Truth ∷ step.Joined ∷ after)) more ∙ ap (λ l. steps a (step.And ∷ l)) (steps_append b (step.Truth ∷ step.Joined ∷ after) more)
steps_append (Either a b) after more =
    steps_append a (step.Or ∷ steps b (step.Truth ∷ step.Joined ∷ after)) more ∙ ap (λ l. steps a (step.Or ∷ l)) (steps_append b (step.Truth ∷ step.Joined ∷ after) more)
steps_append (Choice c a b) after more =
    steps_append c (step.Choose ∷ steps a (step.Otherwise ∷ steps b (step.Joined ∷ after))) more
    ∙ ap (λ l. steps c (step.Choose ∷ l)) (steps_append a (step.Otherwise ∷ steps b (step.Joined ∷ after)) more ∙ ap (λ l. steps a (step.Otherwise ∷ l)) (steps_append b (step.Joined ∷ after) more))
steps_append (Assignment n x None a) after more = steps_append a (step.Store x ∷ after) more
steps_append (Assignment n x (Some o) a) after more = ap (λ l. step.Load x ∷ l) (steps_append a (step.Applied o ∷ step.Store x ∷ after) more)

opening_append : (w : Wait) (after more : List Instruction) → opening w after ++ more ≡ opening w (after ++ more)
opening_append InParentheses after more = refl
opening_append (WithSign s) after more = refl
opening_append (WithLeft o a) after more = steps_append a after more
opening_append (WithBoth a) after more = steps_append a (step.And ∷ after) more
opening_append (WithEither a) after more = steps_append a (step.Or ∷ after) more
opening_append (WithQuestion c) after more = steps_append c (step.Choose ∷ after) more
opening_append (WithColon c a) after more =
    steps_append c (step.Choose ∷ steps a (step.Otherwise ∷ after)) more ∙ ap (λ l. steps c (step.Choose ∷ l)) (steps_append a (step.Otherwise ∷ after) more)
opening_append (WithName n x None) after more = refl
opening_append (WithName n x (Some o)) after more = refl

openings_append : (ws : List Wait) (after more : List Instruction) → openings ws after ++ more ≡ openings ws (after ++ more)
openings_append [] after more = refl
openings_append (w ∷ ws) after more = openings_append ws (opening w after) more ∙ ap (openings ws) (opening_append w after more)

-- what ends gives its steps behind its last operand's
made_steps : (l : ℕ) (w : Wait) (a : Expression) (more rest : List Instruction) → is_ended l w ≡ true → steps (made w a) (more ++ rest) ≡ opening w (steps a ((ending (frame_of w) ++ more) ++ rest))
unfolding steps
made_steps l InParentheses a more rest e = absurd (cc)
made_steps l (WithSign s) a more rest e = refl
made_steps l (WithLeft o b) a more rest e = refl
made_steps l (WithBoth b) a more rest e = refl
made_steps l (WithEither b) a more rest e = refl
made_steps l (WithQuestion b) a more rest e = absurd (cc)
made_steps l (WithColon c b) a more rest e = refl
made_steps l (WithName n x None) a more rest e = refl
made_steps l (WithName n x (Some o)) a more rest e = refl

folded_steps : (l : ℕ) (ws : List Wait) (a : Expression) (more : List Instruction) → openings ws (steps a (ended l (frames_of ws) ++ more)) ≡ openings (kept l ws) (steps (folded l a ws) more)
folded_steps l [] a more = refl
folded_steps l (w ∷ ws) a more = by (is_ended l w) refl (folded_steps l ws (made w a) more)
  where
    by : (b : Bool) → is_ended l w ≡ b → openings ws (steps (made w a) (ended l (frames_of ws) ++ more)) ≡ openings (kept l ws) (steps (folded l (made w a) ws) more) → openings (w ∷ ws) (steps a (ended l (frames_of (w ∷ ws)) ++ more)) ≡ openings (kept l (w ∷ ws)) (steps (folded l a (w ∷ ws)) more)
    by true q ih = rw q (ap (openings ws) (sym (made_steps l w a (ended l (frames_of ws)) more q)) ∙ ih)
    by false q ih = rw q refl

kept_frames : (l : ℕ) (ws : List Wait) → left l (frames_of ws) ≡ frames_of (kept l ws)
kept_frames l [] = refl
kept_frames l (w ∷ ws) = by (is_ended l w) refl (kept_frames l ws)
  where
    by : (b : Bool) → is_ended l w ≡ b → left l (frames_of ws) ≡ frames_of (kept l ws) → left l (frames_of (w ∷ ws)) ≡ frames_of (kept l (w ∷ ws))
    by true q ih = rw q ih
    by false q ih = rw q refl

groups_steps : (n : ℕ) (x : Text) (more : List Instruction) → steps (groups n (Name x)) more ≡ step.Load x ∷ more
unfolding steps
groups_steps zero x more = refl
groups_steps (suc n) x more = groups_steps n x more

-- an operand stands there
abbrev pub IsOperand : Place → Type 0
IsOperand Wanted = ⊥
IsOperand (Stands a) = Unit {0}
IsOperand (Bare n x) = Unit {0}

-- the steps so far, and those of an operand
stood_steps : (p : Place) (ws : List Wait) (more : List Instruction) → IsOperand p → openings ws (standing p) ++ (loads (reader_of p) ++ more) ≡ openings ws (steps (tree_of p) more)
stood_steps Wanted ws more h = absurd h
stood_steps (Stands a) ws more h = openings_append ws (steps a []) more ∙ ap (openings ws) (steps_append a [] more)
stood_steps (Bare n x) ws more h = openings_append ws [] (step.Load x ∷ more) ∙ ap (openings ws) (sym (groups_steps n x more))

-- the steps before those that a token gives, where all that may has ended
so_far : (l : ℕ) (p : Place) (ws : List Wait) (more : List Instruction) → IsOperand p → openings ws (standing p) ++ ((loads (reader_of p) ++ ended l (frames_of ws)) ++ more) ≡ openings (kept l ws) (steps (folded l (tree_of p) ws) more)
so_far l p ws more h =
    ap (λ s. openings ws (standing p) ++ s) (append_assoc (loads (reader_of p)) (ended l (frames_of ws)) more) ∙ stood_steps p ws (ended l (frames_of ws) ++ more) h ∙ folded_steps l ws (tree_of p) more

abbrev at_state : List Instruction → List Frame → Reader → State
at_state g fs r = record { given = g; frames = fs; reader = r }

same_state : (g g' : List Instruction) (fs fs' : List Frame) (r : Reader) → g ≡ g' → fs ≡ fs' → Some (at_state g fs r) ≡ Some (at_state g' fs' r)
same_state g g' fs fs' r e f = rw (e, f) refl

-- `:`, `)` and the end go by what is left when all has ended

colon_is : (given ss : List Instruction) (a : Expression) (ws : List Wait) → ((more : List Instruction) → given ++ (ss ++ more) ≡ openings ws (steps a more)) → turned_state given (otherwise ss (frames_of ws)) ≡ read_state (colon a ws)
colon_is given ss a [] h = refl
colon_is given ss a (InParentheses ∷ ws) h = refl
colon_is given ss a (WithSign s ∷ ws) h = refl
colon_is given ss a (WithLeft o b ∷ ws) h = refl
colon_is given ss a (WithBoth b ∷ ws) h = refl
colon_is given ss a (WithEither b ∷ ws) h = refl
colon_is given ss a (WithQuestion c ∷ ws) h = same_state _ _ _ _ _ (h (step.Otherwise ∷ [])) refl
colon_is given ss a (WithColon c b ∷ ws) h = refl
colon_is given ss a (WithName n x o ∷ ws) h = refl

close_is : (given ss : List Instruction) (a : Expression) (ws : List Wait) → ((more : List Instruction) → given ++ (ss ++ more) ≡ openings ws (steps a more)) → turned_state given (closes ss (frames_of ws)) ≡ read_state (close a ws)
unfolding steps
close_is given ss a [] h = refl
close_is given ss a (InParentheses ∷ ws) h = same_state _ _ _ _ _ (ap (λ l. given ++ l) (sym (append-nil ss)) ∙ h []) refl
close_is given ss a (WithSign s ∷ ws) h = refl
close_is given ss a (WithLeft o b ∷ ws) h = refl
close_is given ss a (WithBoth b ∷ ws) h = refl
close_is given ss a (WithEither b ∷ ws) h = refl
close_is given ss a (WithQuestion c ∷ ws) h = refl
close_is given ss a (WithColon c b ∷ ws) h = refl
close_is given ss a (WithName n x o ∷ ws) h = refl

finish_is : (given ss : List Instruction) (a : Expression) (ws : List Wait) → ((more : List Instruction) → given ++ (ss ++ more) ≡ openings ws (steps a more)) → turned_state given (finishes ss (frames_of ws)) ≡ read_state (finish a ws)
finish_is given ss a [] h = same_state _ _ _ _ _ (ap (λ l. given ++ l) (sym (append-nil ss)) ∙ h []) refl
finish_is given ss a (w ∷ ws) h = refl

colon_by : (given ss : List Instruction) (a : Expression) (ws : List Wait) (fs : List Frame) → fs ≡ frames_of ws → ((more : List Instruction) → given ++ (ss ++ more) ≡ openings ws (steps a more)) → turned_state given (otherwise ss fs) ≡ read_state (colon a ws)
colon_by given ss a ws fs e h = rw e (colon_is given ss a ws h)

close_by : (given ss : List Instruction) (a : Expression) (ws : List Wait) (fs : List Frame) → fs ≡ frames_of ws → ((more : List Instruction) → given ++ (ss ++ more) ≡ openings ws (steps a more)) → turned_state given (closes ss fs) ≡ read_state (close a ws)
close_by given ss a ws fs e h = rw e (close_is given ss a ws h)

finish_by : (given ss : List Instruction) (a : Expression) (ws : List Wait) (fs : List Frame) → fs ≡ frames_of ws → ((more : List Instruction) → given ++ (ss ++ more) ≡ openings ws (steps a more)) → turned_state given (finishes ss fs) ≡ read_state (finish a ws)
finish_by given ss a ws fs e h = rw e (finish_is given ss a ws h)

-- an operator of a level
joined : (l : ℕ) (p : Place) (ws : List Wait) (ss : List Instruction) (w : Wait) → IsOperand p → opening w [] ≡ steps (folded l (tree_of p) ws) ss → turned_state (openings ws (standing p)) (joins (reader_of p) l ss (frame_of w) (frames_of ws)) ≡ Some (state_of (w ∷ kept l ws) Wanted)
joined l p ws ss w h e =
    same_state _ _ _ _ _ (so_far l p ws ss h ∙ ap (openings (kept l ws)) (sym e)) (ap (λ fs. frame_of w ∷ fs) (kept_frames l ws))

begin_is : (t : Token) (ws : List Wait) → turned_state (openings ws []) (begins t (frames_of ws)) ≡ read_state (begin t ws)
unfolding steps
begin_is (token.Constant n) ws = same_state _ _ _ _ _ (openings_append ws [] (step.Constant n ∷ [])) refl
begin_is (token.Name x) ws = same_state _ _ _ _ _ (append-nil (openings ws [])) refl
begin_is token.Open ws = same_state _ _ _ _ _ (append-nil (openings ws [])) refl
begin_is token.Complement ws = same_state _ _ _ _ _ (append-nil (openings ws [])) refl
begin_is token.Not ws = same_state _ _ _ _ _ (append-nil (openings ws [])) refl
begin_is (token.Operator operator.Plus) ws = same_state _ _ _ _ _ (append-nil (openings ws [])) refl
begin_is (token.Operator operator.Minus) ws = same_state _ _ _ _ _ (append-nil (openings ws [])) refl
begin_is (token.Operator o) ws = refl
begin_is token.Both ws = refl
begin_is token.Either ws = refl
begin_is token.Question ws = refl
begin_is token.Colon ws = refl
begin_is (token.Assign o) ws = refl
begin_is token.Close ws = refl
begin_is token.End ws = refl
begin_is token.Odd ws = refl

assign_is : (p : Place) (o : Option Operator) (ws : List Wait) → turned_state (openings ws (standing p)) (assigns (reader_of p) o (frames_of ws)) ≡ read_state (assign p o ws)
assign_is Wanted o ws = refl
assign_is (Stands a) o ws = refl
assign_is (Bare n x) o ws = by (may_assign (frames_of ws)) refl
  where
    loaded : (o : Option Operator) → openings ws [] ++ assigned_loads x o ≡ openings ws (opening (WithName n x o) [])
    loaded None = append-nil (openings ws [])
    loaded (Some o) = openings_append ws [] (step.Load x ∷ [])

    by : (b : Bool) → may_assign (frames_of ws) ≡ b → turned_state (openings ws []) (assigns (reader.Named x) o (frames_of ws)) ≡ read_state (assign (Bare n x) o ws)
    by true q = rw q (same_state _ _ _ _ _ (loaded o) refl)
    by false q = rw q refl

shut_by : (p : Place) (ws : List Wait) → IsOperand p → turned_state (openings ws (standing p)) (closes (loads (reader_of p) ++ ended 0 (frames_of ws)) (left 0 (frames_of ws))) ≡ read_state (close (folded 0 (tree_of p) ws) (kept 0 ws))
shut_by p ws h = close_by _ _ _ (kept 0 ws) (left 0 (frames_of ws)) (kept_frames 0 ws) (λ more. so_far 0 p ws more h)

shut_is : (p : Place) (ws : List Wait) → IsOperand p → turned_state (openings ws (standing p)) (shuts (reader_of p) (frames_of ws)) ≡ read_state (shut p ws)
unfolding steps
shut_is Wanted ws h = absurd h
shut_is (Stands a) (InParentheses ∷ ws) h = same_state _ _ _ _ _ (append-nil (openings ws (steps a []))) refl
shut_is (Bare n x) (InParentheses ∷ ws) h = same_state _ _ _ _ _ (append-nil (openings ws [])) refl
shut_is p [] h = shut_by p [] h
shut_is p (w ∷ ws) h = shut_by p (w ∷ ws) h

go_is : (p : Place) (t : Token) (ws : List Wait) → IsOperand p → turned_state (openings ws (standing p)) (goes (reader_of p) t (frames_of ws)) ≡ read_state (go p t ws)
go_is p (token.Operator o) ws h = joined (operator_level o) p ws [] (WithLeft o (folded (operator_level o) (tree_of p) ws)) h refl
go_is p token.Both ws h = joined 3 p ws (step.And ∷ []) (WithBoth (folded 3 (tree_of p) ws)) h refl
go_is p token.Either ws h = joined 2 p ws (step.Or ∷ []) (WithEither (folded 2 (tree_of p) ws)) h refl
go_is p token.Question ws h = joined 2 p ws (step.Choose ∷ []) (WithQuestion (folded 2 (tree_of p) ws)) h refl
go_is p token.Colon ws h = colon_by _ _ _ (kept 0 ws) (left 0 (frames_of ws)) (kept_frames 0 ws) (λ more. so_far 0 p ws more h)
go_is p (token.Assign o) ws h = assign_is p o ws
go_is p token.Close ws h = shut_is p ws h
go_is p token.End ws h = finish_by _ _ _ (kept 0 ws) (left 0 (frames_of ws)) (kept_frames 0 ws) (λ more. so_far 0 p ws more h)
go_is p (token.Constant n) ws h = refl
go_is p (token.Name x) ws h = refl
go_is p token.Complement ws h = refl
go_is p token.Not ws h = refl
go_is p token.Open ws h = refl
go_is p token.Odd ws h = refl

pub simulates : (p : Place) (t : Token) (ws : List Wait) → turned_state (openings ws (standing p)) (turn (reader_of p) t (frames_of ws)) ≡ read_state (turned p t ws)
simulates Wanted t ws = begin_is t ws
simulates (Stands a) t ws = go_is (Stands a) t ws tt
simulates (Bare n x) t ws = go_is (Bare n x) t ws tt
