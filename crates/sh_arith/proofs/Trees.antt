-- Reading tokens into a tree: what waits for its last operand has the trees of the others.
use Rattle.std.specs.Prelude.{ℕ, zero, suc, List, [], ◌∷◌, Bool, true, false, Option, Some, None, if◌then◌else◌}
use Rattle.rk_base.specs.Text.{Text}
use Rattle.sh_arith.specs.declared.operator.Operator.{Operator}
use Rattle.sh_arith.specs.declared.operator.Operator.TheVariants as operator
use Rattle.sh_arith.specs.declared.operator.Sign.{Sign}
use Rattle.sh_arith.specs.declared.operator.Sign.TheVariants as sign
use Rattle.sh_arith.specs.declared.token.Token.{Token}
use Rattle.sh_arith.specs.declared.token.Token.TheVariants as token
use Rattle.sh_arith.specs.declared.frame.Frame.{Frame}
use Rattle.sh_arith.specs.declared.frame.Frame.TheVariants as frame
use Rattle.sh_arith.specs.declared.frame.Reader.{Reader}
use Rattle.sh_arith.specs.declared.frame.Reader.TheVariants as reader
use Rattle.sh_arith.specs.declared.step.Instruction.{Instruction}
use Rattle.sh_arith.specs.declared.step.Instruction.TheVariants as step
use Rattle.sh_arith.specs.Expression.{Expression, Constant, Name, Group, Signed, Applied, Both, Either, Choice, Assignment}
use Rattle.sh_arith.specs.Grammar.{operator_level}
use Rattle.sh_arith.specs.Steps.{steps}
use Rattle.sh_arith.specs.Reading.{frame_level, at_least, may_assign, ends_with, State}

pub data Wait : Type 0 where
  InParentheses : Wait
  WithSign : Sign → Wait
  WithLeft : Operator → Expression → Wait
  WithBoth : Expression → Wait
  WithEither : Expression → Wait
  WithQuestion : Expression → Wait
  WithColon : Expression → Expression → Wait
  WithName : (parentheses : ℕ) (name : Text) → Option Operator → Wait

-- what stands before the next token
pub data Place : Type 0 where
  Wanted : Place
  Stands : Expression → Place
  Bare : (parentheses : ℕ) (name : Text) → Place

abbrev pub frame_of : Wait → Frame
frame_of InParentheses = frame.Open
frame_of (WithSign s) = frame.Signed s
frame_of (WithLeft o a) = frame.Applied o
frame_of (WithBoth a) = frame.Both
frame_of (WithEither a) = frame.Either
frame_of (WithQuestion c) = frame.Question
frame_of (WithColon c a) = frame.Colon
frame_of (WithName n x o) = frame.Assign x o

abbrev pub frames_of : List Wait → List Frame
frames_of [] = []
frames_of (w ∷ ws) = frame_of w ∷ frames_of ws

abbrev pub reader_of : Place → Reader
reader_of Wanted = reader.Wants
reader_of (Stands a) = reader.Has
reader_of (Bare n x) = reader.Named x

-- with its last operand; behind `?` an operand makes nothing yet
abbrev pub made : Wait → Expression → Expression
made InParentheses a = Group a
made (WithSign s) a = Signed s a
made (WithLeft o a) b = Applied o a b
made (WithBoth a) b = Both a b
made (WithEither a) b = Either a b
made (WithQuestion c) a = a
made (WithColon c a) b = Choice c a b
made (WithName n x o) a = Assignment n x o a

abbrev pub is_ended : ℕ → Wait → Bool
is_ended l w = at_least l (frame_level (frame_of w))

-- what ends before an operator of a level, and what stays
abbrev pub folded : ℕ → Expression → List Wait → Expression
folded l a [] = a
folded l a (w ∷ ws) = if is_ended l w then folded l (made w a) ws else a

abbrev pub kept : ℕ → List Wait → List Wait
kept l [] = []
kept l (w ∷ ws) = if is_ended l w then kept l ws else w ∷ ws

abbrev pub groups : ℕ → Expression → Expression
groups zero a = a
groups (suc n) a = Group (groups n a)

abbrev pub tree_of : Place → Expression
tree_of Wanted = Constant None
tree_of (Stands a) = a
tree_of (Bare n x) = groups n (Name x)

pub record Read : Type 0 where
  pub waits : List Wait
  pub place : Place

abbrev pub to : List Wait → Place → Option Read
to ws p = Some (record { waits = ws; place = p })

abbrev pub begin : Token → List Wait → Option Read
begin (token.Constant n) ws = to ws (Stands (Constant n))
begin (token.Name x) ws = to ws (Bare 0 x)
begin token.Open ws = to (InParentheses ∷ ws) Wanted
begin token.Complement ws = to (WithSign sign.Complement ∷ ws) Wanted
begin token.Not ws = to (WithSign sign.Not ∷ ws) Wanted
begin (token.Operator operator.Plus) ws = to (WithSign sign.Plus ∷ ws) Wanted
begin (token.Operator operator.Minus) ws = to (WithSign sign.Minus ∷ ws) Wanted
begin t ws = None

abbrev pub colon : Expression → List Wait → Option Read
colon a (WithQuestion c ∷ ws) = to (WithColon c a ∷ ws) Wanted
colon a ws = None

abbrev pub close : Expression → List Wait → Option Read
close a (InParentheses ∷ ws) = to ws (Stands (Group a))
close a ws = None

abbrev pub finish : Expression → List Wait → Option Read
finish a [] = to [] (Stands a)
finish a (w ∷ ws) = None

abbrev pub assign : Place → Option Operator → List Wait → Option Read
assign (Bare n x) o ws = if may_assign (frames_of ws) then to (WithName n x o ∷ ws) Wanted else None
assign p o ws = None

abbrev pub shut : Place → List Wait → Option Read
shut (Bare n x) (InParentheses ∷ ws) = to ws (Bare (suc n) x)
shut p ws = close (folded 0 (tree_of p) ws) (kept 0 ws)

abbrev pub go : Place → Token → List Wait → Option Read
go p (token.Operator o) ws = to (WithLeft o (folded (operator_level o) (tree_of p) ws) ∷ kept (operator_level o) ws) Wanted
go p token.Both ws = to (WithBoth (folded 3 (tree_of p) ws) ∷ kept 3 ws) Wanted
go p token.Either ws = to (WithEither (folded 2 (tree_of p) ws) ∷ kept 2 ws) Wanted
go p token.Question ws = to (WithQuestion (folded 2 (tree_of p) ws) ∷ kept 2 ws) Wanted
go p token.Colon ws = colon (folded 0 (tree_of p) ws) (kept 0 ws)
go p (token.Assign o) ws = assign p o ws
go p token.Close ws = shut p ws
go p token.End ws = finish (folded 0 (tree_of p) ws) (kept 0 ws)
go p t ws = None

abbrev pub turned : Place → Token → List Wait → Option Read
turned Wanted t ws = begin t ws
turned p t ws = go p t ws

abbrev pub goes_on : Bool → Option Read → (Place → List Wait → Option Expression) → Option Expression
goes_on last None next = None
goes_on true (Some r) next = Some (tree_of r.place)
goes_on false (Some r) next = next r.place r.waits

-- the expression that tokens are
abbrev pub tree_read : List Token → Place → List Wait → Option Expression
tree_read [] p ws = None
tree_read (t ∷ ts) p ws = goes_on (ends_with t) (turned p t ws) (tree_read ts)

-- The steps so far, before others.

abbrev pub opening : Wait → List Instruction → List Instruction
opening InParentheses after = after
opening (WithSign s) after = after
opening (WithLeft o a) after = steps a after
opening (WithBoth a) after = steps a (step.And ∷ after)
opening (WithEither a) after = steps a (step.Or ∷ after)
opening (WithQuestion c) after = steps c (step.Choose ∷ after)
opening (WithColon c a) after = steps c (step.Choose ∷ steps a (step.Otherwise ∷ after))
opening (WithName n x None) after = after
opening (WithName n x (Some o)) after = step.Load x ∷ after

abbrev pub openings : List Wait → List Instruction → List Instruction
openings [] after = after
openings (w ∷ ws) after = openings ws (opening w after)

abbrev pub standing : Place → List Instruction
standing Wanted = []
standing (Stands a) = steps a []
standing (Bare n x) = []

abbrev pub state_of : List Wait → Place → State
state_of ws p = record { given = openings ws (standing p); frames = frames_of ws; reader = reader_of p }

abbrev pub read_state : Option Read → Option State
read_state None = None
read_state (Some r) = Some (state_of r.waits r.place)
