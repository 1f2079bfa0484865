-- How tokens are read into steps: frames are what waits for its last operand, innermost first.
use Rattle.std.specs.Prelude.{ℕ, ◌≡◌, ◌++◌, List, [], ◌∷◌, Bool, true, false, Option, Some, None, Result, Ok, Err, nat_le, if◌then◌else◌}
use Rattle.rk_base.specs.Text.{Text}
use Rattle.sh_arith.specs.declared.operator.Operator.{Operator}
use Rattle.sh_arith.specs.declared.operator.Operator.TheVariants as operator
use Rattle.sh_arith.specs.declared.operator.Sign.TheVariants as sign
use Rattle.sh_arith.specs.declared.token.Token.{Token}
use Rattle.sh_arith.specs.declared.token.Token.TheVariants as token
use Rattle.sh_arith.specs.declared.frame.Frame.{Frame}
use Rattle.sh_arith.specs.declared.frame.Frame.TheVariants as frame
use Rattle.sh_arith.specs.declared.frame.Reader.{Reader}
use Rattle.sh_arith.specs.declared.frame.Reader.TheVariants as reader
use Rattle.sh_arith.specs.declared.step.Instruction.{Instruction}
use Rattle.sh_arith.specs.declared.step.Instruction.TheVariants as step
use Rattle.sh_arith.specs.Grammar.{operator_level}

-- the level of what a frame makes; an open parenthesis, and `?` before its `:`, make nothing yet
abbrev pub frame_level : Frame → Option ℕ
frame_level (frame.Signed s) = Some 12
frame_level (frame.Applied o) = Some (operator_level o)
frame_level frame.Both = Some 3
frame_level frame.Either = Some 2
frame_level frame.Colon = Some 1
frame_level (frame.Assign x o) = Some 0
frame_level frame.Open = None
frame_level frame.Question = None

abbrev pub at_least : ℕ → Option ℕ → Bool
at_least l None = false
at_least l (Some m) = nat_le l m

-- the steps that end what a frame makes
abbrev pub ending : Frame → List Instruction
ending (frame.Signed s) = step.Signed s ∷ []
ending (frame.Applied o) = step.Applied o ∷ []
ending frame.Both = step.Truth ∷ step.Joined ∷ []
ending frame.Either = step.Truth ∷ step.Joined ∷ []
ending frame.Colon = step.Joined ∷ []
ending (frame.Assign x None) = step.Store x ∷ []
ending (frame.Assign x (Some o)) = step.Applied o ∷ step.Store x ∷ []
ending frame.Open = []
ending frame.Question = []

-- frames that end before an operator of a level; which steps that gives, and which stay
abbrev pub ended : ℕ → List Frame → List Instruction
ended l [] = []
ended l (f ∷ fs) = if at_least l (frame_level f) then ending f ++ ended l fs else []

abbrev pub left : ℕ → List Frame → List Frame
left l [] = []
left l (f ∷ fs) = if at_least l (frame_level f) then left l fs else f ∷ fs

-- the steps that load the name that stands there
abbrev pub loads : Reader → List Instruction
loads (reader.Named x) = step.Load x ∷ []
loads reader.Has = []
loads reader.Wants = []

-- What a token does: the steps that it gives, the frames that wait then, and what stands before the next token.
pub record Turn : Type 0 where
  pub gives : List Instruction
  pub frames : List Frame
  pub reader : Reader

abbrev pub turns : List Instruction → List Frame → Reader → Option Turn
turns ss fs r = Some (record { gives = ss; frames = fs; reader = r })

-- where an operand is wanted
abbrev pub begins : Token → List Frame → Option Turn
begins (token.Constant n) fs = turns (step.Constant n ∷ []) fs reader.Has
begins (token.Name x) fs = turns [] fs (reader.Named x)
begins token.Open fs = turns [] (frame.Open ∷ fs) reader.Wants
begins token.Complement fs = turns [] (frame.Signed sign.Complement ∷ fs) reader.Wants
begins token.Not fs = turns [] (frame.Signed sign.Not ∷ fs) reader.Wants
begins (token.Operator operator.Plus) fs = turns [] (frame.Signed sign.Plus ∷ fs) reader.Wants
begins (token.Operator operator.Minus) fs = turns [] (frame.Signed sign.Minus ∷ fs) reader.Wants
begins t fs = None

-- an operator of a level, with the steps and the frame that it makes
abbrev pub joins : Reader → ℕ → List Instruction → Frame → List Frame → Option Turn
joins r l ss f fs = turns (loads r ++ ended l fs ++ ss) (f ∷ left l fs) reader.Wants

-- by what is left when all has ended

abbrev pub otherwise : List Instruction → List Frame → Option Turn
otherwise ss (frame.Question ∷ fs) = turns (ss ++ step.Otherwise ∷ []) (frame.Colon ∷ fs) reader.Wants
otherwise ss fs = None

abbrev pub is_open : Frame → Bool
is_open frame.Open = true
is_open f = false

abbrev pub closes : List Instruction → List Frame → Option Turn
closes ss (frame.Open ∷ fs) = turns ss fs reader.Has
closes ss fs = None

abbrev pub finishes : List Instruction → List Frame → Option Turn
finishes ss [] = turns ss [] reader.Has
finishes ss (f ∷ fs) = None

-- an assignment stands at the beginning, in parentheses, between `?` and `:`, or behind another
abbrev pub may_assign : List Frame → Bool
may_assign [] = true
may_assign (frame.Open ∷ fs) = true
may_assign (frame.Question ∷ fs) = true
may_assign (frame.Assign x o ∷ fs) = true
may_assign (f ∷ fs) = false

-- with an operator it reads its name before its right side
abbrev pub assigned_loads : Text → Option Operator → List Instruction
assigned_loads x None = []
assigned_loads x (Some o) = step.Load x ∷ []

abbrev pub assigns : Reader → Option Operator → List Frame → Option Turn
assigns (reader.Named x) o fs = if may_assign fs then turns (assigned_loads x o) (frame.Assign x o ∷ fs) reader.Wants else None
assigns r o fs = None

-- a name in parentheses is still a name
abbrev pub shuts : Reader → List Frame → Option Turn
shuts r (frame.Open ∷ fs) = turns [] fs r
shuts r fs = closes (loads r ++ ended 0 fs) (left 0 fs)

-- behind an operand
abbrev pub goes : Reader → Token → List Frame → Option Turn
goes r (token.Operator o) fs = joins r (operator_level o) [] (frame.Applied o) fs
goes r token.Both fs = joins r 3 (step.And ∷ []) frame.Both fs
goes r token.Either fs = joins r 2 (step.Or ∷ []) frame.Either fs
goes r token.Question fs = joins r 2 (step.Choose ∷ []) frame.Question fs
goes r token.Colon fs = otherwise (loads r ++ ended 0 fs) (left 0 fs)
goes r (token.Assign o) fs = assigns r o fs
goes r token.Close fs = shuts r fs
goes r token.End fs = finishes (loads r ++ ended 0 fs) (left 0 fs)
goes r t fs = None

abbrev pub turn : Reader → Token → List Frame → Option Turn
turn reader.Wants t fs = begins t fs
turn r t fs = goes r t fs

abbrev pub ends_with : Token → Bool
ends_with token.End = true
ends_with t = false

-- What is read so far: the steps, the frames that wait, and what stands before the next token.
pub record State : Type 0 where
  pub given : List Instruction
  pub frames : List Frame
  pub reader : Reader

-- what the code tells of a token: whether it goes on, and to which state; want of memory tells nothing
abbrev pub After : Bool → State → State → Option Turn → Type 0
After true old new None = ⊥
After true old new (Some t) = new ≡ record { given = old.given ++ t.gives; frames = t.frames; reader = t.reader }
After false old new t = t ≡ None

abbrev pub Turned : {E : Type 0} → Result Bool E → State → State → Option Turn → Type 0
Turned (Ok b) old new t = After b old new t
Turned (Err e) old new t = Unit {0}
