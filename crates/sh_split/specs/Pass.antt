-- The cutting in one pass.
use Rattle.std.specs.Prelude.{◌≡◌, List, [], ◌∷◌, ◌++◌}
use Rattle.sh_split.specs.declared.mark.Mark.{Mark}
use Rattle.sh_split.specs.declared.mark.MarkKind.{MarkKind}
use Rattle.sh_split.specs.declared.mark.MarkKind.TheVariants.{White, Hard, Matter, Break}
use Rattle.sh_split.specs.declared.pass.State.{State}
use Rattle.sh_split.specs.declared.pass.State.TheVariants.{Gap, In, After}
use Rattle.sh_split.specs.Cutting.{Marks}

-- what a mark does: a field that ends, the state and the field that is open afterwards
pub record Step : Type 0 where
  pub ended : List Marks
  pub state : State
  pub open_field : Marks

abbrev pub goes : List Marks → State → Marks → Step
goes ended state open_field = record { ended = ended; state = state; open_field = open_field }

abbrev pub step : MarkKind → State → Marks → Mark → Step
step White Gap f m = goes [] Gap []
step White In f m = goes (f ∷ []) After []
step White After f m = goes [] After []
step Hard Gap f m = goes ([] ∷ []) Gap []
step Hard In f m = goes (f ∷ []) Gap []
step Hard After f m = goes [] Gap []
step Matter Gap f m = goes [] In (m ∷ [])
step Matter In f m = goes [] In (f ++ m ∷ [])
step Matter After f m = goes [] In (m ∷ [])
step Break Gap f m = goes [] Gap []
step Break In f m = goes (f ∷ []) Gap []
step Break After f m = goes [] Gap []

abbrev pub last_of : State → Marks → List Marks
last_of Gap f = []
last_of In f = f ∷ []
last_of After f = []

-- the fields that are still to come
abbrev pub fields_from : (Mark → MarkKind) → State → Marks → Marks → List Marks
fields_from kind s f [] = last_of s f
fields_from kind s f (m ∷ ms) = (step (kind m) s f m).ended ++ fields_from kind (step (kind m) s f m).state (step (kind m) s f m).open_field ms

-- outside a field none is open
abbrev pub Fitting : State → Marks → Type 0
Fitting Gap f = f ≡ []
Fitting In f = Unit {0}
Fitting After f = f ≡ []

-- what the code did at a mark
pub record Puts (told : Step) (old new : List Marks) (s : State) (f : Marks) : Type 0 where
  pub fields : new ≡ old ++ told.ended
  pub state : s ≡ told.state
  pub open_field : f ≡ told.open_field
  pub fitting : Fitting s f

-- the fields that a word is cut into, for whoever speaks of them as a function
abbrev pub cut_fields : (Mark → MarkKind) → Marks → List Marks
cut_fields kind text = fields_from kind Gap [] text
