-- Steps taken one after another, as a trace tells them.
use Rattle.std.specs.Prelude.{◌≡◌, List, [], ◌∷◌}
use Rattle.rk_waves.specs.System.{System, Foot, Alike}

-- a step with the foot and the answer that it had
pub record Told (Step Cell Answer : Type 0) : Type 0 where
  pub step : Step
  pub foot : Foot Cell
  pub answer : Answer

module _ {World Step Cell Value Answer : Type 0} (g : System World Step Cell Value Answer) where
  -- from a world each step has the foot and the answer told of it, and after them the world is like this one
  abbrev pub Goes : World → List (Told Step Cell Answer) → World → Type 0
  Goes w [] end = Alike g w end
  Goes w (t ∷ ts) end = (g.foot t.step w ≡ t.foot) × (g.answer t.step w ≡ t.answer) × Goes (g.after t.step w) ts end

  -- the world that steps leave, one after another
  abbrev pub left_by : World → List (Told Step Cell Answer) → World
  left_by w [] = w
  left_by w (t ∷ ts) = left_by (g.after t.step w) ts
