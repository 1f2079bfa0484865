-- Steps as programs over cells: their feet hold all that they read and write by construction.
use Rattle.std.specs.Prelude.{◌≡◌, ◌⊎◌, List, [], ◌∷◌, Bool, true, false, Option, Some, None, if◌then◌else◌}
use Rattle.rk_waves.specs.System.{System}

-- a cell of its own, or all cells of a group
pub data Cell (Plain Group : Type 0) : Type 0 where
  One : Plain → Cell Plain Group
  All : Group → Cell Plain Group

-- a value that doesn't depend on the old one, or one that is made of it without being told
pub data Update (Value : Type 0) : Type 0 where
  Sets : Value → Update Value
  Changes : (Value → Value) → Update Value

-- it reads cells, one by one, and ends with an answer and what it writes
pub data Program (Plain Group Value Answer : Type 0) : Type 0 where
  Reads : (cell : Cell Plain Group) (next : Value → Program Plain Group Value Answer) → Program Plain Group Value Answer
  Ends : (answer : Answer) (writes : List (Plain × Update Value)) → Program Plain Group Value Answer

abbrev pub updated : {Value : Type 0} → Update Value → Value → Value
updated (Sets x) old = x
updated (Changes f) old = f old

-- cells in groups
pub record Cells (Plain Group : Type 0) : Type 0 where
  pub is_plain : Plain → Plain → Bool
  pub is_group : Group → Group → Bool
  pub group_of : Plain → Option Group
  pub plain_is : (p q : Plain) → is_plain p q ≡ true → p ≡ q
  pub plain_self : (p : Plain) → is_plain p p ≡ true
  pub group_is : (p q : Group) → is_group p q ≡ true → p ≡ q
  pub group_self : (p : Group) → is_group p p ≡ true

module _ {Plain Group : Type 0} (cells : Cells Plain Group) where
  abbrev pub is_cell : Cell Plain Group → Cell Plain Group → Bool
  is_cell (One p) (One q) = cells.is_plain p q
  is_cell (One p) (All d) = false
  is_cell (All c) (One q) = false
  is_cell (All c) (All d) = cells.is_group c d

  abbrev pub with_group : Option Group → List (Cell Plain Group) → List (Cell Plain Group)
  with_group None cs = cs
  with_group (Some d) cs = All d ∷ cs

  -- what is written, with the groups of it
  abbrev pub written_cells : {Value : Type 0} → List (Plain × Update Value) → List (Cell Plain Group)
  written_cells [] = []
  written_cells (w ∷ ws) = One w.0 ∷ with_group (cells.group_of w.0) (written_cells ws)

  -- what a cell holds after these writes
  abbrev pub written : {Value : Type 0} → List (Plain × Update Value) → Plain → Value → Value
  written [] p old = old
  written (w ∷ ws) p old = written ws p (if cells.is_plain w.0 p then updated w.1 old else old)

abbrev pub reads_of : {Plain Group Value Answer : Type 0} → (Cell Plain Group → Value) → Program Plain Group Value Answer → List (Cell Plain Group)
reads_of at (Reads c next) = c ∷ reads_of at (next (at c))
reads_of at (Ends answer writes) = []

abbrev pub end_of : {Plain Group Value Answer : Type 0} → (Cell Plain Group → Value) → Program Plain Group Value Answer → Answer × List (Plain × Update Value)
end_of at (Reads c next) = end_of at (next (at c))
end_of at (Ends answer writes) = (answer, writes)

abbrev pub gathers_all : {Plain Group : Type 0} → Cell Plain Group → Bool
gathers_all (One p) = false
gathers_all (All d) = true

-- a world of which each step does what its program does
pub record Programmed (World Step Plain Group Value Answer : Type 0) : Type 0 where
  pub cells : Cells Plain Group
  pub at : World → Cell Plain Group → Value
  pub program : Step → Program Plain Group Value Answer
  pub answer : Step → World → Answer
  pub after : Step → World → World
  pub answers : (s : Step) (w : World) → answer s w ≡ (end_of (at w) (program s)).0
  pub writes : (s : Step) (w : World) (p : Plain) → at (after s w) (One p) ≡ written cells (end_of (at w) (program s)).1 p (at w (One p))
  -- a group in two worlds stays equal where each of its cells is left as it was in both, or becomes equal
  pub groups :
      (d : Group) (w v w' v' : World) → at w (All d) ≡ at v (All d)
      → ((p : Plain) → cells.group_of p ≡ Some d → (at w' (One p) ≡ at w (One p)) × (at v' (One p) ≡ at v (One p)) ⊎ at w' (One p) ≡ at v' (One p))
      → at w' (All d) ≡ at v' (All d)

module _ {World Step Plain Group Value Answer : Type 0} (it : Programmed World Step Plain Group Value Answer) where
  abbrev pub by_cells : System World Step (Cell Plain Group) Value Answer
  by_cells = record {
    at = it.at;
    foot = λ s w. record { reads = reads_of (it.at w) (it.program s); writes = written_cells it.cells (end_of (it.at w) (it.program s)).1 };
    answer = it.answer;
    after = it.after;
    same = is_cell it.cells;
    gathers = gathers_all;
  }
