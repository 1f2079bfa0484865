-- A world that is seen by its cells, and steps that read and write them.
use Rattle.std.specs.Prelude.{◌≡◌, List, [], ◌∷◌, Bool, true, false, not, ◌&&◌, ◌||◌}

-- the cells that a step reads, and those that it writes
pub record Foot (Cell : Type 0) : Type 0 where
  pub reads : List Cell
  pub writes : List Cell

-- What a step makes is named by the step, so worlds whose numbers differ can hold equal values.
pub record System (World Step Cell Value Answer : Type 0) : Type 0 where
  -- what a cell holds, by names alone
  pub at : World → Cell → Value
  pub foot : Step → World → Foot Cell
  pub answer : Step → World → Answer
  pub after : Step → World → World
  -- whether two cells are one
  pub same : Cell → Cell → Bool
  -- whether a cell only gathers what others hold, as all entries of a directory do: then two writes of it don't conflict
  pub gathers : Cell → Bool

module _ {World Step Cell Value Answer : Type 0} (g : System World Step Cell Value Answer) where
  -- a cell is among these
  abbrev pub has : List Cell → Cell → Bool
  has [] c = false
  has (d ∷ ds) c = g.same d c || has ds c

  -- some cell is among both
  abbrev pub meets : List Cell → List Cell → Bool
  meets [] ds = false
  meets (c ∷ cs) ds = has ds c || meets cs ds

  -- some cell that holds something of its own is among both
  abbrev pub meets_plainly : List Cell → List Cell → Bool
  meets_plainly [] ds = false
  meets_plainly (c ∷ cs) ds = (not (g.gathers c) && has ds c) || meets_plainly cs ds

  -- one writes a cell that the other reads or writes
  abbrev pub conflict : Foot Cell → Foot Cell → Bool
  conflict a b = meets a.writes b.reads || (meets b.writes a.reads || meets_plainly a.writes b.writes)

  abbrev pub AgreeOn : List Cell → World → World → Type 0
  AgreeOn cs w v = (c : Cell) → has cs c ≡ true → g.at w c ≡ g.at v c

  abbrev pub AgreePlainlyOn : List Cell → World → World → Type 0
  AgreePlainlyOn cs w v = (c : Cell) → has cs c ≡ true → g.gathers c ≡ false → g.at w c ≡ g.at v c

  -- no cell tells them apart
  abbrev pub Alike : World → World → Type 0
  Alike w v = (c : Cell) → g.at w c ≡ g.at v c

  -- a foot tells all that the step reads and writes
  pub record IsLawful : Type 0 where
    pub same_cell : (c d : Cell) → g.same c d ≡ true → c ≡ d
    -- where worlds agree on what it reads, it has one foot and one answer
    pub one_foot : (s : Step) (w v : World) → AgreeOn (g.foot s w).reads w v → g.foot s v ≡ g.foot s w
    pub one_answer : (s : Step) (w v : World) → AgreeOn (g.foot s w).reads w v → g.answer s v ≡ g.answer s w
    -- where they agree on what it writes too, it leaves that equal
    pub leaves :
        (s : Step) (w v : World) → AgreeOn (g.foot s w).reads w v → AgreePlainlyOn (g.foot s w).writes w v
        → AgreePlainlyOn (g.foot s w).writes (g.after s w) (g.after s v)
    -- all else stays
    pub stays : (s : Step) (w : World) (c : Cell) → has (g.foot s w).writes c ≡ false → g.at (g.after s w) c ≡ g.at w c
    -- what gathers is told by what it gathers
    pub gathered : (w v : World) → ((c : Cell) → g.gathers c ≡ false → g.at w c ≡ g.at v c) → Alike w v
