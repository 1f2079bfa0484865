-- The waves of steps, by the numbers of their cells.
use Rattle.std.specs.Prelude.{◌≡◌, ℕ, List, [], ◌∷◌, ◌++◌, map, Bool, true, ◌==◌}
use Rattle.rk_waves.specs.System.{System}
use Rattle.rk_waves.specs.Goes.{Told}
use Rattle.rk_waves.specs.Waves as waves
use Rattle.rk_waves.specs.Pieces.{Piece, Placed, wave_of}

module _ {World Step Cell Value Answer : Type 0} (g : System World Step Cell Value Answer) where
  -- the cells that are known have numbers, by which they are told apart
  pub record AreNumbered (known : Cell → Bool) (number : Cell → ℕ) (gathers : ℕ → Bool) : Type 0 where
    pub same : (c d : Cell) → known c ≡ true → known d ≡ true → g.same c d ≡ (number c == number d)
    pub gathering : (c : Cell) → known c ≡ true → gathers (number c) ≡ g.gathers c

  abbrev pub AllKnown : (Cell → Bool) → List Cell → Type 0
  AllKnown known = waves.Each (λ c. known c ≡ true)

  -- all cells that these steps read or write are known
  abbrev pub TouchKnown : (Cell → Bool) → List (Told Step Cell Answer) → Type 0
  TouchKnown known = waves.Each (λ t. AllKnown known t.foot.reads × AllKnown known t.foot.writes)

  -- all that these steps read, and all that they write

  abbrev pub reads_in : (Cell → ℕ) → List (Told Step Cell Answer) → List ℕ
  reads_in number [] = []
  reads_in number (t ∷ ts) = map number t.foot.reads ++ reads_in number ts

  abbrev pub writes_in : (Cell → ℕ) → List (Told Step Cell Answer) → List ℕ
  writes_in number [] = []
  writes_in number (t ∷ ts) = map number t.foot.writes ++ writes_in number ts

  abbrev pub piece_in : (Cell → ℕ) → waves.Piece (Told Step Cell Answer) → Piece
  piece_in number p = record { owner = p.owner; reads = reads_in number p.steps; writes = writes_in number p.steps }

  abbrev pub placed_in : (Cell → ℕ) → waves.Placed (Told Step Cell Answer) → Placed
  placed_in number q = record { wave = q.wave; piece = piece_in number q.piece }

  -- the least wave of a piece of steps is that of the numbers of their cells
  abbrev pub ByNumbers : Type 0
  ByNumbers =
      (known : Cell → Bool) (number : Cell → ℕ) (gathers : ℕ → Bool) → AreNumbered known number gathers
      → (earlier : List (waves.Placed (Told Step Cell Answer))) (p : waves.Piece (Told Step Cell Answer))
      → waves.Each (λ q. TouchKnown known q.piece.steps) earlier → TouchKnown known p.steps
      → waves.wave_of g earlier p ≡ wave_of gathers (map (placed_in number) earlier) (piece_in number p)
