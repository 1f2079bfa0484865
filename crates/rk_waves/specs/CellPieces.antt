-- Pieces of commands, as they come up, by the cells that they touch.
use Rattle.std.specs.Prelude.{◌≡◌, ℕ, List, [], ◌∷◌, ◌++◌, map, Bool, true, false, if◌then◌else◌}
use Rattle.std.specs.List.{list_any}
use Rattle.rk_waves.specs.CellNumbers.{number_in}
use Rattle.rk_waves.specs.Goes.{Told}
use Rattle.rk_waves.specs.Pieces.{Piece}
use Rattle.rk_waves.specs.System.{Foot, System}
use Rattle.rk_waves.specs.Waves as waves

-- the number of a command, and what the steps of a piece of it read and write
pub record CellPiece (Cell : Type 0) : Type 0 where
  pub owner : ℕ
  pub foot : Foot Cell

-- the pieces that have ended; what the steps since then read and write; and whether there was one
pub record RunPieces (Cell : Type 0) : Type 0 where
  pub ended : List (CellPiece Cell)
  pub foot : Foot Cell
  pub begun : Bool

-- these with numbers in place of cells, and the cells in the order of their numbers
pub record Pieced (Cell : Type 0) : Type 0 where
  pub cells : List Cell
  pub ended : List Piece
  pub reads : List ℕ
  pub writes : List ℕ
  pub begun : Bool

module _ {Cell : Type 0} where
  abbrev pub no_foot : Foot Cell
  no_foot = record { reads = []; writes = [] }

  abbrev pub no_pieces : RunPieces Cell
  no_pieces = record { ended = []; foot = no_foot; begun = false }

  -- both feet
  abbrev pub with_foot : Foot Cell → Foot Cell → Foot Cell
  with_foot a b = record { reads = a.reads ++ b.reads; writes = a.writes ++ b.writes }

  -- after a step more
  abbrev pub touched : RunPieces Cell → Foot Cell → RunPieces Cell
  touched p foot = record p { foot = with_foot p.foot foot; begun = true }

  -- the steps since the last piece are a piece of this command
  abbrev pub closed : RunPieces Cell → ℕ → RunPieces Cell
  closed p owner = record { ended = p.ended ++ record { owner = owner; foot = p.foot } ∷ []; foot = no_foot; begun = false }

  -- they are, if there are some
  abbrev pub done : RunPieces Cell → ℕ → RunPieces Cell
  done p owner = if p.begun then closed p owner else p

  -- Their waves, by feet alone.

  abbrev pub told : Foot Cell → Told (Foot Cell) Cell (Unit {0})
  told foot = record { step = foot; foot = foot; answer = tt }

  abbrev pub as_piece : CellPiece Cell → waves.Piece (Told (Foot Cell) Cell (Unit {0}))
  as_piece p = record { owner = p.owner; steps = told p.foot ∷ [] }

  module _ (same : Cell → Cell → Bool) (gathers : Cell → Bool) where
    -- a world of which nothing is known but what steps touch
    abbrev pub by_feet : System (Unit {0}) (Foot Cell) Cell (Unit {0}) (Unit {0})
    by_feet = record {
      at = λ w c. tt;
      foot = λ foot w. foot;
      answer = λ foot w. tt;
      after = λ foot w. w;
      same = same;
      gathers = gathers;
    }

    -- pieces with their least waves, in their order
    abbrev pub placed : List (CellPiece Cell) → List (waves.Placed (Told (Foot Cell) Cell (Unit {0})))
    placed ps = waves.placed by_feet (map as_piece ps)

  -- of equal cells the same is told
  abbrev pub IsTold : (Cell → Cell → Bool) → (Cell → Bool) → Type 0
  IsTold same test = (c d : Cell) → same c d ≡ true → test c ≡ test d

  -- What numbers say.
  module _ (same : Cell → Cell → Bool) where
    abbrev pub AllStand : List Cell → List Cell → Type 0
    AllStand cells = waves.Each (λ c. list_any (same c) cells ≡ true)

    abbrev pub FootStands : List Cell → Foot Cell → Type 0
    FootStands cells foot = AllStand cells foot.reads × AllStand cells foot.writes

    abbrev pub numbers_in : List Cell → List Cell → List ℕ
    numbers_in cells = map (number_in same cells)

    abbrev pub piece_in : List Cell → CellPiece Cell → Piece
    piece_in cells p = record { owner = p.owner; reads = numbers_in cells p.foot.reads; writes = numbers_in cells p.foot.writes }

    -- these are the pieces, each cell by its number
    pub record AreBy (p : RunPieces Cell) (n : Pieced Cell) : Type 0 where
      pub ended : n.ended ≡ map (piece_in n.cells) p.ended
      pub reads : n.reads ≡ numbers_in n.cells p.foot.reads
      pub writes : n.writes ≡ numbers_in n.cells p.foot.writes
      pub begun : n.begun ≡ p.begun
      pub stand : waves.Each (λ q. FootStands n.cells q.foot) p.ended
      pub foot_stands : FootStands n.cells p.foot
