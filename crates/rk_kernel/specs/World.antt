-- The world: a tree, the open descriptions, the pipes, the output and the error text.
use Rattle.std.specs.Prelude.{ℕ, ◌+◌, List, [], ◌∷◌, ◌++◌, length, take, drop, position, Bool, true, false, ◌==◌, if◌then◌else◌, Option, Some, None, slice_get, slice_set, refl}
use Rattle.std.specs.Coded.{Coded, code_by, coded×, coded_ℕ, coded_list}
use Rattle.rk_base.specs.Text.{Text}
use Rattle.rk_tree.specs.Entries.{Entries}
use Rattle.rk_tree.specs.Hierarchy.{Hierarchy, node, file_bytes, write}
use Rattle.rk_tree.specs.Copies.{tree_of}
use Rattle.rk_kernel.specs.declared.description.Description.{Description}
use Rattle.rk_kernel.specs.declared.description.Source.{Source}
use Rattle.rk_kernel.specs.declared.description.Source.TheVariants as source

pub record World : Type 0 where
  pub tree : Hierarchy
  pub opens : List Description
  pub pipes : List Text
  pub out : Text
  pub err : Text

-- by which a proof tells two of them apart
abbrev pub world_code : Coded Hierarchy → Coded Description → Coded World
world_code tree d =
    code_by (Hierarchy × (List Description × (List Text × (Text × Text)))) (coded× tree (coded× (coded_list d) (coded× (coded_list (coded_list coded_ℕ)) (coded× (coded_list coded_ℕ) (coded_list coded_ℕ)))))
    (λ w. (w.tree, (w.opens, (w.pipes, (w.out, w.err))))) (λ p. record { tree = p.0; opens = p.1.0; pipes = p.1.1.0; out = p.1.1.1.0; err = p.1.1.1.1 }) (λ _. refl)

-- The world in which nothing has run.

abbrev pub empty_input : Description
empty_input = record { source = source.Nothing; offset = 0; read = true; write = false; append = false }

abbrev pub output : Description
output = record { source = source.Output; offset = 0; read = false; write = true; append = false }

abbrev pub error_text : Description
error_text = record { source = source.ErrorText; offset = 0; read = false; write = true; append = false }

-- of a tree
abbrev pub fresh : Hierarchy → World
fresh tree = record { tree = tree; opens = empty_input ∷ output ∷ error_text ∷ []; pipes = []; out = []; err = [] }

-- of a snapshot's tree
abbrev pub fresh_world : Entries → World
fresh_world snapshot = fresh (tree_of snapshot)

-- Reading and writing.

abbrev pub text_of : Option Text → Text
text_of None = []
text_of (Some text) = text

-- what there is to read
abbrev pub rest_of : World → ℕ → Source → Text
rest_of world offset (source.Node n) = drop offset (file_bytes (node world.tree n))
rest_of world offset (source.Pipe p) = text_of (slice_get world.pipes p)
rest_of world offset source.Output = []
rest_of world offset source.ErrorText = []
rest_of world offset source.Nothing = []

abbrev pub with_offset : World → ℕ → Description → ℕ → World
with_offset world k d offset = record world { opens = slice_set world.opens k (record d { offset = offset }) }

-- the world after the description of this number has read all there is
abbrev pub after_read : World → ℕ → Description → Source → World
after_read world k d (source.Node n) = with_offset world k d (length (file_bytes (node world.tree n)))
after_read world k d (source.Pipe p) = record world { pipes = slice_set world.pipes p [] }
after_read world k d source.Output = world
after_read world k d source.ErrorText = world
after_read world k d source.Nothing = world

-- Reading a line: up to and with the first newline, or all there is.

abbrev pub is_newline : ℕ → Bool
is_newline b = b == 10

abbrev pub cut_after : Text → Option ℕ → Text
cut_after text None = text
cut_after text (Some i) = take (i + 1) text

abbrev pub left_after : Text → Option ℕ → Text
left_after text None = []
left_after text (Some i) = drop (i + 1) text

-- the first line of a text
abbrev pub line_of : Text → Text
line_of text = cut_after text (position is_newline text)

-- what stands after it
abbrev pub after_line : Text → Text
after_line text = left_after text (position is_newline text)

abbrev pub end_after : Text → ℕ → Option ℕ → ℕ
end_after text offset None = length text
end_after text offset (Some i) = offset + (i + 1)

-- the offset after the line that begins at an offset; where no newline ends it, the end of the text
abbrev pub line_end : Text → ℕ → ℕ
line_end text offset = end_after text offset (position is_newline (drop offset text))

-- the world after the description of this number has read a line
abbrev pub after_read_line : World → ℕ → Description → Source → World
after_read_line world k d (source.Node n) = with_offset world k d (line_end (file_bytes (node world.tree n)) d.offset)
after_read_line world k d (source.Pipe p) = record world { pipes = slice_set world.pipes p (after_line (text_of (slice_get world.pipes p))) }
after_read_line world k d source.Output = world
after_read_line world k d source.ErrorText = world
after_read_line world k d source.Nothing = world

-- where a write begins
abbrev pub place_in : Description → Text → ℕ
place_in d old = if d.append then length old else d.offset

-- the world after bytes were written to a file from a place on
abbrev pub after_file_write : World → ℕ → Description → Text → ℕ → ℕ → World
after_file_write world k d bytes n at = record (with_offset world k d (at + length bytes)) { tree = write world.tree n at bytes }

-- the world after bytes were written by the description of this number
abbrev pub after_write : World → ℕ → Description → Text → Source → World
after_write world k d bytes (source.Node n) = after_file_write world k d bytes n (place_in d (file_bytes (node world.tree n)))
after_write world k d bytes (source.Pipe p) = record world { pipes = slice_set world.pipes p (text_of (slice_get world.pipes p) ++ bytes) }
after_write world k d bytes source.Output = record world { out = world.out ++ bytes }
after_write world k d bytes source.ErrorText = record world { err = world.err ++ bytes }
after_write world k d bytes source.Nothing = world

-- Changes of a part.

abbrev pub with_tree : World → Hierarchy → World
with_tree world tree = record world { tree = tree }

-- a description more
abbrev pub with_open : World → Description → World
with_open world d = record world { opens = world.opens ++ d ∷ [] }

-- Pipes.

abbrev pub read_end : ℕ → Description
read_end p = record { source = source.Pipe p; offset = 0; read = true; write = false; append = false }

abbrev pub write_end : ℕ → Description
write_end p = record { source = source.Pipe p; offset = 0; read = false; write = true; append = false }

-- an empty pipe more, and a description for each of its ends, the read end's first
abbrev pub with_pipe : World → World
with_pipe world =
    record world {
      pipes = world.pipes ++ [] ∷ [];
      opens = (world.opens ++ read_end (length world.pipes) ∷ []) ++ write_end (length world.pipes) ∷ [];
    }
