-- Tables that are read, with the numbers of their records' steps.
use Rattle.std.specs.Prelude.{◌≡◌, ℕ, List, [], ◌∷◌, ◌++◌, Option, Some, map}
use Rattle.std.specs.List.{flat_map}
use Rattle.rk_base.specs.Text.{Text}
use Rattle.rk_calls.specs.Keys.{KeyValue}
use Rattle.tr_nodes.specs.Nodes.{Node}
use Rattle.tr_nodes.specs.Tails.{tails_of}
use Rattle.tr_record.specs.Generations.{records}
use Rattle.tr_record.specs.declared.records.Record.{Record}
use Rattle.tr_record.specs.declared.steps.Step.{Step}
use Rattle.tr_kept.specs.declared.generations.ReadTables.{ReadTables}
use Rattle.tr_codec.specs.declared.records.Used.{Used}
use Rattle.tr_kept.specs.KeptReading.{generation_at}
use Rattle.tr_codec.specs.Rows.{InUse, AreHeads}
use Rattle.tr_codec.specs.Used.{keys_used}

-- a record but for its ordinal and its steps
abbrev pub ends_of : Record → KeyValue × ℕ × ℕ
ends_of rec = (rec.key, rec.exit, rec.exit_cost)

-- the numbers of the steps, table by table
abbrev pub heads_in : ReadTables → List (List ℕ)
heads_in it = map (λ heads. heads.items) it.heads.items

-- and of all tables, one after the other
abbrev pub all_heads : ReadTables → List ℕ
all_heads it = flat_map (λ (heads : List ℕ). heads) (heads_in it)

-- each table has the numbers of its records' steps
abbrev pub AreAllHeads : List (Node Step) → List (List ℕ) → List (List Record) → Type 0
AreAllHeads nodes [] [] = Unit {0}
AreAllHeads nodes (heads ∷ more) (table ∷ kept) = AreHeads nodes heads table × AreAllHeads nodes more kept
AreAllHeads nodes heads kept = ⊥

-- tables that were read with these blobs and nodes, where so many blobs were in use before
pub record TablesRead (blobs : List Text) (nodes : List (Node Step)) (it : ReadTables) (used : Option ℕ) (now : Used) : Type 0 where
  pub heads : AreAllHeads nodes (heads_in it) it.kept
  pub in_use : InUse nodes (all_heads it) now.nodes
  pub uses : now.blobs ≡ keys_used blobs used (records it.kept)

-- one table more was read
pub record GenerationRead (blobs : List Text) (nodes : List (Node Step)) (old new : ReadTables) (bytes rest : List ℕ) : Type 0 where
  pub table : List Record
  pub read : generation_at blobs (tails_of nodes) old.kept bytes ≡ Some (table, rest)
  pub adds : new.kept ≡ old.kept ++ table ∷ []
