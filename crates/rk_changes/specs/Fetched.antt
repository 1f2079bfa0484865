-- The plan, by what is known and fetched.
use Rattle.std.specs.Prelude.{◌≡◌, ◌⊎◌, List, [], ◌∷◌, Bool, true, false, Option, Some, None, IfSome, Result, Ok, Err}
use Rattle.std.specs.FinMap.{get}
use Rattle.rk_base.specs.Text.{Text, same_text}
use Rattle.rk_folder.specs.Told.{is_file}
use Rattle.rk_seal.specs.Plans.{plan_of}
use Rattle.rk_seal.specs.declared.ops.Op.{Op}
use Rattle.rk_seal.specs.declared.ops.Op.TheVariants.{Write}
use Rattle.rk_seal.specs.declared.plan.Plan.{Plan}
use Rattle.rk_tree.specs.Entries.{Entries}
use Rattle.rk_tree.specs.Full.{Told, From, full_node, in_full}
use Rattle.rk_tree.specs.Hierarchy.{held_in, path_in}
use Rattle.rk_tree.specs.Node.{Node as Entry}
use Rattle.rk_changes.specs.Holdings.{full_holding, placed}
use Rattle.rk_changes.specs.Planned.{planned, writing}
use Rattle.rk_changes.specs.declared.holding.Holding.{Holding}

-- where the bytes are told, this is so of them
abbrev pub WhereTold : {T E : Type 0} → Option Told → (Told → T → Type 0) → Result T E → Type 0
WhereTold told P (Ok it) = IfSome told (λ t. P t it)
WhereTold told P (Err e) = Unit {0}

-- what holds a file's bytes by what is told
abbrev pub IsFrom : Option Told → Option Entry → Type 0
IsFrom None it = Unit {0}
IsFrom (Some told) it = From told (held_in it)

-- the call that writes a file, in full
abbrev pub full_writing : Told → Entries → Text × Entry → Option Op
full_writing told before row = writing row.0 (full_node told row.1) (placed (in_full told (get before row.0)))

-- it writes a file at this path
abbrev pub IsWriting : Text → Entry → Op → Type 0
IsWriting path it op = (bytes : Text) × (op ≡ Write path bytes) × (is_file (placed (Some it)) ≡ true)

-- calls that write some of these files, in their order
abbrev pub AreWritings : List (Text × Entry) → List Op → Type 0
AreWritings [] ops = ops ≡ []
AreWritings (row ∷ rows) ops = AreWritings rows ops ⊎ ((op : Op) × (rest : List Op) × (ops ≡ op ∷ rest) × IsWriting row.0 row.1 op × AreWritings rows rest)

-- the plan between them in full
abbrev pub IsFullPlan : Told → Holding → Holding → Option Plan → Type 0
IsFullPlan told before after plan = plan ≡ plan_of (planned (full_holding told before) (full_holding told after)) before.state.fresh_list

abbrev pub is_path : Text → Option Text → Bool
is_path path None = false
is_path path (Some import) = same_text import path

-- a file stands at the import path that it still has
abbrev pub is_imported : Text → Option Entry → Bool
is_imported path it = is_path path (path_in it)
