-- What is looked at on the way along a path: the mode and the entry of each directory passed, and where one stands that is left by `..`.
use Rattle.std.specs.Prelude.{ℕ, zero, suc, List, [], ◌∷◌, ◌++◌, Bool, not, ◌&&◌, ◌||◌, ◌==◌, if◌then◌else◌}
use Rattle.rk_base.specs.Text.{Text, is_slash, same_text, hidden, dot, dot_dot}
use Rattle.rk_base.specs.Canonical.{has_nul, is_empty, is_name}
use Rattle.rk_tree.specs.Entries.{is_dir}
use Rattle.rk_tree.specs.Hierarchy.{Hierarchy, top, node, mode_of, has_x}
use Rattle.rk_walk.specs.Walk.{Outcome, Part, parts, at_part, start}
use Rattle.rk_walk.specs.declared.place.Here.{Here}
use Rattle.rk_walk.specs.declared.seen.Seen.{Seen}
use Rattle.rk_walk.specs.declared.seen.Seen.TheVariants.{Mode, Above, Entry}

-- what a component looks up in a directory with `x`
abbrev pub looks_up : ℕ → Text → List Seen
looks_up at name =
    if same_text name dot then []
    else if same_text name dot_dot then Above at ∷ []
    else if not (is_name name) then []
    else if (at == top) && same_text name hidden then []
    else Entry at name ∷ []

-- what a component looks at there
abbrev pub looks : Hierarchy → ℕ → Text → List Seen
looks tree at name =
    if not (is_dir (node tree at)) then []
    else if not (has_x (mode_of (node tree at))) then Mode at ∷ []
    else Mode at ∷ looks_up at name

-- where a path ends, nothing more is looked at
abbrev pub ends_seeing : Outcome (List Seen)
ends_seeing = record { found = λ here. []; absent = λ dir name slash. []; refused = λ e. [] }

-- by cases on the first component, which leads on as it does in `walk`
abbrev pub walk_sees : Hierarchy → Bool → (ℕ → Text → Text → List Seen) → Here → List Part → List Seen
walk_sees tree follow again here [] = []
walk_sees tree follow again here (part ∷ later) =
    looks tree here.node part.name
    ++ at_part ends_seeing tree follow (again here.node) (λ on. walk_sees tree follow again on later) here.node part (is_empty later)

-- along a text, and what stands after it, from a directory, if `links` links more may be followed
unfoldable pub leads_seeing : ℕ → Hierarchy → Bool → ℕ → Text → Text → List Seen
leads_seeing zero tree follow at text after = walk_sees tree follow (λ _ _ _. []) (start at text) (parts (text ++ after))
leads_seeing (suc links) tree follow at text after = walk_sees tree follow (leads_seeing links tree follow) (start at text) (parts (text ++ after))

-- along a path, with its last link followed or not
abbrev pub way : Hierarchy → Text → Bool → List Seen
way tree [] follow = []
way tree (b ∷ bs) follow = if not (is_slash b) || has_nul (b ∷ bs) then [] else leads_seeing 32 tree follow top (b ∷ bs) []
