-- Values that are made in another way than their definitions say them.
use Rattle.std.proofs.Common.{◌≡◌, List, [], ◌∷◌, ◌++◌, map, false, refl}
use Rattle.sh_ast.specs.declared.command.Connector.{Connector}
use Rattle.sh_ast.specs.Commands as c
use Rattle.sh_script.specs.Values.{word_in, assignments_in, arguments_in, redirections_in}
use Rattle.sh_script.specs.States.{State, top, less, with, second, for_two, one_command}
use Rattle.sh_script.specs.Acts.{piped, pipeline, chain, argument, simple_begun}

-- a pipeline of several commands
pub piped_some : {A : Type 0} (f : A → c.CommandTree) (cs : List c.CommandTree) (xs : List A) → (xs ≡ [] → ⊥) → piped cs (map f xs) ≡ pipeline false (cs ++ map f xs)
piped_some f cs [] some = absurd (some refl)
piped_some f cs (x ∷ xs) some = refl

-- an AND-OR list of several pipelines
pub chained_some : (cs ps : List c.CommandTree) (bs : List Connector) → (bs ≡ [] → ⊥) → chain cs bs ps ≡ one_command (c.and_or (c.commands_of (cs ++ ps)) bs)
chained_some cs ps [] some = absurd (some refl)
chained_some cs ps (by ∷ more) some = refl

-- a simple command, by its name and what stands behind it
pub named : (s : State) → simple_begun (argument s) ≡ for_two (one_command (c.simple (c.simply (c.assignments_of (assignments_in (second s))) (c.words_of (word_in (top s) ∷ arguments_in (second s))) (c.redirects_of (redirections_in (second s)))))) s
unfolding top less with
named s = refl
