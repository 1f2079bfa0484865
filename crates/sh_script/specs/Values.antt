-- What tokens and parts of the syntax come to.
use Rattle.std.specs.Prelude.{List, []}
use Rattle.rk_base.specs.Text.{Text}
use Rattle.sh_ast.specs.declared.command.Connector.{Connector}
use Rattle.sh_ast.specs.Words.{PartTree, parts_of}
use Rattle.sh_ast.specs.Commands.{CommandTree, CompoundTree, group, no_commands, WordTree, word_of, no_bodies, AssignmentTree, BranchTree, CaseItemTree, RedirectTree}

pub data Value : Type 0 where
  nothing : Value
  -- the text of a token
  token : (text : Text) → Value
  -- parts of a word
  parts : (parts : List PartTree) → Value
  word : (word : WordTree) → Value
  words : (words : List WordTree) → Value
  redirects : (redirects : List RedirectTree) → Value
  -- of a simple command
  pieces : (assignments : List AssignmentTree) (words : List WordTree) (redirects : List RedirectTree) → Value
  commands : (commands : List CommandTree) → Value
  -- what follows a pipeline: operators, and the pipelines behind them
  joined : (connectors : List Connector) (pipelines : List CommandTree) → Value
  compound : (compound : CompoundTree) → Value
  -- of an if: branches, and what stands behind else
  branches : (branches : List BranchTree) (otherwise : List CommandTree) → Value
  items : (items : List CaseItemTree) → Value

-- what a value holds; one that holds something else counts as empty
abbrev pub text_in : Value → Text
text_in (token text) = text
text_in other = []

abbrev pub parts_in : Value → List PartTree
parts_in (parts ps) = ps
parts_in other = []

abbrev pub word_in : Value → WordTree
word_in (word w) = w
word_in other = word_of (parts_of []) no_bodies

abbrev pub words_in : Value → List WordTree
words_in (words ws) = ws
words_in other = []

abbrev pub redirects_in : Value → List RedirectTree
redirects_in (redirects rs) = rs
redirects_in other = []

abbrev pub assignments_in : Value → List AssignmentTree
assignments_in (pieces xs ws rs) = xs
assignments_in other = []

abbrev pub arguments_in : Value → List WordTree
arguments_in (pieces xs ws rs) = ws
arguments_in other = []

abbrev pub redirections_in : Value → List RedirectTree
redirections_in (pieces xs ws rs) = rs
redirections_in other = []

abbrev pub commands_in : Value → List CommandTree
commands_in (commands cs) = cs
commands_in other = []

abbrev pub connectors_in : Value → List Connector
connectors_in (joined cs ps) = cs
connectors_in other = []

abbrev pub pipelines_in : Value → List CommandTree
pipelines_in (joined cs ps) = ps
pipelines_in other = []

abbrev pub compound_in : Value → CompoundTree
compound_in (compound c) = c
compound_in other = group no_commands

abbrev pub branches_in : Value → List BranchTree
branches_in (branches bs cs) = bs
branches_in other = []

abbrev pub otherwise_in : Value → List CommandTree
otherwise_in (branches bs cs) = cs
otherwise_in other = []

abbrev pub items_in : Value → List CaseItemTree
items_in (items is) = is
items_in other = []
