-- What each part of the syntax comes to (XCU 2.10).
use Rattle.std.specs.Prelude.{List, [], ◌∷◌, Option}
use Rattle.rk_base.specs.Text.{Text}
use Rattle.sh_ast.specs.declared.command.Connector.{Connector}
use Rattle.sh_ast.specs.Commands.{CommandTree, CompoundTree, WordTree, AssignmentTree, BranchTree, CaseItemTree, RedirectTree}
use Rattle.sh_rules.specs.Grammar.{Symbol, Want, Do}
use Rattle.sh_rules.specs.declared.token_kind.TokenKind.{TokenKind}
use Rattle.sh_rules.specs.Parts as p
use Rattle.sh_rules.specs.Parts.{Part}
use Rattle.sh_script.specs.Words.{Pieces, Expansion}

-- of an if: what stands behind its first condition and list
pub record IfRest : Type 0 where
  pub branches : List BranchTree
  pub otherwise : List CommandTree

-- of a simple command: what stands behind its name, and the whole of it
pub record Arguments : Type 0 where
  pub words : List WordTree
  pub redirects : List RedirectTree

pub record Simple : Type 0 where
  pub assignments : List AssignmentTree
  pub words : List WordTree
  pub redirects : List RedirectTree

-- Newlines, line breaks and the bodies behind a newline come to nothing: the bodies are their operators'.
abbrev pub Made : Part → Type 0
Made p.opt_list = List CommandTree
Made p.list = List CommandTree
Made p.list_rest = List CommandTree
Made p.newline = Unit {0}
Made p.bodies = Unit {0}
Made p.body_parts = Pieces
Made p.and_or = CommandTree
Made p.and_or_rest = List (Connector × CommandTree)
Made p.linebreak = Unit {0}
Made p.pipeline = CommandTree
Made p.pipe_rest = List CommandTree
Made p.command = CommandTree
Made p.compound = CompoundTree
Made p.if_rest = IfRest
Made p.for_in = Option (List WordTree)
Made p.for_in_later = Option (List WordTree)
Made p.for_words = List WordTree
Made p.case_in = Unit {0}
Made p.items = List CaseItemTree
Made p.pattern_rest = List WordTree
Made p.item_end = List CaseItemTree
Made p.redirects = List RedirectTree
Made p.redirect = RedirectTree
Made p.prefix = Simple
Made p.arguments = Arguments
Made p.word = WordTree
Made p.value = WordTree
Made p.parts = Pieces
Made p.quoted = Pieces
Made p.expansion = Expansion
Made p.quoted_parts = Pieces
Made p.brace_start = Pieces
Made p.brace_parts = Pieces
Made p.quoted_brace_parts = Pieces
Made p.arithmetic = Pieces

-- a token comes to its text
abbrev pub Of : Symbol TokenKind Part → Type 0
Of (Want kind) = Text
Of (Do it) = Made it

-- what symbols come to, one after another
abbrev pub Values : List (Symbol TokenKind Part) → Type 0
Values [] = Unit {0}
Values (symbol ∷ symbols) = Of symbol × Values symbols
