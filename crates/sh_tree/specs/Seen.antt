-- A value without addresses.
use Rattle.std.specs.Prelude.{map, reverse, Option, Some, None}
use Rattle.std.specs.declared.rc.Rc.{Rc}
use Rattle.std.specs.declared.alloc.Global.{Global}
use Rattle.sh_ast.specs.declared.word.Parts.{Parts}
use Rattle.sh_ast.specs.declared.command.Words.{Words}
use Rattle.sh_ast.specs.Words as w
use Rattle.sh_ast.specs.Commands as c
use Rattle.sh_nodes.specs.Nodes.{words_seen, bodies_seen, word_told}
use Rattle.sh_tree.specs.declared.builder.Builder.{Builder}
use Rattle.sh_tree.specs.declared.value.Value as d
use Rattle.sh_tree.specs.declared.value.Value.TheVariants as v
use Rattle.sh_script.specs.States.{State}
use Rattle.sh_script.specs.Values.{Value, nothing, token, parts, word, words, redirects, pieces, commands, joined, compound, branches, items}

-- what an optional pointer leads to: the word of an operator, the words of a for
abbrev pub operator_word_seen : Option (Rc Parts Global) → w.OperatorWord
operator_word_seen None = w.no_word
operator_word_seen (Some r) = w.the_word (w.parts r.value)

abbrev pub for_words_seen : Option (Rc Words Global) → c.ForWords
for_words_seen None = c.positional
for_words_seen (Some r) = c.in_words (c.words r.value)

unfoldable pub seen : d.Value → Value
seen v.Nothing = nothing
seen (v.Text text) = token text
seen (v.Parts ps) = parts (map w.part ps)
seen (v.Word x) = word (word_told x)
seen (v.Words ws) = words (words_seen ws)
seen (v.Redirects rs) = redirects (map c.redirect rs)
seen (v.Simple xs ws rs) = pieces (map c.assignment xs) (words_seen ws) (map c.redirect rs)
seen (v.Commands cs) = commands (map c.command cs)
seen (v.Joined cs ps) = joined cs (map c.command ps)
seen (v.Compound x) = compound (c.compound x)
seen (v.Branches bs cs) = branches (map c.branch bs) (map c.command cs)
seen (v.Items is) = items (map c.case_item is)

-- what a builder has
unfoldable pub state : Builder → State
state b = record {
  values = reverse (map seen b.values.items);
  bodies = reverse (map (λ rs. bodies_seen rs.items) b.bodies.items);
  documents = reverse (map (λ ds. words_seen ds.items) b.documents.items);
}
