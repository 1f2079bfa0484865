-- What was read, without where it lies in memory.
use Rattle.sh_ast.specs.Commands.{commands}
use Rattle.sh_parse.specs.declared.reader.Read.{Read}
use Rattle.sh_parse.specs.declared.reader.Read.TheVariants as read
use Rattle.sh_script.specs.Reads.{Reading, Script, Faulty}

abbrev pub reading_of : Read → Reading
reading_of (read.Script cs) = Script (commands cs.value)
reading_of (read.Fault words) = Faulty words
