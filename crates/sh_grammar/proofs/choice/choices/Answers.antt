-- Each part's choices, compared for each kind by computing.
use Rattle.std.proofs.Common.{refl}
use Rattle.sh_rules.specs.Choosing.{begins, choose}
use Rattle.sh_grammar.proofs.choice.choices.Goals as goal

pub returns-in-OptList : goal.returns-in-OptList
unfolding begins choose
returns-in-OptList c = rw c.in-OptList.is refl

pub returns-in-List : goal.returns-in-List
unfolding begins choose
returns-in-List c = rw c.in-List.is refl

pub returns-in-ListRest : goal.returns-in-ListRest
unfolding begins choose
returns-in-ListRest c = rw c.in-ListRest.is refl

pub returns-in-Newline : goal.returns-in-Newline
unfolding begins choose
returns-in-Newline c = rw c.in-Newline.is refl

pub returns-in-Bodies : goal.returns-in-Bodies
unfolding begins choose
returns-in-Bodies c = rw c.in-Bodies.is refl

pub returns-in-BodyParts : goal.returns-in-BodyParts
unfolding begins choose
returns-in-BodyParts c = rw c.in-BodyParts.is refl

pub returns-in-AndOr : goal.returns-in-AndOr
unfolding begins choose
returns-in-AndOr c = rw c.in-AndOr.is refl

pub returns-in-AndOrRest : goal.returns-in-AndOrRest
unfolding begins choose
returns-in-AndOrRest c = rw c.in-AndOrRest.is refl

pub returns-in-Linebreak : goal.returns-in-Linebreak
unfolding begins choose
returns-in-Linebreak c = rw c.in-Linebreak.is refl

pub returns-in-Pipeline : goal.returns-in-Pipeline
unfolding begins choose
returns-in-Pipeline c = rw c.in-Pipeline.is refl

pub returns-in-PipeRest : goal.returns-in-PipeRest
unfolding begins choose
returns-in-PipeRest c = rw c.in-PipeRest.is refl

pub returns-in-Command : goal.returns-in-Command
unfolding begins choose
returns-in-Command c = rw c.in-Command.is refl

pub returns-in-Compound : goal.returns-in-Compound
unfolding begins choose
returns-in-Compound c = rw c.in-Compound.is refl

pub returns-in-IfRest : goal.returns-in-IfRest
unfolding begins choose
returns-in-IfRest c = rw c.in-IfRest.is refl

pub returns-in-ForIn : goal.returns-in-ForIn
unfolding begins choose
returns-in-ForIn c = rw c.in-ForIn.is refl

pub returns-in-ForInLater : goal.returns-in-ForInLater
unfolding begins choose
returns-in-ForInLater c = rw c.in-ForInLater.is refl

pub returns-in-ForWords : goal.returns-in-ForWords
unfolding begins choose
returns-in-ForWords c = rw c.in-ForWords.is refl

pub returns-in-CaseIn : goal.returns-in-CaseIn
unfolding begins choose
returns-in-CaseIn c = rw c.in-CaseIn.is refl

pub returns-in-Items : goal.returns-in-Items
unfolding begins choose
returns-in-Items c = rw c.in-Items.is refl

pub returns-in-PatternRest : goal.returns-in-PatternRest
unfolding begins choose
returns-in-PatternRest c = rw c.in-PatternRest.is refl

pub returns-in-ItemEnd : goal.returns-in-ItemEnd
unfolding begins choose
returns-in-ItemEnd c = rw c.in-ItemEnd.is refl

pub returns-in-Redirects : goal.returns-in-Redirects
unfolding begins choose
returns-in-Redirects c = rw c.in-Redirects.is refl

pub returns-in-Redirect : goal.returns-in-Redirect
unfolding begins choose
returns-in-Redirect c = rw c.in-Redirect.is refl

pub returns-in-Prefix : goal.returns-in-Prefix
unfolding begins choose
returns-in-Prefix c = rw c.in-Prefix.is refl

pub returns-in-Arguments : goal.returns-in-Arguments
unfolding begins choose
returns-in-Arguments c = rw c.in-Arguments.is refl

pub returns-in-Word : goal.returns-in-Word
unfolding begins choose
returns-in-Word c = rw c.in-Word.is refl

pub returns-in-Value : goal.returns-in-Value
unfolding begins choose
returns-in-Value c = rw c.in-Value.is refl

pub returns-in-Parts : goal.returns-in-Parts
unfolding begins choose
returns-in-Parts c = rw c.in-Parts.is refl

pub returns-in-Quoted : goal.returns-in-Quoted
unfolding begins choose
returns-in-Quoted c = rw c.in-Quoted.is refl

pub returns-in-Expansion : goal.returns-in-Expansion
unfolding begins choose
returns-in-Expansion c = rw c.in-Expansion.is refl

pub returns-in-QuotedParts : goal.returns-in-QuotedParts
unfolding begins choose
returns-in-QuotedParts c = rw c.in-QuotedParts.is refl

pub returns-in-BraceStart : goal.returns-in-BraceStart
unfolding begins choose
returns-in-BraceStart c = rw c.in-BraceStart.is refl

pub returns-in-BraceParts : goal.returns-in-BraceParts
unfolding begins choose
returns-in-BraceParts c = rw c.in-BraceParts.is refl

pub returns-in-QuotedBraceParts : goal.returns-in-QuotedBraceParts
unfolding begins choose
returns-in-QuotedBraceParts c = rw c.in-QuotedBraceParts.is refl

pub returns-in-Arithmetic : goal.returns-in-Arithmetic
unfolding begins choose
returns-in-Arithmetic c = rw c.in-Arithmetic.is refl
