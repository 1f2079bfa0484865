use Rattle.std.proofs.Common.{sym, List, subst}
use Rattle.std.specs.Prelude.{Ok}
use Rattle.rk_base.specs.Text.{Text}
use Rattle.ut_args.specs.declared.words.Judged.TheVariants.{Goes, Ends, Operand, Bad}
use Rattle.ut_args.specs.Words.{options_in, OptionsAre}
use Rattle.ut_args.proofs.OptionLemmas.{judged, told}
use Rattle.ut_args.proofs.words.read_words.Goals as goal

pub returns-in-Ends : goal.returns-in-Ends
returns-in-Ends c =
    told (options_in c.args.table.now c.args.words.now) _ c.with_operands.result (judged c.args.table.now c.words.wants c.words.given c.words.rest.now (options_in c.args.table.now c.args.words.now) c.in-Some.word.now c.in-Some.after.now c.in_ok-option.field-0 Ends c.judge.new.given c.words.invariant c.in-Some.ensures.cut c.in_ok-option.ensures c.in-Ends.is) c.with_operands.ensures

pub returns-in-Operand : goal.returns-in-Operand
returns-in-Operand c =
    told (options_in c.args.table.now c.args.words.now) _ c.with_operands-in-Operand.result (judged c.args.table.now c.words.wants c.words.given c.words.rest.now (options_in c.args.table.now c.args.words.now) c.in-Some.word.now c.in-Some.after.now c.in_ok-option.field-0 Operand c.judge.new.given c.words.invariant c.in-Some.ensures.cut c.in_ok-option.ensures c.in-Operand.is) (subst (λ (ws : List Text). OptionsAre (Ok (record { given = c.judge.new.given; operands = ws })) c.with_operands-in-Operand.result) c.in-Some.ensures.cut c.with_operands-in-Operand.ensures)

pub returns-in-Bad : goal.returns-in-Bad
returns-in-Bad c = told (options_in c.args.table.now c.args.words.now) _ c.faulty.result (judged c.args.table.now c.words.wants c.words.given c.words.rest.now (options_in c.args.table.now c.args.words.now) c.in-Some.word.now c.in-Some.after.now c.in_ok-option.field-0 (Bad c.in-Bad.letter) c.judge.new.given c.words.invariant c.in-Some.ensures.cut c.in_ok-option.ensures c.in-Bad.is) c.faulty.ensures

pub words-preserved : goal.words-preserved
words-preserved c = sym (judged c.args.table.now c.words.wants c.words.given c.words.rest.now (options_in c.args.table.now c.args.words.now) c.in-Some.word.now c.in-Some.after.now c.in_ok-option.field-0 (Goes c.in-Goes.option) c.judge.new.given c.words.invariant c.in-Some.ensures.cut c.in_ok-option.ensures c.in-Goes.is)
