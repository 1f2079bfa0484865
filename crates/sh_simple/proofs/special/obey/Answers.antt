use Rattle.std.proofs.Common.{sym, ap, ◌∙◌, arith}
use Rattle.sh_means.proofs.Launching.{some_name}
use Rattle.sh_means.specs.Launchable.{names_command}
use Rattle.sh_means.proofs.Weighing.{pays_sinks, sinks_more}
use Rattle.sh_simple.proofs.special.obey.Goals as goal

pub launch-requires : goal.launch-requires
launch-requires c = some_name c.in-Exec.words (ap names_command (sym c.in-Exec.is) ∙ c.requires)

pub returns-in-Dot-clause-costly : goal.returns-in-Dot-clause-costly
returns-in-Dot-clause-costly c = pays_sinks c.dot.result 3 c.dot.ensures.costly

pub returns-in-Exec-clause-costly : goal.returns-in-Exec-clause-costly
returns-in-Exec-clause-costly c = pays_sinks c.launch.result 3 c.launch.ensures.costly

pub returns-in-Shift-clause-costly : goal.returns-in-Shift-clause-costly
returns-in-Shift-clause-costly c = sinks_more c.shift_by.result 1 3 c.shift_by.ensures.costly (omega arith)

pub returns-in-Pass-clause-costly : goal.returns-in-Pass-clause-costly
returns-in-Pass-clause-costly c = λ m n le. c.end.ensures.costly m n (omega arith)

pub returns-in-Break-clause-costly : goal.returns-in-Break-clause-costly
returns-in-Break-clause-costly c = λ m n le. c.end-in-Break.ensures.costly m n (omega arith)

pub returns-in-Continue-clause-costly : goal.returns-in-Continue-clause-costly
returns-in-Continue-clause-costly c = λ m n le. c.end-in-Continue.ensures.costly m n (omega arith)

pub returns-in-Return-clause-costly : goal.returns-in-Return-clause-costly
returns-in-Return-clause-costly c = λ m n le. c.end-in-Return.ensures.costly m n (omega arith)

pub returns-in-Exit-clause-costly : goal.returns-in-Exit-clause-costly
returns-in-Exit-clause-costly c = λ m n le. c.end-in-Exit.ensures.costly m n (omega arith)

pub returns-in_ok-name-in-Eval-clause-costly : goal.returns-in_ok-name-in-Eval-clause-costly
returns-in_ok-name-in-Eval-clause-costly c = λ m n le. c.free.ensures.costly m n (omega arith)

pub returns-in-Keep-clause-costly : goal.returns-in-Keep-clause-costly
returns-in-Keep-clause-costly c = λ m n le. c.end-in-Keep.ensures.costly m n (omega arith)

pub returns-in-Set-clause-costly : goal.returns-in-Set-clause-costly
returns-in-Set-clause-costly c = λ m n le. c.end-in-Set.ensures.costly m n (omega arith)

pub returns-in_ok-acted-in-Declare-clause-costly : goal.returns-in_ok-acted-in-Declare-clause-costly
returns-in_ok-acted-in-Declare-clause-costly c = λ m n le. c.in_ok-acted-in-Declare.ensures.costly m n (omega arith)

pub returns-in_ok-acted-in-Unset-clause-costly : goal.returns-in_ok-acted-in-Unset-clause-costly
returns-in_ok-acted-in-Unset-clause-costly c = λ m n le. c.in_ok-acted-in-Unset.ensures.costly m n (omega arith)

pub returns-in-Usage-clause-costly : goal.returns-in-Usage-clause-costly
returns-in-Usage-clause-costly c = λ m n le. c.tell.ensures.costly m n (omega arith)
