use Rattle.std.proofs.Common.{◌≡◌, ◌<◌, ◌+◌, sym, ap, ◌∙◌, refl, arith}
use Rattle.std.specs.Prelude.{Some, None}
use Rattle.sh_ast.specs.declared.word.Parts.{Parts}
use Rattle.sh_ast.specs.Words.{part, parts}
use Rattle.sh_ast.specs.Lists.{part_at}
use Rattle.sh_expand.proofs.PartLemmas.{after-some, after-none, place_small}
use Rattle.sh_expand.proofs.MachineLemmas.{part_goes, word_ends}
use Rattle.sh_expand.proofs.machine.advance.Goals as goal

pub returns-in-None : goal.returns-in-None
returns-in-None c =
    let none : part_at (parts c.args.x.now.level.parts.value) c.args.x.now.level.place ≡ None = ap (λ (w : Parts). part_at (parts w) c.args.x.now.level.place) (sym (c.deref.ensures ∙ c.in_ok-word.ensures)) ∙ sym c.in-None.ensures in
    word_ends c.args.x.now c.on_end.new.x c.args.env.now c.on_end.new.env c.in_ok-wants-in-None.wants (after-none (parts c.args.x.now.level.parts.value) c.args.x.now.level.place none) c.in_ok-wants-in-None.ensures

pub overflow_add-x : goal.overflow_add-x
overflow_add-x c =
    let small : c.args.x.now.level.place < 9223372036854775808 = place_small c.deref.result.now c.args.x.now.level.place (part c.in-Some.part.now) (sym c.in-Some.ensures) in
    omega arith

pub returns : goal.returns
returns c =
    let some : part_at (parts c.args.x.now.level.parts.value) c.args.x.now.level.place ≡ Some (part c.in-Some.part.now) = ap (λ (w : Parts). part_at (parts w) c.args.x.now.level.place) (sym (c.deref.ensures ∙ c.in_ok-word.ensures)) ∙ sym c.in-Some.ensures in
    part_goes c.args.x.now (record c.args.x.now { level = record c.args.x.now.level { place = c.args.x.now.level.place + 1 }; marks = c.act.new.marks }) c.on_acted.new.x (part c.in-Some.part.now) c.in_ok-acted-in-Some.acted c.args.env.now c.in_ok-wants-in-Some.wants (after-some (parts c.args.x.now.level.parts.value) c.args.x.now.level.place (part c.in-Some.part.now) some) refl refl refl c.in_ok-acted-in-Some.ensures.does c.in_ok-acted-in-Some.ensures.less c.in_ok-wants-in-Some.ensures
