use Rattle.std.proofs.Common.{◌+◌, ◌<◌, ◌≤◌, sym, ap, ◌∙◌, arith}
use Rattle.std.specs.Prelude.{min}
use Rattle.ut_bre.specs.Matching.{MatchesOne}
use Rattle.ut_bre.proofs.Imaged.{led-image, pass-first, pass-step, pass-dead, pass-last, image-idle}
use Rattle.ut_bre.proofs.image.bytes_image.Goals as goal

pub returns-then-takes_none : goal.returns-then-takes_none
returns-then-takes_none c =
    let a = c.args in
    image-idle (MatchesOne a.line.now a.one.now) a.times a.end a.set.now c.in_ok-same.same (sym c.takes_none.ensures ∙ c.if-takes_none.true) c.in_ok-same.ensures c.requires.before

pub places-init : goal.places-init
places-init c =
    let a = c.args in
    pass-first a.line.now a.one.now a.set.now c.new-to.result a.times.least c.saturating_add-most.result (a.end + 1) c.in-Some.first c.in-Some.ensures c.new-to.ensures

pub later-best-requires : goal.later-best-requires
later-best-requires c = c.places.invariant.last

pub places-preserved : goal.places-preserved
places-preserved c =
    let a = c.args in
    pass-step a.line.now a.one.now a.set.now c.places.to c.note.new.to a.times.least c.saturating_add-most.result c.places.at c.places.run c.run_on-run.result c.places.best c.later-best.result c.later-best.ensures c.in_ok-note.ensures c.run_on-run.ensures c.places.invariant

pub returns-then-run-last : goal.returns-then-run-last
returns-then-run-last c =
    let a = c.args in
    let line = a.line.now in
    let what = a.one.now in
    let small : a.end ≤ 18446744073709551615 = omega arith in
    let most = c.saturating_add-most.result in
    let at = c.places.at in
    let le : at + 1 ≤ a.end + 1 = omega arith in
    let pass = pass-step line what a.set.now c.places.to c.note.new.to a.times.least most at c.places.run c.run_on-run.result c.places.best c.later-best.result c.later-best.ensures c.in_ok-note.ensures c.run_on-run.ensures c.places.invariant in
    let told = pass-dead line what a.set.now c.note.new.to a.times.least most (at + 1) c.run_on-run.result c.in-Some-last.last a.end c.later-best.result le c.in-Some-last.ensures c.requires.before c.if-run-last.true pass in
    led-image line what a.times a.set.now c.note.new.to a.end most 18446744073709551615 small (c.saturating_add-most.ensures ∙ ap (λ n. min (a.times.least + n) 18446744073709551615) c.most_in.ensures) told

pub returns : goal.returns
returns c =
    let a = c.args in
    let line = a.line.now in
    let what = a.one.now in
    let small : a.end ≤ 18446744073709551615 = omega arith in
    let most = c.saturating_add-most.result in
    let at = c.places.at in
    let last = c.in-Some-last.last in
    let below : c.in-Some.first ≤ last = c.in-Some-last.ensures.2 c.in-Some.first c.in-Some.ensures.1 c.in-Some.ensures.2 in
    let high : last < a.end + 1 = c.in-Some-last.ensures.0 in
    let first : c.in-Some.first ≤ c.min-stop.result + 1 = omega (arith, c.min-stop.ensures, c.saturating_add.ensures) in
    let le : at ≤ a.end + 1 = omega (arith, c.min-stop.ensures) in
    let past : at ≤ min a.end (min (c.in-Some-last.last + most) 18446744073709551615) → ⊥ = λ h. omega arith in
    let told = pass-last line what a.set.now c.places.to a.times.least most at c.places.run c.in-Some-last.last a.end 18446744073709551615 c.places.best le past small c.in-Some-last.ensures c.requires.before c.places.invariant in
    led-image line what a.times a.set.now c.places.to a.end most 18446744073709551615 small (c.saturating_add-most.ensures ∙ ap (λ n. min (a.times.least + n) 18446744073709551615) c.most_in.ensures) told
