use Rattle.std.proofs.Common.{◌≡◌, suc, ◌+◌, ◌≤◌, List, refl, sym, subst, arith, rules, take_all, length}
use Rattle.ut_places.specs.Steps.{Steps, IsImage}
use Rattle.ut_places.proofs.StepLemmas.{IsWave, wave-first, wave-more, wave-end, no-step, step-more}
use Rattle.ut_bre.specs.declared.tree.Item.{Item}
use Rattle.ut_bre.specs.declared.tree.Item.TheFolds.{the_lemmas}
use Rattle.ut_bre.specs.Images.{Until}
use Rattle.ut_bre.specs.Matching.{MatchesOne, MatchesItems, Turns, Beyond, Repeated}
use Rattle.ut_bre.specs.Picking.{MatchesTurn}
use Rattle.ut_bre.specs.Times.{needed, unneeded}
use Rattle.ut_bre.specs.Trees.{one, group, tree_of, trees_of}
use Rattle.ut_bre.proofs.Standing.{Rel}
use Rattle.ut_bre.proofs.Laws.{sound_items}
use Rattle.ut_bre.proofs.Imaged.{image-alike, needed-alone, beyond-alone, needed-done, needed-none, beyond-done, image-none, image-item}
use Rattle.ut_bre.proofs.image.+image.Goals as goal

pub needed_image-returns-in_ok-to-in-One : goal.needed_image-returns-in_ok-to-in-One
needed_image-returns-in_ok-to-in-One t c =
    let a = c.args in
    let line = a.line.now in
    let what = c.in-One.one in
    let g : tree_of a.item.now ≡ one c.in-One.field-0 what = (search (rules, the_lemmas)) in
    let to = c.in_ok-to-in-One.to in
    let T : Rel = MatchesOne line what in
    let own = subst (λ w. IsImage (Until (Repeated T w) a.end) a.set.now to) c.needed.ensures c.in_ok-to-in-One.ensures in
    subst (λ x. IsImage (Until (Turns (MatchesTurn line x) a.times.least) a.end) a.set.now to) (sym g) (image-alike (Repeated T (needed a.times)) (Turns T a.times.least) a.end a.set.now to (needed-alone T a.times) own)

pub needed_image-turns-init : goal.needed_image-turns-init
needed_image-turns-init t c =
    let a = c.args in
    let here = c.in_ok-here-in-Group.here in
    record {
      image = no-step (Until (MatchesItems a.line.now (trees_of c.in-Group.body.items)) a.end) a.set.now here c.in_ok-here-in-Group.ensures;
      before = λ j h. c.requires.before j ((c.in_ok-here-in-Group.ensures j).0 h);
    }

pub needed_image-turns-preserved : goal.needed_image-turns-preserved
needed_image-turns-preserved t c =
    let a = c.args in
    let line = a.line.now in
    let here = c.in_ok-here-in-Group-2.here in
    let n = c.turns.counter in
    let R : Rel = Until (MatchesItems line (trees_of c.in-Group.body.items)) a.end in
    let next = subst (λ (xs : List Item). IsImage (Until (MatchesItems line (trees_of xs)) a.end) c.turns.here here) c.as_slice.ensures.value c.in_ok-here-in-Group-2.ensures in
    let z : suc n ≡ n + 1 = omega arith in
    record { image = subst (λ m. IsImage (Steps R m) a.set.now here) z (step-more R a.set.now c.turns.here here n c.turns.invariant.image next); before = λ j h. (let f = (next j).0 h in f.2.0) }

pub needed_image-returns-then-is_none : goal.needed_image-returns-then-is_none
needed_image-returns-then-is_none t c =
    let a = c.args in
    let line = a.line.now in
    let body = trees_of c.in-Group.body.items in
    let g : tree_of a.item.now ≡ group c.in-Group.field-0 c.in-Group.field-1 body = (search (rules, the_lemmas)) in
    let le : c.turns.counter ≤ a.times.least = omega arith in
    subst (λ x. IsImage (Until (Turns (MatchesTurn line x) a.times.least) a.end) a.set.now c.turns.here) (sym g) (needed-none (MatchesItems line body) a.end c.turns.counter a.times.least a.set.now c.turns.here (sound_items line body).ordered c.requires.before le (c.if-is_none.ensures refl) c.turns.invariant.image)

pub needed_image-returns-after-turns : goal.needed_image-returns-after-turns
needed_image-returns-after-turns t c =
    let a = c.args in
    let line = a.line.now in
    let body = trees_of c.in-Group.body.items in
    let g : tree_of a.item.now ≡ group c.in-Group.field-0 c.in-Group.field-1 body = (search (rules, the_lemmas)) in
    let z : c.turns.counter ≡ a.times.least = omega arith in
    let R : Rel = Until (MatchesItems line body) a.end in
    subst (λ x. IsImage (Until (Turns (MatchesTurn line x) a.times.least) a.end) a.set.now c.turns.here) (sym g) (needed-done (MatchesItems line body) a.end a.times.least a.set.now c.turns.here (sound_items line body).ordered c.requires.before (subst (λ m. IsImage (Steps R m) a.set.now c.turns.here) z c.turns.invariant.image))

pub beyond_image-returns-in_ok-to-in-One : goal.beyond_image-returns-in_ok-to-in-One
beyond_image-returns-in_ok-to-in-One t c =
    let a = c.args in
    let line = a.line.now in
    let what = c.in-One.one in
    let g : tree_of a.item.now ≡ one c.in-One.field-0 what = (search (rules, the_lemmas)) in
    let to = c.in_ok-to-in-One.to in
    let T : Rel = MatchesOne line what in
    let own = subst (λ w. IsImage (Until (Repeated T w) a.end) a.set.now to) c.unneeded.ensures c.in_ok-to-in-One.ensures in
    subst (λ x. IsImage (Until (Beyond (MatchesTurn line x) a.times.beyond) a.end) a.set.now to) (sym g) (image-alike (Repeated T (unneeded a.times)) (Beyond T a.times.beyond) a.end a.set.now to (beyond-alone T a.times) own)

pub beyond_image-turns-init : goal.beyond_image-turns-init
beyond_image-turns-init t c =
    let a = c.args in
    let all = c.in_ok-all-in-Group.all in
    let new = c.in_ok-new-in-Group.new in
    record {
      wave = wave-first (Until (MatchesItems a.line.now (trees_of c.in-Group.body.items)) a.end) a.set.now all new c.in_ok-all-in-Group.ensures c.in_ok-new-in-Group.ensures;
      before = λ j h. c.requires.before j ((c.in_ok-new-in-Group.ensures j).0 h);
    }

pub beyond_image-turns-preserved : goal.beyond_image-turns-preserved
beyond_image-turns-preserved t c =
    let a = c.args in
    let line = a.line.now in
    let new = c.in_ok-new-in-Group-2.new in
    let n = c.turns.counter in
    let R : Rel = Until (MatchesItems line (trees_of c.in-Group.body.items)) a.end in
    let next = subst (λ (xs : List Item). IsImage (Until (MatchesItems line (trees_of xs)) a.end) c.turns.new new) c.as_slice.ensures.value c.in_ok-new-in-Group-2.ensures in
    let z : suc n ≡ n + 1 = omega arith in
    record {
      wave = subst (λ m. IsWave R a.set.now c.add.new.self c.remove.new.self m) z (wave-more R a.set.now c.turns.all c.turns.new new c.add.new.self c.remove.new.self n c.turns.invariant.wave next c.remove.ensures c.in_ok-add-in-Group.ensures);
      before = λ j h. (let g = (c.remove.ensures j).0 h in let f = (next j).0 g.0 in f.2.0);
    }

pub beyond_image-returns-then-is_none : goal.beyond_image-returns-then-is_none
beyond_image-returns-then-is_none t c =
    let a = c.args in
    let line = a.line.now in
    let body = trees_of c.in-Group.body.items in
    let g : tree_of a.item.now ≡ group c.in-Group.field-0 c.in-Group.field-1 body = (search (rules, the_lemmas)) in
    let most = c.most_in-end.result in
    let le : c.turns.counter ≤ most = omega arith in
    let R : Rel = Until (MatchesItems line body) a.end in
    let none = wave-end R a.set.now c.turns.all c.turns.new c.turns.counter most le c.turns.invariant.wave (λ j h. c.if-is_none.ensures refl j (c.turns.invariant.before j h) h) in
    subst (λ x. IsImage (Until (Beyond (MatchesTurn line x) a.times.beyond) a.end) a.set.now c.turns.all) (sym g) (beyond-done (MatchesItems line body) a.end most a.times.beyond a.set.now c.turns.all (sound_items line body).ordered c.requires.before c.most_in-end.ensures none)

pub beyond_image-returns-after-turns : goal.beyond_image-returns-after-turns
beyond_image-returns-after-turns t c =
    let a = c.args in
    let line = a.line.now in
    let body = trees_of c.in-Group.body.items in
    let g : tree_of a.item.now ≡ group c.in-Group.field-0 c.in-Group.field-1 body = (search (rules, the_lemmas)) in
    let most = c.most_in-end.result in
    let z : c.turns.counter ≡ most = omega arith in
    let R : Rel = Until (MatchesItems line body) a.end in
    let all = (subst (λ m. IsWave R a.set.now c.turns.all c.turns.new m) z c.turns.invariant.wave).image in
    subst (λ x. IsImage (Until (Beyond (MatchesTurn line x) a.times.beyond) a.end) a.set.now c.turns.all) (sym g) (beyond-done (MatchesItems line body) a.end most a.times.beyond a.set.now c.turns.all (sound_items line body).ordered c.requires.before c.most_in-end.ensures all)

pub image-items-init : goal.image-items-init
image-items-init t c =
    let a = c.args in
    record { image = image-none a.line.now a.end a.set.now c.in_ok-here.here c.in_ok-here.ensures c.requires.before; before = λ j h. c.requires.before j ((c.in_ok-here.ensures j).0 h) }

pub image-items-preserved : goal.image-items-preserved
image-items-preserved t c =
    let a = c.args in
    let next = c.in_ok-here-2.here in
    record {
      image = image-item a.line.now a.items.now c.items.item-index c.item-item.result c.times-times.result a.end a.set.now c.items.here c.in_ok-needed.needed next c.items-test.true c.item-item.is c.times-times.ensures c.in_ok-needed.ensures c.in_ok-here-2.ensures c.items.invariant.image;
      before = λ j h. (let f = (c.in_ok-here-2.ensures j).0 h in f.2.0);
    }

pub image-returns : goal.image-returns
image-returns t c =
    let a = c.args in
    let past : length a.items.now ≤ c.items.item-index = c.items-test.false in
    subst (λ (xs : List Item). IsImage (Until (MatchesItems a.line.now (trees_of xs)) a.end) a.set.now c.items.here) (take_all c.items.item-index a.items.now past) c.items.invariant.image
