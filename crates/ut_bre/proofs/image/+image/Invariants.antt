use Rattle.std.proofs.Common.{ℕ, ◌≤◌, take}
use Rattle.ut_places.specs.Places.{Has}
use Rattle.ut_places.specs.Steps.{Steps, IsImage}
use Rattle.ut_places.proofs.StepLemmas.{IsWave}
use Rattle.ut_bre.specs.Images.{Until}
use Rattle.ut_bre.specs.Matching.{MatchesItems}
use Rattle.ut_bre.specs.Trees.{trees_of}
use Rattle.ut_bre.proofs.image.+image.Given as goal

abbrev pub invariant-needed_image-turns : goal.invariant-needed_image-turns
invariant-needed_image-turns l = record {
  image : IsImage (Steps (Until (MatchesItems l.line (trees_of l.body.items)) l.fn.end) l.counter) l.set l.here;
  before : (j : ℕ) → Has l.here j → j ≤ l.fn.end;
}

abbrev pub invariant-beyond_image-turns : goal.invariant-beyond_image-turns
invariant-beyond_image-turns l = record {
  wave : IsWave (Until (MatchesItems l.line (trees_of l.body.items)) l.fn.end) l.set l.all l.new l.counter;
  before : (j : ℕ) → Has l.new j → j ≤ l.fn.end;
}

abbrev pub invariant-image-items : goal.invariant-image-items
invariant-image-items l = record {
  image : IsImage (Until (MatchesItems l.line (trees_of (take l.item-index l.items))) l.fn.end) l.set l.here;
  before : (j : ℕ) → Has l.here j → j ≤ l.fn.end;
}
