-- What `tr` makes.
use Rattle.std.specs.Prelude.{ℕ, List, [], ◌∷◌, map, drop, codes, Option, Some, None, Bool, false, ◌==◌, ◌&&◌, not, if◌then◌else◌}
use Rattle.std.specs.List.{filter}
use Rattle.rk_base.specs.Text.{Text}
use Rattle.ut_filter.specs.declared.made.Input.{Input}
use Rattle.ut_filter.specs.declared.made.Made.{Made}
use Rattle.ut_filter.specs.Filters.{Job}
use Rattle.ut_filter.specs.Parts.{joined}
use Rattle.ut_filter.specs.Refusals.{refusals}
use Rattle.ut_filter.specs.Statuses.{status_of}
use Rattle.ut_select.specs.Sets.{is_member}

-- the bytes that are deleted; those that become others, in order; and those that are squeezed afterwards
pub record TrValue : Type 0 where
  pub deleted : List ℕ
  pub from : List ℕ
  pub to : List ℕ
  pub squeezed : List ℕ

-- the next byte of a set, which its last one pads
abbrev pub next_of : ℕ → List ℕ → ℕ
next_of last [] = last
next_of last (b ∷ bs) = b

-- what a byte becomes by the last place at which it stands
abbrev pub image_after : ℕ → ℕ → List ℕ → List ℕ → ℕ → ℕ
image_after found last [] to c = found
image_after found last (a ∷ from) to c = image_after (if a == c then next_of last to else found) (next_of last to) from (drop 1 to) c

-- what a byte becomes: itself where it isn't in the set
abbrev pub image : List ℕ → List ℕ → ℕ → ℕ
image from to c = image_after c 0 from to c

-- whether a byte is that before it, and is squeezed
abbrev pub repeats : List ℕ → Option ℕ → ℕ → Bool
repeats set None c = false
repeats set (Some last) c = (c == last) && is_member set c

-- of equal bytes of a set, one after another, only the first
abbrev pub squeeze : List ℕ → Option ℕ → Text → Text
squeeze set last [] = []
squeeze set last (c ∷ cs) = if repeats set last c then squeeze set last cs else c ∷ squeeze set (Some c) cs

abbrev pub kept : TrValue → ℕ → Bool
kept t c = not (is_member t.deleted c)

-- what is left, once some bytes were deleted, others were translated and runs were squeezed
abbrev pub tr_text : TrValue → Text → Text
tr_text t text = squeeze t.squeezed None (map (image t.from t.to) (filter (kept t) text))

abbrev pub tr_makes : TrValue → List Input → Made
tr_makes t inputs =
    record {
      output = tr_text t (joined inputs);
      errors = refusals (codes "tr") inputs;
      status = status_of 1 (refusals (codes "tr") inputs);
    }

abbrev pub tr_job : TrValue → Job
tr_job t = record { name = codes "tr"; failed = 1; out = None; makes = tr_makes t }
