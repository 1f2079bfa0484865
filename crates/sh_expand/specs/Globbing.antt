-- What pathname expansion asks, and what it finds.
use Rattle.std.specs.Prelude.{ℕ, List, [], ◌∷◌, ◌++◌, Bool, true, false, ◌&&◌}
use Rattle.rk_base.specs.Text.{Text}
use Rattle.rk_base.specs.Canonical.{is_empty}
use Rattle.rk_calls.specs.declared.call.Call.{Call}
use Rattle.rk_calls.specs.declared.call.Call.TheVariants.{List as Lists, Stat as Stats}
use Rattle.rk_calls.specs.declared.answer.Answer.{Answer}
use Rattle.rk_calls.specs.Talk.{Says, ask}
use Rattle.rk_calls.specs.Places.{absolute}
use Rattle.sh_pattern.specs.Pathnames.{matching, without_last, put_all}
use Rattle.sh_expand.specs.declared.glob.Component.{Component}
use Rattle.sh_expand.specs.declared.glob.Component.TheVariants.{Literal, Pattern}
use Rattle.sh_expand.specs.Told.{names_of, stands, numbered}

-- what is said from a next local number on
abbrev pub Numbered : Type 0
Numbered = ℕ → Says

-- asks, and goes on by the answer, which is numbered
abbrev pub asks : Call → ℕ → (Answer → Numbered) → Numbered
asks call c next n = ask call c (λ a. next a (numbered a n))

-- what comes after the paths that were found
abbrev pub Found : Type 0
Found = List Text → Numbered

abbrev pub listed : Text → Text → Text
listed wd [] = wd
listed wd (b ∷ bs) = absolute wd (without_last (b ∷ bs))

-- each prefix is listed
abbrev pub lists : Text → Bool → Text → List Text → List Text → Found → Numbered
lists wd last pattern [] done k = k done
lists wd last pattern (prefix ∷ more) done k = asks (Lists (listed wd prefix)) 1 (λ a. lists wd last pattern more (done ++ matching last pattern prefix (names_of a)) k)

abbrev pub kept : List Text → Text → Bool → List Text
kept done path true = done ++ path ∷ []
kept done path false = done

-- each path is looked at, a link not followed
abbrev pub stats : Text → List Text → List Text → Found → Numbered
stats wd [] done k = k done
stats wd (path ∷ more) done k = asks (Stats (absolute wd path) false) 1 (λ a. stats wd more (kept done path (stands a)) k)

-- a literal component that comes last after a pattern
abbrev pub checked : Bool → Text → List Text → Found → Found → Numbered
checked true wd paths on k = stats wd paths [] k
checked false wd paths on k = on paths

-- the components from left to right; whether one was a pattern
abbrev pub globs : Text → Bool → List Component → List Text → Found → Numbered
globs wd globbed [] prefixes k = k prefixes
globs wd globbed (Literal value ∷ cs) prefixes k = checked (is_empty cs && globbed) wd (put_all (is_empty cs) value prefixes) (λ paths. globs wd globbed cs paths k) k
globs wd globbed (Pattern pattern ∷ cs) prefixes k = lists wd (is_empty cs) pattern prefixes [] (λ done. globs wd true cs done k)
