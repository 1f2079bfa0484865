-- Where there is a value, and where there is none.
use Rattle.std.proofs.Common.{◌≡◌, Option, Some, None, IfSome, IfNone, Result, Ok, Err, subst}
use Rattle.std.specs.Prelude.{OnErr}

pub of-some : {T : Type 0} (o : Option T) (x : T) (P : T → Type 0) → o ≡ Some x → IfSome o P → P x
of-some o x P e h = subst (λ o. IfSome o P) e h

pub of-none : {T : Type 0} (o : Option T) (P : Type 0) → o ≡ None → IfNone o P → P
of-none o P e h = subst (λ o. IfNone o P) e h

-- what holds whatever the result holds of an error
pub on-err : {T E : Type 0} (r : Result T E) (P : Type 0) → P → OnErr r P
on-err (Ok x) P h = tt
on-err (Err e) P h = h
