-- What is known where the world tells what it means.
use Rattle.std.specs.Prelude.{Option, Some, None, IfSome}
use Rattle.std.specs.Option.{IsSomeAnd}

-- where it told at first what it means, it tells now, and this holds of both
pub record Told {V : Type 0} (first last : Option V) (P : V → V → Type 0) : Type 0 where
  pub holds : IfSome first (λ before. IsSomeAnd last (λ now. P before now))

start : {V : Type 0} (first : Option V) (P : V → V → Type 0) → ((v : V) → P v v) → IfSome first (λ before. IsSomeAnd first (λ now. P before now))
start None P h = tt
start (Some v) P h = h v

pub told-start : {V : Type 0} (first : Option V) (P : V → V → Type 0) → ((v : V) → P v v) → Told first first P
told-start first P h = record { holds = start first P h }

still : {V : Type 0} (first last : Option V) (P Q : V → V → Type 0) → IfSome first (λ before. IsSomeAnd last (λ now. P before now)) → ((before now : V) → P before now → Q before now) → IfSome first (λ before. IsSomeAnd last (λ now. Q before now))
still None last P Q t h = tt
still (Some before) None P Q t h = t
still (Some before) (Some now) P Q t h = h before now t

-- nothing was asked of it
pub told-still : {V : Type 0} (first last : Option V) (P Q : V → V → Type 0) → Told first last P → ((before now : V) → P before now → Q before now) → Told first last Q
told-still first last P Q t h = record { holds = still first last P Q t.holds h }

-- at the end
pub told-last : {V : Type 0} (first last : Option V) (P Q : V → V → Type 0) → Told first last P → ((before now : V) → P before now → Q before now) → IfSome first (λ before. IsSomeAnd last (λ now. Q before now))
told-last first last P Q t h = still first last P Q t.holds h

asked : {V : Type 0} (first last next : Option V) (P R Q : V → V → Type 0) → IfSome first (λ before. IsSomeAnd last (λ now. P before now)) → IfSome last (λ now. IsSomeAnd next (λ after. R now after)) → ((before now after : V) → P before now → R now after → Q before after) → IfSome first (λ before. IsSomeAnd next (λ after. Q before after))
asked None last next P R Q t u h = tt
asked (Some before) None next P R Q t u h = absurd t
asked (Some before) (Some now) None P R Q t u h = u
asked (Some before) (Some now) (Some after) P R Q t u h = h before now after t u

-- it was asked
pub told-asked : {V : Type 0} (first last next : Option V) (P R Q : V → V → Type 0) → Told first last P → IfSome last (λ now. IsSomeAnd next (λ after. R now after)) → ((before now after : V) → P before now → R now after → Q before after) → Told first next Q
told-asked first last next P R Q t u h = record { holds = asked first last next P R Q t.holds u h }

one : {V : Type 0} (first last : Option V) (P : V → V → Type 0) (Q : V → Type 0) → IfSome first (λ before. IsSomeAnd last (λ now. P before now)) → ((before now : V) → P before now → Q before) → IfSome first Q
one None last P Q t h = tt
one (Some before) None P Q t h = absurd t
one (Some before) (Some now) P Q t h = h before now t

-- what doesn't speak of what it means now
pub told-first : {V : Type 0} (first last : Option V) (P : V → V → Type 0) (Q : V → Type 0) → Told first last P → ((before now : V) → P before now → Q before) → IfSome first Q
told-first first last P Q t h = one first last P Q t.holds h
