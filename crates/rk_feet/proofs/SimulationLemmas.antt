-- How programs are followed: refusals, choices, reads, one change after another.
use Rattle.std.proofs.Common.{◌≡◌, List, [], ◌∷◌, ◌++◌, Bool, true, false, refl, sym, ◌∙◌, ap, subst}
use Rattle.std.specs.Prelude.{if◌then◌else◌}
use Rattle.rk_base.specs.declared.errno.Errno.{Errno}
use Rattle.rk_calls.specs.declared.answer.Answer.{Answer}
use Rattle.rk_calls.specs.Given.{Given}
use Rattle.rk_calls.specs.Refs.{RefsHeld}
use Rattle.rk_kernel.specs.World as kernel
use Rattle.rk_kernel.specs.Rows.{refused, giving, unless}
use Rattle.rk_waves.specs.Programs.{Cell, One, Reads, Ends, updated, written}
use Rattle.rk_feet.specs.Named.{Name, Plain, Value, Writes, Does}
use Rattle.rk_feet.specs.Checks.{no}
use Rattle.rk_feet.specs.World.{World, at, is_plain}
use Rattle.rk_feet.specs.Simulates.{Becomes, Simulates, ends_in}
use Rattle.rk_feet.specs.CellLemmas.{cells}

-- nothing changes
pub stays : (w : World) → Becomes w w.held []
stays w = record { next = w; is = refl; holds = λ p. refl; lasts = record { nodes = λ x n e. e; opens = λ x n e. e; pipes = λ x n e. e } }

pub simulates-no : (w : World) (refs : RefsHeld) (e : Errno) → Simulates w (refused w.held refs e) (ends_in w (no e))
simulates-no w refs e = record { answer = refl; after = stays w }

pub simulates-answer : (w : World) (refs : RefsHeld) (it : Answer) → Simulates w (giving w.held refs it) (ends_in w (Ends it []))
simulates-answer w refs it = record { answer = refl; after = stays w }

-- a refusal, or what comes after it
pub simulates-unless :
    (w : World) (refs : RefsHeld) (b c : Bool) (e : Errno) (checks : List (Bool × Errno)) (given : Given kernel.World) (x : Does) → b ≡ c
    → (b ≡ false → Simulates w (unless w.held refs checks given) (ends_in w x))
    → Simulates w (unless w.held refs ((b, e) ∷ checks) given) (ends_in w (if c then no e else x))
simulates-unless w refs b c e checks given x same h = subst
    (λ c. Simulates w (unless w.held refs ((b, e) ∷ checks) given) (ends_in w (if c then no e else x))) same (go b h)
  where
    go : (b : Bool) → (b ≡ false → Simulates w (unless w.held refs checks given) (ends_in w x))
        → Simulates w (unless w.held refs ((b, e) ∷ checks) given) (ends_in w (if b then no e else x))
    go true h = simulates-no w refs e
    go false h = h refl

-- a cell is read
pub simulates-reads : (w : World) (given : Given kernel.World) (c : Cell Plain Name) (v : Value) (next : Value → Does) → at w c ≡ v
    → Simulates w given (ends_in w (next v)) → Simulates w given (ends_in w (Reads c next))
simulates-reads w given c v next e h = subst (λ v. Simulates w given (ends_in w (next v))) (sym e) h

-- one change after another

pub written-on : (us vs : Writes) (p : Plain) (old : Value) → written cells (us ++ vs) p old ≡ written cells vs p (written cells us p old)
written-on [] vs p old = refl
written-on (u ∷ us) vs p old = written-on us vs p (if is_plain u.0 p then updated u.1 old else old)

pub becomes-on : (w : World) (middle held : kernel.World) (us vs : Writes) (a : Becomes w middle us) → Becomes a.next held vs → Becomes w held (us ++ vs)
becomes-on w middle held us vs a b = record {
  next = b.next;
  is = b.is;
  holds = λ p. b.holds p ∙ ap (written cells vs p) (a.holds p) ∙ sym (written-on us vs p (at w (One p)));
  lasts = record {
    nodes = λ x n e. b.lasts.nodes x n (a.lasts.nodes x n e);
    opens = λ x n e. b.lasts.opens x n (a.lasts.opens x n e);
    pipes = λ x n e. b.lasts.pipes x n (a.lasts.pipes x n e);
  };
}

-- the same writes, told in another way
pub becomes-as : (w : World) (held : kernel.World) (us vs : Writes) → Becomes w held us
    → ((p : Plain) → written cells us p (at w (One p)) ≡ written cells vs p (at w (One p))) → Becomes w held vs
becomes-as w held us vs a same = record { next = a.next; is = a.is; holds = λ p. a.holds p ∙ same p; lasts = a.lasts }
