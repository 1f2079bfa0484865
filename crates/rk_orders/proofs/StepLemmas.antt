-- One step by names in a named world.
use Rattle.std.proofs.Common.{◌≡◌, ℕ, List, [], ◌∷◌, Bool, true, false, ◌&&◌, refl, sym, ◌∙◌, subst}
use Rattle.std.proofs.lemmas.Bool.{eqb-true}
use Rattle.std.specs.Prelude.{◌==◌, if◌then◌else◌}
use Rattle.rk_calls.specs.Refs.{RefsHeld}
use Rattle.rk_calls.specs.declared.answer.Answer.{Answer}
use Rattle.rk_calls.specs.declared.call.Call.{Call}
use Rattle.rk_kernel.specs.Feet.{foot_by}
use Rattle.rk_kernel.specs.declared.cell.Cell.{Cell as Numbered}
use Rattle.rk_waves.specs.Programs.{Cell, One, by_cells, end_of, reads_of, updated, written, written_cells}
use Rattle.rk_waves.specs.System.{Foot}
use Rattle.rk_feet.specs.CellLemmas.{cells}
use Rattle.rk_feet.specs.Named.{Name, Plain, EntryOf, AboveOf, ModeOf, BytesOf, OpenOf, PipeOf, OutputText, ErrorText, Used, Value, Flag, Writes}
use Rattle.rk_feet.specs.NamingLemmas.{both}
use Rattle.rk_feet.specs.Played.{PlaysKernel}
use Rattle.rk_feet.specs.Simulates.{Lasts, ends_in}
use Rattle.rk_feet.specs.Steps.{Ask, Open, Read, ReadLine, Write, Stat, List as ListOf, ReadLink, Walk, Same, Mkdir, Rmdir, Unlink, Rename, Symlink, Link}
use Rattle.rk_feet.specs.Steps.{Chmod, Pipe, Launch, Step, program}
use Rattle.rk_feet.specs.Told.{AreTold, GetsNumbers, IsCall, Later, Tells}
use Rattle.rk_feet.specs.World.{World, at}
use Rattle.rk_feet.proofs.ToldSteps.{feet}
use Rattle.rk_orders.specs.Orders.{Taken}

-- One world after another.

pub lasts-on : (a b c : World) → Lasts a b → Lasts b c → Lasts a c
lasts-on a b c f g = record {
  nodes = λ x n e. g.nodes x n (f.nodes x n e);
  opens = λ x n e. g.opens x n (f.opens x n e);
  pipes = λ x n e. g.pipes x n (f.pipes x n e);
}

pub lasts-itself : (w : World) → Lasts w w
lasts-itself w = record { nodes = λ x n e. e; opens = λ x n e. e; pipes = λ x n e. e }

-- What is told of a step, in the numbers of a world that comes after it.

abbrev pub in_world : (z : World) → Step → Later z
in_world z s = record { command = s.command; number = s.number; world = z; lasts = lasts-itself z }

pub record IsToldBy (z : World) (t : Taken) (foot : Foot Numbered) : Type 0 where
  pub reads : AreTold z (in_world z t.step) foot.reads t.foot.reads
  pub writes : AreTold z (in_world z t.step) foot.writes t.foot.writes

-- The foot of a step by names.
abbrev pub named_foot : World → Step → Foot (Cell Plain Name)
named_foot w s = record { reads = reads_of (at w) (program s); writes = written_cells cells (end_of (at w) (program s)).1 }

-- A step's marks are its own.

own-mark : (w : World) (l : Later w) (told : List Numbered) (writes : Writes) (r s : ℕ) → AreTold w l told (written_cells cells writes)
    → ((r ≡ l.command) → (s ≡ l.number) → ⊥) → (old : Value) → written cells writes (Used r s) old ≡ old
own-mark w l told [] r s h other old = refl
own-mark w l told ((EntryOf dir name, u) ∷ ws) r s h other old = own-mark w l told ws r s h.1.1 other old
own-mark w l told ((AboveOf dir, u) ∷ ws) r s h other old = own-mark w l told ws r s h.1 other old
own-mark w l told ((ModeOf n, u) ∷ ws) r s h other old = own-mark w l told ws r s h.1 other old
own-mark w l told ((BytesOf n, u) ∷ ws) r s h other old = own-mark w l told ws r s h.1 other old
own-mark w l told ((OpenOf x, u) ∷ ws) r s h other old = own-mark w l told ws r s h.1 other old
own-mark w l told ((PipeOf x, u) ∷ ws) r s h other old = own-mark w l told ws r s h.1 other old
own-mark w l told ((OutputText, u) ∷ ws) r s h other old = own-mark w l told ws r s h.1 other old
own-mark w l told ((ErrorText, u) ∷ ws) r s h other old = own-mark w l told ws r s h.1 other old
own-mark w l told ((Used a b, u) ∷ ws) r s h other old = go (own-mark w l told ws r s h.1 other old) ((a == r) && (b == s)) refl
  where
    go : written cells ws (Used r s) old ≡ old → (t : Bool) → ((a == r) && (b == s)) ≡ t
        → written cells ws (Used r s) (if t then updated u old else old) ≡ old
    go rest false e = rest
    go rest true e =
        let two = both (a == r) (b == s) e in
        absurd (other (sym (eqb-true a r two.0) ∙ h.0.0) (sym (eqb-true b s two.1) ∙ h.0.1))

-- What a step makes has its numbers ever after.
gets-after : (w v z : World) (r s : ℕ) (f : Lasts w v) (g : Lasts w z) → Lasts v z → (a : Ask) (it : Answer)
    → GetsNumbers w (record { command = r; number = s; world = v; lasts = f }) a it
    → GetsNumbers w (record { command = r; number = s; world = z; lasts = g }) a it
gets-after w v z r s f g h (Open path how) it gets = λ e. h.opens _ _ (gets e)
gets-after w v z r s f g h (Mkdir path mode) it gets = λ e. h.nodes _ _ (gets e)
gets-after w v z r s f g h Pipe it gets = λ e. (h.opens _ _ (gets e).0, h.opens _ _ (gets e).1)
gets-after w v z r s f g h (Read on) it gets = tt
gets-after w v z r s f g h (ReadLine on) it gets = tt
gets-after w v z r s f g h (Write on text) it gets = tt
gets-after w v z r s f g h (Stat path follow) it gets = tt
gets-after w v z r s f g h (ListOf path) it gets = tt
gets-after w v z r s f g h (ReadLink path) it gets = tt
gets-after w v z r s f g h (Walk path) it gets = tt
gets-after w v z r s f g h (Same a b) it gets = tt
gets-after w v z r s f g h (Rmdir path) it gets = tt
gets-after w v z r s f g h (Unlink path) it gets = tt
gets-after w v z r s f g h (Rename a b) it gets = tt
gets-after w v z r s f g h (Symlink text path) it gets = tt
gets-after w v z r s f g h (Link a b) it gets = tt
gets-after w v z r s f g h (Chmod path mode) it gets = tt
gets-after w v z r s f g h (Launch told) it gets = tt

module _ (k : PlaysKernel) (s : Step) (w : World) where
  abbrev pub next : World
  next = k.it.after s w

  at-is : k.it.at w ≡ at w
  at-is = λ i. λ c. k.sees w c i

  pub foot-is : (by_cells k.it).foot s w ≡ named_foot w s
  foot-is = λ i. record {
    reads = reads_of (at-is i) (k.says s i);
    writes = written_cells (k.names i) (end_of (at-is i) (k.says s i)).1;
  }

  pub answer-is : k.it.answer s w ≡ (ends_in w (program s)).0
  answer-is = k.it.answers s w ∙ (λ i. (end_of (at-is i) (k.says s i)).0)

  pub holds : (p : Plain) → at next (One p) ≡ written cells (ends_in w (program s)).1 p (at w (One p))
  holds p = sym (k.sees next (One p)) ∙ k.it.writes s w p ∙ (λ i. written (k.names i) (end_of (at-is i) (k.says s i)).1 p (at-is i (One p)))

  -- the call that it is tells it
  module _ (refs : RefsHeld) (c : Call) (is : IsCall w refs s.ask c) (z : World) (lasts : Lasts next z) where
    abbrev later : Later w
    later = record { command = s.command; number = s.number; world = z; lasts = lasts-on w next z (k.lasts s w) lasts }

    tells : Tells w later (foot_by w.held refs c) (program s)
    tells = feet w later refs s.ask c is
        (subst (GetsNumbers w later s.ask) answer-is
        (gets-after w next z s.command s.number (k.lasts s w) (lasts-on w next z (k.lasts s w) lasts) lasts s.ask (k.it.answer s w) (k.gets s w)))

    pub told-by : (answer : Answer) → IsToldBy z (record { step = s; foot = named_foot w s; answer = answer })
        (record { reads = (foot_by w.held refs c).reads; writes = (foot_by w.held refs c).writes })
    told-by answer = record { reads = tells.reads; writes = tells.writes }

    pub used-by : (r n : ℕ) → (r ≡ s.command → n ≡ s.number → ⊥) → next.used r n ≡ w.used r n
    used-by r n other =
        let e : Flag (next.used r n) ≡ Flag (w.used r n) =
        holds (Used r n) ∙ own-mark w later (foot_by w.held refs c).writes (ends_in w (program s)).1 r n tells.writes other (Flag (w.used r n)) in
        cc
