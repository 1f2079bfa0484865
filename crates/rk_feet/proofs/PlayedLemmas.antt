-- The kernel's calls as a world that is programmed.
use Rattle.std.proofs.Common.{◌≡◌, ℕ, suc, ◌≤◌, List, [], ◌∷◌, length, Bool, true, false, Option, None, refl, sym, ◌∙◌, ap, subst}
use Rattle.rk_calls.specs.Given.{Given}
use Rattle.rk_calls.specs.Refs.{ref_at}
use Rattle.rk_calls.specs.declared.answer.Answer.{Answer}
use Rattle.rk_calls.specs.declared.answer.Answer.TheVariants as answer
use Rattle.rk_calls.specs.declared.call.Call.TheVariants as call
use Rattle.rk_kernel.specs.World as kernel
use Rattle.rk_kernel.specs.Do.{answered}
use Rattle.rk_kernel.specs.Rows.{giving}
use Rattle.std.specs.Prelude.{if◌then◌else◌}
use Rattle.rk_waves.specs.Programs.{Cell, One, Programmed, by_cells}
use Rattle.rk_waves.proofs.Lawful.{cell-is, cell-self, programmed-lawful}
use Rattle.rk_waves.specs.Goes.{Told, Goes, left_by}
use Rattle.rk_waves.proofs.CoverLemmas.{conflict-more}
use Rattle.rk_waves.proofs.InWaves.{in-waves, in-waves-apart}
use Rattle.rk_waves.proofs.PlacedLemmas.{wave_of-is}
use Rattle.rk_feet.specs.Played.{refs_on, once_given, given_to, PlaysKernel}
use Rattle.rk_feet.specs.Named.{Name, Plain, Used, Value, Flag, Does}
use Rattle.rk_feet.specs.CellLemmas.{cells}
use Rattle.rk_feet.specs.Opening.{once, once_by, open_path, makes_pipe}
use Rattle.rk_feet.specs.Changing.{mkdir_path, symlink_path}
use Rattle.rk_feet.specs.World.{World, at}
use Rattle.rk_feet.specs.Simulates.{Simulates, ends_in, number_on}
use Rattle.rk_feet.specs.Steps.{Ask, Open, Read, ReadLine, Write, Stat, List as ListOf, ReadLink, Walk, Same, Mkdir, Rmdir, Unlink, Rename, Symlink, Link}
use Rattle.rk_feet.specs.Steps.{Chmod, Pipe, Launch, Step, asks, program}
use Rattle.rk_feet.proofs.SimulationLemmas.{simulates-answer, simulates-reads}
use Rattle.rk_feet.proofs.ReadLemmas.{reads, reads-lines}
use Rattle.rk_feet.proofs.WriteLemmas.{writes}
use Rattle.rk_feet.proofs.QuestionLemmas.{stats, lists, reads-links, compares}
use Rattle.rk_feet.proofs.ChmodLemmas.{changes-modes}
use Rattle.rk_feet.proofs.OpeningLemmas.{pipes}
use Rattle.rk_feet.proofs.MakingCallLemmas.{opens-paths, makes-dirs, makes-links}
use Rattle.rk_feet.proofs.RemovingLemmas.{unlinks, removes-dirs}
use Rattle.rk_feet.proofs.LinkingLemmas.{links-names}
use Rattle.rk_feet.proofs.WalkLemmas.{walks}
use Rattle.rk_feet.proofs.RenamingLemmas.{renames-names}
use Rattle.rk_feet.proofs.GroupLemmas.{groups}
use Rattle.rk_feet.proofs.SnapshotLemmas.{alike-seen}
use Rattle.rk_waves.specs.Programs.{Ends}
use Rattle.rk_feet.specs.Told.{GetsNumbers, Later}
use Rattle.rk_feet.specs.Opening.{does_open}
use Rattle.rk_feet.specs.Changing.{does_mkdir}
use Rattle.rk_feet.proofs.NextLemmas.{opens-few, dirs-few, opens-so, dirs-so, next-open, next-dir, pipe-numbers}

ref-on : (o : Option ℕ) → ref_at (refs_on o) 0 ≡ o
unfolding ref_at
ref-on o = refl

-- a step that makes something, which it may have made already
making : (w : World) (r s : ℕ) (given : Given kernel.World) (x : Does) → (w.used r s ≡ false → Simulates w given (ends_in w (once r s x)))
    → Simulates w (once_given w r s given) (ends_in w (once r s x))
making w r s given x h = go (w.used r s) refl
  where
    go : (b : Bool) → w.used r s ≡ b → Simulates w (if b then giving w.held (refs_on None) answer.Go else given) (ends_in w (once r s x))
    go false e = h e
    go true e = simulates-reads w (giving w.held (refs_on None) answer.Go) (One (Used r s)) (Flag true) (once_by x) (ap Flag e)
        (simulates-answer w (refs_on None) answer.Go)

pub simulated : (w : World) (r s : ℕ) (a : Ask) → Simulates w (given_to w r s a) (ends_in w (asks r s a))
simulated w r s (Open path h) = making w r s (answered w.held (refs_on None) (call.Open path h)) (open_path r s path h)
    (opens-paths w (refs_on None) r s path h)
simulated w r s (Read on) = reads w (refs_on (number_on w on)) 0 on (ref-on (number_on w on))
simulated w r s (ReadLine on) = reads-lines w (refs_on (number_on w on)) 0 on (ref-on (number_on w on))
simulated w r s (Write on text) = writes w (refs_on (number_on w on)) 0 text on (ref-on (number_on w on))
simulated w r s (Stat path follow) = stats w (refs_on None) path follow
simulated w r s (ListOf path) = lists w (refs_on None) path
simulated w r s (ReadLink path) = reads-links w (refs_on None) path
simulated w r s (Walk path) = walks w (refs_on None) path
simulated w r s (Same a b) = compares w (refs_on None) a b
simulated w r s (Mkdir path mode) = making w r s (answered w.held (refs_on None) (call.Mkdir path mode)) (mkdir_path r s path mode)
    (makes-dirs w (refs_on None) r s path mode)
simulated w r s (Rmdir path) = removes-dirs w (refs_on None) path
simulated w r s (Unlink path) = unlinks w (refs_on None) path
simulated w r s (Rename a b) = renames-names w (refs_on None) a b
simulated w r s (Symlink text path) = making w r s (answered w.held (refs_on None) (call.Symlink text path)) (symlink_path r s text path)
    (makes-links w (refs_on None) r s text path)
simulated w r s (Link a b) = links-names w (refs_on None) a b
simulated w r s (Chmod path mode) = changes-modes w (refs_on None) path mode
simulated w r s Pipe = making w r s (answered w.held (refs_on None) call.Pipe) (Ends answer.Piped (makes_pipe r s)) (pipes w (refs_on None) r s)
simulated w r s (Launch told) = simulates-answer w (refs_on None) told

-- what a step makes gets the next numbers

abbrev after_of : (w : World) (r s : ℕ) (a : Ask) → Later w
after_of w r s a = record { command = r; number = s; world = (simulated w r s a).after.next; lasts = (simulated w r s a).after.lasts }

unused-of : (w : World) (r s : ℕ) (given : Given kernel.World) (it : Answer) → (once_given w r s given).answer ≡ it → (answer.Go ≡ it → ⊥) → w.used r s ≡ false
unused-of w r s given it is not = go (w.used r s) refl is
  where
    go : (b : Bool) → w.used r s ≡ b → (if b then giving w.held (refs_on None) answer.Go else given).answer ≡ it → b ≡ false
    go false e is = refl
    go true e is = absurd (not is)

gets-numbers : (w : World) (r s : ℕ) (a : Ask) → GetsNumbers w (after_of w r s a) a (given_to w r s a).answer
gets-numbers w r s (Open path h) = λ so.
    let it = simulated w r s (Open path h) in
    let unused = unused-of w r s (answered w.held (refs_on None) (call.Open path h)) answer.Opened so (λ e. cc) in
    next-open w it.after.next it.after.lasts r s (ends_in w (does_open r s path h)).1 it.after.holds
    (subst (λ (held : kernel.World). length held.opens ≤ suc (length w.held.opens)) (sym it.after.is) (opens-few w r s path h))
    (w.unused r s 0 420 unused).1 (opens-so w r s path h (sym it.answer ∙ so) _)
gets-numbers w r s (Mkdir path m) = λ so.
    let it = simulated w r s (Mkdir path m) in
    let unused = unused-of w r s (answered w.held (refs_on None) (call.Mkdir path m)) answer.Done so (λ e. cc) in
    next-dir w it.after.next it.after.lasts r s m (ends_in w (does_mkdir r s path m)).1 it.after.holds
    (subst (λ (held : kernel.World). length held.tree.nodes ≤ suc (length w.held.tree.nodes)) (sym it.after.is) (dirs-few w r s path m))
    (w.unused r s 0 m unused).0 (dirs-so w r s m path (sym it.answer ∙ so) _)
gets-numbers w r s Pipe = λ so.
    let it = simulated w r s Pipe in
    let unused = unused-of w r s (answered w.held (refs_on None) call.Pipe) answer.Piped so (λ e. cc) in
    pipe-numbers w it.after.next it.after.lasts r s unused
    (it.after.is ∙ ap (λ b. (if b then giving w.held (refs_on None) answer.Go else answered w.held (refs_on None) call.Pipe).world) unused) it.after.holds
gets-numbers w r s (Read on) = tt
gets-numbers w r s (ReadLine on) = tt
gets-numbers w r s (Write on text) = tt
gets-numbers w r s (Stat path follow) = tt
gets-numbers w r s (ListOf path) = tt
gets-numbers w r s (ReadLink path) = tt
gets-numbers w r s (Walk path) = tt
gets-numbers w r s (Same a b) = tt
gets-numbers w r s (Rmdir path) = tt
gets-numbers w r s (Unlink path) = tt
gets-numbers w r s (Rename a b) = tt
gets-numbers w r s (Symlink text path) = tt
gets-numbers w r s (Link a b) = tt
gets-numbers w r s (Chmod path mode) = tt
gets-numbers w r s (Launch told) = tt

kernel_steps : Programmed World Step Plain Name Value Answer
kernel_steps = record {
  cells = cells;
  at = at;
  program = program;
  answer = λ s w. (given_to w s.command s.number s.ask).answer;
  after = λ s w. (simulated w s.command s.number s.ask).after.next;
  answers = λ s w. (simulated w s.command s.number s.ask).answer;
  writes = λ s w p. (simulated w s.command s.number s.ask).after.holds p;
  groups = groups;
}

-- the world that steps leave is like the end that is told
goes-alike : (start end : World) (steps : List (Told Step (Cell Plain Name) Answer)) → Goes (by_cells kernel_steps) start steps end
    → (c : Cell Plain Name) → at (left_by (by_cells kernel_steps) start steps) c ≡ at end c
unfolding kernel_steps
goes-alike start end [] goes = goes
goes-alike start end (t ∷ ts) goes = goes-alike ((by_cells kernel_steps).after t.step start) end ts goes.2

pub plays : PlaysKernel
unfolding kernel_steps
plays = record {
  it = kernel_steps;
  names = refl;
  sees = λ w c. refl;
  says = λ s. refl;
  answers = λ s w. refl;
  becomes = λ s w. (simulated w s.command s.number s.ask).after.is;
  lasts = λ s w. (simulated w s.command s.number s.ask).after.lasts;
  gets = λ s w. gets-numbers w s.command s.number s.ask;
  lawful = programmed-lawful kernel_steps;
  waves = in-waves (by_cells kernel_steps) (programmed-lawful kernel_steps);
  least = wave_of-is (by_cells kernel_steps);
  apart = in-waves-apart (by_cells kernel_steps) (programmed-lawful kernel_steps);
  more = conflict-more (by_cells kernel_steps) (cell-is kernel_steps) (cell-self kernel_steps);
  seen = λ start end steps goes. alike-seen (left_by (by_cells kernel_steps) start steps) end (goes-alike start end steps goes);
}
