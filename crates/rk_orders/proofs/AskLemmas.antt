-- A call of a command and what a step asks by names: one answer, one world, and what the command holds after it.
use Rattle.std.proofs.Common.{◌≡◌, ℕ, ◌+◌, [], length, true, false, Option, Some, None, refl, sym, ◌∙◌, subst}
use Rattle.std.specs.Prelude.{if◌then◌else◌}
use Rattle.rk_base.specs.Text.{Text}
use Rattle.rk_calls.specs.Fits.{is_launch}
use Rattle.rk_calls.specs.Given.{Given}
use Rattle.rk_calls.specs.Refs.{RefsHeld, ref_at, with_opened}
use Rattle.rk_calls.specs.declared.answer.Answer.{Answer}
use Rattle.rk_calls.specs.declared.answer.Answer.TheVariants as answer
use Rattle.rk_calls.specs.declared.call.Call.{Call}
use Rattle.rk_calls.specs.declared.call.Call.TheVariants as call
use Rattle.rk_kernel.specs.Do.{answered, read_ref, read_line_ref, write_ref}
use Rattle.rk_kernel.specs.Rows.{giving}
use Rattle.rk_kernel.specs.World as kernel
use Rattle.rk_feet.specs.Named.{Name}
use Rattle.rk_feet.specs.Played.{given_to, once_given, refs_on}
use Rattle.rk_feet.specs.Simulates.{number_on}
use Rattle.rk_feet.specs.Told.{GetsNumbers, IsCall, Later, StandsFor}
use Rattle.rk_feet.specs.World.{World}
use Rattle.rk_orders.specs.Held.{Held, ask_of, named_at, opens, with_opens}
use Rattle.rk_orders.proofs.AnsweredLemmas as like
use Rattle.rk_orders.proofs.AnsweredLemmas.{IsLike, refs_opened}
use Rattle.rk_orders.proofs.HeldLemmas.{IsHeld, none-more, opens-one, stands-for, two-more}

-- what a call asks by names is that call
pub is-call : (w : World) (held : Held) (refs : RefsHeld) → IsHeld w held refs → (c : Call) (it : Answer) → IsCall w refs (ask_of held c it) c
is-call w held refs h (call.Open path how) it = refl
is-call w held refs h (call.Read r) it = (r, refl, stands-for w held refs h r)
is-call w held refs h (call.ReadLine r) it = (r, refl, stands-for w held refs h r)
is-call w held refs h (call.Write r text) it = (r, refl, stands-for w held refs h r)
is-call w held refs h (call.Stat path follow) it = refl
is-call w held refs h (call.List path) it = refl
is-call w held refs h (call.ReadLink path) it = refl
is-call w held refs h (call.Walk path) it = refl
is-call w held refs h (call.Same a b) it = refl
is-call w held refs h (call.Mkdir path mode) it = refl
is-call w held refs h (call.Rmdir path) it = refl
is-call w held refs h (call.Unlink path) it = refl
is-call w held refs h (call.Rename a b) it = refl
is-call w held refs h (call.Symlink text path) it = refl
is-call w held refs h (call.Link a b) it = refl
is-call w held refs h (call.Chmod path mode) it = refl
is-call w held refs h call.Pipe it = refl
is-call w held refs h (call.Launch key map) it = (key, map, refl)

-- the description by its name is that by its number
on-is : (w : World) (refs : RefsHeld) (r : ℕ) (on : Option Name) → StandsFor w refs r on → ref_at refs r ≡ number_on w on
on-is w refs r None h = h
on-is w refs r (Some k) h = h.1 ∙ sym h.2

ref-on : (o : Option ℕ) → ref_at (refs_on o) 0 ≡ o
unfolding ref_at
ref-on o = refl

-- the command's descriptors after a call, in the numbers of the world before it
abbrev pub refs_after : kernel.World → RefsHeld → Call → Answer → RefsHeld → Type 0
refs_after world mine (call.Open path how) it refs = refs ≡ refs_opened it (with_opened mine (length world.opens)) mine
refs_after world mine call.Pipe it refs = refs ≡ with_opened (with_opened mine (length world.opens)) (length world.opens + 1)
refs_after world mine _ it refs = refs ≡ mine

module _ (w : World) (held : Held) (refs : RefsHeld) (h : IsHeld w held refs) (r s : ℕ) (unused : w.used r s ≡ false) where
  -- what makes something hasn't made it yet
  once : (c : Call) (given : Given kernel.World) → IsLike (refs_after w.held refs c) (answered w.held refs c) given
      → IsLike (refs_after w.held refs c) (answered w.held refs c) (once_given w r s given)
  once c given it = subst (λ b. IsLike (refs_after w.held refs c) (answered w.held refs c) (if b then giving w.held (refs_on None) answer.Go else given))
      (sym unused) it

  -- by the description that is asked
  by-read : (n : ℕ) → IsLike (like.Keeps refs) (answered w.held refs (call.Read n)) (answered w.held (refs_on (number_on w (named_at held n))) (call.Read 0))
  by-read n =
      subst (λ o. IsLike (like.Keeps refs) (read_ref w.held refs o) (read_ref w.held (refs_on (number_on w (named_at held n)))
      (ref_at (refs_on (number_on w (named_at held n))) 0))) (sym (on-is w refs n (named_at held n) (stands-for w held refs h n)))
      (subst (λ o. IsLike (like.Keeps refs) (read_ref w.held refs (number_on w (named_at held n)))
      (read_ref w.held (refs_on (number_on w (named_at held n))) o)) (sym (ref-on (number_on w (named_at held n))))
      (like.reads w.held refs (refs_on (number_on w (named_at held n))) (number_on w (named_at held n))))

  by-line : (n : ℕ)
      → IsLike (like.Keeps refs) (answered w.held refs (call.ReadLine n)) (answered w.held (refs_on (number_on w (named_at held n))) (call.ReadLine 0))
  by-line n =
      subst (λ o. IsLike (like.Keeps refs) (read_line_ref w.held refs o) (read_line_ref w.held (refs_on (number_on w (named_at held n)))
      (ref_at (refs_on (number_on w (named_at held n))) 0))) (sym (on-is w refs n (named_at held n) (stands-for w held refs h n)))
      (subst (λ o. IsLike (like.Keeps refs) (read_line_ref w.held refs (number_on w (named_at held n)))
      (read_line_ref w.held (refs_on (number_on w (named_at held n))) o)) (sym (ref-on (number_on w (named_at held n))))
      (like.lines w.held refs (refs_on (number_on w (named_at held n))) (number_on w (named_at held n))))

  by-write : (n : ℕ) (text : Text)
      → IsLike (like.Keeps refs) (answered w.held refs (call.Write n text)) (answered w.held (refs_on (number_on w (named_at held n))) (call.Write 0 text))
  by-write n text =
      subst (λ o. IsLike (like.Keeps refs) (write_ref w.held refs text o) (write_ref w.held (refs_on (number_on w (named_at held n))) text
      (ref_at (refs_on (number_on w (named_at held n))) 0))) (sym (on-is w refs n (named_at held n) (stands-for w held refs h n)))
      (subst (λ o. IsLike (like.Keeps refs) (write_ref w.held refs text (number_on w (named_at held n)))
      (write_ref w.held (refs_on (number_on w (named_at held n))) text o)) (sym (ref-on (number_on w (named_at held n))))
      (like.writes w.held refs (refs_on (number_on w (named_at held n))) text (number_on w (named_at held n))))

  pub given-so : (c : Call) (it : Answer) → is_launch c ≡ false
      → IsLike (refs_after w.held refs c) (answered w.held refs c) (given_to w r s (ask_of held c it))
  given-so (call.Open path how) it plain = once (call.Open path how) (answered w.held (refs_on None) (call.Open path how))
      (like.opens w.held refs (refs_on None) path how)
  given-so (call.Read n) it plain = by-read n
  given-so (call.ReadLine n) it plain = by-line n
  given-so (call.Write n text) it plain = by-write n text
  given-so (call.Stat path follow) it plain = like.stats w.held refs (refs_on None) path follow
  given-so (call.List path) it plain = like.lists w.held refs (refs_on None) path
  given-so (call.ReadLink path) it plain = like.links-read w.held refs (refs_on None) path
  given-so (call.Walk path) it plain = like.walks w.held refs (refs_on None) path
  given-so (call.Same a b) it plain = like.compares w.held refs (refs_on None) a b
  given-so (call.Mkdir path mode) it plain = once (call.Mkdir path mode) (answered w.held (refs_on None) (call.Mkdir path mode))
      (like.dirs w.held refs (refs_on None) path mode)
  given-so (call.Rmdir path) it plain = like.removes w.held refs (refs_on None) path
  given-so (call.Unlink path) it plain = like.unlinks w.held refs (refs_on None) path
  given-so (call.Rename a b) it plain = like.renames w.held refs (refs_on None) a b
  given-so (call.Symlink text path) it plain = once (call.Symlink text path) (answered w.held (refs_on None) (call.Symlink text path))
      (like.symlinks w.held refs (refs_on None) text path)
  given-so (call.Link a b) it plain = like.links w.held refs (refs_on None) a b
  given-so (call.Chmod path mode) it plain = like.modes w.held refs (refs_on None) path mode
  given-so call.Pipe it plain = once call.Pipe (answered w.held (refs_on None) call.Pipe) (record { answer = refl; world = refl; refs = refl })
  given-so (call.Launch key map) it plain = absurd (let no : true ≡ false = plain in cc)

-- what a command holds after it, in a world that comes after
module _ (w : World) (l : Later w) (held : Held) (refs : RefsHeld) (h : IsHeld l.world held refs) where
  abbrev After : Call → Answer → RefsHeld → Type 0
  After c it now = IsHeld l.world (with_opens held (opens l.command l.number c it)) now

  as-it-was : (now : RefsHeld) → now ≡ refs → IsHeld l.world (with_opens held []) now
  as-it-was now e = subst (IsHeld l.world (with_opens held [])) (sym e) (none-more l.world held refs h)

  pub held-then : (c : Call) (it : Answer) (now : RefsHeld) → GetsNumbers w l (ask_of held c it) it → refs_after w.held refs c it now
      → (c ≡ call.Pipe → it ≡ answer.Piped) → After c it now
  held-then (call.Open path how) it now gets e piped =
      subst (IsHeld l.world (with_opens held (opens l.command l.number (call.Open path how) it))) (sym e)
      (opens-one l.world held refs _ (length w.held.opens) it h gets)
  held-then call.Pipe it now gets e piped =
      subst (IsHeld l.world (with_opens held (opens l.command l.number call.Pipe it))) (sym e)
      (let two = gets (piped refl) in two-more l.world held refs _ _ (length w.held.opens) (length w.held.opens + 1) h two.0 two.1)
  held-then (call.Read n) it now gets e piped = as-it-was now e
  held-then (call.ReadLine n) it now gets e piped = as-it-was now e
  held-then (call.Write n text) it now gets e piped = as-it-was now e
  held-then (call.Stat path follow) it now gets e piped = as-it-was now e
  held-then (call.List path) it now gets e piped = as-it-was now e
  held-then (call.ReadLink path) it now gets e piped = as-it-was now e
  held-then (call.Walk path) it now gets e piped = as-it-was now e
  held-then (call.Same a b) it now gets e piped = as-it-was now e
  held-then (call.Mkdir path mode) it now gets e piped = as-it-was now e
  held-then (call.Rmdir path) it now gets e piped = as-it-was now e
  held-then (call.Unlink path) it now gets e piped = as-it-was now e
  held-then (call.Rename a b) it now gets e piped = as-it-was now e
  held-then (call.Symlink text path) it now gets e piped = as-it-was now e
  held-then (call.Link a b) it now gets e piped = as-it-was now e
  held-then (call.Chmod path mode) it now gets e piped = as-it-was now e
  held-then (call.Launch key map) it now gets e piped = as-it-was now e
