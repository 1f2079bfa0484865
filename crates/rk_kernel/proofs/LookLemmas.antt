-- What is looked at first.
use Rattle.std.proofs.Common.{◌≡◌, ℕ, true, Option, Some, None, refl, sym, ap, subst, ◌∙◌}
use Rattle.std.specs.Prelude.{IfSome}
use Rattle.rk_base.specs.Text.{Text}
use Rattle.rk_calls.specs.Given.{Given}
use Rattle.rk_calls.specs.Refs.{RefsHeld}
use Rattle.rk_calls.specs.declared.answer.Answer.{Answer}
use Rattle.rk_calls.specs.declared.call.Call.{Call}
use Rattle.rk_calls.specs.declared.call.Call.TheVariants as call
use Rattle.rk_tree.specs.Full.{Told, AreFrom, full, is_known}
use Rattle.rk_tree.specs.Hierarchy.{Hierarchy, held_in, know, knowing, node}
use Rattle.rk_tree.proofs.KnownLemmas.{know-full, know-from}
use Rattle.rk_kernel.specs.Do.{answered}
use Rattle.rk_kernel.specs.Full.{IsFetched, file_at, file_seen, full_given, full_world, is_seen}
use Rattle.rk_kernel.specs.Numbers.{Stays}
use Rattle.rk_kernel.specs.World.{World}
use Rattle.rk_kernel.proofs.FoundLemmas.{place-found}
use Rattle.rk_kernel.proofs.FullLemmas.{answers}
use Rattle.rk_kernel.proofs.NumberLemmas.{other_node}

-- a call looks at the same file in full
seen-full : (told : Told) (w : World) (refs : RefsHeld) (c : Call) → file_seen (full_world told w) refs c ≡ file_seen w refs c
unfolding full_world
seen-full told w refs (call.Open path how) = refl
seen-full told w refs (call.Read r) = refl
seen-full told w refs (call.ReadLine r) = refl
seen-full told w refs (call.Write r bytes) = refl
seen-full told w refs (call.Stat path follow) = ap file_at (place-found told w.tree path follow)
seen-full told w refs (call.List path) = refl
seen-full told w refs (call.ReadLink path) = refl
seen-full told w refs (call.Walk path) = refl
seen-full told w refs (call.Same a b) = refl
seen-full told w refs (call.Mkdir path mode) = refl
seen-full told w refs (call.Rmdir path) = refl
seen-full told w refs (call.Unlink path) = refl
seen-full told w refs (call.Rename a b) = refl
seen-full told w refs (call.Symlink text path) = refl
seen-full told w refs (call.Link a b) = refl
seen-full told w refs (call.Chmod path mode) = refl
seen-full told w refs call.Pipe = refl
seen-full told w refs (call.Launch key map) = refl

is-seen : (w : World) (o : Option ℕ) → IfSome o (λ n. is_known (node w.tree n) ≡ true) → is_seen w o ≡ true
is-seen w None h = refl
is-seen w (Some n) h = h

answered-told : (told : Told) (before mid now : World) (refs then : RefsHeld) (c : Call) (a : Answer) → full_world told mid ≡ full_world told before → IfSome (file_seen before refs c) (λ n. is_known (node mid.tree n) ≡ true)
    → ◌≡◌ {A = Given World} (record { answer = a; refs = then; world = now }) (answered mid refs c) → ◌≡◌ {A = Given World} (record { answer = a; refs = then; world = full_world told now }) (answered (full_world told before) refs c)
answered-told told before mid now refs then c a same seen is =
    let files = seen-full told before refs c in
    let here = sym (seen-full told mid refs c) ∙ ap (λ (w : World). file_seen w refs c) same ∙ files in
    ap (full_given told) is
    ∙ sym (answers told mid refs c (ap (is_seen mid) here ∙ is-seen mid (file_seen before refs c) seen))
    ∙ ap (λ (w : World). answered w refs c) same

-- what is answered once what the call looks at is known is answered as in full
pub answered-by : (o : Option Told) (before mid now : World) (refs then : RefsHeld) (c : Call) (a : Answer) → IfSome o (λ told. full_world told mid ≡ full_world told before) → IfSome (file_seen before refs c) (λ n. is_known (node mid.tree n) ≡ true)
    → ◌≡◌ {A = Given World} (record { answer = a; refs = then; world = now }) (answered mid refs c) → IfSome o (λ told. ◌≡◌ {A = Given World} (record { answer = a; refs = then; world = full_world told now }) (answered (full_world told before) refs c))
answered-by None before mid now refs then c a same seen is = tt
answered-by (Some told) before mid now refs then c a same seen is = answered-told told before mid now refs then c a same seen is

-- Bytes that were fetched.

lift : (o : Option Told) (w : World) (now : Hierarchy) → IfSome o (λ told. full told now ≡ full told w.tree) → IfSome o (λ told. full_world told (record w { tree = now }) ≡ full_world told w)
unfolding full_world
lift None w now h = tt
lift (Some told) w now h = ap (λ (t : Hierarchy). record w { tree = t }) h

pub look-full : (o : Option Told) (w : World) (now : Hierarchy) (n k : ℕ) (bytes : Text) → k ≡ n → IsFetched o (node w.tree k) bytes → now ≡ know w.tree k bytes → IfSome o (λ told. full_world told (record w { tree = now }) ≡ full_world told w)
look-full o w now n k bytes same fetched known = lift o w now (know-full o w.tree now k bytes fetched.0 fetched.1 fetched.2 known)

pub look-from : (o then : Option Told) (tree now : Hierarchy) (k : ℕ) (bytes : Text) → then ≡ o → IsFetched o (node tree k) bytes → now ≡ know tree k bytes → AreFrom o tree → AreFrom then now
look-from o then tree now k bytes same fetched known from = subst (λ (t : Option Told). AreFrom t now) (sym same) (know-from o tree now k bytes fetched.0 fetched.1 fetched.2 known from)

pub look-others : (tree now : Hierarchy) (n k : ℕ) (bytes : Text) → k ≡ n → now ≡ know tree k bytes → Stays (Some n) tree now
look-others tree now n k bytes same known m other =
    ap (λ (t : Hierarchy). held_in (node t m)) known
    ∙ ap held_in (other_node (knowing bytes) tree.nodes k m (λ e. other (sym same ∙ e)))
