-- Changes of descriptions, pipes, output and error text.
use Rattle.std.proofs.Common.{◌≡◌, ℕ, zero, suc, ◌<◌, List, [], ◌∷◌, length, Bool, true, false, Some, refl, sym, ◌∙◌, ap, subst, arith}
use Rattle.std.specs.Prelude.{if◌then◌else◌, slice_get, slice_set}
use Rattle.std.proofs.lemmas.Option.{slice_get_within}
use Rattle.rk_base.specs.Text.{Text}
use Rattle.rk_kernel.specs.World.{text_of, with_offset}
use Rattle.rk_kernel.specs.declared.description.Description as opening
use Rattle.rk_kernel.specs.declared.description.Source as reading
use Rattle.rk_kernel.specs.declared.description.Source.TheVariants as source
use Rattle.rk_waves.specs.Programs.{One, Update, Sets, updated, written}
use Rattle.rk_feet.specs.Named.{Name, Plain, EntryOf, AboveOf, ModeOf, BytesOf, OpenOf, PipeOf, OutputText, ErrorText, Used, Value, Bytes, Opened}
use Rattle.rk_feet.specs.Naming.{same_name, AreNamed}
use Rattle.rk_feet.specs.World.{World, at, IsSource, IsOpen, opened_named, opened_in, pipe_in}
use Rattle.rk_feet.specs.Simulates.{Becomes}
use Rattle.rk_feet.specs.CellLemmas.{cells}
use Rattle.rk_feet.specs.NamingLemmas.{name-is, named-set}
use Rattle.rk_feet.proofs.OptionLemmas.{same-some}

pub length-set : {A : Type 0} (xs : List A) (d : ℕ) (y : A) → length (slice_set xs d y) ≡ length xs
length-set [] d y = refl
length-set (x ∷ xs) zero y = refl
length-set (x ∷ xs) (suc d) y = ap suc (length-set xs d y)

pub get-same : {A : Type 0} (xs : List A) (d : ℕ) (y : A) → d < length xs → slice_get (slice_set xs d y) d ≡ Some y
get-same [] d y h = absurd (omega arith)
get-same (x ∷ xs) zero y h = refl
get-same (x ∷ xs) (suc d) y h = get-same xs d y (omega arith)

pub get-other : {A : Type 0} (xs : List A) (d c : ℕ) (y : A) → (c ≡ d → ⊥) → slice_get (slice_set xs d y) c ≡ slice_get xs c
get-other [] d c y h = refl
get-other (x ∷ xs) zero zero y h = absurd (h refl)
get-other (x ∷ xs) zero (suc c) y h = refl
get-other (x ∷ xs) (suc d) zero y h = refl
get-other (x ∷ xs) (suc d) (suc c) y h = get-other xs d c y (λ e. h (ap suc e))

-- what each element of a list meets, it meets after one was set that meets it
pub set-all : {A : Type 0} (Q : A → Type 0) (xs : List A) (n : ℕ) (y : A) → Q y → ((k : ℕ) (x : A) → slice_get xs k ≡ Some x → Q x) → (k : ℕ) (x : A)
    → slice_get (slice_set xs n y) k ≡ Some x → Q x
set-all Q [] n y py all k x e = all k x e
set-all Q (z ∷ xs) zero y py all zero x e = subst Q (same-some y x e) py
set-all Q (z ∷ xs) zero y py all (suc k) x e = all (suc k) x e
set-all Q (z ∷ xs) (suc n) y py all zero x e = all zero x e
set-all Q (z ∷ xs) (suc n) y py all (suc k) x e = set-all Q xs n y py (λ k x e. all (suc k) x e) k x e

-- the offset of a description
module _ (w : World) (k : Name) (n : ℕ) (d : opening.Description) (offset : ℕ) (at_n : w.opens.number_of k ≡ Some n) (is : slice_get w.held.opens n ≡ Some d)
  where
    abbrev pub offset-next : World
    offset-next = record w {
      held = with_offset w.held n d offset;
      opens_named = subst (λ c. AreNamed c w.opens) (sym (length-set w.held.opens n (record d { offset = offset }))) w.opens_named;
      are_open = set-all (IsOpen w.held.tree w.held.pipes) w.held.opens n (record d { offset = offset })
          (record { stands = (w.are_open n d is).stands; plain = (w.are_open n d is).plain }) w.are_open;
    }

    pub offset-holds : (p : Plain) → at offset-next (One p)
        ≡ written cells ((OpenOf k, Sets (Opened (opened_named w (Some (record d { offset = offset }))))) ∷ []) p (at w (One p))
    offset-holds (EntryOf x y) = refl
    offset-holds (AboveOf x) = refl
    offset-holds (ModeOf x) = refl
    offset-holds (BytesOf x) = refl
    offset-holds (OpenOf x) =
        named-set (length w.held.opens) w.opens w.opens_named k n at_n (λ o. Opened (opened_in w o)) (λ o. Opened (opened_in offset-next o))
        (Opened (opened_named w (Some (record d { offset = offset }))))
        (ap (λ o. Opened (opened_named w o)) (get-same w.held.opens n (record d { offset = offset }) (slice_get_within w.held.opens n d is)))
        (λ j apart. ap (λ o. Opened (opened_named w o)) (get-other w.held.opens n j (record d { offset = offset }) apart)) refl x
    offset-holds (PipeOf x) = refl
    offset-holds OutputText = refl
    offset-holds ErrorText = refl
    offset-holds (Used r s) = refl

    abbrev pub set-offset : Becomes w (with_offset w.held n d offset) ((OpenOf k, Sets (Opened (opened_named w (Some (record d { offset = offset }))))) ∷ [])
    set-offset = record { next = offset-next; is = refl; holds = offset-holds; lasts = record { nodes = λ x n e. e; opens = λ x n e. e; pipes = λ x n e. e } }

-- the bytes in a pipe
module _ (w : World) (k : Name) (n : ℕ) (text : Text) (u : Update Value) (at_n : w.pipes.number_of k ≡ Some n)
    (says : Bytes text ≡ updated u (at w (One (PipeOf k)))) where
  pub sources-stay : (s : reading.Source) → IsSource w.held.tree w.held.pipes s → IsSource w.held.tree (slice_set w.held.pipes n text) s
  sources-stay (source.Node m) h = h
  sources-stay (source.Pipe p) h = subst (λ c. p < c) (sym (length-set w.held.pipes n text)) h
  sources-stay source.Output h = h
  sources-stay source.ErrorText h = h
  sources-stay source.Nothing h = h

  abbrev pub pipe-next : World
  pipe-next = record w {
    held = record w.held { pipes = slice_set w.held.pipes n text };
    pipes_named = subst (λ c. AreNamed c w.pipes) (sym (length-set w.held.pipes n text)) w.pipes_named;
    are_open = λ j d e. record { stands = sources-stay d.source (w.are_open j d e).stands; plain = (w.are_open j d e).plain };
  }

  pub choose-pipe : (q : Name) (b : Bool) → same_name k q ≡ b
      → (if b then Bytes text else at w (One (PipeOf q))) ≡ (if b then updated u (at w (One (PipeOf q))) else at w (One (PipeOf q)))
  choose-pipe q true e = says ∙ ap (λ x. updated u (at w (One (PipeOf x)))) (name-is k q e)
  choose-pipe q false e = refl

  pub pipe-holds : (p : Plain) → at pipe-next (One p) ≡ written cells ((PipeOf k, u) ∷ []) p (at w (One p))
  pipe-holds (EntryOf x y) = refl
  pipe-holds (AboveOf x) = refl
  pipe-holds (ModeOf x) = refl
  pipe-holds (BytesOf x) = refl
  pipe-holds (OpenOf x) = refl
  pipe-holds (PipeOf x) =
      named-set (length w.held.pipes) w.pipes w.pipes_named k n at_n (λ o. Bytes (pipe_in w o)) (λ o. Bytes (pipe_in pipe-next o)) (Bytes text)
      (ap (λ o. Bytes (text_of o)) (get-same w.held.pipes n text (w.pipes_named.there k n at_n).0))
      (λ j apart. ap (λ o. Bytes (text_of o)) (get-other w.held.pipes n j text apart)) refl x
      ∙ choose-pipe x (same_name k x) refl
  pipe-holds OutputText = refl
  pipe-holds ErrorText = refl
  pipe-holds (Used r s) = refl

  abbrev pub set-pipe : Becomes w (record w.held { pipes = slice_set w.held.pipes n text }) ((PipeOf k, u) ∷ [])
  set-pipe = record { next = pipe-next; is = refl; holds = pipe-holds; lasts = record { nodes = λ x n e. e; opens = λ x n e. e; pipes = λ x n e. e } }

abbrev pub set-out : (w : World) (text : Text) (u : Update Value) → Bytes text ≡ updated u (Bytes w.held.out)
    → Becomes w (record w.held { out = text }) ((OutputText, u) ∷ [])
set-out w text u says = record {
  next = record w { held = record w.held { out = text } };
  is = refl;
  holds = holds;
  lasts = record { nodes = λ x n e. e; opens = λ x n e. e; pipes = λ x n e. e };
}
  where
    holds : (p : Plain) → at (record w { held = record w.held { out = text } }) (One p) ≡ written cells ((OutputText, u) ∷ []) p (at w (One p))
    holds (EntryOf x y) = refl
    holds (AboveOf x) = refl
    holds (ModeOf x) = refl
    holds (BytesOf x) = refl
    holds (OpenOf x) = refl
    holds (PipeOf x) = refl
    holds OutputText = says
    holds ErrorText = refl
    holds (Used r s) = refl

abbrev pub set-err : (w : World) (text : Text) (u : Update Value) → Bytes text ≡ updated u (Bytes w.held.err)
    → Becomes w (record w.held { err = text }) ((ErrorText, u) ∷ [])
set-err w text u says = record {
  next = record w { held = record w.held { err = text } };
  is = refl;
  holds = holds;
  lasts = record { nodes = λ x n e. e; opens = λ x n e. e; pipes = λ x n e. e };
}
  where
    holds : (p : Plain) → at (record w { held = record w.held { err = text } }) (One p) ≡ written cells ((ErrorText, u) ∷ []) p (at w (One p))
    holds (EntryOf x y) = refl
    holds (AboveOf x) = refl
    holds (ModeOf x) = refl
    holds (BytesOf x) = refl
    holds (OpenOf x) = refl
    holds (PipeOf x) = refl
    holds OutputText = refl
    holds ErrorText = says
    holds (Used r s) = refl
