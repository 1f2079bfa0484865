-- What a step makes: a mark that it has, descriptions and pipes.
use Rattle.std.proofs.Common.{◌≡◌, ℕ, zero, suc, ◌<◌, List, [], ◌∷◌, ◌++◌, length, Bool, true, false, ◌&&◌, ◌||◌, Option, Some, None, refl, sym, ◌∙◌, ap, ap₂}
use Rattle.std.proofs.Common.{subst, arith}
use Rattle.std.specs.Prelude.{◌==◌, if◌then◌else◌, slice_get}
use Rattle.std.proofs.lemmas.Bool.{eqb-true}
use Rattle.rk_kernel.specs.World.{with_open, text_of}
use Rattle.rk_kernel.specs.declared.description.Description as opening
use Rattle.rk_kernel.specs.declared.description.Source as reading
use Rattle.rk_kernel.specs.declared.description.Source.TheVariants as source
use Rattle.rk_waves.specs.Programs.{One, Sets, written}
use Rattle.rk_feet.specs.Named.{Made, Plain, EntryOf, AboveOf, ModeOf, BytesOf, OpenOf, PipeOf, OutputText, ErrorText, Used, Bytes, Opened, Flag}
use Rattle.rk_feet.specs.Naming.{same_name, Naming, AreNamed, with_name}
use Rattle.rk_feet.specs.NamingLemmas.{clash, both, equal, name-is, named-more, named-added, kept-more}
use Rattle.rk_feet.specs.CellLemmas.{cells}
use Rattle.rk_feet.specs.Opening.{uses}
use Rattle.rk_feet.specs.World.{World, at, IsSource, IsOpen, opened_named, opened_in, pipe_in}
use Rattle.rk_feet.specs.Simulates.{Becomes}
use Rattle.rk_feet.proofs.OptionLemmas.{same-some, none-some}
use Rattle.rk_feet.specs.Named.{Pipe}
use Rattle.rk_feet.specs.World.{source_named}

pub right-false : (a b : Bool) → (a || b) ≡ false → b ≡ false
right-false true b h = absurd (clash true refl h)
right-false false b h = h

-- A mark that a step has made something.

module _ (w : World) (r s : ℕ) where
  abbrev pub mark-next : World
  mark-next = record w {
    used = λ x y. ((r == x) && (s == y)) || w.used x y;
    unused = λ x y p m e. w.unused x y p m (right-false ((r == x) && (s == y)) (w.used x y) e);
  }

  pub mark-holds : (p : Plain) → at mark-next (One p) ≡ written cells (uses r s ∷ []) p (at w (One p))
  mark-holds (EntryOf x y) = refl
  mark-holds (AboveOf x) = refl
  mark-holds (ModeOf x) = refl
  mark-holds (BytesOf x) = refl
  mark-holds (OpenOf x) = refl
  mark-holds (PipeOf x) = refl
  mark-holds OutputText = refl
  mark-holds ErrorText = refl
  mark-holds (Used x y) = go ((r == x) && (s == y))
    where
      go : (b : Bool) → Flag (b || w.used x y) ≡ (if b then Flag true else Flag (w.used x y))
      go true = refl
      go false = refl

  abbrev pub mark : Becomes w w.held (uses r s ∷ [])
  mark = record { next = mark-next; is = refl; holds = mark-holds; lasts = record { nodes = λ x n e. e; opens = λ x n e. e; pipes = λ x n e. e } }

  pub marked : mark-next.used r s ≡ true
  marked = ap₂ (λ a b. (a && b) || w.used r s) (equal r) (equal s)

-- what another step makes has another name
pub not-mine : (used : ℕ → ℕ → Bool) (r s p m t u q n : ℕ) → used r s ≡ true → used t u ≡ false → same_name (Made r s p m) (Made t u q n) ≡ false
not-mine used r s p m t u q n mine other = go (same_name (Made r s p m) (Made t u q n)) refl
  where
    go : (b : Bool) → same_name (Made r s p m) (Made t u q n) ≡ b → b ≡ false
    go false e = refl
    go true e =
        let one = both (r == t) _ e in
        let two = both (s == u) _ one.1 in
        absurd (clash (used t u) (ap₂ used (sym (eqb-true r t one.0)) (sym (eqb-true s u two.0)) ∙ mine) other)

pub unused-more :
    (it : Naming) (count : ℕ) (used : ℕ → ℕ → Bool) (r s p m t u q n : ℕ) → used r s ≡ true → used t u ≡ false → it.number_of (Made t u q n) ≡ None
    → (with_name it count (Made r s p m)).number_of (Made t u q n) ≡ None
unused-more it count used r s p m t u q n mine other none = ap (λ b. if b then Some count else it.number_of (Made t u q n))
    (not-mine used r s p m t u q n mine other) ∙ none

-- One more in a list.

pub get-last : {A : Type 0} (xs : List A) (y : A) → slice_get (xs ++ y ∷ []) (length xs) ≡ Some y
get-last [] y = refl
get-last (x ∷ xs) y = get-last xs y

pub get-before : {A : Type 0} (xs : List A) (y : A) (j : ℕ) → j < length xs → slice_get (xs ++ y ∷ []) j ≡ slice_get xs j
get-before [] y j h = absurd (omega arith)
get-before (x ∷ xs) y zero h = refl
get-before (x ∷ xs) y (suc j) h = get-before xs y j (omega arith)

pub length-more : {A : Type 0} (xs : List A) (y : A) → length (xs ++ y ∷ []) ≡ suc (length xs)
length-more [] y = refl
length-more (x ∷ xs) y = ap suc (length-more xs y)

pub more-all : {A : Type 0} (Q : A → Type 0) (xs : List A) (y : A) → Q y → ((k : ℕ) (x : A) → slice_get xs k ≡ Some x → Q x) → (k : ℕ) (x : A)
    → slice_get (xs ++ y ∷ []) k ≡ Some x → Q x
more-all Q [] y h all zero x e = subst Q (same-some y x e) h
more-all Q [] y h all (suc k) x e = absurd (none-some x e)
more-all Q (z ∷ xs) y h all zero x e = all zero x e
more-all Q (z ∷ xs) y h all (suc k) x e = more-all Q xs y h (λ k x e. all (suc k) x e) k x e

-- A description more.

module _ (w : World) (r s p m : ℕ) (d : opening.Description) (mine : w.used r s ≡ true) (free : w.opens.number_of (Made r s p m) ≡ None)
    (is : IsOpen w.held.tree w.held.pipes d) where
  abbrev pub open-next : World
  open-next = record w {
    held = with_open w.held d;
    opens = with_name w.opens (length w.held.opens) (Made r s p m);
    opens_named = subst (λ c. AreNamed c (with_name w.opens (length w.held.opens) (Made r s p m))) (sym (length-more w.held.opens d))
        (named-more (length w.held.opens) w.opens w.opens_named (Made r s p m) free);
    are_open = more-all (IsOpen w.held.tree w.held.pipes) w.held.opens d is w.are_open;
    unused = λ t u q n e. let old = w.unused t u q n e in (old.0, unused-more w.opens (length w.held.opens) w.used r s p m t u q n mine e old.1, old.2);
  }

  pub open-holds : (c : Plain) → at open-next (One c) ≡ written cells ((OpenOf (Made r s p m), Sets (Opened (opened_named w (Some d)))) ∷ []) c (at w (One c))
  open-holds (EntryOf x y) = refl
  open-holds (AboveOf x) = refl
  open-holds (ModeOf x) = refl
  open-holds (BytesOf x) = refl
  open-holds (OpenOf x) =
      named-added (length w.held.opens) w.opens w.opens_named (Made r s p m) (λ o. Opened (opened_in w o)) (λ o. Opened (opened_in open-next o))
      (Opened (opened_named w (Some d)))
      (ap (λ o. Opened (opened_named w o)) (get-last w.held.opens d)) (λ j h. ap (λ o. Opened (opened_named w o)) (get-before w.held.opens d j h)) refl x
  open-holds (PipeOf x) = refl
  open-holds OutputText = refl
  open-holds ErrorText = refl
  open-holds (Used x y) = refl

  abbrev pub add-open : Becomes w (with_open w.held d) ((OpenOf (Made r s p m), Sets (Opened (opened_named w (Some d)))) ∷ [])
  add-open = record {
    next = open-next;
    is = refl;
    holds = open-holds;
    lasts = record { nodes = λ x n e. e; opens = kept-more w.opens (length w.held.opens) (Made r s p m) free; pipes = λ x n e. e };
  }

-- A pipe more, which is empty.

module _ (w : World) (r s p m : ℕ) (mine : w.used r s ≡ true) (free : w.pipes.number_of (Made r s p m) ≡ None) where
  pub pipe-source : (s : reading.Source) → IsSource w.held.tree w.held.pipes s → IsSource w.held.tree (w.held.pipes ++ [] ∷ []) s
  pipe-source (source.Node n) h = h
  pipe-source (source.Pipe q) h = subst (λ c. q < c) (sym (length-more w.held.pipes [])) (below q (length w.held.pipes) h)
    where
      below : (q c : ℕ) → q < c → q < suc c
      below q c h = omega arith
  pipe-source source.Output h = h
  pipe-source source.ErrorText h = h
  pipe-source source.Nothing h = h

  abbrev pub pipe-more : World
  pipe-more = record w {
    held = record w.held { pipes = w.held.pipes ++ [] ∷ [] };
    pipes = with_name w.pipes (length w.held.pipes) (Made r s p m);
    pipes_named = subst (λ c. AreNamed c (with_name w.pipes (length w.held.pipes) (Made r s p m))) (sym (length-more w.held.pipes []))
        (named-more (length w.held.pipes) w.pipes w.pipes_named (Made r s p m) free);
    are_open = λ k d e. record { stands = pipe-source d.source (w.are_open k d e).stands; plain = (w.are_open k d e).plain };
    unused = λ t u q n e. let old = w.unused t u q n e in (old.0, old.1, unused-more w.pipes (length w.held.pipes) w.used r s p m t u q n mine e old.2);
  }

  -- a description that stands keeps its name
  pub opened-kept : (k : ℕ) (o : Option opening.Description) → slice_get w.held.opens k ≡ o → opened_named pipe-more o ≡ opened_named w o
  opened-kept k None is = refl
  opened-kept k (Some d) is = ap (λ s. Some
      (record { source = s; offset = if d.append then 0 else d.offset; read = d.read; write = d.write; append = d.append }))
      (go d.source (w.are_open k d is).stands)
    where
      apart : (q c : ℕ) → q < c → (q == c) ≡ false
      apart q c h = grind arith

      go : (s : reading.Source) → IsSource w.held.tree w.held.pipes s → source_named pipe-more s ≡ source_named w s
      go (source.Node n) h = refl
      go (source.Pipe q) h = ap (λ b. Pipe (if b then Made r s p m else w.pipes.name_of q)) (apart q (length w.held.pipes) h)
      go source.Output h = refl
      go source.ErrorText h = refl
      go source.Nothing h = refl

  pub pipe-more-holds : (c : Plain) → at pipe-more (One c) ≡ at w (One c)
  pipe-more-holds (EntryOf x y) = refl
  pipe-more-holds (AboveOf x) = refl
  pipe-more-holds (ModeOf x) = refl
  pipe-more-holds (BytesOf x) = refl
  pipe-more-holds (OpenOf x) = go (w.opens.number_of x)
    where
      go : (o : Option ℕ) → Opened (opened_in pipe-more o) ≡ Opened (opened_in w o)
      go None = refl
      go (Some k) = ap Opened (opened-kept k (slice_get w.held.opens k) refl)
  pipe-more-holds (PipeOf x) =
      named-added (length w.held.pipes) w.pipes w.pipes_named (Made r s p m) (λ o. Bytes (pipe_in w o)) (λ o. Bytes (pipe_in pipe-more o)) (Bytes [])
      (ap (λ o. Bytes (text_of o)) (get-last w.held.pipes [])) (λ j h. ap (λ o. Bytes (text_of o)) (get-before w.held.pipes [] j h)) refl x
      ∙ go (same_name (Made r s p m) x) refl
    where
      go : (b : Bool) → same_name (Made r s p m) x ≡ b → (if b then Bytes [] else at w (One (PipeOf x))) ≡ at w (One (PipeOf x))
      go true e = ap (λ o. Bytes (pipe_in w o)) (sym free ∙ ap w.pipes.number_of (name-is (Made r s p m) x e))
      go false e = refl
  pipe-more-holds OutputText = refl
  pipe-more-holds ErrorText = refl
  pipe-more-holds (Used x y) = refl

  abbrev pub add-pipe : Becomes w (record w.held { pipes = w.held.pipes ++ [] ∷ [] }) []
  add-pipe = record {
    next = pipe-more;
    is = refl;
    holds = pipe-more-holds;
    lasts = record { nodes = λ x n e. e; opens = λ x n e. e; pipes = kept-more w.pipes (length w.held.pipes) (Made r s p m) free };
  }
