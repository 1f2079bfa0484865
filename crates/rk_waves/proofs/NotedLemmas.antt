-- A table tells a piece more, once it is noted.
use Rattle.std.proofs.Common.{◌≡◌, ℕ, zero, suc, ◌≤◌, ◌<◌, List, [], ◌∷◌, length, Bool, true, false, not, ◌&&◌, ◌||◌, Option, Some, None, refl, sym, ◌∙◌, ap}
use Rattle.std.proofs.Common.{ap₂, subst, arith}
use Rattle.std.proofs.Common.{◌++◌}
use Rattle.std.proofs.lemmas.List.{append-nil, drop_all}
use Rattle.std.specs.Prelude.{map, replicate, drop, max, ◌==◌, if◌then◌else◌, slice_get, slice_set}
use Rattle.std.specs.Option.{option_map}
use Rattle.std.proofs.lemmas.Bool.{eqb-true, eq-eqb}
use Rattle.rk_waves.specs.declared.greatest.Greatest.{Greatest}
use Rattle.rk_waves.specs.declared.greatest.CellWaves.{CellWaves}
use Rattle.rk_waves.specs.Pieces.{Piece, Placed, has, wave_of, with_piece, waves_after}
use Rattle.rk_waves.specs.Table.{Table, but, with_wave, read_in, written_in, gathers_in, number_in, with_read, with_written, changed_in, changed, all_changed}
use Rattle.rk_waves.specs.Table.{least, noted, waves_by, none, fresh_cell}
use Rattle.rk_waves.specs.Tells.{wave_by, Tells, AllBelow, Fits, AllFit, is_so, gathers_by}
use Rattle.rk_waves.proofs.GreatestLemmas.{with-but, with-ordered}
use Rattle.rk_waves.proofs.LeastLemmas.{least-is}

zero-max : (n : ℕ) → n ≡ max 0 n
zero-max n = omega arith

get-same : {A : Type 0} (xs : List A) (d : ℕ) (y : A) → d < length xs → slice_get (slice_set xs d y) d ≡ Some y
get-same [] d y h = absurd (omega arith)
get-same (x ∷ xs) zero y h = refl
get-same (x ∷ xs) (suc d) y h = get-same xs d y (omega arith)

get-other : {A : Type 0} (xs : List A) (d c : ℕ) (y : A) → (d ≡ c → ⊥) → slice_get (slice_set xs d y) c ≡ slice_get xs c
get-other [] d c y h = refl
get-other (x ∷ xs) zero zero y h = absurd (h refl)
get-other (x ∷ xs) zero (suc c) y h = refl
get-other (x ∷ xs) (suc d) zero y h = refl
get-other (x ∷ xs) (suc d) (suc c) y h = get-other xs d c y (λ e. h (ap suc e))

clash : (b : Bool) → b ≡ true → b ≡ false → ⊥
clash b t f = cc

get-set : {A : Type 0} (xs : List A) (d c : ℕ) (y : A) → d < length xs → slice_get (slice_set xs d y) c ≡ (if d == c then Some y else slice_get xs c)
get-set xs d c y h = go (d == c) refl
  where
    go : (b : Bool) → (d == c) ≡ b → slice_get (slice_set xs d y) c ≡ (if b then Some y else slice_get xs c)
    go true e = ap (slice_get (slice_set xs d y)) (sym (eqb-true d c e)) ∙ get-same xs d y h
    go false e = get-other xs d c y (λ same. clash (d == c) (eq-eqb d c same) e)

length-set : {A : Type 0} (xs : List A) (d : ℕ) (y : A) → length (slice_set xs d y) ≡ length xs
length-set [] d y = refl
length-set (x ∷ xs) zero y = refl
length-set (x ∷ xs) (suc d) y = ap suc (length-set xs d y)

some-within : {A : Type 0} (xs : List A) (d : ℕ) → d < length xs → (x : A) × (slice_get xs d ≡ Some x)
some-within [] d h = absurd (omega arith)
some-within (x ∷ xs) zero h = (x, refl)
some-within (x ∷ xs) (suc d) h = some-within xs d (omega arith)

length-changed : (f : CellWaves → CellWaves) (cells : List CellWaves) (d : ℕ) (o : Option CellWaves) → length (changed_in f cells d o) ≡ length cells
length-changed f cells d None = refl
length-changed f cells d (Some it) = length-set cells d (f it)

length-all : (f : CellWaves → CellWaves) (cells : List CellWaves) (cs : List ℕ) → length (all_changed f cells cs) ≡ length cells
length-all f cells [] = refl
length-all f cells (d ∷ cs) = length-all f (changed f cells d) cs ∙ length-changed f cells d (slice_get cells d)

get-changed : (f : CellWaves → CellWaves) (cells : List CellWaves) (d c : ℕ) → d < length cells
    → slice_get (changed f cells d) c ≡ (if d == c then option_map f (slice_get cells d) else slice_get cells c)
get-changed f cells d c h =
    let it = some-within cells d h in
    ap (λ o. slice_get (changed_in f cells d o) c) it.1 ∙ get-set cells d c (f it.0) h
    ∙ ap (λ o. if d == c then option_map f o else slice_get cells c) (sym it.1)

-- what is seen of a cell, where one is changed
module _ {V : Type 0} (f : CellWaves → CellWaves) (see : Option CellWaves → V) where
  -- what a change keeps
  keeps-all : ((o : Option CellWaves) → see (option_map f o) ≡ see o) → (cells : List CellWaves) (cs : List ℕ) (c : ℕ) → AllBelow (length cells) cs
      → see (slice_get (all_changed f cells cs) c) ≡ see (slice_get cells c)
  keeps-all keeps cells [] c h = refl
  keeps-all keeps cells (d ∷ cs) c h =
      keeps-all keeps (changed f cells d) cs c (subst (λ n. AllBelow n cs) (sym (length-changed f cells d (slice_get cells d))) h.1)
      ∙ ap see (get-changed f cells d c h.0) ∙ go (d == c) refl
    where
      go : (b : Bool) → (d == c) ≡ b → see (if b then option_map f (slice_get cells d) else slice_get cells c) ≡ see (slice_get cells c)
      go true e = keeps (slice_get cells d) ∙ ap (λ n. see (slice_get cells n)) (eqb-true d c e)
      go false e = refl

-- the greatest waves in a cell
abbrev Ordered : (Option CellWaves → Greatest) → List CellWaves → Type 0
Ordered see cells = (c : ℕ) → (see (slice_get cells c)).next ≤ (see (slice_get cells c)).after

module _ (f : CellWaves → CellWaves) (see : Option CellWaves → Greatest) (o a : ℕ)
    (sees : (it : CellWaves) → see (Some (f it)) ≡ with_wave (see (Some it)) o a) where
  ordered-one : (cells : List CellWaves) (d : ℕ) → d < length cells → Ordered see cells → Ordered see (changed f cells d)
  ordered-one cells d h ord c = subst (λ x. (see x).next ≤ (see x).after) (sym (get-changed f cells d c h)) (go (d == c))
    where
      it : (x : CellWaves) × (slice_get cells d ≡ Some x)
      it = some-within cells d h

      go : (b : Bool) → (see (if b then option_map f (slice_get cells d) else slice_get cells c)).next ≤
          (see (if b then option_map f (slice_get cells d) else slice_get cells c)).after
      go true =
          subst (λ x. (see (option_map f x)).next ≤ (see (option_map f x)).after) (sym it.1)
          (subst (λ g. g.next ≤ g.after) (sym (sees it.0)) (with-ordered (see (Some it.0)) o a (subst (λ x. (see x).next ≤ (see x).after) it.1 (ord d))))
      go false = ord c

  ordered-all : (cells : List CellWaves) (cs : List ℕ) → AllBelow (length cells) cs → Ordered see cells → Ordered see (all_changed f cells cs)
  ordered-all cells [] h ord = ord
  ordered-all cells (d ∷ cs) h ord = ordered-all (changed f cells d) cs (subst (λ n. AllBelow n cs) (sym (length-changed f cells d (slice_get cells d))) h.1)
      (ordered-one cells d h.0 ord)

  but-one : (cells : List CellWaves) (d c x : ℕ) → d < length cells → Ordered see cells
      → but (see (slice_get (changed f cells d) c)) x ≡ max (if (d == c) && not (o == x) then a else 0) (but (see (slice_get cells c)) x)
  but-one cells d c x h ord = ap (λ z. but (see z) x) (get-changed f cells d c h) ∙ go (d == c) refl
    where
      it : (x : CellWaves) × (slice_get cells d ≡ Some x)
      it = some-within cells d h

      go : (b : Bool) → (d == c) ≡ b → but (see (if b then option_map f (slice_get cells d) else slice_get cells c)) x
          ≡ max (if b && not (o == x) then a else 0) (but (see (slice_get cells c)) x)
      go true e =
          ap (λ z. but (see (option_map f z)) x) it.1 ∙ ap (λ g. but g x) (sees it.0)
          ∙ with-but (see (Some it.0)) o a x (subst (λ z. (see z).next ≤ (see z).after) it.1 (ord d))
          ∙ ap (λ z. max (if not (o == x) then a else 0) (but (see z) x)) (sym it.1)
          ∙ ap (λ n. max (if not (o == x) then a else 0) (but (see (slice_get cells n)) x)) (eqb-true d c e)
      go false e = zero-max (but (see (slice_get cells c)) x)

  twice : (p q r : Bool) (y : ℕ) → max (if q && not r then a else 0) (max (if p && not r then a else 0) y) ≡ max (if (p || q) && not r then a else 0) y
  twice p q r y = grind arith

  but-all : (cells : List CellWaves) (cs : List ℕ) (c x : ℕ) → AllBelow (length cells) cs → Ordered see cells
      → but (see (slice_get (all_changed f cells cs) c)) x ≡ max (if has cs c && not (o == x) then a else 0) (but (see (slice_get cells c)) x)
  but-all cells [] c x h ord = zero-max (but (see (slice_get cells c)) x)
  but-all cells (d ∷ cs) c x h ord =
      but-all (changed f cells d) cs c x (subst (λ n. AllBelow n cs) (sym (length-changed f cells d (slice_get cells d))) h.1) (ordered-one cells d h.0 ord)
      ∙ ap (max (if has cs c && not (o == x) then a else 0)) (but-one cells d c x h.0 ord)
      ∙ twice (d == c) (has cs c) (o == x) (but (see (slice_get cells c)) x)

-- Noting a piece.

read-kept : (o a : ℕ) (it : Option CellWaves) → read_in (option_map (with_written o a) it) ≡ read_in it
read-kept o a None = refl
read-kept o a (Some it) = refl

written-kept : (o a : ℕ) (it : Option CellWaves) → written_in (option_map (with_read o a) it) ≡ written_in it
written-kept o a None = refl
written-kept o a (Some it) = refl

gathers-read : (o a : ℕ) (it : Option CellWaves) → gathers_in (option_map (with_read o a) it) ≡ gathers_in it
gathers-read o a None = refl
gathers-read o a (Some it) = refl

gathers-written : (o a : ℕ) (it : Option CellWaves) → gathers_in (option_map (with_written o a) it) ≡ gathers_in it
gathers-written o a None = refl
gathers-written o a (Some it) = refl

module _ (gathers : ℕ → Bool) (earlier : List Placed) (t : Table) (tells : Tells gathers earlier t) (p : Piece)
    (fits : Fits (length t.commands) (length t.cells) p) (wave : ℕ) (above : wave_by earlier p.owner ≤ wave) where
  abbrev middle : List CellWaves
  middle = all_changed (with_read p.owner (suc wave)) t.cells p.reads

  abbrev now : List CellWaves
  now = all_changed (with_written p.owner (suc wave)) middle p.writes

  middle-length : length middle ≡ length t.cells
  middle-length = length-all (with_read p.owner (suc wave)) t.cells p.reads

  now-length : length now ≡ length t.cells
  now-length = length-all (with_written p.owner (suc wave)) middle p.writes ∙ middle-length

  writes-below : AllBelow (length middle) p.writes
  writes-below = subst (λ n. AllBelow n p.writes) (sym middle-length) fits.writes

  read-ordered : Ordered read_in t.cells
  read-ordered c = tells.ordered_read c

  written-ordered : Ordered written_in t.cells
  written-ordered c = tells.ordered_written c

  middle-written : (c : ℕ) → written_in (slice_get middle c) ≡ written_in (slice_get t.cells c)
  middle-written c = keeps-all (with_read p.owner (suc wave)) written_in (written-kept p.owner (suc wave)) t.cells p.reads c fits.reads

  now-read : (c : ℕ) → read_in (slice_get now c) ≡ read_in (slice_get middle c)
  now-read c = keeps-all (with_written p.owner (suc wave)) read_in (read-kept p.owner (suc wave)) middle p.writes c writes-below

  middle-ordered : Ordered written_in middle
  middle-ordered c = subst (λ g. g.next ≤ g.after) (sym (middle-written c)) (written-ordered c)

  commands-tell : (x : ℕ) → x < length (slice_set t.commands p.owner wave)
      → number_in (slice_get (slice_set t.commands p.owner wave) x) ≡ max (if p.owner == x then wave else 0) (wave_by earlier x)
  commands-tell x h = ap number_in (get-set t.commands p.owner x wave fits.owner) ∙ go (p.owner == x) refl
    where
      go : (b : Bool) → (p.owner == x) ≡ b → number_in (if b then Some wave else slice_get t.commands x) ≡ max (if b then wave else 0) (wave_by earlier x)
      go true e = let k : wave_by earlier x ≤ wave = subst (λ n. wave_by earlier n ≤ wave) (eqb-true p.owner x e) above in omega arith
      go false e = tells.commands x (subst (λ n. x < n) (length-set t.commands p.owner wave) h) ∙ zero-max (wave_by earlier x)

  pub noted-tells : Tells gathers (record { wave = wave; piece = p } ∷ earlier) (noted t p wave)
  noted-tells = record {
    commands = commands-tell;
    read = λ c x h.
        ap (λ g. but g x) (now-read c)
        ∙ but-all (with_read p.owner (suc wave)) read_in p.owner (suc wave) (λ it. refl) t.cells p.reads c x fits.reads read-ordered
        ∙ ap (max (if has p.reads c && not (p.owner == x) then suc wave else 0)) (tells.read c x (subst (λ n. c < n) now-length h));
    written = λ c x h.
        but-all (with_written p.owner (suc wave)) written_in p.owner (suc wave) (λ it. refl) middle p.writes c x writes-below middle-ordered
        ∙ ap (λ g. max (if has p.writes c && not (p.owner == x) then suc wave else 0) (but g x)) (middle-written c)
        ∙ ap (max (if has p.writes c && not (p.owner == x) then suc wave else 0)) (tells.written c x (subst (λ n. c < n) now-length h));
    gathering = λ c h.
        keeps-all (with_written p.owner (suc wave)) gathers_in (gathers-written p.owner (suc wave)) middle p.writes c writes-below
        ∙ keeps-all (with_read p.owner (suc wave)) gathers_in (gathers-read p.owner (suc wave)) t.cells p.reads c fits.reads
        ∙ tells.gathering c (subst (λ n. c < n) now-length h);
    ordered_read = λ c. subst (λ g. g.next ≤ g.after) (sym (now-read c))
        (ordered-all (with_read p.owner (suc wave)) read_in p.owner (suc wave) (λ it. refl) t.cells p.reads fits.reads read-ordered c);
    ordered_written = ordered-all (with_written p.owner (suc wave)) written_in p.owner (suc wave) (λ it. refl) middle p.writes writes-below middle-ordered;
  }

own-above : (gathers : ℕ → Bool) (earlier : List Placed) (t : Table) → Tells gathers earlier t → (p : Piece) → Fits (length t.commands) (length t.cells) p
    → wave_by earlier p.owner ≤ least t p
own-above gathers earlier t tells p fits = let e : number_in (slice_get t.commands p.owner)
    ≡ wave_by earlier p.owner = tells.commands p.owner fits.owner in omega arith

pub waves-are :
    (gathers : ℕ → Bool) (earlier : List Placed) (t : Table) → Tells gathers earlier t → (ps : List Piece) → AllFit (length t.commands) (length t.cells) ps
    → waves_by t ps ≡ waves_after gathers earlier ps
waves-are gathers earlier t tells [] fit = refl
waves-are gathers earlier t tells (p ∷ ps) fit =
    ap₂ (λ w ws. w ∷ ws) is
    (waves-are gathers (record { wave = least t p; piece = p } ∷ earlier) (noted t p (least t p))
    (noted-tells gathers earlier t tells p fit.0 (least t p) (own-above gathers earlier t tells p fit.0)) ps
    (subst (λ n. AllFit n (length (noted t p (least t p)).cells) ps) (sym (length-set t.commands p.owner (least t p)))
    (subst (λ n. AllFit (length t.commands) n ps) (sym (now-length gathers earlier t tells p fit.0 (least t p) (own-above gathers earlier t tells p fit.0)))
    fit.1))
    ∙ ap (λ w. waves_after gathers (record { wave = w; piece = p } ∷ earlier) ps) is)
  where
    is : least t p ≡ wave_of gathers earlier p
    is = least-is gathers earlier t tells p fit.0

-- The table of no pieces.

fresh-get : (gathers : List Bool) (c : ℕ) → slice_get (map fresh_cell gathers) c ≡ option_map fresh_cell (slice_get gathers c)
fresh-get [] c = refl
fresh-get (g ∷ gs) zero = refl
fresh-get (g ∷ gs) (suc c) = fresh-get gs c

length-fresh : (gathers : List Bool) → length (map fresh_cell gathers) ≡ length gathers
length-fresh [] = refl
length-fresh (g ∷ gs) = ap suc (length-fresh gs)

zeros-get : (n o : ℕ) → number_in (slice_get (replicate n 0) o) ≡ 0
zeros-get zero o = refl
zeros-get (suc n) zero = refl
zeros-get (suc n) (suc o) = zeros-get n o

length-zeros : (n : ℕ) → length {A = ℕ} (replicate n 0) ≡ n
length-zeros zero = refl
length-zeros (suc n) = ap suc (length-zeros n)

both-zero : (b : Bool) → ◌≡◌ {A = ℕ} (if b then 0 else 0) 0
both-zero true = refl
both-zero false = refl

fresh-read : (o : Option Bool) → read_in (option_map fresh_cell o) ≡ none
fresh-read None = refl
fresh-read (Some b) = refl

fresh-written : (o : Option Bool) → written_in (option_map fresh_cell o) ≡ none
fresh-written None = refl
fresh-written (Some b) = refl

fresh-gathers : (o : Option Bool) → gathers_in (option_map fresh_cell o) ≡ is_so o
fresh-gathers None = refl
fresh-gathers (Some b) = refl

fresh-tells : (gathers : List Bool) (commands : ℕ) → Tells (gathers_by gathers) [] (record { cells = map fresh_cell gathers; commands = replicate commands 0 })
fresh-tells gathers commands = record {
  commands = λ o h. zeros-get commands o;
  read = λ c o h. ap (λ z. but (read_in z) o) (fresh-get gathers c) ∙ ap (λ g. but g o) (fresh-read (slice_get gathers c)) ∙ both-zero (0 == o);
  written = λ c o h. ap (λ z. but (written_in z) o) (fresh-get gathers c) ∙ ap (λ g. but g o) (fresh-written (slice_get gathers c)) ∙ both-zero (0 == o);
  gathering = λ c h. ap gathers_in (fresh-get gathers c) ∙ fresh-gathers (slice_get gathers c);
  ordered_read = λ c. subst (λ g. g.next ≤ g.after) (sym (ap read_in (fresh-get gathers c) ∙ fresh-read (slice_get gathers c))) (omega arith);
  ordered_written = λ c. subst (λ g. g.next ≤ g.after) (sym (ap written_in (fresh-get gathers c) ∙ fresh-written (slice_get gathers c))) (omega arith);
}

-- what a table is told of, by its parts

pub fresh-told :
    (gathers : List Bool) (commands : ℕ) (cells : List CellWaves) (waves : List ℕ) → cells ≡ map fresh_cell gathers → waves ≡ replicate commands 0
    → Tells (gathers_by gathers) [] (record { cells = cells; commands = waves })
fresh-told gathers commands cells waves e f =
    subst (λ ws. Tells (gathers_by gathers) [] (record { cells = cells; commands = ws })) (sym f)
    (subst (λ cs. Tells (gathers_by gathers) [] (record { cells = cs; commands = replicate commands 0 })) (sym e) (fresh-tells gathers commands))

pub fresh-lengths : (gathers : List Bool) (commands : ℕ) (cells : List CellWaves) (waves : List ℕ) → cells ≡ map fresh_cell gathers
    → waves ≡ replicate commands 0
    → (length cells ≡ length gathers) × (length waves ≡ commands)
fresh-lengths gathers commands cells waves e f = (ap length e ∙ length-fresh gathers, ap length f ∙ length-zeros commands)

pub told-wave :
    (gathers : ℕ → Bool) (earlier : List Placed) (t : Table) → Tells gathers earlier t → (p : Piece) → Fits (length t.commands) (length t.cells) p
    → (wave : ℕ) → wave ≡ least t p → wave ≡ wave_of gathers earlier p
told-wave gathers earlier t tells p fits wave is = is ∙ least-is gathers earlier t tells p fits

pub told-after :
    (gathers : ℕ → Bool) (earlier : List Placed) (t : Table) → Tells gathers earlier t → (p : Piece) → Fits (length t.commands) (length t.cells) p
    → (after : Table) → after ≡ noted t p (least t p) → Tells gathers (with_piece gathers earlier p) after
told-after gathers earlier t tells p fits after is =
    subst (Tells gathers (with_piece gathers earlier p)) (sym is)
    (subst (λ wave. Tells gathers (record { wave = wave; piece = p } ∷ earlier) (noted t p (least t p))) (least-is gathers earlier t tells p fits)
    (noted-tells gathers earlier t tells p fits (least t p) (own-above gathers earlier t tells p fits)))

pub noted-lengths : (t : Table) (p : Piece) (wave : ℕ) (after : Table) → after ≡ noted t p wave
    → (length after.cells ≡ length t.cells) × (length after.commands ≡ length t.commands)
noted-lengths t p wave after is = (
  ap (λ x. length x.cells) is
      ∙ length-all (with_written p.owner (suc wave)) (all_changed (with_read p.owner (suc wave)) t.cells p.reads) p.writes
      ∙ length-all (with_read p.owner (suc wave)) t.cells p.reads,
  ap (λ x. length x.commands) is ∙ length-set t.commands p.owner wave,
)

pub waves-done :
    (gathers : List Bool) (commands : ℕ) (ps : List Piece) (ws : List ℕ) (t0 t1 : Table) (i : ℕ) → length ps ≤ i
    → ws ++ waves_by t1 (drop i ps) ≡ waves_by t0 ps → t0 ≡ record { cells = map fresh_cell gathers; commands = replicate commands 0 }
    → AllFit commands (length gathers) ps → ws ≡ waves_after (gathers_by gathers) [] ps
waves-done gathers commands ps ws t0 t1 i past all is fit =
    sym (append-nil ws) ∙ ap (λ l. ws ++ waves_by t1 l) (sym (drop_all i ps past)) ∙ all ∙ ap (λ t. waves_by t ps) is
    ∙ waves-are (gathers_by gathers) [] (record { cells = map fresh_cell gathers; commands = replicate commands 0 }) (fresh-tells gathers commands) ps
    (subst (λ n. AllFit n (length (map fresh_cell gathers)) ps) (sym (length-zeros commands))
    (subst (λ n. AllFit commands n ps) (sym (length-fresh gathers)) fit))
