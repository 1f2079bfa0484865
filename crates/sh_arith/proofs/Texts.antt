-- A text is read as the one expression that it is, or as far as its one fault.
use Rattle.std.proofs.Common.{◌≡◌, ℕ, zero, suc, ◌+◌, ◌≤◌, ◌<◌, List, [], ◌∷◌, ◌++◌, drop, length, length-drop, arith, refl, sym, ap, ◌∙◌, subst, ◌⊎◌, inl, inr}
use Rattle.std.specs.Prelude.{Bool, true, false, Option, Some, None}
use Rattle.std.proofs.lemmas.List.{append_assoc, append-nil}
use Rattle.rk_base.specs.Text.{Text}
use Rattle.sh_arith.specs.declared.token.Token.{Token}
use Rattle.sh_arith.specs.declared.token.Token.TheVariants as token
use Rattle.sh_arith.specs.declared.frame.Reader.TheVariants as reader
use Rattle.sh_arith.specs.declared.step.Instruction.{Instruction}
use Rattle.sh_arith.specs.Expression.{Expression}
use Rattle.sh_arith.specs.Grammar.{Spells, Continues, tokens_of, Is, Stops}
use Rattle.sh_arith.specs.Reading.{State, Turn, turn, ends_with, After}
use Rattle.sh_arith.specs.Steps.{steps}
use Rattle.sh_arith.specs.Tokens.{Placed, is_last, next_token, next_place, next_end, spaces, AreTokens}
use Rattle.sh_arith.proofs.Trees.{Wait, Place, Wanted, Stands, Bare, tree_of, Read, turned, standing, openings, state_of, read_state}
use Rattle.sh_arith.proofs.Simulates.{turned_state, simulates}
use Rattle.sh_arith.proofs.Sound.{Reached, at_start, reached_next, continues, refused, finished, spelled_once}
use Rattle.sh_arith.proofs.Lexing.{placed, next_within, tokens_once, then_tokens, last_token, next_tokens}

-- What is reached where a rest of a text is left at a place.
pub record Far (text rest : Text) (at : ℕ) (s : State) : Type 0 where
  pub before : List Placed
  pub place : Place
  pub waits : List Wait
  pub state : s ≡ state_of waits place
  pub reached : Reached (tokens_of before) place waits
  pub tokens : (ts : List Placed) → AreTokens at rest ts → AreTokens 0 text (before ++ ts)

pub far_start : (text : Text) → Far text text 0 (record { given = []; frames = []; reader = reader.Wants })
far_start text = record { before = []; place = Wanted; waits = []; state = refl; reached = at_start; tokens = λ ts h. h }

-- from the reader's states to trees

no_read : (o : Option Read) → read_state o ≡ None → o ≡ None
no_read None e = refl
no_read (Some r) e = absurd (cc)

some_read : (o : Option Read) (new : State) → read_state o ≡ Some new → (r : Read) × (o ≡ Some r) × (new ≡ state_of r.waits r.place)
some_read None new e = absurd (cc)
some_read (Some r) new e = (r, refl, (cc))

goes_state : (t : Option Turn) (old new : State) → After true old new t → turned_state old.given t ≡ Some new
goes_state None old new h = absurd h
goes_state (Some t) old new h = ap Some (sym h)

reads : (text rest : Text) (at : ℕ) (s : State) (f : Far text rest at s) (t : Token) → turned_state s.given (turn s.reader t s.frames) ≡ read_state (turned f.place t f.waits)
reads text rest at s f t = rw f.state (simulates f.place t f.waits)

refuses : (text rest : Text) (at : ℕ) (s : State) (f : Far text rest at s) (t : Token) → turn s.reader t s.frames ≡ None → turned f.place t f.waits ≡ None
refuses text rest at s f t q = no_read (turned f.place t f.waits) (sym (reads text rest at s f t) ∙ ap (turned_state s.given) q)

goes : (text rest : Text) (at : ℕ) (s new : State) (f : Far text rest at s) (t : Token) → After true s new (turn s.reader t s.frames) → (r : Read) × (turned f.place t f.waits ≡ Some r) × (new ≡ state_of r.waits r.place)
goes text rest at s new f t h = some_read (turned f.place t f.waits) new (sym (reads text rest at s f t) ∙ goes_state (turn s.reader t s.frames) s new h)

-- what is no token of C's is refused
isn't_odd : (p : Place) (t : Token) (ws : List Wait) (r : Read) → turned p t ws ≡ Some r → ends_with t ≡ false → is_last t ≡ false
isn't_odd Wanted token.Odd ws r q e = absurd (cc)
isn't_odd (Stands a) token.Odd ws r q e = absurd (cc)
isn't_odd (Bare n x) token.Odd ws r q e = absurd (cc)
isn't_odd p token.End ws r q e = absurd (cc)
isn't_odd p t ws r q e = refl

isn't_last : (text rest : Text) (at : ℕ) (s new : State) → Far text rest at s → After true s new (turn s.reader (next_token rest) s.frames) → ends_with (next_token rest) ≡ false → is_last (next_token rest) ≡ false
isn't_last text rest at s new f h e =
    let g = goes text rest at s new f (next_token rest) h in isn't_odd f.place (next_token rest) f.waits g.0 g.1 e

tokens_append : (before after : List Placed) → tokens_of (before ++ after) ≡ tokens_of before ++ tokens_of after
tokens_append [] after = refl
tokens_append (t ∷ ts) after = ap (λ l. t.token ∷ l) (tokens_append ts after)

-- a token is read
far_next : (text rest : Text) (at : ℕ) (s new : State) → Far text rest at s → After true s new (turn s.reader (next_token rest) s.frames) → ends_with (next_token rest) ≡ false → Far text (drop (next_end rest) rest) (at + next_end rest) new
far_next text rest at s new f h e =
    let g : (r : Read) × (turned f.place (next_token rest) f.waits ≡ Some r) × (new ≡ state_of r.waits r.place) = goes text rest at s new f (next_token rest) h in
    let p : Placed = placed (next_token rest) (next_place at rest) in
    record {
      before = f.before ++ p ∷ [];
      place = g.0.place;
      waits = g.0.waits;
      state = g.2;
      reached = subst (λ ts. Reached ts g.0.place g.0.waits) (sym (tokens_append f.before (p ∷ []))) (reached_next (tokens_of f.before) f.place f.waits (next_token rest) g.0 f.reached g.1 e);
      tokens = λ ts k. subst (AreTokens 0 text) (sym (append_assoc f.before (p ∷ []) ts)) (f.tokens (p ∷ ts) (then_tokens at rest ts (isn't_odd f.place (next_token rest) f.waits g.0 g.1 e) k));
    }

-- a token is refused
stops : (text rest : Text) (at : ℕ) (s : State) → Far text rest at s → turn s.reader (next_token rest) s.frames ≡ None → Stops text (next_place at rest)
stops text rest at s f q =
    let n : (ts : List Placed) × AreTokens at rest (placed (next_token rest) (next_place at rest) ∷ ts) = next_tokens at rest in
    (f.before, placed (next_token rest) (next_place at rest), n.0, f.tokens _ n.1, refl, continues (tokens_of f.before) f.place f.waits f.reached, refused (tokens_of f.before) f.place f.waits (next_token rest) f.reached (refuses text rest at s f (next_token rest) q))

-- the end is read
done : (text rest : Text) (at : ℕ) (s new : State) → Far text rest at s → After true s new (turn s.reader (next_token rest) s.frames) → next_token rest ≡ token.End → (x : Expression) × Is text x × (new.given ≡ steps x [])
done text rest at s new f h e =
    let g : (r : Read) × (turned f.place (next_token rest) f.waits ≡ Some r) × (new ≡ state_of r.waits r.place) = goes text rest at s new f (next_token rest) h in
    let q : turned f.place token.End f.waits ≡ Some g.0 = subst (λ t. turned f.place t f.waits ≡ Some g.0) e g.1 in
    let k : Spells (tree_of g.0.place) (tokens_of f.before ++ token.End ∷ []) × (openings g.0.waits (standing g.0.place) ≡ steps (tree_of g.0.place) []) = finished (tokens_of f.before) f.place f.waits g.0 f.reached q in
    let p : Placed = placed (next_token rest) (next_place at rest) in
    let same : tokens_of (f.before ++ p ∷ []) ≡ tokens_of f.before ++ token.End ∷ [] = tokens_append f.before (p ∷ []) ∙ ap (λ t. tokens_of f.before ++ t ∷ []) e in
    (tree_of g.0.place, (f.before ++ p ∷ [], f.tokens (p ∷ []) (last_token at rest (ap is_last e)), subst (Spells (tree_of g.0.place)) (sym same) k.0), ap (λ (s : State). s.given) g.2 ∙ k.1)

-- As the code tells it.

is_end : (t : Token) → ends_with t ≡ true → t ≡ token.End
is_end token.End e = refl
is_end t e = absurd (cc)

pub told_stops : (text rest : Text) (at : ℕ) (s new : State) (t : Token) (start : ℕ) (b : Bool) → Far text rest at s → t ≡ next_token rest → start ≡ spaces rest → After b s new (turn s.reader t s.frames) → b ≡ false → Stops text (at + start)
told_stops text rest at s new t start true f p q h e = absurd (cc)
told_stops text rest at s new t start false f p q h e =
    subst (λ n. Stops text (at + n)) (sym q) (stops text rest at s f (subst (λ u. turn s.reader u s.frames ≡ None) p h))

pub told_done : (text rest : Text) (at : ℕ) (s new : State) (t : Token) (b last : Bool) (given : List Instruction) → Far text rest at s → t ≡ next_token rest → After b s new (turn s.reader t s.frames) → b ≡ true → last ≡ ends_with t → last ≡ true → given ≡ new.given → (x : Expression) × Is text x × (given ≡ steps x [])
told_done text rest at s new t false last given f p h e l q g = absurd (cc)
told_done text rest at s new t true last given f p h e l q g =
    let d : (x : Expression) × Is text x × (new.given ≡ steps x []) = done text rest at s new f (subst (λ u. After true s new (turn s.reader u s.frames)) p h) (sym p ∙ is_end t (sym l ∙ q)) in
    (d.0, d.1, g ∙ d.2)

not_end : (rest : Text) (t : Token) (last : Bool) → t ≡ next_token rest → last ≡ ends_with t → last ≡ false → ends_with (next_token rest) ≡ false
not_end rest t last p l q = ap ends_with (sym p) ∙ sym l ∙ q

pub told_next : (text rest left : Text) (at end : ℕ) (s new : State) (t : Token) (b last : Bool) → Far text rest at s → t ≡ next_token rest → end ≡ next_end rest → After b s new (turn s.reader t s.frames) → b ≡ true → last ≡ ends_with t → last ≡ false → left ≡ drop end rest → Far text left (at + end) new
told_next text rest left at end s new t false last f p n h e l q d = absurd (cc)
told_next text rest left at end s new t true last f p n h e l q d =
    let k : Far text (drop (next_end rest) rest) (at + next_end rest) new = far_next text rest at s new f (subst (λ u. After true s new (turn s.reader u s.frames)) p h) (not_end rest t last p l q) in
    rw (d, n) k

pub told_shorter : (text rest left : Text) (at end : ℕ) (s new : State) (t : Token) (b last : Bool) → Far text rest at s → t ≡ next_token rest → end ≡ next_end rest → After b s new (turn s.reader t s.frames) → b ≡ true → last ≡ ends_with t → last ≡ false → left ≡ drop end rest → length left < length rest
told_shorter text rest left at end s new t false last f p n h e l q d = absurd (cc)
told_shorter text rest left at end s new t true last f p n h e l q d =
    let some : (1 ≤ next_end rest) × (next_end rest ≤ length rest) = next_within rest (isn't_last text rest at s new f (subst (λ u. After true s new (turn s.reader u s.frames)) p h) (not_end rest t last p l q)) in
    omega (arith, some.0, some.1, n, ap length d, length-drop end rest)

-- each text is read to its end, or to its fault
abbrev IsOr : Text → Type 0
IsOr text = ((x : Expression) × Is text x) ⊎ ((at : ℕ) × Stops text at)

read_from : (most : ℕ) (text rest : Text) (at : ℕ) (s : State) → length rest < most → Far text rest at s → IsOr text
read_from zero text rest at s le f = absurd (omega arith)
read_from (suc n) text rest at s le f = by (turn s.reader (next_token rest) s.frames) refl (ends_with (next_token rest)) refl (read_from n text (drop (next_end rest) rest) (at + next_end rest))
  where
    by : (t : Option Turn) → turn s.reader (next_token rest) s.frames ≡ t → (b : Bool) → ends_with (next_token rest) ≡ b → ((new : State) → length (drop (next_end rest) rest) < n → Far text (drop (next_end rest) rest) (at + next_end rest) new → IsOr text) → IsOr text
    by None q b e ih = inr (next_place at rest, stops text rest at s f q)
    by (Some t) q b e ih = last b e
      where
        new : State
        new = record { given = s.given ++ t.gives; frames = t.frames; reader = t.reader }

        goes_there : After true s new (turn s.reader (next_token rest) s.frames)
        goes_there = rw q refl

        last : (b : Bool) → ends_with (next_token rest) ≡ b → IsOr text
        last true e =
            let d : (x : Expression) × Is text x × (new.given ≡ steps x []) = done text rest at s new f goes_there (is_end (next_token rest) e) in inl (d.0, d.1)
        last false e =
            let some : (1 ≤ next_end rest) × (next_end rest ≤ length rest) = next_within rest (isn't_last text rest at s new f goes_there e) in
            ih new (omega (arith, some.0, some.1, length-drop (next_end rest) rest)) (far_next text rest at s new f goes_there e)

pub is_or : (text : Text) → IsOr text
is_or text = read_from (suc (length text)) text text 0 (record { given = []; frames = []; reader = reader.Wants }) (omega arith) (far_start text)

-- One expression, or one fault.

pub one_expression : (text : Text) (x y : Expression) → Is text x → Is text y → x ≡ y
one_expression text x y p q =
    let same : q.0 ≡ p.0 = tokens_once 0 text q.0 p.0 q.1 p.1 in
    spelled_once x y (tokens_of p.0) p.2 (subst (λ ts. Spells y (tokens_of ts)) same q.2)

begins : (x : Expression) (b : List Placed) (t : Placed) (m : List Placed) (after : List Token) → Spells x (tokens_of (b ++ t ∷ m) ++ after) → Continues (tokens_of b ++ t.token ∷ [])
begins x b t m after s =
    let e : tokens_of (b ++ t ∷ m) ++ after ≡ (tokens_of b ++ t.token ∷ []) ++ (tokens_of m ++ after) =
    ap (λ l. l ++ after) (tokens_append b (t ∷ m)) ∙ append_assoc (tokens_of b) (t.token ∷ tokens_of m) after ∙ sym (append_assoc (tokens_of b) (t.token ∷ []) (tokens_of m ++ after)) in
    (x, tokens_of m ++ after, subst (Spells x) e s)

pub not_both : (text : Text) (x : Expression) (at : ℕ) → Is text x → Stops text at → ⊥
not_both text x at p q =
    let same : p.0 ≡ q.0 ++ q.1 ∷ q.2 = tokens_once 0 text p.0 (q.0 ++ q.1 ∷ q.2) p.1 q.3 in
    let s : Spells x (tokens_of (q.0 ++ q.1 ∷ q.2)) = subst (λ ts. Spells x (tokens_of ts)) same p.2 in
    q.6 (begins x q.0 q.1 q.2 [] (subst (Spells x) (sym (append-nil (tokens_of (q.0 ++ q.1 ∷ q.2)))) s))

split : (b c : List Placed) (t u : Placed) (a d : List Placed) → b ++ t ∷ a ≡ c ++ u ∷ d → (t ≡ u) ⊎ (((m : List Placed) × (c ≡ b ++ t ∷ m)) ⊎ ((m : List Placed) × (b ≡ c ++ u ∷ m)))
split [] [] t u a d e = inl (cc)
split [] (y ∷ c) t u a d e = inr (inl (c, (cc)))
split (x ∷ b) [] t u a d e = inr (inr (b, (cc)))
split (x ∷ b) (y ∷ c) t u a d e =
    let h : x ≡ y = cc in
    let k : b ++ t ∷ a ≡ c ++ u ∷ d = cc in
    elim (split b c t u a d k) [
      | inl s ↦ inl s
      | inr s ↦ elim s [
        | inl m ↦ let n : c ≡ b ++ t ∷ m.0 = m.1 in inr (inl (m.0, (cc)))
        | inr m ↦ let n : b ≡ c ++ u ∷ m.0 = m.1 in inr (inr (m.0, (cc)))
      ]
    ]

-- a fault isn't before another
isn't_before : (b c : List Placed) (t : Placed) (m : List Placed) → c ≡ b ++ t ∷ m → Continues (tokens_of c) → (Continues (tokens_of b ++ t.token ∷ []) → ⊥) → ⊥
isn't_before b c t m e k never = never (begins k.0 b t m k.1 (subst (λ ts. Spells k.0 (tokens_of ts ++ k.1)) e k.2))

pub one_fault : (text : Text) (i j : ℕ) → Stops text i → Stops text j → i ≡ j
one_fault text i j p q =
    elim (split p.0 q.0 p.1 q.1 p.2 q.2 (tokens_once 0 text (p.0 ++ p.1 ∷ p.2) (q.0 ++ q.1 ∷ q.2) p.3 q.3)) [
      | inl s ↦ sym p.4 ∙ ap (λ (t : Placed). t.at) s ∙ q.4
      | inr s ↦ elim s [
        | inl m ↦ absurd (isn't_before p.0 q.0 p.1 m.0 m.1 q.5 p.6)
        | inr m ↦ absurd (isn't_before q.0 p.0 q.1 m.0 m.1 p.5 q.6)
      ]
    ]
