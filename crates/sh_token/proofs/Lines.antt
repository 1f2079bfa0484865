-- Lines and bodies of here-documents, piece by piece.
use Rattle.std.proofs.Common.{◌≡◌, ◌≤◌, ℕ, suc, ◌+◌, List, [], ◌∷◌, Bool, true, false, Option, Some, None, refl, sym, ap, ◌∙◌, subst, arith, drop, length, length-drop}
use Rattle.std.specs.Prelude.{if◌then◌else◌, ◌==◌}
use Rattle.sh_token.specs.declared.body.Piece.{Piece}
use Rattle.sh_token.specs.declared.body.Piece.TheVariants as pc
use Rattle.sh_token.specs.Bytes.{◌also◌, not_so}
use Rattle.sh_token.specs.HereDocuments.{Awaited, closes, one_piece, piece, counted_line, line, more_by, counted_body, body}

-- a piece is at the end only where nothing is left, and a pair only where two bytes are
abbrev Not : Piece → Piece → Type 0
Not x y = y ≡ x → ⊥

not_if : (x : Piece) (b : Bool) (y z : Piece) → Not x y → Not x z → Not x (if b then y else z)
not_if x true y z f g = f
not_if x false y z f g = g

one_not_end : (literal : Bool) (c : ℕ) → Not pc.End (one_piece literal c)
one_not_end literal c = not_if pc.End (c == 10) _ _ (λ e. cc) (not_if pc.End (literal also c == 0) _ _ (λ e. cc) (λ e. cc))

one_not_pair : (literal : Bool) (c : ℕ) → Not pc.Pair (one_piece literal c)
one_not_pair literal c = not_if pc.Pair (c == 10) _ _ (λ e. cc) (not_if pc.Pair (literal also c == 0) _ _ (λ e. cc) (λ e. cc))

pub at_end : (literal : Bool) (ts : List ℕ) → piece literal ts ≡ pc.End → ts ≡ []
at_end literal [] h = refl
at_end literal (c ∷ []) h = absurd (one_not_end literal c h)
at_end literal (c ∷ (d ∷ cs)) h = absurd (not_if pc.End (not_so literal also c == 92) _ _ (λ e. cc) (one_not_end literal c) h)

pub has_pair : (literal : Bool) (ts : List ℕ) → piece literal ts ≡ pc.Pair → 2 ≤ length ts
has_pair literal [] h = cc
has_pair literal (c ∷ []) h = absurd (one_not_pair literal c h)
has_pair literal (c ∷ (d ∷ cs)) h = omega arith

-- any other piece is a byte
abbrev OneByte : Piece → Type 0
OneByte pc.End = ⊥
OneByte pc.Newline = Unit {0}
OneByte pc.Nul = Unit {0}
OneByte pc.Byte = Unit {0}
OneByte pc.Pair = ⊥

pub has_byte : (literal : Bool) (ts : List ℕ) (x : Piece) → piece literal ts ≡ x → OneByte x → 1 ≤ length ts
has_byte literal [] x h o = let e : pc.End ≡ x = h in absurd (subst OneByte (sym e) o)
has_byte literal (c ∷ cs) x h o = omega arith

-- so many bytes of a line went by
pub record Lined (literal : Bool) (whole rest : List ℕ) (count : ℕ) : Type 0 where
  pub same : line literal whole ≡ count + line literal rest
  pub counts : count + length rest ≡ length whole

pub line_begins : (literal : Bool) (whole : List ℕ) → Lined literal whole whole 0
line_begins literal whole = record { same = omega arith; counts = omega arith }

pub line_newline : (literal : Bool) (ts : List ℕ) → piece literal ts ≡ pc.Newline → line literal ts ≡ 1
line_newline literal [] h = cc
line_newline literal (c ∷ []) h = refl
line_newline literal (c ∷ (d ∷ cs)) h = ap (λ x. counted_line x (line literal (d ∷ cs)) (line literal cs)) h

line_one : (literal : Bool) (ts : List ℕ) (x : Piece) → piece literal ts ≡ x → ((one two : ℕ) → counted_line x one two ≡ suc one) → OneByte x → line literal ts ≡ suc (line literal (drop 1 ts))
line_one literal [] x h f o = let e : pc.End ≡ x = h in absurd (subst OneByte (sym e) o)
line_one literal (c ∷ []) x h f o = refl
line_one literal (c ∷ (d ∷ cs)) x h f o = ap (λ x. counted_line x (line literal (d ∷ cs)) (line literal cs)) h ∙ f (line literal (d ∷ cs)) (line literal cs)

line_two : (literal : Bool) (ts : List ℕ) → piece literal ts ≡ pc.Pair → line literal ts ≡ suc (suc (line literal (drop 2 ts)))
line_two literal [] h = cc
line_two literal (c ∷ []) h = absurd (one_not_pair literal c h)
line_two literal (c ∷ (d ∷ cs)) h = ap (λ x. counted_line x (line literal (d ∷ cs)) (line literal cs)) h

pub line_byte : (literal : Bool) (whole rest : List ℕ) (n : ℕ) → Lined literal whole rest n → piece literal rest ≡ pc.Byte → Lined literal whole (drop 1 rest) (n + 1)
line_byte literal whole rest n h e = record {
  same = omega (arith, h.same, line_one literal rest pc.Byte e (λ a b. refl) tt);
  counts = omega (arith, h.counts, has_byte literal rest pc.Byte e tt, length-drop 1 rest);
}

pub line_nul : (literal : Bool) (whole rest : List ℕ) (n : ℕ) → Lined literal whole rest n → piece literal rest ≡ pc.Nul → Lined literal whole (drop 1 rest) (n + 1)
line_nul literal whole rest n h e = record {
  same = omega (arith, h.same, line_one literal rest pc.Nul e (λ a b. refl) tt);
  counts = omega (arith, h.counts, has_byte literal rest pc.Nul e tt, length-drop 1 rest);
}

pub line_pair : (literal : Bool) (whole rest : List ℕ) (n : ℕ) → Lined literal whole rest n → piece literal rest ≡ pc.Pair → Lined literal whole (drop 2 rest) (n + 2)
line_pair literal whole rest n h e = record {
  same = omega (arith, h.same, line_two literal rest e);
  counts = omega (arith, h.counts, has_pair literal rest e, length-drop 2 rest);
}

pub line_over : (literal : Bool) (whole rest : List ℕ) (n : ℕ) → Lined literal whole rest n → piece literal rest ≡ pc.End → n ≡ line literal whole
line_over literal whole rest n h e = omega (arith, h.same, ap (line literal) (at_end literal rest e))

-- so many bytes of a body went by
pub record Searched (d : Awaited) (whole : List ℕ) (begins : Bool) (rest : List ℕ) (count : ℕ) : Type 0 where
  pub same : body d true whole ≡ more_by count (body d begins rest)
  pub counts : count + length rest ≡ length whole

more_more : (a b : ℕ) (x : Option ℕ) → more_by a (more_by b x) ≡ more_by (a + b) x
more_more a b None = refl
more_more a b (Some n) = let e : a + (b + n) ≡ (a + b) + n = omega arith in ap Some e

more_none : (x : Option ℕ) → x ≡ more_by 0 x
more_none None = refl
more_none (Some n) = let e : n ≡ 0 + n = omega arith in ap Some e

no_more : (n : ℕ) → n + 0 ≡ n
no_more n = omega arith

pub body_begins : (d : Awaited) (whole : List ℕ) → Searched d whole true whole 0
body_begins d whole = record { same = more_none (body d true whole); counts = omega arith }

also_false : (b : Bool) → (b also false) ≡ false
also_false true = refl
also_false false = refl

nothing_closes : (d : Awaited) (b : Bool) → (b also closes d []) ≡ true → ⊥
unfolding closes
nothing_closes d true e = cc
nothing_closes d false e = cc

pub body_found : (d : Awaited) (whole : List ℕ) (b : Bool) (rest : List ℕ) (n : ℕ) → Searched d whole b rest n → (b also closes d rest) ≡ true → body d true whole ≡ Some n
body_found d whole b [] n h e = absurd (nothing_closes d b e)
body_found d whole b (c ∷ []) n h e =
    h.same ∙ ap (more_by n) (ap (λ x. counted_body x (piece d.quoted (c ∷ [])) None None None) e) ∙ ap Some (no_more n)
body_found d whole b (c ∷ (x ∷ cs)) n h e =
    h.same ∙ ap (more_by n) (ap (λ y. counted_body y (piece d.quoted (c ∷ (x ∷ cs))) (body d true (x ∷ cs)) (body d false (x ∷ cs)) (body d false cs)) e) ∙ ap Some (no_more n)

-- what a piece comes to where no body ends
abbrev goes : Piece → Option ℕ → Option ℕ → Option ℕ → Option ℕ
goes x next one two = counted_body false x next one two

here : (d : Awaited) (b : Bool) (ts : List ℕ) (x : Piece) → (b also closes d ts) ≡ false → piece d.quoted ts ≡ x → body d b ts ≡ goes x (body d true (drop 1 ts)) (body d false (drop 1 ts)) (body d false (drop 2 ts))
here d b [] x e h = ap (λ x. goes x None None None) h
here d b (c ∷ []) x e h = ap (λ y. counted_body y (piece d.quoted (c ∷ [])) None None None) e ∙ ap (λ x. goes x None None None) h
here d b (c ∷ (y ∷ cs)) x e h =
    ap (λ z. counted_body z (piece d.quoted (c ∷ (y ∷ cs))) (body d true (y ∷ cs)) (body d false (y ∷ cs)) (body d false cs)) e
    ∙ ap (λ x. goes x (body d true (y ∷ cs)) (body d false (y ∷ cs)) (body d false cs)) h

pub body_newline : (d : Awaited) (whole : List ℕ) (b : Bool) (rest : List ℕ) (n : ℕ) → Searched d whole b rest n → (b also closes d rest) ≡ false → piece d.quoted rest ≡ pc.Newline → Searched d whole true (drop 1 rest) (n + 1)
body_newline d whole b rest n h e p = record {
  same = h.same ∙ ap (more_by n) (here d b rest pc.Newline e p) ∙ more_more n 1 (body d true (drop 1 rest));
  counts = omega (arith, h.counts, has_byte d.quoted rest pc.Newline p tt, length-drop 1 rest);
}

pub body_byte : (d : Awaited) (whole : List ℕ) (b : Bool) (rest : List ℕ) (n : ℕ) → Searched d whole b rest n → (b also closes d rest) ≡ false → piece d.quoted rest ≡ pc.Byte → Searched d whole false (drop 1 rest) (n + 1)
body_byte d whole b rest n h e p = record {
  same = h.same ∙ ap (more_by n) (here d b rest pc.Byte e p) ∙ more_more n 1 (body d false (drop 1 rest));
  counts = omega (arith, h.counts, has_byte d.quoted rest pc.Byte p tt, length-drop 1 rest);
}

pub body_pair : (d : Awaited) (whole : List ℕ) (b : Bool) (rest : List ℕ) (n : ℕ) → Searched d whole b rest n → (b also closes d rest) ≡ false → piece d.quoted rest ≡ pc.Pair → Searched d whole false (drop 2 rest) (n + 2)
body_pair d whole b rest n h e p = record {
  same = h.same ∙ ap (more_by n) (here d b rest pc.Pair e p) ∙ more_more n 2 (body d false (drop 2 rest));
  counts = omega (arith, h.counts, has_pair d.quoted rest p, length-drop 2 rest);
}

pub body_over : (d : Awaited) (whole : List ℕ) (b : Bool) (rest : List ℕ) (n : ℕ) → Searched d whole b rest n → (b also closes d rest) ≡ false → piece d.quoted rest ≡ pc.End → body d true whole ≡ None
body_over d whole b rest n h e p = h.same ∙ ap (more_by n) (here d b rest pc.End e p)

pub body_nul : (d : Awaited) (whole : List ℕ) (b : Bool) (rest : List ℕ) (n : ℕ) → Searched d whole b rest n → (b also closes d rest) ≡ false → piece d.quoted rest ≡ pc.Nul → body d true whole ≡ None
body_nul d whole b rest n h e p = h.same ∙ ap (more_by n) (here d b rest pc.Nul e p)
