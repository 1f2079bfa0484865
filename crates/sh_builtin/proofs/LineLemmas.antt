-- A text is scanned for the line at its front.
use Rattle.std.proofs.Common.{◌≡◌, ◌≢◌, ℕ, eqb, List, [], ◌∷◌, ◌++◌, Bool, true, false, Some, refl, sym, ap, ◌∙◌, append_assoc, subst, inl, inr}
use Rattle.std.proofs.lemmas.Bool.Decides.{eqb_tells}
use Rattle.rk_base.specs.Text.{Text}
use Rattle.sh_builtin.specs.declared.marks.Marked.{Marked}
use Rattle.sh_builtin.specs.declared.line.Scan.{Scan}
use Rattle.sh_builtin.specs.declared.line.Scan.TheVariants as scan
use Rattle.sh_builtin.specs.declared.line.End.{End}
use Rattle.sh_builtin.specs.declared.line.End.TheVariants.{Whole, Short, Continued}
use Rattle.sh_builtin.specs.Lines.{Step, unquoted, escaped, step, scanned, line_of}
use Rattle.sh_builtin.specs.ReadLines.{Line, plain, quoted, Piece, Byte, Escaped, Joint, IsPiece, ArePieces, spelling, spelt, marks_of, is_joint, joined_last, EndsBy, IsReadLine}

-- how the next byte is read, behind a joint or not
abbrev at : Bool → Scan
at true = scan.Joined
at false = scan.Plain

abbrev line : List Piece → End → Line
line ps end = record { marks = marks_of ps; end = end }

differs : (a b : ℕ) → a ≢ b → eqb a b ≡ false
differs a b ne = elim (eqb_tells a b) [ inl e ↦ absurd (ne e.1) | inr e ↦ e.0 ]

step-at : (raw j : Bool) (b : ℕ) → step raw (at j) b ≡ unquoted raw b
step-at raw true b = refl
step-at raw false b = refl

-- a byte of the line
byte : (raw : Bool) (b : ℕ) → IsPiece raw (Byte b) → ◌≡◌ {A = Step} (unquoted raw b) (record { adds = plain b ∷ []; next = Some scan.Plain })
byte true b h =
    let line : eqb b 10 ≡ false = differs b 10 h.0 in
    elim (eqb_tells b 92) [
      | inl e ↦ let is : eqb b 92 ≡ true = e.0 in rw (line, is) refl
      | inr e ↦ let is : eqb b 92 ≡ false = e.0 in rw (line, is) refl
    ]
byte false b h =
    let line : eqb b 10 ≡ false = differs b 10 h.0 in
    let quotes : eqb b 92 ≡ false = differs b 92 (λ e. let f : false ≡ true = h.1 e in absurd (cc)) in
    rw (line, quotes) refl

quoted_byte : (b : ℕ) → b ≢ 10 → ◌≡◌ {A = Step} (escaped b) (record { adds = quoted b ∷ []; next = Some scan.Plain })
quoted_byte b ne = let line : eqb b 10 ≡ false = differs b 10 ne in rw line refl

module _ (raw : Bool) (left : Text) (end : End) where
  ended : (j : Bool) → EndsBy raw j left end → scanned raw (at j) left ≡ line [] end
  ended j h = by end h
    where
      by : (e : End) → EndsBy raw j left e → scanned raw (at j) left ≡ line [] e
      by Whole (more, is) = rw (is, step-at raw j 10) refl
      by Short (inl (apart, is)) = rw (apart, is) refl
      by Short (inr (escapes, is)) = rw (is, step-at raw j 92, escapes) refl
      by Continued (joined, is) = rw (joined, is) refl

  scanned_is : (ps : List Piece) (j : Bool) → ArePieces raw ps → EndsBy raw (joined_last j ps) left end → scanned raw (at j) (spelt ps ++ left) ≡ line ps end
  scanned_is [] j are h = ended j h
  scanned_is (Byte b ∷ ps) j are h = rw (step-at raw j b, byte raw b are.0) (ap (λ (l : Line). record { marks = plain b ∷ l.marks; end = l.end }) (scanned_is ps false are.1 h))
  scanned_is (Escaped b ∷ ps) j are h =
      rw (step-at raw j 92, are.0.1, quoted_byte b are.0.0) (ap (λ (l : Line). record { marks = quoted b ∷ l.marks; end = l.end }) (scanned_is ps false are.1 h))
  scanned_is (Joint ∷ ps) j are h = rw (step-at raw j 92, are.0) (scanned_is ps true are.1 h)

marked : (l : Line) (ms : List Marked) → l.marks ≡ ms → l ≡ record { marks = ms; end = l.end }
marked l ms e = ap (λ (xs : List Marked). let m : Line = record { marks = xs; end = l.end } in m) e

pub line_scanned : (raw : Bool) (text : Text) (other : Line) → IsReadLine raw text other → other ≡ line_of raw text
line_scanned raw text other h =
    marked other (marks_of h.pieces) h.marks
    ∙ sym (ap (scanned raw scan.Plain) h.whole ∙ scanned_is raw h.left other.end h.pieces false h.are h.end)

-- Each text has a line at its front.

record Front (raw before : Bool) (text : Text) : Type 0 where
  pieces : List Piece
  left : Text
  end : End
  whole : text ≡ spelt pieces ++ left
  are : ArePieces raw pieces
  ends : EndsBy raw (joined_last before pieces) left end

nothing_more : (raw before : Bool) → Front raw before []
nothing_more raw true = record { pieces = []; left = []; end = Continued; whole = refl; are = tt; ends = (refl, refl) }
nothing_more raw false = record { pieces = []; left = []; end = Short; whole = refl; are = tt; ends = inl (refl, refl) }

newline : (raw before : Bool) (b : ℕ) (bs : Text) → b ≡ 10 → Front raw before (b ∷ bs)
newline raw before b bs e = record { pieces = []; left = b ∷ bs; end = Whole; whole = refl; are = tt; ends = (bs, ap (λ (x : ℕ). x ∷ bs) e) }

last_backslash : (before : Bool) (b : ℕ) → b ≡ 92 → Front false before (b ∷ [])
last_backslash before b e = record { pieces = []; left = b ∷ []; end = Short; whole = refl; are = tt; ends = inr (refl, ap (λ (x : ℕ). x ∷ []) e) }

behind_piece : (raw before : Bool) (p : Piece) (text rest : Text) → IsPiece raw p → text ≡ spelling p ++ rest → Front raw (is_joint p) rest → Front raw before text
behind_piece raw before p text rest is e f =
    record {
      pieces = p ∷ f.pieces;
      left = f.left;
      end = f.end;
      whole = e ∙ (ap (λ (x : Text). spelling p ++ x) f.whole ∙ sym (append_assoc (spelling p) (spelt f.pieces) f.left));
      are = (is, f.are);
      ends = f.ends;
    }

front_raw : (text : Text) (before : Bool) → Front true before text
front_raw [] before = nothing_more true before
front_raw (b ∷ bs) before = elim (eqb_tells b 10) [
  | inl e ↦ newline true before b bs e.1
  | inr e ↦ behind_piece true before (Byte b) (b ∷ bs) bs (e.1, λ _. refl) refl (front_raw bs false)
]

unquoted_byte : (before : Bool) (b : ℕ) (bs : Text) → b ≢ 10 → b ≢ 92 → Front false false bs → Front false before (b ∷ bs)
unquoted_byte before b bs line quotes f = behind_piece false before (Byte b) (b ∷ bs) bs (line, λ e. absurd (quotes e)) refl f

pair : (b c x y : ℕ) (cs : Text) → b ≡ x → c ≡ y → ◌≡◌ {A = Text} (b ∷ c ∷ cs) (x ∷ y ∷ cs)
pair b c x y cs e f = cc

backslash : (before : Bool) (b c : ℕ) (cs : Text) → b ≡ 92 → ((j : Bool) → Front false j cs) → Front false before (b ∷ c ∷ cs)
backslash before b c cs e f = elim (eqb_tells c 10) [
  | inl n ↦ behind_piece false before Joint (b ∷ c ∷ cs) cs refl (pair b c 92 10 cs e n.1) (f true)
  | inr n ↦ behind_piece false before (Escaped c) (b ∷ c ∷ cs) cs (n.1, refl) (pair b c 92 c cs e refl) (f false)
]

front_quoting : (text : Text) (before : Bool) → Front false before text
front_quoting [] before = nothing_more false before
front_quoting (b ∷ []) before = elim (eqb_tells b 10) [
  | inl e ↦ newline false before b [] e.1
  | inr e ↦ elim (eqb_tells b 92) [ inl q ↦ last_backslash before b q.1 | inr q ↦ unquoted_byte before b [] e.1 q.1 (nothing_more false false) ]
]
front_quoting (b ∷ c ∷ cs) before = elim (eqb_tells b 10) [
  | inl e ↦ newline false before b (c ∷ cs) e.1
  | inr e ↦ elim (eqb_tells b 92) [
    | inl q ↦ backslash before b c cs q.1 (front_quoting cs)
    | inr q ↦ unquoted_byte before b (c ∷ cs) e.1 q.1 (front_quoting (c ∷ cs) false)
  ]
]

front : (raw : Bool) (text : Text) → Front raw false text
front true text = front_raw text false
front false text = front_quoting text false

pub scanned_line : (raw : Bool) (text : Text) → IsReadLine raw text (line_of raw text)
scanned_line raw text =
    let f : Front raw false text = front raw text in
    let l : Line = line f.pieces f.end in
    let there : IsReadLine raw text l = record { pieces = f.pieces; left = f.left; whole = f.whole; are = f.are; marks = refl; end = f.ends } in
    subst (IsReadLine raw text) (line_scanned raw text l there) there
