-- Cells: when two are one, which of them gather others, and how they are hashed.
use Rattle.std.specs.Prelude.{◌≡◌, ℕ, [], ◌++◌, Bool, true, false, ◌&&◌, ◌==◌, if◌then◌else◌, refl}
use Rattle.std.proofs.Common.{sym, ◌∙◌, ap₂, subst}
use Rattle.std.proofs.lemmas.Bool.{eqb-true, eq-eqb}
use Rattle.std.specs.Bool.{Decides}
use Rattle.std.specs.Cmp.{IsEquivalence, decided}
use Rattle.std.specs.Hash as fed
use Rattle.rk_base.specs.Text.{Text, same_text}
use Rattle.rk_base.proofs.WithinLemmas.{same_is, same_itself}
use Rattle.rk_kernel.specs.declared.cell.Cell.{Cell}
use Rattle.rk_kernel.specs.declared.cell.Cell.TheVariants.{Entry, Names, Above, Mode, Bytes, Opened, Pipe, Output, ErrorText}

-- the entries of a directory are gathered: two writes of one that gathers are no conflict
abbrev pub gathers : Cell → Bool
gathers (Names dir) = true
gathers _ = false

-- A cell is told by its kind, a number and a name.

abbrev pub kind : Cell → ℕ
kind (Entry dir name) = 0
kind (Names dir) = 1
kind (Above dir) = 2
kind (Mode node) = 3
kind (Bytes file) = 4
kind (Opened description) = 5
kind (Pipe pipe) = 6
kind Output = 7
kind ErrorText = 8

abbrev pub number : Cell → ℕ
number (Entry dir name) = dir
number (Names dir) = dir
number (Above dir) = dir
number (Mode node) = node
number (Bytes file) = file
number (Opened description) = description
number (Pipe pipe) = pipe
number Output = 0
number ErrorText = 0

abbrev pub name : Cell → Text
name (Entry dir text) = text
name _ = []

-- both are one cell
abbrev pub same_cell : Cell → Cell → Bool
same_cell a b = (kind a == kind b) && ((number a == number b) && same_text (name a) (name b))

-- the cell that is told so
cell_of : ℕ → ℕ → Text → Cell
cell_of k n text =
    if k == 0 then Entry n text
    else if k == 1 then Names n
    else if k == 2 then Above n
    else if k == 3 then Mode n
    else if k == 4 then Bytes n
    else if k == 5 then Opened n
    else if k == 6 then Pipe n
    else if k == 7 then Output
    else ErrorText

told-back : (c : Cell) → cell_of (kind c) (number c) (name c) ≡ c
unfolding cell_of
told-back (Entry dir text) = refl
told-back (Names dir) = refl
told-back (Above dir) = refl
told-back (Mode node) = refl
told-back (Bytes file) = refl
told-back (Opened description) = refl
told-back (Pipe pipe) = refl
told-back Output = refl
told-back ErrorText = refl

left : (a b : Bool) → (a && b) ≡ true → a ≡ true
left true b h = refl
left false b h = cc

right : (a b : Bool) → (a && b) ≡ true → b ≡ true
right true b h = h
right false b h = cc

cell-is : (a b : Cell) → same_cell a b ≡ true → a ≡ b
cell-is a b h =
    let of_kind : kind a ≡ kind b = eqb-true (kind a) (kind b) (left (kind a == kind b) _ h) in
    let rest : ((number a == number b) && same_text (name a) (name b)) ≡ true = right (kind a == kind b) _ h in
    let of_number : number a ≡ number b = eqb-true (number a) (number b) (left (number a == number b) _ rest) in
    let of_name : name a ≡ name b = same_is (name a) (name b) (right (number a == number b) _ rest) in
    sym (told-back a) ∙ (λ i. cell_of (of_kind i) (of_number i) (of_name i)) ∙ told-back b

cell-self : (c : Cell) → same_cell c c ≡ true
cell-self c = ap₂ ◌&&◌ (eq-eqb (kind c) (kind c) refl) (ap₂ ◌&&◌ (eq-eqb (number c) (number c) refl) (same_itself (name c)))

-- what is the same cell is equal
pub cell_Decides : (a b : Cell) → Decides (same_cell a b) (a ≡ b)
cell_Decides a b = (cell-is a b, λ same. subst (λ c. same_cell a c ≡ true) same (cell-self a))

pub cell_equiv : IsEquivalence same_cell
cell_equiv = decided same_cell cell_Decides

abbrev pub cell_writes : Cell → fed.HashWrites
cell_writes c = fed.u8 (kind c) ++ (fed.usize (number c) ++ fed.slice fed.u8 (name c))

pub cell_alike : fed.Alike same_cell cell_writes
cell_alike = fed.same_Alike cell_writes cell_Decides
