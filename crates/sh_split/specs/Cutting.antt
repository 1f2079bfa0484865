-- The rules by which a text is cut into fields, whatever its marks are: an expanded word (XCU 2.6.5), or a line that `read`
-- reads (XCU 4).
use Rattle.std.specs.Prelude.{◌≡◌, ◌≢◌, ◌⊎◌, List, [], ◌∷◌, ◌++◌}
use Rattle.sh_split.specs.declared.mark.Mark.{Mark}
use Rattle.sh_split.specs.declared.mark.MarkKind.{MarkKind}
use Rattle.sh_split.specs.declared.mark.MarkKind.TheVariants.{White, Hard, Matter, Break}

module _ {M : Type 0} (kind : M → MarkKind) where
  -- all marks are of one kind
  abbrev pub IsRun : MarkKind → List M → Type 0
  IsRun k [] = Unit {0}
  IsRun k (m ∷ ms) = (kind m ≡ k) × IsRun k ms

  -- no mark of a kind comes first
  abbrev pub NotFirst : MarkKind → List M → Type 0
  NotFirst k [] = Unit {0}
  NotFirst k (m ∷ ms) = kind m ≢ k

  -- white space, all that stands there and nothing else that delimits
  pub record IsBlank (delimiter rest : List M) : Type 0 where
    pub some : delimiter ≢ []
    pub white : IsRun White delimiter
    pub no_more : NotFirst White rest
    pub alone : NotFirst Hard rest

  -- another byte of IFS, with all white space beside it
  pub record IsHard (delimiter rest : List M) : Type 0 where
    pub before : List M
    pub byte : M
    pub after : List M
    pub whole : delimiter ≡ before ++ byte ∷ after
    pub white_before : IsRun White before
    pub hard : kind byte ≡ Hard
    pub white_after : IsRun White after
    pub no_more : NotFirst White rest

  -- nothing follows
  abbrev pub IsLast : List M → List M → Type 0
  IsLast delimiter rest = (delimiter ≡ []) × (rest ≡ [])

  -- a field and what delimits it; only another byte of IFS delimits an empty one
  abbrev pub Delimits : List M → List M → List M → Type 0
  Delimits field delimiter rest = ((field ≢ []) × IsBlank delimiter rest) ⊎ (IsHard delimiter rest ⊎ ((field ≢ []) × IsLast delimiter rest))

  -- the fields, each with its delimiter, one after another
  abbrev pub AreFields : List (List M) → List M → Type 0
  AreFields [] text = text ≡ []
  AreFields (field ∷ fields) text =
      (delimiter : List M) × (rest : List M) × (text ≡ field ++ (delimiter ++ rest)) × IsRun Matter field × Delimits field delimiter rest × AreFields fields rest

  -- the cutting of a text without breaks: white space at its beginning is left out
  pub record IsCut (text : List M) (fields : List (List M)) : Type 0 where
    pub lead : List M
    pub rest : List M
    pub whole : text ≡ lead ++ rest
    pub white : IsRun White lead
    pub no_more : NotFirst White rest
    pub are : AreFields fields rest

  -- the cutting of a text whose breaks stand between these
  abbrev pub AreCut : List (List M) → List (List M) → Type 0
  AreCut [] fields = fields ≡ []
  AreCut (text ∷ texts) fields = (first : List (List M)) × (others : List (List M)) × (fields ≡ first ++ others) × IsCut text first × AreCut texts others

abbrev pub Marks : Type 0
Marks = List Mark

abbrev pub put : Mark → List Marks → List Marks
put m [] = (m ∷ []) ∷ []
put m (ms ∷ others) = (m ∷ ms) ∷ others

abbrev pub parted : MarkKind → Mark → List Marks → List Marks
parted White m texts = put m texts
parted Hard m texts = put m texts
parted Matter m texts = put m texts
parted Break m texts = [] ∷ texts

-- the texts between breaks
abbrev pub between : (Mark → MarkKind) → Marks → List Marks
between kind [] = [] ∷ []
between kind (m ∷ ms) = parted (kind m) m (between kind ms)

-- these are the fields of an expanded word
unfoldable pub IsCutting : (Mark → MarkKind) → Marks → List Marks → Type 0
IsCutting kind text fields = AreCut kind (between kind text) fields
