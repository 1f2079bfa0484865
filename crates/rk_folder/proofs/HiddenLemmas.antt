-- The first special within the hidden directory.
use Rattle.std.proofs.Common.{◌≡◌, ◌⊎◌, inl, inr, [], ◌∷◌, Bool, true, false, ◌&&◌, ◌||◌, Option, Some, None, refl, sym, ap, subst, ◌∙◌, cond}
use Rattle.std.specs.Str.{is_utf8, chars}
use lib.Utf8.{encode}
use Rattle.rk_base.specs.Text.{Text, root, hidden, join, is_within, same_text}
use Rattle.rk_base.specs.Canonical.{is_canonical, is_name}
use Rattle.rk_base.proofs.CanonicalLemmas.{both, root-canonical, join-canonical}
use Rattle.rk_base.proofs.PathLemmas.{parent-join}
use Rattle.rk_tree.proofs.TextLemmas.{same_is, same_itself, one_of}
use Rattle.rk_folder.specs.Told.{Held, standing, is_nothing, is_dir, is_odd}
use Rattle.rk_folder.specs.Whole.{IsWhole}
use Rattle.rk_folder.specs.Hidden.{hidden_dir, attrs_name, db_name, install_name, fresh_list_name, attrs_file, db_file, install_file, fresh_list_file}
use Rattle.rk_folder.specs.Listing.{is_listed_before, IsFirst}
use Rattle.rk_folder.specs.Specials.{is_special, is_state_file, is_hidden_fault, is_other_than_dir, is_other_than_file, is_fault, or_else, state_fault, state_special, hidden_fault, hidden_special}
use Rattle.rk_folder.specs.Steps.{first_within}
use Rattle.rk_folder.specs.declared.folder.Standing.{Standing}
use Rattle.rk_folder.specs.declared.folder.Standing.TheVariants.{File, Dir, Special}
use Rattle.rk_folder.proofs.OrderLemmas.{before-irreflexive}
use Rattle.rk_folder.proofs.FirstLemmas.{clash, first-same, first-unique, first-or, first_within-is}
use Rattle.rk_folder.proofs.WithinLemmas.{within-itself}
use Rattle.rk_folder.proofs.SpecialLemmas.{special-itself, special-none}

pub hidden-is_name : is_name hidden ≡ true
unfolding is_name is_utf8 chars encode
hidden-is_name = refl

pub attrs-named : is_name attrs_name ≡ true
unfolding is_name is_utf8 chars encode
attrs-named = refl

pub db-named : is_name db_name ≡ true
unfolding is_name is_utf8 chars encode
db-named = refl

pub install-named : is_name install_name ≡ true
unfolding is_name is_utf8 chars encode
install-named = refl

pub fresh_list-named : is_name fresh_list_name ≡ true
unfolding is_name is_utf8 chars encode
fresh_list-named = refl

-- as texts

pub hidden_text-canonical : is_canonical (47 ∷ 46 ∷ 114 ∷ 107 ∷ 114 ∷ []) ≡ true
unfolding is_canonical is_name is_utf8 chars encode
hidden_text-canonical = refl

pub attrs_text-canonical : is_canonical (47 ∷ 46 ∷ 114 ∷ 107 ∷ 114 ∷ 47 ∷ 97 ∷ 116 ∷ 116 ∷ 114 ∷ 115 ∷ []) ≡ true
unfolding is_canonical is_name is_utf8 chars encode
attrs_text-canonical = refl

pub db_text-canonical : is_canonical (47 ∷ 46 ∷ 114 ∷ 107 ∷ 114 ∷ 47 ∷ 100 ∷ 98 ∷ []) ≡ true
unfolding is_canonical is_name is_utf8 chars encode
db_text-canonical = refl

pub install_text-canonical : is_canonical (47 ∷ 46 ∷ 114 ∷ 107 ∷ 114 ∷ 47 ∷ 105 ∷ 110 ∷ 115 ∷ 116 ∷ 97 ∷ 108 ∷ 108 ∷ []) ≡ true
unfolding is_canonical is_name is_utf8 chars encode
install_text-canonical = refl

pub fresh_list_text-canonical : is_canonical (47 ∷ 46 ∷ 114 ∷ 107 ∷ 114 ∷ 47 ∷ 105 ∷ 110 ∷ 115 ∷ 116 ∷ 97 ∷ 108 ∷ 108 ∷ 46 ∷ 110 ∷ 101 ∷ 119 ∷ []) ≡ true
unfolding is_canonical is_name is_utf8 chars encode
fresh_list_text-canonical = refl

pub hidden-canonical : is_canonical hidden_dir ≡ true
hidden-canonical = join-canonical root hidden root-canonical hidden-is_name

-- below what doesn't stand nothing stands
pub nothing_below : (held : Held) (name : Text) → IsWhole held → is_name name ≡ true → standing held hidden_dir ≡ None → standing held (join hidden_dir name) ≡ None
nothing_below held name whole n none = (elim (standing held (join hidden_dir name)) as (λ (o : Option Standing). standing held (join hidden_dir name) ≡ o → o ≡ None) [
  | None ↦ λ e. refl
  | Some it ↦ λ e.
      let dir : is_dir (standing held hidden_dir) ≡ true = ap (λ (p : Text). is_dir (standing held p)) (sym (parent-join hidden_dir name hidden-canonical n)) ∙ whole.parents (join hidden_dir name) (ap is_nothing e) in
      let none : is_dir (standing held hidden_dir) ≡ false = ap is_dir none in cc
]) refl

within_hidden : (name : Text) → is_within hidden_dir (join hidden_dir name) ≡ true
unfolding is_within join
within_hidden name = refl

fault_within : (held : Held) (path : Text) → is_within hidden_dir path ≡ true → is_fault held path ≡ is_hidden_fault path (standing held path)
unfolding is_fault
fault_within held path h = ap (λ (b : Bool). cond b (is_hidden_fault path (standing held path)) (is_special (standing held path) || (is_dir (standing held path) && is_odd path held.odd))) h

-- A state file.

abbrev IsStateFile : Text → Type 0
IsStateFile q = (q ≡ attrs_file) ⊎ ((q ≡ db_file) ⊎ ((q ≡ install_file) ⊎ (q ≡ fresh_list_file)))

state_file : (q : Text) → is_state_file q ≡ true → IsStateFile q
state_file q h = elim (one_of (same_text q attrs_file) _ h) [
  | inl a ↦ inl (same_is q attrs_file a)
  | inr more ↦ elim (one_of (same_text q db_file) _ more) [
    | inl d ↦ inr (inl (same_is q db_file d))
    | inr rest ↦ elim (one_of (same_text q install_file) _ rest) [
      | inl i ↦ inr (inr (inl (same_is q install_file i)))
      | inr n ↦ inr (inr (inr (same_is q fresh_list_file n)))
    ]
  ]
]

-- nothing stands there where the directory doesn't
state_nothing : (held : Held) (q : Text) → IsWhole held → standing held hidden_dir ≡ None → IsStateFile q → standing held q ≡ None
state_nothing held q whole none (inl a) = ap (standing held) a ∙ nothing_below held attrs_name whole attrs-named none
state_nothing held q whole none (inr (inl d)) = ap (standing held) d ∙ nothing_below held db_name whole db-named none
state_nothing held q whole none (inr (inr (inl i))) = ap (standing held) i ∙ nothing_below held install_name whole install-named none
state_nothing held q whole none (inr (inr (inr n))) = ap (standing held) n ∙ nothing_below held fresh_list_name whole fresh_list-named none

-- what is special there is the directory, or a state file
IsBad : Held → Text → Type 0
IsBad held q = ((q ≡ hidden_dir) × (is_other_than_dir (standing held q) ≡ true)) ⊎ ((is_state_file q ≡ true) × (is_other_than_file (standing held q) ≡ true))

which : (held : Held) (q : Text) → is_within hidden_dir q ≡ true → is_fault held q ≡ true → IsBad held q
unfolding IsBad
which held q h t = elim (one_of (same_text q hidden_dir && is_other_than_dir (standing held q)) _ (sym (fault_within held q h) ∙ t)) [
  | inl dir ↦ let e = both (same_text q hidden_dir) _ dir in inl (same_is q hidden_dir e.0, e.1)
  | inr file ↦ let e = both (is_state_file q) _ file in inr (e.0, e.1)
]

pub bad_dir : (held : Held) → is_other_than_dir (standing held hidden_dir) ≡ true → is_fault held hidden_dir ≡ true
bad_dir held bad =
    fault_within held hidden_dir (within-itself hidden_dir)
    ∙ ap (λ (b : Bool). (b && is_other_than_dir (standing held hidden_dir)) || (is_state_file hidden_dir && is_other_than_file (standing held hidden_dir))) (same_itself hidden_dir)
    ∙ ap (λ (b : Bool). b || (is_state_file hidden_dir && is_other_than_file (standing held hidden_dir))) bad

no_dir_bad : (held : Held) → standing held hidden_dir ≡ Some Dir → is_other_than_dir (standing held hidden_dir) ≡ false
no_dir_bad held at = ap is_other_than_dir at

-- The first state file that is special.

-- one state file
is_bad : Held → Text → Text → Bool
is_bad held p q = same_text q p && is_other_than_file (standing held q)

state_fault-is : (path : Text) (o : Option Standing) → state_fault path o ≡ cond (is_other_than_file o) (Some path) None
state_fault-is path None = refl
state_fault-is path (Some (File bytes)) = refl
state_fault-is path (Some Dir) = refl
state_fault-is path (Some Special) = refl

one_by : (held : Held) (p : Text) (b : Bool) → is_other_than_file (standing held p) ≡ b → IsFirst (is_bad held p) (cond b (Some p) None)
unfolding is_bad
one_by held p true h = (
  ap (λ (c : Bool). c && is_other_than_file (standing held p)) (same_itself p) ∙ h,
  λ q t. ap (λ (x : Text). is_listed_before x p) (same_is q p (both (same_text q p) _ t).0) ∙ before-irreflexive p,
)
one_by held p false h = λ q. none q (same_text q p) refl where
  none : (q : Text) (c : Bool) → same_text q p ≡ c → (same_text q p && is_other_than_file (standing held q)) ≡ false
  none q true e = ap (λ (d : Bool). d && is_other_than_file (standing held q)) e ∙ ap (λ (x : Text). is_other_than_file (standing held x)) (same_is q p e) ∙ h
  none q false e = ap (λ (d : Bool). d && is_other_than_file (standing held q)) e

one_first : (held : Held) (p : Text) → IsFirst (is_bad held p) (state_fault p (standing held p))
one_first held p = subst (IsFirst (is_bad held p)) (sym (state_fault-is p (standing held p))) (one_by held p (is_other_than_file (standing held p)) refl)

bad_at : (held : Held) (p q : Text) → is_bad held p q ≡ true → q ≡ p
unfolding is_bad
bad_at held p q t = same_is q p (both (same_text q p) _ t).0

in_order : (held : Held) (p r x y : Text) → is_listed_before r p ≡ false → is_bad held p x ≡ true → is_bad held r y ≡ true → is_listed_before y x ≡ false
in_order held p r x y order h k = ap (λ (b : Text). is_listed_before b x) (bad_at held r y k) ∙ ap (is_listed_before r) (bad_at held p x h) ∙ order

attrs_db : is_listed_before db_file attrs_file ≡ false
unfolding is_listed_before join
attrs_db = refl

attrs_install : is_listed_before install_file attrs_file ≡ false
unfolding is_listed_before join
attrs_install = refl

attrs_fresh : is_listed_before fresh_list_file attrs_file ≡ false
unfolding is_listed_before join
attrs_fresh = refl

db_install : is_listed_before install_file db_file ≡ false
unfolding is_listed_before join
db_install = refl

db_fresh : is_listed_before fresh_list_file db_file ≡ false
unfolding is_listed_before join
db_fresh = refl

install_fresh : is_listed_before fresh_list_file install_file ≡ false
unfolding is_listed_before join
install_fresh = refl

lists_bad : Held → Text → Bool
lists_bad held q = is_bad held install_file q || is_bad held fresh_list_file q

lists_first : (held : Held) → IsFirst (lists_bad held) (or_else (state_fault install_file (standing held install_file)) (state_fault fresh_list_file (standing held fresh_list_file)))
unfolding lists_bad
lists_first held =
    first-or (is_bad held install_file) (is_bad held fresh_list_file) _ _ (λ x y h k. in_order held install_file fresh_list_file x y install_fresh h k) (one_first held install_file) (one_first held fresh_list_file)

later_bad : Held → Text → Bool
later_bad held q = is_bad held db_file q || lists_bad held q

later_first : (held : Held) → IsFirst (later_bad held) (or_else (state_fault db_file (standing held db_file)) (or_else (state_fault install_file (standing held install_file)) (state_fault fresh_list_file (standing held fresh_list_file))))
unfolding later_bad lists_bad
later_first held = first-or (is_bad held db_file) (lists_bad held) _ _ order (one_first held db_file) (lists_first held) where
  order : (x y : Text) → is_bad held db_file x ≡ true → lists_bad held y ≡ true → is_listed_before y x ≡ false
  order x y h k = elim (one_of (is_bad held install_file y) _ k) [
    | inl i ↦ in_order held db_file install_file x y db_install h i
    | inr n ↦ in_order held db_file fresh_list_file x y db_fresh h n
  ]

all_bad : Held → Text → Bool
all_bad held q = is_bad held attrs_file q || later_bad held q

all_first : (held : Held) → IsFirst (all_bad held) (state_special held)
unfolding all_bad later_bad lists_bad
all_first held = first-or (is_bad held attrs_file) (later_bad held) _ _ order (one_first held attrs_file) (later_first held) where
  order : (x y : Text) → is_bad held attrs_file x ≡ true → later_bad held y ≡ true → is_listed_before y x ≡ false
  order x y h k = elim (one_of (is_bad held db_file y) _ k) [
    | inl d ↦ in_order held attrs_file db_file x y attrs_db h d
    | inr rest ↦ elim (one_of (is_bad held install_file y) _ rest) [
      | inl i ↦ in_order held attrs_file install_file x y attrs_install h i
      | inr n ↦ in_order held attrs_file fresh_list_file x y attrs_fresh h n
    ]
  ]

-- it is what is special within the directory
spread : (a d i n x : Bool) → ((a && x) || ((d && x) || ((i && x) || (n && x)))) ≡ ((a || (d || (i || n))) && x)
spread true d i n true = refl
spread true d i n false = no_more d i n where
  no_more : (d i n : Bool) → ((d && false) || ((i && false) || (n && false))) ≡ false
  no_more true true true = refl
  no_more true true false = refl
  no_more true false true = refl
  no_more true false false = refl
  no_more false true true = refl
  no_more false true false = refl
  no_more false false true = refl
  no_more false false false = refl
spread false true i n true = refl
spread false true true true false = refl
spread false true true false false = refl
spread false true false true false = refl
spread false true false false false = refl
spread false false true n true = refl
spread false false true true false = refl
spread false false true false false = refl
spread false false false n x = refl

all_bad-is : (held : Held) (q : Text) → all_bad held q ≡ (is_state_file q && is_other_than_file (standing held q))
unfolding all_bad later_bad lists_bad is_bad
all_bad-is held q = spread (same_text q attrs_file) (same_text q db_file) (same_text q install_file) (same_text q fresh_list_file) (is_other_than_file (standing held q))

-- where something is so, it is within the directory
below_it : (q : Text) → is_state_file q ≡ true → is_within hidden_dir q ≡ true
below_it q h = elim (state_file q h) [
  | inl a ↦ ap (is_within hidden_dir) a ∙ within_hidden attrs_name
  | inr more ↦ elim more [
    | inl d ↦ ap (is_within hidden_dir) d ∙ within_hidden db_name
    | inr rest ↦ elim rest [ inl i ↦ ap (is_within hidden_dir) i ∙ within_hidden install_name | inr n ↦ ap (is_within hidden_dir) n ∙ within_hidden fresh_list_name ]
  ]
]

dir_left : (same bad : Bool) (rest : Bool) → (same ≡ true → bad ≡ false) → ((same && bad) || rest) ≡ rest
dir_left true bad rest h = ap (λ (b : Bool). b || rest) (h refl)
dir_left false bad rest h = refl

faults_are : (held : Held) (q : Text) → standing held hidden_dir ≡ Some Dir → all_bad held q ≡ (is_within hidden_dir q && is_fault held q)
faults_are held q at = all_bad-is held q ∙ by_place (is_within hidden_dir q) refl where
  by_place : (w : Bool) → is_within hidden_dir q ≡ w → (is_state_file q && is_other_than_file (standing held q)) ≡ (is_within hidden_dir q && is_fault held q)
  by_place true h =
      sym (ap (λ (w : Bool). w && is_fault held q) h ∙ fault_within held q h
      ∙ dir_left (same_text q hidden_dir) (is_other_than_dir (standing held q)) (is_state_file q && is_other_than_file (standing held q)) (λ e. ap (λ (p : Text). is_other_than_dir (standing held p)) (same_is q hidden_dir e) ∙ no_dir_bad held at))
  by_place false h = outside (is_state_file q) refl ∙ sym (ap (λ (w : Bool). w && is_fault held q) h) where
    outside : (s : Bool) → is_state_file q ≡ s → (is_state_file q && is_other_than_file (standing held q)) ≡ false
    outside true e = absurd (clash _ (below_it q e) h)
    outside false e = ap (λ (s : Bool). s && is_other_than_file (standing held q)) e

state_first : (held : Held) → standing held hidden_dir ≡ Some Dir → first_within held hidden_dir ≡ state_special held
state_first held at =
    first-unique (λ q. is_within hidden_dir q && is_fault held q) (first_within held hidden_dir) (state_special held) (first_within-is held hidden_dir)
    (first-same (all_bad held) (λ q. is_within hidden_dir q && is_fault held q) (state_special held) (λ q. faults_are held q at) (all_first held))

by_dir : (held : Held) (o : Option Standing) → IsWhole held → standing held hidden_dir ≡ o → first_within held hidden_dir ≡ hidden_fault o (state_special held)
unfolding IsBad
by_dir held None whole at = special-none held hidden_dir (λ q h t. elim (which held q h t) [
  | inl dir ↦ clash _ (ap (λ (p : Text). is_other_than_dir (standing held p)) (sym dir.0) ∙ dir.1) (ap is_other_than_dir at)
  | inr file ↦ clash _ file.1 (ap is_other_than_file (state_nothing held q whole at (state_file q file.0)))
])
by_dir held (Some (File bytes)) whole at = special-itself held hidden_dir (bad_dir held (ap is_other_than_dir at))
by_dir held (Some Dir) whole at = state_first held at
by_dir held (Some Special) whole at = special-itself held hidden_dir (bad_dir held (ap is_other_than_dir at))

pub special-hidden : (held : Held) → IsWhole held → first_within held hidden_dir ≡ hidden_special held
special-hidden held whole = by_dir held (standing held hidden_dir) whole refl
