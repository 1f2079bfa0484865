-- From each folder that was left halfway, the calls that are left lead to the folder afterwards.
use Rattle.std.proofs.Common.{◌≡◌, ◌⊎◌, inl, inr, List, [], ◌∷◌, ◌++◌, Bool, true, false, not, ◌&&◌, cond, Option, Some, None, IfSome, refl, sym, ap, subst, ◌∙◌}
use Rattle.std.specs.List.{filter_map, cons_option}
use Rattle.std.specs.Ordering.{eq_by_cmp}
use Rattle.std.specs.FinMap.{entries}
use Rattle.rk_base.specs.Text.{Text, text_cmp, parent, is_in, is_root, name_of}
use Rattle.rk_base.specs.Canonical.{is_canonical, is_empty}
use Rattle.rk_base.proofs.PathLemmas.{is_in-is}
use Rattle.rk_base.proofs.CanonicalLemmas.{both}
use Rattle.rk_tree.proofs.TextLemmas.{told_apart}
use Rattle.rk_folder.specs.Told.{Held, standing, with_standing, is_file, is_dir, is_nothing, is_odd, odd_in, can_hold, items_of, item_in, item_of}
use Rattle.rk_folder.specs.Whole.{IsWhole}
use Rattle.rk_folder.specs.declared.folder.Item.{Item}
use Rattle.rk_folder.specs.declared.folder.Item.TheVariants as item
use Rattle.rk_folder.specs.declared.folder.Standing.{Standing}
use Rattle.rk_folder.specs.declared.folder.Standing.TheVariants.{File, Dir, Special}
use Rattle.rk_folder.proofs.HeldLemmas.{same_held, empty_holds_none, empty_not_odd}
use Rattle.rk_folder.proofs.ListingLemmas.{EachStands, each_stands}
use Rattle.rk_folder.proofs.WholeLemmas.{whole-put, whole-make_dir, whole-remove_file, whole-remove_dir}
use Rattle.rk_seal.specs.Ops.{path_of}
use Rattle.rk_seal.specs.declared.ops.Op.{Op}
use Rattle.rk_seal.specs.declared.ops.Op.TheVariants.{RemoveFile, RemoveDir, MakeDir, Write}
use Rattle.rk_install.specs.Calls.{allowed, step, left_by, DamagedBy}
use Rattle.rk_install.specs.Halfway.{Torn, Ahead, Halfway, pass, AllWhole, IsReady, Finishes, StopsHalfway, StopsAgain, StaysWhole}
use Rattle.rk_install.proofs.StepLemmas.{standing-step, odd-step}

absurd_both : (b : Bool) → b ≡ true → b ≡ false → ⊥
absurd_both b t f = cc

now_ahead : (ops : List Op) (start : Held) (q : Text) (it : Option Standing) → it ≡ standing start q → Ahead ops start q it
now_ahead [] start q it e = e
now_ahead (op ∷ ops) start q it e = inl e

start_whole : (ops : List Op) (start : Held) → AllWhole ops start → IsWhole start
start_whole [] start whole = whole
start_whole (op ∷ ops) start whole = whole.0

nothing_is : (it : Option Standing) → is_nothing it ≡ true → it ≡ None
nothing_is None h = refl
nothing_is (Some it) h = cc

dir_is : (it : Option Standing) → is_dir it ≡ true → it ≡ Some Dir
dir_is None h = cc
dir_is (Some (File bytes)) h = cc
dir_is (Some Dir) h = refl
dir_is (Some Special) h = cc

file_no_dir : (it : Option Standing) → is_file it ≡ true → is_dir it ≡ false
file_no_dir None h = cc
file_no_dir (Some (File bytes)) h = refl
file_no_dir (Some Dir) h = cc
file_no_dir (Some Special) h = cc

-- in no directory nothing stands
none_in : (held : Held) (q : Text) → IsWhole held → is_dir (standing held (parent q)) ≡ false → standing held q ≡ None
none_in held q whole deny = elim (is_nothing (standing held q)) as (λ (b : Bool). is_nothing (standing held q) ≡ b → standing held q ≡ None) [
  | true ↦ λ e. nothing_is (standing held q) e
  | false ↦ λ e. absurd (absurd_both _ (whole.parents q e) deny)
] refl

-- what a call leaves at its path
own : (op : Op) (held : Held) (q : Text) → eq_by_cmp text_cmp q (path_of op) ≡ true → standing (step op held) q ≡ left_by op
own op held q e = standing-step op held q ∙ ap (λ (b : Bool). cond b (left_by op) (standing held q)) e

other : (op : Op) (held : Held) (q : Text) → eq_by_cmp text_cmp q (path_of op) ≡ false → standing (step op held) q ≡ standing held q
other op held q e = standing-step op held q ∙ ap (λ (b : Bool). cond b (left_by op) (standing held q)) e

own_path : (op : Op) (held : Held) (q : Text) → q ≡ path_of op → standing (step op held) q ≡ left_by op
own_path op held q e = elim (told_apart q (path_of op)) [
  | inl same ↦ own op held q same.1
  | inr apart ↦ absurd (apart.0 e)
]

-- what is torn, the call makes a file of
torn_file : (op : Op) (held : Held) (q : Text) (it : Option Standing) → Torn op q it → is_file (standing (step op held) q) ≡ true
torn_file (RemoveFile path) held q it t = absurd t
torn_file (RemoveDir path) held q it t = absurd t
torn_file (MakeDir path) held q it t = absurd t
torn_file (Write path bytes) held q it t = ap is_file (own_path (Write path bytes) held q t.0)

torn_stands : (op : Op) (held : Held) (q : Text) (it : Option Standing) → Torn op q it → is_nothing (standing (step op held) q) ≡ false
torn_stands (RemoveFile path) held q it t = absurd t
torn_stands (RemoveDir path) held q it t = absurd t
torn_stands (MakeDir path) held q it t = absurd t
torn_stands (Write path bytes) held q it t = ap is_nothing (own_path (Write path bytes) held q t.0)

-- where a directory is yet to go or to come, what is in it is so too
gone : (ops : List Op) (start : Held) (q : Text) (it : Option Standing) → AllWhole ops start → Ahead ops start (parent q) it → is_dir it ≡ false → Ahead ops start q None
gone [] start q it whole e deny = sym (none_in start q whole (ap is_dir (sym e) ∙ deny))
gone (op ∷ ops) start q it whole h deny = elim h [
  | inl e ↦ inl (sym (none_in start q whole.0 (ap is_dir (sym e) ∙ deny)))
  | inr later ↦ inr (inr (elim later [
    | inl torn ↦ now_ahead ops (step op start) q None (sym (none_in (step op start) q (start_whole ops (step op start) whole.1) (file_no_dir _ (torn_file op start (parent q) it torn))))
    | inr ahead ↦ gone ops (step op start) q it whole.1 ahead deny
  ]))
]

-- and where something in it stands at some time, it does
filled : (ops : List Op) (start : Held) (q : Text) (it : Option Standing) → AllWhole ops start → Ahead ops start q it → is_nothing it ≡ false → Ahead ops start (parent q) (Some Dir)
filled [] start q it whole e some = sym (dir_is _ (whole.parents q (ap is_nothing (sym e) ∙ some)))
filled (op ∷ ops) start q it whole h some = elim h [
  | inl e ↦ inl (sym (dir_is _ (whole.0.parents q (ap is_nothing (sym e) ∙ some))))
  | inr later ↦ inr (inr (elim later [
    | inl torn ↦ now_ahead ops (step op start) (parent q) (Some Dir) (sym (dir_is _ ((start_whole ops (step op start) whole.1).parents q (torn_stands op start q it torn))))
    | inr ahead ↦ filled ops (step op start) q it whole.1 ahead some
  ]))
]

-- Where a directory isn't empty, something is listed that stands in it.

row_in : {P : Type 0} (dir : Text) (b : Bool) (row : Text × Standing) (its : List Item) → is_in dir row.0 ≡ b → (is_in dir row.0 ≡ true → P) → ((its ≡ []) ⊎ P) → (cons_option (cond b (Some (item_of (name_of row.0) row.1)) None) its ≡ []) ⊎ P
row_in dir true row its e found rest = inr (found e)
row_in dir false row its e found rest = rest

search_in : {P : Type 0} (held : Held) (dir : Text) (rows : List (Text × Standing)) → EachStands (standing held) rows → ((q : Text) (it : Standing) → standing held q ≡ Some it → is_in dir q ≡ true → P) → (filter_map (item_in dir) rows ≡ []) ⊎ P
search_in held dir [] each found = inl refl
search_in held dir (row ∷ rows) each found =
    row_in dir (is_in dir row.0) row (filter_map (item_in dir) rows) refl (λ inside. found row.0 row.1 each.0 inside) (search_in held dir rows each.1 found)

empty_items : (held : Held) (dir : Text) → filter_map (item_in dir) (entries held.places) ≡ [] → is_odd dir held.odd ≡ false → is_empty (items_of held dir) ≡ true
empty_items held dir none plain =
    ap (λ (items : List Item). is_empty (items ++ odd_in held.odd dir)) none
    ∙ ap (λ (b : Bool). is_empty (cond b (item.Odd ∷ []) [])) plain

pub unempty : {P : Type 0} (held : Held) (dir : Text) → is_empty (items_of held dir) ≡ false → is_odd dir held.odd ≡ false → ((q : Text) → is_in dir q ≡ true → is_nothing (standing held q) ≡ false → P) → P
unempty held dir full plain found = elim (search_in held dir (entries held.places) (each_stands held) (λ q it at inside. found q inside (ap is_nothing at))) [
  | inl none ↦ absurd (absurd_both _ (empty_items held dir none plain) full)
  | inr it ↦ it
]

-- At the path of a call that isn't allowed now.

and_right : (a b : Bool) → a ≡ true → (a && b) ≡ false → b ≡ false
and_right a b t f = cc

AtPath : Op → Type 0
AtPath op = (ops : List Op) (start held : Held) → AllWhole (op ∷ ops) start → allowed op start ≡ true → Halfway (op ∷ ops) start held
    → allowed op held ≡ false → Ahead ops (step op start) (path_of op) (standing held (path_of op))

-- nothing stands there, since its directory doesn't
in_none : (op : Op) (ops : List Op) (start held : Held) → AllWhole (op ∷ ops) start → (Torn op (parent (path_of op)) (standing held (parent (path_of op))) → ⊥) → is_dir (standing start (parent (path_of op))) ≡ true
    → Halfway (op ∷ ops) start held → is_dir (standing held (parent (path_of op))) ≡ false → standing held (path_of op) ≡ None → Ahead ops (step op start) (path_of op) (standing held (path_of op))
in_none op ops start held whole untorn dir half deny none = subst (λ (it : Option Standing). Ahead ops (step op start) (path_of op) it) (sym none) (elim (half.at (parent (path_of op))) [
  | inl e ↦ absurd (absurd_both _ (ap is_dir e ∙ dir) deny)
  | inr later ↦ elim later [
    | inl torn ↦ absurd (untorn torn)
    | inr ahead ↦ gone ops (step op start) (path_of op) (standing held (parent (path_of op))) whole.1 ahead deny
  ]
])

no_file_here : (it : Option Standing) → it ≡ None → is_file it ≡ true → ⊥
no_file_here it e f = cc

at_write : (path bytes : Text) (ops : List Op) (start held : Held) → AllWhole (Write path bytes ∷ ops) start → Halfway (Write path bytes ∷ ops) start held → (it : Option Standing) → standing held path ≡ it → can_hold it (is_dir (standing start (parent path))) ≡ true
    → can_hold it (is_dir (standing held (parent path))) ≡ false → Ahead ops (step (Write path bytes) start) path (standing held path)
at_write path bytes ops start held whole half None e may deny = in_none (Write path bytes) ops start held whole (λ t. no_file_here (standing held path) e (ap (λ (p : Text). is_file (standing held p)) (sym t.0) ∙ t.1)) may half deny e
at_write path bytes ops start held whole half (Some (File old)) e may deny = cc
at_write path bytes ops start held whole half (Some Dir) e may deny = cc
at_write path bytes ops start held whole half (Some Special) e may deny = cc

same_now : (op : Op) (ops : List Op) (start held : Held) → AllWhole (op ∷ ops) start → allowed op start ≡ true → Halfway (op ∷ ops) start held → allowed op held ≡ false → standing held (path_of op) ≡ standing start (path_of op) → Ahead ops (step op start) (path_of op) (standing held (path_of op))
same_now (RemoveFile path) ops start held whole may half deny e = absurd (absurd_both _ (ap is_file e ∙ may) deny)
same_now (MakeDir path) ops start held whole may half deny e =
    let m = both (is_nothing (standing start path)) _ may in
    in_none (MakeDir path) ops start held whole (λ t. t) m.1 half (and_right (is_nothing (standing held path)) _ (ap is_nothing e ∙ m.0) deny) (nothing_is _ (ap is_nothing e ∙ m.0))
same_now (Write path bytes) ops start held whole may half deny e =
    at_write path bytes ops start held whole half (standing held path) refl (ap (λ (it : Option Standing). can_hold it (is_dir (standing start (parent path)))) e ∙ may) deny
same_now (RemoveDir path) ops start held whole may half deny e =
    let m = both (is_dir (standing start path) && not (is_root path)) _ may in
    let d = both (is_dir (standing start path)) _ m.0 in
    let full : is_empty (items_of held path) ≡ false = and_right (is_dir (standing held path) && not (is_root path)) _ (ap (λ (b : Bool). b && not (is_root path)) (ap is_dir e ∙ d.0) ∙ d.1) deny in
    unempty held path full (ap (is_odd path) half.odd ∙ empty_not_odd path start m.1) (λ c inside some.
    subst (λ (it : Option Standing). Ahead ops (step (RemoveDir path) start) path it) (sym (dir_is _ (ap is_dir e ∙ d.0))) (elim (half.at c) [
      | inl same ↦ absurd (absurd_both _ (ap is_nothing same ∙ empty_holds_none path c start m.1 inside) some)
      | inr later ↦ elim later [
        | inl torn ↦ absurd torn
        | inr ahead ↦ subst (λ (p : Text). Ahead ops (step (RemoveDir path) start) p (Some Dir)) (is_in-is path c inside).1 (filled ops (step (RemoveDir path) start) c (standing held c) whole.1 ahead some)
      ]
    ]))

-- a torn file may be written
torn_may : (op : Op) (held : Held) → Torn op (path_of op) (standing held (path_of op)) → allowed op held ≡ true
torn_may (RemoveFile path) held t = absurd t
torn_may (RemoveDir path) held t = absurd t
torn_may (MakeDir path) held t = absurd t
torn_may (Write path bytes) held t = file_may (standing held path) (is_dir (standing held (parent path))) t.1 where
  file_may : (it : Option Standing) (dir : Bool) → is_file it ≡ true → can_hold it dir ≡ true
  file_may None dir h = cc
  file_may (Some (File bytes)) dir h = refl
  file_may (Some Dir) dir h = cc
  file_may (Some Special) dir h = cc

at_path : (op : Op) (ops : List Op) (start held : Held) → AllWhole (op ∷ ops) start → IsReady op start → Halfway (op ∷ ops) start held → allowed op held ≡ false → Ahead ops (step op start) (path_of op) (standing held (path_of op))
at_path op ops start held whole may half deny = elim (half.at (path_of op)) [
  | inl e ↦ elim may [
    | inl yes_may ↦ same_now op ops start held whole yes_may half deny e
    | inr so ↦ now_ahead ops (step op start) (path_of op) _ (e ∙ so ∙ sym (own_path op start (path_of op) refl))
  ]
  | inr later ↦ elim later [
    | inl torn ↦ absurd (absurd_both _ (torn_may op held torn) deny)
    | inr ahead ↦ ahead
  ]
]

torn_path : (op : Op) (q : Text) (it : Option Standing) → Torn op q it → q ≡ path_of op
torn_path (RemoveFile path) q it t = absurd t
torn_path (RemoveDir path) q it t = absurd t
torn_path (MakeDir path) q it t = absurd t
torn_path (Write path bytes) q it t = t.0

-- elsewhere all is as it was
elsewhere : (op : Op) (ops : List Op) (start : Held) (q : Text) (it : Option Standing) → (q ≡ path_of op → ⊥) → eq_by_cmp text_cmp q (path_of op) ≡ false → Ahead (op ∷ ops) start q it → Ahead ops (step op start) q it
elsewhere op ops start q it apart deny h = elim h [
  | inl e ↦ now_ahead ops (step op start) q it (e ∙ sym (other op start q deny))
  | inr later ↦ elim later [
    | inl torn ↦ absurd (apart (torn_path op q it torn))
    | inr ahead ↦ ahead
  ]
]

made : (op : Op) (ops : List Op) (start held : Held) → Halfway (op ∷ ops) start held → Halfway ops (step op start) (step op held)
made op ops start held half = record {
  at = λ q. elim (told_apart q (path_of op)) [
    | inl same ↦ now_ahead ops (step op start) q _ (own op held q same.1 ∙ sym (own op start q same.1))
    | inr apart ↦ subst (λ (it : Option Standing). Ahead ops (step op start) q it) (sym (other op held q apart.1)) (elsewhere op ops start q (standing held q) apart.0 apart.1 (half.at q))
  ];
  odd = odd-step op held ∙ half.odd ∙ sym (odd-step op start);
}

passed_over : (op : Op) (ops : List Op) (start held : Held) → AllWhole (op ∷ ops) start → IsReady op start → Halfway (op ∷ ops) start held → allowed op held ≡ false → Halfway ops (step op start) held
passed_over op ops start held whole may half deny = record {
  at = λ q. elim (told_apart q (path_of op)) [
    | inl same ↦ subst (λ (p : Text). Ahead ops (step op start) p (standing held p)) (sym same.0) (at_path op ops start held whole may half deny)
    | inr apart ↦ elsewhere op ops start q (standing held q) apart.0 apart.1 (half.at q)
  ];
  odd = half.odd ∙ sym (odd-step op start);
}

step-keeps : (op : Op) (ops : List Op) (start held : Held) → AllWhole (op ∷ ops) start → IsReady op start → Halfway (op ∷ ops) start held → Halfway ops (step op start) (pass op held)
step-keeps op ops start held whole may half = elim (allowed op held) as (λ (b : Bool). allowed op held ≡ b → Halfway ops (step op start) (cond b (step op held) held)) [
  | true ↦ λ e. made op ops start held half
  | false ↦ λ e. passed_over op ops start held whole may half e
] refl

pub finishes-all : Finishes
finishes-all [] start held whole may half = same_held held start half.odd half.at
finishes-all (op ∷ ops) start held whole may half = finishes-all ops (step op start) (pass op held) whole.1 may.1 (step-keeps op ops start held whole may.0 half)

torn-keeps : (path bytes left : Text) (ops : List Op) (start held : Held) → Halfway (Write path bytes ∷ ops) start held → Halfway (Write path bytes ∷ ops) start (with_standing path (File left) held)
torn-keeps path bytes left ops start held half = record {
  at = λ q. elim (told_apart q path) [
    | inl same ↦ inr (inl (same.0, ap is_file (own_path (Write path left) held q same.0)))
    | inr apart ↦ subst (λ (it : Option Standing). Ahead (Write path bytes ∷ ops) start q it) (sym (other (Write path left) held q apart.1)) (half.at q)
  ];
  odd = half.odd;
}

later-keeps : (op : Op) (ops : List Op) (start held : Held) → Halfway ops (step op start) held → Halfway (op ∷ ops) start held
later-keeps op ops start held half = record { at = λ q. inr (inr (half.at q)); odd = half.odd ∙ odd-step op start }

start-half : (ops : List Op) (start : Held) → Halfway ops start start
start-half ops start = record { at = λ q. now_ahead ops start q _ refl; odd = refl }

-- what a failed call leaves is halfway, from wherever it was made
damage-keeps : (op : Op) (ops : List Op) (start held : Held) (new : Option Held) → Halfway (op ∷ ops) start held → DamagedBy op (Some held) new → IfSome new (Halfway (op ∷ ops) start)
damage-keeps (RemoveFile path) ops start held new half h = subst (λ (o : Option Held). IfSome o (Halfway (RemoveFile path ∷ ops) start)) (sym h) half
damage-keeps (RemoveDir path) ops start held new half h = subst (λ (o : Option Held). IfSome o (Halfway (RemoveDir path ∷ ops) start)) (sym h) half
damage-keeps (MakeDir path) ops start held new half h = subst (λ (o : Option Held). IfSome o (Halfway (MakeDir path ∷ ops) start)) (sym h) half
damage-keeps (Write path bytes) ops start held new half h = elim h [
  | inl same ↦ subst (λ (o : Option Held). IfSome o (Halfway (Write path bytes ∷ ops) start)) (sym same) half
  | inr torn ↦ subst (λ (o : Option Held). IfSome o (Halfway (Write path bytes ∷ ops) start)) (sym torn.2) (torn-keeps path bytes torn.0 ops start held half)
]

later-some : (op : Op) (ops : List Op) (start : Held) (new : Option Held) → IfSome new (Halfway ops (step op start)) → IfSome new (Halfway (op ∷ ops) start)
later-some op ops start None h = tt
later-some op ops start (Some held) h = later-keeps op ops start held h

pub stops-halfway : StopsHalfway
stops-halfway [] start new h = subst (λ (o : Option Held). IfSome o (Halfway [] start)) (sym h) (start-half [] start)
stops-halfway (op ∷ ops) start new h = elim h [
  | inl left ↦ damage-keeps op ops start start new (start-half (op ∷ ops) start) left
  | inr later ↦ later-some op ops start new (stops-halfway ops (step op start) new later)
]

pub stops-again : StopsAgain
stops-again [] start held new whole may half h = subst (λ (o : Option Held). IfSome o (Halfway [] start)) (sym h) half
stops-again (op ∷ ops) start held new whole may half h = elim h [
  | inl left ↦ damage-keeps op ops start held new half left
  | inr later ↦ later-some op ops start new (stops-again ops (step op start) (pass op held) new whole.1 may.1 (step-keeps op ops start held whole may.0 half) later)
]

pub whole-step : (op : Op) (start : Held) → IsWhole start → allowed op start ≡ true → is_canonical (path_of op) ≡ true → IsWhole (step op start)
whole-step (RemoveFile path) start whole may canon = whole-remove_file path start may whole
whole-step (RemoveDir path) start whole may canon = whole-remove_dir path start may whole
whole-step (MakeDir path) start whole may canon = whole-make_dir path start may canon whole
whole-step (Write path bytes) start whole may canon = whole-put path (File bytes) start may canon whole

-- where what it leaves stands already, it changes nothing
pub step-same : (op : Op) (start : Held) → standing start (path_of op) ≡ left_by op → step op start ≡ start
step-same op start so = same_held (step op start) start (odd-step op start) (λ q. elim (told_apart q (path_of op)) [
  | inl same ↦ own op start q same.1 ∙ sym so ∙ ap (standing start) (sym same.0)
  | inr apart ↦ other op start q apart.1
])

pub stays-whole : StaysWhole
stays-whole [] start whole may canon = whole
stays-whole (op ∷ ops) start whole may canon = (whole, stays-whole ops (step op start) (next may.0) may.1 canon.1) where
  next : IsReady op start → IsWhole (step op start)
  next (inl yes_may) = whole-step op start whole yes_may canon.0
  next (inr so) = subst IsWhole (sym (step-same op start so)) whole
