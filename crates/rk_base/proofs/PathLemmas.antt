-- A path is its last name in its parent.
use Rattle.std.proofs.Common.{get_or, take-append-drop, length-drop, ◌≢◌, ◌<◌, ◌≤◌, List, ◌+◌, ◌⊎◌, length, take, drop, arith, inl, inr, ◌≡◌, ℕ, [], ◌∷◌, ◌++◌, Bool, true, false, cond, not, ◌&&◌, ◌||◌, refl, sym, ap, ◌∙◌, count_by, zero-add}
use Rattle.std.specs.List.{list_all, list_any, onto_first, join_with_byte}
use Rattle.std.proofs.lemmas.List.Folds.{list_all-append, list_any_none}
use Rattle.std.proofs.lemmas.List.{drop_more, get_or-drop}
use Rattle.std.proofs.lemmas.List.Elements.{All-from_get_or}
use Rattle.std.proofs.lemmas.List.Sums.{sum_by-append, sum_by-cons}
use Rattle.std.proofs.lemmas.Bool.{eqb-true, ne_eqb}
use Rattle.std.proofs.lemmas.List.Splits.{join_with_byte-slice_split}
use Rattle.std.specs.Cmp.Lexicographic.{bytes_decides}
use Rattle.rk_base.specs.Text.{Text, is_slash, is_root, root, or_root, stem, join, parent, name_of, components, but_last, last_text, depth, is_in, same_text}
use Rattle.rk_base.specs.Canonical.{is_barred, is_name, is_empty, begins_named, is_canonical}
use Rattle.rk_base.proofs.CanonicalLemmas.{both, either, denied, components-append, components-alone, name-unbarred, root-canonical}

-- How many names.

slashes-append : (xs ys : Text) → count_by is_slash (xs ++ ys) ≡ count_by is_slash xs + count_by is_slash ys
slashes-append xs ys = sum_by-append _ xs ys

slashes-cons : (x : ℕ) (xs : Text) → count_by is_slash (x ∷ xs) ≡ cond (is_slash x) 1 0 + count_by is_slash xs
slashes-cons x xs = sum_by-cons _ x xs

unslashed : (xs : Text) → list_any is_barred xs ≡ false → count_by is_slash xs ≡ 0
unslashed [] h = refl
unslashed (x ∷ xs) h =
    let e = either (is_barred x) (list_any is_barred xs) h in
    let s = either (is_slash x) _ e.0 in
    slashes-cons x xs ∙ ap (λ (b : Bool). cond b 1 0 + count_by is_slash xs) s.0 ∙ zero-add _ ∙ unslashed xs e.1

stem_slashes : (dir : Text) → count_by is_slash (stem dir) ≡ depth dir
unfolding depth
stem_slashes dir = elim (is_root dir) as (λ (b : Bool). count_by is_slash (cond b [] dir) ≡ cond b 0 (count_by is_slash dir)) [ true ↦ refl | false ↦ refl ]

named : (name : Text) → is_name name ≡ true → is_empty name ≡ false
unfolding is_name
named name h = denied _ (both _ _ (both _ _ (both _ _ (both _ _ (both _ _ h).0).0).0).0).0

and_false : (b : Bool) → (b && false) ≡ false
and_false true = refl
and_false false = refl

not_root : (front name : Text) → is_empty name ≡ false → is_root (front ++ 47 ∷ name) ≡ false
not_root [] [] h = cc
not_root [] (b ∷ bs) h = refl
not_root (x ∷ []) name h = and_false (is_slash x)
not_root (x ∷ y ∷ ys) name h = and_false (is_slash x)

-- a name is one step down
pub depth-join : (dir name : Text) → is_name name ≡ true → depth (join dir name) ≡ depth dir + 1
unfolding depth join
depth-join dir name h =
    ap (λ (b : Bool). cond b 0 (count_by is_slash (stem dir ++ 47 ∷ name))) (not_root (stem dir) name (named name h))
    ∙ slashes-append (stem dir) (47 ∷ name) ∙ ap (λ n. count_by is_slash (stem dir) + n) (slashes-cons 47 name ∙ ap (λ n. 1 + n) (unslashed name (name-unbarred name h)))
    ∙ ap (λ n. n + 1) (stem_slashes dir)

-- The last slash cuts a path in its parent and its last name.

components-unslashed : (xs : Text) → list_any is_slash xs ≡ false → components xs ≡ xs ∷ []
components-unslashed [] h = refl
components-unslashed (x ∷ xs) h =
    let e = either (is_slash x) (list_any is_slash xs) h in
    ap (λ (b : Bool). cond b ([] ∷ components xs) (onto_first x (components xs))) e.0 ∙ ap (onto_first x) (components-unslashed xs e.1)

but_last-append : (ts : List Text) (t : Text) → but_last (ts ++ t ∷ []) ≡ ts
but_last-append [] t = refl
but_last-append (u ∷ []) t = refl
but_last-append (u ∷ v ∷ us) t = ap (λ (ts : List Text). u ∷ ts) (but_last-append (v ∷ us) t)

last_text-append : (ts : List Text) (t : Text) → last_text (ts ++ t ∷ []) ≡ t
last_text-append [] t = refl
last_text-append (u ∷ []) t = refl
last_text-append (u ∷ v ∷ us) t = last_text-append (v ∷ us) t

-- a path whose last component stands after this front
pub parent_by : (path front name : Text) → components path ≡ components front ++ name ∷ [] → parent path ≡ or_root front
unfolding parent
parent_by path front name is =
    ap (λ (ts : List Text). or_root (join_with_byte 47 (but_last ts))) is ∙ ap (λ (ts : List Text). or_root (join_with_byte 47 ts)) (but_last-append (components front) name)
    ∙ ap or_root (join_with_byte-slice_split 47 front)

pub name_by : (path front name : Text) → components path ≡ components front ++ name ∷ [] → name_of path ≡ name
name_by path front name is = ap last_text is ∙ last_text-append (components front) name

-- a path without a slash
pub parent_alone : (path : Text) → components path ≡ path ∷ [] → parent path ≡ root
unfolding parent
parent_alone path is = ap (λ (ts : List Text). or_root (join_with_byte 47 (but_last ts))) is

pub name_alone : (path : Text) → components path ≡ path ∷ [] → name_of path ≡ path
name_alone path is = ap last_text is

cut_at : (front back : Text) → list_any is_slash back ≡ false → components (front ++ 47 ∷ back) ≡ components front ++ back ∷ []
cut_at front back none = components-append front back ∙ ap (λ (ts : List Text). components front ++ ts) (components-unslashed back none)

-- The last slash, as the code finds it.

unslashed-reads : (xs : Text) → ((k : ℕ) → k < length xs → get_or xs k 0 ≢ 47) → list_any is_slash xs ≡ false
unslashed-reads xs none = list_any_none is_slash xs (All-from_get_or (λ b. is_slash b ≡ false) xs 0 (λ k inside. ne_eqb (get_or xs k 0) 47 (none k inside)))

pub alone_at_last : (text : Text) → ((k : ℕ) → k < length text → get_or text k 0 ≢ 47) → components text ≡ text ∷ []
alone_at_last text none = components-unslashed text (unslashed-reads text none)

pub cut_at_last : (text : Text) (i : ℕ) → i < length text → get_or text i 0 ≡ 47 → ((k : ℕ) → i + 1 ≤ k → k < length text → get_or text k 0 ≢ 47) → components text ≡ components (take i text) ++ drop (i + 1) text ∷ []
cut_at_last text i inside here after =
    ap components (sym (take-append-drop i text) ∙ ap (λ (t : Text). take i text ++ t) (drop_more text i 0 inside ∙ ap (λ (b : ℕ). b ∷ drop (i + 1) text) here))
    ∙ cut_at (take i text) (drop (i + 1) text) (unslashed-reads (drop (i + 1) text) (λ k below same. after (i + 1 + k) (omega arith) (omega (arith, length-drop (i + 1) text)) (sym (get_or-drop (i + 1) text k 0) ∙ same)))

-- what stands before the last slash of a text and after it, or that there is none
CutsLast : Text → Type 0
CutsLast text = (list_any is_slash text ≡ false) ⊎ ((front : Text) × (back : Text) × (text ≡ front ++ 47 ∷ back) × (list_any is_slash back ≡ false))

cuts_more : (s : Bool) (b : ℕ) (bs : Text) → is_slash b ≡ s → CutsLast bs → CutsLast (b ∷ bs)
unfolding CutsLast
cuts_more true b bs e (inl h) = inr (record { 0 = []; 1 = bs; 2 = ap (λ (c : ℕ). c ∷ bs) (eqb-true b 47 e); 3 = h })
cuts_more true b bs e (inr h) = inr (record { 0 = b ∷ h.0; 1 = h.1; 2 = ap (λ (t : Text). b ∷ t) h.2; 3 = h.3 })
cuts_more false b bs e (inl h) = inl (ap (λ (s : Bool). s || list_any is_slash bs) e ∙ h)
cuts_more false b bs e (inr h) = inr (record { 0 = b ∷ h.0; 1 = h.1; 2 = ap (λ (t : Text). b ∷ t) h.2; 3 = h.3 })

cuts_last : (text : Text) → CutsLast text
unfolding CutsLast
cuts_last [] = inl refl
cuts_last (b ∷ bs) = cuts_more (is_slash b) b bs refl (cuts_last bs)

-- what the parts of a path are
pub record IsCut (path : Text) : Type 0 where
  pub dir : is_canonical (parent path) ≡ true
  pub name : is_name (name_of path) ≡ true
  pub whole : join (parent path) (name_of path) ≡ path

cut_of : (path front back : Text) → parent path ≡ or_root front → name_of path ≡ back → is_canonical (or_root front) ≡ true → is_name back ≡ true → join (or_root front) back ≡ path → IsCut path
cut_of path front back p n c i j = record {
  dir = ap is_canonical p ∙ c;
  name = ap is_name n ∙ i;
  whole = ap (λ (d : Text). join d (name_of path)) p ∙ ap (join (or_root front)) n ∙ j;
}

lone_name : (back : Text) → list_any is_slash back ≡ false → list_all is_name (components back) ≡ true → is_name back ≡ true
lone_name back h all = (both _ _ (sym (ap (list_all is_name) (components-unslashed back h)) ∙ all)).0

not_empty : (b : Bool) (c : Bool) → (b || c) ≡ true → b ≡ false → c ≡ true
not_empty true c h e = cc
not_empty false c h e = h

nonempty_name : (back : Text) → is_root (47 ∷ back) ≡ false → is_empty back ≡ false
nonempty_name [] h = cc
nonempty_name (b ∷ bs) h = refl

or_all : (b : Bool) → (b || true) ≡ true
or_all true = refl
or_all false = refl

filled : (xs ys : Text) (y : ℕ) → is_empty (xs ++ y ∷ ys) ≡ false
filled [] ys y = refl
filled (x ∷ xs) ys y = refl

all_named : (xs back : Text) → begins_named (47 ∷ xs ++ 47 ∷ back) ≡ true → (list_all is_name (components xs) ≡ true) × (list_all is_name (components back) ≡ true)
all_named xs back c =
    let all : list_all is_name (components (xs ++ 47 ∷ back)) ≡ true = not_empty (is_empty (xs ++ 47 ∷ back)) _ c (filled xs back 47) in
    both _ _ (sym (list_all-append is_name (components xs) (components back)) ∙ sym (ap (list_all is_name) (components-append xs back)) ∙ all)

front_not_root : (x : ℕ) (xs : Text) → list_all is_name (components xs) ≡ true → is_root (x ∷ xs) ≡ false
front_not_root x [] all = let no : is_empty {A = ℕ} [] ≡ false = named [] (both _ _ all).0 in cc
front_not_root x (y ∷ ys) all = and_false (is_slash x)

unrooted : (b : Bool) (dir back : Text) → is_root dir ≡ false → stem dir ++ 47 ∷ back ≡ dir ++ 47 ∷ back
unrooted b dir back r = ap (λ (c : Bool). cond c [] dir ++ 47 ∷ back) r

cut_parts : (path front back : Text) → path ≡ front ++ 47 ∷ back → parent path ≡ or_root front → name_of path ≡ back → list_any is_slash back ≡ false → is_canonical path ≡ true → is_root path ≡ false → IsCut path
unfolding is_canonical join
cut_parts path [] back is p n bare c r =
    let name : is_name back ≡ true = lone_name back bare (not_empty (is_empty back) _ (both (is_slash 47) (is_empty back || list_all is_name (components back)) (sym (ap begins_named is) ∙ c)).1 (nonempty_name back (sym (ap is_root is) ∙ r))) in
    cut_of path [] back p n refl name (sym is)
cut_parts path (x ∷ xs) back is p n bare c r =
    let slash = (both (is_slash x) (is_empty (xs ++ 47 ∷ back) || list_all is_name (components (xs ++ 47 ∷ back))) (sym (ap begins_named is) ∙ c)).0 in
    let all = all_named xs back (ap (λ (y : ℕ). begins_named (y ∷ xs ++ 47 ∷ back)) (sym (eqb-true x 47 slash)) ∙ sym (ap begins_named is) ∙ c) in
    cut_of path (x ∷ xs) back p n (ap (λ (b : Bool). b && (is_empty xs || list_all is_name (components xs))) slash ∙ ap (λ (b : Bool). is_empty xs || b) all.0 ∙ or_all (is_empty xs))
    (lone_name back bare all.1) (unrooted true (x ∷ xs) back (front_not_root x xs all.0) ∙ sym is)

first_slash : (path : Text) → is_canonical path ≡ true → list_any is_slash path ≡ false → ⊥
unfolding is_canonical
first_slash [] c none = cc
first_slash (x ∷ xs) c none = let no = (either (is_slash x) _ none).0 in let yes = (both (is_slash x) _ c).0 in cc

-- each path but the root is the path of a name in a directory
pub path-is_cut : (path : Text) → is_canonical path ≡ true → is_root path ≡ false → IsCut path
unfolding CutsLast
path-is_cut path c r = elim (cuts_last path) [
  | inl h ↦ absurd (first_slash path c h)
  | inr h ↦ let at : components path ≡ components h.0 ++ h.1 ∷ [] = ap components h.2 ∙ cut_at h.0 h.1 h.3 in cut_parts path h.0 h.1 h.2 (parent_by path h.0 h.1 at) (name_by path h.0 h.1 at) h.3 c r
]

is_the_root : (path : Text) → is_root path ≡ true → path ≡ root
is_the_root path h = (bytes_decides path root).0 h

-- the directory that a path stands in
pub parent-canonical : (path : Text) → is_canonical path ≡ true → is_canonical (parent path) ≡ true
unfolding parent
parent-canonical path c = elim (is_root path) as (λ (b : Bool). is_root path ≡ b → is_canonical (parent path) ≡ true) [
  | true ↦ λ r. ap (λ (p : Text). is_canonical (parent p)) (is_the_root path r) ∙ root-canonical
  | false ↦ λ r. (path-is_cut path c r).dir
] refl

-- The path of a name in a directory has these two parts.

join-cut : (dir name : Text) → is_name name ≡ true → components (join dir name) ≡ components (stem dir) ++ name ∷ []
unfolding join
join-cut dir name h = components-append (stem dir) name ∙ ap (λ (ts : List Text). components (stem dir) ++ ts) (components-alone name (name-unbarred name h))

or_root-stem : (dir : Text) → is_canonical dir ≡ true → or_root (stem dir) ≡ dir
unfolding is_canonical
or_root-stem [] c = cc
or_root-stem (x ∷ xs) c = elim (is_root (x ∷ xs)) as (λ (b : Bool). is_root (x ∷ xs) ≡ b → or_root (cond b [] (x ∷ xs)) ≡ x ∷ xs) [
  | true ↦ λ r. sym (is_the_root (x ∷ xs) r)
  | false ↦ λ r. refl
] refl

pub parent-join : (dir name : Text) → is_canonical dir ≡ true → is_name name ≡ true → parent (join dir name) ≡ dir
parent-join dir name c h = parent_by (join dir name) (stem dir) name (join-cut dir name h) ∙ or_root-stem dir c

pub name_of-join : (dir name : Text) → is_name name ≡ true → name_of (join dir name) ≡ name
name_of-join dir name h = name_by (join dir name) (stem dir) name (join-cut dir name h)

pub join-not_root : (dir name : Text) → is_name name ≡ true → is_root (join dir name) ≡ false
unfolding join
join-not_root dir name h = not_root (stem dir) name (named name h)

pub is_in-join : (dir name : Text) → is_canonical dir ≡ true → is_name name ≡ true → is_in dir (join dir name) ≡ true
unfolding is_in
is_in-join dir name c h = ap (λ (b : Bool). not b && same_text (parent (join dir name)) dir) (join-not_root dir name h) ∙ (bytes_decides _ dir).1 (parent-join dir name c h)

-- what stands in a directory is there by its last name
pub is_in-is : (dir path : Text) → is_in dir path ≡ true → (is_root path ≡ false) × (parent path ≡ dir)
unfolding is_in
is_in-is dir path h = let e = both (not (is_root path)) _ h in (denied _ e.0, (bytes_decides _ _).0 e.1)

pub join-is_in : (dir path : Text) → is_canonical path ≡ true → is_in dir path ≡ true → (join dir (name_of path) ≡ path) × (is_name (name_of path) ≡ true)
join-is_in dir path c h =
    let e = is_in-is dir path h in
    let k = path-is_cut path c e.0 in
    (ap (λ (d : Text). join d (name_of path)) (sym e.1) ∙ k.whole, k.name)

-- what stands in a directory is one step down
pub depth-is_in : (dir path : Text) → is_canonical path ≡ true → is_in dir path ≡ true → depth path ≡ depth dir + 1
depth-is_in dir path c h = let j = join-is_in dir path c h in ap depth (sym j.0) ∙ depth-join dir (name_of path) j.1
