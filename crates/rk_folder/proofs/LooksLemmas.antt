-- What is asked of a folder in a look at it.
use Rattle.std.proofs.Common.{◌≡◌, ℕ, zero, suc, ◌+◌, ◌<◌, ◌++◌, ◌∷◌, [], List, length, drop, get_or, Bool, true, false, cond, Option, Some, None, IfSome, refl, sym, ap, subst, ◌∙◌, add-one, drop-cons}
use Rattle.std.specs.Prelude.{flat_map}
use Rattle.rk_base.specs.Text.{Text, root, join, same_text}
use Rattle.rk_folder.specs.Told.{Held, standing, is_dir, items_of}
use Rattle.rk_folder.specs.Hidden.{hidden_dir, attrs_file, db_file, install_file}
use Rattle.rk_folder.specs.Schedule.{MakesCalls, Schedule}
use Rattle.rk_folder.specs.Looks.{LooksInOrder, item_looks, lists, looks, looks_within, reads, reads_unless, state_looks, state_reads}
use Rattle.rk_folder.specs.declared.folder.FolderCall.{FolderCall}
use Rattle.rk_folder.specs.declared.folder.Item.{Item}
use Rattle.rk_folder.specs.declared.folder.Item.TheVariants as item
use Rattle.rk_folder.specs.declared.folder.Standing.{Standing}
use Rattle.rk_folder.specs.declared.folder.Standing.TheVariants.{Dir}
use Rattle.rk_folder.proofs.ReadingLemmas.{ToldItems}
use Rattle.rk_folder.proofs.CallsLemmas.{makes-first, makes-none, makes-same, makes-then}

pub looks-as : (told : Option Held) (some : List FolderCall) (all : Held → List FolderCall) (before now : Option Schedule) → ((held : Held) → MakesCalls some before now → MakesCalls (all held) before now) → MakesCalls some before now → LooksInOrder told all before now
looks-as None some all before now h calls = tt
looks-as (Some held) some all before now h calls = h held calls

-- nothing was asked
pub looks-none : (told : Option Held) (all : Held → List FolderCall) (schedule : Option Schedule) → LooksInOrder told all schedule schedule
looks-none None all schedule = tt
looks-none (Some held) all schedule = makes-none (all held) schedule schedule refl

pub looks-same : (told : Option Held) (all : Held → List FolderCall) (before now : Option Schedule) → now ≡ before → LooksInOrder told all before now
looks-same None all before now same = tt
looks-same (Some held) all before now same = makes-none (all held) before now same

-- In a list of what is listed.

-- what was asked so far, with whatever of the rest is asked then, is some of all
pub record LooksSoFar (cost : Item → List FolderCall) (left all : List Item) (before now : Option Schedule) : Type 0 where
  pub first : List FolderCall
  pub rest : first ++ flat_map cost left ≡ flat_map cost all
  pub calls : MakesCalls first before now

pub looks-start : (told : Option Held) (cost : Held → Item → List FolderCall) (all : List Item) (before now : Option Schedule) → now ≡ before → IfSome told (λ held. LooksSoFar (cost held) all all before now)
looks-start None cost all before now same = tt
looks-start (Some held) cost all before now same = record { first = []; rest = refl; calls = makes-none [] before now same }

joined : (a b c : List FolderCall) → (a ++ b) ++ c ≡ a ++ (b ++ c)
joined [] b c = refl
joined (call ∷ a) b c = ap (λ (x : List FolderCall). call ∷ x) (joined a b c)

next : (cost : Item → List FolderCall) (all : List Item) (i : ℕ) (it : Item) (before on now : Option Schedule) → i < length all → it ≡ get_or all i it → LooksSoFar cost (drop i all) all before on → MakesCalls (cost it) on now → LooksSoFar cost (drop (i + 1) all) all before now
next cost all i it before on now h is so calls =
    let split : drop i all ≡ it ∷ drop (i + 1) all = rw (add-one, drop-cons all i it h) (ap (λ (x : Item). x ∷ drop (suc i) all) (sym is)) in
    record {
      first = so.first ++ cost it;
      rest = joined so.first (cost it) (flat_map cost (drop (i + 1) all)) ∙ sym (ap (λ (its : List Item). so.first ++ flat_map cost its) split) ∙ so.rest;
      calls = makes-then so.first (cost it) before on now so.calls calls;
    }

pub looks-next : (first told : Option Held) (cost : Held → Item → List FolderCall) (all : List Item) (i : ℕ) (it : Item) (before on now : Option Schedule) → told ≡ first → i < length all → it ≡ get_or all i it → IfSome first (λ held. LooksSoFar (cost held) (drop i all) all before on) → LooksInOrder told (λ held. cost held it) on now → IfSome first (λ held. LooksSoFar (cost held) (drop (i + 1) all) all before now)
looks-next first told cost all i it before on now same h is so calls =
    by_told first (subst (λ (t : Option Held). LooksInOrder t (λ held. cost held it) on now) same calls) so
  where
    by_told : (t : Option Held) → LooksInOrder t (λ held. cost held it) on now → IfSome t (λ held. LooksSoFar (cost held) (drop i all) all before on) → IfSome t (λ held. LooksSoFar (cost held) (drop (i + 1) all) all before now)
    by_told None calls so = tt
    by_told (Some held) calls so = next (cost held) all i it before on now h is so calls

pub looks-last : (told : Option Held) (cost : Held → Item → List FolderCall) (left all : List Item) (before now : Option Schedule) → IfSome told (λ held. LooksSoFar (cost held) left all before now) → LooksInOrder told (λ held. flat_map (cost held) all) before now
looks-last None cost left all before now so = tt
looks-last (Some held) cost left all before now so =
    makes-same (so.first ++ flat_map (cost held) left) (flat_map (cost held) all) before now so.rest (makes-first so.first (flat_map (cost held) left) before now so.calls)

-- What is listed.

pub dir-hidden : (told : Option Held) (m : ℕ) (path dir name : Text) (b : Bool) (before now : Option Schedule) → path ≡ join dir name → b ≡ same_text path hidden_dir → b ≡ true → MakesCalls (lists hidden_dir) before now → LooksInOrder told (λ held. item_looks (looks_within m held) dir (item.Dir name)) before now
dir-hidden told m path dir name b before now at is on calls =
    let hides : same_text (join dir name) hidden_dir ≡ true = ap (λ (p : Text). same_text p hidden_dir) (sym at) ∙ sym is ∙ on in
    looks-as told (lists hidden_dir) (λ held. item_looks (looks_within m held) dir (item.Dir name)) before now
    (λ held c. makes-same (lists hidden_dir) (item_looks (looks_within m held) dir (item.Dir name)) before now (sym (ap (λ (h : Bool). cond h (lists hidden_dir) (looks_within m held (join dir name))) hides)) c) calls

pub dir-within : (told : Option Held) (m n : ℕ) (path dir name : Text) (b : Bool) (before now : Option Schedule) → path ≡ join dir name → b ≡ same_text path hidden_dir → b ≡ false → n ≡ m → LooksInOrder told (λ held. looks_within n held path) before now → LooksInOrder told (λ held. item_looks (looks_within m held) dir (item.Dir name)) before now
dir-within None m n path dir name b before now at is off same calls = tt
dir-within (Some held) m n path dir name b before now at is off same calls =
    let hides : same_text (join dir name) hidden_dir ≡ false = ap (λ (p : Text). same_text p hidden_dir) (sym at) ∙ sym is ∙ off in
    let takes : looks_within n held path ≡ looks_within m held (join dir name) = ap (λ (k : ℕ). looks_within k held path) same ∙ ap (looks_within m held) at in
    let cost : looks_within n held path ≡ item_looks (looks_within m held) dir (item.Dir name) = takes ∙ sym (ap (λ (h : Bool). cond h (lists hidden_dir) (looks_within m held (join dir name))) hides) in
    makes-same (looks_within n held path) (item_looks (looks_within m held) dir (item.Dir name)) before now cost calls

-- its listing comes first
listed : (m : ℕ) (held : Held) (dir : Text) (before now : Option Schedule) → MakesCalls (lists dir) before now → MakesCalls (looks_within m held dir) before now
unfolding looks_within
listed zero held dir before now calls = calls
listed (suc m) held dir before now calls = makes-first (lists dir) (flat_map (item_looks (looks_within m held) dir) (items_of held dir)) before now calls

pub all-listed : (told : Option Held) (m : ℕ) (dir : Text) (before now : Option Schedule) → MakesCalls (lists dir) before now → LooksInOrder told (λ held. looks_within m held dir) before now
all-listed told m dir before now calls = looks-as told (lists dir) (λ held. looks_within m held dir) before now (λ held c. listed m held dir before now c) calls

-- and then comes what is listed
abbrev pub below : ℕ → Held → Text → List Item → List FolderCall
below n held dir items = flat_map (item_looks (looks_within n held) dir) items

all-taken_by : (told : Option Held) (m n : ℕ) (dir : Text) (items : List Item) (before on now : Option Schedule) → ToldItems told dir items → m ≡ suc n → MakesCalls (lists dir) before on → LooksInOrder told (λ held. below n held dir items) on now → LooksInOrder told (λ held. looks_within m held dir) before now
unfolding looks_within
all-taken_by None m n dir items before on now listed deep first calls = tt
all-taken_by (Some held) m n dir items before on now listed deep first calls =
    let takes : looks_within m held dir ≡ lists dir ++ below n held dir items = ap (λ (k : ℕ). looks_within k held dir) deep ∙ ap (λ (its : List Item). lists dir ++ below n held dir its) (sym listed.1) in
    makes-same (lists dir ++ below n held dir items) (looks_within m held dir) before now (sym takes) (makes-then (lists dir) (below n held dir items) before on now first calls)

pub all-taken : (told now_told : Option Held) (m n : ℕ) (dir : Text) (items given : List Item) (before on now : Option Schedule) → now_told ≡ told → ToldItems told dir items → given ≡ items → m ≡ suc n → MakesCalls (lists dir) before on → LooksInOrder now_told (λ held. below n held dir given) on now → LooksInOrder told (λ held. looks_within m held dir) before now
all-taken told now_told m n dir items given before on now same listed is deep first calls =
    all-taken_by told m n dir items before on now listed deep first
    (subst (λ (t : Option Held). LooksInOrder t (λ held. below n held dir items) on now) same (subst (λ (its : List Item). LooksInOrder now_told (λ held. below n held dir its) on now) is calls))

pub all-part : (told now_told : Option Held) (n : ℕ) (dir : Text) (items given : List Item) (before now : Option Schedule) → now_told ≡ told → given ≡ items → LooksInOrder now_told (λ held. below n held dir given) before now → LooksInOrder told (λ held. below n held dir items) before now
all-part told now_told n dir items given before now same is calls =
    subst (λ (t : Option Held). LooksInOrder t (λ held. below n held dir items) before now) same (subst (λ (its : List Item). LooksInOrder now_told (λ held. below n held dir its) before now) is calls)

pub root-part : (told now_told : Option Held) (n reach : ℕ) (dir : Text) (items : List Item) (before now : Option Schedule) → now_told ≡ told → dir ≡ root → n ≡ reach → LooksInOrder now_told (λ held. below n held dir items) before now → LooksInOrder told (λ held. below reach held root items) before now
root-part told now_told n reach dir items before now same at is calls =
    subst (λ (t : Option Held). LooksInOrder t (λ held. below reach held root items) before now) same
    (subst (λ (p : Text). LooksInOrder now_told (λ held. below reach held p items) before now) at (subst (λ (k : ℕ). LooksInOrder now_told (λ held. below k held dir items) before now) is calls))

-- The state files.

-- the first alone
pub first-read : (skips_db : Bool) (at : Text) (before now : Option Schedule) → at ≡ attrs_file → MakesCalls (reads at) before now → MakesCalls (state_reads skips_db) before now
first-read skips_db at before now is calls = makes-first (reads attrs_file) (reads_unless skips_db db_file ++ reads install_file) before now (makes-same (reads at) (reads attrs_file) before now (ap reads is) calls)

-- the database too, or it was passed over
pub second-read : (skips_db : Bool) (at db : Text) (before on now : Option Schedule) → at ≡ attrs_file → db ≡ db_file → MakesCalls (reads at) before on → MakesCalls (reads_unless skips_db db) on now → MakesCalls (state_reads skips_db) before now
second-read skips_db at db before on now is is_db first calls =
    makes-then (reads attrs_file) (reads_unless skips_db db_file ++ reads install_file) before on now (makes-same (reads at) (reads attrs_file) before on (ap reads is) first)
    (makes-first (reads_unless skips_db db_file) (reads install_file) on now (makes-same (reads_unless skips_db db) (reads_unless skips_db db_file) on now (ap (reads_unless skips_db) is_db) calls))

unless-read : (passed : Bool) (file : Text) (before now : Option Schedule) → MakesCalls (reads_unless passed file) before now → MakesCalls (reads file) before now
unless-read true file before now calls = makes-first [] (reads file) before now calls
unless-read false file before now calls = calls

-- and the list
pub all-read : (skips_db passed : Bool) (at db install : Text) (before on mid now : Option Schedule) → at ≡ attrs_file → db ≡ db_file → install ≡ install_file → MakesCalls (reads at) before on → MakesCalls (reads_unless skips_db db) on mid → MakesCalls (reads_unless passed install) mid now → MakesCalls (state_reads skips_db) before now
all-read skips_db passed at db install before on mid now is is_db is_install first next calls =
    makes-then (reads attrs_file) (reads_unless skips_db db_file ++ reads install_file) before on now (makes-same (reads at) (reads attrs_file) before on (ap reads is) first)
    (makes-then (reads_unless skips_db db_file) (reads install_file) on mid now (makes-same (reads_unless skips_db db) (reads_unless skips_db db_file) on mid (ap (reads_unless skips_db) is_db) next)
    (makes-same (reads install) (reads install_file) mid now (ap reads is_install) (unless-read passed install mid now calls)))

pub state-read : (told : Option Held) (skips_db : Bool) (before now : Option Schedule) → IfSome told (λ held. standing held hidden_dir ≡ Some Dir) → MakesCalls (state_reads skips_db) before now → LooksInOrder told (state_looks skips_db) before now
state-read None skips_db before now dir calls = tt
state-read (Some held) skips_db before now dir calls =
    let all : state_looks skips_db held ≡ state_reads skips_db = ap (λ (it : Option Standing). cond (is_dir it) (state_reads skips_db) []) dir in
    makes-same (state_reads skips_db) (state_looks skips_db held) before now (sym all) calls

-- All of it.

first-part : (told : Option Held) (skips_db : Bool) (reach : ℕ) (before now : Option Schedule) → LooksInOrder told (λ held. looks_within (suc reach) held root) before now → LooksInOrder told (looks skips_db reach) before now
first-part None skips_db reach before now calls = tt
first-part (Some held) skips_db reach before now calls = makes-first (looks_within (suc reach) held root) (state_looks skips_db held) before now calls

pub looks-listed : (told : Option Held) (skips_db : Bool) (reach : ℕ) (dir : Text) (before now : Option Schedule) → dir ≡ root → MakesCalls (lists dir) before now → LooksInOrder told (looks skips_db reach) before now
looks-listed told skips_db reach dir before now at calls =
    first-part told skips_db reach before now (all-listed told (suc reach) root before now (makes-same (lists dir) (lists root) before now (ap lists at) calls))

looked : (told : Option Held) (reach : ℕ) (before on now : Option Schedule) (items : List Item) → ToldItems told root items → MakesCalls (lists root) before on → LooksInOrder told (λ held. below reach held root items) on now → LooksInOrder told (λ held. looks_within (suc reach) held root) before now
looked told reach before on now items listed first calls = all-taken_by told (suc reach) reach root items before on now listed refl first calls

both-parts : (told : Option Held) (skips_db : Bool) (reach : ℕ) (before on now : Option Schedule) → LooksInOrder told (λ held. looks_within (suc reach) held root) before on → LooksInOrder told (state_looks skips_db) on now → LooksInOrder told (looks skips_db reach) before now
both-parts None skips_db reach before on now first calls = tt
both-parts (Some held) skips_db reach before on now first calls = makes-then (looks_within (suc reach) held root) (state_looks skips_db held) before on now first calls

-- as the calls come: the root is listed, then what is in it is taken, then the state files
module _ (told listed_told : Option Held) (skips_db : Bool) (reach listed_reach : ℕ) (dir : Text) (items given : List Item) (before on : Option Schedule) (same : listed_told ≡ told) (same_reach : listed_reach ≡ reach) (at : dir ≡ root) (listed : ToldItems told dir items) (is : given ≡ items) (first : MakesCalls (lists dir) before on) where
  entries-looked : (now : Option Schedule) → LooksInOrder listed_told (λ held. below listed_reach held root given) on now → LooksInOrder told (λ held. looks_within (suc reach) held root) before now
  entries-looked now calls =
      looked told reach before on now items (subst (λ (p : Text). ToldItems told p items) at listed) (makes-same (lists dir) (lists root) before on (ap lists at) first)
      (all-part told listed_told reach root items given on now same is (subst (λ (k : ℕ). LooksInOrder listed_told (λ held. below k held root given) on now) same_reach calls))

  pub looks-entries : (now : Option Schedule) → LooksInOrder listed_told (λ held. below listed_reach held root given) on now → LooksInOrder told (looks skips_db reach) before now
  looks-entries now calls = first-part told skips_db reach before now (entries-looked now calls)

  pub looks-state : (mid now : Option Schedule) (then : Option Held) → then ≡ listed_told → LooksInOrder listed_told (λ held. below listed_reach held root given) on mid → LooksInOrder then (state_looks skips_db) mid now → LooksInOrder told (looks skips_db reach) before now
  looks-state mid now then same_then calls more = both-parts told skips_db reach before mid now (entries-looked mid calls) (subst (λ (t : Option Held). LooksInOrder t (state_looks skips_db) mid now) (same_then ∙ same) more)
