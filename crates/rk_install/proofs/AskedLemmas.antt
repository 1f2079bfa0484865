-- What an install asks of a folder, call by call.
use Rattle.std.proofs.Common.{◌≡◌, inl, inr, ◌++◌, List, [], ◌∷◌, Bool, true, false, cond, not, Option, Some, None, IfSome, OnErr, OnOk, Result, Ok, Err, option_map, refl, sym, ap, subst, ◌∙◌}
use Rattle.std.specs.List.{list_any}
use Rattle.rk_base.specs.Text.{Text}
use Rattle.rk_folder.specs.Hidden.{hidden_dir, install_file, fresh_list_file}
use Rattle.rk_folder.specs.Schedule.{MakesCalls, Schedule, after_call}
use Rattle.rk_folder.specs.Told.{Held, can_remove_file, without}
use Rattle.rk_folder.specs.declared.folder.FolderCall.{FolderCall}
use Rattle.rk_folder.specs.declared.folder.FolderCall.TheVariants as asks
use Rattle.rk_folder.proofs.CallsLemmas.{makes-first, makes-none, makes-then, one-asked}
use Rattle.rk_seal.specs.Spelling.{install_spelling}
use Rattle.rk_seal.specs.declared.ops.Op.{Op}
use Rattle.rk_seal.specs.declared.ops.Op.TheVariants.{RemoveFile, MakeDir, Write}
use Rattle.rk_install.specs.Asked.{CallsInOrder, CallsOrNone, FailedCall, IsAsked, StopsAt, asked_all, asked_by, calls_of, clearing_calls, hidden_calls, install_calls, other_calls}
use Rattle.rk_install.specs.Calls.{allowed, step}
use Rattle.rk_install.specs.Install.{cleared, makes_hidden, others}
use Rattle.rk_install.specs.declared.calling.InstallErr.{InstallErr}
use Rattle.rk_install.specs.declared.calling.InstallErr.TheVariants.{WriteFault, NoMemory}

-- Calls, and then others.

pub asked-none : (before : Option Schedule) → before ≡ option_map (asked_all []) before
asked-none None = refl
asked-none (Some schedule) = refl

all-append : (xs ys : List FolderCall) (schedule : Schedule) → asked_all (xs ++ ys) schedule ≡ asked_all ys (asked_all xs schedule)
all-append [] ys schedule = refl
all-append (x ∷ xs) ys schedule = all-append xs ys (after_call (x, true) schedule)

both-asked : (xs ys : List FolderCall) (before : Option Schedule) → option_map (asked_all ys) (option_map (asked_all xs) before) ≡ option_map (asked_all (xs ++ ys)) before
both-asked xs ys None = refl
both-asked xs ys (Some schedule) = ap (λ (s : Schedule). Some s) (sym (all-append xs ys schedule))

pub asked-then : (xs ys : List FolderCall) (before on now : Option Schedule) → on ≡ option_map (asked_all xs) before → now ≡ option_map (asked_all ys) on → now ≡ option_map (asked_all (xs ++ ys)) before
asked-then xs ys before on now first next = next ∙ ap (option_map (asked_all ys)) first ∙ both-asked xs ys before

one-more : (call : FolderCall) (calls : List FolderCall) (before : Option Schedule) → option_map (asked_all calls) (option_map (after_call (call, true)) before) ≡ option_map (asked_all (call ∷ calls)) before
one-more call calls None = refl
one-more call calls (Some schedule) = refl

pub asked-one : (call : FolderCall) (calls : List FolderCall) (before on now : Option Schedule) → on ≡ option_map (after_call (call, true)) before → now ≡ option_map (asked_all calls) on → now ≡ option_map (asked_all (call ∷ calls)) before
asked-one call calls before on now first next = next ∙ ap (option_map (asked_all calls)) first ∙ one-more call calls before

pub stops-first : (e : InstallErr) (xs ys : List FolderCall) (before now : Option Schedule) → StopsAt e xs before now → StopsAt e (xs ++ ys) before now
stops-first e [] ys before now stops = absurd stops
stops-first e (x ∷ xs) ys before now (inl last) = inl last
stops-first e (x ∷ xs) ys before now (inr more) = inr (stops-first e xs ys (option_map (after_call (x, true)) before) now more)

stops-on : (e : InstallErr) (xs ys : List FolderCall) (before now : Option Schedule) → StopsAt e ys (option_map (asked_all xs) before) now → StopsAt e (xs ++ ys) before now
stops-on e [] ys before now stops = subst (λ (s : Option Schedule). StopsAt e ys s now) (sym (asked-none before)) stops
stops-on e (x ∷ xs) ys before now stops =
    inr (stops-on e xs ys (option_map (after_call (x, true)) before) now (subst (λ (s : Option Schedule). StopsAt e ys s now) (sym (one-more x xs before)) stops))

pub stops-then : (e : InstallErr) (xs ys : List FolderCall) (before on now : Option Schedule) → on ≡ option_map (asked_all xs) before → StopsAt e ys on now → StopsAt e (xs ++ ys) before now
stops-then e xs ys before on now first stops = stops-on e xs ys before now (subst (λ (s : Option Schedule). StopsAt e ys s now) first stops)

pub stops-one : (e : InstallErr) (call : FolderCall) (calls : List FolderCall) (before on now : Option Schedule) → on ≡ option_map (after_call (call, true)) before → StopsAt e calls on now → StopsAt e (call ∷ calls) before now
stops-one e call calls before on now first stops = inr (subst (λ (s : Option Schedule). StopsAt e calls s now) first stops)

-- The hidden directory.

pub hidden-unasked : (ops : List Op) (b : Bool) (before : Option Schedule) → b ≡ list_any makes_hidden ops → b ≡ false → before ≡ option_map (asked_all (hidden_calls ops)) before
hidden-unasked ops b before is off = asked-none before ∙ ap (λ (m : Bool). option_map (asked_all (cond m (asks.MakeDir hidden_dir ∷ []) [])) before) (sym (sym is ∙ off))

one-in-order : {T : Type 0} (call : FolderCall) (before now : Option Schedule) (result : Result T InstallErr) → IsAsked call before now result → CallsInOrder (call ∷ []) before now result
one-in-order call before now (Ok it) asked = asked-one call [] before now now asked (asked-none now)
one-in-order call before now (Err e) failed = inl failed

pub hidden-asked : {T : Type 0} (ops : List Op) (op : Op) (b : Bool) (before now : Option Schedule) (result : Result T InstallErr) → b ≡ list_any makes_hidden ops → b ≡ true → op ≡ MakeDir hidden_dir → IsAsked (asked_by op) before now result → CallsInOrder (hidden_calls ops) before now result
hidden-asked ops op b before now result is on making asked =
    subst (λ (m : Bool). CallsInOrder (cond m (asks.MakeDir hidden_dir ∷ []) []) before now result) (sym (sym is ∙ on))
    (one-in-order (asks.MakeDir hidden_dir) before now result (subst (λ (o : Op). IsAsked (asked_by o) before now result) making asked))

-- A call that isn't its making.

pub other-unasked : (op : Op) (b : Bool) (before : Option Schedule) → b ≡ makes_hidden op → b ≡ true → before ≡ option_map (asked_all (other_calls op)) before
other-unasked op b before is on = asked-none before ∙ ap (λ (m : Bool). option_map (asked_all (cond m [] (asked_by op ∷ []))) before) (sym (sym is ∙ on))

other_in_order : {T : Type 0} (op : Op) (b : Bool) (before now : Option Schedule) (result : Result T InstallErr) → b ≡ makes_hidden op → b ≡ false → CallsInOrder (asked_by op ∷ []) before now result → CallsInOrder (other_calls op) before now result
other_in_order op b before now result is off calls = subst (λ (m : Bool). CallsInOrder (cond m [] (asked_by op ∷ [])) before now result) (sym (sym is ∙ off)) calls

pub other-asked : (op : Op) (b : Bool) (before now : Option Schedule) → b ≡ makes_hidden op → b ≡ false → now ≡ option_map (after_call (asked_by op, true)) before → now ≡ option_map (asked_all (other_calls op)) before
other-asked op b before now is off asked = other_in_order {T = Unit {0}} op b before now (Ok tt) is off (one-in-order {T = Unit {0}} (asked_by op) before now (Ok tt) asked)

pub other-failed : (e : InstallErr) (op : Op) (b : Bool) (before now : Option Schedule) → b ≡ makes_hidden op → b ≡ false → FailedCall e (asked_by op) before now → StopsAt e (other_calls op) before now
other-failed e op b before now is off failed = other_in_order {T = Unit {0}} op b before now (Err e) is off (inl failed)

-- One of them, and those behind it.

calls_split : (op : Op) (ops : List Op) (m : Bool) → calls_of (cond (not m) (op ∷ others ops) (others ops)) ≡ cond m [] (asked_by op ∷ []) ++ calls_of (others ops)
calls_split op ops true = refl
calls_split op ops false = refl

pub calls-other : (op : Op) (ops : List Op) → calls_of (others (op ∷ ops)) ≡ other_calls op ++ calls_of (others ops)
calls-other op ops = calls_split op ops (makes_hidden op)

pub asked-rest : (op : Op) (rest : List Op) (before now : Option Schedule) → now ≡ option_map (asked_all (other_calls op)) before → option_map (asked_all (calls_of (others rest))) now ≡ option_map (asked_all (calls_of (others (op ∷ rest)))) before
asked-rest op rest before now first =
    ap (option_map (asked_all (calls_of (others rest)))) first ∙ both-asked (other_calls op) (calls_of (others rest)) before
    ∙ ap (λ (calls : List FolderCall). option_map (asked_all calls) before) (sym (calls-other op rest))

pub stops-rest : (e : InstallErr) (op : Op) (rest : List Op) (before on now : Option Schedule) → on ≡ option_map (asked_all (other_calls op)) before → StopsAt e (calls_of (others rest)) on now → StopsAt e (calls_of (others (op ∷ rest))) before now
stops-rest e op rest before on now first stops =
    subst (λ (calls : List FolderCall). StopsAt e calls before now) (sym (calls-other op rest)) (stops-then e (other_calls op) (calls_of (others rest)) before on now first stops)

pub stops-here : (e : InstallErr) (op : Op) (rest : List Op) (before now : Option Schedule) → StopsAt e (other_calls op) before now → StopsAt e (calls_of (others (op ∷ rest))) before now
stops-here e op rest before now stops =
    subst (λ (calls : List FolderCall). StopsAt e calls before now) (sym (calls-other op rest)) (stops-first e (other_calls op) (calls_of (others rest)) before now stops)

pub stops-at : (e : InstallErr) (op : Op) (rest all : List Op) (before now : Option Schedule) → all ≡ op ∷ rest → StopsAt e (other_calls op) before now → StopsAt e (calls_of (others all)) before now
stops-at e op rest all before now split stops = subst (λ (l : List Op). StopsAt e (calls_of (others l)) before now) (sym split) (stops-here e op rest before now stops)

-- A whole install, up to each of its calls. One after another the folder's schedules are `s0` to `s5`.

pub stop-hidden-asked : (e : InstallErr) (ops : List Op) (before now : Option Schedule) → StopsAt e (hidden_calls ops) before now → StopsAt e (install_calls ops) before now
stop-hidden-asked e ops before now stops =
    stops-first e (hidden_calls ops) (asks.Write fresh_list_file ∷ asks.Rename fresh_list_file install_file ∷ (calls_of (others ops) ++ asks.RemoveFile install_file ∷ [])) before now stops

module _ (ops : List Op) (s0 s1 : Option Schedule) (rooted : s1 ≡ option_map (asked_all (hidden_calls ops)) s0) where
  abbrev behind : List FolderCall
  behind = calls_of (others ops) ++ asks.RemoveFile install_file ∷ []

  draft_asks : (draft : Op) → draft ≡ Write fresh_list_file (install_spelling ops) → asked_by draft ≡ asks.Write fresh_list_file
  draft_asks draft is = ap asked_by is

  pub stop-draft-asked : (e : InstallErr) (draft : Op) (now : Option Schedule) → draft ≡ Write fresh_list_file (install_spelling ops) → FailedCall e (asked_by draft) s1 now → StopsAt e (install_calls ops) s0 now
  stop-draft-asked e draft now is failed =
      stops-then e (hidden_calls ops) (asks.Write fresh_list_file ∷ asks.Rename fresh_list_file install_file ∷ behind) s0 s1 now rooted (inl (subst (λ (c : FolderCall). FailedCall e c s1 now) (draft_asks draft is) failed))

  module _ (draft : Op) (s2 : Option Schedule) (is_draft : draft ≡ Write fresh_list_file (install_spelling ops)) (drafted : s2 ≡ option_map (after_call (asked_by draft, true)) s1) where
    drafts : s2 ≡ option_map (after_call (asks.Write fresh_list_file, true)) s1
    drafts = drafted ∙ ap (λ (c : FolderCall). option_map (after_call (c, true)) s1) (draft_asks draft is_draft)

    -- a stop behind the draft
    from_two : (e : InstallErr) (now : Option Schedule) → StopsAt e (asks.Rename fresh_list_file install_file ∷ behind) s2 now → StopsAt e (install_calls ops) s0 now
    from_two e now stops = stops-then e (hidden_calls ops) (asks.Write fresh_list_file ∷ asks.Rename fresh_list_file install_file ∷ behind) s0 s1 now rooted (stops-one e (asks.Write fresh_list_file) (asks.Rename fresh_list_file install_file ∷ behind) s1 s2 now drafts stops)

    names : (fresh seal : Text) → fresh ≡ fresh_list_file → seal ≡ install_file → asks.Rename fresh seal ≡ asks.Rename fresh_list_file install_file
    names fresh seal f s = ap (λ (p : Text). asks.Rename p seal) f ∙ ap (λ (p : Text). asks.Rename fresh_list_file p) s

    pub stop-seal-asked : (e : InstallErr) (fresh seal : Text) (now : Option Schedule) → fresh ≡ fresh_list_file → seal ≡ install_file → FailedCall e (asks.Rename fresh seal) s2 now → StopsAt e (install_calls ops) s0 now
    stop-seal-asked e fresh seal now f s failed = from_two e now (inl (subst (λ (c : FolderCall). FailedCall e c s2 now) (names fresh seal f s) failed))

    module _ (fresh seal : Text) (s3 : Option Schedule) (f : fresh ≡ fresh_list_file) (s : seal ≡ install_file) (sealed : s3 ≡ option_map (after_call (asks.Rename fresh seal, true)) s2) where
      seals : s3 ≡ option_map (after_call (asks.Rename fresh_list_file install_file, true)) s2
      seals = sealed ∙ ap (λ (c : FolderCall). option_map (after_call (c, true)) s2) (names fresh seal f s)

      -- a stop behind the seal
      from_three : (e : InstallErr) (now : Option Schedule) → StopsAt e behind s3 now → StopsAt e (install_calls ops) s0 now
      from_three e now stops = from_two e now (stops-one e (asks.Rename fresh_list_file install_file) behind s2 s3 now seals stops)

      pub stop-others-asked : (e : InstallErr) (now : Option Schedule) → StopsAt e (calls_of (others ops)) s3 now → StopsAt e (install_calls ops) s0 now
      stop-others-asked e now stops = from_three e now (stops-first e (calls_of (others ops)) (asks.RemoveFile install_file ∷ []) s3 now stops)

      module _ (s4 : Option Schedule) (made : s4 ≡ option_map (asked_all (calls_of (others ops))) s3) (unsealing : Op) (is_unsealing : unsealing ≡ RemoveFile install_file) where
        unseal_asks : asked_by unsealing ≡ asks.RemoveFile install_file
        unseal_asks = ap asked_by is_unsealing

        pub stop-last-asked : (e : InstallErr) (now : Option Schedule) → FailedCall e (asked_by unsealing) s4 now → StopsAt e (install_calls ops) s0 now
        stop-last-asked e now failed =
            from_three e now (stops-then e (calls_of (others ops)) (asks.RemoveFile install_file ∷ []) s3 s4 now made (inl (subst (λ (c : FolderCall). FailedCall e c s4 now) unseal_asks failed)))

        pub all-asked : (s5 : Option Schedule) → s5 ≡ option_map (after_call (asked_by unsealing, true)) s4 → s5 ≡ option_map (asked_all (install_calls ops)) s0
        all-asked s5 last =
            let unsealed : s5 ≡ option_map (asked_all (asks.RemoveFile install_file ∷ [])) s4 = asked-one (asks.RemoveFile install_file) [] s4 s5 s5 (last ∙ ap (λ (c : FolderCall). option_map (after_call (c, true)) s4) unseal_asks) (asked-none s5) in
            let rest : s5 ≡ option_map (asked_all behind) s3 = asked-then (calls_of (others ops)) (asks.RemoveFile install_file ∷ []) s3 s4 s5 made unsealed in
            let from_seal : s5 ≡ option_map (asked_all (asks.Rename fresh_list_file install_file ∷ behind)) s2 = asked-one (asks.Rename fresh_list_file install_file) behind s2 s3 s5 seals rest in
            let from_draft : s5 ≡ option_map (asked_all (asks.Write fresh_list_file ∷ asks.Rename fresh_list_file install_file ∷ behind)) s1 = asked-one (asks.Write fresh_list_file) (asks.Rename fresh_list_file install_file ∷ behind) s1 s2 s5 drafts from_seal in
            asked-then (hidden_calls ops) (asks.Write fresh_list_file ∷ asks.Rename fresh_list_file install_file ∷ behind) s0 s1 s5 rooted from_draft

-- All memory of an install's own is taken before its first call.
pub or-none : {T : Type 0} (calls : List FolderCall) (before now : Option Schedule) (result : Result T InstallErr) → CallsInOrder calls before now result → CallsOrNone calls before now result
or-none calls before now (Ok it) made = made
or-none calls before now (Err WriteFault) made = made
or-none calls before now (Err NoMemory) made = inr made

-- A list that isn't sealed.

pub told-cleared_not : (told : Option Held) (b : Bool) → b ≡ false → told ≡ option_map (cleared b) told
told-cleared_not None b off = refl
told-cleared_not (Some held) b off = sym (ap (λ (m : Bool). Some (cleared m held)) off)

cleared_by : (told : Option Held) (b : Bool) → b ≡ true → option_map (without fresh_list_file) told ≡ option_map (cleared b) told
cleared_by None b on = refl
cleared_by (Some held) b on = sym (ap (λ (m : Bool). Some (cleared m held)) on)

pub told-cleared : {T : Type 0} (told new : Option Held) (b : Bool) (path : Text) (result : Result T InstallErr) → b ≡ true → path ≡ fresh_list_file → OnOk result (new ≡ option_map (step (RemoveFile path)) told) → OnOk result (new ≡ option_map (cleared b) told)
told-cleared told new b path (Ok it) on at made = made ∙ ap (λ (p : Text). option_map (without p) told) at ∙ cleared_by told b on
told-cleared told new b path (Err e) on at made = tt

pub told-may_clear : (told : Option Held) (b : Bool) (path : Text) → IfSome told (λ held. b ≡ true → can_remove_file fresh_list_file held ≡ true) → b ≡ true → path ≡ fresh_list_file → IfSome told (λ held. allowed (RemoveFile path) held ≡ true)
told-may_clear None b path may on at = tt
told-may_clear (Some held) b path may on at = ap (λ (p : Text). can_remove_file p held) at ∙ may on

pub clear-unasked : (b : Bool) (before : Option Schedule) → b ≡ false → before ≡ option_map (asked_all (clearing_calls b)) before
clear-unasked b before off = asked-none before ∙ ap (λ (m : Bool). option_map (asked_all (clearing_calls m)) before) (sym off)

pub clear-asked : {T : Type 0} (b : Bool) (path : Text) (before now : Option Schedule) (result : Result T InstallErr) → b ≡ true → path ≡ fresh_list_file → IsAsked (asks.RemoveFile path) before now result → CallsOrNone (clearing_calls b) before now result
clear-asked b path before now result on at asked =
    subst (λ (m : Bool). CallsOrNone (clearing_calls m) before now result) (sym on)
    (or-none (asks.RemoveFile fresh_list_file ∷ []) before now result (one-in-order (asks.RemoveFile fresh_list_file) before now result (subst (λ (p : Text). IsAsked (asks.RemoveFile p) before now result) at asked)))

-- of no calls, a stop leaves all as it was
pub none-stops : {T : Type 0} (told new : Option Held) (result : Result T InstallErr) → OnErr result (new ≡ told) → OnErr result (IfSome told (λ held. new ≡ Some held))
none-stops told new (Ok it) same = tt
none-stops None new (Err e) same = tt
none-stops (Some held) new (Err e) same = same

-- So a folder is asked for these calls and for no other.

all-made : (calls : List FolderCall) (before : Option Schedule) → MakesCalls calls before (option_map (asked_all calls) before)
all-made [] None = makes-none [] None None refl
all-made [] (Some schedule) = makes-none [] (Some schedule) (Some schedule) refl
all-made (call ∷ calls) None = makes-then (call ∷ []) calls None None None (makes-none (call ∷ []) None None refl) (all-made calls None)
all-made (call ∷ calls) (Some schedule) =
    let on : Schedule = after_call (call, true) schedule in
    makes-then (call ∷ []) calls (Some schedule) (Some on) (Some (asked_all calls on)) (one-asked call true (Some schedule) (Some on) refl) (all-made calls (Some on))

failed-made : (e : InstallErr) (call : FolderCall) (before now : Option Schedule) → FailedCall e call before now → MakesCalls (call ∷ []) before now
failed-made WriteFault call before now last = one-asked call true before now last
failed-made NoMemory call before now (inl last) = one-asked call true before now last
failed-made NoMemory call before now (inr last) = one-asked call false before now last

some-made : (e : InstallErr) (calls : List FolderCall) (before now : Option Schedule) → StopsAt e calls before now → MakesCalls calls before now
some-made e [] before now stops = absurd stops
some-made e (call ∷ calls) before now (inl last) = makes-first (call ∷ []) calls before now (failed-made e call before now last)
some-made e (call ∷ calls) before now (inr more) =
    let on : Option Schedule = option_map (after_call (call, true)) before in
    makes-then (call ∷ []) calls before on now (one-asked call true before on refl) (some-made e calls on now more)

pub install-makes : {T : Type 0} (calls : List FolderCall) (before now : Option Schedule) (result : Result T InstallErr) → CallsOrNone calls before now result → MakesCalls calls before now
install-makes calls before now (Ok it) made = subst (λ (n : Option Schedule). MakesCalls calls before n) (sym made) (all-made calls before)
install-makes calls before now (Err WriteFault) made = some-made WriteFault calls before now made
install-makes calls before now (Err NoMemory) (inl same) = makes-none calls before now same
install-makes calls before now (Err NoMemory) (inr made) = some-made NoMemory calls before now made
