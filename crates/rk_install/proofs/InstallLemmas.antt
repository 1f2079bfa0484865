-- An install that is sealed, and what a stop leaves of it.
use Rattle.std.proofs.Common.{◌≡◌, inl, inr, List, [], ◌∷◌, length, ◌<◌, ◌^◌, Bool, true, false, not, ◌||◌, cond, nat_lt, Option, Some, None, IfSome, option_map, refl, sym, ap, subst, ◌∙◌}
use Rattle.std.specs.List.{list_all, list_any}
use Rattle.rk_base.specs.Text.{Text, is_within, join, parent, same_text}
use Rattle.rk_base.specs.Canonical.{is_canonical}
use Rattle.rk_base.proofs.CanonicalLemmas.{both}
use Rattle.rk_tree.proofs.TextLemmas.{told_apart, same_is, same_itself}
use Rattle.rk_folder.specs.Hidden.{hidden_dir, install_file, fresh_list_file}
use Rattle.rk_folder.specs.Told.{Held, bytes_in, can_make_dir, can_remove_file, can_rename, can_write, is_dir, is_nothing, renamed, standing, with_any, with_standing, without}
use Rattle.rk_folder.specs.Whole.{IsWhole}
use Rattle.rk_folder.specs.declared.folder.Standing.{Standing}
use Rattle.rk_folder.specs.declared.folder.Standing.TheVariants.{File, Dir, Special}
use Rattle.rk_folder.proofs.HeldLemmas.{renamed-apart, standing-with, standing-without, still_file, same_path}
use Rattle.rk_folder.proofs.HiddenLemmas.{fresh_list_text-canonical, hidden_text-canonical, install_text-canonical}
use Rattle.rk_folder.proofs.WholeLemmas.{whole-make_dir, whole-put, whole-remove_file}
use Rattle.rk_seal.specs.Ops.{are_calls, group, is_call, path_of}
use Rattle.rk_seal.specs.Spelling.{install_spelling}
use Rattle.rk_seal.specs.declared.ops.Op.{Op}
use Rattle.rk_seal.specs.declared.ops.Op.TheVariants.{RemoveFile, RemoveDir, MakeDir, Write}
use Rattle.rk_install.specs.Calls.{AllowsAll, DamagedBy, after_all, allowed, left_by, step}
use Rattle.rk_install.specs.Halfway.{AllCanonical, AllReady, AllWhole, Halfway, IsReady, IsStopped}
use Rattle.rk_install.specs.Install.{AllowsInstall, AllowsSeal, LeadsSame, StaysUnsealed, StopsSealed, StopsSo, drafted, installed, makes_hidden, others, rooted, sealed, step_other}
use Rattle.rk_install.specs.Recovery.{IsSealed, sealed_in, unsealed}
use Rattle.rk_install.proofs.HalfwayLemmas.{stays-whole, step-same, stops-halfway}
use Rattle.rk_install.proofs.SealLemmas.{call_parts, each-call, seal-stopped}
use Rattle.rk_install.proofs.StepLemmas.{standing-step}

clash : (b : Bool) → b ≡ true → b ≡ false → ⊥
clash b t f = cc

-- The making of the hidden directory, and the other calls.

pub hidden_making : (op : Op) → makes_hidden op ≡ true → op ≡ MakeDir hidden_dir
hidden_making (RemoveFile path) h = cc
hidden_making (RemoveDir path) h = cc
hidden_making (MakeDir path) h = ap (λ (p : Text). MakeDir p) (same_is path hidden_dir h)
hidden_making (Write path bytes) h = cc

lands : Op → Bool
lands op = not (is_within hidden_dir hidden_dir) || nat_lt 2 (group op)

-- no other call is at its path
lands_not : (op : Op) → makes_hidden op ≡ false → path_of op ≡ hidden_dir → lands op ≡ false
unfolding is_within join lands
lands_not (RemoveFile path) other at = ap (λ (p : Text). nat_lt 2 (group (RemoveFile p))) at
lands_not (RemoveDir path) other at = refl
lands_not (MakeDir path) other at = absurd (clash (makes_hidden (MakeDir path)) (ap (λ (p : Text). same_text p hidden_dir) at ∙ same_itself hidden_dir) other)
lands_not (Write path bytes) other at = ap (λ (p : Text). nat_lt 2 (group (Write p bytes))) at

elsewhere : (op : Op) → is_call op ≡ true → makes_hidden op ≡ false → path_of op ≡ hidden_dir → ⊥
unfolding lands
elsewhere op h other at = clash (lands op) (ap (λ (p : Text). not (is_within hidden_dir p) || nat_lt 2 (group op)) (sym at) ∙ (call_parts op h).1) (lands_not op other at)

abbrev pub StandsHidden : Held → Type 0
StandsHidden held = standing held hidden_dir ≡ Some Dir

pub hidden_kept : (op : Op) (held : Held) → is_call op ≡ true → makes_hidden op ≡ false → StandsHidden held → StandsHidden (step op held)
hidden_kept op held h other at = elim (told_apart hidden_dir (path_of op)) [
  | inl same ↦ absurd (elsewhere op h other (sym same.0))
  | inr apart ↦ standing-step op held hidden_dir ∙ ap (λ (b : Bool). cond b (left_by op) (standing held hidden_dir)) apart.1 ∙ at
]

-- where it stands, making it changes nothing
making_same : (op : Op) (held : Held) → makes_hidden op ≡ true → StandsHidden held → (step op held ≡ held) × (standing held (path_of op) ≡ left_by op)
making_same op held h at =
    let is = hidden_making op h in
    let stands : standing held (path_of op) ≡ left_by op = ap (λ (o : Op). standing held (path_of o)) is ∙ at ∙ sym (ap left_by is) in
    (step-same op held stands, stands)

-- The whole list, from a folder in which the hidden directory stands.

ready_by : (op : Op) (ops : List Op) (held : Held) (m : Bool) → is_call op ≡ true → makes_hidden op ≡ m → StandsHidden held → ((h : Held) → StandsHidden h → AllowsAll (others ops) h → AllReady ops h) → AllowsAll (cond (not m) (op ∷ others ops) (others ops)) held → IsReady op held × AllReady ops (step op held)
ready_by op ops held true call e at rest may = let same = making_same op held e at in (inr same.1, subst (AllReady ops) (sym same.0) (rest held at may))
ready_by op ops held false call e at rest may = (inl may.0, rest (step op held) (hidden_kept op held call e at) may.1)

all_ready : (ops : List Op) (held : Held) → list_all is_call ops ≡ true → StandsHidden held → AllowsAll (others ops) held → AllReady ops held
all_ready [] held all at may = tt
all_ready (op ∷ ops) held all at may =
    let a = both (is_call op) (list_all is_call ops) all in
    ready_by op ops held (makes_hidden op) a.0 refl at (λ h s k. all_ready ops h a.1 s k) may

stop_by : (op : Op) (ops : List Op) (held : Held) (new : Option Held) (m : Bool) → is_call op ≡ true → makes_hidden op ≡ m → StandsHidden held → ((h : Held) → StandsHidden h → IsStopped (others ops) (Some h) new → IsStopped ops (Some h) new) → IsStopped (cond (not m) (op ∷ others ops) (others ops)) (Some held) new
    → IsStopped (op ∷ ops) (Some held) new
stop_by op ops held new true call e at rest stop = inr (subst (λ (h : Held). IsStopped ops (Some h) new) (sym (making_same op held e at).0) (rest held at stop))
stop_by op ops held new false call e at rest (inl left) = inl left
stop_by op ops held new false call e at rest (inr later) = inr (rest (step op held) (hidden_kept op held call e at) later)

whole_stop : (ops : List Op) (held : Held) (new : Option Held) → list_all is_call ops ≡ true → StandsHidden held → IsStopped (others ops) (Some held) new → IsStopped ops (Some held) new
whole_stop [] held new all at stop = stop
whole_stop (op ∷ ops) held new all at stop =
    let a = both (is_call op) (list_all is_call ops) all in
    stop_by op ops held new (makes_hidden op) a.0 refl at (λ h s k. whole_stop ops h new a.1 s k) stop

list_by : (op : Op) (ops : List Op) (held : Held) (m : Bool) → is_call op ≡ true → makes_hidden op ≡ m → StandsHidden held → ((h : Held) → StandsHidden h → after_all (others ops) h ≡ after_all ops h) → after_all (cond (not m) (op ∷ others ops) (others ops)) held ≡ after_all ops (step op held)
list_by op ops held true call e at rest = rest held at ∙ ap (after_all ops) (sym (making_same op held e at).0)
list_by op ops held false call e at rest = rest (step op held) (hidden_kept op held call e at)

whole_list : (ops : List Op) (held : Held) → list_all is_call ops ≡ true → StandsHidden held → after_all (others ops) held ≡ after_all ops held
whole_list [] held all at = refl
whole_list (op ∷ ops) held all at =
    let a = both (is_call op) (list_all is_call ops) all in
    list_by op ops held (makes_hidden op) a.0 refl at (λ h s. whole_list ops h a.1 s)

-- The folder at the moment at which the list is sealed.

pub hidden-canonical : is_canonical hidden_dir ≡ true
unfolding join
hidden-canonical = hidden_text-canonical

fresh-canonical : is_canonical fresh_list_file ≡ true
unfolding join
fresh-canonical = fresh_list_text-canonical

install-canonical : is_canonical install_file ≡ true
unfolding join
install-canonical = install_text-canonical

fresh_parent : parent fresh_list_file ≡ hidden_dir
unfolding parent join
fresh_parent = refl

fresh_not_install : same_text fresh_list_file install_file ≡ false
unfolding join
fresh_not_install = refl

hidden_not_fresh : same_path hidden_dir fresh_list_file ≡ false
unfolding join
hidden_not_fresh = refl

hidden_not_install : same_path hidden_dir install_file ≡ false
unfolding join
hidden_not_install = refl

install_itself : same_path install_file install_file ≡ true
unfolding join
install_itself = refl

install_not_fresh : same_path install_file fresh_list_file ≡ false
unfolding join
install_not_fresh = refl

fresh_itself : same_path fresh_list_file fresh_list_file ≡ true
unfolding join
fresh_itself = refl

apart : fresh_list_file ≡ install_file → ⊥
apart same = clash (same_text fresh_list_file install_file) (ap (same_text fresh_list_file) (sym same) ∙ same_itself fresh_list_file) fresh_not_install

rooted-whole : (ops : List Op) (held : Held) → IsWhole held → AllowsSeal ops held → IsWhole (rooted ops held)
rooted-whole ops held whole may = by (list_any makes_hidden ops) refl where
  by : (m : Bool) → list_any makes_hidden ops ≡ m → IsWhole (cond m (with_standing hidden_dir Dir held) held)
  by true e = whole-make_dir hidden_dir held (may.hidden e) hidden-canonical whole
  by false e = whole

pub drafted-whole : (ops : List Op) (held : Held) → IsWhole held → AllowsSeal ops held → IsWhole (drafted ops held)
drafted-whole ops held whole may = whole-put fresh_list_file (File (install_spelling ops)) (rooted ops held) may.draft fresh-canonical (rooted-whole ops held whole may)

pub draft_stands : (ops : List Op) (held : Held) → standing (drafted ops held) fresh_list_file ≡ Some (File (install_spelling ops))
draft_stands ops held =
    standing-with fresh_list_file (File (install_spelling ops)) (rooted ops held) fresh_list_file ∙ ap (λ (b : Bool). cond b (Some (File (install_spelling ops))) (standing (rooted ops held) fresh_list_file)) fresh_itself

-- as it is sealed: written in its place, and gone from the other
pub sealed_as : (ops : List Op) (held : Held) → without fresh_list_file (with_standing install_file (File (install_spelling ops)) (drafted ops held)) ≡ sealed ops held
sealed_as ops held = renamed-apart fresh_list_file install_file (File (install_spelling ops)) (drafted ops held) apart (draft_stands ops held)

pub sealed-whole : (ops : List Op) (held : Held) → IsWhole held → AllowsSeal ops held → IsWhole (sealed ops held)
sealed-whole ops held whole may =
    let r = both (can_remove_file fresh_list_file (drafted ops held)) (can_write install_file (drafted ops held)) may.seal in
    let on : IsWhole (with_standing install_file (File (install_spelling ops)) (drafted ops held)) = whole-put install_file (File (install_spelling ops)) (drafted ops held) r.1 install-canonical (drafted-whole ops held whole may) in
    subst IsWhole (sealed_as ops held) (whole-remove_file fresh_list_file (with_standing install_file (File (install_spelling ops)) (drafted ops held)) (still_file fresh_list_file install_file (File (install_spelling ops)) (drafted ops held) apart r.0) on)

dir_is : (o : Option Standing) → is_dir o ≡ true → o ≡ Some Dir
dir_is None h = cc
dir_is (Some (File bytes)) h = cc
dir_is (Some Dir) h = refl
dir_is (Some Special) h = cc

pub at_sealed : (ops : List Op) (held : Held) (q : Text) → standing (sealed ops held) q ≡ cond (same_path q fresh_list_file) None (cond (same_path q install_file) (Some (File (install_spelling ops))) (standing (drafted ops held) q))
at_sealed ops held q =
    ap (λ (h : Held). standing h q) (sym (sealed_as ops held))
    ∙ standing-without fresh_list_file (with_standing install_file (File (install_spelling ops)) (drafted ops held)) q
    ∙ ap (cond (same_path q fresh_list_file) None) (standing-with install_file (File (install_spelling ops)) (drafted ops held) q)

pub sealed-hidden : (ops : List Op) (held : Held) → IsWhole held → AllowsSeal ops held → StandsHidden (sealed ops held)
sealed-hidden ops held whole may =
    let w = drafted-whole ops held whole may in
    let dir : standing (drafted ops held) hidden_dir ≡ Some Dir = dir_is _ (ap (λ (p : Text). is_dir (standing (drafted ops held) p)) (sym fresh_parent) ∙ w.parents fresh_list_file (ap is_nothing (draft_stands ops held))) in
    at_sealed ops held hidden_dir
    ∙ ap (λ (b : Bool). cond b None (cond (same_path hidden_dir install_file) (Some (File (install_spelling ops))) (standing (drafted ops held) hidden_dir))) hidden_not_fresh
    ∙ ap (λ (b : Bool). cond b (Some (File (install_spelling ops))) (standing (drafted ops held) hidden_dir)) hidden_not_install
    ∙ dir

pub sealed-list : (ops : List Op) (held : Held) → sealed_in (sealed ops held) ≡ Some (install_spelling ops)
sealed-list ops held =
    ap bytes_in (at_sealed ops held install_file
    ∙ ap (λ (b : Bool). cond b None (cond (same_path install_file install_file) (Some (File (install_spelling ops))) (standing (drafted ops held) install_file))) install_not_fresh
    ∙ ap (λ (b : Bool). cond b (Some (File (install_spelling ops))) (standing (drafted ops held) install_file)) install_itself)

all_canonical : (ops : List Op) → list_all is_call ops ≡ true → AllCanonical ops
all_canonical [] all = tt
all_canonical (op ∷ ops) all = let a = both (is_call op) (list_all is_call ops) all in ((both (is_canonical (path_of op)) _ a.0).0, all_canonical ops a.1)

-- Laws.

together : (ops : List Op) (start : Held) (new : Option Held) → ((h : Held) → sealed_in h ≡ sealed_in start → sealed_in h ≡ Some (install_spelling ops)) → are_calls ops ≡ true → length (install_spelling ops) < 2 ^ 64 → AllWhole ops start → AllReady ops start → IfSome new (Halfway ops start) → IfSome new (λ h. sealed_in h ≡ sealed_in start)
    → IfSome new (IsSealed ops start)
together ops start None seal are few whole ready half same = tt
together ops start (Some h) seal are few whole ready half same = record { calls = are; few = few; seal = seal h same; whole = whole; ready = ready; half = half }

pub stops-sealed : StopsSealed
stops-sealed ops held new are few whole may stop =
    let all = each-call ops are in
    let start = sealed ops held in
    let dir = sealed-hidden ops held whole may.first in
    let ready : AllReady ops start = all_ready ops start all dir may.calls in
    let stopped : IsStopped ops (Some start) new = whole_stop ops start new all dir stop in
    together ops start new (λ h same. same ∙ sealed-list ops held) are few (stays-whole ops start (sealed-whole ops held whole may.first) ready (all_canonical ops all)) ready (stops-halfway ops start new stopped) (seal-stopped ops start new are stopped)

pub leads-same : LeadsSame
leads-same ops held are whole may = ap unsealed (whole_list ops (sealed ops held) (each-call ops are) (sealed-hidden ops held whole may.first))

-- What each part of an install comes to.

pub told-rooted_not : (told : Option Held) (ops : List Op) (b : Bool) → b ≡ list_any makes_hidden ops → b ≡ false → told ≡ option_map (rooted ops) told
told-rooted_not None ops b is off = refl
told-rooted_not (Some held) ops b is off = sym (ap (λ (m : Bool). Some (cond m (with_standing hidden_dir Dir held) held)) (sym is ∙ off))

rooted_by : (told : Option Held) (ops : List Op) (b : Bool) → b ≡ list_any makes_hidden ops → b ≡ true → option_map (with_standing hidden_dir Dir) told ≡ option_map (rooted ops) told
rooted_by None ops b is on = refl
rooted_by (Some held) ops b is on = sym (ap (λ (m : Bool). Some (cond m (with_standing hidden_dir Dir held) held)) (sym is ∙ on))

pub told-rooted : (told new : Option Held) (ops : List Op) (op : Op) (b : Bool) → b ≡ list_any makes_hidden ops → b ≡ true → op ≡ MakeDir hidden_dir → new ≡ option_map (step op) told → new ≡ option_map (rooted ops) told
told-rooted told new ops op b is on making made = made ∙ ap (λ (o : Op). option_map (step o) told) making ∙ rooted_by told ops b is on

pub told-may_root : (told : Option Held) (ops : List Op) (op : Op) (b : Bool) → IfSome told (λ held. list_any makes_hidden ops ≡ true → can_make_dir hidden_dir held ≡ true) → b ≡ list_any makes_hidden ops → b ≡ true → op ≡ MakeDir hidden_dir → IfSome told (λ held. allowed op held ≡ true)
told-may_root None ops op b may is on making = tt
told-may_root (Some held) ops op b may is on making = ap (λ (o : Op). allowed o held) making ∙ may (sym is ∙ on)

-- What the folder holds between them, by what it held at the start.

pub drafted-as : (start one two : Option Held) (ops : List Op) (op : Op) → one ≡ option_map (rooted ops) start → op ≡ Write fresh_list_file (install_spelling ops) → two ≡ option_map (step op) one → two ≡ option_map (drafted ops) start
drafted-as start one two ops op a is b = b ∙ ap (λ (o : Op). option_map (step o) one) is ∙ ap (option_map (with_standing fresh_list_file (File (install_spelling ops)))) a ∙ both_maps start where
  both_maps : (o : Option Held) → option_map (with_standing fresh_list_file (File (install_spelling ops))) (option_map (rooted ops) o) ≡ option_map (drafted ops) o
  both_maps None = refl
  both_maps (Some held) = refl

pub sealed-as : (start two three : Option Held) (ops : List Op) (fresh seal : Text) → two ≡ option_map (drafted ops) start → fresh ≡ fresh_list_file → seal ≡ install_file → three ≡ option_map (renamed fresh seal) two → three ≡ option_map (sealed ops) start
sealed-as start two three ops fresh seal a f s b =
    b ∙ ap (λ (p : Text). option_map (renamed p seal) two) f ∙ ap (λ (p : Text). option_map (renamed fresh_list_file p) two) s ∙ ap (option_map (renamed fresh_list_file install_file)) a ∙ both_maps start where
      both_maps : (o : Option Held) → option_map (renamed fresh_list_file install_file) (option_map (drafted ops) o) ≡ option_map (sealed ops) o
      both_maps None = refl
      both_maps (Some held) = refl

pub made-as : (start three four : Option Held) (ops : List Op) → three ≡ option_map (sealed ops) start → four ≡ option_map (after_all (others ops)) three → four ≡ option_map (λ held. after_all (others ops) (sealed ops held)) start
made-as start three four ops a b = b ∙ ap (option_map (after_all (others ops))) a ∙ both_maps start where
  both_maps : (o : Option Held) → option_map (after_all (others ops)) (option_map (sealed ops) o) ≡ option_map (λ held. after_all (others ops) (sealed ops held)) o
  both_maps None = refl
  both_maps (Some held) = refl

pub installed-as : (start four last : Option Held) (ops : List Op) (op : Op) → four ≡ option_map (λ held. after_all (others ops) (sealed ops held)) start → op ≡ RemoveFile install_file → last ≡ option_map (step op) four → last ≡ option_map (installed ops) start
installed-as start four last ops op a is b = b ∙ ap (λ (o : Op). option_map (step o) four) is ∙ ap (option_map unsealed) a ∙ both_maps start where
  both_maps : (o : Option Held) → option_map unsealed (option_map (λ held. after_all (others ops) (sealed ops held)) o) ≡ option_map (installed ops) o
  both_maps None = refl
  both_maps (Some held) = refl

-- Each call is allowed.

mapped : (P Q : Held → Type 0) (f : Held → Held) (start now : Option Held) → ((held : Held) → P held → Q (f held)) → now ≡ option_map f start → IfSome start P → IfSome now Q
mapped P Q f None now h same may = subst (λ (o : Option Held). IfSome o Q) (sym same) tt
mapped P Q f (Some held) now h same may = subst (λ (o : Option Held). IfSome o Q) (sym same) (h held may)

module _ (start : Option Held) (ops : List Op) (may : IfSome start (AllowsInstall ops)) where
  pub told-hidden : IfSome start (λ held. list_any makes_hidden ops ≡ true → can_make_dir hidden_dir held ≡ true)
  told-hidden = hidden start may where
    hidden : (o : Option Held) → IfSome o (AllowsInstall ops) → IfSome o (λ held. list_any makes_hidden ops ≡ true → can_make_dir hidden_dir held ≡ true)
    hidden None m = tt
    hidden (Some held) m = m.first.hidden

  pub told-may_draft : (one : Option Held) (op : Op) → one ≡ option_map (rooted ops) start → op ≡ Write fresh_list_file (install_spelling ops) → IfSome one (λ held. allowed op held ≡ true)
  told-may_draft one op same is = mapped (AllowsInstall ops) (λ held. allowed op held ≡ true) (rooted ops) start one (λ held m. ap (λ (o : Op). allowed o (rooted ops held)) is ∙ m.first.draft) same may

  pub told-may_seal : (one two : Option Held) (op : Op) (fresh seal : Text) → one ≡ option_map (rooted ops) start → op ≡ Write fresh_list_file (install_spelling ops) → two ≡ option_map (step op) one → fresh ≡ fresh_list_file → seal ≡ install_file → IfSome two (λ held. can_rename fresh seal held ≡ true)
  told-may_seal one two op fresh seal a is b f s =
      mapped (AllowsInstall ops) (λ held. can_rename fresh seal held ≡ true) (drafted ops) start two
      (λ held m. ap (λ (p : Text). can_rename p seal (drafted ops held)) f ∙ ap (λ (p : Text). can_rename fresh_list_file p (drafted ops held)) s ∙ m.first.seal) (drafted-as start one two ops op a is b) may

  pub told-may_call : (three : Option Held) → three ≡ option_map (sealed ops) start → IfSome three (AllowsAll (others ops))
  told-may_call three same = mapped (AllowsInstall ops) (AllowsAll (others ops)) (sealed ops) start three (λ held m. m.calls) same may

  pub told-may_unseal_it : (four : Option Held) (op : Op) → four ≡ option_map (λ held. after_all (others ops) (sealed ops held)) start → op ≡ RemoveFile install_file → IfSome four (λ held. allowed op held ≡ true)
  told-may_unseal_it four op same is =
      mapped (AllowsInstall ops) (λ held. allowed op held ≡ true) (λ held. after_all (others ops) (sealed ops held)) start four (λ held m. ap (λ (o : Op). allowed o (after_all (others ops) (sealed ops held))) is ∙ m.unseal) same may

-- What a stop leaves.

pub stop-none : (start new : Option Held) (ops : List Op) → new ≡ start → IfSome start (λ held. StopsSo ops held new)
stop-none None new ops same = tt
stop-none (Some held) new ops same = inl (inl same)

stop-left : (held : Held) (ops : List Op) (one new : Option Held) → one ≡ Some (rooted ops held) → DamagedBy (Write fresh_list_file (install_spelling ops)) one new → StopsSo ops held new
stop-left held ops one new at (inl same) = inl (inr (None, same ∙ at))
stop-left held ops one new at (inr torn) = inl (inr (Some torn.0, torn.2 ∙ ap (option_map (with_standing fresh_list_file (File torn.0))) at))

pub stop-draft : (start one new : Option Held) (ops : List Op) (op : Op) → one ≡ option_map (rooted ops) start → op ≡ Write fresh_list_file (install_spelling ops) → DamagedBy op one new → IfSome start (λ held. StopsSo ops held new)
stop-draft None one new ops op at is left = tt
stop-draft (Some held) one new ops op at is left = stop-left held ops one new at (subst (λ (o : Op). DamagedBy o one new) is left)

pub stop-seal : (start two new : Option Held) (ops : List Op) → two ≡ option_map (drafted ops) start → new ≡ two → IfSome start (λ held. StopsSo ops held new)
stop-seal None two new ops at same = tt
stop-seal (Some held) two new ops at same = inl (inr (Some (install_spelling ops), same ∙ at))

pub stop-others : (start three new : Option Held) (ops : List Op) → three ≡ option_map (sealed ops) start → IsStopped (others ops) three new → IfSome start (λ held. StopsSo ops held new)
stop-others None three new ops at stop = tt
stop-others (Some held) three new ops at stop = inr (subst (λ (o : Option Held). IsStopped (others ops) o new) at stop)

stopped_all : (ops : List Op) (held : Held) (new : Option Held) → new ≡ Some (after_all ops held) → IsStopped ops (Some held) new
stopped_all [] held new same = same
stopped_all (op ∷ ops) held new same = inr (stopped_all ops (step op held) new same)

pub stop-last : (start four new : Option Held) (ops : List Op) → four ≡ option_map (λ held. after_all (others ops) (sealed ops held)) start → new ≡ four → IfSome start (λ held. StopsSo ops held new)
stop-last None four new ops at same = tt
stop-last (Some held) four new ops at same = inr (stopped_all (others ops) (sealed ops held) new (same ∙ at))

-- a removal that failed leaves all as it was
pub unseal-left : (op : Op) (four new : Option Held) → op ≡ RemoveFile install_file → DamagedBy op four new → new ≡ four
unseal-left op four new is left = subst (λ (o : Op). DamagedBy o four new) is left

-- One call after another, without the making of the hidden directory.

pub passed-other : (told : Option Held) (op : Op) (b : Bool) → b ≡ makes_hidden op → b ≡ true → told ≡ option_map (step_other op) told
passed-other None op b is on = refl
passed-other (Some held) op b is on = sym (ap (λ (m : Bool). Some (cond m held (step op held))) (sym is ∙ on))

other_steps : (told : Option Held) (op : Op) (b : Bool) → b ≡ makes_hidden op → b ≡ false → option_map (step op) told ≡ option_map (step_other op) told
other_steps None op b is off = refl
other_steps (Some held) op b is off = sym (ap (λ (m : Bool). Some (cond m held (step op held))) (sym is ∙ off))

pub made-other : (told new : Option Held) (op : Op) (b : Bool) → b ≡ makes_hidden op → b ≡ false → new ≡ option_map (step op) told → new ≡ option_map (step_other op) told
made-other told new op b is off made = made ∙ other_steps told op b is off

pub may-other : (told : Option Held) (op : Op) (b : Bool) → IfSome told (λ held. makes_hidden op ≡ false → allowed op held ≡ true) → b ≡ makes_hidden op → b ≡ false → IfSome told (λ held. allowed op held ≡ true)
may-other None op b may is off = tt
may-other (Some held) op b may is off = may (sym is ∙ off)

after_by : (op : Op) (ops : List Op) (held : Held) (m : Bool) → after_all (cond (not m) (op ∷ others ops) (others ops)) held ≡ after_all (others ops) (cond m held (step op held))
after_by op ops held true = refl
after_by op ops held false = refl

pub after-other : (op : Op) (ops : List Op) (told now : Option Held) → now ≡ option_map (step_other op) told → option_map (after_all (others ops)) now ≡ option_map (after_all (others (op ∷ ops))) told
after-other op ops told now made = ap (option_map (after_all (others ops))) made ∙ mapped_after told where
  mapped_after : (o : Option Held) → option_map (after_all (others ops)) (option_map (step_other op) o) ≡ option_map (after_all (others (op ∷ ops))) o
  mapped_after None = refl
  mapped_after (Some held) = ap (λ (h : Held). Some h) (sym (after_by op ops held (makes_hidden op)))

allows_by : (op : Op) (ops : List Op) (held : Held) (m : Bool) → AllowsAll (cond (not m) (op ∷ others ops) (others ops)) held → (m ≡ false → allowed op held ≡ true) × AllowsAll (others ops) (cond m held (step op held))
allows_by op ops held true may = (λ e. absurd (clash true refl e), may)
allows_by op ops held false may = (λ e. may.0, may.1)

pub allows-other : (op : Op) (ops : List Op) (told : Option Held) → IfSome told (AllowsAll (others (op ∷ ops))) → IfSome told (λ held. makes_hidden op ≡ false → allowed op held ≡ true)
allows-other op ops None may = tt
allows-other op ops (Some held) may = (allows_by op ops held (makes_hidden op) may).0

pub allows-rest : (op : Op) (ops : List Op) (told now : Option Held) → now ≡ option_map (step_other op) told → IfSome told (AllowsAll (others (op ∷ ops))) → IfSome now (AllowsAll (others ops))
allows-rest op ops told now made may = mapped (AllowsAll (others (op ∷ ops))) (AllowsAll (others ops)) (step_other op) told now (λ held m. (allows_by op ops held (makes_hidden op) m).1) made may

stopped_by : (op : Op) (ops : List Op) (told new : Option Held) (m : Bool) → m ≡ false → DamagedBy op told new → IsStopped (cond (not m) (op ∷ others ops) (others ops)) told new
stopped_by op ops told new true e left = absurd (clash true refl e)
stopped_by op ops told new false e left = inl left

pub stopped-other : (op : Op) (ops : List Op) (told new : Option Held) → makes_hidden op ≡ false → DamagedBy op told new → IsStopped (others (op ∷ ops)) told new
stopped-other op ops told new other left = stopped_by op ops told new (makes_hidden op) other left

later_by : (op : Op) (ops : List Op) (told new : Option Held) (m : Bool) → IsStopped (others ops) (option_map (λ held. cond m held (step op held)) told) new → IsStopped (cond (not m) (op ∷ others ops) (others ops)) told new
later_by op ops None new true stop = stop
later_by op ops (Some held) new true stop = stop
later_by op ops told new false stop = inr stop

pub stopped-later : (op : Op) (ops : List Op) (told now new : Option Held) → now ≡ option_map (step_other op) told → IsStopped (others ops) now new → IsStopped (others (op ∷ ops)) told new
stopped-later op ops told now new made stop = later_by op ops told new (makes_hidden op) (subst (λ (o : Option Held). IsStopped (others ops) o new) made stop)

-- Where nothing is sealed.

install_not_hidden : same_path install_file hidden_dir ≡ false
unfolding join
install_not_hidden = refl

rooted_list : (ops : List Op) (held : Held) → standing (rooted ops held) install_file ≡ standing held install_file
rooted_list ops held = by (list_any makes_hidden ops) where
  by : (m : Bool) → standing (cond m (with_standing hidden_dir Dir held) held) install_file ≡ standing held install_file
  by true = standing-with hidden_dir Dir held install_file ∙ ap (λ (b : Bool). cond b (Some Dir) (standing held install_file)) install_not_hidden
  by false = refl

draft_list : (left : Option Text) (held : Held) → standing (with_any fresh_list_file (option_map File left) held) install_file ≡ standing held install_file
draft_list None held = refl
draft_list (Some bytes) held = standing-with fresh_list_file (File bytes) held install_file ∙ ap (λ (b : Bool). cond b (Some (File bytes)) (standing held install_file)) install_not_fresh

pub stays-unsealed : StaysUnsealed
stays-unsealed ops held new (inl same) = subst (λ (o : Option Held). IfSome o (λ h. sealed_in h ≡ sealed_in held)) (sym same) refl
stays-unsealed ops held new (inr h) =
    subst (λ (o : Option Held). IfSome o (λ k. sealed_in k ≡ sealed_in held)) (sym h.1) (ap bytes_in (draft_list h.0 (rooted ops held) ∙ rooted_list ops held))
