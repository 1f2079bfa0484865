-- The calls of a list leave its own place as it is.
use Rattle.std.proofs.Common.{◌≡◌, inl, inr, List, [], ◌∷◌, Bool, true, false, not, ◌||◌, nat_lt, cond, Option, Some, None, IfSome, option_map, refl, sym, ap, subst, ◌∙◌}
use Rattle.std.specs.List.{list_all}
use Rattle.rk_base.specs.Text.{Text, is_root, is_within, join}
use Rattle.rk_base.specs.Canonical.{is_canonical}
use Rattle.rk_base.proofs.CanonicalLemmas.{both, denied}
use Rattle.rk_tree.proofs.TextLemmas.{told_apart}
use Rattle.rk_folder.specs.Hidden.{install_file}
use Rattle.rk_folder.specs.Told.{Held, standing, with_standing, bytes_in, is_file}
use Rattle.rk_folder.specs.declared.folder.Standing.{Standing}
use Rattle.rk_folder.specs.declared.folder.Standing.TheVariants.{File, Dir, Special}
use Rattle.rk_seal.specs.Ops.{hidden_dir, are_calls, follow, group, is_call, path_of}
use Rattle.rk_seal.specs.declared.ops.Op.{Op}
use Rattle.rk_seal.specs.declared.ops.Op.TheVariants.{RemoveFile, RemoveDir, MakeDir, Write}
use Rattle.rk_install.specs.Calls.{DamagedBy, allowed, left_by, step}
use Rattle.rk_install.specs.Halfway.{IsCut, IsStopped, finished, pass}
use Rattle.rk_install.specs.Recovery.{AreBelowRoot, sealed_in}
use Rattle.rk_install.proofs.StepLemmas.{standing-step}

-- What is so of each call.

pub each-call : (ops : List Op) → are_calls ops ≡ true → list_all is_call ops ≡ true
unfolding are_calls
each-call [] h = cc
each-call (op ∷ ops) h = (both (list_all is_call (op ∷ ops)) (follow op ops) h).0

pub call_parts : (op : Op) → is_call op ≡ true → (is_root (path_of op) ≡ false) × ((not (is_within hidden_dir (path_of op)) || nat_lt 2 (group op)) ≡ true)
call_parts op h =
    let rest = (both (is_canonical (path_of op)) _ h).1 in
    let parts = both (not (is_root (path_of op))) (not (is_within hidden_dir (path_of op)) || nat_lt 2 (group op)) rest in
    (denied (is_root (path_of op)) parts.0, parts.1)

below_root : (ops : List Op) → list_all is_call ops ≡ true → AreBelowRoot ops
below_root [] all = tt
below_root (op ∷ ops) all = let a = both (is_call op) (list_all is_call ops) all in ((call_parts op a.0).0, below_root ops a.1)

pub are-below_root : (ops : List Op) → are_calls ops ≡ true → AreBelowRoot ops
are-below_root ops h = below_root ops (each-call ops h)

-- no call is at the list's own place
lands : Op → Bool
lands op = not (is_within hidden_dir install_file) || nat_lt 2 (group op)

lands_not : (op : Op) → path_of op ≡ install_file → lands op ≡ false
unfolding is_within join lands
lands_not (RemoveFile path) at = ap (λ (p : Text). nat_lt 2 (group (RemoveFile p))) at
lands_not (RemoveDir path) at = refl
lands_not (MakeDir path) at = ap (λ (p : Text). nat_lt 2 (group (MakeDir p))) at
lands_not (Write path bytes) at = ap (λ (p : Text). nat_lt 2 (group (Write p bytes))) at

clash : (b : Bool) → b ≡ true → b ≡ false → ⊥
clash b t f = cc

elsewhere : (op : Op) → is_call op ≡ true → path_of op ≡ install_file → ⊥
unfolding lands
elsewhere op h at = clash (lands op) (ap (λ (p : Text). not (is_within hidden_dir p) || nat_lt 2 (group op)) (sym at) ∙ (call_parts op h).1) (lands_not op at)

-- What stands at its place stays.

pub kept_by : (op : Op) (held : Held) → is_call op ≡ true → standing (step op held) install_file ≡ standing held install_file
kept_by op held h = elim (told_apart install_file (path_of op)) [
  | inl same ↦ absurd (elsewhere op h (sym same.0))
  | inr apart ↦ standing-step op held install_file ∙ ap (λ (b : Bool). cond b (left_by op) (standing held install_file)) apart.1
]

kept_pass : (op : Op) (held : Held) → is_call op ≡ true → standing (pass op held) install_file ≡ standing held install_file
kept_pass op held h = by (allowed op held) where
  by : (b : Bool) → standing (cond b (step op held) held) install_file ≡ standing held install_file
  by true = kept_by op held h
  by false = refl

kept_finished : (ops : List Op) (held : Held) → list_all is_call ops ≡ true → standing (finished ops held) install_file ≡ standing held install_file
kept_finished [] held all = refl
kept_finished (op ∷ ops) held all = let a = both (is_call op) (list_all is_call ops) all in kept_finished ops (pass op held) a.1 ∙ kept_pass op held a.0

kept_damage : (op : Op) (held : Held) (new : Option Held) → is_call op ≡ true → DamagedBy op (Some held) new → IfSome new (λ h. standing h install_file ≡ standing held install_file)
kept_damage (RemoveFile path) held new h left = subst (λ (o : Option Held). IfSome o (λ k. standing k install_file ≡ standing held install_file)) (sym left) refl
kept_damage (RemoveDir path) held new h left = subst (λ (o : Option Held). IfSome o (λ k. standing k install_file ≡ standing held install_file)) (sym left) refl
kept_damage (MakeDir path) held new h left = subst (λ (o : Option Held). IfSome o (λ k. standing k install_file ≡ standing held install_file)) (sym left) refl
kept_damage (Write path bytes) held new h left = elim left [
  | inl same ↦ subst (λ (o : Option Held). IfSome o (λ k. standing k install_file ≡ standing held install_file)) (sym same) refl
  | inr torn ↦ subst (λ (o : Option Held). IfSome o (λ k. standing k install_file ≡ standing held install_file)) (sym torn.2) (other torn.0)
] where
  other : (left : Text) → standing (with_standing path (File left) held) install_file ≡ standing held install_file
  other left = elim (told_apart install_file path) [
    | inl same ↦ absurd (elsewhere (Write path bytes) h (sym same.0))
    | inr apart ↦ standing-step (Write path left) held install_file ∙ ap (λ (b : Bool). cond b (Some (File left)) (standing held install_file)) apart.1
  ]

moved : (held on : Held) (new : Option Held) → standing on install_file ≡ standing held install_file → IfSome new (λ h. standing h install_file ≡ standing on install_file) → IfSome new (λ h. standing h install_file ≡ standing held install_file)
moved held on None same h = tt
moved held on (Some k) same h = h ∙ same

kept_cut : (ops : List Op) (held : Held) (new : Option Held) → list_all is_call ops ≡ true → IsCut ops (Some held) new → IfSome new (λ h. standing h install_file ≡ standing held install_file)
kept_cut [] held new all cut = subst (λ (o : Option Held). IfSome o (λ k. standing k install_file ≡ standing held install_file)) (sym cut) refl
kept_cut (op ∷ ops) held new all cut =
    let a = both (is_call op) (list_all is_call ops) all in elim cut [
      | inl left ↦ kept_damage op held new a.0 left
      | inr later ↦ moved held (pass op held) new (kept_pass op held a.0) (kept_cut ops (pass op held) new a.1 later)
    ]

as_bytes : (held : Held) (o : Option Held) → IfSome o (λ h. standing h install_file ≡ standing held install_file) → IfSome o (λ h. sealed_in h ≡ sealed_in held)
as_bytes held None h = tt
as_bytes held (Some k) h = ap bytes_in h

pub seal-kept : (ops : List Op) (held : Held) (new : Option Held) → are_calls ops ≡ true → IsCut ops (Some held) new → IfSome new (λ h. sealed_in h ≡ sealed_in held)
seal-kept ops held new are cut = as_bytes held new (kept_cut ops held new (each-call ops are) cut)

-- the same of calls of which none is passed over
kept_stop : (ops : List Op) (held : Held) (new : Option Held) → list_all is_call ops ≡ true → IsStopped ops (Some held) new → IfSome new (λ h. standing h install_file ≡ standing held install_file)
kept_stop [] held new all stop = subst (λ (o : Option Held). IfSome o (λ k. standing k install_file ≡ standing held install_file)) (sym stop) refl
kept_stop (op ∷ ops) held new all stop =
    let a = both (is_call op) (list_all is_call ops) all in elim stop [
      | inl left ↦ kept_damage op held new a.0 left
      | inr later ↦ moved held (step op held) new (kept_by op held a.0) (kept_stop ops (step op held) new a.1 later)
    ]

pub seal-stopped : (ops : List Op) (held : Held) (new : Option Held) → are_calls ops ≡ true → IsStopped ops (Some held) new → IfSome new (λ h. sealed_in h ≡ sealed_in held)
seal-stopped ops held new are stop = as_bytes held new (kept_stop ops held new (each-call ops are) stop)

-- and so it may be removed
pub told-may_unseal : (told now : Option Held) (ops : List Op) → are_calls ops ≡ true → now ≡ option_map (finished ops) told → IfSome told (λ held. is_file (standing held install_file) ≡ true) → IfSome now (λ held. is_file (standing held install_file) ≡ true)
told-may_unseal None now ops are is file = subst (λ (o : Option Held). IfSome o (λ held. is_file (standing held install_file) ≡ true)) (sym is) tt
told-may_unseal (Some held) now ops are is file =
    subst (λ (o : Option Held). IfSome o (λ h. is_file (standing h install_file) ≡ true)) (sym is) (ap is_file (kept_finished ops held (each-call ops are)) ∙ file)

-- a list stands in a file
pub bytes_file : (o : Option Standing) (bytes : Text) → bytes_in o ≡ Some bytes → is_file o ≡ true
bytes_file None bytes h = cc
bytes_file (Some (File left)) bytes h = refl
bytes_file (Some Dir) bytes h = cc
bytes_file (Some Special) bytes h = cc

pub told-seal_stands : (told : Option Held) (bytes : Text) → IfSome told (λ held. sealed_in held ≡ Some bytes) → IfSome told (λ held. is_file (standing held install_file) ≡ true)
told-seal_stands None bytes h = tt
told-seal_stands (Some held) bytes h = bytes_file (standing held install_file) bytes h
