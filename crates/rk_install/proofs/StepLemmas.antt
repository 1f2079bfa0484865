-- What stands at a path after a call.
use Rattle.std.proofs.Common.{◌≡◌, ◌<◌, ◌+◌, ◌∷◌, ℕ, List, length, drop, get_or, suc, add-one, drop-cons, inl, Bool, true, false, Option, Some, None, IfSome, cond, option_map, refl, sym, ap, subst, ◌∙◌}
use Rattle.std.specs.Ordering.{eq_by_cmp}
use Rattle.std.specs.Cmp.Lexicographic.{nat_list_cmp_total}
use Rattle.std.specs.FinMap.{get-insert, get-remove}
use Rattle.rk_base.specs.Text.{Text, text_cmp}
use Rattle.rk_folder.specs.Hidden.{install_file}
use Rattle.rk_folder.specs.Told.{Held, is_file, standing, without}
use Rattle.rk_folder.specs.declared.folder.Standing.{Standing}
use Rattle.rk_folder.specs.declared.folder.Standing.TheVariants.{File, Dir}
use Rattle.rk_seal.specs.Ops.{path_of}
use Rattle.rk_seal.specs.declared.ops.Op.{Op}
use Rattle.rk_seal.specs.declared.ops.Op.TheVariants.{RemoveFile, RemoveDir, MakeDir, Write}
use Rattle.rk_install.specs.Calls.{DamagedBy, allowed, step, left_by}
use Rattle.rk_install.specs.Halfway.{pass}
use Rattle.rk_install.specs.Recovery.{unsealed}

abbrev pub at_step : Op → Text → Option Standing → Option Standing
at_step op q it = cond (eq_by_cmp text_cmp q (path_of op)) (left_by op) it

pub standing-step : (op : Op) (held : Held) (q : Text) → standing (step op held) q ≡ at_step op q (standing held q)
standing-step (RemoveFile path) held q = get-remove nat_list_cmp_total held.places path q
standing-step (RemoveDir path) held q = get-remove nat_list_cmp_total held.places path q
standing-step (MakeDir path) held q = get-insert nat_list_cmp_total held.places path Dir q
standing-step (Write path bytes) held q = get-insert nat_list_cmp_total held.places path (File bytes) q

pub odd-step : (op : Op) (held : Held) → (step op held).odd ≡ held.odd
odd-step (RemoveFile path) held = refl
odd-step (RemoveDir path) held = refl
odd-step (MakeDir path) held = refl
odd-step (Write path bytes) held = refl

-- the calls from one on are it and those behind it
pub split-at : (ops : List Op) (i : ℕ) (op : Op) → i < length ops → op ≡ get_or ops i op → drop i ops ≡ op ∷ drop (i + 1) ops
split-at ops i op h is = rw (add-one, drop-cons ops i op h) (ap (λ (x : Op). x ∷ drop (suc i) ops) (sym is))

-- A call that is passed over, or made.

pub pass-over : (told : Option Held) (op : Op) (b : Bool) → IfSome told (λ held. b ≡ allowed op held) → b ≡ false → told ≡ option_map (pass op) told
pass-over None op b is off = refl
pass-over (Some held) op b is off = sym (ap (λ (may : Bool). Some (cond may (step op held) held)) (sym is ∙ off))

made_pass : (told : Option Held) (op : Op) (b : Bool) → IfSome told (λ held. b ≡ allowed op held) → b ≡ true → option_map (step op) told ≡ option_map (pass op) told
made_pass None op b is on = refl
made_pass (Some held) op b is on = sym (ap (λ (may : Bool). Some (cond may (step op held) held)) (sym is ∙ on))

pub pass-made : (told new : Option Held) (op : Op) (b : Bool) → IfSome told (λ held. b ≡ allowed op held) → b ≡ true → new ≡ option_map (step op) told → new ≡ option_map (pass op) told
pass-made told new op b is on made = made ∙ made_pass told op b is on

pub may-make : (told : Option Held) (op : Op) (b : Bool) → IfSome told (λ held. b ≡ allowed op held) → b ≡ true → IfSome told (λ held. allowed op held ≡ true)
may-make None op b is on = tt
may-make (Some held) op b is on = sym is ∙ on

pub allowed-now : (told now : Option Held) (op : Op) (b : Bool) → now ≡ told → IfSome told (λ held. b ≡ allowed op held) → IfSome now (λ held. b ≡ allowed op held)
allowed-now told now op b same is = subst (λ (t : Option Held). IfSome t (λ held. b ≡ allowed op held)) (sym same) is

-- nothing was done
pub damage-none : (op : Op) (old new : Option Held) → new ≡ old → DamagedBy op old new
damage-none (RemoveFile path) old new same = same
damage-none (RemoveDir path) old new same = same
damage-none (MakeDir path) old new same = same
damage-none (Write path bytes) old new same = inl same

pub damage-from : (op : Op) (mid old new : Option Held) → mid ≡ old → DamagedBy op mid new → DamagedBy op old new
damage-from op mid old new same left = subst (λ (o : Option Held). DamagedBy op o new) same left

pub pass-from : (op : Op) (mid old new : Option Held) → mid ≡ old → new ≡ option_map (pass op) mid → new ≡ option_map (pass op) old
pass-from op mid old new same made = made ∙ ap (option_map (pass op)) same

-- the seal
pub may-unseal : (told : Option Held) (path : Text) → path ≡ install_file → IfSome told (λ held. is_file (standing held install_file) ≡ true) → IfSome told (λ held. allowed (RemoveFile path) held ≡ true)
may-unseal told path at stands = subst (λ (p : Text). IfSome told (λ held. is_file (standing held p) ≡ true)) (sym at) stands

pub unsealed-by : (path : Text) (told new : Option Held) → path ≡ install_file → new ≡ option_map (step (RemoveFile path)) told → new ≡ option_map unsealed told
unsealed-by path told new at made = made ∙ ap (λ (p : Text). option_map (without p) told) at
