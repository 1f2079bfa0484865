-- The folder afterwards, and that it is one.
use Rattle.std.proofs.Common.{◌≡◌, ◌≢◌, ◌⊎◌, inl, inr, Bool, true, false, None, refl, sym, ap, subst, ◌∙◌}
use Rattle.rk_base.specs.Text.{Text, is_within, same_text}
use Rattle.rk_base.proofs.WithinLemmas.{same_itself, ties_itself}
use Rattle.rk_folder.specs.Hidden.{hidden_dir, attrs_file, db_file, install_file, fresh_list_file}
use Rattle.rk_folder.specs.Told.{Held, standing}
use Rattle.rk_folder.proofs.HeldLemmas.{same_path, one_path, same_held}
use Rattle.rk_changes.specs.Holdings.{IsAfter, IsLed}
use Rattle.rk_changes.specs.declared.holding.Holding.{Holding}
use Rattle.rk_changes.proofs.HiddenLemmas.{fresh_list_hidden, fresh_list_not_attrs, fresh_list_not_db, fresh_list_not_dir, install_hidden, install_not_attrs, install_not_db, install_not_dir}

clash : (b : Bool) → b ≡ true → b ≡ false → ⊥
clash b t f = cc

-- the places of a list are apart from what else is in the hidden directory, and from what isn't there

apart : (a b : Text) → same_text a b ≡ false → b ≢ a
apart a b other same = clash (same_text a b) (ap (same_text a) same ∙ same_itself a) other

outside-list : (path list : Text) → is_within hidden_dir list ≡ true → is_within hidden_dir path ≡ false → path ≢ list
outside-list path list inside out same = clash (is_within hidden_dir path) (ap (is_within hidden_dir) same ∙ inside) out

-- The calls lead on; in the two places of a list stands nothing afterwards, or in that of a sealed one what stood.
pub goes-on : (old led new : Held) (holding : Holding) → IsLed old led holding → ((q : Text) → q ≢ install_file → q ≢ fresh_list_file → standing new q ≡ standing led q) → new.odd ≡ led.odd → standing new fresh_list_file ≡ None
    → (standing new install_file ≡ None) ⊎ (standing new install_file ≡ standing old install_file) → IsAfter old new holding
goes-on old led new holding is same odd draft list = record {
  holds = record {
    unseen = is.holds.unseen;
    outside = λ path out. same path (outside-list path install_file install_hidden out) (outside-list path fresh_list_file fresh_list_hidden out) ∙ is.holds.outside path out;
    rkr = same hidden_dir (apart install_file hidden_dir install_not_dir) (apart fresh_list_file hidden_dir fresh_list_not_dir) ∙ is.holds.rkr;
    db = same db_file (apart install_file db_file install_not_db) (apart fresh_list_file db_file fresh_list_not_db) ∙ is.holds.db;
    attrs = same attrs_file (apart install_file attrs_file install_not_attrs) (apart fresh_list_file attrs_file fresh_list_not_attrs) ∙ is.holds.attrs;
  };
  same_else = record {
    below = λ path within h d a i f. same path i f ∙ is.below path within h d a;
    odd = odd ∙ is.odd;
  };
  draft = draft;
  list = list;
}

-- where no sealed list stood, none stands
pub none-after : (old new : Held) (holding : Holding) → IsAfter old new holding → standing old install_file ≡ None → standing new install_file ≡ None
none-after old new holding is none = elim is.list [
  | inl gone ↦ gone
  | inr same ↦ same ∙ none
]

-- The folder afterwards is one, where no sealed list stood.

another : (q path : Text) → same_path q path ≡ false → q ≢ path
another q path e same = let tied : same_path path path ≡ false = subst (λ (p : Text). same_path p path ≡ false) same e in let ties = ties_itself path in cc

-- what stands below the hidden directory, or there
hidden-one : (old a b : Held) (holding : Holding) → standing old install_file ≡ None → IsAfter old a holding → IsAfter old b holding → (q : Text) → is_within hidden_dir q ≡ true → (r d t i f : Bool) → same_path q hidden_dir ≡ r → same_path q db_file ≡ d → same_path q attrs_file ≡ t → same_path q install_file ≡ i → same_path q fresh_list_file ≡ f → standing a q ≡ standing b q
hidden-one old a b holding none x y q within true d t i f r-is d-is t-is i-is f-is =
    let e = one_path q hidden_dir r-is in ap (standing a) e ∙ x.holds.rkr ∙ sym (ap (standing b) e ∙ y.holds.rkr)
hidden-one old a b holding none x y q within false true t i f r-is d-is t-is i-is f-is =
    let e = one_path q db_file d-is in ap (standing a) e ∙ x.holds.db ∙ sym (ap (standing b) e ∙ y.holds.db)
hidden-one old a b holding none x y q within false false true i f r-is d-is t-is i-is f-is =
    let e = one_path q attrs_file t-is in ap (standing a) e ∙ x.holds.attrs ∙ sym (ap (standing b) e ∙ y.holds.attrs)
hidden-one old a b holding none x y q within false false false true f r-is d-is t-is i-is f-is =
    let e = one_path q install_file i-is in ap (standing a) e ∙ none-after old a holding x none ∙ sym (ap (standing b) e ∙ none-after old b holding y none)
hidden-one old a b holding none x y q within false false false false true r-is d-is t-is i-is f-is =
    let e = one_path q fresh_list_file f-is in ap (standing a) e ∙ x.draft ∙ sym (ap (standing b) e ∙ y.draft)
hidden-one old a b holding none x y q within false false false false false r-is d-is t-is i-is f-is =
    let r = another q hidden_dir r-is in
    let d = another q db_file d-is in
    let t = another q attrs_file t-is in
    let i = another q install_file i-is in
    let f = another q fresh_list_file f-is in
    x.same_else.below q within r d t i f ∙ sym (y.same_else.below q within r d t i f)

at-one : (old a b : Held) (holding : Holding) → standing old install_file ≡ None → IsAfter old a holding → IsAfter old b holding → (q : Text) (within : Bool) → is_within hidden_dir q ≡ within → standing a q ≡ standing b q
at-one old a b holding none x y q true within =
    hidden-one old a b holding none x y q within (same_path q hidden_dir) (same_path q db_file) (same_path q attrs_file) (same_path q install_file) (same_path q fresh_list_file) refl refl refl refl refl
at-one old a b holding none x y q false within = x.holds.outside q within ∙ sym (y.holds.outside q within)

pub after-one : (old a b : Held) (holding : Holding) → standing old install_file ≡ None → IsAfter old a holding → IsAfter old b holding → a ≡ b
after-one old a b holding none x y =
    same_held a b (x.same_else.odd ∙ sym y.same_else.odd) (λ q. at-one old a b holding none x y q (is_within hidden_dir q) refl)
