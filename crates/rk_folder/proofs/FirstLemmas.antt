-- The first of some paths in the order of the listings.
use Rattle.std.proofs.Common.{◌≡◌, inl, inr, List, [], ◌∷◌, Bool, true, false, ◌&&◌, ◌||◌, Option, Some, None, is_some, refl, sym, ap, ◌∙◌, cond}
use Rattle.std.specs.List.{filter, list_any}
use Rattle.std.specs.FinMap.{entries, get-entries}
use Rattle.std.specs.FinMap.Entries.{is_some-find}
use Rattle.rk_base.specs.Text.{Text, text_cmp, is_within, same_text}
use Rattle.rk_base.proofs.CanonicalLemmas.{both}
use Rattle.rk_tree.proofs.TextLemmas.{one_of, or_right, ties_itself}
use Rattle.rk_folder.specs.Told.{Held, standing, is_dir, is_odd}
use Rattle.rk_folder.specs.Hidden.{hidden_dir}
use Rattle.rk_folder.specs.Listing.{is_listed_before, earlier, first_listed, IsFirst}
use Rattle.rk_folder.specs.Specials.{is_special, is_state_file, is_hidden_fault, is_fault, paths_of, first_special, or_else}
use Rattle.rk_folder.specs.Steps.{first_within}
use Rattle.rk_folder.specs.declared.folder.Standing.{Standing}
use Rattle.rk_folder.proofs.HeldLemmas.{same_path, one_path}
use Rattle.rk_folder.proofs.OrderLemmas.{before-irreflexive, before-asymmetric, not_before-chain, not_before-same}

pub clash : (b : Bool) → b ≡ true → b ≡ false → ⊥
clash b t f = cc

-- What is first, whatever the test.

pub first-same : (f g : Text → Bool) (o : Option Text) → ((q : Text) → f q ≡ g q) → IsFirst f o → IsFirst g o
first-same f g None h first = λ q. sym (h q) ∙ first q
first-same f g (Some p) h first = (sym (h p) ∙ first.0, λ q t. first.1 q (h q ∙ t))

pub first-unique : (f : Text → Bool) (a b : Option Text) → IsFirst f a → IsFirst f b → a ≡ b
first-unique f None None x y = refl
first-unique f None (Some q) x y = absurd (clash (f q) y.0 (x q))
first-unique f (Some p) None x y = absurd (clash (f p) x.0 (y p))
first-unique f (Some p) (Some q) x y = ap (λ (t : Text). Some t) (not_before-same p q (y.1 p x.0) (x.1 q y.0))

-- of two tests, where what passes the one is listed before what passes the other
pub first-or : (f g : Text → Bool) (a b : Option Text) → ((p q : Text) → f p ≡ true → g q ≡ true → is_listed_before q p ≡ false) → IsFirst f a → IsFirst g b → IsFirst (λ q. f q || g q) (or_else a b)
first-or f g None None order x y = λ q. ap (λ (b : Bool). b || g q) (x q) ∙ y q
first-or f g None (Some q) order x y = (ap (λ (b : Bool). b || g q) (x q) ∙ y.0, λ r t. y.1 r (sym (ap (λ (b : Bool). b || g r) (x r)) ∙ t))
first-or f g (Some p) b order x y = (
  ap (λ (c : Bool). c || g p) x.0,
  λ r t. elim (one_of (f r) (g r) t) [
    | inl first ↦ x.1 r first
    | inr second ↦ order p r x.0 second
  ],
)

-- The first of a list.

earlier-is : (p : Text) (ps : List Text) (o : Option Text) → IsFirst (λ q. list_any (same_path q) ps) o → IsFirst (λ q. same_path q p || list_any (same_path q) ps) (Some (earlier p o))
earlier-is p ps None first = (
  ap (λ (b : Bool). b || list_any (same_path p) ps) (ties_itself p),
  λ q t. elim (one_of (same_path q p) _ t) [
    | inl same ↦ ap (λ (x : Text). is_listed_before x p) (one_path q p same) ∙ before-irreflexive p
    | inr later ↦ absurd (clash _ later (first q))
  ],
)
earlier-is p ps (Some r) first = elim (is_listed_before r p) as (λ (b : Bool). is_listed_before r p ≡ b → IsFirst (λ q. same_path q p || list_any (same_path q) ps) (Some (cond b r p))) [
  | true ↦ λ e. (
    or_right (same_path r p) _ first.0,
    λ q t. elim (one_of (same_path q p) _ t) [
      | inl same ↦ ap (λ (x : Text). is_listed_before x r) (one_path q p same) ∙ before-asymmetric r p e
      | inr later ↦ first.1 q later
    ],
  )
  | false ↦ λ e. (
    ap (λ (b : Bool). b || list_any (same_path p) ps) (ties_itself p),
    λ q t. elim (one_of (same_path q p) _ t) [
      | inl same ↦ ap (λ (x : Text). is_listed_before x p) (one_path q p same) ∙ before-irreflexive p
      | inr later ↦ not_before-chain p r q e (first.1 q later)
    ],
  )
] refl

first_listed-is : (ps : List Text) → IsFirst (λ q. list_any (same_path q) ps) (first_listed ps)
first_listed-is [] = λ q. refl
first_listed-is (p ∷ ps) = earlier-is p ps (first_listed ps) (first_listed-is ps)

and_false : (b : Bool) → (b && false) ≡ false
and_false true = refl
and_false false = refl

filter_any : (g : Text → Bool) (t : Bool) (p : Text) (ps : List Text) → list_any g (cond t (p ∷ ps) ps) ≡ cond t (g p || list_any g ps) (list_any g ps)
filter_any g true p ps = refl
filter_any g false p ps = refl

filter_step : (t u s a f : Bool) → (s ≡ true → t ≡ u) → f ≡ (u && a) → cond t (s || f) f ≡ (u && (s || a))
filter_step true true true a f h e = refl
filter_step true true false a f h e = e
filter_step true false true a f h e = absurd (clash true refl (h refl))
filter_step true false false a f h e = e
filter_step false true true a f h e = absurd (clash true refl (sym (h refl)))
filter_step false true false a f h e = e
filter_step false false true a f h e = e
filter_step false false false a f h e = e

filtered : (test : Text → Bool) (q : Text) (ps : List Text) → list_any (same_path q) (filter test ps) ≡ (test q && list_any (same_path q) ps)
filtered test q [] = sym (and_false (test q))
filtered test q (p ∷ ps) =
    filter_any (same_path q) (test p) p (filter test ps)
    ∙ filter_step (test p) (test q) (same_path q p) (list_any (same_path q) ps) (list_any (same_path q) (filter test ps)) (λ e. ap test (sym (one_path q p e))) (filtered test q ps)

-- The first special.

paths-stand : (held : Held) (q : Text) → list_any (same_path q) (paths_of held) ≡ is_some (standing held q)
paths-stand held q = sym (is_some-find text_cmp q (entries held.places)) ∙ ap is_some (sym (get-entries held.places q))

none_faulty : (w s t o : Bool) → cond w ((s && false) || (t && false)) (false || (false && o)) ≡ false
none_faulty true true true o = refl
none_faulty true true false o = refl
none_faulty true false true o = refl
none_faulty true false false o = refl
none_faulty false s t o = refl

-- where nothing stands nothing is special
nothing-faulty : (held : Held) (q : Text) → standing held q ≡ None → is_fault held q ≡ false
unfolding is_fault
nothing-faulty held q none =
    ap (λ (o : Option Standing). cond (is_within hidden_dir q) (is_hidden_fault q o) (is_special o || (is_dir o && is_odd q held.odd))) none
    ∙ none_faulty (is_within hidden_dir q) (same_text q hidden_dir) (is_state_file q) (is_odd q held.odd)

pub fault-stands : (held : Held) (q : Text) → is_fault held q ≡ true → (it : Standing) × (standing held q ≡ Some it)
fault-stands held q fault = elim (standing held q) as (λ (o : Option Standing). standing held q ≡ o → (it : Standing) × (o ≡ Some it)) [
  | None ↦ λ e. absurd (clash _ fault (nothing-faulty held q e))
  | Some it ↦ λ e. (it, refl)
] refl

fault-among : (held : Held) (q : Text) → is_fault held q ≡ true → list_any (same_path q) (paths_of held) ≡ true
fault-among held q fault = let s = fault-stands held q fault in paths-stand held q ∙ ap is_some s.1

and_same : (a b : Bool) → (a ≡ true → b ≡ true) → (a && b) ≡ a
and_same true b h = h refl
and_same false b h = refl

pub same_and : (a b : Bool) → (a ≡ true → b ≡ true) → (b && a) ≡ a
same_and true b h = ap (λ (c : Bool). c && true) (h refl)
same_and false b h = and_false b

pub first_within-is : (held : Held) (dir : Text) → IsFirst (λ q. is_within dir q && is_fault held q) (first_within held dir)
unfolding first_within
first_within-is held dir =
    first-same (λ q. list_any (same_path q) (filter (λ p. is_within dir p && is_fault held p) (paths_of held))) (λ q. is_within dir q && is_fault held q) (first_listed (filter (λ p. is_within dir p && is_fault held p) (paths_of held)))
    (λ q. filtered (λ p. is_within dir p && is_fault held p) q (paths_of held) ∙ and_same (is_within dir q && is_fault held q) _ (λ t. fault-among held q (both (is_within dir q) _ t).1))
    (first_listed-is (filter (λ p. is_within dir p && is_fault held p) (paths_of held)))

pub first_special-is : (held : Held) → IsFirst (is_fault held) (first_special held)
unfolding first_special
first_special-is held =
    first-same (λ q. list_any (same_path q) (filter (is_fault held) (paths_of held))) (is_fault held) (first_listed (filter (is_fault held) (paths_of held)))
    (λ q. filtered (is_fault held) q (paths_of held) ∙ and_same (is_fault held q) _ (fault-among held q))
    (first_listed-is (filter (is_fault held) (paths_of held)))
