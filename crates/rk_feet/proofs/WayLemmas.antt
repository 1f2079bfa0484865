-- What holds of each place that a path may lead to, of what is made there, holds of where the path leads and of what its program comes to.
use Rattle.std.proofs.Common.{◌≡◌, ℕ, zero, suc, List, [], ◌∷◌, ◌++◌, Bool, true, false, not, ◌&&◌, ◌||◌, Option, Some, None, Ok, Err, refl, sym, ◌∙◌, ap}
use Rattle.std.proofs.Common.{subst, true≢false}
use Rattle.std.specs.Prelude.{◌==◌, if◌then◌else◌}
use Rattle.rk_base.specs.Text.{Text, is_slash, same_text, hidden, dot, dot_dot}
use Rattle.rk_base.specs.Canonical.{has_nul, is_empty, is_name}
use Rattle.rk_base.specs.declared.errno.Errno.{Errno}
use Rattle.rk_base.specs.declared.errno.Errno.TheVariants.{NoEntry, NotDir, Denied, Loops, Invalid}
use Rattle.rk_calls.specs.declared.answer.Answer.{Answer}
use Rattle.rk_tree.specs.Entries.{is_dir}
use Rattle.rk_tree.specs.Hierarchy.{Hierarchy, node as node_at, top as top_at, mode_of, has_x, child, parent_of}
use Rattle.rk_tree.specs.Node.{Node as TreeNode, File as AFile, Dir as ADir, Link as ALink}
use Rattle.rk_tree.specs.Whole.{IsWhole}
use Rattle.rk_walk.specs.Walk.{Part, Spot, as_spot, parts, begins_slash, ends_slash}
use Rattle.rk_walk.specs.Walk as tree
use Rattle.rk_walk.specs.Walk.{leads as tree_leads}
use Rattle.rk_walk.specs.Way.{looks, looks_up, ends_seeing, walk_sees, leads_seeing, way}
use Rattle.rk_walk.specs.declared.seen.Seen.{Seen}
use Rattle.rk_walk.specs.declared.seen.Seen.TheVariants as seen
use Rattle.rk_walk.specs.declared.place.Here.{Here as TreeHere}
use Rattle.rk_walk.specs.declared.place.Place.TheVariants as place
use Rattle.rk_kernel.specs.Questions.{is_link}
use Rattle.rk_waves.specs.Programs.{Cell, Reads, One, end_of}
use Rattle.rk_feet.specs.Named.{Name, Dir, Link, Plain, EntryOf, AboveOf, ModeOf, Value, node, above, mode, Writes, Does, top}
use Rattle.rk_feet.specs.NamingLemmas.{clash}
use Rattle.rk_feet.specs.Ways.{Ahead, Here, Found, Absent, Row, dir, here_at, is_top, at_node, at_parent, at_part, walk, start, leads, resolve}
use Rattle.rk_feet.specs.Course.{Shows, IsUp, what_of, named, entry, here_named}
use Rattle.rk_feet.proofs.LeadingLemmas.{IsNear, near-more, near-top, near-child, near-parent}
use Rattle.rk_feet.proofs.OptionLemmas.{same-some, none-some}

-- what is known of a node that a path led to
pub record IsReached (tree : Hierarchy) (follow : Bool) (passed : ℕ) (here : TreeHere) : Type 0 where
  -- a path that is followed leads to no link
  pub plain : follow ≡ true → is_link (node_at tree here.node) ≡ false
  -- a directory stands no deeper than so many components, nor does the one that a name was found in
  pub here_near : is_dir (node_at tree here.node) ≡ true → IsNear tree passed here.node
  pub up_near : (up : ℕ × Text) → here.up ≡ Some up → IsNear tree passed up.0

module _ (held : Hierarchy) (at : Cell Plain Name → Value) (name_of : ℕ → Name) (shows : Shows held at name_of) (whole : IsWhole held) (row : Row)
    (follow : Bool) where
  abbrev ends : Does → Answer × Writes
  ends x = end_of at x

  abbrev called : TreeHere → Here
  called = here_named held at name_of

  what-dir : (x : Option TreeNode) → is_dir x ≡ true → what_of x ≡ Dir
  what-dir None e = refl
  what-dir (Some (AFile mode bytes)) e = absurd (true≢false (sym e))
  what-dir (Some (ADir mode)) e = refl
  what-dir (Some (ALink text)) e = absurd (true≢false (sym e))

  dir-named : (n : ℕ) → is_dir (node_at held n) ≡ true → dir (name_of n) ≡ named held at name_of n
  dir-named n e = ap (λ x. record { name = name_of n; what = x }) (sym (what-dir (node_at held n) e))

  dir-plain : (x : Option TreeNode) → is_dir x ≡ true → is_link x ≡ false
  dir-plain None e = refl
  dir-plain (Some (AFile mode bytes)) e = refl
  dir-plain (Some (ADir mode)) e = refl
  dir-plain (Some (ALink text)) e = absurd (true≢false (sym e))

  -- a directory without a name behind it
  bare : (passed n : ℕ) (slash : Bool) → IsNear held passed n → IsReached held follow passed (record { node = n; up = None; slash = slash })
  bare passed n slash near = record { plain = λ f. dir-plain (node_at held n) near.stands.0; here_near = λ d. near; up_near = λ up e. absurd (none-some up e) }

  -- What holds of a program, of where a path leads and of what is looked at on the way: of each end, and of what reads a cell that is looked at,
  -- if it holds of how that goes on.
  module _ (Q : Does → Spot → List Seen → Type 0) where
    abbrev pub EachFound : Type 0
    EachFound = (passed : ℕ) (here : TreeHere) → IsReached held follow passed here → Q (row.at passed (Found (called here))) (Ok (place.Found here)) []

    abbrev pub EachAbsent : Type 0
    EachAbsent = (passed n : ℕ) (name : Text) (slash : Bool) → IsNear held passed n
        → Q (row.at passed (Absent (name_of n) name slash)) (Ok (place.Absent n name slash)) []

    abbrev pub EachRefused : Type 0
    EachRefused = (e : Errno) → Q (row.refused e) (Err e) []

    -- a cell of a directory is looked at
    abbrev pub EachSeen : (ℕ → Plain) → (ℕ → Seen) → Type 0
    EachSeen cell sees = (n : ℕ) → is_dir (node_at held n) ≡ true → (next : Value → Does) (spot : Spot) (rest : List Seen)
        → Q (next (at (One (cell n)))) spot rest → Q (Reads (One (cell n)) next) spot (sees n ∷ rest)

    pub record Holds : Type 0 where
      pub found : EachFound
      pub absent : EachAbsent
      pub refused : EachRefused
      pub modes : EachSeen (λ n. ModeOf (name_of n)) seen.Mode
      pub ups : EachSeen (λ n. AboveOf (name_of n)) seen.Above
      pub entries : (name : Text) → EachSeen (λ n. EntryOf (name_of n) name) (λ n. seen.Entry n name)

    either-way : (b : Bool) (x y : Does) (s t : Spot) (us vs : List Seen) → Q x s us → Q y t vs
        → Q (if b then x else y) (if b then s else t) (if b then us else vs)
    either-way true x y s t us vs h k = h
    either-way false x y s t us vs h k = k

    abbrev GoesOn : ℕ → (Here → Does) → (TreeHere → Spot) → (TreeHere → List Seen) → Type 0
    GoesOn passed on on' sees = (here : TreeHere) → IsReached held follow passed here → is_dir (node_at held here.node) ≡ true
        → Q (on (called here)) (on' here) (sees here)

    module _ (h : Holds) where
      module _ (again : Text → Text → Does) (again' : Text → Text → Spot) (again_sees : Text → Text → List Seen)
          (more : (text after : Text) → Q (again text after) (again' text after) (again_sees text after)) where
        -- what stands under the name of a component in a directory
        module _ (passed n : ℕ) (part : Part) (last : Bool) (near : IsNear held passed n) (on : Here → Does) (on' : TreeHere → Spot)
            (sees : TreeHere → List Seen) (goes : GoesOn (suc passed) on on' sees) where
          up-near : (more : ℕ) → IsNear held more n → (up : ℕ × Text) → Some (n, part.name) ≡ Some up → IsNear held more up.0
          up-near more h up e = subst (λ u. IsNear held more u.0) (same-some (n, part.name) up e) h

          abbrev ahead : Ahead
          ahead = record { again = again; on = on }

          -- a file or a link
          leaf : (m : ℕ) (it : TreeNode) → node_at held m ≡ Some it → is_dir (Some it) ≡ false → (follow ≡ true → is_link (Some it) ≡ false)
              → Q (row.at passed (Found (record {
                node = record { name = name_of m; what = what_of (Some it) };
                up = Some (name_of n, part.name);
                slash = false;
              })))
              (Ok (place.Found (record { node = m; up = Some (n, part.name); slash = false }))) []
          leaf m it e file plain =
              subst (λ x. Q (row.at passed (Found
              (record { node = record { name = name_of m; what = what_of x }; up = Some (name_of n, part.name); slash = false })))
              (Ok (place.Found (record { node = m; up = Some (n, part.name); slash = false }))) []) e
              (h.found passed (record { node = m; up = Some (n, part.name); slash = false })
              (record {
                plain = λ f. ap is_link e ∙ plain f;
                here_near = λ d. absurd (clash (is_dir (node_at held m)) d (ap is_dir e ∙ file));
                up_near = up-near passed near;
              }))

          node-holds : (m : ℕ) (it : TreeNode) → node_at held m ≡ Some it → child held n part.name ≡ Some m
              → Q (at_node row follow ahead passed (name_of n) part last (Some (record { name = name_of m; what = what_of (Some it) })))
              (tree.at_node as_spot follow again' on' n part m (Some it)) (tree.at_node ends_seeing follow again_sees sees n part m (Some it))
          node-holds m (AFile mode bytes) e is =
              either-way (ends_slash part) _ _ _ _ [] [] (h.refused NotDir) (leaf m (AFile mode bytes) e refl (λ f. refl))
          node-holds m (ADir mode) e is =
              subst (λ x. Q (on (record { node = record { name = name_of m; what = what_of x }; up = Some (name_of n, part.name); slash = ends_slash part }))
              (on' (record { node = m; up = Some (n, part.name); slash = ends_slash part }))
              (sees (record { node = m; up = Some (n, part.name); slash = ends_slash part }))) e
              (goes (record { node = m; up = Some (n, part.name); slash = ends_slash part })
              (record {
                plain = λ f. ap is_link e;
                here_near = λ d. near-child held whole passed n m part.name near is d;
                up_near = up-near (suc passed) (near-more held passed n near);
              })
              (ap is_dir e))
          node-holds m (ALink text) e is = go (ends_slash part) follow refl
            where
              go : (a b : Bool) → follow ≡ b
                  → Q (if a || b then again text part.after else row.at passed
                  (Found (record { node = record { name = name_of m; what = Link text }; up = Some (name_of n, part.name); slash = false })))
                  (if a || b then again' text part.after else Ok (place.Found (record { node = m; up = Some (n, part.name); slash = false })))
                  (if a || b then again_sees text part.after else [])
              go true b f = more text part.after
              go false true f = more text part.after
              go false false f = leaf m (ALink text) e refl (λ g. absurd (clash follow g f))

          child-holds : (x : Option ℕ) → child held n part.name ≡ x
              → Q (at_node row follow ahead passed (name_of n) part last (entry held at name_of x))
              (tree.at_child as_spot held follow again' on' n part last x) (tree.at_child ends_seeing held follow again_sees sees n part last x)
          child-holds None e = either-way last _ _ _ _ [] [] (h.absent passed n part.name (ends_slash part) near) (h.refused NoEntry)
          child-holds (Some m) e =
              let it = shows.stand n m part.name e in
              subst (λ x. Q (at_node row follow ahead passed (name_of n) part last (Some (record { name = name_of m; what = what_of x })))
              (tree.at_node as_spot follow again' on' n part m x) (tree.at_node ends_seeing follow again_sees sees n part m x)) (sym it.1)
              (node-holds m it.0 it.1 e)

          parent-holds : (x : Option ℕ) → parent_of held n ≡ x → (v : Value) → IsUp held at name_of x v
              → Q (at_parent row follow ahead part (above v)) (tree.at_parent as_spot on' part x) (tree.at_parent ends_seeing sees part x)
          parent-holds None e v is = subst (λ u. Q (at_parent row follow ahead part u) (Err NoEntry) []) (sym is) (h.refused NoEntry)
          parent-holds (Some m) e v is =
              subst (λ u. Q (at_parent row follow ahead part u) (on' (record { node = m; up = None; slash = ends_slash part }))
              (sees (record { node = m; up = None; slash = ends_slash part }))) (sym is.2)
              (subst (λ d. Q (on (record { node = d; up = None; slash = ends_slash part })) (on' (record { node = m; up = None; slash = ends_slash part }))
              (sees (record { node = m; up = None; slash = ends_slash part }))) (sym (dir-named m is.0))
              (goes (record { node = m; up = None; slash = ends_slash part })
              (bare (suc passed) m (ends_slash part) (near-more held passed m (near-parent held whole passed n m near e))) is.0))

          abbrev program_in : Bool → Does
          program_in x = if not x then row.refused Denied
              else if same_text part.name dot then on (record { node = dir (name_of n); up = None; slash = ends_slash part })
              else if same_text part.name dot_dot then Reads (One (AboveOf (name_of n))) (λ u. at_parent row follow ahead part (above u))
              else if not (is_name part.name) then row.refused Invalid
              else if is_top (name_of n) && same_text part.name hidden then row.refused Denied
              else Reads (One (EntryOf (name_of n) part.name)) (λ e. at_node row follow ahead passed (name_of n) part last (node e))

          abbrev spot_in : Spot
          spot_in = if not (has_x (mode_of (node_at held n))) then Err Denied
              else if same_text part.name dot then on' (record { node = n; up = None; slash = ends_slash part })
              else if same_text part.name dot_dot then tree.at_parent as_spot on' part (parent_of held n)
              else if not (is_name part.name) then Err Invalid
              else if (n == top_at) && same_text part.name hidden then Err Denied
              else tree.at_child as_spot held follow again' on' n part last (child held n part.name)

          -- what is looked at behind the mode
          abbrev seen_in : List Seen
          seen_in = if not (has_x (mode_of (node_at held n))) then []
              else if same_text part.name dot then sees (record { node = n; up = None; slash = ends_slash part })
              else if same_text part.name dot_dot then seen.Above n ∷ tree.at_parent ends_seeing sees part (parent_of held n)
              else if not (is_name part.name) then []
              else if (n == top_at) && same_text part.name hidden then []
              else seen.Entry n part.name ∷ tree.at_child ends_seeing held follow again_sees sees n part last (child held n part.name)

          named-holds : Q (if is_top (name_of n) && same_text part.name hidden then row.refused Denied
              else Reads (One (EntryOf (name_of n) part.name)) (λ e. at_node row follow ahead passed (name_of n) part last (node e)))
              (if (n == top_at) && same_text part.name hidden then Err Denied else tree.at_child as_spot held follow again' on' n part last
              (child held n part.name))
              (if (n == top_at) && same_text part.name hidden then []
              else seen.Entry n part.name ∷ tree.at_child ends_seeing held follow again_sees sees n part last (child held n part.name))
          named-holds =
              subst (λ b. Q (if b && same_text part.name hidden then row.refused Denied
              else Reads (One (EntryOf (name_of n) part.name)) (λ e. at_node row follow ahead passed (name_of n) part last (node e)))
              (if (n == top_at) && same_text part.name hidden then Err Denied else tree.at_child as_spot held follow again' on' n part last
              (child held n part.name))
              (if (n == top_at) && same_text part.name hidden then []
              else seen.Entry n part.name ∷ tree.at_child ends_seeing held follow again_sees sees n part last (child held n part.name)))
              (sym (shows.tops n near.stands.0))
              (either-way ((n == top_at) && same_text part.name hidden) _ _ _ _ [] _ (h.refused Denied)
              (h.entries part.name n near.stands.0 (λ e. at_node row follow ahead passed (name_of n) part last (node e))
              (tree.at_child as_spot held follow again' on' n part last (child held n part.name))
              (tree.at_child ends_seeing held follow again_sees sees n part last (child held n part.name))
              (subst (λ e. Q (at_node row follow ahead passed (name_of n) part last (node e))
              (tree.at_child as_spot held follow again' on' n part last (child held n part.name))
              (tree.at_child ends_seeing held follow again_sees sees n part last (child held n part.name)))
              (sym (shows.entries n part.name near.stands.0)) (child-holds (child held n part.name) refl))))

          inside : Q (program_in (has_x (mode_of (node_at held n)))) spot_in seen_in
          inside =
              either-way (not (has_x (mode_of (node_at held n)))) _ _ _ _ [] _ (h.refused Denied)
              (either-way (same_text part.name dot) _ _ _ _ _ _
              (subst (λ d. Q (on (record { node = d; up = None; slash = ends_slash part })) (on' (record { node = n; up = None; slash = ends_slash part }))
              (sees (record { node = n; up = None; slash = ends_slash part }))) (sym (dir-named n near.stands.0))
              (goes (record { node = n; up = None; slash = ends_slash part }) (bare (suc passed) n (ends_slash part) (near-more held passed n near))
              near.stands.0))
              (either-way (same_text part.name dot_dot) _ _ _ _ _ _
              (h.ups n near.stands.0 (λ u. at_parent row follow ahead part (above u)) (tree.at_parent as_spot on' part (parent_of held n))
              (tree.at_parent ends_seeing sees part (parent_of held n))
              (parent-holds (parent_of held n) refl (at (One (AboveOf (name_of n)))) (shows.ups n near.stands.0)))
              (either-way (not (is_name part.name)) _ _ _ _ [] _ (h.refused Invalid) named-holds)))

          -- what comes behind what a component looks at
          abbrev behind : List Seen
          behind = if same_text part.name dot then sees (record { node = n; up = None; slash = ends_slash part })
              else if same_text part.name dot_dot then tree.at_parent ends_seeing sees part (parent_of held n)
              else if not (is_name part.name) then []
              else if (n == top_at) && same_text part.name hidden then []
              else tree.at_child ends_seeing held follow again_sees sees n part last (child held n part.name)

          -- both are what is looked at
          sees-part : looks held n part.name ++ tree.at_part ends_seeing held follow again_sees sees n part last ≡ seen.Mode n ∷ seen_in
          sees-part = by near.stands.0
            where
              by-name : (b c : Bool) (xs : List Seen)
                  → (if not b then [] else if c then [] else seen.Entry n part.name ∷ []) ++ (if not b then [] else if c then [] else xs)
                  ≡ (if not b then [] else if c then [] else seen.Entry n part.name ∷ xs)
              by-name true true xs = refl
              by-name true false xs = refl
              by-name false c xs = refl

              by-dots : (a b : Bool) (names us vs ws : List Seen) (xs : List Seen) → names ++ ws ≡ xs
                  → (if a then [] else if b then seen.Above n ∷ [] else names) ++ (if a then us else if b then vs else ws)
                  ≡ (if a then us else if b then seen.Above n ∷ vs else xs)
              by-dots true b names us vs ws xs e = refl
              by-dots false true names us vs ws xs e = refl
              by-dots false false names us vs ws xs e = e

              by-mode : (x : Bool) (ups us vs : List Seen) → ups ++ us ≡ vs
                  → (if not x then seen.Mode n ∷ [] else seen.Mode n ∷ ups) ++ (if not x then [] else us) ≡ seen.Mode n ∷ (if not x then [] else vs)
              by-mode true ups us vs e = ap (λ (l : List Seen). seen.Mode n ∷ l) e
              by-mode false ups us vs e = refl

              by : is_dir (node_at held n) ≡ true → looks held n part.name ++ tree.at_part ends_seeing held follow again_sees sees n part last ≡ seen.Mode
                  n ∷ seen_in
              by d =
                  ap (λ (b : Bool). (if not b then [] else if not (has_x (mode_of (node_at held n))) then seen.Mode n ∷ [] else seen.Mode n
                  ∷ looks_up n part.name)
                  ++ (if not b then [] else if not (has_x (mode_of (node_at held n))) then [] else behind)) d
                  ∙ by-mode (has_x (mode_of (node_at held n))) (looks_up n part.name) behind _
                  (by-dots (same_text part.name dot) (same_text part.name dot_dot) _ _ _ _ _
                  (by-name (is_name part.name) ((n == top_at) && same_text part.name hidden)
                  (tree.at_child ends_seeing held follow again_sees sees n part last (child held n part.name))))

          part-holds : Q (at_part row follow ahead passed (name_of n) part last) (tree.at_part as_spot held follow again' on' n part last)
              (looks held n part.name ++ tree.at_part ends_seeing held follow again_sees sees n part last)
          part-holds =
              subst (Q (at_part row follow ahead passed (name_of n) part last) (tree.at_part as_spot held follow again' on' n part last)) (sym sees-part)
              (subst (λ b. Q (at_part row follow ahead passed (name_of n) part last) (if not b then Err NotDir else spot_in) (seen.Mode n ∷ seen_in))
              (sym near.stands.0)
              (h.modes n near.stands.0 (λ v. program_in (has_x (mode v))) spot_in seen_in
              (subst (λ v. Q (program_in (has_x (mode v))) spot_in seen_in) (sym (shows.modes n near.stands.0)) inside)))

      walk-holds :
          (again : ℕ → Name → Text → Text → Does) (again' : ℕ → Text → Text → Spot) (again_sees : ℕ → Text → Text → List Seen)
          → ((passed n : ℕ) → IsNear held passed n → (text after : Text) → Q (again passed (name_of n) text after) (again' n text after)
          (again_sees n text after))
          → (later : List Part) (passed : ℕ) (here : TreeHere) → IsReached held follow passed here → is_dir (node_at held here.node) ≡ true
          → Q (walk row follow again passed (called here) later) (tree.walk as_spot held follow again' here later) (walk_sees held follow again_sees here later)
      walk-holds again again' again_sees more [] passed here reached d = h.found passed here reached
      walk-holds again again' again_sees more (part ∷ later) passed here reached d =
          part-holds (again passed (name_of here.node)) (again' here.node) (again_sees here.node) (more passed here.node (reached.here_near d)) passed here.node
          part (is_empty later) (reached.here_near d)
          (λ next. walk row follow again (suc passed) next later) (λ next. tree.walk as_spot held follow again' next later)
          (λ next. walk_sees held follow again_sees next later)
          (λ next r e. walk-holds again again' again_sees more later (suc passed) next r e)

      -- where a text starts

      start-near : (passed n : ℕ) (text : Text) → IsNear held passed n → IsNear held passed (tree.start n text).node
      start-near passed n text near = go (begins_slash text)
        where
          go : (b : Bool) → IsNear held passed (if b then tree.here_at top_at else tree.here_at n).node
          go true = near-top held whole passed
          go false = near

      start-reached : (passed n : ℕ) (text : Text) → IsNear held passed n → IsReached held follow passed (tree.start n text)
      start-reached passed n text near = go (begins_slash text)
        where
          go : (b : Bool) → IsReached held follow passed (if b then tree.here_at top_at else tree.here_at n)
          go true = bare passed top_at true (near-top held whole passed)
          go false = bare passed n true near

      start-named : (n : ℕ) (text : Text) → is_dir (node_at held n) ≡ true → start (name_of n) text ≡ called (tree.start n text)
      start-named n text d = go (begins_slash text)
        where
          at-dir : (m : ℕ) → is_dir (node_at held m) ≡ true → here_at (name_of m) ≡ called (tree.here_at m)
          at-dir m e = ap (λ x. record { node = x; up = None; slash = true }) (dir-named m e)

          go : (b : Bool) → (if b then here_at top else here_at (name_of n)) ≡ called (if b then tree.here_at top_at else tree.here_at n)
          go true = ap here_at (sym shows.top_is) ∙ at-dir top_at shows.top_dir
          go false = at-dir n d

      from-start :
          (again : ℕ → Name → Text → Text → Does) (again' : ℕ → Text → Text → Spot) (again_sees : ℕ → Text → Text → List Seen)
          → ((passed n : ℕ) → IsNear held passed n → (text after : Text) → Q (again passed (name_of n) text after) (again' n text after)
          (again_sees n text after))
          → (passed n : ℕ) → IsNear held passed n → (text : Text) (later : List Part)
          → Q (walk row follow again passed (start (name_of n) text) later) (tree.walk as_spot held follow again' (tree.start n text) later)
          (walk_sees held follow again_sees (tree.start n text) later)
      from-start again again' again_sees more passed n near text later =
          subst (λ it. Q (walk row follow again passed it later) (tree.walk as_spot held follow again' (tree.start n text) later)
          (walk_sees held follow again_sees (tree.start n text) later))
          (sym (start-named n text near.stands.0))
          (walk-holds again again' again_sees more later passed (tree.start n text) (start-reached passed n text near) (start-near passed n text near).stands.0)

      leads-holds : (links passed n : ℕ) → IsNear held passed n → (text after : Text)
          → Q (leads row follow links passed (name_of n) text after) (tree_leads as_spot links held follow n text after)
          (leads_seeing links held follow n text after)
      unfolding tree_leads leads_seeing
      leads-holds zero passed n near text after =
          from-start (λ _ _ _ _. row.refused Loops) (λ _ _ _. Err Loops) (λ _ _ _. []) (λ _ _ _ _ _. h.refused Loops) passed n near text (parts (text ++ after))
      leads-holds (suc links) passed n near text after =
          from-start (leads row follow links) (tree_leads as_spot links held follow) (leads_seeing links held follow)
          (λ p m near t a. leads-holds links p m near t a)
          passed n near text (parts (text ++ after))

      -- the whole of a path
      pub every-path : (path : Text) → Q (resolve row follow path) (tree.resolve held path follow) (way held path follow)
      every-path [] = h.refused NoEntry
      every-path (b ∷ bs) =
          either-way (not (is_slash b) || has_nul (b ∷ bs)) _ _ _ _ [] _ (h.refused Invalid)
          (subst (λ n. Q (leads row follow 32 0 n (b ∷ bs) []) (tree_leads as_spot 32 held follow top_at (b
          ∷ bs) []) (leads_seeing 32 held follow top_at (b ∷ bs) []))
          shows.top_is (leads-holds 32 0 top_at (near-top held whole 0) (b ∷ bs) []))

  -- the same of ends alone
  module _ (Q : Answer × Writes → Spot → Type 0) where
    abbrev pub OfFound : Type 0
    OfFound = (passed : ℕ) (here : TreeHere) → IsReached held follow passed here → Q (ends (row.at passed (Found (called here)))) (Ok (place.Found here))

    abbrev pub OfAbsent : Type 0
    OfAbsent = (passed n : ℕ) (name : Text) (slash : Bool) → IsNear held passed n
        → Q (ends (row.at passed (Absent (name_of n) name slash))) (Ok (place.Absent n name slash))

    abbrev pub OfRefused : Type 0
    OfRefused = (e : Errno) → Q (ends (row.refused e)) (Err e)

    pub path-holds : OfFound → OfAbsent → OfRefused → (path : Text) → Q (ends (resolve row follow path)) (tree.resolve held path follow)
    path-holds found absent refused =
        every-path (λ x spot sees. Q (ends x) spot) (record {
          found = found;
          absent = absent;
          refused = refused;
          modes = λ n d next spot rest holds. holds;
          ups = λ n d next spot rest holds. holds;
          entries = λ name n d next spot rest holds. holds;
        })
