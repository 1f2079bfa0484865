-- One turn of reading keeps what is owed.
use Rattle.std.proofs.Common.{◌≡◌, List, [], ◌∷◌, ◌++◌, false, refl, sym, ap, ◌∙◌, ◌⊎◌, inl, inr, append_assoc, append-nil}
use Rattle.sh_rules.specs.Grammar.{Symbol, Want, Do, Leaf, Node, Parses, no_parses, parse_and, Halt}
use Rattle.sh_rules.specs.Reading.{Reader, Stands, Chooses, ReadsAll, Halts, Here, Within, Stops, In_first, After, At, StuckAll}
use Rattle.sh_rules.specs.declared.token_kind.TokenKind.{TokenKind}
use Rattle.sh_rules.specs.declared.token_kind.Mode.{Mode}
use Rattle.sh_rules.specs.Parts.{Part}
use Rattle.sh_rules.specs.Rules.{Rule, Token, shell, script, spelling, part_of}
use Rattle.sh_grammar.specs.Marks.{Mark, node, leaf, flat, flat_all}
use Rattle.sh_script.specs.Owing.{Owes}

module _ {P : Type 0} (l : Reader TokenKind Part Rule Token Mode P) where
  -- some symbols and others, read one after another
  Apart : List (Symbol TokenKind Part) → List (Symbol TokenKind Part) → Parses Rule Token → P → P → Type 0
  Apart ss rest xs p q = (cs : Parses Rule Token) × (bs : Parses Rule Token) × (m : P) × ReadsAll shell l cs ss p m × ReadsAll shell l bs rest m q × (flat_all xs ≡ flat_all cs ++ flat_all bs)

  reads_apart : (ss rest : List (Symbol TokenKind Part)) (xs : Parses Rule Token) (p q : P) → ReadsAll shell l xs (ss ++ rest) p q → Apart ss rest xs p q
  unfolding Apart
  reads_apart [] rest xs p q h = (no_parses, xs, p, refl, h, refl)
  reads_apart (s ∷ ss) rest no_parses p q h = absurd h
  reads_apart (s ∷ ss) rest (parse_and x xs) p q h =
      let a = reads_apart ss rest xs h.0 q h.2 in
      (parse_and x a.0, a.1, a.2, (h.0, h.1, a.3), a.4, ap (λ ms. flat x ++ ms) a.5 ∙ sym (append_assoc (flat x) (flat_all a.0) (flat_all a.1)))

  StuckApart : List (Symbol TokenKind Part) → List (Symbol TokenKind Part) → P → P → Halt Token → Type 0
  StuckApart ss rest p m h = ((y : Stops Rule Token) × StuckAll shell l y ss p (At m h)) ⊎ ((cs : Parses Rule Token) × (c : P) × (y : Stops Rule Token) × ReadsAll shell l cs ss p c × StuckAll shell l y rest c (At m h))

  stuck_apart : (ss rest : List (Symbol TokenKind Part)) (x : Stops Rule Token) (p m : P) (h : Halt Token) → StuckAll shell l x (ss ++ rest) p (At m h) → StuckApart ss rest p m h
  unfolding StuckApart
  stuck_apart [] rest x p m h k = inr (no_parses, p, x, refl, k)
  stuck_apart (s ∷ ss) rest (In_first x) p m h k = inl (In_first x, k)
  stuck_apart (s ∷ ss) rest (After q x) p m h k = later (stuck_apart ss rest x k.0 m h k.2)
    where
      later : StuckApart ss rest k.0 m h → StuckApart (s ∷ ss) rest p m h
      later (inl a) = inl (After q a.0, (k.0, k.1, a.1))
      later (inr a) = inr (parse_and q a.0, a.1, a.2, (k.0, k.1, a.3), a.4)

  pub owed_first : (start : P) → Owes l start script [] start
  unfolding Owes
  owed_first start = ((λ xs q h. (xs, h, refl)), (λ x m h k. (x, k)))

  pub owed_taken : (start : P) (k : TokenKind) (ss : List (Symbol TokenKind Part)) (marks : List Mark) (p q : P) (t : Token) → Owes l start (Want k ∷ ss) marks p → Stands shell l t p q → l.over t p ≡ false → t.kind ≡ k → Owes l start ss (marks ++ (leaf t.text ∷ [])) q
  unfolding Owes
  owed_taken start k ss marks p q t o s u e =
      let is : Want k ≡ Want t.kind = ap Want (sym e) in (
        (λ xs r h. let a = o.0 (parse_and (Leaf t) xs) r (q, (is, s, u), h) in (a.0, a.1, a.2 ∙ sym (append_assoc marks (leaf t.text ∷ []) (flat_all xs)))),
        (λ x m h k. o.1 (After (Leaf t) x) m h (q, (is, s, u), k)),
      )

  pub owed_chosen : (start : P) (n : Part) (r : Rule) (ss : List (Symbol TokenKind Part)) (marks : List Mark) (p : P) → Owes l start (Do n ∷ ss) marks p → Chooses shell l p r → part_of r ≡ n → Owes l start (spelling r ++ ss) (marks ++ (node r ∷ [])) p
  unfolding Owes Apart StuckApart
  owed_chosen start n r ss marks p o c e =
      let is : Do n ≡ Do (part_of r) = ap Do (sym e) in (
        (λ xs q h.
            let a = reads_apart (spelling r) ss xs p q h in
            let b = o.0 (parse_and (Node r a.0) a.1) q (a.2, (is, c, a.3), a.4) in
            (b.0, b.1, b.2 ∙ ap (λ ms. marks ++ (node r ∷ ms)) (sym a.5) ∙ sym (append_assoc marks (node r ∷ []) (flat_all xs)))),
        (λ x m h k. stuck (stuck_apart (spelling r) ss x p m h k)),
      )
    where
      stuck : {m : P} {h : Halt Token} → StuckApart (spelling r) ss p m h → (y : Stops Rule Token) × StuckAll shell l y script start (At m h)
      stuck {m = m} {h = h} (inl a) = o.1 (In_first (Within r a.0)) m h (ap Do (sym e), c, a.1)
      stuck {m = m} {h = h} (inr a) = o.1 (After (Node r a.0) a.2) m h (a.1, (ap Do (sym e), c, a.3), a.4)

  pub owed_stops : (start : P) (s : Symbol TokenKind Part) (ss : List (Symbol TokenKind Part)) (marks : List Mark) (p : P) (h : Halt Token) → Owes l start (s ∷ ss) marks p → Halts shell l s p h → (y : Stops Rule Token) × StuckAll shell l y script start (At p h)
  unfolding Owes
  owed_stops start s ss marks p h o k = o.1 (In_first Here) p h (refl, k)

  pub owed_nothing : (start : P) (marks : List Mark) (q : P) → Owes l start [] marks q → (qs : Parses Rule Token) × ReadsAll shell l qs script start q × (flat_all qs ≡ marks)
  unfolding Owes
  owed_nothing start marks q o = let a = o.0 no_parses q refl in (a.0, a.1, a.2 ∙ append-nil marks)
