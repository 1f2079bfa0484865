-- The rules of a part are its own, and so is one that is chosen there.
use Rattle.std.proofs.Common.{◌≡◌, List, [], ◌∷◌, Option, Some, None, Bool, true, false, refl, sym, ap, ◌∙◌}
use Rattle.std.specs.List.{list_any, find}
use Rattle.std.specs.Option.{option_or}
use Rattle.std.proofs.Math.Bool.{cond, ◌||◌}
use Rattle.sh_rules.specs.declared.token_kind.TokenKind.{TokenKind}
use Rattle.sh_rules.specs.Parts as p
use Rattle.sh_rules.specs.Parts.{Part}
use Rattle.sh_rules.specs.Rules.{Rule, part_of, rules, spelling}
use Rattle.sh_rules.specs.Choosing.{is_nothing, rule_begins, choose}

abbrev pub Own : Part → List Rule → Type 0
Own it [] = Unit {0}
Own it (r ∷ rs) = (part_of r ≡ it) × Own it rs

pub rules_own : (it : Part) → Own it (rules it)
rules_own p.opt_list = (refl, (refl, (refl, tt)))
rules_own p.list = (refl, (refl, tt))
rules_own p.list_rest = (refl, (refl, (refl, tt)))
rules_own p.newline = (refl, tt)
rules_own p.bodies = (refl, (refl, (refl, tt)))
rules_own p.body_parts = (refl, (refl, (refl, (refl, (refl, tt)))))
rules_own p.and_or = (refl, tt)
rules_own p.and_or_rest = (refl, (refl, (refl, tt)))
rules_own p.linebreak = (refl, (refl, tt))
rules_own p.pipeline = (refl, (refl, tt))
rules_own p.pipe_rest = (refl, (refl, tt))
rules_own p.command = (refl, (refl, (refl, (refl, (refl, (refl, tt))))))
rules_own p.compound = (refl, (refl, (refl, (refl, (refl, (refl, (refl, tt)))))))
rules_own p.if_rest = (refl, (refl, (refl, tt)))
rules_own p.for_in = (refl, (refl, (refl, (refl, tt))))
rules_own p.for_in_later = (refl, (refl, (refl, tt)))
rules_own p.for_words = (refl, (refl, (refl, tt)))
rules_own p.case_in = (refl, (refl, tt))
rules_own p.items = (refl, (refl, (refl, (refl, (refl, tt)))))
rules_own p.pattern_rest = (refl, (refl, tt))
rules_own p.item_end = (refl, (refl, tt))
rules_own p.redirects = (refl, (refl, tt))
rules_own p.redirect = (refl, (refl, tt))
rules_own p.prefix = (refl, (refl, (refl, (refl, (refl, tt)))))
rules_own p.arguments = (refl, (refl, (refl, tt)))
rules_own p.word = (refl, (refl, tt))
rules_own p.value = (refl, (refl, (refl, tt)))
rules_own p.parts = (refl, (refl, (refl, tt)))
rules_own p.quoted = (refl, (refl, (refl, (refl, (refl, tt)))))
rules_own p.expansion = (refl, (refl, (refl, (refl, (refl, (refl, tt))))))
rules_own p.quoted_parts = (refl, (refl, (refl, (refl, (refl, tt)))))
rules_own p.brace_start = (refl, (refl, (refl, tt)))
rules_own p.brace_parts = (refl, (refl, (refl, tt)))
rules_own p.quoted_brace_parts = (refl, (refl, (refl, (refl, (refl, (refl, tt))))))
rules_own p.arithmetic = (refl, (refl, (refl, (refl, (refl, (refl, (refl, tt)))))))

-- one of them for which a test holds
pub one_own : (it : Part) (f : Rule → Bool) (rs : List Rule) → Own it rs → list_any f rs ≡ true → (r : Rule) × (part_of r ≡ it) × (f r ≡ true)
one_own it f [] o h = cc
one_own it f (r ∷ rs) o h = by (one_own it f rs o.1) (f r) refl h
  where
    by : (list_any f rs ≡ true → (q : Rule) × (part_of q ≡ it) × (f q ≡ true)) → (b : Bool) → f r ≡ b → (b || list_any f rs) ≡ true → (q : Rule) × (part_of q ≡ it) × (f q ≡ true)
    by later true e h = (r, o.0, e)
    by later false e h = later h

some_rule : (x y : Rule) → Some x ≡ Some y → x ≡ y
some_rule x y h = cc

one_of : (it : Part) (b : Bool) (q : Rule) (rest : Option Rule) (r : Rule) → part_of q ≡ it → (rest ≡ Some r → part_of r ≡ it) → cond b (Some q) rest ≡ Some r → part_of r ≡ it
one_of it true q rest r e more h = ap part_of (sym (some_rule q r h)) ∙ e
one_of it false q rest r e more h = more h

found_own : (it : Part) (f : Rule → Bool) (rs : List Rule) (r : Rule) → Own it rs → find f rs ≡ Some r → part_of r ≡ it
found_own it f [] r o h = cc
found_own it f (q ∷ rs) r o h = one_of it (f q) q (find f rs) r o.0 (found_own it f rs r o.1) h

either_own : (it : Part) (a b : Option Rule) (r : Rule) → (a ≡ Some r → part_of r ≡ it) → (b ≡ Some r → part_of r ≡ it) → option_or a b ≡ Some r → part_of r ≡ it
either_own it None b r x y h = y h
either_own it (Some q) b r x y h = x h

pub chosen_part : (it : Part) (kind : TokenKind) (r : Rule) → Some r ≡ choose it kind → part_of r ≡ it
unfolding choose
chosen_part it kind r h =
    either_own it (find (rule_begins kind) (rules it)) (find (λ rule. is_nothing (spelling rule)) (rules it)) r
    (found_own it (rule_begins kind) (rules it) r (rules_own it))
    (found_own it (λ rule. is_nothing (spelling rule)) (rules it) r (rules_own it)) (sym h)
