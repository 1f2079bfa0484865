-- A text at a place is a source of tokens.
use Rattle.std.proofs.Common.{◌≡◌, ℕ, List, Some, None, sym, ◌∙◌, subst}
use Rattle.std.specs.Prelude.{Ok, Err, IfSome}
use Rattle.sh_rules.specs.declared.token_kind.TokenKind.{TokenKind}
use Rattle.sh_rules.specs.declared.token_kind.Mode.{Mode}
use Rattle.sh_rules.specs.Modes.{mode_of}
use Rattle.sh_token.specs.Places.{Place, size}
use Rattle.sh_token.specs.Lexemes.{look}
use Rattle.sh_token.specs.Tokens.{Look}
use Rattle.sh_token.specs.Effects.{effect_of}
use Rattle.sh_token.specs.Steps.{after, token_of}
use Rattle.sh_lex.specs.Takes.{Takes, read_of}
use Rattle.sh_lex.specs.declared.taken.Taken.{Taken}
use Rattle.sh_lex.specs.declared.cursor.TakeErr.TheVariants as lex_stop_is
use Rattle.sh_token.proofs.Modes.{found_by_itself}
use Rattle.sh_token.proofs.Sizes.{may_be_empty, Shrinks, shorter}
use Rattle.sh_script.specs.TextReader.{StandsThere}
use Rattle.sh_script.proofs.Turning.{lexed_there}
use Rattle.sh_parse.specs.Tokens.{Took}
use Rattle.sh_parse.specs.declared.source.ParseErr.TheVariants as stop

-- what stands there in a mode stands there by itself
pub found_there : (m : Mode) (p : Place) (r : Look) → r ≡ look m p → IfSome r (λ x. StandsThere x.0 x.1 p)
found_there m p None e = tt
found_there m p (Some x) e = found_by_itself m p x.0 x.1 (sym e)

-- a token is taken
pub took_text : (kind : TokenKind) (n : ℕ) (p q : Place) (taken : Taken) (text : List ℕ) → Takes kind n p q (Ok taken) → text ≡ read_of taken → Took kind n p q (Ok text)
unfolding Takes
took_text kind n p q taken text h e = (h.0, h.1, e ∙ h.2)

pub took_shrinks : (kind : TokenKind) (n : ℕ) (p q : Place) (taken : Taken) → StandsThere kind n p → Takes kind n p q (Ok taken) → Shrinks (may_be_empty kind) (size p) (size q)
unfolding Takes
took_shrinks kind n p q taken s h =
    subst (λ q. Shrinks (may_be_empty kind) (size p) (size q)) (sym h.0)
    (shorter (mode_of kind) p (token_of kind n p) (after (effect_of kind) n p) (lexed_there (mode_of kind) kind n p s))

-- it opens a level too many
pub took_deep : (kind : TokenKind) (n : ℕ) (p q : Place) → Takes kind n p q (Err lex_stop_is.Deep) → Took kind n p q (Err stop.Deep)
unfolding Takes
took_deep kind n p q h = h
