use Rattle.std.proofs.Common.{◌≡◌, ◌+◌, false, refl, sym, ap, subst}
use Rattle.std.specs.Prelude.{Ok, Some}
use Rattle.sh_lex.specs.declared.lexer.Token.{Token}
use Rattle.sh_token.specs.Places.{is_none}
use Rattle.sh_token.specs.Folded.{folded}
use Rattle.sh_lex.specs.Tokenizing.{Tokens, Tells}
use Rattle.sh_lex.proofs.Tokenized.{token_told}
use Rattle.sh_lex.proofs.lexer.Lexer.next.Goals as goal

pub returns : goal.returns
returns c =
    let l : Tokens = record { text = c.self.inside.text.now; at = c.self.inside.at } in
    let token : Token = record { kind = c.in-Some.kind; at = c.place.inside.at; text = c.front_bytes-text.result } in
    let at : c.place.inside.at ≡ c.from-place.result.at = ap (λ p. p.at) c.place.view_is in
    let is_left : is_none (folded c.from-place.result.text) ≡ false = sym c.if-is_read_out.ensures in
    subst (λ old. Tells old (record { text = c.self.inside.text.now; at = c.place.inside.at + c.in-Some.n }) (Ok (Some token))) c.self.view_is
    (token_told l c.from-place.result c.in-Some.kind c.in-Some.n token c.from-place.ensures.begins is_left c.in-Some.ensures.found c.in-Some.ensures.within c.from-place.ensures.whole refl at c.front_bytes-text.ensures)
