use Rattle.std.proofs.Common.{◌∙◌, subst}
use Rattle.tr_parts.specs.Piece.{blob, counted}
use Rattle.tr_codec.specs.Spelling.{var_piece}
use Rattle.tr_codec.specs.Puts.{Puts}
use Rattle.tr_codec.proofs.PutsLemmas.{puts_then}
use Rattle.tr_codec.proofs.key_pieces.put_key.Goals as goal

pub returns-clause-puts : goal.returns-clause-puts
returns-clause-puts c =
    let words = subst (λ l. Puts (counted blob l) c.args.w.now c.put_words.new.w) (c.as_slice.ensures ∙ c.argv.ensures.value) c.in_ok-put_words.ensures in
    let wd = subst (λ l. Puts (blob l) c.put_words.new.w c.put_path.new.self) c.wd.ensures c.in_ok-put_path.ensures.puts in
    let vars = subst (λ l. Puts (counted var_piece l) c.put_path.new.self c.put_vars.new.w) (c.as_slice-2.ensures.value ∙ c.vars.ensures) c.in_ok-put_vars.ensures in
    puts_then _ _ _ _ _ words (puts_then _ _ _ _ _ wd vars)
