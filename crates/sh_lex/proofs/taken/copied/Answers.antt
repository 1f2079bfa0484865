use Rattle.std.proofs.Common.{ℕ, Bool, sym, ap, drop, ◌++◌, ◌∷◌, [], ◌∙◌}
use Rattle.std.specs.Prelude.{if◌then◌else◌, ◌==◌}
use Rattle.sh_token.specs.Bytes.{◌or◌, ◌also◌, is_tab}
use Rattle.sh_token.specs.HereDocuments.{lines}
use Rattle.sh_token.specs.Steps.{as_read, untabbed}
use Rattle.sh_token.proofs.Folding.{goes_over, is_over, untab_one, untab_none}
use Rattle.sh_lex.proofs.taken.copied.Goals as goal

pub returns-then-is_over : goal.returns-then-is_over
returns-then-is_over c =
    is_over (as_read c.args.raw c.args.tabs c.args.begins c.args.text.now) c.bytes.out.items (untabbed c.args.tabs c.bytes.fresh (lines c.args.raw c.bytes.left.now)) c.bytes.invariant
    (untab_none c.args.tabs c.bytes.fresh (lines c.args.raw c.bytes.left.now) (sym c.is_over.ensures ∙ c.if-is_over.true))

pub bytes-preserved : goal.bytes-preserved
bytes-preserved c =
    let xs = lines c.args.raw c.bytes.left.now in
    let some = sym c.is_over.ensures ∙ c.if-is_over.false in
    let dropped : ℕ → Bool = λ b. (c.args.tabs also c.bytes.fresh) also is_tab b in
    goes_over (as_read c.args.raw c.args.tabs c.args.begins c.args.text.now) c.bytes.out.items c.push_unless.new.out.items
    (if c.is_dropped-dropped.result then [] else c.first_of-c.result ∷ []) (untabbed c.args.tabs c.bytes.fresh xs) c.bytes.invariant c.in_ok-push_unless.ensures
    (untabbed c.args.tabs c.is_fresh-fresh.result (lines c.args.raw c.behind-left.result.now))
    (untab_one c.args.tabs c.bytes.fresh xs some
    ∙ ap (λ b. (if dropped b then [] else b ∷ []) ++ untabbed c.args.tabs (dropped b or b == 10) (drop 1 xs)) (sym c.first_of-c.ensures)
    ∙ ap (λ d. (if d then [] else c.first_of-c.result ∷ []) ++ untabbed c.args.tabs (d or c.first_of-c.result == 10) (drop 1 xs)) (sym c.is_dropped-dropped.ensures)
    ∙ ap (λ f. (if c.is_dropped-dropped.result then [] else c.first_of-c.result ∷ []) ++ untabbed c.args.tabs f (drop 1 xs)) (sym c.is_fresh-fresh.ensures)
    ∙ ap (λ r. (if c.is_dropped-dropped.result then [] else c.first_of-c.result ∷ []) ++ untabbed c.args.tabs c.is_fresh-fresh.result r) (sym c.behind-left.ensures))
