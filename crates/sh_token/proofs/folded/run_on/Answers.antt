use Rattle.std.proofs.Common.{ap, ◌∙◌, arith}
use Rattle.sh_token.specs.Bytes.{class_is}
use Rattle.sh_token.specs.Folded.{run}
use Rattle.sh_token.proofs.folded.run_on.Goals as goal

pub returns : goal.returns
returns c =
    let e = c.run.ensures.count ∙ ap (λ xs. run (class_is c.args.class) xs) c.rest-behind.ensures.read in
    omega (arith, e)
