use Rattle.std.proofs.Common.{arith}
use Rattle.sh_parse.proofs.Lines.{lines_next, lines_done, counted_within}
use Rattle.sh_parse.proofs.reader.newlines.Goals as goal

pub returns : goal.returns
returns c = record {
  counted = lines_done c.text.n c.args.text.now c.text.b-index c.text-test.false c.text.invariant.counted;
  within = omega (arith, c.text.invariant.within);
}

pub text-preserved : goal.text-preserved
text-preserved c = record {
  counted = lines_next c.text.n c.counted-n.result c.args.text.now c.text.b-index c.text-test.true c.counted-n.ensures c.text.invariant.counted;
  within = counted_within c.text.n c.counted-n.result _ c.text.b-index c.counted-n.ensures c.text.invariant.within;
}
