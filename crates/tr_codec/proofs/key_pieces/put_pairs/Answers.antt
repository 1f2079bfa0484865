use Rattle.std.proofs.Common.{◌<◌, ◌^◌, refl}
use Rattle.tr_codec.specs.Spelling.{pair_piece}
use Rattle.tr_parts.proofs.LoopLemmas.{all_next, all_done}
use Rattle.tr_codec.proofs.PutsLemmas.{puts_then, puts_none, puts_next, puts_all}
use Rattle.tr_codec.proofs.key_pieces.put_pairs.Goals as goal

pub pairs-init : goal.pairs-init
pairs-init c = record { puts = puts_none pair_piece _; fits = tt }

pub pairs-preserved : goal.pairs-preserved
pairs-preserved c =
    record {
      puts = puts_next pair_piece c.args.pairs.now c.pairs.pair-index _ _ _ _ _ c.pairs-test.true refl c.pairs.invariant.puts c.in_ok-put_pair.ensures.puts;
      fits = all_next (λ pair. pair.1 < 2 ^ 64) c.args.pairs.now c.pairs.pair-index _ _ c.pairs-test.true refl c.in_ok-put_pair.ensures.range c.pairs.invariant.fits;
    }

pub returns-clause-puts : goal.returns-clause-puts
returns-clause-puts c = puts_then _ _ _ _ _ c.in_ok-put_number.ensures.puts (puts_all pair_piece c.args.pairs.now c.pairs.pair-index _ _ c.pairs-test.false c.pairs.invariant.puts)

pub returns-clause-numbers : goal.returns-clause-numbers
returns-clause-numbers c = all_done (λ pair. pair.1 < 2 ^ 64) c.args.pairs.now c.pairs.pair-index c.pairs-test.false c.pairs.invariant.fits
