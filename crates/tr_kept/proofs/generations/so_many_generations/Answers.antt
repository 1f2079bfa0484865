use Rattle.std.proofs.Common.{List, [], ◌∷◌, length, ap, arith}
use Rattle.std.proofs.lemmas.List.{length-append}
use Rattle.std.proofs.lemmas.Result.{err_from_is_err_and}
use Rattle.tr_nodes.specs.Tails.{tails_of}
use Rattle.tr_parts.proofs.LoopLemmas.{goes_on, ends, is_done}
use Rattle.tr_record.specs.declared.records.Record.{Record}
use Rattle.tr_kept.specs.KeptReading.{generation_at}
use Rattle.tr_codec.specs.Reading.{many_at}
use Rattle.tr_kept.proofs.generations.so_many_generations.Goals as goal

pub returns-in_err-rest-clause-gives : goal.returns-in_err-rest-clause-gives
returns-in_err-rest-clause-gives c =
    let one = generation_at c.args.blobs.now (tails_of c.args.pool.now.value.nodes) in
    let p = err_from_is_err_and c.from_residual.result c.from_residual.ensures.1 in
    rw (p.1, p.2) (ends one c.in_err-rest.field-0.0 c.generations.tables.kept c.args.count c.generations.counter c.generations.rest.now (many_at one c.args.count [] c.args.bytes.now) c.generations-test.true c.in_err-rest.ensures.fails c.generations.invariant.read)

pub generations-preserved : goal.generations-preserved
generations-preserved c =
    let one = generation_at c.args.blobs.now (tails_of c.args.pool.now.value.nodes) in
    let g = c.in_ok-rest.ensures.read in
    let kept = c.generations.tables.kept in
    record {
      read = rw g.adds (goes_on one kept c.args.count c.generations.counter c.generations.rest.now g.table c.in_ok-rest.rest.now (many_at one c.args.count [] c.args.bytes.now) c.generations-test.true g.read c.generations.invariant.read);
      are = c.in_ok-rest.ensures.are c.args.used.now.blobs c.generations.invariant.are;
      many = omega (arith, ap (λ (l : List (List Record)). length l) g.adds, length-append kept (g.table ∷ []));
    }

pub returns-clause-gives : goal.returns-clause-gives
returns-clause-gives c =
    let one = generation_at c.args.blobs.now (tails_of c.args.pool.now.value.nodes) in
    is_done one c.generations.tables.kept c.args.count c.generations.counter c.generations.rest.now (many_at one c.args.count [] c.args.bytes.now) c.generations-test.false c.generations.invariant.read
