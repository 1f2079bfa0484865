use Rattle.std.proofs.Common.{◌∙◌, ℕ, List, length, Result, Ok, Err, ap}
use Rattle.std.specs.Prelude.{OnOk}
use Rattle.std.specs.List.{AllByRecursion}
use Rattle.std.proofs.lemmas.List.{length-map}
use Rattle.std.proofs.lemmas.Result.{IfOk-weaker}
use Rattle.tr_nodes.specs.Tails.{needed, head_in}
use Rattle.tr_parts.specs.Piece.{counted}
use Rattle.tr_record.specs.Generations.{records, AreGenerations}
use Rattle.tr_record.specs.declared.records.Record.{Record}
use Rattle.tr_kept.specs.KeptSpelling.{magic}
use Rattle.tr_codec.specs.Fits.{Fits}
use Rattle.tr_codec.specs.Puts.{Puts, spelt_body}
use Rattle.tr_codec.specs.Same.{same_step}
use Rattle.tr_codec.specs.Sound.{IsSound}
use Rattle.tr_codec.specs.Spelling.{talks, record_piece}
use Rattle.tr_kept.proofs.KeptPutLemmas.{kept_fits, kept_put}
use Rattle.tr_kept.proofs.kept_writing.kept_body_of.Goals as goal

on_ok : {T E : Type 0} (result : Result T E) (P : Type 0) → P → OnOk result P
on_ok (Ok x) P p = p
on_ok (Err e) P p = tt

pub put_tables-requires : goal.put_tables-requires
put_tables-requires c =
    let table = records c.args.kept.now in
    let h = c.in_ok-nodes.ensures in
    ap (λ (l : List ℕ). length l) (c.as_slice.ensures.value ∙ h.heads_are) ∙ length-map (talks table) (head_in same_step (needed same_step (talks table))) ∙ length-map table (λ (r : Record). r.steps)

pub returns-clause-body : goal.returns-clause-body
returns-clause-body c =
    let kept = c.args.kept.now in
    let tails = needed same_step (talks (records kept)) in
    let h = c.in_ok-nodes.ensures in
    let w = c.in_ok-nodes.nodes in
    let new = c.put_tables.new.w in
    let put : Puts (counted (counted (record_piece tails)) kept) w.writer new = c.in_ok-put_tables.ensures.puts tails (c.as_slice.ensures.value ∙ h.heads_are) in
    IfOk-weaker c.body.result _ _ (λ out e. e ∙ ap (spelt_body magic new) c.as_slice-2.ensures.keys ∙ kept_put w new kept h.holds put) c.body.ensures

pub returns-clause-fits : goal.returns-clause-fits
returns-clause-fits c =
    let kept = c.args.kept.now in
    let h = c.in_ok-nodes.ensures in
    on_ok c.body.result (AllByRecursion (λ table. AllByRecursion IsSound table → Fits table) kept)
    (kept_fits c.in_ok-nodes.nodes kept h.holds c.in_ok-put_tables.ensures.typed c.in_ok-put_tables.ensures.numbered)

pub returns-clause-are : goal.returns-clause-are
returns-clause-are c = on_ok c.body.result (AreGenerations c.args.kept.now) c.in_ok-put_tables.ensures.are
