use Rattle.std.proofs.Common.{◌≡◌, ◌-◌, List, [], map}
use Rattle.std.specs.Prelude.{fold}
use Rattle.std.specs.List.{AllByRecursion}
use Rattle.tr_record.specs.declared.steps.Step.{Step}
use Rattle.tr_codec.specs.OldReading.{step_at}
use Rattle.tr_codec.specs.OldRows.{IsTold, step_in}
use Rattle.tr_codec.specs.Reading.{many_at}
use Rattle.tr_codec.specs.Used.{step_used}
use Rattle.tr_codec.proofs.old_records.so_many_steps.Given as goal

abbrev pub invariant-steps : goal.invariant-steps
invariant-steps l = record {
  read : many_at (λ (before : List Step). step_at l.blobs) (l.count - l.counter) (map step_in l.steps.items) l.rest ≡ many_at (λ (before : List Step). step_at l.blobs) l.count [] l.bytes;
  told : AllByRecursion (IsTold l.blobs) l.steps.items;
  used : l.used ≡ fold (step_used l.blobs) l.initial.used (map step_in l.steps.items);
}
