use Rattle.std.proofs.Common.{◌∙◌, ap, length}
use Rattle.tr_record.specs.Rec.{count_of}
use Rattle.tr_record.proofs.PlacesLemmas.{length-places_of}
use Rattle.tr_record.proofs.table.Table.count.Goals as goal

pub returns : goal.returns
returns c = ap length (c.places.ensures ∙ c.self.invariant.places c.args.key.now) ∙ length-places_of c.args.key.now c.self.inside.records.items ∙ ap (count_of c.args.key.now) c.self.view_is
