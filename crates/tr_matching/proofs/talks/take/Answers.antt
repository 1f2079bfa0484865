use Rattle.std.proofs.Common.{◌≤◌, ap, arith}
use Rattle.tr_matching.specs.declared.group.Group.{Group}
use Rattle.tr_matching.specs.Groups.{group_at}
use Rattle.tr_matching.proofs.KnownLemmas.{known-behind}
use Rattle.tr_matching.proofs.talks.take.Goals as goal

pub take_common-requires : goal.take_common-requires
take_common-requires c = record {
  groups = c.requires.groups;
  at = c.requires.at;
  common = (let same = ap (λ (y : Group). y.alike) c.group_of.ensures in omega arith);
  asks = c.requires.asks;
  alike = c.requires.alike;
}

pub take_part-requires : goal.take_part-requires
take_part-requires c =
    let same = ap (λ (y : Group). y.alike) c.group_of.ensures in
    let past : (group_at c.args.place.group c.args.groups.now.items).alike ≤ c.args.place.at = omega arith in
    let k = known-behind c.args.place.at (group_at c.args.place.group c.args.groups.now.items) c.requires.known past in
    record { groups = c.requires.groups; at = c.requires.at; behind = k.0; agreed = k.1; asks = c.requires.asks }
