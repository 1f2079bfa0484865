use Rattle.std.proofs.Common.{◌≡◌, ◌∙◌, ◌+◌, ◌<◌, length, sym, ap, subst}
use Rattle.tr_record.specs.Rec.{rec_at}
use Rattle.tr_matching.specs.declared.group.Group.{Group}
use Rattle.tr_matching.specs.Earlier.{IsRest}
use Rattle.tr_matching.specs.Groups.{first_of, group_at}
use Rattle.tr_matching.proofs.GroupLemmas.{first-here}
use Rattle.tr_matching.proofs.talks.first_rest.Goals as goal

pub first-first-requires : goal.first-first-requires
first-first-requires c = λ z. (c.requires.groups c.args.place.group c.requires.at.here).common.some (sym (ap (λ (y : Group). y.members) c.group_of.ensures) ∙ z)

pub behind-requires : goal.behind-requires
behind-requires c =
    let eq : c.first-first.result ≡ first_of (group_at c.args.place.group c.args.groups.now.items) = c.first-first.ensures ∙ ap (λ (y : Group). first_of y) c.group_of.ensures in
    record {
      in_old = subst (λ i. i < length c.args.earlier.now.records) (sym eq) (first-here c.args.earlier.now (group_at c.args.place.group c.args.groups.now.items) (c.requires.groups c.args.place.group c.requires.at.here).common);
      rest = subst (λ i. IsRest c.args.earlier.now i c.args.place.at c.args.place.rest) (sym eq) c.requires.at.rest;
      here = subst (λ i. c.args.place.at < length (rec_at i c.args.earlier.now.records).steps) (sym eq) c.requires.asks;
    }

pub returns : goal.returns
returns c =
    let eq : c.first-first.result ≡ first_of (group_at c.args.place.group c.args.groups.now.items) = c.first-first.ensures ∙ ap (λ (y : Group). first_of y) c.group_of.ensures in
    subst (λ i. IsRest c.args.earlier.now i (c.args.place.at + 1) c.behind.result) eq c.behind.ensures
