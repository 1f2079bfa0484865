use Rattle.std.proofs.Common.{◌∙◌, ◌+◌, ◌<◌, length, sym, ap, subst, arith}
use Rattle.tr_record.specs.Rec.{rec_at}
use Rattle.tr_matching.specs.Groups.{first_of, group_at}
use Rattle.tr_matching.proofs.GroupLemmas.{known-go_on}
use Rattle.tr_matching.proofs.TakingLemmas.{take-either}
use Rattle.tr_matching.proofs.talks.take_part.Goals as goal

pub split-requires : goal.split-requires
split-requires c = record {
  groups = c.requires.groups;
  here = c.requires.at.here;
  go_on =
      known-go_on c.args.earlier.now (group_at c.args.place.group c.args.groups.now.items) (c.requires.groups c.args.place.group c.requires.at.here).common c.requires.agreed
      (subst (λ n. n < length (rec_at (first_of (group_at c.args.place.group c.args.groups.now.items)) c.args.earlier.now.records).steps) c.requires.behind c.requires.asks);
  agreed = c.requires.agreed;
}

pub lead-requires : goal.lead-requires
lead-requires c = record {
  groups = c.split.ensures.groups;
  here = (let more = c.split.ensures.grows.more in let here = c.requires.at.here in omega arith);
  split = c.in_ok-split.ensures.split;
  next = ap (λ n. n + 1) (c.requires.behind ∙ sym c.split.ensures.still);
}

pub returns-clause-taken : goal.returns-clause-taken
returns-clause-taken c =
    take-either c.args.earlier.now c.args.groups.now.items c.split.new.groups.items c.args.place.group c.args.place.at c.split.ensures.grows c.requires.at.here (c.split.ensures.still ∙ sym c.requires.behind) c.args.answer.now c.first_step-step.result.now
    c.first_step-step.ensures.step c.in_ok-on.on c.in_ok-taken.taken c.in_ok-on.ensures.at c.in_ok-on.ensures.some c.in_ok-on.ensures.none c.in_ok-taken.ensures.on c.in_ok-taken.ensures.off
