use Rattle.std.proofs.Common.{ap, drop, ◌∙◌}
use Rattle.sh_token.specs.Folded.{folded}
use Rattle.sh_token.proofs.Folding.{other_bytes, no_other_bytes, empty_behind, past_within, behind_within}
use Rattle.sh_token.proofs.folded.rest.Goals as goal

pub returns-in-empty : goal.returns-in-empty
returns-in-empty c =
    let past = c.past_joins-here.result.now in
    let e = c.past_joins-here.ensures.rest in
    record {
      read = no_other_bytes c.args.text.now past e c.past_joins-here.ensures.none c.in-empty.len_below;
      left = empty_behind c.args.text.now past e c.in-empty.len_below;
      within = past_within c.args.text.now past e;
    }

pub returns-in-len1-up : goal.returns-in-len1-up
returns-in-len1-up c =
    let past = c.past_joins-here.result.now in
    let e = c.past_joins-here.ensures.rest in
    record {
      read = ap folded c.split_at.ensures.back ∙ other_bytes c.args.text.now past e c.past_joins-here.ensures.none;
      left = c.split_at.ensures.back ∙ ap (drop 1) e;
      within = behind_within c.args.text.now past c.split_at.result.1.now e c.split_at.ensures.back;
    }
