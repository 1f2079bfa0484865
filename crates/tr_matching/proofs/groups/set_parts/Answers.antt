use Rattle.std.proofs.Common.{◌≡◌, ◌∙◌, ◌++◌, List, length, get_or, ap, arith, rules}
use Rattle.std.proofs.lemmas.Grind.{common_steps}
use Rattle.std.specs.Prelude.{slice_set}
use Rattle.tr_matching.specs.declared.group.Group.{Group}
use Rattle.tr_matching.specs.Groups.{group_at}
use Rattle.tr_matching.specs.Parted.{with_parts}
use Rattle.tr_matching.proofs.ReadLemmas.{read-front}
use Rattle.tr_matching.proofs.groups.set_parts.Goals as goal

pub returns-clause-ok : goal.returns-clause-ok
returns-clause-ok c =
    let groups = c.args.groups.now.items in
    let parts = c.args.parting.groups.items in
    let it : Group = c.index_mut-group.result.now in
    let all : c.append.new.self.items ≡ c.args.groups.now.items ++ c.args.parting.groups.items = c.in_ok-append.ensures.items in
    let is = read-front groups parts c.args.g it c.requires (c.index_mut-group.ensures.value ∙ ap (λ (l : List Group). get_or l c.args.g c.index_mut-group.result.now) all) in
    let many : c.len-from.result ≡ length c.args.groups.now.items = first_of (search rules, omega (arith, c.len-from.ensures, c.args.groups.now.ok.0), grind (arith, common_steps)) in
    ap (λ (l : List Group). slice_set l c.args.g (with_parts c.index_mut-group.result.now c.len-from.result c.args.parting)) all
    ∙ ap (λ (y : Group). slice_set (c.args.groups.now.items ++ c.args.parting.groups.items) c.args.g (with_parts y c.len-from.result c.args.parting)) is
    ∙ ap (λ n. slice_set (c.args.groups.now.items ++ c.args.parting.groups.items) c.args.g (with_parts (group_at c.args.g c.args.groups.now.items) n c.args.parting)) many
