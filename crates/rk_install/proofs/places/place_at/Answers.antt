use Rattle.std.proofs.Common.{drop, refl, rules, ap, ◌∙◌}
use Rattle.std.specs.List.{list_all}
use Rattle.rk_base.specs.Text.{Text, components}
use Rattle.rk_base.specs.Canonical.{is_canonical, is_name}
use Rattle.rk_base.proofs.CanonicalLemmas.{root-canonical, join-canonical}
use Rattle.rk_folder.proofs.CallsLemmas.{makes-none}
use Rattle.rk_install.proofs.LookLemmas.{calls-last, calls-next, calls-start, calls-stop, first-named, moved-told, names-are, next-path, rest-named, told-entered, told-entered_dir, told-from_root, told-last, told-none, told-nowhere, told-root_dir, told-some}
use Rattle.rk_install.proofs.places.place_at.Goals as goal

pub names-init : goal.names-init
names-init g c =
    let text = c.below_root-names.ensures ∙ ap (λ (t : Text). drop 1 t) c.text.ensures.value in
    record {
      held = search rules;
      reads = search rules;
      memory = search rules;
      steady = search rules;
      writes = search rules;
      known = c.requires.known;
      canonical = ap is_canonical c.in_ok-dir.ensures ∙ root-canonical;
      named = ap (λ (t : Text). list_all is_name (components t)) text ∙ names-are c.args.path.now c.text.ensures.canonical c.requires.below_root;
      dir_stands = told-root_dir _ c.in_ok-dir.dir (g.met.F.Folder.whole c.args.folder.now) c.in_ok-dir.ensures;
      calls = λ now calls. calls-start c.args.path.now c.in_ok-dir.dir c.below_root-names.result.now _ now c.in_ok-dir.ensures text calls;
      place = told-from_root _ c.args.path.now c.in_ok-dir.dir c.below_root-names.result.now (g.met.F.Folder.whole c.args.folder.now) c.text.ensures.canonical c.requires.below_root c.in_ok-dir.ensures text;
    }

pub names-preserved : goal.names-preserved
names-preserved g c =
    let told = g.F.Folder.told c.args.folder.now in
    let path = next-path c.names.dir c.in-Some.name.now c.in-Some-2.next _ c.in-Some-2.is c.in_ok-enter.ensures.path in
    let entered = told-some _ told c.names.dir c.in-Some.name.now c.in-Some-2.next _ c.names.invariant.held c.in-Some-2.is c.in_ok-enter.ensures.told in
    record {
      held = search rules;
      reads = search rules;
      memory = search rules;
      steady = search rules;
      writes = search rules;
      known = c.in_ok-enter.ensures.known;
      canonical = ap is_canonical path ∙ join-canonical c.names.dir c.in-Some.name.now c.names.invariant.canonical (first-named c.in-Some.name.now c.in-Some.rest.now c.names.names.now c.in-Some.ensures.found c.names.invariant.named);
      named = rest-named c.in-Some.name.now c.in-Some.rest.now c.names.names.now c.in-Some.ensures.found c.names.invariant.named;
      dir_stands = told-entered_dir told c.names.dir c.in-Some.name.now c.in-Some-2.next path entered;
      calls = λ now calls. c.names.invariant.calls now (calls-next c.names.dir c.in-Some.name.now c.in-Some.rest.now c.names.names.now c.in-Some-2.next _ _ now c.in-Some.ensures.found path c.in_ok-enter.ensures.calls calls);
      place = told-entered told c.names.dir c.in-Some.name.now c.in-Some.rest.now c.names.names.now c.args.path.now c.in-Some-2.next c.in-Some.ensures.found path entered c.names.invariant.place;
    }

pub returns-in-None-clause-told : goal.returns-in-None-clause-told
returns-in-None-clause-told g c =
    let told = g.F.Folder.told c.args.folder.now in
    told-nowhere told c.names.dir c.in-Some.name.now c.in-Some.rest.now c.names.names.now c.args.path.now c.in-Some.ensures.found (told-none _ told c.names.dir c.in-Some.name.now _ c.names.invariant.held c.in-None.is c.in_ok-enter.ensures.told) c.names.invariant.place

pub returns-clause-told : goal.returns-clause-told
returns-clause-told g c =
    let told = g.F.Folder.told c.args.folder.now in
    told-last told c.names.dir c.names.names.now c.args.path.now c.in_ok-place.place c.in_default.ensures.alone c.names.invariant.place (moved-told _ _ told c.names.invariant.held c.in_ok-place.ensures.told)

pub returns-in-None-clause-calls : goal.returns-in-None-clause-calls
returns-in-None-clause-calls g c = c.names.invariant.calls _ (calls-stop c.names.dir c.in-Some.name.now c.in-Some.rest.now c.names.names.now _ _ c.in-Some.ensures.found c.in_ok-enter.ensures.calls)

pub returns-in_err-enter-clause-calls : goal.returns-in_err-enter-clause-calls
returns-in_err-enter-clause-calls g c = c.names.invariant.calls _ (calls-stop c.names.dir c.in-Some.name.now c.in-Some.rest.now c.names.names.now _ _ c.in-Some.ensures.found c.in_err-enter.ensures.calls)

pub returns-in_err-dir-clause-calls : goal.returns-in_err-dir-clause-calls
returns-in_err-dir-clause-calls g c = makes-none _ _ _ refl

pub returns-clause-calls : goal.returns-clause-calls
returns-clause-calls g c = c.names.invariant.calls _ (calls-last c.names.dir c.names.names.now _ _ c.in_default.ensures.alone c.in_ok-place.ensures.calls)
